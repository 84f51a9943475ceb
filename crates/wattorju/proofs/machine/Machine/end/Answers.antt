use Rattle.ktm_forms.specs.Tells.{nothing}
use Rattle.wattorju.proofs.machine.Machine.end.Goals as goal

pub to_ended-requires : goal.to_ended-requires
to_ended-requires g c = c.complete.ensures.told nothing c.requires.tells

pub returns : goal.returns
returns g c = rw (c.to_ended.ensures, ← c.self.view_is) c.complete.ensures.completed
