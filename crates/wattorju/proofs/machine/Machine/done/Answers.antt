use Rattle.ktm_forms.specs.Tells.{nothing}
use Rattle.wattorju.proofs.machine.Machine.done.Goals as goal

pub to_done-requires : goal.to_done-requires
to_done-requires g c = c.ask.ensures.told nothing c.requires.tells

pub returns : goal.returns
returns g c = rw (c.to_done.ensures, ← c.self.view_is) c.ask.ensures.called
