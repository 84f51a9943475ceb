use Rattle.ktm_forms.specs.Tells.{bytes}
use Rattle.wattorju.proofs.machine.Machine.value.Goals as goal

pub to_value-requires : goal.to_value-requires
to_value-requires g c = c.ask.ensures.told bytes c.requires.tells

pub returns : goal.returns
returns g c = rw (c.to_value.ensures, ← c.self.view_is) c.ask.ensures.called
