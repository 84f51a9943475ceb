use Rattle.ktm_forms.specs.Tells.{a_size}
use Rattle.wattorju.proofs.machine.Machine.size.Goals as goal

pub to_size-requires : goal.to_size-requires
to_size-requires g c = c.ask.ensures.told a_size c.requires.tells

pub returns : goal.returns
returns g c = rw (c.to_size.ensures, ← c.self.view_is) c.ask.ensures.called
