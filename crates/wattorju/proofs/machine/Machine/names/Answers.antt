use Rattle.ktm_forms.specs.Tells.{names}
use Rattle.wattorju.proofs.machine.Machine.names.Goals as goal

pub to_names-requires : goal.to_names-requires
to_names-requires g c = c.ask.ensures.told names c.requires.tells

pub returns : goal.returns
returns g c = rw (c.to_names.ensures, ← c.self.view_is) c.ask.ensures.called
