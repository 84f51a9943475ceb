use Rattle.ktm_forms.specs.Tells.{bytes}
use Rattle.wattorju.proofs.machine.Machine.bytes.Goals as goal

pub to_bytes-requires : goal.to_bytes-requires
to_bytes-requires g c = c.ask.ensures.told bytes c.requires.tells

pub returns : goal.returns
returns g c = rw (c.to_bytes.ensures, ← c.self.view_is) c.ask.ensures.called
