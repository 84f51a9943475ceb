use Rattle.ktm_forms.specs.Tells.{keys}
use Rattle.wattorju.proofs.machine.Machine.keys.Goals as goal

pub to_keys-requires : goal.to_keys-requires
to_keys-requires g c = c.ask.ensures.told keys c.requires.tells

pub returns : goal.returns
returns g c = rw (c.to_keys.ensures, ← c.self.view_is) c.ask.ensures.called
