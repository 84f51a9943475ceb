use Rattle.ktm_forms.specs.Tells.{a_guid}
use Rattle.wattorju.proofs.machine.Machine.make.Goals as goal

pub to_guid-requires : goal.to_guid-requires
to_guid-requires g c = c.ask.ensures.told a_guid c.requires.tells

pub returns : goal.returns
returns g c = rw (c.to_guid.ensures, ← c.self.view_is) c.ask.ensures.called
