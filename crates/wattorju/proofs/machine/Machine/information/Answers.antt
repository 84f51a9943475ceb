use Rattle.ktm_forms.specs.Tells.{a_transaction}
use Rattle.wattorju.proofs.machine.Machine.information.Goals as goal

pub to_information-requires : goal.to_information-requires
to_information-requires g c = c.complete.ensures.told a_transaction c.requires.tells

pub returns : goal.returns
returns g c = rw (c.to_information.ensures, ← c.self.view_is) c.complete.ensures.completed
