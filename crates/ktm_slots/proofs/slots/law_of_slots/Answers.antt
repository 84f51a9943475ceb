use Rattle.ktm_slots.proofs.SlotCommands.{slots_law}
use Rattle.ktm_slots.proofs.slots.law_of_slots.Goals as goal

pub returns : goal.returns
returns c = slots_law
