use Rattle.std.proofs.Common.{◌≡◌}
use Rattle.ktm_pages.specs.Slots.{slot_of}
use Rattle.ktm_pages.proofs.cache.slot_of.Given as goal

abbrev pub invariant-loop-slot : goal.invariant-loop-slot
invariant-loop-slot l = slot_of l.page l.slots.entries ≡ slot_of l.page l.slot-iterator
