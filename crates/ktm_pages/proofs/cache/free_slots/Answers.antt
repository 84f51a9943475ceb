use Rattle.std.proofs.Common.{◌∙◌}
use Rattle.ktm_pages.proofs.Slots.{put-free}
use Rattle.ktm_pages.proofs.cache.free_slots.Goals as goal

pub loop-slot-preserved : goal.loop-slot-preserved
loop-slot-preserved c = c.in_default.ensures.entries ∙ put-free c.loop-slot.slots c.loop-slot.slot c.loop-slot-test.true c.loop-slot.invariant
