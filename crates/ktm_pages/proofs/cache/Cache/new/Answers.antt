use Rattle.std.proofs.Common.{arith}
use Rattle.ktm_pages.proofs.Slots.{slots-free}
use Rattle.ktm_pages.proofs.cache.Cache.new.Goals as goal

pub invariant_of-result : goal.invariant_of-result
invariant_of-result c = rw c.in_ok-slots.ensures (let long = c.in_ok-bytes.ensures.len in slots-free c.in_ok-bytes.bytes.items (omega (arith, long)))
