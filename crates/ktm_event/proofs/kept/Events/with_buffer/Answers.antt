use Rattle.std.proofs.Common.{◌≤◌, length, ap, arith}
use Rattle.ktm_event.proofs.KeptLemmas.{kept_none, holds_none}
use Rattle.ktm_event.proofs.kept.Events.with_buffer.Goals as goal

module _ (c : goal.After-close) where
  few : length c.extend_from_slice.new.self.items ≤ 8
  few = omega (arith, ap length (rw (c.unwrap.ensures, c.clear.ensures.items) at c.extend_from_slice.ensures.items))

pub invariant_of-result : goal.invariant_of-result
invariant_of-result c =
    kept_none c.extend_from_slice.new.self.items _ (few c) c.close.ensures.items _ _
    (omega (arith, c.close.ensures.room, c.extend_from_slice.ensures.capacity, c.clear.ensures.capacity, c.requires.reserved)) c.requires.few

pub returns-clause-empty : goal.returns-clause-empty
returns-clause-empty c = holds_none c.extend_from_slice.new.self.items _ (few c) c.close.ensures.items _ _
