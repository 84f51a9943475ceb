use Rattle.std.proofs.Common.{◌≡◌, ◌+◌, length}
use Rattle.ktm_enlist.specs.Places.{is_own}
use Rattle.ktm_enlist.proofs.Told.{before_next, left_of, IsWalked}
use Rattle.ktm_enlist.proofs.enlistments.Enlistments.tell_group.Given as goal

abbrev pub invariant-loop-next : goal.invariant-loop-next
invariant-loop-next g l = record {
  walked : IsWalked l.t l.fn.self.enlistments l.self.enlistments l.next l.fn.managers.managers l.managers.managers l.fn.managers.spare l.managers.spare;
  room : l.self.room ≡ l.fn.self.room;
  room_for_managers : l.managers.room ≡ l.fn.managers.room;
  counted : l.steps ≡ l.fn.steps + length (before_next (is_own l.t.transaction) l.next l.fn.self.enlistments);
}

abbrev pub decreases-loop-next : goal.decreases-loop-next
decreases-loop-next g l = left_of l.next (length l.self.enlistments)
