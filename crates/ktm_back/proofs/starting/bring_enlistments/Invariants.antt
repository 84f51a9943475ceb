use Rattle.std.proofs.Common.{◌≡◌, ◌+◌, ◌*◌, ◌≤◌, ◌++◌, length}
use Rattle.std.specs.Vec.Iter.{into_iter_items}
use Rattle.ktm_back.proofs.starting.bring_enlistments.Given as goal

-- those that came are there, with room for five notifications of each
abbrev pub invariant-loop-e : goal.invariant-loop-e
invariant-loop-e l = record {
  rest : l.yielded ++ into_iter_items l.e-iterator ≡ l.fn.enlistments.items;
  now : l.tm.now ≡ record (l.initial.tm.now) { enlistments = l.yielded };
  boot : l.tm.boot ≡ l.initial.tm.boot;
  managers : l.tm.managers ≡ l.initial.tm.managers;
  slots : l.initial.tm.slots + 5 * length l.yielded ≤ l.tm.slots;
}
