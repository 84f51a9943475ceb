use Rattle.std.proofs.Common.{◌≡◌, ◌≤◌, drop, fold, length}
use Rattle.ktm_world.specs.Committed.{written_after, written_files}
use Rattle.txf_durable.proofs.written.gather_written.Given as goal

abbrev pub invariant-loop-change : goal.invariant-loop-change
invariant-loop-change l = record {
  files : fold written_after l.files.numbers (drop l.change-index l.changes) ≡ written_files l.changes;
  few : length l.files.numbers ≤ l.change-index;
  room : l.files.room ≡ l.fn.files.room;
}
