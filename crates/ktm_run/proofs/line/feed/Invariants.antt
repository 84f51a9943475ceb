use Rattle.std.proofs.Common.{◌≡◌, ◌+◌, ◌≤◌, ℕ, List, ◌++◌, length, vec_capacity}
use Rattle.ktm_kernel.specs.Stands.{IsReady}
use Rattle.ktm_run.specs.Lasting.{LastsForLines}
use Rattle.ktm_run.specs.Progress.{Progress, point}
use Rattle.ktm_run.specs.Script.{kept_of, lines_from, part_from}
use Rattle.ktm_run.proofs.line.feed.Given as goal

abbrev pub invariant-loop-end : goal.invariant-loop-end
invariant-loop-end g l = record {
  -- the part that is kept now, and the lines that were done
  went : (part : List ℕ) → l.fn.kept.items ≡ kept_of part → (now : List ℕ) × (lines : List (List ℕ)) × (l.kept.items ≡ kept_of now)
      × (lines ++ lines_from now l.rest ≡ lines_from part l.bytes) × (part_from now l.rest ≡ part_from part l.bytes) × Progress
      (point l.fn.kernel (g.D.Disk.told l.fn.disk) (g.D.Disk.status l.fn.disk) (g.K.Sink.taken l.fn.sink))
      (point l.kernel (g.D.Disk.told l.disk) (g.D.Disk.status l.disk) (g.K.Sink.taken l.sink))
      lines;
  room : 140001 ≤ vec_capacity l.kept;
  ready : IsReady l.kernel (g.D.Disk.told l.disk) (g.D.Disk.status l.disk);
  lasts : (left : ℕ) → LastsForLines (length l.bytes + left) l.fn.kernel → LastsForLines (length l.rest + left) l.kernel;
  later : g.K.Sink.faults l.fn.sink ≤ g.K.Sink.faults l.sink;
}

abbrev pub decreases-loop-end : goal.decreases-loop-end
decreases-loop-end g l = length l.rest
