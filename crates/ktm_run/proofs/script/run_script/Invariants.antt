use Rattle.std.proofs.Common.{◌≡◌, ◌+◌, ◌≤◌, ℕ, List, [], length, vec_capacity}
use Rattle.std.specs.Io.KnownBytes.{Consumes}
use Rattle.ktm_base.specs.declared.limits.TheConstants.{MOST_SCRIPT_BYTES}
use Rattle.ktm_kernel.specs.Stands.{IsReady}
use Rattle.ktm_run.specs.Lasting.{LastsForLines}
use Rattle.ktm_run.specs.Progress.{Progress, point}
use Rattle.ktm_run.specs.Script.{kept_of, lines_from, part_from}
use Rattle.ktm_run.proofs.script.run_script.Given as goal

abbrev pub invariant-pieces : goal.invariant-pieces
invariant-pieces g l = record {
  went : (script : List ℕ) × Consumes (g.S.Source.left l.fn.source) (g.S.Source.left l.source) script
      × (length script + l.left ≡ MOST_SCRIPT_BYTES) × (l.kept.items ≡ kept_of (part_from [] script)) × Progress
      (point l.fn.kernel (g.D.Disk.told l.fn.disk) (g.D.Disk.status l.fn.disk) (g.K.Sink.taken l.fn.sink))
      (point l.kernel (g.D.Disk.told l.disk) (g.D.Disk.status l.disk) (g.K.Sink.taken l.sink))
      (lines_from [] script);
  room : 140001 ≤ vec_capacity l.kept;
  ready : IsReady l.kernel (g.D.Disk.told l.disk) (g.D.Disk.status l.disk);
  lasts : LastsForLines (l.left + 1) l.kernel;
  bound : l.left ≤ MOST_SCRIPT_BYTES;
  source_later : g.S.Source.faults l.fn.source ≤ g.S.Source.faults l.source;
  sink_later : g.K.Sink.faults l.fn.sink ≤ g.K.Sink.faults l.sink;
}

abbrev pub decreases-pieces : goal.decreases-pieces
decreases-pieces g l = l.left
