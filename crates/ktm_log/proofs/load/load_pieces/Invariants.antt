use Rattle.std.proofs.Common.{◌-◌, ◌≤◌, max, length}
use Rattle.ktm_log.specs.Load.{ReadOn, pieces}
use Rattle.ktm_log.specs.OnDisk.{on}
use Rattle.ktm_log.proofs.load.load_pieces.Given as goal

abbrev pub invariant-loop-area : goal.invariant-loop-area
invariant-loop-area g l = record {
  read : ReadOn l.area (on l.initial.read (g.D.Disk.told l.initial.disk) (g.D.Disk.status l.initial.disk)) (on l.read (g.D.Disk.told l.disk) (g.D.Disk.status l.disk));
  few : pieces (length l.read.items) ≤ max (pieces (length l.initial.read.items)) (pieces l.upto);
}

abbrev pub decreases-loop-area : goal.decreases-loop-area
decreases-loop-area g l = l.area.len - length l.read.items
