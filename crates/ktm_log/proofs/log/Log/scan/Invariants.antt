use Rattle.std.proofs.Common.{◌≡◌, ◌+◌, ◌-◌, ◌<◌, ◌≤◌, false, length}
use Rattle.std.specs.Vec.{vec_capacity}
use Rattle.ktm_log.specs.Load.{EndFrames, Holds, Loads, pieces}
use Rattle.ktm_log.proofs.log.Log.scan.Given as goal

abbrev pub invariant-loop-size : goal.invariant-loop-size
invariant-loop-size g l = record {
  same : g.D.Disk.told l.disk ≡ g.D.Disk.told l.initial.disk;
  room : l.area.len ≤ vec_capacity l.buffer;
  kept : vec_capacity l.fn.buffer ≤ vec_capacity l.buffer;
  holds : Holds l.area (g.D.Disk.told l.disk) (g.D.Disk.status l.disk).is_down l.buffer.items;
  loads : Loads l.area 0 (length l.buffer.items) (g.D.Disk.status l.initial.disk) (g.D.Disk.status l.disk) false;
  few : pieces (length l.buffer.items) ≤ pieces (l.end + 1);
  inside : l.end < l.area.len;
  frames : EndFrames l.end l.buffer.items;
}

abbrev pub decreases-loop-size : goal.decreases-loop-size
decreases-loop-size g l = l.area.len - l.end
