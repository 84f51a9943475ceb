use Rattle.std.proofs.Common.{◌+◌, ◌≤◌, take}
use Rattle.ktm_store.specs.Change.{frames_from, unit_of}
use Rattle.ktm_store.specs.Filling.{AreWhole, TookUnits, pool_of}
use Rattle.ktm_store.specs.Pool.{AreSomewhere}
use Rattle.ktm_store.proofs.units.take_units.Given as goal

abbrev pub invariant-loop-i : goal.invariant-loop-i
invariant-loop-i l = record {
  took : TookUnits (unit_of l.change) l.first (take l.i l.pages) (pool_of l.initial.frames l.initial.marks l.initial.stored) (pool_of l.frames l.marks l.stored);
  whole : AreWhole (pool_of l.frames l.marks l.stored);
  some : AreSomewhere (pool_of l.frames l.marks l.stored);
  spare : frames_from l.change (l.first + l.i) ≤ l.frames.spare;
}
