use Rattle.std.proofs.Common.{◌≡◌, ◌+◌, ◌≤◌, ◌++◌, drop, length, map}
use Rattle.ktm_trace.specs.Joined.{mark_of}
use Rattle.ktm_trace.proofs.marks.Marks.add.Given as goal

-- with the parts that are left, all are put behind the others
abbrev pub invariant-loop-part : goal.invariant-loop-part
invariant-loop-part l = record {
  marks : l.self.marks ++ map (mark_of l.transaction) (drop l.part-index l.parts) ≡ l.initial.self.marks ++ map (mark_of l.transaction) l.parts;
  fits : length l.self.marks + length (drop l.part-index l.parts) ≤ l.self.capacity;
  capacity : l.self.capacity ≡ l.initial.self.capacity;
}
