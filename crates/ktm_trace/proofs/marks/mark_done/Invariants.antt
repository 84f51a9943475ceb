use Rattle.std.proofs.Common.{◌≡◌, ◌++◌, drop, map, take}
use Rattle.ktm_trace.proofs.Joining.{done_of}
use Rattle.ktm_trace.proofs.marks.mark_done.Given as goal

abbrev pub invariant-loop-m : goal.invariant-loop-m
invariant-loop-m l = l.marks ≡ map (done_of l.transaction l.done) (take l.m-index l.fn.marks) ++ drop l.m-index l.fn.marks
