use Rattle.std.proofs.Common.{◌≡◌, length}
use Rattle.ktm_trace.specs.Joined.{parts_at}
use Rattle.ktm_trace.proofs.parts.Parts.next.Given as goal

-- no part of the transaction was passed over
abbrev pub invariant-loop-self : goal.invariant-loop-self
invariant-loop-self l = parts_at l.self-inside.marks.now l.self-inside.transaction ≡ parts_at l.initial.self-inside.marks.now l.initial.self-inside.transaction

abbrev pub decreases-loop-self : goal.decreases-loop-self
decreases-loop-self l = length l.self-inside.marks.now
