use Rattle.std.proofs.Common.{◌≡◌, ◌+◌, length}
use Rattle.ktm_names.specs.Walking.{matches_some_end}
use Rattle.ktm_names.proofs.wildcard.matches_some_end.Given as goal

abbrev pub invariant-ends : goal.invariant-ends
invariant-ends l = matches_some_end l.pattern l.name ≡ matches_some_end l.fn.pattern l.fn.name

abbrev pub decreases-ends : goal.decreases-ends
decreases-ends l = length l.pattern + length l.name
