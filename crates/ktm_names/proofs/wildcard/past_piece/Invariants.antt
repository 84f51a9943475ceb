use Rattle.std.proofs.Common.{◌≡◌, ◌≤◌, length, drop}
use Rattle.ktm_names.specs.Walking.{past_piece}
use Rattle.ktm_names.proofs.wildcard.past_piece.Given as goal

abbrev pub invariant-loop-index : goal.invariant-loop-index
invariant-loop-index l = record {
  same : past_piece (drop l.index l.pattern) (drop l.index l.name) ≡ past_piece l.pattern l.name;
  within : l.index ≤ length l.name;
}
