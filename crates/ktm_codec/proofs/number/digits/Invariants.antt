use Rattle.std.proofs.Common.{◌≡◌, ◌≤◌, drop}
use Rattle.ktm_codec.specs.Number.{digits_at}
use Rattle.ktm_codec.proofs.number.digits.Given as goal

abbrev pub invariant-loop-index : goal.invariant-loop-index
invariant-loop-index l = record {
  same : digits_at l.most l.value (drop l.index l.text) ≡ digits_at l.most 0 l.text;
  within : l.value ≤ l.most;
}
