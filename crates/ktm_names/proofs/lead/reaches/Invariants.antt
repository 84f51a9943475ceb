use Rattle.std.proofs.Common.{◌≡◌, ◌≤◌, length, drop}
use Rattle.ktm_names.specs.Leading.{reaches}
use Rattle.ktm_names.proofs.lead.reaches.Given as goal

abbrev pub invariant-loop-index : goal.invariant-loop-index
invariant-loop-index l = record {
  same : reaches (drop l.index l.pattern) (drop l.index l.name) ≡ reaches l.pattern l.name;
  within : l.index ≤ length l.name;
}
