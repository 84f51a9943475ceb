use Rattle.std.proofs.Common.{◌≡◌, ◌++◌, drop, take}
use Rattle.ktm_names.specs.Leading.{lead}
use Rattle.ktm_names.proofs.lead.lead.Given as goal

abbrev pub invariant-loop-index : goal.invariant-loop-index
invariant-loop-index l = take l.index l.pattern ++ lead (drop l.index l.pattern) ≡ lead l.pattern
