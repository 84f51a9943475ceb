use Rattle.std.proofs.Common.{◌≡◌, drop}
use Rattle.ktm_saved.proofs.EachOther.{of_parts}
use Rattle.ktm_saved.proofs.enlisted.are_parts_apart.Given as goal
use Rattle.txf_laws.proofs.offered.GoodTransactions.{differ}
use Rattle.txf_laws.specs.Elements.{each_pair}

abbrev pub invariant-loop-index : goal.invariant-loop-index
invariant-loop-index l = each_pair differ (of_parts (drop l.index l.parts)) ≡ each_pair differ (of_parts l.parts)
