use Rattle.std.proofs.Common.{◌≡◌, ◌≤◌, ℕ, List, false, length}
use Rattle.ktm_base.specs.declared.id.Id.{Id}
use Rattle.ktm_world.specs.Transactions.{same_id}
use Rattle.txf_reserve.specs.HeldPairs.{has_pair}
use Rattle.txf_reserve.proofs.pairs.Pairs.remove_all.Given as goal

abbrev pub invariant-loop-transaction : goal.invariant-loop-transaction
invariant-loop-transaction g l = record {
  others : (k : List ℕ) (id : Id) → same_id id l.transaction ≡ false → has_pair l.self.pairs k id ≡ has_pair l.fn.self.pairs k id;
  spare : l.fn.self.spare ≤ l.self.spare;
}

abbrev pub decreases-loop-transaction : goal.decreases-loop-transaction
decreases-loop-transaction g l = length l.self.pairs
