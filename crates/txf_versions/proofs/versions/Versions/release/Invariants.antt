use Rattle.std.proofs.Common.{◌≡◌, ◌≤◌, length, filter}
use Rattle.txf_versions.specs.VersionsState.{is_held, without_transaction}
use Rattle.txf_versions.proofs.versions.Versions.release.Given as goal

abbrev pub invariant-loop-transaction : goal.invariant-loop-transaction
invariant-loop-transaction l = record {
  others : without_transaction l.self.opens l.transaction ≡ without_transaction l.fn.self.opens l.transaction;
  older : filter (is_held l.self.opens) l.self.older ≡ filter (is_held l.self.opens) l.fn.self.older;
  spare : l.fn.self.spare ≤ l.self.spare;
}

abbrev pub decreases-loop-transaction : goal.decreases-loop-transaction
decreases-loop-transaction l = length l.self.opens
