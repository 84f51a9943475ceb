use Rattle.std.proofs.Common.{◌≡◌, drop}
use Rattle.ktm_owners.specs.Owners.{AreNamedByParts}
use Rattle.ktm_owners.proofs.offered.Turns.{AreNamedSoFar}
use Rattle.ktm_restart.proofs.naming.name_works.Given as goal

abbrev pub invariant-loop-transaction : goal.invariant-loop-transaction
invariant-loop-transaction l = record {
  named : AreNamedSoFar AreNamedByParts l.transactions (drop l.transaction-index l.transactions) l.initial.owners.named l.owners.named;
  owners : l.owners.owners ≡ l.initial.owners.owners;
}
