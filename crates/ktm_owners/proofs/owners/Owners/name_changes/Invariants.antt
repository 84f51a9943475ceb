use Rattle.std.proofs.Common.{◌≡◌, drop}
use Rattle.ktm_owners.specs.Owners.{AreNamedBy}
use Rattle.ktm_owners.proofs.offered.Turns.{AreNamedSoFar}
use Rattle.ktm_owners.proofs.owners.Owners.name_changes.Given as goal

abbrev pub invariant-loop-change : goal.invariant-loop-change
invariant-loop-change l = record {
  named : AreNamedSoFar AreNamedBy l.changes (drop l.change-index l.changes) l.initial.self.named l.self.named;
  owners : l.self.owners ≡ l.initial.self.owners;
}
