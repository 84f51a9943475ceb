use Rattle.std.proofs.Common.{◌≡◌, drop}
use Rattle.ktm_owners.specs.Owners.{AreNamedByPart}
use Rattle.ktm_owners.proofs.offered.Turns.{AreNamedSoFar}
use Rattle.ktm_restart.proofs.naming.name_parts.Given as goal

abbrev pub invariant-loop-p : goal.invariant-loop-p
invariant-loop-p l = record {
  named : AreNamedSoFar AreNamedByPart l.parts (drop l.p-index l.parts) l.initial.owners.named l.owners.named;
  owners : l.owners.owners ≡ l.initial.owners.owners;
}
