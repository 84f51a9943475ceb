use Rattle.std.proofs.Common.{◌≡◌}
use Rattle.ktm_restart.proofs.Giving.{GivenSoFar}
use Rattle.ktm_restart.proofs.reading.give_named.Given as goal

abbrev pub invariant-loop-at : goal.invariant-loop-at
invariant-loop-at l = record {
  given : GivenSoFar l.replayed.state l.initial.owners.owners l.initial.owners.named l.at l.owners.owners;
  named : l.owners.named ≡ l.initial.owners.named;
}
