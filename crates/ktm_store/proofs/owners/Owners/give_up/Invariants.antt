use Rattle.ktm_store.specs.Frames.{GaveUp}
use Rattle.ktm_store.proofs.owners.Owners.give_up.Given as goal

abbrev pub invariant-loop : goal.invariant-loop
invariant-loop l = GaveUp l.stored l.initial.self l.self
