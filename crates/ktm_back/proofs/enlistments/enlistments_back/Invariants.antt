use Rattle.std.proofs.Common.{◌≡◌, [], ◌∷◌, drop}
use Rattle.std.specs.List.{flat_map}
use Rattle.ktm_world.specs.Durable.{Recorded}
use Rattle.ktm_back.specs.Coming.{enlistments_coming, with_all}
use Rattle.ktm_back.proofs.enlistments.enlistments_back.Given as goal

-- those of the transactions from here on are at their places
abbrev pub invariant-loop-i : goal.invariant-loop-i
invariant-loop-i l = l.enlistments.items ≡ with_all [] (flat_map (λ (t : Recorded). enlistments_coming (t ∷ [])) (drop l.i l.transactions))
