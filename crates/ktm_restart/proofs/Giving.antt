-- Pages that are given one after another.
use Rattle.std.specs.Prelude.{Result, Ok}
use Rattle.std.proofs.Common.{◌≡◌, ℕ, ◌+◌, ◌<◌, ◌≤◌, Bool, true, false, List, ◌∷◌, Option, Some, None, length, get_or, drop, slice_set, refl, sym, ◌∙◌, ap, subst}
use Rattle.std.proofs.lemmas.Bool.{true≢false}
use Rattle.std.proofs.lemmas.List.{length-set}
use Rattle.std.proofs.lemmas.List.Elements.{All-head, All-tail}
use Rattle.ktm_owners.specs.declared.owners.Named.{Named}
use Rattle.ktm_owners.specs.declared.owners.Owner.{Owner}
use Rattle.ktm_owners.specs.Owners.{AreNamedByState, AreOwnersOf, AreThere, LeavesGiven, all_given, may_give}
use Rattle.ktm_owners.proofs.offered.Events.{given-length}
use Rattle.ktm_owners.proofs.offered.States.{state-known, state-shared}
use Rattle.ktm_owners.proofs.offered.Turns.{rest-at, rest-past}
use Rattle.ktm_paged.specs.Paged.{IsApart, LieBelow}
use Rattle.txf_laws.specs.GoodState.{IsGoodState}
use Rattle.ktm_world.specs.Durable.{Durable}

-- so many names were given, and those that are left come to what all come to
pub record GivenSoFar (s : Durable) (old : List Owner) (names : List Named) (at : ℕ) (owners : List Owner) : Type 0 where
  pub left : all_given s owners (drop at names) ≡ all_given s old names
  pub there : AreThere (length owners) (drop at names)

module _ (s : Durable) (old : List Owner) (names : List Named) where
  pub none-given : AreThere (length old) names → GivenSoFar s old names 0 old
  none-given there = record { left = refl; there = there }

  module _ (at : ℕ) (owners : List Owner) (so : GivenSoFar s old names at owners) where
    module _ (name : Named) (low : at < length names) (is : name ≡ get_or names at name) where
      there-now : AreThere (length owners) (name ∷ drop (at + 1) names)
      there-now = subst (AreThere (length owners)) (rest-at names at name low is) so.there

      pub next-there : name.page < length owners
      next-there = All-head (λ (n : Named). n.page < length owners) name (drop (at + 1) names) there-now

      left-now : all_given s owners (name ∷ drop (at + 1) names) ≡ all_given s old names
      left-now = ap (all_given s owners) (sym (rest-at names at name low is)) ∙ so.left

      pub one-given : may_give s owners name ≡ true → GivenSoFar s old names (at + 1) (slice_set owners name.page name.owner)
      one-given may = record {
        left = rw may at left-now;
        there = subst (λ n. AreThere n (drop (at + 1) names)) (sym (length-set owners name.page name.owner)) (All-tail (λ (n : Named). n.page < length owners) name (drop (at + 1) names) there-now);
      }

      pub one-refused : may_give s owners name ≡ false → all_given s old names ≡ None
      one-refused may = sym (rw may at left-now)

    pub all-are-given : length names ≤ at → all_given s old names ≡ Some owners
    all-are-given past = sym so.left ∙ ap (all_given s owners) (rest-past names at past)

-- what was given, where the answer is true, and where it is false
pub given-true : (given : Option (List Owner)) (owners : List Owner) (b : Bool) → LeavesGiven given owners b → b ≡ true → given ≡ Some owners
given-true given owners true leaves is = leaves
given-true given owners false leaves is = absurd (true≢false (sym is))

pub given-false : (given : Option (List Owner)) (owners : List Owner) (b : Bool) → LeavesGiven given owners b → b ≡ false → given ≡ None
given-false given owners true leaves is = absurd (true≢false is)
given-false given owners false leaves is = leaves

-- an answer that went well is what it is
pub ok-same : {E : Type 0} (a b : Bool) → ◌≡◌ {A = Result Bool E} (Ok a) (Ok b) → a ≡ b
ok-same a b is = cc

-- all pages of a good state were given, or one was refused
module _ (s : Durable) (good : IsGoodState s) (old : List Owner) (below : LieBelow (length old) s) (names : List Named) (named : AreNamedByState s names) (owners : List Owner) (b : Bool) (leaves : LeavesGiven (all_given s old names) owners b) where
  pub state-many : b ≡ true → length owners ≡ length old
  state-many is = given-length s old names owners (given-true (all_given s old names) owners b leaves is)

  pub state-read : b ≡ true → AreOwnersOf owners s
  state-read is = state-known (length old) s good below old names named owners refl (given-true (all_given s old names) owners b leaves is)

  pub state-refused : b ≡ false → ¬ IsApart s
  state-refused is = state-shared (length old) s good below old names named (given-false (all_given s old names) owners b leaves is)
