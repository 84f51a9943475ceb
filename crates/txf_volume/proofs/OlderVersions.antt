-- The older versions that were first opened: how many units they have, where first opens end, and where versions become older.
use Rattle.std.proofs.Common.{◌≡◌, ◌+◌, ◌&&◌, ◌||◌, not, Bool, true, false, cond, List, [], ◌∷◌, ◌++◌, sum_by, refl, ◌∙◌, inl, inr}
use Rattle.std.proofs.lemmas.Bool.{cases_Bool}
use Rattle.std.specs.List.{list_any}
use Rattle.ktm_world.specs.Files.{FirstOpen}
use Rattle.ktm_world.specs.FileUses.{same_version}
use Rattle.txf_laws.specs.Elements.{IsIn}
use Rattle.txf_laws.proofs.offered.OlderVersions.{list_any-alike, older_by, older_units, version_units, but_not, without-one}

pub older-alike : (old new : FirstOpen → Bool) (os : List FirstOpen) → ((o : FirstOpen) → IsIn o os → old o ≡ new o) → older_by old os ≡ older_by new os
older-alike old new [] same = refl
older-alike old new (o ∷ os) same =
    let rest = older-alike old new os (λ p there. same p (inr there)) in
    λ i. cond (same o (inl refl) i && not (list_any (same_version o) (rest i))) (o ∷ []) [] ++ rest i

-- it has the units of its bytes more, where some first open is of it
pub older-more : (old new : FirstOpen → Bool) (k : FirstOpen) (os : List FirstOpen) → ((o : FirstOpen) → IsIn o os → new o ≡ (old o || same_version k o))
    → ((o : FirstOpen) → IsIn o os → same_version k o ≡ true → (old o ≡ false) × (version_units o ≡ version_units k))
    → older_units new os ≡ older_units old os + cond (list_any (same_version k) os) (version_units k) 0
older-more old new k os grows of_it =
    without-one new os k (λ o there same. (of_it o there same).1)
    ∙ (λ i. sum_by version_units (older-alike (but_not new k) old os but i) + cond (list_any-alike (λ o. new o && same_version k o) (same_version k) os has i) (version_units k) 0)
  where
    but : (o : FirstOpen) → IsIn o os → but_not new k o ≡ old o
    but o there = elim (cases_Bool (same_version k o)) [
      | inl same ↦ rw (grows o there, same, (of_it o there same).0) refl
      | inr other ↦ rw (grows o there, other) (plain (old o))
    ]
      where
        plain : (b : Bool) → ((b || false) && true) ≡ b
        plain true = refl
        plain false = refl

    has : (o : FirstOpen) → IsIn o os → (new o && same_version k o) ≡ same_version k o
    has o there = elim (cases_Bool (same_version k o)) [
      | inl same ↦ rw (grows o there, same) (either (old o))
      | inr other ↦ rw (grows o there, other) (none (old o || false))
    ]
      where
        either : (b : Bool) → ((b || true) && true) ≡ true
        either true = refl
        either false = refl

        none : (b : Bool) → (b && false) ≡ false
        none true = refl
        none false = refl
