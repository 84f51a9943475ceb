-- The own changes of transactions, where one of them has others from now on.
use Rattle.std.proofs.Common.{◌≡◌, ℕ, ◌+◌, true, false, List, [], ◌∷◌, sum_by, refl, sym, subst, arith, inl, inr}
use Rattle.std.proofs.lemmas.Bool.{cases_Bool, and_parts, not-true, true≢false}
use Rattle.std.proofs.lemmas.List.Sums.{sum_by-cons}
use Rattle.std.specs.List.{list_all, list_any}
use Rattle.ktm_base.specs.declared.id.Id.{Id}
use Rattle.ktm_world.specs.declared.change.Change.{Change}
use Rattle.ktm_world.specs.Files.{OwnChanges, own_changes, with_own_changes}
use Rattle.ktm_world.specs.Transactions.{same_id}
use Rattle.txf_laws.specs.SoundFiles.{changed_by_two}
use Rattle.txf_laws.specs.Elements.{IsIn, each_pair}
use Rattle.txf_laws.proofs.offered.Elements.{list_all-at}
use Rattle.txf_laws.proofs.offered.Sums.{sum-same}
use Rattle.txf_laws.proofs.offered.Tables.{same_id-equal, same_id-from, same_id-sym}

-- ---- the changes of each

pub own_changes-new : (own : List OwnChanges) (id : Id) (new : List Change) → own_changes (with_own_changes own id new) id ≡ new
own_changes-new [] id new = rw (same_id-from id id refl) refl
own_changes-new (o ∷ os) id new = elim (cases_Bool (same_id o.transaction id)) [
  | inl same ↦ rw (same, same) refl
  | inr other ↦ rw (other, other) (own_changes-new os id new)
]

pub own_changes-other : (own : List OwnChanges) (id other : Id) (new : List Change) → same_id id other ≡ false → own_changes (with_own_changes own id new) other ≡ own_changes own other
own_changes-other [] id other new apart = rw apart refl
own_changes-other (o ∷ os) id other new apart = elim (cases_Bool (same_id o.transaction id)) [
  | inl same ↦
      let differs : same_id o.transaction other ≡ false = subst (λ i. same_id i other ≡ false) (sym (same_id-equal o.transaction id same)) apart in
      rw (same, differs) refl
  | inr not_it ↦ elim (cases_Bool (same_id o.transaction other)) [
    | inl here ↦ rw (not_it, here) refl
    | inr later ↦ rw (not_it, later) (own_changes-other os id other new apart)
  ]
]

pub own_changes-none : (own : List OwnChanges) (id : Id) → list_any (λ o. same_id o.transaction id) own ≡ false → own_changes own id ≡ []
own_changes-none [] id none = refl
own_changes-none (o ∷ os) id none = elim (cases_Bool (same_id o.transaction id)) [
  | inl same ↦ absurd (true≢false (rw same at none))
  | inr other ↦ rw other (own_changes-none os id (rw other at none))
]

-- ---- sums over them

-- a sum over the entries, where that of the transaction counted so much before
pub sum-with_own : (old new : OwnChanges → ℕ) (own : List OwnChanges) (id : Id) (changes : List Change) (was : ℕ) → each_pair changed_by_two own ≡ true
    → ((o : OwnChanges) → IsIn o own → same_id o.transaction id ≡ false → new o ≡ old o)
    → ((o : OwnChanges) → IsIn o own → same_id o.transaction id ≡ true → old o ≡ was)
    → (list_any (λ o. same_id o.transaction id) own ≡ false → was ≡ 0)
    → sum_by new (with_own_changes own id changes) + was ≡ sum_by old own + new (record { transaction = id; changes = changes })
sum-with_own old new [] id changes was once others its none = let zero = none refl in let one = sum_by-cons new (record { transaction = id; changes = changes }) [] in omega arith
sum-with_own old new (o ∷ os) id changes was once others its none =
    let parts = and_parts (list_all (changed_by_two o) os) (each_pair changed_by_two os) once in
    let all = sum_by-cons old o os in
    elim (cases_Bool (same_id o.transaction id)) [
      | inl same ↦
          let e = same_id-equal o.transaction id same in
          let rest : sum_by new os ≡ sum_by old os = sum-same new old os (λ p there. others p (inr there) (same_id-sym id p.transaction (subst (λ i. same_id i p.transaction ≡ false) e (not-true _ (list_all-at (changed_by_two o) os parts.0 p there))))) in
          let first = sum_by-cons new (record o { changes = changes }) os in
          let it : new (record o { changes = changes }) ≡ new (record { transaction = id; changes = changes }) = λ i. new (record { transaction = e i; changes = changes }) in
          let gone = its o (inl refl) same in
          rw same (omega arith)
      | inr other ↦
          let rest = sum-with_own old new os id changes was parts.1 (λ p there. others p (inr there)) (λ p there. its p (inr there)) (λ no. none (rw other no)) in
          let first = sum_by-cons new o (with_own_changes os id changes) in
          let it = others o (inl refl) other in
          rw other (omega arith)
    ]
