-- Where transactions and managers stand among those by rising Id.
use Rattle.std.proofs.Common.{◌≡◌, ℕ, suc, ◌+◌, ◌<◌, not, Bool, false, List, [], ◌∷◌, Some, None, length, get_or, refl, sym, ◌∙◌, ap, arith, inl, inr}
use Rattle.std.specs.Prelude.{nat_lt, slice_get}
use Rattle.std.specs.List.{insert, position, position_or_len, prefix_len, remove}
use Rattle.std.specs.Option.{unwrap_or}
use Rattle.std.proofs.lemmas.Bool.{cases_Bool, false_from_ne_true, ltb-false, ltb-true}
use Rattle.std.proofs.lemmas.List.Folds.{find_at}
use Rattle.std.proofs.lemmas.List.Sums.{prefix_len-le-length}
use Rattle.std.proofs.lemmas.Option.{none-some, same_Some, slice_get-get_or, slice_get_past}
use Rattle.ktm_base.specs.declared.id.Id.{Id}
use Rattle.ktm_world.specs.Durable.{Recorded, is_before, recorded_at, with_manager, with_recorded, without_recorded}
use Rattle.ktm_world.specs.Transactions.{same_id}
use Rattle.txf_laws.specs.Elements.{IsIn}
use Rattle.txf_laws.proofs.offered.Tables.{Rises, before_other, rises-first, rises-rest, same_id-equal}

-- the index of the first that passes, or behind all
pub first-at : {X : Type 0} (p : X → Bool) (xs : List X) → unwrap_or (position p xs) (length xs) ≡ position_or_len p xs
first-at p xs = elim (cases_Bool (nat_lt (prefix_len (λ x. not (p x)) xs) (length xs))) [
  | inl within ↦ rw within refl
  | inr past ↦ rw past (omega (arith, ltb-false _ _ past, prefix_len-le-length (λ x. not (p x)) xs))
]

pub first-found : {X : Type 0} (p : X → Bool) (xs : List X) (i : ℕ) → Some i ≡ position p xs → (i ≡ position_or_len p xs) × (position_or_len p xs < length xs)
first-found p xs i found = elim (cases_Bool (nat_lt (prefix_len (λ x. not (p x)) xs) (length xs))) [
  | inl within ↦ (same_Some _ _ (rw within at found), ltb-true _ _ within)
  | inr past ↦ absurd (none-some i (sym (rw past at found)))
]

pub first-none : {X : Type 0} (p : X → Bool) (xs : List X) → None ≡ position p xs → length xs ≡ position_or_len p xs
first-none p xs none = elim (cases_Bool (nat_lt (prefix_len (λ x. not (p x)) xs) (length xs))) [
  | inl within ↦ absurd (none-some _ (rw within at none))
  | inr past ↦ omega (arith, ltb-false _ _ past, prefix_len-le-length (λ x. not (p x)) xs)
]

-- ---- managers

pub manager-placed : (ids : List Id) (id : Id) → with_manager ids id ≡ insert ids (position_or_len (is_before id) ids) id
manager-placed [] id = refl
manager-placed (a ∷ ids) id = elim (cases_Bool (is_before id a)) [
  | inl before ↦ rw before refl
  | inr behind ↦
      let more : 1 + prefix_len (λ x. not (is_before id x)) ids ≡ suc (prefix_len (λ x. not (is_before id x)) ids) = omega arith in
      rw (behind, more) (ap (λ l. a ∷ l) (manager-placed ids id))
]

-- ---- transactions

-- one whose Id is free is put before the first that it comes before
pub transaction-placed : (ts : List Recorded) (t : Recorded) → recorded_at ts t.id ≡ None → with_recorded ts t ≡ insert ts (position_or_len (λ o. is_before t.id o.id) ts) t
transaction-placed [] t none = refl
transaction-placed (a ∷ ts) t none = elim (cases_Bool (same_id a.id t.id)) [
  | inl same ↦ absurd (none-some a (sym (rw same at none)))
  | inr other ↦ elim (cases_Bool (is_before t.id a.id)) [
    | inl before ↦ rw (other, before) refl
    | inr behind ↦
        let more : 1 + prefix_len (λ (o : Recorded). not (is_before t.id o.id)) ts ≡ suc (prefix_len (λ (o : Recorded). not (is_before t.id o.id)) ts) = omega arith in
        rw (other, behind, more) (ap (λ l. a ∷ l) (transaction-placed ts t (rw other at none)))
  ]
]

none-without : (ts : List Recorded) (id : Id) → ((u : Recorded) → IsIn u ts → same_id u.id id ≡ false) → without_recorded ts id ≡ ts
none-without [] id other = refl
none-without (a ∷ ts) id other = rw (other a (inl refl)) (ap (λ l. a ∷ l) (none-without ts id (λ u there. other u (inr there))))

-- the one with the Id is taken out at its index
without-placed : (ts : List Recorded) (id : Id) → Rises ts → position_or_len (λ t. same_id t.id id) ts < length ts → without_recorded ts id ≡ remove ts (position_or_len (λ t. same_id t.id id) ts)
without-placed [] id rises within = absurd (omega arith)
without-placed (a ∷ ts) id rises within = elim (cases_Bool (same_id a.id id)) [
  | inl same ↦ rw same (none-without ts id
      (λ u there. false_from_ne_true (same_id u.id id) (λ is. before_other a.id u.id (rises-first a ts rises u there) (same_id-equal a.id id same ∙ sym (same_id-equal u.id id is)))))
  | inr other ↦
      let more : 1 + prefix_len (λ (t : Recorded). not (same_id t.id id)) ts ≡ suc (prefix_len (λ (t : Recorded). not (same_id t.id id)) ts) = omega arith in
      let less : position_or_len (λ (t : Recorded). same_id t.id id) ts < length ts = let within' = rw (other, more) at within in omega arith in
      rw (other, more) (ap (λ l. a ∷ l) (without-placed ts id (rises-rest a ts rises) less))
]

-- what is taken out, and what is left
pub record IsTaken (ts : List Recorded) (id : Id) (i : ℕ) : Type 0 where
  pub within : i < length ts
  pub taken : (d : Recorded) → recorded_at ts id ≡ Some (get_or ts i d)
  pub rest : without_recorded ts id ≡ remove ts i

pub taken : (ts : List Recorded) (id : Id) (i : ℕ) → Rises ts → Some i ≡ position (λ t. same_id t.id id) ts → IsTaken ts id i
taken ts id i rises found =
    let is = first-found (λ t. same_id t.id id) ts i found in
    let within : i < length ts = omega (arith, is.0, is.1) in
    record {
      within = within;
      taken = λ d. find_at (λ t. same_id t.id id) ts ∙ ap (slice_get ts) (sym is.0) ∙ slice_get-get_or ts i d within;
      rest = without-placed ts id rises is.1 ∙ ap (remove ts) (sym is.0);
    }

-- where there is none
pub not-there : (ts : List Recorded) (id : Id) → None ≡ position (λ t. same_id t.id id) ts → (recorded_at ts id ≡ None) × (without_recorded ts id ≡ ts)
not-there ts id none = (find_at (λ t. same_id t.id id) ts ∙ ap (slice_get ts) (sym past) ∙ slice_get_past ts (length ts) (omega arith), kept ts past)
  where
    past : length ts ≡ position_or_len (λ t. same_id t.id id) ts
    past = first-none (λ t. same_id t.id id) ts none

    kept : (xs : List Recorded) → length xs ≡ position_or_len (λ t. same_id t.id id) xs → without_recorded xs id ≡ xs
    kept [] all = refl
    kept (a ∷ xs) all = elim (cases_Bool (same_id a.id id)) [
      | inl same ↦ absurd (let none' = rw same at all in omega arith)
      | inr other ↦ rw other (ap (λ l. a ∷ l) (kept xs (let more = rw other at all in omega arith)))
    ]
