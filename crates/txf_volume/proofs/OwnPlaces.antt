-- Where the entry of a transaction stands among the changes.
use Rattle.std.proofs.Common.{zero, suc, ◌≡◌, ℕ, ◌-◌, ◌^◌, ◌<◌, ◌≤◌, not, Bool, true, false, filter, List, [], ◌∷◌, ◌++◌, length, get_or, remove, position, MatchOption, Option, Some, None, refl, sym, ◌∙◌, ap, subst, arith, inl, inr}
use Rattle.std.proofs.lemmas.Bool.{and_parts, cases_Bool, not-true, true≢false}
use Rattle.std.proofs.lemmas.Grind.{common_steps}
use Rattle.std.proofs.lemmas.List.{get_or-map, length-map, map-append}
use Rattle.std.proofs.lemmas.List.Folds.{list_all_at}
use Rattle.std.proofs.lemmas.List.Quantifiers.{position-Some}
use Rattle.std.proofs.lemmas.List.Sums.{fails_before_first}
use Rattle.std.proofs.lemmas.Option.{none-some}
use Rattle.std.specs.List.{list_all, list_any, position_or_len}
use Rattle.ktm_base.specs.declared.id.Id.{Id}
use Rattle.ktm_places.specs.Places.{is_its, AreCounted}
use Rattle.ktm_places.specs.declared.places.Places.{Places}
use Rattle.ktm_world.specs.Transactions.{same_id}
use Rattle.txf_overlay.specs.OverlayState.{OverlayState}
use Rattle.txf_volume.specs.Held.{OwnHeld, overlay_in, without_own}
use Rattle.txf_volume.specs.OwnParts.{IsPlace, owners, unchanged, with_overlay}
use Rattle.txf_volume.specs.Ties.{held_by_two}
use Rattle.txf_laws.specs.Elements.{IsIn, each_pair}
use Rattle.txf_laws.proofs.offered.Elements.{list_all-at}
use Rattle.txf_laws.proofs.offered.Tables.{same_id-equal, same_id-from, same_id-sym}

filter-all : {X : Type 0} (keep : X → Bool) (xs : List X) → ((x : X) → IsIn x xs → keep x ≡ true) → filter keep xs ≡ xs
filter-all keep [] each = refl
filter-all keep (x ∷ xs) each = rw (each x (inl refl)) (ap (λ ys. x ∷ ys) (filter-all keep xs (λ y there. each y (inr there))))

-- where the first entry is its own, the others are of others
pub without-first : (o : OwnHeld) (os : List OwnHeld) (id : Id) → each_pair held_by_two (o ∷ os) ≡ true → same_id o.transaction id ≡ true → without_own (o ∷ os) id ≡ os
without-first o os id once same =
    let parts = and_parts (list_all (held_by_two o) os) (each_pair held_by_two os) once in
    let e = same_id-equal o.transaction id same in
    rw same (filter-all (λ (p : OwnHeld). not (same_id p.transaction id)) os (λ p there. subst (λ i. not (same_id p.transaction i) ≡ true) e (turned p o (list_all-at (held_by_two o) os parts.0 p there))))
  where
    turned : (p o : OwnHeld) → held_by_two o p ≡ true → not (same_id p.transaction o.transaction) ≡ true
    turned p o two = ap not (same_id-sym o.transaction p.transaction (not-true _ two))

-- where there is no entry of its own, all are of others
pub without-none : (os : List OwnHeld) (id : Id) → overlay_in os id ≡ None → without_own os id ≡ os
without-none [] id none = refl
without-none (o ∷ os) id none = elim (cases_Bool (same_id o.transaction id)) [
  | inl same ↦ absurd (none-some o.overlay (sym (rw same at none)))
  | inr other ↦ rw other (ap (λ ps. o ∷ ps) (without-none os id (rw other at none)))
]

overlay-first : (o : OwnHeld) (os : List OwnHeld) (id : Id) → same_id o.transaction id ≡ true → overlay_in (o ∷ os) id ≡ Some o.overlay
overlay-first o os id same = rw same refl

put-first : (o : OwnHeld) (os : List OwnHeld) (id : Id) (new : OverlayState) → same_id o.transaction id ≡ true → with_overlay (o ∷ os) id new ≡ record o { overlay = new } ∷ os
put-first o os id new same = rw same refl

-- its first entry is at this place
is_place : (os : List OwnHeld) (id : Id) (i : ℕ) (d : OwnHeld) → i < length os → same_id (get_or os i d).transaction id ≡ true → ((k : ℕ) → k < i → same_id (get_or os k d).transaction id ≡ false) → IsPlace os id i
is_place [] id i d within same before = absurd (omega arith)
is_place (o ∷ os) id zero d within same before = record {
  within = within;
  owner = λ e. same_id-equal o.transaction id same;
  found = λ e. overlay-first o os id same;
  put = λ new e. put-first o os id new same;
}
is_place (o ∷ os) id (suc i) d within same before =
    let rest = is_place os id i d (omega arith) same (λ k less. before (suc k) (omega arith)) in
    let other : same_id o.transaction id ≡ false = before zero (omega arith) in
    record {
      within = within;
      owner = rest.owner;
      found = λ e. rw other (rest.found e);
      put = λ new e. rw other (ap (λ ps. o ∷ ps) (rest.put new e));
    }

-- where no entry is its own, it changed nothing
overlay-none : (os : List OwnHeld) (id : Id) (d : OwnHeld) → ((k : ℕ) → k < length os → same_id (get_or os k d).transaction id ≡ false) → overlay_in os id ≡ None
overlay-none [] id d others = refl
overlay-none (o ∷ os) id d others =
    let other : same_id o.transaction id ≡ false = others zero (omega arith) in
    rw other (overlay-none os id d (λ k within. others (suc k) (omega arith)))

-- where its first entry is, if it has one
pub place_is : (os : List OwnHeld) (id : Id) (place : Option ℕ) → place ≡ position (λ (o : OwnHeld). same_id o.transaction id) os → MatchOption place (overlay_in os id ≡ None) (IsPlace os id)
place_is os id None is =
    let d : OwnHeld = record { transaction = id; overlay = unchanged } in
    let none = sym is in
    let passed : length os ≤ position_or_len (λ (o : OwnHeld). same_id o.transaction id) os = grind (arith, common_steps) in
    overlay-none os id d (λ k within. fails_before_first (λ (o : OwnHeld). same_id o.transaction id) os k d (omega (arith, passed)))
place_is os id (Some i) is =
    let d : OwnHeld = record { transaction = id; overlay = unchanged } in
    let at = position-Some (λ (o : OwnHeld). same_id o.transaction id) os i d (sym is) in
    is_place os id i d at.0 at.1 at.2

-- ---- an entry is taken out

-- where its entry is at this place, the others are of others
left-at : (os : List OwnHeld) (id : Id) (i : ℕ) (d : OwnHeld) → each_pair held_by_two os ≡ true → i < length os → (get_or os i d).transaction ≡ id → without_own os id ≡ remove os i
left-at [] id i d once within its = absurd (omega arith)
left-at (o ∷ os) id zero d once within its = without-first o os id once (same_id-from o.transaction id its)
left-at (o ∷ os) id (suc i) d once within its =
    let parts = and_parts (list_all (held_by_two o) os) (each_pair held_by_two os) once in
    elim (cases_Bool (same_id o.transaction id)) [
      | inl same ↦
          let one : held_by_two o (get_or os i d) ≡ false = subst (λ other. not (same_id o.transaction other) ≡ false) (sym its) (ap not same) in
          absurd (true≢false (sym parts.0 ∙ list_all_at (held_by_two o) os i d (omega arith) one))
      | inr other ↦ rw other (ap (λ ps. o ∷ ps) (left-at os id i d parts.1 (omega arith) its))
    ]

-- it is the only one of its transaction
pub left-place : (os : List OwnHeld) (id : Id) (i : ℕ) → each_pair held_by_two os ≡ true → IsPlace os id i → without_own os id ≡ remove os i
left-place os id i once at =
    let d : OwnHeld = record { transaction = id; overlay = unchanged } in
    left-at os id i d once at.within (at.owner d)

-- ---- whose entries are counted

-- a transaction that changed nothing has no entry
pub none-owner : (os : List OwnHeld) (id : Id) → overlay_in os id ≡ None → list_any (is_its id) (owners os) ≡ false
none-owner [] id none = refl
none-owner (o ∷ os) id none = elim (cases_Bool (same_id o.transaction id)) [
  | inl same ↦ absurd (none-some o.overlay (sym (rw same at none)))
  | inr other ↦ rw other (none-owner os id (rw other at none))
]

-- where an entry is taken out, its owner is
owners-left : (os : List OwnHeld) (i : ℕ) → owners (remove os i) ≡ remove (owners os) i
owners-left [] zero = refl
owners-left [] (suc i) = refl
owners-left (o ∷ os) zero = refl
owners-left (o ∷ os) (suc i) = ap (λ ids. o.transaction ∷ ids) (owners-left os i)

-- without an entry
pub counted-left : (os : List OwnHeld) (id : Id) (i : ℕ) (places places' : Places) → IsPlace os id i → AreCounted (owners os) places
    → ((ids : List Id) (place : ℕ) → place < length ids → get_or ids place id ≡ id → AreCounted ids places → AreCounted (remove ids place) places')
    → AreCounted (owners (remove os i)) places'
counted-left os id i places places' at counted removed =
    let d : OwnHeld = record { transaction = id; overlay = unchanged } in
    subst (λ ids. AreCounted ids places') (sym (owners-left os i))
    (removed (owners os) i (let len = length-map os (λ (o : OwnHeld). o.transaction) in let within = at.within in omega (arith, len, within)) (get_or-map (λ (o : OwnHeld). o.transaction) os i d id at.within ∙ at.owner d) counted)

-- with one entry more, of a transaction that had none
pub counted-pushed : (os os' : List OwnHeld) (own : OwnHeld) (places places' : Places) → os' ≡ os ++ own ∷ [] → overlay_in os own.transaction ≡ None → AreCounted (owners os) places → length os < 2 ^ 64 - 1
    → ((ids : List Id) → length ids < 2 ^ 64 - 1 → (false ≡ false → list_any (is_its own.transaction) ids ≡ false) → AreCounted ids places → AreCounted (ids ++ own.transaction ∷ []) places')
    → AreCounted (owners os') places'
counted-pushed os os' own places places' pushed none counted few added =
    subst (λ ids. AreCounted ids places') (sym (ap owners pushed ∙ map-append (λ (o : OwnHeld). o.transaction) os (own ∷ [])))
    (added (owners os) (let len = length-map os (λ (o : OwnHeld). o.transaction) in omega (arith, len, few)) (λ had. none-owner os own.transaction none) counted)
