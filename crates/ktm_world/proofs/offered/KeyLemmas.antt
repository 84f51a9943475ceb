-- How a change of a key changes the counts: of the keys in the store, and of the settings that undecided transactions have.
use Rattle.std.proofs.Common.{◌≡◌, ℕ, ◌+◌, ◌≤◌, Bool, false, cond, is_none, List, [], ◌∷◌, length, count_by, sum_by, is_some, Option, None, Some, refl, arith, inl, inr}
use Rattle.std.proofs.lemmas.Bool.{cases_Bool}
use Rattle.std.proofs.lemmas.List.Sums.{sum_by-cons}
use Rattle.ktm_base.specs.declared.id.Id.{Id}
use Rattle.ktm_keyed.specs.declared.keyed.Keyed.{Keyed}
use Rattle.ktm_keyed.specs.Keyed.{put}
use Rattle.ktm_world.specs.Keys.{Store, OwnSettings, Own, own_settings, with_own, without_own, stored, stored_all}
use Rattle.ktm_world.specs.Transactions.{same_id}
use Rattle.ktm_keyed.proofs.KeyedLemmas.{length-put-le, length-without-le, count_by-cons, count_by-put-le}

-- ---- the store

-- a setting adds a key at most, and one that unsets a key adds none
length-stored-le : (store : Store) (setting : Keyed (Option (List ℕ))) → length (stored store setting) ≤ length store + cond (is_some setting.value) 1 0
length-stored-le store setting =
    elim setting.value as (λ v. length (stored store (record { key = setting.key; value = v })) ≤ length store + cond (is_some v) 1 0) [
      | None ↦ let less = length-without-le store setting.key in omega arith
      | Some value ↦ length-put-le setting.key value store
    ]

pub length-stored_all-le : (store : Store) (settings : OwnSettings) → length (stored_all store settings) ≤ length store + count_by (λ s. is_some s.value) settings
length-stored_all-le store [] = omega arith
length-stored_all-le store (s ∷ ss) =
    let rest = length-stored_all-le (stored store s) ss in
    let first = length-stored-le store s in
    let count = count_by-cons (λ s. is_some s.value) s ss in
    omega arith

-- a setting sets its key or unsets it
pub length-counts : (settings : OwnSettings) → length settings ≡ count_by (λ s. is_some s.value) settings + count_by (λ s. is_none s.value) settings
length-counts [] = omega arith
length-counts (s ∷ ss) =
    let rest = length-counts ss in
    let sets = count_by-cons (λ s. is_some s.value) s ss in
    let unsets = count_by-cons (λ s. is_none s.value) s ss in
    let one : cond (is_some s.value) 1 0 + cond (is_none s.value) 1 0 ≡ 1 = elim s.value as (λ v. cond (is_some v) 1 0 + cond (is_none v) 1 0 ≡ 1) [ None ↦ refl | Some value ↦ refl ] in
    omega arith

-- ---- the settings of all undecided transactions

module _ (p : Keyed (Option (List ℕ)) → Bool) where
  -- how many settings pass the test
  abbrev pub counted : List Own → ℕ
  counted own = sum_by (λ o. count_by p o.settings) own

  counted-cons : (o : Own) (os : List Own) → counted (o ∷ os) ≡ count_by p o.settings + counted os
  counted-cons o os = sum_by-cons (λ o. count_by p o.settings) o os

  -- one setting more that fails it makes the count no greater
  pub counted-with_own-le : (id : Id) (key : List ℕ) (value : Option (List ℕ)) → p (record { key = key; value = value }) ≡ false
      → (own : List Own) → counted (with_own own id key value) ≤ counted own
  counted-with_own-le id key value fails [] =
      let one = counted-cons (record { transaction = id; settings = put [] key value }) [] in
      let more = count_by-put-le p key value fails [] in
      omega arith
  counted-with_own-le id key value fails (o ∷ os) =
      let old = counted-cons o os in
      elim (cases_Bool (same_id o.transaction id)) [
        | inl same ↦
            let new = counted-cons (record o { settings = put o.settings key value }) os in
            let more = count_by-put-le p key value fails o.settings in
            rw same (omega (arith, old, new, more))
        | inr other ↦
            let new = counted-cons o (with_own os id key value) in
            let rest = counted-with_own-le id key value fails os in
            rw other (omega (arith, old, new, rest))
      ]

  -- the count without a transaction's settings, and theirs
  pub counted-without_own : (id : Id) (own : List Own) → counted (without_own own id) + count_by p (own_settings own id) ≡ counted own
  counted-without_own id [] = omega arith
  counted-without_own id (o ∷ os) =
      let old = counted-cons o os in
      elim (cases_Bool (same_id o.transaction id)) [
        | inl same ↦ rw same (omega (arith, old))
        | inr other ↦
            let new = counted-cons o (without_own os id) in
            let rest = counted-without_own id os in
            rw other (omega (arith, old, new, rest))
      ]
