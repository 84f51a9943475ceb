-- Settings made in a store, and keys that two lists of settings set both.
use Rattle.std.proofs.Common.{◌≡◌, ℕ, not, Bool, true, false, is_some, List, [], ◌∷◌, Option, Some, None, bytes_eq, refl, sym, ◌∙◌, ap, subst, inl, inr, is_lt, nat_cmp, Ordering, Less, Equal, Greater}
use Rattle.std.proofs.lemmas.Bool.{cases_Bool, and_parts, and_from, true≢false, false_from_ne_true}
use Rattle.std.proofs.lemmas.Cmp.{nat_list_cmp_total}
use Rattle.std.proofs.lemmas.Slice.Eq.{bytes_eq-Decides}
use Rattle.std.specs.Cmp.Lexicographic.{slice_cmp}
use Rattle.std.specs.List.{list_all}
use Rattle.ktm_keyed.specs.declared.keyed.Keyed.{Keyed}
use Rattle.ktm_keyed.specs.Keyed.{value_at, put, without, comes_before, comes_first, is_rising}
use Rattle.ktm_world.specs.Keys.{Store, OwnSettings, stored, stored_all, is_bad_key, is_bad_set_to, is_good_setting}
use Rattle.ktm_world.specs.Lawful.{set_both}
use Rattle.ktm_keyed.proofs.KeyedLemmas.{is_rising-put, list_all-put}
use Rattle.txf_laws.specs.Elements.{IsIn}
use Rattle.txf_laws.specs.Contents.{is_good_entry}
use Rattle.txf_laws.proofs.offered.Diamonds.{none-from, no_test}

-- ---- a list under keys without one of them

less-from : (r : Ordering) → is_lt r ≡ true → r ≡ Less
less-from Less is = refl
less-from Equal is = absurd (true≢false (sym is))
less-from Greater is = absurd (true≢false (sym is))

comes_before-then : (a b c : List ℕ) → comes_before a b ≡ true → comes_before b c ≡ true → comes_before a c ≡ true
comes_before-then a b c first second = ap is_lt (nat_list_cmp_total.trans a b c (less-from (slice_cmp nat_cmp a b) first) (less-from (slice_cmp nat_cmp b c) second))

comes_first-then : {V : Type 0} (a b : List ℕ) (xs : List (Keyed V)) → comes_before a b ≡ true → comes_first b xs ≡ true → comes_first a xs ≡ true
comes_first-then a b [] before first = refl
comes_first-then a b (x ∷ xs) before first = comes_before-then a b x.key before first

comes_first-without : {V : Type 0} (a : List ℕ) (xs : List (Keyed V)) (key : List ℕ) → comes_first a xs ≡ true → is_rising xs ≡ true → comes_first a (without xs key) ≡ true
comes_first-without a [] key first rises = refl
comes_first-without a (x ∷ xs) key first rises = elim (cases_Bool (bytes_eq x.key key)) [
  | inl same ↦ rw same (comes_first-then a x.key xs first (and_parts (comes_first x.key xs) (is_rising xs) rises).0)
  | inr other ↦ rw other first
]

is_rising-without : {V : Type 0} (xs : List (Keyed V)) (key : List ℕ) → is_rising xs ≡ true → is_rising (without xs key) ≡ true
is_rising-without [] key rises = refl
is_rising-without (x ∷ xs) key rises =
    let parts = and_parts (comes_first x.key xs) (is_rising xs) rises in
    elim (cases_Bool (bytes_eq x.key key)) [
      | inl same ↦ rw same parts.1
      | inr other ↦ rw other (and_from _ _ (comes_first-without x.key xs key parts.0 parts.1) (is_rising-without xs key parts.1))
    ]

list_all-without : {V : Type 0} (test : Keyed V → Bool) (xs : List (Keyed V)) (key : List ℕ) → list_all test xs ≡ true → list_all test (without xs key) ≡ true
list_all-without test [] key all = refl
list_all-without test (x ∷ xs) key all =
    let parts = and_parts (test x) (list_all test xs) all in
    elim (cases_Bool (bytes_eq x.key key)) [
      | inl same ↦ rw same parts.1
      | inr other ↦ rw other (and_from _ _ parts.0 (list_all-without test xs key parts.1))
    ]

-- ---- settings made in a store

stored-by : (P : Store → Type 0) (store : Store) (s : Keyed (Option (List ℕ))) → ((value : List ℕ) → s.value ≡ Some value → P (put store s.key value)) → P (without store s.key) → P (stored store s)
stored-by P store s is_put is_without = go s.value refl
  where
    go : (v : Option (List ℕ)) → s.value ≡ v → P (elim v as (λ _. Store) [ Some value ↦ put store s.key value | None ↦ without store s.key ])
    go (Some value) e = is_put value e
    go None e = is_without

pub stored_all-rises : (store : Store) (settings : OwnSettings) → is_rising store ≡ true → is_rising (stored_all store settings) ≡ true
stored_all-rises store [] rises = rises
stored_all-rises store (s ∷ ss) rises =
    stored_all-rises (stored store s) ss (stored-by (λ x. is_rising x ≡ true) store s (λ value e. is_rising-put s.key value store rises) (is_rising-without store s.key rises))

pub stored_all-good : (store : Store) (settings : OwnSettings) → list_all is_good_setting settings ≡ true → list_all is_good_entry store ≡ true → list_all is_good_entry (stored_all store settings) ≡ true
stored_all-good store [] good all = all
stored_all-good store (s ∷ ss) good all =
    let parts = and_parts (is_good_setting s) (list_all is_good_setting ss) good in
    let both = and_parts (not (is_bad_key s.key)) (not (is_bad_set_to s.value)) parts.0 in
    stored_all-good (stored store s) ss parts.1
    (stored-by (λ x. list_all is_good_entry x ≡ true) store s
    (λ value e. list_all-put is_good_entry s.key value (and_from _ _ both.0 (subst (λ v. not (is_bad_set_to v) ≡ true) e both.1)) store all)
    (list_all-without is_good_entry store s.key all))

-- ---- keys of both

value_at-found : {V : Type 0} (xs : List (Keyed V)) (key : List ℕ) → is_some (value_at xs key) ≡ true → (x : Keyed V) × IsIn x xs × (x.key ≡ key)
value_at-found [] key some = absurd (true≢false (sym some))
value_at-found (x ∷ xs) key some = elim (cases_Bool (bytes_eq x.key key)) [
  | inl same ↦ (x, inl refl, (bytes_eq-Decides x.key key).0 same)
  | inr other ↦ let rest = value_at-found xs key (rw other at some) in (rest.0, inr rest.1, rest.2)
]

value_at-there : {V : Type 0} (xs : List (Keyed V)) (x : Keyed V) → IsIn x xs → is_some (value_at xs x.key) ≡ true
value_at-there [] x there = absurd there
value_at-there (y ∷ ys) x (inl e) = rw ((bytes_eq-Decides y.key x.key).1 (ap (λ (z : Keyed _). z.key) e)) refl
value_at-there (y ∷ ys) x (inr there) = elim (cases_Bool (bytes_eq y.key x.key)) [
  | inl same ↦ rw same refl
  | inr other ↦ rw other (value_at-there ys x there)
]

pub set_both-sym : (a b : OwnSettings) → set_both a b ≡ false → set_both b a ≡ false
set_both-sym a b apart = none-from (λ (s : Keyed (Option (List ℕ))). is_some (value_at a s.key)) b (λ y there. false_from_ne_true _ (λ some.
    let x = value_at-found a y.key some in
    true≢false (sym (subst (λ key. is_some (value_at b key) ≡ true) (sym x.2) (value_at-there b y there)) ∙ no_test (λ (s : Keyed (Option (List ℕ))). is_some (value_at b s.key)) x.0 a apart x.1)))
