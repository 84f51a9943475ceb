-- What a search by halves finds in a list whose keys rise.
use Rattle.std.proofs.Common.{◌≡◌, ℕ, zero, suc, ◌-◌, ◌<◌, ◌≤◌, true, false, List, [], ◌∷◌, length, get_or, drop, Some, refl, sym, ◌∙◌, ap, subst, arith, add-one, drop-cons, is_lt, nat_cmp, Ordering, Less, Equal, Greater}
use Rattle.std.specs.Prelude.{Ok, Err, slice_get}
use Rattle.std.proofs.lemmas.Bool.{and_parts}
use Rattle.std.proofs.lemmas.Cmp.{nat_list_cmp_total, nat_list_eq_equiv}
use Rattle.std.proofs.lemmas.Option.{get_or_from_slice_get}
use Rattle.std.proofs.lemmas.List.Sorted.{searchable_from_sorted}
use Rattle.std.proofs.lemmas.Map.Lookups.{exact_bytes}
use Rattle.std.proofs.lemmas.Map.Text.{is_eq-slice_cmp}
use Rattle.std.specs.Cmp.Lexicographic.{slice_cmp}
use Rattle.std.specs.List.Sorted.{IsBinarySearchResult, IsNonDecreasingBy, IsSortedBy}
use Rattle.std.specs.Ordering.{is_eq, ordering_index, ordering_reverse}
use Rattle.std.specs.Str.{bytes_eq}
use Rattle.ktm_keyed.specs.declared.keyed.Keyed.{Keyed}
use Rattle.ktm_keyed.specs.Keyed.{comes_before, comes_first, is_rising, key_order}
use Rattle.ktm_keyed.specs.Slot.{IsHere, IsFree}
use Rattle.ktm_keyed.proofs.KeyedLemmas.{comes_before-less, comes_before-differs, comes_before-after, comes_first-trans, comes_first-at}

-- the rest begins with what is at the index
pub rest_is : {X : Type 0} (xs : List X) (i : ℕ) (x : X) → i < length xs → x ≡ get_or xs i x → drop i xs ≡ x ∷ drop (suc i) xs
rest_is xs i x within is = drop-cons xs i x within ∙ ap (λ y. y ∷ drop (suc i) xs) (sym is)

module _ {V : Type 0} where
  -- ---- at the head of the list, or behind it

  here_first : (x : Keyed V) (xs : List (Keyed V)) (key : List ℕ) → bytes_eq x.key key ≡ true → IsHere (x ∷ xs) key 0
  here_first x xs key same = record {
    within = omega arith;
    value = λ d. rw same refl;
    replaces = λ value. rw same refl;
    removes = rw same refl;
  }

  here_later : (x : Keyed V) (xs : List (Keyed V)) (key : List ℕ) (i : ℕ) → comes_before x.key key ≡ true → IsHere xs key i → IsHere (x ∷ xs) key (suc i)
  here_later x xs key i before here =
      let other = comes_before-differs x.key key before in
      let behind = comes_before-after x.key key before in
      record {
        within = let within = here.within in omega arith;
        value = λ d. rw other (here.value d);
        replaces = λ value. rw (other, behind) (ap (λ l. x ∷ l) (here.replaces value));
        removes = rw other (ap (λ l. x ∷ l) here.removes);
      }

  free_later : (x : Keyed V) (xs : List (Keyed V)) (key : List ℕ) (i : ℕ) → comes_before x.key key ≡ true → IsFree xs key i → IsFree (x ∷ xs) key (suc i)
  free_later x xs key i before free =
      let other = comes_before-differs x.key key before in
      let behind = comes_before-after x.key key before in
      record {
        within = let within = free.within in omega arith;
        value = rw other free.value;
        adds = λ value. rw (other, behind) (ap (λ l. x ∷ l) (free.adds value));
        stays = rw other (ap (λ l. x ∷ l) free.stays);
      }

  -- a key that comes before all others has its place at the head
  pub free_first : (xs : List (Keyed V)) (key : List ℕ) → is_rising xs ≡ true → comes_first key xs ≡ true → IsFree xs key 0
  free_first [] key rises first = record { within = omega arith; value = refl; adds = λ value. refl; stays = refl }
  free_first (x ∷ xs) key rises first =
      let parts = and_parts (comes_first x.key xs) (is_rising xs) rises in
      let rest = free_first xs key parts.1 (comes_first-trans key x.key xs first parts.0) in
      let other : bytes_eq x.key key ≡ false = nat_list_eq_equiv.symm x.key key ∙ comes_before-differs key x.key first in
      record {
        within = omega arith;
        value = rw other rest.value;
        adds = λ value. rw (other, first) refl;
        stays = rw other (ap (λ l. x ∷ l) rest.stays);
      }

  -- ---- what the search asks, and what it answers

  next_after : (xs : List (Keyed V)) → is_rising xs ≡ true → (k : ℕ) (d : Keyed V) → suc k < length xs → comes_before (get_or xs (suc k) d).key (get_or xs k d).key ≡ false
  next_after [] rises k d within = absurd (omega arith)
  next_after (x ∷ []) rises k d within = absurd (omega arith)
  next_after (x ∷ y ∷ xs) rises zero d within = comes_before-after x.key y.key (and_parts (comes_before x.key y.key) (is_rising (y ∷ xs)) rises).0
  next_after (x ∷ y ∷ xs) rises (suc k) d within = next_after (y ∷ xs) (and_parts (comes_before x.key y.key) (is_rising (y ∷ xs)) rises).1 k d (omega arith)

  sorted : (xs : List (Keyed V)) → is_rising xs ≡ true → IsSortedBy (λ a b. is_lt (slice_cmp nat_cmp a.key b.key)) xs
  sorted xs rises k d low within = rw (add-one k) (next_after xs rises k d (omega arith))

  searchable : (xs : List (Keyed V)) (key : List ℕ) → is_rising xs ≡ true → IsNonDecreasingBy (λ x. ordering_index (key_order key x)) xs
  searchable xs key rises = searchable_from_sorted nat_list_cmp_total (λ x. x.key) xs key (sorted xs rises)

  here_at : (xs : List (Keyed V)) (key : List ℕ) (i : ℕ) → is_rising xs ≡ true → i < length xs → ((d : Keyed V) → key_order key (get_or xs i d) ≡ Equal) → IsHere xs key i
  here_at [] key i rises within equal = absurd (omega arith)
  here_at (x ∷ xs) key zero rises within equal = here_first x xs key (sym (is_eq-slice_cmp x.key key) ∙ ap is_eq (equal x))
  here_at (x ∷ xs) key (suc i) rises within equal =
      let parts = and_parts (comes_first x.key xs) (is_rising xs) rises in
      let before = comes_first-at x.key xs i x parts.0 parts.1 (omega arith) in
      let is : (get_or xs i x).key ≡ key = exact_bytes _ _ (equal x) in
      here_later x xs key i (ap (comes_before x.key) (sym is) ∙ before) (here_at xs key i parts.1 (omega arith) equal)

  pub found : (xs : List (Keyed V)) (key : List ℕ) (i : ℕ) → is_rising xs ≡ true → i < length xs → IsBinarySearchResult (key_order key) xs (Ok i) → IsHere xs key i
  found xs key i rises within result = here_at xs key i rises within result

  free_at : (xs : List (Keyed V)) (key : List ℕ) (i : ℕ) → is_rising xs ≡ true → i ≤ length xs
      → ((k : ℕ) (d : Keyed V) → k < i → key_order key (get_or xs k d) ≡ Less)
      → ((k : ℕ) (d : Keyed V) → i ≤ k → k < length xs → key_order key (get_or xs k d) ≡ Greater)
      → IsFree xs key i
  free_at [] key zero rises within less more = free_first [] key rises refl
  free_at [] key (suc i) rises within less more = absurd (omega arith)
  free_at (x ∷ xs) key zero rises within less more =
      free_first (x ∷ xs) key rises (ap is_lt (nat_list_cmp_total.antisymm key x.key ∙ ap ordering_reverse (more 0 x (omega arith) (omega arith))))
  free_at (x ∷ xs) key (suc i) rises within less more =
      let parts = and_parts (comes_first x.key xs) (is_rising xs) rises in
      free_later x xs key i (ap is_lt (less 0 x (omega arith)))
      (free_at xs key i parts.1 (omega arith) (λ k d below. less (suc k) d (omega arith)) (λ k d above inside. more (suc k) d (omega arith) (omega arith)))

  pub absent : (xs : List (Keyed V)) (key : List ℕ) (i : ℕ) → is_rising xs ≡ true → i ≤ length xs → IsBinarySearchResult (key_order key) xs (Err i) → IsFree xs key i
  absent xs key i rises within result =
      let point = result (searchable xs key rises) in
      free_at xs key i rises within (λ k d below. point.0 k d (omega arith) below) point.1

  -- a key behind the last one has its place at the end
  pub behind_last : (xs : List (Keyed V)) (key : List ℕ) (last : Keyed V) → is_rising xs ≡ true → slice_get xs (length xs - 1) ≡ Some last
      → comes_before last.key key ≡ true → IsFree xs key (length xs)
  behind_last xs key last rises is before =
      free_at xs key (length xs) rises (omega arith)
      (λ k d below. least (key_order key (get_or xs k d))
      (subst (λ o. ordering_index (key_order key (get_or xs k d)) ≤ ordering_index o)
      (ap (λ x. key_order key x) (get_or_from_slice_get xs (length xs - 1) last d is) ∙ comes_before-less last.key key before)
      (searchable xs key rises k (length xs - 1) d (omega (arith, below)) (omega (arith, below)))))
      (λ k d above inside. absurd (omega (arith, above, inside)))
    where
      least : (o : Ordering) → ordering_index o ≤ ordering_index Less → o ≡ Less
      least Less small = refl
      least Equal small = absurd (omega (arith, small))
      least Greater small = absurd (omega (arith, small))
