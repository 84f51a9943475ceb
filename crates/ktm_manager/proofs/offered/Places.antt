-- Where the one with an Id stands among things by rising Id, and what follows of it.
use Rattle.std.proofs.Common.{◌≡◌, ◌⊎◌, ℕ, zero, suc, ◌+◌, ◌<◌, ◌≤◌, ◌==◌, ◌&&◌, Bool, true, false, List, [], ◌∷◌, ◌++◌, length, get_or, set, map, Some, None, refl, sym, ◌∙◌, ap, subst, arith, add-one, inl, inr, is_lt, Ordering, Less, Equal, Greater, nat_lt, ltb-false}
use Rattle.std.specs.Prelude.{Ok, Err, find, insert, is_some, if◌then◌else◌}
use Rattle.std.specs.List.{list_all, list_any}
use Rattle.std.specs.Cmp.{IsTotalOrder}
use Rattle.std.specs.List.Sorted.{IsBinarySearchResult, IsNonDecreasingBy, IsSortedBy}
use Rattle.std.specs.Ordering.{nat_cmp, ordering_index, ordering_then}
use Rattle.std.proofs.lemmas.Bool.{and_parts, and_from, or_cases, cases_order, cases_Bool, eq-eqb, eqb-true, ne_eqb, lt-ltb, ltb-true, true≢false, false_from_ne_true}
use Rattle.std.proofs.lemmas.Cmp.{nat_cmp_total, on_total, then_total, tied_itself}
use Rattle.std.proofs.lemmas.List.Sorted.{searchable_from_sorted}
use Rattle.ktm_base.specs.declared.id.Id.{Id}
use Rattle.ktm_world.specs.Durable.{is_before}
use Rattle.ktm_world.specs.Transactions.{same_id}
use Rattle.txf_laws.proofs.offered.Tables.{same_id-equal, same_id-from, same_id-sym, before_other, is_before-turned}
use Rattle.txf_laws.specs.Elements.{each_pair}
use Rattle.ktm_manager.specs.Rising.{are_rising, id_order, IsAt, IsNowhere}

-- ---- the order of Ids

id_total : IsTotalOrder id_order
id_total = then_total (on_total (λ (a : Id). a.boot) nat_cmp_total) (on_total (λ (a : Id). a.number) nat_cmp_total)

past : (m n : ℕ) → n ≤ m → nat_lt m n ≡ false
past m n low = search (arith, low)

less : (m n : ℕ) → m < n → nat_cmp m n ≡ Less
less m n low = rw (lt-ltb m n low) refl

more : (m n : ℕ) → n < m → nat_cmp m n ≡ Greater
more m n high = rw (past m n (omega (arith, high)), ne_eqb m n (λ e. omega (arith, e, high))) refl

level : (m n : ℕ) → m ≡ n → nat_cmp m n ≡ Equal
level m n same = rw (past m n (omega (arith, same)), eq-eqb m n same) refl

-- one that comes first is not behind
not_below : (a b : Id) → is_before a b ≡ true → is_lt (id_order b a) ≡ false
not_below a b first = elim (or_cases _ _ first) [
  | inl boot ↦ rw (more b.boot a.boot (ltb-true _ _ boot)) refl
  | inr rest ↦
      let parts = and_parts (a.boot == b.boot) _ rest in
      rw (level b.boot a.boot (sym (eqb-true _ _ parts.0)), more b.number a.number (ltb-true _ _ parts.1)) refl
]

equal_same : (a b : Id) → id_order a b ≡ Equal → same_id a b ≡ true
equal_same a b tied = elim (cases_order a.boot b.boot) [
  | inl boot ↦ elim (cases_order a.number b.number) [
    | inl number ↦ and_from _ _ (eq-eqb _ _ boot) (eq-eqb _ _ number)
    | inr (inl low) ↦ absurd (let is = rw (level a.boot b.boot boot, less a.number b.number low) at tied in cc)
    | inr (inr high) ↦ absurd (let is = rw (level a.boot b.boot boot, more a.number b.number high) at tied in cc)
  ]
  | inr (inl low) ↦ absurd (let is = rw (less a.boot b.boot low) at tied in cc)
  | inr (inr high) ↦ absurd (let is = rw (more a.boot b.boot high) at tied in cc)
]

same_equal : (a b : Id) → same_id a b ≡ true → id_order a b ≡ Equal
same_equal a b same = subst (λ (x : Id). id_order a x ≡ Equal) (same_id-equal a b same) (tied_itself id_total a)

less_other : (a b : Id) → id_order a b ≡ Less → same_id a b ≡ false
less_other a b is = false_from_ne_true _ (λ same. let tied = same_equal a b same in absurd (cc))

more_other : (a b : Id) → id_order a b ≡ Greater → same_id a b ≡ false
more_other a b is = false_from_ne_true _ (λ same. let tied = same_equal a b same in absurd (cc))

before_less : (a b : Id) → is_before a b ≡ true → id_order a b ≡ Less
before_less a b first = elim (or_cases _ _ first) [
  | inl boot ↦ rw (less a.boot b.boot (ltb-true _ _ boot)) refl
  | inr rest ↦
      let parts = and_parts (a.boot == b.boot) _ rest in
      rw (level a.boot b.boot (eqb-true _ _ parts.0), less a.number b.number (ltb-true _ _ parts.1)) refl
]

less_before : (a b : Id) → id_order a b ≡ Less → is_before a b ≡ true
less_before a b is = is_before-turned a b (less_other a b is) (false_from_ne_true _ (λ behind. true≢false (sym (ap is_lt is) ∙ not_below b a behind)))

more_before : (a b : Id) → id_order a b ≡ Greater → is_before b a ≡ true
more_before a b is = is_before-turned b a (same_id-sym a b (more_other a b is)) (false_from_ne_true _ (λ behind. let first = before_less a b behind in absurd (cc)))

-- one that comes first is another
pub before_differs : (a b : Id) → is_before a b ≡ true → same_id a b ≡ false
before_differs a b first = false_from_ne_true _ (λ same. before_other a b first (same_id-equal a b same))

pub before_differs_back : (a b : Id) → is_before a b ≡ true → same_id b a ≡ false
before_differs_back a b first = false_from_ne_true _ (λ same. before_other a b first (sym (same_id-equal b a same)))

module _ {X : Type 0} where
  -- ---- where a search by halves ends

  all_at : (test : X → Bool) (xs : List X) (i : ℕ) (d : X) → list_all test xs ≡ true → i < length xs → test (get_or xs i d) ≡ true
  all_at test [] i d all within = absurd (omega (arith, within))
  all_at test (x ∷ xs) zero d all within = (and_parts (test x) (list_all test xs) all).0
  all_at test (x ∷ xs) (suc i) d all within = all_at test xs i d (and_parts (test x) (list_all test xs) all).1 (omega (arith, within))

  rises_first : (id_of : X → Id) (x : X) (xs : List X) → are_rising id_of (x ∷ xs) ≡ true → list_all (λ (y : X). is_before (id_of x) (id_of y)) xs ≡ true
  rises_first id_of x xs rises = (and_parts (list_all (λ (y : X). is_before (id_of x) (id_of y)) xs) (are_rising id_of xs) rises).0

  rises_rest : (id_of : X → Id) (x : X) (xs : List X) → are_rising id_of (x ∷ xs) ≡ true → are_rising id_of xs ≡ true
  rises_rest id_of x xs rises = (and_parts (list_all (λ (y : X). is_before (id_of x) (id_of y)) xs) (are_rising id_of xs) rises).1

  next_after : (id_of : X → Id) (xs : List X) → are_rising id_of xs ≡ true → (k : ℕ) (d : X) → suc k < length xs → is_lt (id_order (id_of (get_or xs (suc k) d)) (id_of (get_or xs k d))) ≡ false
  next_after id_of [] rises k d within = absurd (omega (arith, within))
  next_after id_of (x ∷ xs) rises zero d within = not_below (id_of x) (id_of (get_or xs 0 d)) (all_at (λ (y : X). is_before (id_of x) (id_of y)) xs 0 d (rises_first id_of x xs rises) (omega (arith, within)))
  next_after id_of (x ∷ xs) rises (suc k) d within = next_after id_of xs (rises_rest id_of x xs rises) k d (omega (arith, within))

  sorted : (id_of : X → Id) (xs : List X) → are_rising id_of xs ≡ true → IsSortedBy (λ a b. is_lt (id_order (id_of a) (id_of b))) xs
  sorted id_of xs rises k d low within = rw (add-one k) (next_after id_of xs rises k d (omega (arith, within)))

  -- what comes behind this Id has another
  pub nowhere_behind : (id_of : X → Id) (xs : List X) (id : Id) → list_all (λ (y : X). is_before id (id_of y)) xs ≡ true → IsNowhere id_of xs id
  nowhere_behind id_of [] id behind = tt
  nowhere_behind id_of (x ∷ xs) id behind =
      let parts = and_parts (is_before id (id_of x)) (list_all (λ (y : X). is_before id (id_of y)) xs) behind in
      (before_differs_back id (id_of x) parts.0, nowhere_behind id_of xs id parts.1)

  -- one that has the Id is the only one
  pub at_id : (id_of : X → Id) (xs : List X) (id : Id) (i : ℕ) → are_rising id_of xs ≡ true → i < length xs → ((d : X) → same_id (id_of (get_or xs i d)) id ≡ true) → IsAt id_of xs id i
  at_id id_of [] id i rises within same = absurd (omega (arith, within))
  at_id id_of (x ∷ xs) id zero rises within same =
      (same x, nowhere_behind id_of xs id (subst (λ (a : Id). list_all (λ (y : X). is_before a (id_of y)) xs ≡ true) (same_id-equal (id_of x) id (same x)) (rises_first id_of x xs rises)))
  at_id id_of (x ∷ xs) id (suc i) rises within same =
      let first = all_at (λ (y : X). is_before (id_of x) (id_of y)) xs i x (rises_first id_of x xs rises) (omega (arith, within)) in
      let is = same_id-equal (id_of (get_or xs i x)) id (same x) in
      (before_differs (id_of x) id (subst (λ (a : Id). is_before (id_of x) a ≡ true) is first), at_id id_of xs id i (rises_rest id_of x xs rises) (omega (arith, within)) same)

  nowhere_from : (id_of : X → Id) (xs : List X) (id : Id) → ((k : ℕ) (d : X) → k < length xs → same_id (id_of (get_or xs k d)) id ≡ false) → IsNowhere id_of xs id
  nowhere_from id_of [] id others = tt
  nowhere_from id_of (x ∷ xs) id others = (others 0 x (omega arith), nowhere_from id_of xs id (λ k d within. others (suc k) d (omega (arith, within))))

  pub found : (id_of : X → Id) (xs : List X) (id : Id) (i : ℕ) → are_rising id_of xs ≡ true → i < length xs → IsBinarySearchResult (λ x. id_order (id_of x) id) xs (Ok i) → IsAt id_of xs id i
  found id_of xs id i rises within result = at_id id_of xs id i rises within (λ d. equal_same (id_of (get_or xs i d)) id (result d))

  pub missing : (id_of : X → Id) (xs : List X) (id : Id) (i : ℕ) → are_rising id_of xs ≡ true → i ≤ length xs → IsBinarySearchResult (λ x. id_order (id_of x) id) xs (Err i) → IsNowhere id_of xs id
  missing id_of xs id i rises within result =
      let point = result (searchable_from_sorted id_total id_of xs id (sorted id_of xs rises)) in
      nowhere_from id_of xs id (λ k d inside. elim (cases_order k i) [
        | inl is ↦ more_other (id_of (get_or xs k d)) id (point.1 k d (omega (arith, is)) inside)
        | inr (inl low) ↦ less_other (id_of (get_or xs k d)) id (point.0 k d (omega arith) low)
        | inr (inr high) ↦ more_other (id_of (get_or xs k d)) id (point.1 k d (omega (arith, high)) inside)
      ])

  -- ---- one more where a search by halves ends

  all_from : (test : X → Bool) (xs : List X) → ((k : ℕ) (d : X) → k < length xs → test (get_or xs k d) ≡ true) → list_all test xs ≡ true
  all_from test [] each = refl
  all_from test (x ∷ xs) each = and_from _ _ (each 0 x (omega arith)) (all_from test xs (λ k d within. each (suc k) d (omega (arith, within))))

  all_insert : (test : X → Bool) (xs : List X) (i : ℕ) (y : X) → list_all test xs ≡ true → test y ≡ true → list_all test (insert xs i y) ≡ true
  all_insert test xs zero y all is = and_from _ _ is all
  all_insert test [] (suc i) y all is = and_from _ _ is refl
  all_insert test (x ∷ xs) (suc i) y all is =
      let parts = and_parts (test x) (list_all test xs) all in
      and_from _ _ parts.0 (all_insert test xs i y parts.1 is)

  rising_insert : (id_of : X → Id) (xs : List X) (i : ℕ) (y : X) → are_rising id_of xs ≡ true
      → ((k : ℕ) (d : X) → k < i → k < length xs → is_before (id_of (get_or xs k d)) (id_of y) ≡ true)
      → ((k : ℕ) (d : X) → i ≤ k → k < length xs → is_before (id_of y) (id_of (get_or xs k d)) ≡ true)
      → are_rising id_of (insert xs i y) ≡ true
  rising_insert id_of xs zero y rises before behind = and_from _ _ (all_from (λ (z : X). is_before (id_of y) (id_of z)) xs (λ k d inside. behind k d (omega arith) inside)) rises
  rising_insert id_of [] (suc i) y rises before behind = refl
  rising_insert id_of (x ∷ xs) (suc i) y rises before behind =
      and_from _ _ (all_insert (λ (z : X). is_before (id_of x) (id_of z)) xs i y (rises_first id_of x xs rises) (before 0 x (omega arith) (omega arith)))
      (rising_insert id_of xs i y (rises_rest id_of x xs rises) (λ k d low inside. before (suc k) d (omega (arith, low)) (omega (arith, inside)))
      (λ k d high inside. behind (suc k) d (omega (arith, high)) (omega (arith, inside))))

  -- they rise with one that has the Id put there
  pub gap_rises : (id_of : X → Id) (xs : List X) (id : Id) (i : ℕ) (y : X) → are_rising id_of xs ≡ true → id_of y ≡ id → IsBinarySearchResult (λ x. id_order (id_of x) id) xs (Err i) → are_rising id_of (insert xs i y) ≡ true
  gap_rises id_of xs id i y rises same result =
      let point = result (searchable_from_sorted id_total id_of xs id (sorted id_of xs rises)) in
      rising_insert id_of xs i y rises
      (λ k d low inside. subst (λ (a : Id). is_before (id_of (get_or xs k d)) a ≡ true) (sym same) (less_before (id_of (get_or xs k d)) id (point.0 k d (omega arith) low)))
      (λ k d high inside. subst (λ (a : Id). is_before a (id_of (get_or xs k d)) ≡ true) (sym same) (more_before (id_of (get_or xs k d)) id (point.1 k d high inside)))

  -- ---- one more behind all others

  all_push : (test : X → Bool) (xs : List X) (y : X) → list_all test xs ≡ true → test y ≡ true → list_all test (xs ++ y ∷ []) ≡ true
  all_push test [] y all is = and_from _ _ is refl
  all_push test (x ∷ xs) y all is =
      let parts = and_parts (test x) (list_all test xs) all in
      and_from _ _ parts.0 (all_push test xs y parts.1 is)

  pub rising_push : (id_of : X → Id) (xs : List X) (y : X) → are_rising id_of xs ≡ true → list_all (λ x. is_before (id_of x) (id_of y)) xs ≡ true → are_rising id_of (xs ++ y ∷ []) ≡ true
  rising_push id_of [] y rises behind = refl
  rising_push id_of (x ∷ xs) y rises behind =
      let parts = and_parts (is_before (id_of x) (id_of y)) (list_all (λ x. is_before (id_of x) (id_of y)) xs) behind in
      and_from _ _ (all_push (λ (z : X). is_before (id_of x) (id_of z)) xs y (rises_first id_of x xs rises) parts.0) (rising_push id_of xs y (rises_rest id_of x xs rises) parts.1)

  -- ---- what is found and changed

  pub within : (id_of : X → Id) (xs : List X) (id : Id) (i : ℕ) → IsAt id_of xs id i → i < length xs
  within id_of [] id i at = absurd at
  within id_of (x ∷ xs) id zero at = omega arith
  within id_of (x ∷ xs) id (suc i) at = let rest = within id_of xs id i at.1 in omega (arith, rest)

  pub found_at : (id_of : X → Id) (xs : List X) (id : Id) (i : ℕ) (d : X) → IsAt id_of xs id i → find (λ x. same_id (id_of x) id) xs ≡ Some (get_or xs i d)
  found_at id_of [] id i d at = absurd at
  found_at id_of (x ∷ xs) id zero d at = rw at.0 refl
  found_at id_of (x ∷ xs) id (suc i) d at = rw at.0 (found_at id_of xs id i d at.1)

  pub none_found : (id_of : X → Id) (xs : List X) (id : Id) → IsNowhere id_of xs id → find (λ x. same_id (id_of x) id) xs ≡ None
  none_found id_of [] id nowhere = refl
  none_found id_of (x ∷ xs) id nowhere = rw nowhere.0 (none_found id_of xs id nowhere.1)

  pub nothing_changed : (id_of : X → Id) (f : X → X) (xs : List X) (id : Id) → IsNowhere id_of xs id → map (λ x. if same_id (id_of x) id then f x else x) xs ≡ xs
  nothing_changed id_of f [] id nowhere = refl
  nothing_changed id_of f (x ∷ xs) id nowhere = rw nowhere.0 (ap (λ (l : List X). x ∷ l) (nothing_changed id_of f xs id nowhere.1))

  pub changed_at : (id_of : X → Id) (f : X → X) (xs : List X) (id : Id) (i : ℕ) (d : X) → IsAt id_of xs id i → map (λ x. if same_id (id_of x) id then f x else x) xs ≡ set xs i (f (get_or xs i d))
  changed_at id_of f [] id i d at = absurd at
  changed_at id_of f (x ∷ xs) id zero d at = rw at.0 (ap (λ (l : List X). f x ∷ l) (nothing_changed id_of f xs id at.1))
  changed_at id_of f (x ∷ xs) id (suc i) d at = rw at.0 (ap (λ (l : List X). x ∷ l) (changed_at id_of f xs id i d at.1))

  -- ---- one that is changed, and keeps its Id

  all_set : (id_of : X → Id) (test : Id → Bool) (xs : List X) (i : ℕ) (x : X) → i < length xs → id_of (get_or xs i x) ≡ id_of x → list_all (λ (y : X). test (id_of y)) (set xs i x) ≡ list_all (λ (y : X). test (id_of y)) xs
  all_set id_of test [] i x within same = absurd (omega (arith, within))
  all_set id_of test (y ∷ ys) zero x within same = rw same refl
  all_set id_of test (y ∷ ys) (suc i) x within same = rw (all_set id_of test ys i x (omega (arith, within)) same) refl

  pub rising_set : (id_of : X → Id) (xs : List X) (i : ℕ) (x : X) → i < length xs → id_of (get_or xs i x) ≡ id_of x → are_rising id_of (set xs i x) ≡ are_rising id_of xs
  rising_set id_of [] i x within same = absurd (omega (arith, within))
  rising_set id_of (y ∷ ys) zero x within same = rw same refl
  rising_set id_of (y ∷ ys) (suc i) x within same =
      rw (all_set id_of (is_before (id_of y)) ys i x (omega (arith, within)) same, rising_set id_of ys i x (omega (arith, within)) same) refl
