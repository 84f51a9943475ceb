-- Things with Ids, by rising Id: one is taken out, changed and put back.
use Rattle.std.proofs.Common.{◌≡◌, ℕ, suc, ◌+◌, ◌<◌, ◌≤◌, not, Bool, true, false, List, [], ◌∷◌, ◌++◌, length, map, filter, get_or, sum_by, Option, Some, None, refl, sym, ◌∙◌, ap, subst, arith, inl, inr, ◌⊎◌}
use Rattle.std.specs.Prelude.{nat_lt, slice_get}
use Rattle.std.specs.List.{insert, list_all, position, position_or_len, prefix_len, remove}
use Rattle.std.specs.Option.{unwrap_or}
use Rattle.std.proofs.lemmas.Bool.{and_from, and_parts, cases_Bool, false_from_ne_true, ltb-false, ltb-true}
use Rattle.std.proofs.lemmas.List.Folds.{find_at}
use Rattle.std.proofs.lemmas.List.Sums.{prefix_len-le-length, sum_by-cons}
use Rattle.std.proofs.lemmas.Option.{none-some, same_Some, slice_get-get_or, slice_get_past}
use Rattle.ktm_base.specs.declared.id.Id.{Id}
use Rattle.ktm_world.specs.Durable.{is_before}
use Rattle.ktm_world.specs.Transactions.{same_id}
use Rattle.txf_laws.specs.Elements.{IsIn}
use Rattle.txf_laws.proofs.offered.Diamonds.{IsIn-right}
use Rattle.txf_laws.proofs.offered.Elements.{each_pair-filter, list_all-at, list_all-from}
use Rattle.txf_laws.proofs.offered.Sums.{sum-filter-less}
use Rattle.txf_laws.proofs.offered.Tables.{before_other, is_before-then, is_before-turned, same_id-equal, same_id-sym}
use Rattle.ktm_trace.specs.Placed.{Rises, at_id, placed, without_id}

-- ---- of each, what keeps its Id

pub map-placed : {X Y : Type 0} (id_x : X → Id) (id_y : Y → Id) (f : X → Y) → ((x : X) → id_y (f x) ≡ id_x x) → (xs : List X) (x : X) → map f (placed id_x xs x) ≡ placed id_y (map f xs) (f x)
map-placed id_x id_y f same [] x = refl
map-placed id_x id_y f same (a ∷ xs) x = elim (cases_Bool (same_id (id_x a) (id_x x))) [
  | inl is ↦ rw (same a, same x, is) refl
  | inr other ↦ elim (cases_Bool (is_before (id_x x) (id_x a))) [
    | inl before ↦ rw (same a, same x, other, before) refl
    | inr behind ↦ rw (same a, same x, other, behind) (ap (λ l. f a ∷ l) (map-placed id_x id_y f same xs x))
  ]
]

pub map-filter : {X Y : Type 0} (test : X → Bool) (test' : Y → Bool) (f : X → Y) → ((x : X) → test' (f x) ≡ test x) → (xs : List X) → map f (filter test xs) ≡ filter test' (map f xs)
map-filter test test' f same [] = refl
map-filter test test' f same (x ∷ xs) = elim (cases_Bool (test x)) [
  | inl is ↦ rw (same x, is) (ap (λ l. f x ∷ l) (map-filter test test' f same xs))
  | inr other ↦ rw (same x, other) (map-filter test test' f same xs)
]

-- the thing made of one, if there is one
abbrev pub made : {X Y : Type 0} → (X → Y) → Option X → Option Y
made f None = None
made f (Some x) = Some (f x)

pub map-at : {X Y : Type 0} (id_x : X → Id) (id_y : Y → Id) (f : X → Y) → ((x : X) → id_y (f x) ≡ id_x x) → (xs : List X) (id : Id) → at_id id_y (map f xs) id ≡ made f (at_id id_x xs id)
map-at id_x id_y f same [] id = refl
map-at id_x id_y f same (x ∷ xs) id = elim (cases_Bool (same_id (id_x x) id)) [
  | inl is ↦ rw (same x, is) refl
  | inr other ↦ rw (same x, other) (map-at id_x id_y f same xs id)
]

map-all : {X Y : Type 0} (test : X → Bool) (test' : Y → Bool) (f : X → Y) → ((x : X) → test' (f x) ≡ test x) → (xs : List X) → list_all test' (map f xs) ≡ list_all test xs
map-all test test' f same [] = refl
map-all test test' f same (x ∷ xs) = rw (same x, map-all test test' f same xs) refl

pub map-rises : {X Y : Type 0} (id_x : X → Id) (id_y : Y → Id) (f : X → Y) → ((x : X) → id_y (f x) ≡ id_x x) → (xs : List X) → Rises id_x xs → Rises id_y (map f xs)
map-rises id_x id_y f same [] rises = refl
map-rises id_x id_y f same (a ∷ xs) rises =
    let parts = and_parts (list_all (λ x. is_before (id_x a) (id_x x)) xs) _ rises in
    and_from _ _ (map-all (λ x. is_before (id_x a) (id_x x)) (λ y. is_before (id_y (f a)) (id_y y)) f (λ x i. is_before (same a i) (same x i)) xs ∙ parts.0) (map-rises id_x id_y f same xs parts.1)

-- ---- the index of the first that passes, or behind all

pub first-at : {X : Type 0} (p : X → Bool) (xs : List X) → unwrap_or (position p xs) (length xs) ≡ position_or_len p xs
first-at p xs = elim (cases_Bool (nat_lt (prefix_len (λ x. not (p x)) xs) (length xs))) [
  | inl within ↦ rw within refl
  | inr past ↦ rw past (omega (arith, ltb-false _ _ past, prefix_len-le-length (λ x. not (p x)) xs))
]

first-found : {X : Type 0} (p : X → Bool) (xs : List X) (i : ℕ) → Some i ≡ position p xs → (i ≡ position_or_len p xs) × (position_or_len p xs < length xs)
first-found p xs i found = elim (cases_Bool (nat_lt (prefix_len (λ x. not (p x)) xs) (length xs))) [
  | inl within ↦ (same_Some _ _ (rw within at found), ltb-true _ _ within)
  | inr past ↦ absurd (none-some i (sym (rw past at found)))
]

first-none : {X : Type 0} (p : X → Bool) (xs : List X) → None ≡ position p xs → length xs ≡ position_or_len p xs
first-none p xs none = elim (cases_Bool (nat_lt (prefix_len (λ x. not (p x)) xs) (length xs))) [
  | inl within ↦ absurd (none-some _ (rw within at none))
  | inr past ↦ omega (arith, ltb-false _ _ past, prefix_len-le-length (λ x. not (p x)) xs)
]

module _ {X : Type 0} (id_of : X → Id) where
  rises-first : (a : X) (xs : List X) → Rises id_of (a ∷ xs) → (x : X) → IsIn x xs → is_before (id_of a) (id_of x) ≡ true
  rises-first a xs rises x there = list_all-at (λ y. is_before (id_of a) (id_of y)) xs (and_parts (list_all (λ y. is_before (id_of a) (id_of y)) xs) _ rises).0 x there

  rises-rest : (a : X) (xs : List X) → Rises id_of (a ∷ xs) → Rises id_of xs
  rises-rest a xs rises = (and_parts (list_all (λ y. is_before (id_of a) (id_of y)) xs) _ rises).1

  -- an Id below those of others is none of theirs
  none-before : (id : Id) (xs : List X) → ((x : X) → IsIn x xs → is_before id (id_of x) ≡ true) → without_id id_of xs id ≡ xs
  none-before id [] first = refl
  none-before id (a ∷ xs) first =
      rw (false_from_ne_true (same_id (id_of a) id) (λ same. before_other id (id_of a) (first a (inl refl)) (sym (same_id-equal (id_of a) id same)))) (ap (λ l. a ∷ l) (none-before id xs (λ x there. first x (inr there))))

  -- behind the one with the Id there is no other
  behind-same : (a : X) (xs : List X) (id : Id) → Rises id_of (a ∷ xs) → same_id (id_of a) id ≡ true → (x : X) → IsIn x xs → is_before id (id_of x) ≡ true
  behind-same a xs id rises same x there = subst (λ i. is_before i (id_of x) ≡ true) (same_id-equal (id_of a) id same) (rises-first a xs rises x there)

  -- the one with an Id has it
  pub found-id : (xs : List X) (id : Id) (x : X) → at_id id_of xs id ≡ Some x → id_of x ≡ id
  found-id [] id x found = absurd (none-some x found)
  found-id (a ∷ xs) id x found = elim (cases_Bool (same_id (id_of a) id)) [
    | inl same ↦ ap id_of (sym (same_Some a x (rw same at found))) ∙ same_id-equal (id_of a) id same
    | inr other ↦ found-id xs id x (rw other at found)
  ]

  -- ---- taken out

  pub absent-without : (xs : List X) (id : Id) → at_id id_of xs id ≡ None → without_id id_of xs id ≡ xs
  absent-without [] id none = refl
  absent-without (a ∷ xs) id none = elim (cases_Bool (same_id (id_of a) id)) [
    | inl same ↦ absurd (none-some a (sym (rw same at none)))
    | inr other ↦ rw other (ap (λ l. a ∷ l) (absent-without xs id (rw other at none)))
  ]

  pub taken-none : (xs : List X) (id : Id) → at_id id_of (without_id id_of xs id) id ≡ None
  taken-none [] id = refl
  taken-none (a ∷ xs) id = elim (cases_Bool (same_id (id_of a) id)) [
    | inl same ↦ rw same (taken-none xs id)
    | inr other ↦ rw (other, other) (taken-none xs id)
  ]

  pub at-others : (xs : List X) (id i : Id) → same_id i id ≡ false → at_id id_of (without_id id_of xs id) i ≡ at_id id_of xs i
  at-others [] id i other = refl
  at-others (a ∷ xs) id i other = elim (cases_Bool (same_id (id_of a) id)) [
    | inl same ↦ rw (same, ap (λ j. same_id j i) (same_id-equal (id_of a) id same) ∙ same_id-sym i id other) (at-others xs id i other)
    | inr differs ↦ elim (cases_Bool (same_id (id_of a) i)) [
      | inl it ↦ rw (differs, it) refl
      | inr its ↦ rw (differs, its) (at-others xs id i other)
    ]
  ]

  without-placed : (xs : List X) (id : Id) → Rises id_of xs → position_or_len (λ x. same_id (id_of x) id) xs < length xs → without_id id_of xs id ≡ remove xs (position_or_len (λ x. same_id (id_of x) id) xs)
  without-placed [] id rises within = absurd (omega arith)
  without-placed (a ∷ xs) id rises within = elim (cases_Bool (same_id (id_of a) id)) [
    | inl same ↦ rw same (none-before id xs (behind-same a xs id rises same))
    | inr other ↦
        let more : 1 + prefix_len (λ x. not (same_id (id_of x) id)) xs ≡ suc (prefix_len (λ x. not (same_id (id_of x) id)) xs) = omega arith in
        let less : position_or_len (λ x. same_id (id_of x) id) xs < length xs = let within' = rw (other, more) at within in omega arith in
        rw (other, more) (ap (λ l. a ∷ l) (without-placed xs id (rises-rest a xs rises) less))
  ]

  -- what is taken out, and what is left
  pub record IsTaken (xs : List X) (id : Id) (i : ℕ) : Type 0 where
    pub within : i < length xs
    pub taken : (d : X) → at_id id_of xs id ≡ Some (get_or xs i d)
    pub rest : without_id id_of xs id ≡ remove xs i

  pub taken : (xs : List X) (id : Id) (i : ℕ) → Rises id_of xs → Some i ≡ position (λ x. same_id (id_of x) id) xs → IsTaken xs id i
  taken xs id i rises found =
      let is = first-found (λ x. same_id (id_of x) id) xs i found in
      let within : i < length xs = omega (arith, is.0, is.1) in
      record {
        within = within;
        taken = λ d. find_at (λ x. same_id (id_of x) id) xs ∙ ap (slice_get xs) (sym is.0) ∙ slice_get-get_or xs i d within;
        rest = without-placed xs id rises is.1 ∙ ap (remove xs) (sym is.0);
      }

  -- where there is none
  pub not-there : (xs : List X) (id : Id) → None ≡ position (λ x. same_id (id_of x) id) xs → at_id id_of xs id ≡ None
  not-there xs id none = find_at (λ x. same_id (id_of x) id) xs ∙ ap (slice_get xs) (sym (first-none (λ x. same_id (id_of x) id) xs none)) ∙ slice_get_past xs (length xs) (omega arith)

  -- ---- put at its place

  pub placed-absent : (xs : List X) (x : X) → at_id id_of xs (id_of x) ≡ None → placed id_of xs x ≡ insert xs (position_or_len (λ y. is_before (id_of x) (id_of y)) xs) x
  placed-absent [] x none = refl
  placed-absent (a ∷ xs) x none = elim (cases_Bool (same_id (id_of a) (id_of x))) [
    | inl same ↦ absurd (none-some a (sym (rw same at none)))
    | inr other ↦ elim (cases_Bool (is_before (id_of x) (id_of a))) [
      | inl before ↦ rw (other, before) refl
      | inr behind ↦
          let more : 1 + prefix_len (λ y. not (is_before (id_of x) (id_of y))) xs ≡ suc (prefix_len (λ y. not (is_before (id_of x) (id_of y))) xs) = omega arith in
          rw (other, behind, more) (ap (λ l. a ∷ l) (placed-absent xs x (rw other at none)))
    ]
  ]

  placed-first : (xs : List X) (x : X) → ((y : X) → IsIn y xs → is_before (id_of x) (id_of y) ≡ true) → placed id_of xs x ≡ x ∷ xs
  placed-first [] x first = refl
  placed-first (a ∷ xs) x first =
      let before = first a (inl refl) in
      rw (false_from_ne_true (same_id (id_of a) (id_of x)) (λ same. before_other (id_of x) (id_of a) before (sym (same_id-equal (id_of a) (id_of x) same))), before) refl

  -- behind those that it is behind, it is new, and its place is at the end
  pub record IsLast (xs : List X) (x : X) : Type 0 where
    pub new : at_id id_of xs (id_of x) ≡ None
    pub placed_last : placed id_of xs x ≡ xs ++ x ∷ []

  pub last : (xs ys : List X) (x : X) → Rises id_of (xs ++ x ∷ ys) → IsLast xs x
  last [] ys x rises = record { new = refl; placed_last = refl }
  last (a ∷ xs) ys x rises =
      let before = rises-first a (xs ++ x ∷ ys) rises x (IsIn-right x xs (x ∷ ys) (inl refl)) in
      let other = false_from_ne_true (same_id (id_of a) (id_of x)) (λ same. before_other (id_of a) (id_of x) before (same_id-equal (id_of a) (id_of x) same)) in
      let behind = false_from_ne_true (is_before (id_of x) (id_of a)) (λ turned. before_other (id_of a) (id_of a) (is_before-then (id_of a) (id_of x) (id_of a) before turned) refl) in
      let rest = last xs ys x (rises-rest a (xs ++ x ∷ ys) rises) in
      record { new = rw other rest.new; placed_last = rw (other, behind) (ap (λ l. a ∷ l) rest.placed_last) }

  -- put back once it was taken out
  pub placed-without : (xs : List X) (x : X) → Rises id_of xs → placed id_of (without_id id_of xs (id_of x)) x ≡ placed id_of xs x
  placed-without [] x rises = refl
  placed-without (a ∷ xs) x rises = elim (cases_Bool (same_id (id_of a) (id_of x))) [
    | inl same ↦
        let first = behind-same a xs (id_of x) rises same in
        rw same (ap (λ ys. placed id_of ys x) (none-before (id_of x) xs first) ∙ placed-first xs x first)
    | inr other ↦ elim (cases_Bool (is_before (id_of x) (id_of a))) [
      | inl before ↦
          rw (other, other, before) (ap (λ ys. x ∷ a ∷ ys) (none-before (id_of x) xs (λ y there. is_before-then (id_of x) (id_of a) (id_of y) before (rises-first a xs rises y there))))
      | inr behind ↦ rw (other, other, behind) (ap (λ ys. a ∷ ys) (placed-without xs x (rises-rest a xs rises)))
    ]
  ]

  IsIn-placed : (xs : List X) (x y : X) → IsIn y (placed id_of xs x) → (y ≡ x) ⊎ IsIn y xs
  IsIn-placed [] x y (inl is) = inl (sym is)
  IsIn-placed [] x y (inr none) = absurd none
  IsIn-placed (a ∷ xs) x y there = elim (cases_Bool (same_id (id_of a) (id_of x))) [
    | inl same ↦ let there' : IsIn y (x ∷ xs) = rw same at there in elim there' [ inl is ↦ inl (sym is) | inr later ↦ inr (inr later) ]
    | inr other ↦ elim (cases_Bool (is_before (id_of x) (id_of a))) [
      | inl before ↦ let there' : IsIn y (x ∷ a ∷ xs) = rw (other, before) at there in elim there' [ inl is ↦ inl (sym is) | inr later ↦ inr later ]
      | inr behind ↦
          let there' : IsIn y (a ∷ placed id_of xs x) = rw (other, behind) at there in
          elim there' [ inl is ↦ inr (inl is) | inr later ↦ elim (IsIn-placed xs x y later) [ inl is ↦ inl is | inr old ↦ inr (inr old) ] ]
    ]
  ]

  pub rises-placed : (xs : List X) (x : X) → Rises id_of xs → Rises id_of (placed id_of xs x)
  rises-placed [] x rises = refl
  rises-placed (a ∷ xs) x rises = elim (cases_Bool (same_id (id_of a) (id_of x))) [
    | inl same ↦ rw same (and_from _ _ (list_all-from (λ y. is_before (id_of x) (id_of y)) xs (behind-same a xs (id_of x) rises same)) (rises-rest a xs rises))
    | inr other ↦ elim (cases_Bool (is_before (id_of x) (id_of a))) [
      | inl before ↦ rw (other, before) (and_from _ _
          (and_from _ _ before (list_all-from (λ y. is_before (id_of x) (id_of y)) xs (λ y there. is_before-then (id_of x) (id_of a) (id_of y) before (rises-first a xs rises y there))))
          rises)
      | inr behind ↦ rw (other, behind) (and_from _ _
          (list_all-from (λ y. is_before (id_of a) (id_of y)) (placed id_of xs x) (λ y there. elim (IsIn-placed xs x y there) [
            | inl is ↦ subst (λ z. is_before (id_of a) (id_of z) ≡ true) (sym is) (is_before-turned (id_of a) (id_of x) other behind)
            | inr old ↦ rises-first a xs rises y old
          ]))
          (rises-placed xs x (rises-rest a xs rises)))
    ]
  ]

  pub rises-filter : (keep : X → Bool) (xs : List X) → Rises id_of xs → Rises id_of (filter keep xs)
  rises-filter keep xs rises = each_pair-filter (λ x y. is_before (id_of x) (id_of y)) keep xs rises

  -- ---- sums over them, and how many there are

  pub sum-placed : (f : X → ℕ) (xs : List X) (x : X) → sum_by f (placed id_of xs x) ≤ sum_by f xs + f x
  sum-placed f [] x = let one = sum_by-cons f x [] in omega arith
  sum-placed f (a ∷ xs) x =
      let old = sum_by-cons f a xs in
      elim (cases_Bool (same_id (id_of a) (id_of x))) [
        | inl same ↦ rw same (let new = sum_by-cons f x xs in omega arith)
        | inr other ↦ elim (cases_Bool (is_before (id_of x) (id_of a))) [
          | inl before ↦ rw (other, before) (let new = sum_by-cons f x (a ∷ xs) in omega arith)
          | inr behind ↦ rw (other, behind) (let rest = sum-placed f xs x in let new = sum_by-cons f a (placed id_of xs x) in omega arith)
        ]
      ]

  sum-taken : (f : X → ℕ) (xs : List X) (id : Id) (x : X) → at_id id_of xs id ≡ Some x → sum_by f (without_id id_of xs id) + f x ≤ sum_by f xs
  sum-taken f [] id x found = absurd (none-some x found)
  sum-taken f (a ∷ xs) id x found =
      let old = sum_by-cons f a xs in
      elim (cases_Bool (same_id (id_of a) id)) [
        | inl same ↦
            let it = ap f (same_Some a x (rw same at found)) in
            let rest = sum-filter-less f (λ y. not (same_id (id_of y) id)) xs in
            rw same (omega arith)
        | inr other ↦
            let rest = sum-taken f xs id x (rw other at found) in
            let new = sum_by-cons f a (without_id id_of xs id) in
            rw other (omega arith)
      ]

  -- one is put in place of the one with its Id
  pub sum-changed : (f : X → ℕ) (xs : List X) (x y : X) → Rises id_of xs → at_id id_of xs (id_of x) ≡ Some y → sum_by f (placed id_of xs x) + f y ≤ sum_by f xs + f x
  sum-changed f xs x y rises found =
      let back = ap (sum_by f) (placed-without xs x rises) in
      let put = sum-placed f (without_id id_of xs (id_of x)) x in
      let left = sum-taken f xs (id_of x) y found in
      omega arith

  length-sum : (xs : List X) → sum_by (λ x. 1) xs ≡ length xs
  length-sum [] = refl
  length-sum (x ∷ xs) = let one = sum_by-cons (λ y. 1) x xs in let rest = length-sum xs in omega arith

  pub length-placed : (xs : List X) (x : X) → length (placed id_of xs x) ≤ length xs + 1
  length-placed xs x =
      let put = sum-placed (λ y. 1) xs x in
      let new = length-sum (placed id_of xs x) in
      let old = length-sum xs in
      omega arith

  pub length-changed : (xs : List X) (x y : X) → Rises id_of xs → at_id id_of xs (id_of x) ≡ Some y → length (placed id_of xs x) ≤ length xs
  length-changed xs x y rises found =
      let put = sum-changed (λ z. 1) xs x y rises found in
      let new = length-sum (placed id_of xs x) in
      let old = length-sum xs in
      omega arith

  -- ---- what is not there

  -- no other Id is there once one is put at its place, and was not there before
  pub at-placed : (xs : List X) (x : X) (i : Id) → at_id id_of (placed id_of xs x) i ≡ None → (same_id (id_of x) i ≡ false) × (at_id id_of xs i ≡ None)
  at-placed [] x i none = elim (cases_Bool (same_id (id_of x) i)) [
    | inl is ↦ absurd (none-some x (sym (rw is at none)))
    | inr other ↦ (other, refl)
  ]
  at-placed (a ∷ xs) x i none = elim (cases_Bool (same_id (id_of a) (id_of x))) [
    | inl same ↦
        let none' : at_id id_of (x ∷ xs) i ≡ None = rw same at none in
        elim (cases_Bool (same_id (id_of x) i)) [
          | inl is ↦ absurd (none-some x (sym (rw is at none')))
          | inr other ↦ (other, rw (ap (λ j. same_id j i) (same_id-equal (id_of a) (id_of x) same) ∙ other) (rw other at none'))
        ]
    | inr differs ↦ elim (cases_Bool (is_before (id_of x) (id_of a))) [
      | inl before ↦
          let none' : at_id id_of (x ∷ a ∷ xs) i ≡ None = rw (differs, before) at none in
          elim (cases_Bool (same_id (id_of x) i)) [
            | inl is ↦ absurd (none-some x (sym (rw is at none')))
            | inr other ↦ (other, rw other at none')
          ]
      | inr behind ↦
          let none' : at_id id_of (a ∷ placed id_of xs x) i ≡ None = rw (differs, behind) at none in
          elim (cases_Bool (same_id (id_of a) i)) [
            | inl is ↦ absurd (none-some a (sym (rw is at none')))
            | inr other ↦ let rest = at-placed xs x i (rw other at none') in (rest.0, rw other rest.1)
          ]
    ]
  ]
