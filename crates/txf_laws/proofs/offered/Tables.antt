-- Transactions by rising Id: what is so of each, and of each two, stays so where one is taken out, changed or added.
use Rattle.std.proofs.Common.{◌≡◌, ◌<◌, ◌==◌, Bool, true, false, List, [], ◌∷◌, filter, Some, None, refl, sym, ◌∙◌, ap, subst, arith, inl, inr, ◌⊎◌}
use Rattle.std.proofs.lemmas.Bool.{cases_Bool, cases_order, eq-eqb, eqb-true, ltb-true, lt-ltb, and_parts, and_from, or_cases, or_left, or_right, true≢false, false_from_ne_true}
use Rattle.std.proofs.lemmas.Option.{none-some, same_Some}
use Rattle.std.specs.List.{list_all}
use Rattle.ktm_base.specs.declared.id.Id.{Id}
use Rattle.ktm_world.specs.declared.recorded.Stage.{Stage}
use Rattle.ktm_world.specs.Durable.{Recorded, is_before, recorded_at, recorded_or_new, with_recorded}
use Rattle.ktm_world.specs.Transactions.{same_id}
use Rattle.txf_laws.specs.Elements.{IsIn, each_pair}
use Rattle.txf_laws.proofs.offered.Elements.{IsIn-filter, list_all-at, list_all-from, each_pair-filter}

-- ---- Ids

pub same_id-equal : (a b : Id) → same_id a b ≡ true → a ≡ b
same_id-equal a b same =
    let parts = and_parts (a.boot == b.boot) (a.number == b.number) same in
    let boot : a.boot ≡ b.boot = eqb-true _ _ parts.0 in
    let number : a.number ≡ b.number = eqb-true _ _ parts.1 in
    λ i. record { boot = boot i; number = number i }

pub same_id-from : (a b : Id) → a ≡ b → same_id a b ≡ true
same_id-from a b e = subst (λ (x : Id). same_id a x ≡ true) e (and_from _ _ (eq-eqb a.boot a.boot refl) (eq-eqb a.number a.number refl))

pub same_id-sym : (a b : Id) → same_id a b ≡ false → same_id b a ≡ false
same_id-sym a b other = false_from_ne_true _ (λ same. true≢false (sym (same_id-from a b (sym (same_id-equal b a same))) ∙ other))

pub other_id : (a b : Id) → same_id a b ≡ false → a ≡ b → ⊥
other_id a b other e = true≢false (sym (same_id-from a b e) ∙ other)

abbrev Before : Id → Id → Type 0
Before a b = (a.boot < b.boot) ⊎ ((a.boot ≡ b.boot) × (a.number < b.number))

Before-from : (a b : Id) → is_before a b ≡ true → Before a b
Before-from a b is = elim (or_cases _ _ is) [
  | inl less ↦ inl (ltb-true _ _ less)
  | inr rest ↦ let parts = and_parts (a.boot == b.boot) _ rest in inr (eqb-true _ _ parts.0, ltb-true _ _ parts.1)
]

is_before-from : (a b : Id) → Before a b → is_before a b ≡ true
is_before-from a b (inl less) = or_left _ _ (lt-ltb a.boot b.boot less)
is_before-from a b (inr rest) = or_right _ _ (and_from _ _ (eq-eqb a.boot b.boot rest.0) (lt-ltb a.number b.number rest.1))

pub is_before-then : (a b c : Id) → is_before a b ≡ true → is_before b c ≡ true → is_before a c ≡ true
is_before-then a b c first second = is_before-from a c (elim (Before-from a b first) [
  | inl less ↦ elim (Before-from b c second) [ inl less' ↦ inl (omega arith) | inr rest ↦ inl (omega (arith, rest.0)) ]
  | inr rest ↦ elim (Before-from b c second) [ inl less ↦ inl (omega (arith, rest.0)) | inr rest' ↦ inr (rest.0 ∙ rest'.0, omega (arith, rest.1, rest'.1)) ]
])

pub before_other : (a b : Id) → is_before a b ≡ true → a ≡ b → ⊥
before_other a b is e = go (Before-from a a (subst (λ (x : Id). is_before a x ≡ true) (sym e) is))
  where
    go : Before a a → ⊥
    go (inl less) = omega arith
    go (inr rest) = omega (arith, rest.1)

pub is_before-turned : (a b : Id) → same_id a b ≡ false → is_before b a ≡ false → is_before a b ≡ true
is_before-turned a b other behind = elim (cases_order a.boot b.boot) [
  | inl boot ↦ elim (cases_order a.number b.number) [
    | inl number ↦ absurd (true≢false (sym (and_from _ _ (eq-eqb a.boot b.boot boot) (eq-eqb a.number b.number number)) ∙ other))
    | inr (inl less) ↦ is_before-from a b (inr (boot, less))
    | inr (inr more) ↦ absurd (true≢false (sym (is_before-from b a (inr (sym boot, more))) ∙ behind))
  ]
  | inr (inl less) ↦ is_before-from a b (inl less)
  | inr (inr more) ↦ absurd (true≢false (sym (is_before-from b a (inl more)) ∙ behind))
]

-- ---- by rising Id

-- does the first transaction come before the second
abbrev pub is_earlier : Recorded → Recorded → Bool
is_earlier t u = is_before t.id u.id

abbrev pub Rises : List Recorded → Type 0
Rises ts = each_pair is_earlier ts ≡ true

-- the transactions behind the first one
pub rises-first : (a : Recorded) (ts : List Recorded) → Rises (a ∷ ts) → (u : Recorded) → IsIn u ts → is_before a.id u.id ≡ true
rises-first a ts rises u there = list_all-at (is_earlier a) ts (and_parts (list_all (is_earlier a) ts) (each_pair is_earlier ts) rises).0 u there

pub rises-rest : (a : Recorded) (ts : List Recorded) → Rises (a ∷ ts) → Rises ts
rises-rest a ts rises = (and_parts (list_all (is_earlier a) ts) (each_pair is_earlier ts) rises).1

pub IsIn-with_recorded : (ts : List Recorded) (t x : Recorded) → Rises ts → IsIn x (with_recorded ts t) → (x ≡ t) ⊎ (IsIn x ts × (x.id ≡ t.id → ⊥))
IsIn-with_recorded [] t x rises (inl e) = inl (sym e)
IsIn-with_recorded [] t x rises (inr none) = absurd none
IsIn-with_recorded (a ∷ ts) t x rises there = elim (cases_Bool (same_id a.id t.id)) [
  | inl same ↦
      let there' : IsIn x (t ∷ ts) = rw same at there in
      elim there' [
        | inl e ↦ inl (sym e)
        | inr later ↦ inr (inr later, λ e. before_other a.id x.id (rises-first a ts rises x later) (same_id-equal a.id t.id same ∙ sym e))
      ]
  | inr other ↦ elim (cases_Bool (is_before t.id a.id)) [
    | inl before ↦
        let there' : IsIn x (t ∷ a ∷ ts) = rw (other, before) at there in
        elim there' [
          | inl e ↦ inl (sym e)
          | inr (inl e) ↦ inr (inl e, λ e'. other_id a.id t.id other (ap (λ (r : Recorded). r.id) e ∙ e'))
          | inr (inr later) ↦ inr (inr later, λ e. before_other t.id x.id (is_before-then t.id a.id x.id before (rises-first a ts rises x later)) (sym e))
        ]
    | inr behind ↦
        let there' : IsIn x (a ∷ with_recorded ts t) = rw (other, behind) at there in
        elim there' [
          | inl e ↦ inr (inl e, λ e'. other_id a.id t.id other (ap (λ (r : Recorded). r.id) e ∙ e'))
          | inr later ↦ elim (IsIn-with_recorded ts t x (rises-rest a ts rises) later) [ inl e ↦ inl e | inr (there, differs) ↦ inr (inr there, differs) ]
        ]
  ]
]

pub IsIn-with_recorded-itself : (ts : List Recorded) (t : Recorded) → IsIn t (with_recorded ts t)
IsIn-with_recorded-itself [] t = inl refl
IsIn-with_recorded-itself (a ∷ ts) t = elim (cases_Bool (same_id a.id t.id)) [
  | inl same ↦ rw same (inl refl)
  | inr other ↦ elim (cases_Bool (is_before t.id a.id)) [
    | inl before ↦ rw (other, before) (inl refl)
    | inr behind ↦ rw (other, behind) (inr (IsIn-with_recorded-itself ts t))
  ]
]

pub IsIn-with_recorded-other : (ts : List Recorded) (t u : Recorded) → IsIn u ts → (u.id ≡ t.id → ⊥) → IsIn u (with_recorded ts t)
IsIn-with_recorded-other [] t u there differs = absurd there
IsIn-with_recorded-other (a ∷ ts) t u there differs = elim (cases_Bool (same_id a.id t.id)) [
  | inl same ↦ rw same (elim there [ inl e ↦ absurd (differs (ap (λ (r : Recorded). r.id) (sym e) ∙ same_id-equal a.id t.id same)) | inr later ↦ inr later ])
  | inr other ↦ elim (cases_Bool (is_before t.id a.id)) [
    | inl before ↦ rw (other, before) (inr there)
    | inr behind ↦ rw (other, behind) (elim there [ inl e ↦ inl e | inr later ↦ inr (IsIn-with_recorded-other ts t u later differs) ])
  ]
]

pub Rises-with_recorded : (ts : List Recorded) (t : Recorded) → Rises ts → Rises (with_recorded ts t)
Rises-with_recorded [] t rises = refl
Rises-with_recorded (a ∷ ts) t rises = elim (cases_Bool (same_id a.id t.id)) [
  | inl same ↦ rw same (and_from _ _
      (list_all-from (is_earlier t) ts (λ u there. subst (λ (id : Id). is_before id u.id ≡ true) (same_id-equal a.id t.id same) (rises-first a ts rises u there)))
      (rises-rest a ts rises))
  | inr other ↦ elim (cases_Bool (is_before t.id a.id)) [
    | inl before ↦ rw (other, before) (and_from _ _
        (and_from _ _ before (list_all-from (is_earlier t) ts (λ u there. is_before-then t.id a.id u.id before (rises-first a ts rises u there))))
        rises)
    | inr behind ↦ rw (other, behind) (and_from _ _
        (list_all-from (is_earlier a) (with_recorded ts t) (λ u there. elim (IsIn-with_recorded ts t u (rises-rest a ts rises) there) [
          | inl e ↦ subst (λ (r : Recorded). is_before a.id r.id ≡ true) (sym e) (is_before-turned a.id t.id other behind)
          | inr (here, differs) ↦ rises-first a ts rises u here
        ]))
        (Rises-with_recorded ts t (rises-rest a ts rises)))
  ]
]

-- ---- the transaction with an Id

pub recorded_at-found : (ts : List Recorded) (id : Id) (t : Recorded) → recorded_at ts id ≡ Some t → IsIn t ts × (t.id ≡ id)
recorded_at-found [] id t found = absurd (none-some t found)
recorded_at-found (a ∷ ts) id t found = elim (cases_Bool (same_id a.id id)) [
  | inl same ↦ let e : a ≡ t = same_Some a t (rw same at found) in (inl e, ap (λ (r : Recorded). r.id) (sym e) ∙ same_id-equal a.id id same)
  | inr other ↦ let rest = recorded_at-found ts id t (rw other at found) in (inr rest.0, rest.1)
]

pub recorded_at-there : (ts : List Recorded) → Rises ts → (t : Recorded) → IsIn t ts → recorded_at ts t.id ≡ Some t
recorded_at-there [] rises t there = absurd there
recorded_at-there (a ∷ ts) rises t (inl e) = rw (same_id-from a.id t.id (ap (λ (r : Recorded). r.id) e)) (ap Some e)
recorded_at-there (a ∷ ts) rises t (inr there) =
    rw (false_from_ne_true (same_id a.id t.id) (λ same. before_other a.id t.id (rises-first a ts rises t there) (same_id-equal a.id t.id same)))
    (recorded_at-there ts (rises-rest a ts rises) t there)

-- a transaction of which nothing is recorded yet
abbrev pub fresh : Id → Recorded
fresh id = record { id = id; stage = Stage.Ready; superior = None; parts = [] }

-- a transaction with the Id that is one of the list, or nothing of it is recorded yet
abbrev pub KnownOrNew : List Recorded → Id → Recorded → Type 0
KnownOrNew ts id t = (IsIn t ts × (t.id ≡ id)) ⊎ (t ≡ fresh id)

pub recorded_or_new-cases : (ts : List Recorded) (id : Id) → KnownOrNew ts id (recorded_or_new ts id)
recorded_or_new-cases [] id = inr refl
recorded_or_new-cases (a ∷ ts) id = elim (cases_Bool (same_id a.id id)) [
  | inl same ↦ subst (KnownOrNew (a ∷ ts) id) (sym (rw same refl)) (inl (inl refl, same_id-equal a.id id same))
  | inr other ↦ subst (KnownOrNew (a ∷ ts) id) (sym (rw other refl)) (deeper (recorded_or_new ts id) (recorded_or_new-cases ts id))
]
  where
    deeper : (t : Recorded) → KnownOrNew ts id t → KnownOrNew (a ∷ ts) id t
    deeper t (inl known) = inl (inr known.0, known.1)
    deeper t (inr new) = inr new

-- ---- what is so of each transaction, and of each two

pub record Table (Fit : Recorded → Type 0) (Beside : Recorded → Recorded → Type 0) (ts : List Recorded) : Type 0 where
  pub rises : Rises ts
  pub fit : (t : Recorded) → IsIn t ts → Fit t
  pub beside : (t u : Recorded) → IsIn t ts → IsIn u ts → (t.id ≡ u.id → ⊥) → Beside t u

-- of the transactions that pass a test, where what is so may have changed
pub Table-filter : (Fit : Recorded → Type 0) (Beside : Recorded → Recorded → Type 0) (Fit' : Recorded → Type 0) (Beside' : Recorded → Recorded → Type 0) (keep : Recorded → Bool)
    (ts : List Recorded) → Table Fit Beside ts
    → ((t : Recorded) → IsIn t ts → keep t ≡ true → Fit t → Fit' t)
    → ((t u : Recorded) → IsIn t ts → IsIn u ts → keep t ≡ true → keep u ≡ true → (t.id ≡ u.id → ⊥) → Beside t u → Beside' t u)
    → Table Fit' Beside' (filter keep ts)
Table-filter Fit Beside Fit' Beside' keep ts table fits beside = record {
  rises = each_pair-filter is_earlier keep ts table.rises;
  fit = λ t there. let in_ts = IsIn-filter keep ts t there in fits t in_ts.0 in_ts.1 (table.fit t in_ts.0);
  beside = λ t u there there' other.
      let in_ts = IsIn-filter keep ts t there in
      let in_ts' = IsIn-filter keep ts u there' in
      beside t u in_ts.0 in_ts'.0 in_ts.1 in_ts'.1 other (table.beside t u in_ts.0 in_ts'.0 other);
}

-- of all of them
pub Table-map : (Fit : Recorded → Type 0) (Beside : Recorded → Recorded → Type 0) (Fit' : Recorded → Type 0) (Beside' : Recorded → Recorded → Type 0)
    (ts : List Recorded) → Table Fit Beside ts
    → ((t : Recorded) → IsIn t ts → Fit t → Fit' t) → ((t u : Recorded) → IsIn t ts → IsIn u ts → (t.id ≡ u.id → ⊥) → Beside t u → Beside' t u) → Table Fit' Beside' ts
Table-map Fit Beside Fit' Beside' ts table fits beside = record {
  rises = table.rises;
  fit = λ t there. fits t there (table.fit t there);
  beside = λ t u there there' other. beside t u there there' other (table.beside t u there there' other);
}

-- with one changed or added
pub Table-with : (Fit : Recorded → Type 0) (Beside : Recorded → Recorded → Type 0) (Fit' : Recorded → Type 0) (Beside' : Recorded → Recorded → Type 0)
    (ts : List Recorded) (t : Recorded) → Table Fit Beside ts
    → ((u : Recorded) → IsIn u ts → (u.id ≡ t.id → ⊥) → Fit u → Fit' u)
    → ((u v : Recorded) → IsIn u ts → IsIn v ts → (u.id ≡ t.id → ⊥) → (v.id ≡ t.id → ⊥) → Beside u v → Beside' u v)
    → Fit' t → ((u : Recorded) → IsIn u ts → (u.id ≡ t.id → ⊥) → Beside' t u × Beside' u t) → Table Fit' Beside' (with_recorded ts t)
Table-with Fit Beside Fit' Beside' ts t table fits beside fit sides = record {
  rises = Rises-with_recorded ts t table.rises;
  fit = λ x there. elim (IsIn-with_recorded ts t x table.rises there) [ inl e ↦ subst Fit' (sym e) fit | inr (here, other) ↦ fits x here other (table.fit x here) ];
  beside = λ x y there there' differ. elim (IsIn-with_recorded ts t x table.rises there) [
    | inl e ↦ elim (IsIn-with_recorded ts t y table.rises there') [
      | inl e' ↦ absurd (differ (ap (λ (r : Recorded). r.id) (e ∙ sym e')))
      | inr (here, other) ↦ subst (λ z. Beside' z y) (sym e) (sides y here other).0
    ]
    | inr (here, other) ↦ elim (IsIn-with_recorded ts t y table.rises there') [
      | inl e' ↦ subst (λ z. Beside' x z) (sym e') (sides x here other).1
      | inr (here', other') ↦ beside x y here here' other other' (table.beside x y here here' differ)
    ]
  ];
}
