-- What is made: handles, transactions, resource managers and enlistments, each with the next Id.
use Rattle.std.proofs.Common.{◌≡◌, ℕ, ◌+◌, ◌≤◌, ◌==◌, ◌&&◌, ◌||◌, Bool, true, false, List, [], ◌∷◌, ◌++◌, filter, nat_lt, nat_le, is_some, refl, sym, ◌∙◌, ap, subst, arith, inl, inr, ◌⊎◌}
use Rattle.std.proofs.lemmas.Bool.{cases_Bool, cases_order, and_parts, and_from, and_left, and_right, or_cases, or_left, or_right, or_from, eq-eqb, eqb-true, lt-ltb, ltb-true, le-leb, leb-true, true≢false, not_from_false, false_from_ne_true}
use Rattle.std.specs.List.{list_any, list_all}
use Rattle.ktm_base.specs.declared.limits.TheConstants.{MOST_NUMBER}
use Rattle.ktm_base.specs.declared.id.Id.{Id}
use Rattle.ktm_base.specs.declared.id.Label.{Label}
use Rattle.ktm_base.specs.declared.id.Pid.{Pid}
use Rattle.ktm_world.specs.declared.object.Handle.{Handle}
use Rattle.ktm_world.specs.declared.object.Object.{Object}
use Rattle.ktm_world.specs.Durable.{is_before}
use Rattle.ktm_world.specs.Enlistments.{Enlistment, is_superior, superior_of}
use Rattle.ktm_world.specs.Handles.{object_at}
use Rattle.ktm_world.specs.Present.{Present}
use Rattle.ktm_world.specs.Transactions.{same_id}
use Rattle.txf_laws.specs.Elements.{IsIn, each_pair}
use Rattle.ktm_courses.specs.SoundCourse.{IsSoundCourse, is_counted, have_labels_apart, is_there}
use Rattle.txf_laws.proofs.offered.Lists.{IsIn-cases}
use Rattle.txf_laws.proofs.offered.Elements.{list_all-at, list_all-from, each_pair-append}

-- ---- one more at the end

pub list_all-push : {X : Type 0} (test : X → Bool) (xs : List X) (x : X) → list_all test xs ≡ true → test x ≡ true → list_all test (xs ++ x ∷ []) ≡ true
list_all-push test [] x all is = and_from _ _ is refl
list_all-push test (y ∷ ys) x all is = let parts = and_parts (test y) (list_all test ys) all in and_from _ _ parts.0 (list_all-push test ys x parts.1 is)

pub list_any-push : {X : Type 0} (test : X → Bool) (xs : List X) (x : X) → list_any test xs ≡ true → list_any test (xs ++ x ∷ []) ≡ true
list_any-push test [] x some = absurd (true≢false (sym some))
list_any-push test (y ∷ ys) x some = elim (or_cases (test y) (list_any test ys) some) [ inl is ↦ or_left _ _ is | inr rest ↦ or_right _ _ (list_any-push test ys x rest) ]

-- the last one passes
pub list_any-last : {X : Type 0} (test : X → Bool) (xs : List X) (x : X) → test x ≡ true → list_any test (xs ++ x ∷ []) ≡ true
list_any-last test [] x is = or_left _ _ is
list_any-last test (y ∷ ys) x is = or_right _ _ (list_any-last test ys x is)

-- the last one does not pass
pub list_any-silent : {X : Type 0} (test : X → Bool) (xs : List X) (x : X) → test x ≡ false → list_any test (xs ++ x ∷ []) ≡ list_any test xs
list_any-silent test [] x fails = or_from _ _ fails refl
list_any-silent test (y ∷ ys) x fails = ap (λ b. test y || b) (list_any-silent test ys x fails)

pub filter-silent : {X : Type 0} (test : X → Bool) (xs : List X) (x : X) → test x ≡ false → filter test (xs ++ x ∷ []) ≡ filter test xs
filter-silent test [] x fails = rw fails refl
filter-silent test (y ∷ ys) x fails = elim (cases_Bool (test y)) [ inl is ↦ rw (is) (ap (λ zs. y ∷ zs) (filter-silent test ys x fails)) | inr other ↦ rw other (filter-silent test ys x fails) ]

pub superior-silent : (id : Id) (es : List Enlistment) (e : Enlistment) → (same_id e.transaction id && is_superior e) ≡ false → superior_of (es ++ e ∷ []) id ≡ superior_of es id
superior-silent id [] e fails = rw fails refl
superior-silent id (f ∷ es) e fails = elim (cases_Bool (same_id f.transaction id && is_superior f)) [ inl is ↦ rw is refl | inr other ↦ rw other (superior-silent id es e fails) ]

pub each_pair-push : {X : Type 0} (test : X → X → Bool) (xs : List X) (x : X) → each_pair test xs ≡ true → ((y : X) → IsIn y xs → test y x ≡ true) → each_pair test (xs ++ x ∷ []) ≡ true
each_pair-push test xs x pairs each = each_pair-append test xs (x ∷ []) pairs refl (λ y z there last. elim last [ inl e ↦ subst (λ w. test y w ≡ true) e (each y there) | inr none ↦ absurd none ])

-- ---- the next Id

-- the Id of this boot behind the last one
abbrev pub next_id : ℕ → ℕ → Id
next_id boot last = record { boot = boot; number = last + 1 }

pub counted-parts : (boot last : ℕ) (id : Id) → is_counted boot last id ≡ true → (nat_le 1 id.boot ≡ true) × (nat_le id.boot boot ≡ true) × (nat_le 1 id.number ≡ true) × (nat_le id.number MOST_NUMBER ≡ true) × ((nat_lt id.boot boot || nat_le id.number last) ≡ true)
counted-parts boot last id is =
    let d = and_parts _ (nat_lt id.boot boot || nat_le id.number last) is in
    let c = and_parts _ (nat_le id.number MOST_NUMBER) d.0 in
    let b = and_parts _ (nat_le 1 id.number) c.0 in
    let a = and_parts (nat_le 1 id.boot) (nat_le id.boot boot) b.0 in
    (a.0, a.1, b.1, c.1, d.1)

-- Ids that were drawn come before the next one
pub counted-before : (boot last : ℕ) (id : Id) → is_counted boot last id ≡ true → is_before id (next_id boot last) ≡ true
counted-before boot last id is = let parts = counted-parts boot last id is in elim (or_cases (nat_lt id.boot boot) (nat_le id.number last) parts.4) [
  | inl earlier ↦ or_left _ _ earlier
  | inr number ↦ elim (cases_order id.boot boot) [
    | inl same ↦ or_right _ _ (and_from _ _ (eq-eqb id.boot boot same) (lt-ltb id.number (last + 1) (omega (arith, leb-true _ _ number))))
    | inr (inl less) ↦ or_left _ _ (lt-ltb id.boot boot less)
    | inr (inr more) ↦ absurd (omega (arith, more, leb-true _ _ parts.1))
  ]
]

-- Ids that were drawn are drawn still once the next one is
pub counted-more : (boot last : ℕ) (id : Id) → is_counted boot last id ≡ true → is_counted boot (last + 1) id ≡ true
counted-more boot last id is = let parts = counted-parts boot last id is in
    and_from _ _ (and_from _ _ (and_from _ _ (and_from _ _ parts.0 parts.1) parts.2) parts.3) (elim (or_cases (nat_lt id.boot boot) (nat_le id.number last) parts.4) [
      | inl earlier ↦ or_left _ _ earlier
      | inr number ↦ or_right _ _ (le-leb id.number (last + 1) (omega (arith, leb-true _ _ number)))
    ])

pub counted-next : (boot last : ℕ) → 1 ≤ boot → last + 1 ≤ MOST_NUMBER → is_counted boot (last + 1) (next_id boot last) ≡ true
counted-next boot last begun fits = and_from _ _
    (and_from _ _ (and_from _ _ (and_from _ _ (le-leb 1 boot begun) (le-leb boot boot (omega arith))) (le-leb 1 (last + 1) (omega arith))) (le-leb (last + 1) MOST_NUMBER fits))
    (or_right _ _ (le-leb (last + 1) (last + 1) (omega arith)))

-- none that was drawn is the next one
pub next-other : (boot last : ℕ) (id : Id) → is_counted boot last id ≡ true → same_id id (next_id boot last) ≡ false
next-other boot last id is = false_from_ne_true _ (λ same.
    let parts = counted-parts boot last id is in
    let both = and_parts (id.boot == boot) (id.number == (last + 1)) same in
    elim (or_cases (nat_lt id.boot boot) (nat_le id.number last) parts.4) [
      | inl earlier ↦ omega (arith, eqb-true _ _ both.0, ltb-true _ _ earlier)
      | inr number ↦ omega (arith, eqb-true _ _ both.1, leb-true _ _ number)
    ])

-- ---- handles

pub sound-handles : (x : Present) (handles : List Handle) → IsSoundCourse x → each_pair have_labels_apart handles ≡ true → ((h : Handle) → IsIn h handles → is_there x h.object ≡ true) → IsSoundCourse (record x { handles = handles })
sound-handles x handles sound apart there = record {
  numbers = sound.numbers;
  transactions = sound.transactions;
  enlistments = sound.enlistments;
  managers = sound.managers;
  handles = record {
    labels_differ = apart;
    objects_there = list_all-from (λ (h : Handle). is_there x h.object) handles there;
  };
  phases = sound.phases;
  alone = sound.alone;
}

eqb-sym : (a b : ℕ) → (a == b) ≡ false → (b == a) ≡ false
eqb-sym a b other = false_from_ne_true _ (λ same. true≢false (sym (eq-eqb a b (sym (eqb-true b a same))) ∙ other))

-- a label that is not bound is that of no handle
unbound-apart : (handles : List Handle) (process : Pid) (label : Label) (object : Object) → is_some (object_at handles process label) ≡ false → (h : Handle) → IsIn h handles → have_labels_apart h (record { process = process; label = label; object = object }) ≡ true
unbound-apart [] process label object free h there = absurd there
unbound-apart (g ∷ gs) process label object free h there = elim (cases_Bool ((g.process.0 == process.0) && (g.label.0 == label.0))) [
  | inl same ↦ absurd (true≢false (rw same at free))
  | inr other ↦ elim there [
    | inl e ↦ subst (λ (k : Handle). have_labels_apart k (record { process = process; label = label; object = object }) ≡ true) e (not_from_false _ (elim (and_cases' (g.process.0 == process.0) (g.label.0 == label.0) other) [
      | inl first ↦ and_left _ _ (eqb-sym g.process.0 process.0 first)
      | inr second ↦ and_right _ _ (eqb-sym g.label.0 label.0 second)
    ]))
    | inr later ↦ unbound-apart gs process label object (rw other at free) h later
  ]
]
  where
    and_cases' : (a b : Bool) → (a && b) ≡ false → (a ≡ false) ⊎ (b ≡ false)
    and_cases' true b is = inr is
    and_cases' false b is = inl refl

pub sound-bound : (x : Present) (process : Pid) (label : Label) (object : Object) → IsSoundCourse x → is_some (object_at x.handles process label) ≡ false → is_there x object ≡ true
    → IsSoundCourse (record x { handles = x.handles ++ record { process = process; label = label; object = object } ∷ [] })
sound-bound x process label object sound free there = sound-handles x (x.handles ++ record { process = process; label = label; object = object } ∷ []) sound
    (each_pair-push have_labels_apart x.handles _ sound.handles.labels_differ (unbound-apart x.handles process label object free))
    (λ h is. elim (IsIn-cases h x.handles (record { process = process; label = label; object = object } ∷ []) is) [
      | inl old ↦ list_all-at (λ (h : Handle). is_there x h.object) x.handles sound.handles.objects_there h old
      | inr (inl e) ↦ subst (λ (k : Handle). is_there x k.object ≡ true) e there
      | inr (inr none) ↦ absurd none
    ])
