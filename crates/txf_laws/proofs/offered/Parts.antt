-- The parts of a transaction, one more, marked or emptied.
use Rattle.std.proofs.Common.{◌≡◌, ℕ, ◌+◌, ◌≤◌, ◌||◌, Bool, true, false, cond, List, [], ◌∷◌, ◌++◌, map, filter, count_by, refl, sym, ◌∙◌, ap, arith, inl, inr}
use Rattle.std.proofs.lemmas.Bool.{cases_Bool, or_parts}
use Rattle.std.proofs.lemmas.List.{append-nil}
use Rattle.std.proofs.lemmas.List.Sums.{sum_by-cons, sum_by-append}
use Rattle.std.proofs.lemmas.Grind.{flat_map-append}
use Rattle.std.specs.List.{list_any, flat_map}
use Rattle.ktm_world.specs.declared.recorded.RecordedPart.{RecordedPart}
use Rattle.ktm_world.specs.declared.event.Part.{Part}
use Rattle.txf_laws.specs.Elements.{IsIn, each_pair}
use Rattle.txf_laws.proofs.offered.Elements.{IsIn-filter, IsIn-unflat, IsIn-flat_map, each_pair-append, each_pair-left, each_pair-right, each_pair-across}

-- what the parts have of one kind
abbrev pub gathered : {X : Type 0} → (Part → List X) → List RecordedPart → List X
gathered g ps = flat_map (λ (p : RecordedPart). g p.part) ps

-- do the parts pass a test of a part
abbrev pub is_among : (Part → Bool) → List RecordedPart → Bool
is_among test ps = list_any (λ (p : RecordedPart). test p.part) ps

abbrev pub count_among : (Part → Bool) → List RecordedPart → ℕ
count_among test ps = count_by (λ (p : RecordedPart). test p.part) ps

-- ---- one more

pub gathered-push : {X : Type 0} (g : Part → List X) (ps : List RecordedPart) (p : RecordedPart) → gathered g (ps ++ p ∷ []) ≡ gathered g ps ++ g p.part
gathered-push g ps p = flat_map-append (λ (q : RecordedPart). g q.part) ps (p ∷ []) ∙ ap (λ xs. gathered g ps ++ xs) (append-nil (g p.part))

pub gathered-push_none : {X : Type 0} (g : Part → List X) (ps : List RecordedPart) (p : RecordedPart) → g p.part ≡ [] → gathered g (ps ++ p ∷ []) ≡ gathered g ps
gathered-push_none g ps p none = gathered-push g ps p ∙ ap (λ xs. gathered g ps ++ xs) none ∙ append-nil (gathered g ps)

pub is_among-push : (test : Part → Bool) (ps : List RecordedPart) (p : RecordedPart) → is_among test (ps ++ p ∷ []) ≡ (is_among test ps || test p.part)
is_among-push test [] p = elim (test p.part) as (λ b. ◌≡◌ {A = Bool} (b || false) b) [ true ↦ refl | false ↦ refl ]
is_among-push test (q ∷ ps) p = elim (cases_Bool (test q.part)) [
  | inl is ↦ rw is refl
  | inr other ↦ rw other (is_among-push test ps p)
]

count-cons : {X : Type 0} (test : X → Bool) (x : X) (xs : List X) → count_by test (x ∷ xs) ≡ cond (test x) 1 0 + count_by test xs
count-cons test x xs = sum_by-cons (λ y. cond (test y) 1 0) x xs

pub count_among-push : (test : Part → Bool) (ps : List RecordedPart) (p : RecordedPart) → count_among test (ps ++ p ∷ []) ≡ count_among test ps + cond (test p.part) 1 0
count_among-push test ps p =
    sum_by-append (λ (q : RecordedPart). cond (test q.part) 1 0) ps (p ∷ []) ∙ (let one = count-cons (λ (q : RecordedPart). test q.part) p [] in omega arith)

pub count_among-none : (test : Part → Bool) (ps : List RecordedPart) → is_among test ps ≡ false → count_among test ps ≡ 0
count_among-none test [] none = refl
count_among-none test (p ∷ ps) none =
    let parts = or_parts (test p.part) (is_among test ps) none in
    count-cons (λ (q : RecordedPart). test q.part) p ps ∙ rw parts.0 (omega (arith, count_among-none test ps parts.1))

-- what no part has is not gathered
pub gathered-none : {X : Type 0} (g : Part → List X) (test : Part → Bool) → ((part : Part) → test part ≡ false → g part ≡ []) → (ps : List RecordedPart) → is_among test ps ≡ false → gathered g ps ≡ []
gathered-none g test empty [] none = refl
gathered-none g test empty (p ∷ ps) none =
    let parts = or_parts (test p.part) (is_among test ps) none in rw (empty p.part parts.0) (gathered-none g test empty ps parts.1)

-- ---- each one changed

pub gathered-map : {X : Type 0} (g : Part → List X) (h : RecordedPart → RecordedPart) → ((p : RecordedPart) → g (h p).part ≡ g p.part) → (ps : List RecordedPart) → gathered g (map h ps) ≡ gathered g ps
gathered-map g h same [] = refl
gathered-map g h same (p ∷ ps) = rw (same p, gathered-map g h same ps) refl

pub gathered-map_none : {X : Type 0} (g : Part → List X) (h : RecordedPart → RecordedPart) → ((p : RecordedPart) → g (h p).part ≡ []) → (ps : List RecordedPart) → gathered g (map h ps) ≡ []
gathered-map_none g h none [] = refl
gathered-map_none g h none (p ∷ ps) = rw (none p) (gathered-map_none g h none ps)

pub count_among-map : (test : Part → Bool) (h : RecordedPart → RecordedPart) → ((p : RecordedPart) → test (h p).part ≡ test p.part) → (ps : List RecordedPart) → count_among test (map h ps) ≡ count_among test ps
count_among-map test h same [] = refl
count_among-map test h same (p ∷ ps) =
    count-cons (λ (q : RecordedPart). test q.part) (h p) (map h ps) ∙ rw (same p, count_among-map test h same ps) (sym (count-cons (λ (q : RecordedPart). test q.part) p ps))

-- ---- some taken out

pub count_among-filter : (test : Part → Bool) (keep : RecordedPart → Bool) (ps : List RecordedPart) → count_among test (filter keep ps) ≤ count_among test ps
count_among-filter test keep [] = omega arith
count_among-filter test keep (p ∷ ps) =
    let rest = count_among-filter test keep ps in
    let old = count-cons (λ (q : RecordedPart). test q.part) p ps in
    elim (cases_Bool (keep p)) [
      | inl is ↦ rw is (let new = count-cons (λ (q : RecordedPart). test q.part) p (filter keep ps) in omega arith)
      | inr other ↦ rw other (omega arith)
    ]

pub gathered-filter_none : {X : Type 0} (g : Part → List X) (keep : RecordedPart → Bool) (ps : List RecordedPart) → gathered g ps ≡ [] → gathered g (filter keep ps) ≡ []
gathered-filter_none g keep [] none = refl
gathered-filter_none g keep (p ∷ ps) none =
    let parts = both (g p.part) (gathered g ps) none in
    elim (cases_Bool (keep p)) [
      | inl is ↦ rw (is, parts.0) (gathered-filter_none g keep ps parts.1)
      | inr other ↦ rw other (gathered-filter_none g keep ps parts.1)
    ]
  where
    both : {X : Type 0} (xs ys : List X) → xs ++ ys ≡ [] → (xs ≡ []) × (ys ≡ [])
    both [] ys e = (refl, e)
    both (x ∷ xs) ys e = absurd (cc)

pub IsIn-gathered_filter : {X : Type 0} (g : Part → List X) (keep : RecordedPart → Bool) (ps : List RecordedPart) (x : X) → IsIn x (gathered g (filter keep ps)) → IsIn x (gathered g ps)
IsIn-gathered_filter g keep ps x there =
    let of = IsIn-unflat (λ (p : RecordedPart). g p.part) (filter keep ps) x there in
    IsIn-flat_map (λ (p : RecordedPart). g p.part) ps of.0 x (IsIn-filter keep ps of.0 of.1).0 of.2

pub each_pair-gathered_filter : {X : Type 0} (test : X → X → Bool) (g : Part → List X) (keep : RecordedPart → Bool) (ps : List RecordedPart)
    → each_pair test (gathered g ps) ≡ true → each_pair test (gathered g (filter keep ps)) ≡ true
each_pair-gathered_filter test g keep [] pairs = refl
each_pair-gathered_filter test g keep (p ∷ ps) pairs =
    let rest = each_pair-gathered_filter test g keep ps (each_pair-right test (g p.part) (gathered g ps) pairs) in
    elim (cases_Bool (keep p)) [
      | inl is ↦ rw is (each_pair-append test (g p.part) (gathered g (filter keep ps)) (each_pair-left test (g p.part) (gathered g ps) pairs) rest
          (λ x y there there'. each_pair-across test (g p.part) (gathered g ps) pairs x y there (IsIn-gathered_filter g keep ps y there')))
      | inr other ↦ rw other rest
    ]
