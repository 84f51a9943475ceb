-- Enlistments by rising Id, and those that are brought back.
use Rattle.std.proofs.Common.{◌≡◌, not, Bool, true, false, List, [], ◌∷◌, ◌++◌, map, Option, Some, None, refl, sym, ◌∙◌, ap, subst, inl, inr, ◌⊎◌}
use Rattle.std.proofs.lemmas.Bool.{cases_Bool, and_parts, and_from, not-true, not_from_false, false_from_ne_true}
use Rattle.std.proofs.lemmas.List.{map-append}
use Rattle.std.specs.List.{list_all, flat_map}
use Rattle.ktm_base.specs.declared.id.Id.{Id}
use Rattle.ktm_world.specs.declared.recorded.RecordedPart.{RecordedPart}
use Rattle.ktm_world.specs.declared.recorded.Superior.{Superior}
use Rattle.ktm_world.specs.declared.event.Part.{Part}
use Rattle.ktm_world.specs.declared.event.Part.TheVariants.{Enlistment as EnlistmentPart, Changes, Settings}
use Rattle.ktm_world.specs.Durable.{Recorded, enlistments_in, enlistments_of, superior_ids, is_before}
use Rattle.ktm_world.specs.Enlistments.{Enlistment}
use Rattle.ktm_world.specs.Transactions.{same_id}
use Rattle.ktm_world.specs.World.{enlistment_back, superior_back, enlistments_back, with_enlistment, by_rising_id}
use Rattle.txf_laws.specs.Elements.{IsIn, each_pair}
use Rattle.txf_laws.proofs.offered.Elements.{list_all-at, list_all-from, each_pair-from}
use Rattle.txf_laws.proofs.offered.Tables.{same_id-equal, same_id-sym, is_before-then, is_before-turned, before_other}
use Rattle.ktm_courses.proofs.offered.EnlistmentAnswers.{RiseEnlistments}

-- ---- enlistments by rising Id

IsIn-with_enlistment : (es : List Enlistment) (e x : Enlistment) → IsIn x (with_enlistment es e) → (x ≡ e) ⊎ IsIn x es
IsIn-with_enlistment [] e x (inl is) = inl (sym is)
IsIn-with_enlistment [] e x (inr none) = absurd none
IsIn-with_enlistment (a ∷ es) e x there = elim (cases_Bool (is_before e.id a.id)) [
  | inl before ↦ let there' : IsIn x (e ∷ a ∷ es) = rw before at there in elim there' [ inl is ↦ inl (sym is) | inr later ↦ inr later ]
  | inr behind ↦
      let there' : IsIn x (a ∷ with_enlistment es e) = rw behind at there in
      elim there' [ inl is ↦ inr (inl is) | inr later ↦ elim (IsIn-with_enlistment es e x later) [ inl is ↦ inl is | inr old ↦ inr (inr old) ] ]
]

IsIn-with_enlistment-itself : (es : List Enlistment) (e : Enlistment) → IsIn e (with_enlistment es e)
IsIn-with_enlistment-itself [] e = inl refl
IsIn-with_enlistment-itself (a ∷ es) e = elim (cases_Bool (is_before e.id a.id)) [ inl before ↦ rw before (inl refl) | inr behind ↦ rw behind (inr (IsIn-with_enlistment-itself es e)) ]

IsIn-with_enlistment-other : (es : List Enlistment) (e x : Enlistment) → IsIn x es → IsIn x (with_enlistment es e)
IsIn-with_enlistment-other [] e x there = absurd there
IsIn-with_enlistment-other (a ∷ es) e x there = elim (cases_Bool (is_before e.id a.id)) [
  | inl before ↦ rw before (inr there)
  | inr behind ↦ rw behind (elim there [ inl is ↦ inl is | inr later ↦ inr (IsIn-with_enlistment-other es e x later) ])
]

pub IsIn-rising : (es : List Enlistment) (x : Enlistment) → IsIn x (by_rising_id es) → IsIn x es
IsIn-rising [] x there = there
IsIn-rising (e ∷ es) x there = elim (IsIn-with_enlistment (by_rising_id es) e x there) [ inl is ↦ inl (sym is) | inr later ↦ inr (IsIn-rising es x later) ]

pub IsIn-into_rising : (es : List Enlistment) (x : Enlistment) → IsIn x es → IsIn x (by_rising_id es)
IsIn-into_rising [] x there = there
IsIn-into_rising (e ∷ es) x (inl is) = subst (λ y. IsIn y (with_enlistment (by_rising_id es) e)) is (IsIn-with_enlistment-itself (by_rising_id es) e)
IsIn-into_rising (e ∷ es) x (inr there) = IsIn-with_enlistment-other (by_rising_id es) e x (IsIn-into_rising es x there)

-- does the first enlistment come before the second
abbrev pub earlier : Enlistment → Enlistment → Bool
earlier e f = is_before e.id f.id

Rises-with_enlistment : (es : List Enlistment) (e : Enlistment) → RiseEnlistments es → ((x : Enlistment) → IsIn x es → same_id e.id x.id ≡ false) → RiseEnlistments (with_enlistment es e)
Rises-with_enlistment [] e rises other = refl
Rises-with_enlistment (a ∷ es) e rises other =
    let parts = and_parts (list_all (earlier a) es) (each_pair earlier es) rises in
    elim (cases_Bool (is_before e.id a.id)) [
      | inl before ↦ rw before (and_from _ _ (and_from _ _ before (list_all-from (earlier e) es (λ x there. is_before-then e.id a.id x.id before (list_all-at (earlier a) es parts.0 x there)))) rises)
      | inr behind ↦ rw behind (and_from _ _
          (list_all-from (earlier a) (with_enlistment es e) (λ x there. elim (IsIn-with_enlistment es e x there) [
            | inl is ↦ subst (λ y. earlier a y ≡ true) (sym is) (is_before-turned a.id e.id (same_id-sym e.id a.id (other a (inl refl))) behind)
            | inr old ↦ list_all-at (earlier a) es parts.0 x old
          ]))
          (Rises-with_enlistment es e parts.1 (λ x there. other x (inr there))))
    ]

-- do two enlistments differ in their Ids
abbrev pub differ_in_id : Enlistment → Enlistment → Bool
differ_in_id e f = not (same_id e.id f.id)

pub Rises-by_rising_id : (es : List Enlistment) → each_pair differ_in_id es ≡ true → RiseEnlistments (by_rising_id es)
Rises-by_rising_id [] differ = refl
Rises-by_rising_id (e ∷ es) differ =
    let parts = and_parts (list_all (differ_in_id e) es) (each_pair differ_in_id es) differ in
    Rises-with_enlistment (by_rising_id es) e (Rises-by_rising_id es parts.1) (λ x there. not-true _ (list_all-at (differ_in_id e) es parts.0 x (IsIn-rising es x there)))

-- rising Ids differ
pub differ-rising : (es : List Enlistment) → RiseEnlistments es → each_pair differ_in_id es ≡ true
differ-rising es rises = each_pair-from earlier differ_in_id es rises (λ a b there there' before. not_from_false _ (false_from_ne_true _ (λ same. before_other a.id b.id before (same_id-equal a.id b.id same))))

-- two lists that rise and have the same elements are the same
same-rising : (ls ms : List Enlistment) → RiseEnlistments ls → RiseEnlistments ms → ((x : Enlistment) → IsIn x ls → IsIn x ms) → ((x : Enlistment) → IsIn x ms → IsIn x ls) → ls ≡ ms
same-rising [] [] rises rises' to back = refl
same-rising [] (b ∷ ms) rises rises' to back = absurd (back b (inl refl))
same-rising (a ∷ ls) [] rises rises' to back = absurd (to a (inl refl))
same-rising (a ∷ ls) (b ∷ ms) rises rises' to back = λ i. first i ∷ same-rising ls ms parts.1 parts'.1 (λ x there. to-rest x there (to x (inr there))) (λ x there. back-rest x there (back x (inr there))) i
  where
    parts : (list_all (earlier a) ls ≡ true) × RiseEnlistments ls
    parts = and_parts (list_all (earlier a) ls) (each_pair earlier ls) rises

    parts' : (list_all (earlier b) ms ≡ true) × RiseEnlistments ms
    parts' = and_parts (list_all (earlier b) ms) (each_pair earlier ms) rises'

    behind : (x : Enlistment) → IsIn x ls → is_before a.id x.id ≡ true
    behind x there = list_all-at (earlier a) ls parts.0 x there

    behind' : (x : Enlistment) → IsIn x ms → is_before b.id x.id ≡ true
    behind' x there = list_all-at (earlier b) ms parts'.0 x there

    first : a ≡ b
    first = elim (to a (inl refl)) [
      | inl same ↦ sym same
      | inr there ↦ elim (back b (inl refl)) [
        | inl same ↦ same
        | inr there' ↦ absurd (before_other a.id a.id (is_before-then a.id b.id a.id (behind b there') (behind' a there)) refl)
      ]
    ]

    to-rest : (x : Enlistment) → IsIn x ls → IsIn x (b ∷ ms) → IsIn x ms
    to-rest x there (inl same) = absurd (before_other a.id x.id (behind x there) (ap (λ (e : Enlistment). e.id) (first ∙ same)))
    to-rest x there (inr there') = there'

    back-rest : (x : Enlistment) → IsIn x ms → IsIn x (a ∷ ls) → IsIn x ls
    back-rest x there (inl same) = absurd (before_other b.id x.id (behind' x there) (ap (λ (e : Enlistment). e.id) (sym first ∙ same)))
    back-rest x there (inr there') = there'

-- lists with the same elements, none twice, are the same by rising Id
pub rising-same : (ls ms : List Enlistment) → each_pair differ_in_id ls ≡ true → each_pair differ_in_id ms ≡ true → ((x : Enlistment) → IsIn x ls → IsIn x ms) → ((x : Enlistment) → IsIn x ms → IsIn x ls)
    → by_rising_id ls ≡ by_rising_id ms
rising-same ls ms differ differ' to back = same-rising (by_rising_id ls) (by_rising_id ms) (Rises-by_rising_id ls differ) (Rises-by_rising_id ms differ')
    (λ x there. IsIn-into_rising ms x (to x (IsIn-rising ls x there))) (λ x there. IsIn-into_rising ls x (back x (IsIn-rising ms x there)))

-- ---- what is brought back

ids-superior : (id : Id) (superior : Option Superior) → map (λ (e : Enlistment). e.id) (superior_back id superior) ≡ superior_ids superior
ids-superior id None = refl
ids-superior id (Some s) = refl

pub ids-part : (id : Id) (p : RecordedPart) → map (λ (e : Enlistment). e.id) (enlistment_back id p) ≡ enlistments_in p.part
ids-part id p = go p.part
  where
    go : (part : Part) → map (λ (e : Enlistment). e.id) (enlistment_back id (record p { part = part })) ≡ enlistments_in part
    go (EnlistmentPart enlistment manager information) = refl
    go (Changes changes) = refl
    go (Settings settings) = refl

pub map-flat : {X Y Z : Type 0} (g : Y → Z) (f : X → List Y) (h : X → List Z) → ((x : X) → map g (f x) ≡ h x) → (xs : List X) → map g (flat_map f xs) ≡ flat_map h xs
map-flat g f h same [] = refl
map-flat g f h same (x ∷ xs) = map-append g (f x) (flat_map f xs) ∙ (λ i. same x i ++ map-flat g f h same xs i)

pub ids-back : (t : Recorded) → map (λ (e : Enlistment). e.id) (enlistments_back t) ≡ enlistments_of t
ids-back t = map-append (λ (e : Enlistment). e.id) (superior_back t.id t.superior) (flat_map (enlistment_back t.id) t.parts)
    ∙ (λ i. ids-superior t.id t.superior i ++ map-flat (λ (e : Enlistment). e.id) (enlistment_back t.id) (λ (p : RecordedPart). enlistments_in p.part) (ids-part t.id) t.parts i)
