-- The transaction with an Id among those by rising Id.
use Rattle.std.proofs.Common.{◌≡◌, ◌&&◌, ◌||◌, not, Bool, true, false, List, [], ◌∷◌, ◌++◌, Option, Some, None, map, refl, sym, ◌∙◌, ap, subst, inl, inr}
use Rattle.std.specs.Prelude.{if◌then◌else◌}
use Rattle.std.specs.List.{flat_map, list_any}
use Rattle.std.proofs.lemmas.Bool.{cases_Bool, false_from_ne_true}
use Rattle.std.proofs.lemmas.List.Folds.{list_any-append}
use Rattle.std.proofs.lemmas.Option.{none-some}
use Rattle.ktm_base.specs.declared.id.Id.{Id}
use Rattle.ktm_world.specs.declared.event.DonePart.{DonePart}
use Rattle.ktm_world.specs.declared.event.Part.{Part}
use Rattle.ktm_world.specs.declared.event.Part.TheVariants.{Enlistment, Changes, Settings}
use Rattle.ktm_world.specs.declared.recorded.RecordedPart.{RecordedPart}
use Rattle.ktm_world.specs.declared.recorded.Superior.{Superior}
use Rattle.ktm_world.specs.Durable.{Recorded, emptied_part, enlistments_in, is_before, recorded_at, recorded_or_new, settings_in, superior_ids, is_part_of, while_not_done, with_recorded, without_recorded}
use Rattle.ktm_world.specs.Transactions.{same_id}
use Rattle.txf_laws.specs.Elements.{IsIn}
use Rattle.txf_laws.proofs.offered.Tables.{KnownOrNew, Rises, before_other, fresh, is_before-then, recorded_or_new-cases, rises-first, rises-rest, same_id-equal, same_id-from, same_id-sym}
use Rattle.txf_laws.proofs.offered.Parts.{gathered, gathered-map}
use Rattle.ktm_waiting.specs.Work.{without_changes, without_settings}

-- the transaction, or a new one where there is none
abbrev pub or_new : Id → Option Recorded → Recorded
or_new id None = fresh id
or_new id (Some t) = t

pub or-new : (ts : List Recorded) (id : Id) → recorded_or_new ts id ≡ or_new id (recorded_at ts id)
or-new [] id = refl
or-new (a ∷ ts) id = elim (cases_Bool (same_id a.id id)) [
  | inl same ↦ rw same refl
  | inr other ↦ rw other (or-new ts id)
]

pub or-new-id : (ts : List Recorded) (id : Id) → (recorded_or_new ts id).id ≡ id
or-new-id ts id = go (recorded_or_new ts id) (recorded_or_new-cases ts id)
  where
    go : (t : Recorded) → KnownOrNew ts id t → t.id ≡ id
    go t (inl known) = known.1
    go t (inr new) = ap (λ (u : Recorded). u.id) new

-- does the transaction, if there is one, pass the test
abbrev pub passes : (Recorded → Bool) → Option Recorded → Bool
passes test None = false
passes test (Some t) = test t

others-fail : (ts : List Recorded) (id : Id) (test : Recorded → Bool) → ((u : Recorded) → IsIn u ts → same_id u.id id ≡ false) → list_any (λ t. same_id t.id id && test t) ts ≡ false
others-fail [] id test other = refl
others-fail (a ∷ ts) id test other = rw (other a (inl refl)) (others-fail ts id test (λ u there. other u (inr there)))

pub passes-at : (ts : List Recorded) (id : Id) (test : Recorded → Bool) → Rises ts → list_any (λ t. same_id t.id id && test t) ts ≡ passes test (recorded_at ts id)
passes-at [] id test rises = refl
passes-at (a ∷ ts) id test rises = elim (cases_Bool (same_id a.id id)) [
  | inl same ↦
      let none = others-fail ts id test (λ u there. false_from_ne_true (same_id u.id id) (λ is. before_other a.id u.id (rises-first a ts rises u there) (same_id-equal a.id id same ∙ sym (same_id-equal u.id id is)))) in
      rw same (or-false (test a) _ none)
  | inr other ↦ rw other (passes-at ts id test (rises-rest a ts rises))
]
  where
    or-false : (b d : Bool) → d ≡ false → (b || d) ≡ b
    or-false true d none = refl
    or-false false d none = none

-- ---- taken out, and put back

pub absent-without : (ts : List Recorded) (id : Id) → None ≡ recorded_at ts id → without_recorded ts id ≡ ts
absent-without [] id none = refl
absent-without (a ∷ ts) id none = elim (cases_Bool (same_id a.id id)) [
  | inl same ↦ absurd (none-some a (rw same at none))
  | inr other ↦ rw other (ap (λ l. a ∷ l) (absent-without ts id (rw other at none)))
]

taken-none : (ts : List Recorded) (id : Id) → recorded_at (without_recorded ts id) id ≡ None
taken-none [] id = refl
taken-none (a ∷ ts) id = elim (cases_Bool (same_id a.id id)) [
  | inl same ↦ rw same (taken-none ts id)
  | inr other ↦ rw (other, other) (taken-none ts id)
]

with-first : (ts : List Recorded) (t : Recorded) → ((u : Recorded) → IsIn u ts → is_before t.id u.id ≡ true) → with_recorded ts t ≡ t ∷ ts
with-first [] t first = refl
with-first (a ∷ ts) t first =
    let before = first a (inl refl) in
    rw (false_from_ne_true (same_id a.id t.id) (λ same. before_other t.id a.id before (sym (same_id-equal a.id t.id same))), before) refl

pub none-other : (ts : List Recorded) (id : Id) → ((u : Recorded) → IsIn u ts → is_before id u.id ≡ true) → without_recorded ts id ≡ ts
none-other [] id first = refl
none-other (a ∷ ts) id first =
    rw (false_from_ne_true (same_id a.id id) (λ same. before_other id a.id (first a (inl refl)) (sym (same_id-equal a.id id same)))) (ap (λ l. a ∷ l) (none-other ts id (λ u there. first u (inr there))))

pub with-without : (ts : List Recorded) (t : Recorded) → Rises ts → with_recorded (without_recorded ts t.id) t ≡ with_recorded ts t
with-without [] t rises = refl
with-without (a ∷ ts) t rises = elim (cases_Bool (same_id a.id t.id)) [
  | inl same ↦
      let first : (u : Recorded) → IsIn u ts → is_before t.id u.id ≡ true = λ u there. subst (λ id. is_before id u.id ≡ true) (same_id-equal a.id t.id same) (rises-first a ts rises u there) in
      rw same (ap (λ us. with_recorded us t) (none-other ts t.id first) ∙ with-first ts t first)
  | inr other ↦ elim (cases_Bool (is_before t.id a.id)) [
    | inl before ↦
        let first : (u : Recorded) → IsIn u ts → is_before t.id u.id ≡ true = λ u there. is_before-then t.id a.id u.id before (rises-first a ts rises u there) in
        rw (other, other, before) (ap (λ us. t ∷ a ∷ us) (none-other ts t.id first))
    | inr behind ↦ rw (other, other, behind) (ap (λ us. a ∷ us) (with-without ts t (rises-rest a ts rises)))
  ]
]

-- put back while a part of it is not done
pub back : (ts : List Recorded) (t : Recorded) → Rises ts
    → (if list_any (λ p. not p.is_done) t.parts then with_recorded (without_recorded ts t.id) t else without_recorded ts t.id) ≡ while_not_done ts t
back ts t rises = elim (cases_Bool (list_any (λ (p : RecordedPart). not p.is_done) t.parts)) [
  | inl stays ↦ rw stays (with-without ts t rises)
  | inr over ↦ rw over refl
]

-- ---- emptied

emptied-one : (p : RecordedPart) → without_settings (without_changes p) ≡ emptied_part p
emptied-one p = go p.part
  where
    go : (part : Part) → without_settings (without_changes (record { is_done = p.is_done; part = part })) ≡ emptied_part (record { is_done = p.is_done; part = part })
    go (Enlistment enlistment manager information) = refl
    go (Changes changes) = refl
    go (Settings settings) = refl

pub emptied-both : (ps : List RecordedPart) → map without_settings (map without_changes ps) ≡ map emptied_part ps
emptied-both [] = refl
emptied-both (p ∷ ps) = λ i. emptied-one p i ∷ emptied-both ps i

settings-kept : (p : RecordedPart) → settings_in (without_changes p).part ≡ settings_in p.part
settings-kept p = go p.part
  where
    go : (part : Part) → settings_in (without_changes (record { is_done = p.is_done; part = part })).part ≡ settings_in part
    go (Enlistment enlistment manager information) = refl
    go (Changes changes) = refl
    go (Settings settings) = refl

-- changes that are taken leave the settings
pub settings-left : (ps : List RecordedPart) → gathered settings_in (map without_changes ps) ≡ gathered settings_in ps
settings-left ps = gathered-map settings_in without_changes settings-kept ps

-- ---- one after another

pub gone : (ts us : List Recorded) (id id' : Id) → us ≡ without_recorded ts id → id' ≡ id → recorded_at us id' ≡ None
gone ts us id id' left same = ap (λ (ws : List Recorded). recorded_at ws id') left ∙ ap (recorded_at (without_recorded ts id)) same ∙ taken-none ts id

pub put-with : (ts us vs : List Recorded) (t u : Recorded) (id : Id) → Rises ts → us ≡ without_recorded ts id → t.id ≡ id → vs ≡ with_recorded us u → u ≡ t → vs ≡ with_recorded ts t
put-with ts us vs t u id rises left same placed is =
    placed ∙ ap (with_recorded us) is ∙ ap (λ (ws : List Recorded). with_recorded ws t) (left ∙ ap (without_recorded ts) (sym same)) ∙ with-without ts t rises

pub put-back : (ts us vs : List Recorded) (t u : Recorded) (id : Id) → Rises ts → us ≡ without_recorded ts id → t.id ≡ id → vs ≡ (if list_any (λ p. not p.is_done) u.parts then with_recorded us u else us) → u ≡ t
    → vs ≡ while_not_done ts t
put-back ts us vs t u id rises left same placed is =
    placed
    ∙ ap (λ (w : Recorded). if list_any (λ (p : RecordedPart). not p.is_done) w.parts then with_recorded us w else us) is
    ∙ ap (λ (ws : List Recorded). if list_any (λ (p : RecordedPart). not p.is_done) t.parts then with_recorded ws t else ws) (left ∙ ap (without_recorded ts) (sym same))
    ∙ back ts t rises

-- ---- enlistments

same_id-turned : (a b : Id) → same_id a b ≡ same_id b a
same_id-turned a b = elim (cases_Bool (same_id a b)) [
  | inl same ↦ same ∙ sym (same_id-from b a (sym (same_id-equal a b same)))
  | inr other ↦ other ∙ sym (same_id-sym a b other)
]

part-enlisted : (part : Part) (id : Id) → list_any (λ other. same_id other id) (enlistments_in part) ≡ is_part_of (DonePart.Enlistment id) part
part-enlisted (Enlistment enlistment manager information) id = or-none (same_id enlistment id) ∙ same_id-turned enlistment id
  where
    or-none : (b : Bool) → (b || false) ≡ b
    or-none true = refl
    or-none false = refl
part-enlisted (Changes changes) id = refl
part-enlisted (Settings settings) id = refl

parts-enlisted : (ps : List RecordedPart) (id : Id) → list_any (λ other. same_id other id) (flat_map (λ (p : RecordedPart). enlistments_in p.part) ps) ≡ list_any (λ (p : RecordedPart). is_part_of (DonePart.Enlistment id) p.part) ps
parts-enlisted [] id = refl
parts-enlisted (p ∷ ps) id =
    list_any-append (λ other. same_id other id) (enlistments_in p.part) (flat_map (λ (q : RecordedPart). enlistments_in q.part) ps)
    ∙ (λ i. part-enlisted p.part id i || parts-enlisted ps id i)

-- a transaction whose superior is another one has the enlistment where a part of it is that
pub enlisted : (superior : Option Superior) (ps : List RecordedPart) (id : Id) → list_any (λ other. same_id other id) (superior_ids superior) ≡ false
    → list_any (λ (p : RecordedPart). is_part_of (DonePart.Enlistment id) p.part) ps ≡ list_any (λ other. same_id other id) (superior_ids superior ++ flat_map (λ (p : RecordedPart). enlistments_in p.part) ps)
enlisted superior ps id none =
    sym (parts-enlisted ps id) ∙ ap (λ b. b || list_any (λ other. same_id other id) (flat_map (λ (p : RecordedPart). enlistments_in p.part) ps)) (sym none)
    ∙ sym (list_any-append (λ other. same_id other id) (superior_ids superior) (flat_map (λ (p : RecordedPart). enlistments_in p.part) ps))
