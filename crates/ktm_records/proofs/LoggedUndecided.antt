-- What the log has of a transaction that is not decided, beside its course.
use Rattle.std.proofs.Common.{◌≡◌, ◌==◌, ◌||◌, not, Bool, true, false, List, [], ◌∷◌, length, refl, sym, ◌∙◌, inl, inr}
use Rattle.std.proofs.lemmas.Bool.{and_parts, or_cases, not-true, true≢false, false_from_ne_true}
use Rattle.std.specs.List.{flat_map, list_all}
use Rattle.ktm_world.specs.declared.change.Change.{Change}
use Rattle.ktm_world.specs.declared.event.DonePart.{DonePart}
use Rattle.ktm_world.specs.declared.event.Part.{Part}
use Rattle.ktm_world.specs.declared.recorded.RecordedPart.{RecordedPart}
use Rattle.ktm_world.specs.Changes.{has_changes}
use Rattle.ktm_world.specs.Durable.{Durable, Recorded, are_recorded_changes, changes_of, has_changes_part, has_settings_part, is_decided, is_part_of, is_sole, settings_of}
use Rattle.ktm_world.specs.Keys.{OwnSettings, are_good_settings}
use Rattle.ktm_world.specs.Phases.{Course, has_settings}
use Rattle.ktm_world.specs.World.{by_rising_id, enlistment_back}
use Rattle.txf_laws.specs.Elements.{IsIn}
use Rattle.txf_laws.specs.GoodState.{IsGoodState, are_kept_changes, are_kept_settings, is_done_well}
use Rattle.txf_laws.proofs.offered.Elements.{list_all-at, list_any-from}
use Rattle.ktm_records.proofs.offered.AgreementOfCourses.{course_enlistments}

-- the files and the keys are done where they take part
abbrev pub AreDone : Bool → Bool → Part → Type 0
AreDone a b q = (is_part_of DonePart.Files q ≡ true → a ≡ true) × (is_part_of DonePart.Keys q ≡ true → b ≡ true)

-- no part is done, and those of the files and of the keys stand for changes and settings that there are
abbrev pub AreUndone : List Change → OwnSettings → Recorded → Type 0
AreUndone cs ss r = (p : RecordedPart) → IsIn p r.parts → (p.is_done ≡ false) × AreDone (has_changes cs) (has_settings ss) p.part

-- the log has of the transaction the enlistments of its course, and these changes and settings
pub record Stores (c : Course) (cs : List Change) (ss : OwnSettings) (r : Recorded) : Type 0 where
  pub id : r.id ≡ c.transaction.id
  pub enlistments : by_rising_id (flat_map (enlistment_back r.id) r.parts) ≡ course_enlistments c
  pub changes : changes_of r ≡ cs
  pub settings : settings_of r ≡ ss
  pub parts : AreUndone cs ss r

-- of a good state
pub parts-undone : (s : Durable) → IsGoodState s → (r : Recorded) → IsIn r s.transactions → is_decided r.stage ≡ false → AreUndone (changes_of r) (settings_of r) r
parts-undone s good r there undecided p in_parts = (
  false_from_ne_true _ (λ done. elim (or_cases (not p.is_done) _ (list_all-at (is_done_well r) r.parts (list_all-at (λ (t : Recorded). list_all (is_done_well t) t.parts) s.transactions good.done r there) p in_parts)) [
    | inl not_done ↦ true≢false (sym done ∙ not-true _ not_done)
    | inr well ↦ true≢false (sym (and_parts (is_decided r.stage) (is_sole p.part) well).0 ∙ undecided)
  ]),
  (
    λ is. some-changes (changes_of r) (kept-changes (list_any-from (λ (p : RecordedPart). is_part_of DonePart.Files p.part) r.parts p in_parts is)),
    λ is. some-settings (settings_of r) (kept-settings (list_any-from (λ (p : RecordedPart). is_part_of DonePart.Keys p.part) r.parts p in_parts is)),
  ),
)
  where
    some-changes : (cs : List Change) → are_recorded_changes cs ≡ true → has_changes cs ≡ true
    some-changes [] is = absurd (true≢false (sym is))
    some-changes (change ∷ cs) is = refl

    some-settings : (ss : OwnSettings) → are_good_settings ss ≡ true → has_settings ss ≡ true
    some-settings [] is = absurd (true≢false (sym is))
    some-settings (setting ∷ ss) is = refl

    kept-changes : has_changes_part r ≡ true → are_recorded_changes (changes_of r) ≡ true
    kept-changes has = elim (or_cases (is_decided r.stage || not (has_changes_part r)) (are_recorded_changes (changes_of r)) (and_parts (not (is_decided r.stage) || not (has_changes (changes_of r))) (is_decided r.stage || not (has_changes_part r) || are_recorded_changes (changes_of r)) (list_all-at are_kept_changes s.transactions good.changes r there)).1) [
      | inr is ↦ is
      | inl neither ↦ elim (or_cases (is_decided r.stage) (not (has_changes_part r)) neither) [ inl over ↦ absurd (true≢false (sym over ∙ undecided)) | inr none ↦ absurd (true≢false (sym has ∙ not-true _ none)) ]
    ]

    kept-settings : has_settings_part r ≡ true → are_good_settings (settings_of r) ≡ true
    kept-settings has = elim (or_cases (is_decided r.stage || not (has_settings_part r)) (are_good_settings (settings_of r)) (and_parts (not (is_decided r.stage) || length (settings_of r) == 0) (is_decided r.stage || not (has_settings_part r) || are_good_settings (settings_of r)) (list_all-at are_kept_settings s.transactions good.settings r there)).1) [
      | inr is ↦ is
      | inl neither ↦ elim (or_cases (is_decided r.stage) (not (has_settings_part r)) neither) [ inl over ↦ absurd (true≢false (sym over ∙ undecided)) | inr none ↦ absurd (true≢false (sym has ∙ not-true _ none)) ]
    ]
