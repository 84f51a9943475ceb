-- How what is read of a part at one place goes on at the next.
use Rattle.std.proofs.Common.{true, false, ◌≡◌, ◌≢◌, ◌∙◌, ap, ℕ, Option, Some, None, List, [], refl, sym, subst}
use Rattle.std.specs.List.{slice_range}
use Rattle.ktm_base.specs.declared.id.Id.{Id}
use Rattle.ktm_base.specs.Grammar.{IsValueOf, IsListOf}
use Rattle.ktm_codec.specs.Spans.{Spans, Reads}
use Rattle.ktm_codec.proofs.Forms.{unambiguous_list}
use Rattle.ktm_codec.proofs.SpansLemmas.{Spans-map, spans_then, one_reading}
use Rattle.ktm_keyed.specs.declared.keyed.Keyed.{Keyed}
use Rattle.ktm_world.specs.declared.event.Part.{Part}
use Rattle.ktm_world.specs.declared.event.Part.TheVariants.{Enlistment, Changes, Settings}
use Rattle.ktm_world.specs.declared.event.DonePart.{DonePart}
use Rattle.ktm_world.specs.declared.event.DonePart.TheVariants.{Files, Keys}
use Rattle.ktm_world.specs.EventGrammar.{IsIdOf, IsSetTo, IsSettingOf, AreSettingsOf, IsChangeOf, IsPartOf, IsSoleOf, IsDoneOf}
use Rattle.ktm_keyed.specs.Keyed.{is_rising}
use Rattle.ktm_event.specs.Reading.{Behind, IsKeyOf, IsRecordedOf}
use Rattle.ktm_event.proofs.Tags.{other_tag, no_byte}
use Rattle.ktm_event.proofs.Pairs.{Both}
use Rattle.ktm_event.proofs.Parts.{IsEnlistedOf, unambiguous_part, unambiguous_setting, sole_is_part}
use Rattle.ktm_event.proofs.Readings.{Absent, tag_after}

module _ {bytes : List ℕ} {at : ℕ} where
  pub no_value : Reads IsValueOf bytes at None → Absent (Behind IsSetTo 1) bytes at
  no_value none_of = record { none = none }
    where
      none : Reads (Behind IsSetTo 1) bytes at None
      none (Some value) end spans = none_of value end (tag_after 1 spans)
      none None end spans = absurd (other_tag spans.form.1 refl)

  pub other_set_to : (tag : ℕ) → tag ≢ 0 → tag ≢ 1 → Reads (Behind IsSetTo tag) bytes at None
  other_set_to tag unset set None end spans = let is = spans.form.1 in unset cc
  other_set_to tag unset set (Some value) end spans = let is = spans.form.1 in set cc

  pub no_setting : Absent (Both IsKeyOf IsSetTo) bytes at → Absent IsSettingOf bytes at
  no_setting absent = record {
    none = λ setting end spans. absent.none (setting.key, setting.value) end
        (Spans-map (λ part is. let (first, second, whole, key, value) = is.parts in (first, second, whole, record { text = is.text; spelled = key }, value)) spans);
  }

  pub setting_read : {key : List ℕ} {value : Option (List ℕ)} {mid end : ℕ} → Spans (IsKeyOf key) bytes at mid → Spans (IsSetTo value) bytes mid end
      → Spans (IsSettingOf (record { key = key; value = value })) bytes at end
  setting_read {mid} {end} first second =
      Spans-map (λ part (one, two, whole, key, value). record { text = key.text; parts = (one, two, whole, key.spelled, value) }) (spans_then bytes at mid end first second)

  pub no_list : Absent (IsListOf IsSettingOf) bytes at → Absent AreSettingsOf bytes at
  no_list absent = record { none = λ settings end spans. absent.none settings end (Spans-map (λ part is. is.listed) spans) }

  pub not_rising : (settings : List (Keyed (Option (List ℕ)))) {end : ℕ} → Spans (IsListOf IsSettingOf settings) bytes at end → is_rising settings ≡ false → Reads AreSettingsOf bytes at None
  not_rising settings {end} listed falls other end' spans =
      let (same, ends) = one_reading (IsListOf IsSettingOf) (unambiguous_list IsSettingOf unambiguous_setting) bytes at settings other end end' listed (Spans-map (λ part is. is.listed) spans) in
      let rises : is_rising other ≡ true = spans.form.rising in
      let falls' = ap is_rising (sym same) ∙ falls in
      absurd cc

  pub settings_read : (settings : List (Keyed (Option (List ℕ)))) {end : ℕ} → Spans (IsListOf IsSettingOf settings) bytes at end → is_rising settings ≡ true → Spans (AreSettingsOf settings) bytes at end
  settings_read settings listed rises = Spans-map (λ part is. record { rising = rises; listed = is }) listed

  pub no_record : Absent IsEnlistedOf bytes at → Absent IsRecordedOf bytes at
  no_record absent = record { none = λ (enlistment, manager, information) end spans. absent.none (enlistment, (manager, information)) end spans }

  pub no_enlistment : Absent IsRecordedOf bytes at → Absent (Behind IsPartOf 1) bytes at
  no_enlistment absent = record { none = none }
    where
      none : Reads (Behind IsPartOf 1) bytes at None
      none (Enlistment enlistment manager information) end spans = absent.none (enlistment, manager, information) end (tag_after 1 spans)
      none part end spans = absurd (other_tag spans.form.1 refl)

  pub no_changes : Absent (IsListOf IsChangeOf) bytes at → Absent (Behind IsPartOf 2) bytes at
  no_changes absent = record { none = none }
    where
      none : Reads (Behind IsPartOf 2) bytes at None
      none (Changes changes) end spans = absent.none changes end (tag_after 2 spans)
      none part end spans = absurd (other_tag spans.form.1 refl)

  pub no_settings : Absent AreSettingsOf bytes at → Absent (Behind IsPartOf 3) bytes at
  no_settings absent = record { none = none }
    where
      none : Reads (Behind IsPartOf 3) bytes at None
      none (Settings settings) end spans = absent.none settings end (tag_after 3 spans)
      none part end spans = absurd (other_tag spans.form.1 refl)

  pub other_part : (tag : ℕ) → tag ≢ 1 → tag ≢ 2 → tag ≢ 3 → Reads (Behind IsPartOf tag) bytes at None
  other_part tag enlistment changes settings (Enlistment e m i) end spans = let is = spans.form.1 in enlistment cc
  other_part tag enlistment changes settings (Changes cs) end spans = let is = spans.form.1 in changes cc
  other_part tag enlistment changes settings (Settings ss) end spans = let is = spans.form.1 in settings cc

  pub no_sole : Absent IsPartOf bytes at → Absent IsSoleOf bytes at
  no_sole absent = record { none = λ part end spans. absent.none part end (Spans-map (sole_is_part part) spans) }

  pub not_sole : {enlistment manager : Id} {information : List ℕ} {end : ℕ} → Spans (IsPartOf (Enlistment enlistment manager information)) bytes at end → Reads IsSoleOf bytes at None
  not_sole {enlistment} {manager} {information} {end} read part end' spans =
      let (same, ends) = one_reading IsPartOf unambiguous_part bytes at (Enlistment enlistment manager information) part end end' read (Spans-map (sole_is_part part) spans) in
      subst (λ (p : Part). IsSoleOf p (slice_range bytes at end')) (sym same) spans.form

  pub sole_read : (part : Part) {end : ℕ} → ((enlistment manager : Id) (information : List ℕ) → part ≢ Enlistment enlistment manager information) → Spans (IsPartOf part) bytes at end → Spans (IsSoleOf part) bytes at end
  sole_read (Enlistment enlistment manager information) other read = absurd (other enlistment manager information refl)
  sole_read (Changes changes) other read = read
  sole_read (Settings settings) other read = read

  pub no_done : Absent IsIdOf bytes at → Absent (Behind IsDoneOf 1) bytes at
  no_done absent = record { none = none }
    where
      none : Reads (Behind IsDoneOf 1) bytes at None
      none (DonePart.Enlistment enlistment) end spans = absent.none enlistment end (tag_after 1 spans)
      none done end spans = let is = spans.form.value in absurd cc

  pub other_done : (tag : ℕ) → tag ≢ 1 → tag ≢ 2 → tag ≢ 3 → Reads (Behind IsDoneOf tag) bytes at None
  other_done tag enlistment files keys (DonePart.Enlistment e) end spans = let is = spans.form.1 in enlistment cc
  other_done tag enlistment files keys Files end spans = let is = spans.form.value in files cc
  other_done tag enlistment files keys Keys end spans = let is = spans.form.value in keys cc

-- each begins with its tag
pub set_to_starts : (value : Option (List ℕ)) → IsSetTo value [] → ⊥
set_to_starts None is = no_byte is.1
set_to_starts value is = no_byte is.1

pub part_starts : (part : Part) → IsPartOf part [] → ⊥
part_starts (Settings settings) is = no_byte is.1
part_starts part is = no_byte is.1

pub done_starts : (done : DonePart) → IsDoneOf done [] → ⊥
done_starts (DonePart.Enlistment enlistment) is = no_byte is.1
done_starts done is = let tag = is.value in cc
