-- A transaction with one part more that is ready: what else of it applies as before.
use Rattle.std.specs.Prelude.{if◌then◌else◌}
use Rattle.std.proofs.Common.{◌≡◌, ℕ, ◌==◌, ◌&&◌, ◌||◌, not, Bool, true, false, is_some, List, [], ◌∷◌, ◌++◌, filter, length, nat_le, Some, refl, sym, ◌∙◌, ap, subst, inl, inr}
use Rattle.std.proofs.lemmas.Bool.{cases_Bool, and_from, and_parts, or_from, or_parts, and_right, not_from_true, not-true, not_from_false}
use Rattle.std.specs.List.{list_all, list_any}
use Rattle.ktm_base.specs.declared.limits.TheConstants.{MOST_INFORMATION_BYTES}
use Rattle.ktm_base.specs.declared.id.Id.{Id}
use Rattle.ktm_world.specs.declared.change.Change.{Change}
use Rattle.ktm_world.specs.declared.event.DonePart.{DonePart}
use Rattle.ktm_world.specs.declared.event.Event.{Event}
use Rattle.ktm_world.specs.declared.event.Part.{Part}
use Rattle.ktm_world.specs.declared.event.Part.TheVariants.{Changes, Settings}
use Rattle.ktm_world.specs.declared.recorded.RecordedPart.{RecordedPart}
use Rattle.ktm_world.specs.Changes.{changes_apply, is_make, node_of, has_made}
use Rattle.ktm_world.specs.Durable.{Durable, Recorded, acts_of_all, after_event, are_recorded_changes, recorded_changes_apply, changes_of, enlistments_in, enlistments_of, has_changes_part, has_part, has_settings_part, holds_in, is_before, is_decided, is_manager, is_new_enlistment, is_new_in, is_part_of, is_ready, may_get_ready, others_waiting, part_applies, recorded_or_new, settings_apply, settings_of, superior_ids, with_recorded}
use Rattle.ktm_world.specs.Holds.{meets}
use Rattle.ktm_keyed.specs.Keyed.{value_at}
use Rattle.ktm_world.specs.Keys.{OwnSettings, are_good_settings}
use Rattle.ktm_world.specs.Transactions.{same_id}
use Rattle.txf_laws.specs.Elements.{IsIn}
use Rattle.txf_laws.proofs.offered.Diamonds.{IsIn-right, no_test, none-from}
use Rattle.txf_laws.proofs.offered.Elements.{list_any-at, list_any-from}
use Rattle.ktm_records.proofs.Facts.{awaits}
use Rattle.txf_laws.proofs.offered.Lists.{IsIn-cases, IsIn-left}
use Rattle.txf_laws.proofs.offered.Parts.{gathered, gathered-push, is_among-push}
use Rattle.txf_laws.proofs.offered.Tables.{recorded_or_new-cases, same_id-equal, same_id-from}
use Rattle.ktm_steps.proofs.offered.Ways.{if_cases}

-- ---- one among those that were recorded

recorded_or_new-with : (ts : List Recorded) (r : Recorded) → recorded_or_new (with_recorded ts r) r.id ≡ r
recorded_or_new-with [] r = rw (same_id-from r.id r.id refl) refl
recorded_or_new-with (a ∷ ts) r = elim (cases_Bool (same_id a.id r.id)) [
  | inl same ↦ rw (same, same_id-from r.id r.id refl) refl
  | inr other ↦ elim (cases_Bool (is_before r.id a.id)) [
    | inl before ↦ rw (other, before, same_id-from r.id r.id refl) refl
    | inr behind ↦ rw (other, behind, other) (recorded_or_new-with ts r)
  ]
]

-- one with this Id is none of the others
out : (test : Recorded → Bool) (r : Recorded) (id : Id) → r.id ≡ id → (test r && not (same_id r.id id)) ≡ false
out test r id is = and_right (test r) _ (not_from_true _ (same_id-from r.id id is))

-- the others are the same
others-with : (test : Recorded → Bool) (ts : List Recorded) (r : Recorded) (id : Id) → r.id ≡ id
    → filter (λ t. test t && not (same_id t.id id)) (with_recorded ts r) ≡ filter (λ t. test t && not (same_id t.id id)) ts
others-with test [] r id is = rw (out test r id is) refl
others-with test (a ∷ ts) r id is = elim (cases_Bool (same_id a.id r.id)) [
  | inl same ↦ rw (same, out test r id is, out test a id (same_id-equal a.id r.id same ∙ is)) refl
  | inr other ↦ elim (cases_Bool (is_before r.id a.id)) [
    | inl before ↦ rw (other, before, out test r id is) refl
    | inr behind ↦ rw (other, behind) (ap (λ us. if test a && not (same_id a.id id) then a ∷ us else us) (others-with test ts r id is))
  ]
]

-- where no one passes, and it does not either
none-with : (test : Recorded → Bool) (ts : List Recorded) (r : Recorded) → list_any test ts ≡ false → test r ≡ false → list_any test (with_recorded ts r) ≡ false
none-with test [] r none other = or_from _ _ other refl
none-with test (a ∷ ts) r none other =
    let parts = or_parts (test a) (list_any test ts) none in
    if_cases (λ us. list_any test us ≡ false) (same_id a.id r.id) (r ∷ ts) (if is_before r.id a.id then r ∷ a ∷ ts else a ∷ with_recorded ts r)
    (λ same. or_from _ _ other parts.1)
    (λ differs. if_cases (λ us. list_any test us ≡ false) (is_before r.id a.id) (r ∷ a ∷ ts) (a ∷ with_recorded ts r) (λ before. or_from _ _ other none) (λ behind. or_from _ _ parts.0 (none-with test ts r parts.1 other)))

-- ---- a transaction with one part more that is ready

-- the transaction with one part more
abbrev pub pushed : Recorded → Part → Recorded
pushed r part = record r { parts = r.parts ++ record { is_done = false; part = part } ∷ [] }

or_right-none : (a b : Bool) → b ≡ false → (a || b) ≡ a
or_right-none true b none = refl
or_right-none false b none = none

module _ (s : Durable) (id : Id) (part : Part) where
  abbrev r : Recorded
  r = recorded_or_new s.transactions id

  abbrev s' : Durable
  s' = after_event s (Event.Ready id part)

  r-id : r.id ≡ id
  r-id = elim (recorded_or_new-cases s.transactions id) [ inl known ↦ known.1 | inr new ↦ ap (λ (u : Recorded). u.id) new ]

  pub pushed-known : recorded_or_new s'.transactions id ≡ pushed r part
  pushed-known = ap (recorded_or_new (with_recorded s.transactions (pushed r part))) (sym r-id) ∙ recorded_or_new-with s.transactions (pushed r part)

  pub pushed-may : may_get_ready s id ≡ true → may_get_ready s' id ≡ true
  pushed-may may = ap (λ (u : Recorded). id.boot == s.boots && is_ready u.stage) pushed-known ∙ may

  others-same : others_waiting s' (Some id) ≡ others_waiting s (Some id)
  others-same = others-with (λ t. not (is_decided t.stage)) s.transactions (pushed r part) id r-id

  -- the changes of the transaction apply as before, and its settings
  pub pushed-changes : (cs : List Change) → is_part_of DonePart.Files part ≡ false → part_applies s id (Changes cs) ≡ part_applies s' id (Changes cs)
  pushed-changes cs other = λ i. not (has i) && are_recorded_changes cs && applies i
    where
      has : has_changes_part r ≡ has_changes_part (recorded_or_new s'.transactions id)
      has = sym (ap has_changes_part pushed-known ∙ is_among-push (is_part_of DonePart.Files) r.parts (record { is_done = false; part = part }) ∙ or_right-none (has_changes_part r) _ other)

      applies : recorded_changes_apply s (Some id) cs ≡ recorded_changes_apply s' (Some id) cs
      applies i = list_all (λ t. not (list_any (meets (holds_in s t)) (acts_of_all s.tree cs)) && not (list_any (λ change. is_make change && has_made (changes_of t) (node_of change)) cs)) (sym others-same i)
          && changes_apply s.tree cs && list_all (is_new_in s.tree) cs

  pub pushed-settings : (ss : OwnSettings) → is_part_of DonePart.Keys part ≡ false → part_applies s id (Settings ss) ≡ part_applies s' id (Settings ss)
  pushed-settings ss other = λ i. not (has i) && are_good_settings ss && applies i
    where
      has : has_settings_part r ≡ has_settings_part (recorded_or_new s'.transactions id)
      has = sym (ap has_settings_part pushed-known ∙ is_among-push (is_part_of DonePart.Keys) r.parts (record { is_done = false; part = part }) ∙ or_right-none (has_settings_part r) _ other)

      applies : settings_apply s (Some id) ss ≡ settings_apply s' (Some id) ss
      applies i = list_all (λ t. not (list_any (λ setting. is_some (value_at (settings_of t) setting.key)) ss)) (sym others-same i)

  -- an enlistment that is new stays so, where it is not the part's
  pub pushed-new : (e m : Id) (information : List ℕ) → is_new_enlistment s e m information ≡ true → list_any (λ other. same_id other e) (enlistments_in part) ≡ false → is_new_enlistment s' e m information ≡ true
  pushed-new e m information new differs =
      let fits = and_parts _ (nat_le (length information) MOST_INFORMATION_BYTES) new in
      let manager = and_parts _ (is_manager s m) fits.0 in
      let boot = and_parts (e.boot == s.boots) (not (list_any has-it s.transactions)) manager.0 in
      and_from _ _ (and_from _ _ (and_from _ _ boot.0 (not_from_false _ (none-with has-it s.transactions (pushed r part) (not-true _ boot.1) (not-its (not-true _ boot.1))))) manager.1) fits.1
    where
      has-it : Recorded → Bool
      has-it t = list_any (λ other. same_id other e) (enlistments_of t)

      before : list_any has-it s.transactions ≡ false → has-it r ≡ false
      before none = elim (recorded_or_new-cases s.transactions id) [ inl known ↦ no_test has-it r s.transactions none known.0 | inr new ↦ ap has-it new ]

      not-its : list_any has-it s.transactions ≡ false → has-it (pushed r part) ≡ false
      not-its none = none-from (λ other. same_id other e) (enlistments_of (pushed r part)) (λ a there. elim (IsIn-cases a (superior_ids r.superior) (gathered enlistments_in (pushed r part).parts) there) [
        | inl above ↦ no_test (λ other. same_id other e) a (enlistments_of r) (before none) (IsIn-left a (superior_ids r.superior) (gathered enlistments_in r.parts) above)
        | inr below ↦ elim (IsIn-cases a (gathered enlistments_in r.parts) (enlistments_in part) (subst (IsIn a) (gathered-push enlistments_in r.parts (record { is_done = false; part = part })) below)) [
          | inl old ↦ no_test (λ other. same_id other e) a (enlistments_of r) (before none) (IsIn-right a (superior_ids r.superior) (gathered enlistments_in r.parts) old)
          | inr its ↦ no_test (λ other. same_id other e) a (enlistments_in part) differs its
        ]
      ])

  -- it has this part, which is not done
  pub pushed-part : has_part (pushed r part) ≡ true
  pushed-part = list_any-from (λ (p : RecordedPart). true) (pushed r part).parts _ (IsIn-right _ r.parts _ (inl refl)) refl

  pub pushed-awaits : (done : DonePart) → is_part_of done part ≡ true → awaits done (pushed r part).parts ≡ true
  pushed-awaits done is = list_any-from (λ (p : RecordedPart). is_part_of done p.part && not p.is_done) (pushed r part).parts _ (IsIn-right _ r.parts _ (inl refl)) (and_from _ _ is refl)

  -- it has the parts that it had
  pub pushed-still : (done : DonePart) → awaits done r.parts ≡ true → awaits done (pushed r part).parts ≡ true
  pushed-still done is =
      let p = list_any-at (λ (p : RecordedPart). is_part_of done p.part && not p.is_done) r.parts is in
      list_any-from (λ (p : RecordedPart). is_part_of done p.part && not p.is_done) (pushed r part).parts p.0 (IsIn-left p.0 r.parts _ p.1) p.2
