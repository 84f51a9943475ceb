-- What waits where other changes and settings come.
use Rattle.std.proofs.Common.{◌≡◌, ◌==◌, ◌&&◌, ◌||◌, not, true, false, is_none, List, [], ◌∷◌, length, Option, Some, None, refl, sym, ◌∙◌, ap, inl, inr}
use Rattle.std.proofs.lemmas.Bool.{cases_Bool, and_parts, and_from, or_cases, eqb-true, not-true, not_from_false, true≢false, false_from_ne_true}
use Rattle.std.specs.List.{list_all, list_any}
use Rattle.ktm_base.specs.declared.id.Id.{Id}
use Rattle.ktm_world.specs.declared.change.Change.{Change}
use Rattle.ktm_world.specs.declared.event.DonePart.{DonePart}
use Rattle.ktm_world.specs.declared.event.Part.{Part}
use Rattle.ktm_world.specs.declared.event.Part.TheVariants.{Enlistment, Changes, Settings}
use Rattle.ktm_world.specs.Changes.{changed_all, changes_apply, node_of, is_make, has_changes, has_made}
use Rattle.ktm_world.specs.Durable.{Durable, Recorded, is_decided, is_part_of, changes_in, settings_in, changes_of, settings_of, has_changes_part, has_settings_part, is_new_in, holds_in, acts_of_all, others_waiting, recorded_changes_apply, settings_apply}
use Rattle.ktm_world.specs.Holds.{meets}
use Rattle.ktm_keyed.specs.Keyed.{is_rising}
use Rattle.ktm_world.specs.Keys.{OwnSettings, is_good_setting, are_good_settings}
use Rattle.ktm_world.specs.Lawful.{set_both}
use Rattle.ktm_world.specs.Transactions.{same_id}
use Rattle.ktm_world.specs.Tree.{IsWellFormed}
use Rattle.txf_laws.specs.Elements.{IsIn}
use Rattle.txf_laws.specs.Footprint.{footprint, AreFootprintsApart, ListsLaw}
use Rattle.txf_laws.specs.GoodState.{are_kept_changes, are_kept_settings}
use Rattle.txf_laws.proofs.offered.ChangeTests.{node-elsewhere}
use Rattle.txf_laws.proofs.offered.Diamonds.{IsIn-map}
use Rattle.txf_laws.proofs.offered.Lists.{AreFootprintsApart-sym}
use Rattle.txf_laws.proofs.offered.Elements.{IsIn-kept, list_all-at, list_all-from}
use Rattle.txf_laws.proofs.offered.Holds.{meeting_law}
use Rattle.txf_laws.proofs.offered.Parts.{gathered-none}
use Rattle.txf_laws.proofs.offered.Tables.{same_id-equal}
use Rattle.txf_laws.proofs.offered.GoodTransactions.{waits}

-- ---- what is kept of a transaction

-- no part that is not the files' has changes, and none that is not the keys' has settings
changes_in-none : (part : Part) → is_part_of DonePart.Files part ≡ false → changes_in part ≡ []
changes_in-none (Enlistment enlistment manager information) other = refl
changes_in-none (Changes changes) other = absurd (true≢false other)
changes_in-none (Settings settings) other = refl

settings_in-none : (part : Part) → is_part_of DonePart.Keys part ≡ false → settings_in part ≡ []
settings_in-none (Enlistment enlistment manager information) other = refl
settings_in-none (Changes changes) other = refl
settings_in-none (Settings settings) other = absurd (true≢false other)

pub no_changes_part : (t : Recorded) → has_changes_part t ≡ false → changes_of t ≡ []
no_changes_part t none = gathered-none changes_in (is_part_of DonePart.Files) changes_in-none t.parts none

pub no_settings_part : (t : Recorded) → has_settings_part t ≡ false → settings_of t ≡ []
no_settings_part t none = gathered-none settings_in (is_part_of DonePart.Keys) settings_in-none t.parts none

pub no_changes-left : (t : Recorded) → are_kept_changes t ≡ true → is_decided t.stage ≡ true → changes_of t ≡ []
no_changes-left t kept decided = go (changes_of t) (elim (or_cases _ _ (and_parts (not (is_decided t.stage) || not (has_changes (changes_of t))) _ kept).0) [
  | inl waits ↦ absurd (true≢false (sym decided ∙ not-true _ waits))
  | inr none ↦ not-true _ none
])
  where
    go : (cs : List Change) → has_changes cs ≡ false → cs ≡ []
    go [] none = refl
    go (c ∷ cs) none = absurd (true≢false none)

pub no_settings-left : (t : Recorded) → are_kept_settings t ≡ true → is_decided t.stage ≡ true → settings_of t ≡ []
no_settings-left t kept decided = go (settings_of t) (elim (or_cases _ _ (and_parts (not (is_decided t.stage) || length (settings_of t) == 0) _ kept).0) [
  | inl waits ↦ absurd (true≢false (sym decided ∙ not-true _ waits))
  | inr none ↦ eqb-true _ _ none
])
  where
    go : (ss : OwnSettings) → length ss ≡ 0 → ss ≡ []
    go [] none = refl
    go (s ∷ ss) none = absurd (cc)

pub settings-good : (ss : OwnSettings) → are_good_settings ss ≡ true → list_all is_good_setting ss ≡ true
settings-good ss good = (and_parts (not (length ss == 0) && is_rising ss) (list_all is_good_setting ss) good).1

-- the settings of a transaction are good ones
pub settings-of-good : (t : Recorded) → are_kept_settings t ≡ true → list_all is_good_setting (settings_of t) ≡ true
settings-of-good t kept = elim (or_cases (is_decided t.stage || not (has_settings_part t)) (are_good_settings (settings_of t)) (and_parts _ (is_decided t.stage || not (has_settings_part t) || are_good_settings (settings_of t)) kept).1) [
  | inl rest ↦ elim (or_cases (is_decided t.stage) (not (has_settings_part t)) rest) [
    | inl decided ↦ rw (no_settings-left t kept decided) refl
    | inr none ↦ rw (no_settings_part t (not-true _ none)) refl
  ]
  | inr good ↦ settings-good (settings_of t) good
]

-- ---- others that wait

pub in_others-plain : (s : Durable) (u : Recorded) → IsIn u s.transactions → is_decided u.stage ≡ false → IsIn u (others_waiting s None)
in_others-plain s u there waiting = IsIn-kept waits s.transactions u there (not_from_false _ waiting)

pub in_others : (s : Durable) (id : Id) (u : Recorded) → IsIn u s.transactions → is_decided u.stage ≡ false → (u.id ≡ id → ⊥) → IsIn u (others_waiting s (Some id))
in_others s id u there waiting other =
    IsIn-kept (λ t. not (is_decided t.stage) && not (same_id t.id id)) s.transactions u there
    (and_from _ _ (not_from_false _ waiting) (not_from_false _ (false_from_ne_true _ (λ same. other (same_id-equal u.id id same)))))

pub recorded_changes_apply-all : (s : Durable) (who : Option Id) (cs : List Change) → recorded_changes_apply s who cs ≡ true → changes_apply s.tree cs ≡ true
recorded_changes_apply-all s who cs apply = (and_parts (list_all _ (others_waiting s who)) (changes_apply s.tree cs) (and_parts _ (list_all (is_new_in s.tree) cs) apply).0).1

-- the nodes that changes which apply make are new
pub recorded_changes_apply-new : (s : Durable) (who : Option Id) (cs : List Change) → recorded_changes_apply s who cs ≡ true → list_all (is_new_in s.tree) cs ≡ true
recorded_changes_apply-new s who cs apply = (and_parts _ (list_all (is_new_in s.tree) cs) apply).1

-- changes that apply are apart from those of others that wait
pub recorded_changes_apply-apart : (s : Durable) (who : Option Id) (cs : List Change) → recorded_changes_apply s who cs ≡ true → (u : Recorded) → IsIn u (others_waiting s who) → changes_apply s.tree (changes_of u) ≡ true
    → AreFootprintsApart (footprint s.tree cs) (footprint s.tree (changes_of u))
recorded_changes_apply-apart s who cs apply u there all =
    let parts = and_parts (list_all (λ t. not (list_any (meets (holds_in s t)) (acts_of_all s.tree cs)) && not (list_any (λ change. is_make change && has_made (changes_of t) (node_of change)) cs)) (others_waiting s who)) (changes_apply s.tree cs) (and_parts _ (list_all (is_new_in s.tree) cs) apply).0 in
    let both = and_parts (not (list_any (meets (holds_in s u)) (acts_of_all s.tree cs))) (not (list_any (λ change. is_make change && has_made (changes_of u) (node_of change)) cs)) (list_all-at _ (others_waiting s who) parts.0 u there) in
    AreFootprintsApart-sym (footprint s.tree (changes_of u)) (footprint s.tree cs)
    (meeting_law s.tree (changes_of u) cs [] all parts.1 (not-true _ both.0) (not-true _ both.1))

pub settings_apply-apart : (s : Durable) (who : Option Id) (ss : OwnSettings) → settings_apply s who ss ≡ true → (u : Recorded) → IsIn u (others_waiting s who) → set_both ss (settings_of u) ≡ false
settings_apply-apart s who ss apply u there = not-true _ (list_all-at (λ t. not (set_both ss (settings_of t))) (others_waiting s who) apply u there)

-- ---- what waits stays

-- the changes are apart from those of a transaction, where it waits
abbrev pub SparesWaiting : Durable → List Change → Recorded → Type 0
SparesWaiting s cs u = is_decided u.stage ≡ false → AreFootprintsApart (footprint s.tree cs) (footprint s.tree (changes_of u))

module _ (lists : ListsLaw) (s : Durable) (formed : IsWellFormed s.tree) (cs : List Change) (all : changes_apply s.tree cs ≡ true) where
  pub waiting-apply : (u : Recorded) → are_kept_changes u ≡ true → changes_apply s.tree (changes_of u) ≡ true → SparesWaiting s cs u → changes_apply (changed_all s.tree cs) (changes_of u) ≡ true
  waiting-apply u kept applies spares = elim (cases_Bool (is_decided u.stage)) [
    | inl decided ↦ rw (no_changes-left u kept decided) refl
    | inr waiting ↦ (lists s.tree cs (changes_of u) formed all applies (spares waiting)).0.applies
  ]

  -- the nodes that wait to be made are still new
  pub waiting-new : (u : Recorded) → are_kept_changes u ≡ true → list_all (is_new_in s.tree) (changes_of u) ≡ true → SparesWaiting s cs u → list_all (is_new_in (changed_all s.tree cs)) (changes_of u) ≡ true
  waiting-new u kept new spares = elim (cases_Bool (is_decided u.stage)) [
    | inl decided ↦ rw (no_changes-left u kept decided) refl
    | inr waiting ↦ list_all-from (is_new_in (changed_all s.tree cs)) (changes_of u) (λ c there.
        ap (λ o. not (is_make c) || is_none o) (node-elsewhere cs s.tree (node_of c) all (λ here. (spares waiting).nodes (node_of c) here (IsIn-map node_of c (changes_of u) there))) ∙ list_all-at (is_new_in s.tree) (changes_of u) new c there)
  ]

  pub waiting-holds : (u : Recorded) → changes_apply s.tree (changes_of u) ≡ true → SparesWaiting s cs u → is_decided u.stage ≡ false
      → footprint (changed_all s.tree cs) (changes_of u) ≡ footprint s.tree (changes_of u)
  waiting-holds u applies spares waiting = (lists s.tree cs (changes_of u) formed all applies (spares waiting)).0.footprint
