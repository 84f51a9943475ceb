-- What the rows of the phase table record applies, but for the limits.
use Rattle.std.specs.Prelude.{if◌then◌else◌}
use Rattle.std.proofs.Common.{◌≡◌, ◌==◌, ◌&&◌, ◌||◌, Bool, true, false, is_none, List, [], ◌∷◌, ◌++◌, Option, Some, None, refl, sym, ◌∙◌, ap, append-nil, inl, inr}
use Rattle.std.proofs.lemmas.Bool.{and_from, and_parts, cases_Bool, or_cases, or_from, or_parts, or_right, true≢false}
use Rattle.ktm_base.specs.declared.id.Id.{Id}
use Rattle.ktm_world.specs.declared.event.DonePart.{DonePart}
use Rattle.ktm_world.specs.declared.event.Event.{Event}
use Rattle.ktm_world.specs.declared.event.Part.{Part}
use Rattle.ktm_world.specs.declared.event.Part.TheVariants.{Changes, Settings}
use Rattle.ktm_world.specs.declared.input.Seen.{Seen}
use Rattle.ktm_world.specs.declared.input.Share.{Share}
use Rattle.ktm_world.specs.declared.object.Phase.{Phase}
use Rattle.ktm_world.specs.declared.step.Fact.{Fact}
use Rattle.ktm_world.specs.declared.step.Step.{Step}
use Rattle.ktm_world.specs.Changes.{has_changes}
use Rattle.ktm_world.specs.Durable.{Durable, Recorded, after_event, after_events, fact_applies, has_part, is_new_enlistment, is_ready, is_sole, may_get_ready, part_applies, recorded_at, recorded_or_new, enlistments_in}
use Rattle.ktm_world.specs.Enlistments.{Enlistment, is_durable_at}
use Rattle.ktm_world.specs.Phases.{enlistment_part, event_if, has_settings, is_single_phase}
use Rattle.ktm_world.specs.Rows.{all_readies, commit_completes, commits, is_last, participants, prepare_completes, proceeds_without, read_onlies, without}
use Rattle.ktm_world.specs.Steps.{Basis, events_ahead, events_of, held_event, is_recorded_by}
use Rattle.ktm_world.specs.Transactions.{same_id}
use Rattle.ktm_steps.proofs.offered.Ways.{Ways, proceeds-by, if_cases}
use Rattle.ktm_records.specs.Kept.{facts_apply}
use Rattle.ktm_records.proofs.Facts.{MayDecide, awaits, decision-applies, facts-append, facts-if, facts-one}
use Rattle.ktm_records.proofs.AddedParts.{pushed-awaits, pushed-changes, pushed-known, pushed-may, pushed-new, pushed-part, pushed-settings, pushed-still}
use Rattle.std.specs.List.{list_any}

-- what these steps record applies
abbrev pub Apply : Durable → List Step → Basis → Type 0
Apply s steps b = facts_apply s (events_ahead steps b) ≡ true

-- ---- a decision

-- the state knows of the transaction what it decides, or there is nothing to record
pub record CanDecide (s : Durable) (b : Basis) : Type 0 where
  pub decided : b.is_recorded ≡ true → MayDecide s b.id (has_changes b.changes) (has_settings b.settings)
  pub nothing : b.is_recorded ≡ false → (has_changes b.changes ≡ false) × (has_settings b.settings ≡ false)

pub apply-commits : (s : Durable) (b : Basis) → CanDecide s b → Apply s commits b
apply-commits s b can = go b.is_recorded refl
  where
    keys : List Event
    keys = event_if (has_settings b.settings) (Event.Done b.id DonePart.Keys)

    go : (recorded : Bool) → b.is_recorded ≡ recorded
        → facts_apply s (event_if recorded (Event.Decide b.id) ++ (event_if (has_changes b.changes) (Event.Done b.id DonePart.Files) ++ (event_if (has_settings b.settings) (Event.Done b.id DonePart.Keys) ++ []))) ≡ true
    go true is = ap (λ es. facts_apply s (Event.Decide b.id ∷ (event_if (has_changes b.changes) (Event.Done b.id DonePart.Files) ++ es))) (append-nil keys) ∙ decision-applies s b.id (has_changes b.changes) (has_settings b.settings) (can.decided is)
    go false other = let none = can.nothing other in rw (none.0, none.1) refl

-- ---- a transaction that may get ready

-- its files are ready in the log, or apply
abbrev HasFiles : Durable → Basis → Bool → Type 0
HasFiles s b ready = has_changes b.changes ≡ true → (if ready then awaits DonePart.Files (recorded_or_new s.transactions b.id).parts else part_applies s b.id (Changes b.changes)) ≡ true

-- its keys are ready in the log, or apply
abbrev HasKeys : Durable → Basis → Bool → Type 0
HasKeys s b ready = has_settings b.settings ≡ true → (if ready then awaits DonePart.Keys (recorded_or_new s.transactions b.id).parts else part_applies s b.id (Settings b.settings)) ≡ true

-- it is new to the log, or ready there, with its files and its keys, or without, and its superior is new
pub record MayReady (s : Durable) (b : Basis) (with_files with_keys : Bool) : Type 0 where
  pub may : may_get_ready s b.id ≡ true
  pub new : b.is_recorded ≡ false → recorded_at s.transactions b.id ≡ None
  pub has : b.is_recorded ≡ true → has_part (recorded_or_new s.transactions b.id) ≡ true
  pub files : HasFiles s b with_files
  pub keys : HasKeys s b with_keys
  pub superior : (e : Enlistment) → b.superior ≡ Some e → is_new_enlistment s e.id e.manager e.information ≡ true

-- with one part more in the log
module _ (s : Durable) (b : Basis) (part : Part) where
  abbrev s' : Durable
  s' = after_event s (Event.Ready b.id part)

  ready-more : (recorded f k : Bool) → recorded ≡ true → may_get_ready s b.id ≡ true → HasFiles s' b f → HasKeys s' b k → ((e : Enlistment) → b.superior ≡ Some e → is_new_enlistment s' e.id e.manager e.information ≡ true) → MayReady s' (record b { is_recorded = recorded }) f k
  ready-more recorded f k is may files keys superior = record {
    may = pushed-may s b.id part may;
    new = λ other. absurd (true≢false (sym is ∙ other));
    has = λ is. ap has_part (pushed-known s b.id part) ∙ pushed-part s b.id part;
    files = files;
    keys = keys;
    superior = superior;
  }

  -- its own participant waits for it
  awaited : (done : DonePart) → awaits done (recorded_or_new s'.transactions b.id).parts ≡ awaits done ((recorded_or_new s.transactions b.id).parts ++ record { is_done = false; part = part } ∷ [])
  awaited done = ap (λ (r : Recorded). awaits done r.parts) (pushed-known s b.id part)

  -- the files or the keys get ready, where they take part
  ready-own : (f k f' k' a : Bool) → MayReady s b f k → ((e : Enlistment) → list_any (λ other. same_id other e.id) (enlistments_in part) ≡ false) → (a ≡ true → (part_applies s b.id part ≡ true) × HasFiles s' b f' × HasKeys s' b k') → (a ≡ false → HasFiles s b f' × HasKeys s b k')
      → (facts_apply s (event_if a (Event.Ready b.id part)) ≡ true) × MayReady (after_events s (event_if a (Event.Ready b.id part))) (record b { is_recorded = b.is_recorded || a }) f' k'
  ready-own f k f' k' true can own takes leaves = let now = takes refl in (
    facts-one s (Event.Ready b.id part) (and_from _ _ can.may now.0),
    ready-more (b.is_recorded || true) f' k' (or_right _ _ refl) can.may now.1 now.2 (λ e is. pushed-new s b.id part e.id e.manager e.information (can.superior e is) (own e)),
  )
  ready-own f k f' k' false can own takes leaves = let still = leaves refl in (
    refl,
    record {
      may = can.may;
      new = λ other. can.new (or_parts b.is_recorded false other).0;
      has = λ is. elim (or_cases b.is_recorded false is) [ inl recorded ↦ can.has recorded | inr wrong ↦ absurd (true≢false (sym wrong)) ];
      files = still.0;
      keys = still.1;
      superior = can.superior;
    },
  )

ready-files : (s : Durable) (b : Basis) → MayReady s b false false
    → (facts_apply s (events_of Fact.ReadyFiles b) ≡ true) × MayReady (after_events s (events_of Fact.ReadyFiles b)) (record b { is_recorded = is_recorded_by Fact.ReadyFiles b }) true false
ready-files s b can = let part = Changes b.changes in ready-own s b part false false true false (has_changes b.changes) can (λ e. refl)
    (λ some. (can.files some, λ is. awaited s b part DonePart.Files ∙ pushed-awaits s b.id part DonePart.Files refl, λ is. sym (pushed-settings s b.id part b.settings refl) ∙ can.keys is))
    (λ none. (λ some. absurd (true≢false (sym some ∙ none)), can.keys))

ready-keys : (s : Durable) (b : Basis) → MayReady s b true false
    → (facts_apply s (events_of Fact.ReadyKeys b) ≡ true) × MayReady (after_events s (events_of Fact.ReadyKeys b)) (record b { is_recorded = is_recorded_by Fact.ReadyKeys b }) true true
ready-keys s b can = let part = Settings b.settings in ready-own s b part true false true true (has_settings b.settings) can (λ e. refl)
    (λ some. (can.keys some, λ is. awaited s b part DonePart.Files ∙ pushed-still s b.id part DonePart.Files (can.files is), λ is. awaited s b part DonePart.Keys ∙ pushed-awaits s b.id part DonePart.Keys refl))
    (λ none. (can.files, λ some. absurd (true≢false (sym some ∙ none))))

-- one that has a part is there
known-found : (ts : List Recorded) (id : Id) → has_part (recorded_or_new ts id) ≡ true → recorded_at ts id ≡ Some (recorded_or_new ts id)
known-found [] id some = absurd (true≢false (sym some))
known-found (a ∷ ts) id some = elim (cases_Bool (same_id a.id id)) [
  | inl same ↦ rw same refl
  | inr other ↦ rw other (known-found ts id (rw other at some))
]

-- ---- all are prepared

pub apply-all_readies : (s : Durable) (b : Basis) (seen : Seen) → MayReady s b false false → Apply s (all_readies seen) b
apply-all_readies s b seen can =
    facts-append (events_of Fact.ReadyFiles b) (events_of Fact.ReadyKeys b ++ _) s files.0 (facts-append (events_of Fact.ReadyKeys b) _ s_files keys.0
    (if_cases (λ steps. Apply s_keys steps b_keys) seen.has_superior _ _ (λ above. holds b.superior refl) (λ top. if_cases (λ steps. Apply s_keys steps b_keys) (participants seen == 0) _ commits (λ none. refl) (λ some. apply-commits s_keys b_keys decides))))
  where
    files : (facts_apply s (events_of Fact.ReadyFiles b) ≡ true) × MayReady (after_events s (events_of Fact.ReadyFiles b)) (record b { is_recorded = is_recorded_by Fact.ReadyFiles b }) true false
    files = ready-files s b can

    s_files : Durable
    s_files = after_events s (events_of Fact.ReadyFiles b)

    b_files : Basis
    b_files = record b { is_recorded = is_recorded_by Fact.ReadyFiles b }

    keys : (facts_apply s_files (events_of Fact.ReadyKeys b) ≡ true) × MayReady (after_events s_files (events_of Fact.ReadyKeys b)) (record b { is_recorded = is_recorded_by Fact.ReadyKeys b_files }) true true
    keys = ready-keys s_files b_files files.1

    s_keys : Durable
    s_keys = after_events s_files (events_of Fact.ReadyKeys b)

    b_keys : Basis
    b_keys = record b { is_recorded = is_recorded_by Fact.ReadyKeys b_files }

    holds : (o : Option Enlistment) → b.superior ≡ o → facts_apply s_keys (held_event b.id o ++ []) ≡ true
    holds None is = refl
    holds (Some e) is = facts-one s_keys (Event.Held b.id e.id e.manager e.information) (and_from _ _ keys.1.may (keys.1.superior e is))

    decides : CanDecide s_keys b_keys
    decides = record {
      decided = λ recorded. record {
        r = recorded_or_new s_keys.transactions b.id;
        found = known-found s_keys.transactions b.id (keys.1.has recorded);
        stage = or_right _ _ (and_from _ _ (and_parts (b.id.boot == s_keys.boots) (is_ready (recorded_or_new s_keys.transactions b.id).stage) keys.1.may).1 (keys.1.has recorded));
        files = keys.1.files;
        keys = keys.1.keys;
      };
      nothing = λ other. let both = or_parts (b.is_recorded || has_changes b.changes) (has_settings b.settings) other in ((or_parts b.is_recorded (has_changes b.changes) both.0).1, both.1);
    }

-- ---- a transaction that the log does not have

pub apply-ways : (s : Durable) (b : Basis) (seen : Seen) → seen.has_files ≡ has_changes b.changes → seen.has_keys ≡ has_settings b.settings → MayReady s b false false → b.is_recorded ≡ false → Ways (λ steps. Apply s steps b) seen
apply-ways s b seen has_files has_keys can other = record {
  requested = λ has. refl;
  pre_prepared = λ has. refl;
  pre_preparing = λ some. refl;
  preparing = λ some. refl;
  one_phase = λ alone one no_files no_keys some. refl;
  files = λ one some. single (Changes b.changes) refl (can.files (sym has_files ∙ some));
  keys = λ one no_files some. single (Settings b.settings) refl (can.keys (sym has_keys ∙ some));
  nobody = λ none. refl;
  ready = λ none. apply-all_readies s b seen can;
}
  where
    -- the files or the keys alone commit
    single : (part : Part) → is_sole part ≡ true → part_applies s b.id part ≡ true → facts_apply s (Event.Single b.id part ∷ []) ≡ true
    single part sole applies = facts-one s (Event.Single b.id part)
        (and_from _ _ (and_from _ _ (and_from _ _ (and_parts (b.id.boot == s.boots) (is_ready (recorded_or_new s.transactions b.id).stage) can.may).0 (ap is_none (can.new other))) sole) applies)

-- ---- the answers of enlistments

-- of one that is new to the log, where its resource manager is durable, and is not the superior
pub apply-prepare_completes : (s : Durable) (basis : Basis) (seen : Seen) (e : Enlistment) → let b = record basis { caller = Some e } in MayReady s b false false
    → (is_durable_at b.managers e.manager ≡ true → is_new_enlistment s e.id e.manager e.information ≡ true) → ((f : Enlistment) → b.superior ≡ Some f → same_id e.id f.id ≡ false) → Apply s (prepare_completes seen) b
apply-prepare_completes s basis seen e can new below = go (is_durable_at basis.managers e.manager) refl
  where
    b : Basis
    b = record basis { caller = Some e }

    next : (s' : Durable) (recorded : Bool) → MayReady s' (record b { is_recorded = recorded }) false false → Apply s' (if is_last seen then all_readies seen else []) (record b { is_recorded = recorded })
    next s' recorded can' = if_cases (λ steps. Apply s' steps (record b { is_recorded = recorded })) (is_last seen) (all_readies seen) [] (λ last. apply-all_readies s' (record b { is_recorded = recorded }) seen can') (λ waits. refl)

    go : (durable : Bool) → is_durable_at basis.managers e.manager ≡ durable
        → facts_apply s (event_if durable (Event.Ready b.id (enlistment_part e)) ++ events_ahead (if is_last seen then all_readies seen else []) (record b { is_recorded = durable || b.is_recorded })) ≡ true
    go true durable = and_from _ _ (and_from _ _ can.may (new durable)) (next (after_event s (Event.Ready b.id (enlistment_part e))) true (ready-more s b (enlistment_part e) true false false refl can.may
        (λ some. sym (pushed-changes s b.id (enlistment_part e) b.changes refl) ∙ can.files some)
        (λ some. sym (pushed-settings s b.id (enlistment_part e) b.settings refl) ∙ can.keys some)
        (λ f is. pushed-new s b.id (enlistment_part e) f.id f.manager f.information (can.superior f is) (or_from _ _ (below f is) refl))))
    go false volatile = next s b.is_recorded can

pub apply-read_onlies : (s : Durable) (b : Basis) (seen : Seen) (share : Share) → seen.has_files ≡ has_changes b.changes → seen.has_keys ≡ has_settings b.settings → MayReady s b false false → (seen.phase ≡ Phase.PrePreparing → b.is_recorded ≡ false)
    → Apply s (read_onlies seen share) b
apply-read_onlies s b seen share has_files has_keys can other = if_cases (λ steps. Apply s steps b) (share.owes && is_last seen) (proceeds_without seen.phase (without share seen)) [] (λ last. goes_on seen.phase refl) (λ waits. refl)
  where
    goes_on : (phase : Phase) → seen.phase ≡ phase → Apply s (proceeds_without phase (without share seen)) b
    goes_on Phase.PrePreparing is = proceeds-by (λ steps. Apply s steps b) (without share seen) (apply-ways s b (without share seen) has_files has_keys can (other is))
    goes_on Phase.Preparing is = apply-all_readies s b (without share seen) can
    goes_on Phase.SinglePhase is = refl
    goes_on _ is = refl

pub apply-commit_completes : (s : Durable) (basis : Basis) (phase : Phase) (e : Enlistment) → (is_single_phase phase ≡ false → is_durable_at basis.managers e.manager ≡ true → fact_applies s (Event.Done basis.id (DonePart.Enlistment e.id)) ≡ true)
    → Apply s (commit_completes phase) (record basis { caller = Some e })
apply-commit_completes s basis phase e applies = if_cases (λ steps. Apply s steps (record basis { caller = Some e })) (is_single_phase phase) _ _ (λ single. refl)
    (λ several. ap (facts_apply s) (append-nil (event_if (is_durable_at basis.managers e.manager) (Event.Done basis.id (DonePart.Enlistment e.id)))) ∙ facts-if s (is_durable_at basis.managers e.manager) (Event.Done basis.id (DonePart.Enlistment e.id)) (applies several))
