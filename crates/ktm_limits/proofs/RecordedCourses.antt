-- The limits hold after each event that the rows of the phase table record of a transaction.
use Rattle.std.specs.Prelude.{if◌then◌else◌}
use Rattle.std.proofs.Common.{◌≡◌, ℕ, ◌+◌, ◌≤◌, ◌==◌, ◌&&◌, ◌||◌, Bool, true, false, cond, List, [], ◌∷◌, ◌++◌, count_by, Option, Some, None, refl, sym, ◌∙◌, ap, arith, inl, inr, ◌⊎◌}
use Rattle.std.proofs.lemmas.Bool.{and_parts, and_from, or_left, or_parts, true≢false}
use Rattle.std.proofs.lemmas.List.{append-nil}
use Rattle.ktm_world.specs.declared.change.Change.{Change}
use Rattle.ktm_world.specs.declared.event.DonePart.{DonePart}
use Rattle.ktm_world.specs.declared.event.Event.{Event}
use Rattle.ktm_world.specs.declared.event.Part.{Part}
use Rattle.ktm_world.specs.declared.object.Phase.{Phase}
use Rattle.ktm_world.specs.declared.object.Phase.TheVariants.{PrePreparing, Preparing, SinglePhase}
use Rattle.ktm_world.specs.declared.object.Transaction.{Transaction}
use Rattle.ktm_world.specs.Changes.{has_changes}
use Rattle.ktm_world.specs.Durable.{Durable, after_event, after_events, fact_of, is_within_limits}
use Rattle.ktm_world.specs.Enlistments.{Enlistment, is_durable_at, is_superior, superior_of}
use Rattle.ktm_world.specs.Files.{own_changes}
use Rattle.ktm_world.specs.Keys.{OwnSettings, own_settings}
use Rattle.ktm_world.specs.Lawful.{Agrees, undecided}
use Rattle.ktm_world.specs.Phases.{enlistment_part, event_if, has_settings}
use Rattle.ktm_world.specs.Present.{Present}
use Rattle.ktm_world.specs.Steps.{Basis, basis, events_ahead, held_event, lasting_of}
use Rattle.ktm_world.specs.Transactions.{is_live, same_id}
use Rattle.ktm_steps.proofs.offered.Ways.{Ways, proceeds-by, if_cases}
use Rattle.txf_laws.specs.Elements.{IsIn}
use Rattle.txf_laws.specs.Footprint.{ListsLaw}
use Rattle.ktm_records.specs.Kept.{limits_hold}
use Rattle.txf_laws.specs.SoundFiles.{IsSoundFiles}
use Rattle.ktm_limits.proofs.CourseLimits.{Along, Few, Past, along-limits, decide-past, done-past, held-along, ready-along, single-changes, single-settings}
use Rattle.ktm_courses.proofs.offered.Moves.{of-superior}
use Rattle.ktm_records.proofs.offered.NoMore.{Fits}
use Rattle.ktm_limits.proofs.RecordedLimits.{is_live_superior, live-from}
use Rattle.txf_laws.proofs.offered.Sums.{one_where, sum-one}
use Rattle.ktm_world.specs.Rows.{all_readies, commits, is_last, participants, prepare_completes, proceeds_without, read_onlies, without}
use Rattle.ktm_world.specs.TransactionCalls.{course_of}
use Rattle.ktm_world.specs.declared.input.Seen.{Seen}
use Rattle.ktm_world.specs.declared.input.Share.{Share}
use Rattle.ktm_world.specs.declared.step.Step.{Step}

-- ---- events one after another

pub holds-append : (es fs : List Event) (s : Durable) → limits_hold s es ≡ true → limits_hold (after_events s es) fs ≡ true → limits_hold s (es ++ fs) ≡ true
holds-append [] fs s first second = second
holds-append (e ∷ es) fs s first second = let parts = and_parts (is_within_limits (fact_of s e)) (limits_hold (after_event s e) es) first in and_from _ _ parts.0 (holds-append es fs (after_event s e) parts.1 second)

-- counting an event is no part of the limits
pub uncounted : (s : Durable) (n : ℕ) → is_within_limits (record s { events = n }) ≡ true → is_within_limits s ≡ true
unfolding is_within_limits
uncounted s n within = within

no-change : (cs : List Change) → has_changes cs ≡ false → cs ≡ []
no-change [] none = refl
no-change (c ∷ cs) none = absurd (true≢false none)

no-setting : (ss : OwnSettings) → has_settings ss ≡ false → ss ≡ []
no-setting [] none = refl
no-setting (s ∷ ss) none = absurd (true≢false none)

-- the state while nothing is decided, by equal changes and settings and with room for more enlistments
along-as : (x : Present) (t : Transaction) (s : Durable) (cs cs' : List Change) (ss ss' : OwnSettings) (n n' m : ℕ) → cs ≡ cs' → ss ≡ ss' → n ≤ n' → Along x t s cs ss n m → Along x t s cs' ss' n' m
along-as x t s cs cs' ss ss' n n' m changes settings more along = record {
  rises = along.rises;
  others = along.others;
  waits = along.waits;
  owns = along.owns ∙ changes;
  sets = along.sets ∙ settings;
  enlisted = (let a = along.enlisted in omega arith);
  superior = along.superior;
  tree = along.tree;
  keys = along.keys;
  managers = along.managers;
  room = along.room;
}

module _ (lists : ListsLaw) (x : Present) (agrees : Agrees x) (sound : IsSoundFiles x) (fits : Fits x) (t : Transaction) (there : IsIn t x.transactions.items) (live : is_live t ≡ true) (undecided' : IsIn t (undecided x)) where
  abbrev cs : List Change
  cs = own_changes x.files.table.own t.id

  abbrev ss : OwnSettings
  ss = own_settings x.keys.own t.id

  abbrev Enough : ℕ → ℕ → Type 0
  Enough n m = Few lists x agrees sound fits t there live n m

  -- ---- of a state

  within : (s : Durable) (cs' : List Change) (ss' : OwnSettings) (n m : ℕ) → Along x t s cs' ss' n m → Enough n m → (cs' ≡ []) ⊎ (cs' ≡ cs) → (ss' ≡ []) ⊎ (ss' ≡ ss) → is_within_limits s ≡ true
  within s cs' ss' n m along few changes settings = along-limits lists x agrees sound fits t there live s cs' ss' n m along few changes settings

  -- the files are ready, if they take part
  ready-files : (s : Durable) (n : ℕ) → Along x t s [] [] n 0 → Enough n 0 → (b : Bool) → has_changes cs ≡ b
      → (limits_hold s (event_if b (Event.Ready t.id (Part.Changes cs))) ≡ true) × Along x t (after_events s (event_if b (Event.Ready t.id (Part.Changes cs)))) cs [] n 0
  ready-files s n along few false none = (refl, along-as x t s [] cs [] [] n n 0 (sym (no-change cs none)) refl (omega arith) along)
  ready-files s n along few true some =
      let e = Event.Ready t.id (Part.Changes cs) in
      let next = along-as x t (after_event s e) ([] ++ cs) cs [] [] (n + 0) n 0 refl refl (omega arith) (ready-along x t s [] [] n 0 (Part.Changes cs) along) in
      (and_from _ _ (uncounted (fact_of s e) (s.events + 1) (within (after_event s e) cs [] n 0 next few (inr refl) (inl refl))) refl, next)

  -- the keys are ready, if they take part
  ready-keys : (s : Durable) (n : ℕ) → Along x t s cs [] n 0 → Enough n 0 → (b : Bool) → has_settings ss ≡ b
      → (limits_hold s (event_if b (Event.Ready t.id (Part.Settings ss))) ≡ true) × Along x t (after_events s (event_if b (Event.Ready t.id (Part.Settings ss)))) cs ss n 0
  ready-keys s n along few false none = (refl, along-as x t s cs cs [] ss n n 0 refl (sym (no-setting ss none)) (omega arith) along)
  ready-keys s n along few true some =
      let e = Event.Ready t.id (Part.Settings ss) in
      let next = along-as x t (after_event s e) (cs ++ []) cs ([] ++ ss) ss (n + 0) n 0 (append-nil cs) refl (omega arith) (ready-along x t s cs [] n 0 (Part.Settings ss) along) in
      (and_from _ _ (uncounted (fact_of s e) (s.events + 1) (within (after_event s e) cs ss n 0 next few (inr refl) (inr refl))) refl, next)

  -- the files and the keys are done, where they took part
  done-events : (s : Durable) → Past t s → (b d : Bool) → limits_hold s (event_if b (Event.Done t.id DonePart.Files) ++ (event_if d (Event.Done t.id DonePart.Keys) ++ [])) ≡ true
  done-events s past false false = refl
  done-events s past false true = and_from _ _ (done-past t s DonePart.Keys past).0 refl
  done-events s past true false = and_from _ _ (done-past t s DonePart.Files past).0 refl
  done-events s past true true = let first = done-past t s DonePart.Files past in and_from _ _ first.0 (and_from _ _ (done-past t (after_event s (Event.Done t.id DonePart.Files)) DonePart.Keys first.1).0 refl)

  -- ---- of rows

  -- what is read of the transaction when this enlistment calls, if one does, and whether the log has it
  abbrev pub basis_of : Bool → Option Enlistment → Basis
  basis_of recorded caller = record (basis (course_of x t caller)) { is_recorded = recorded }

  -- the limits hold after each event that steps record of it
  abbrev pub Hold : Durable → List Step → Basis → Type 0
  Hold s steps b = limits_hold s (events_ahead steps b) ≡ true

  pub hold-commits : (s : Durable) (n m : ℕ) → Along x t s cs ss n m → Enough n m → (recorded : Bool) (caller : Option Enlistment) → (recorded ≡ false → (has_changes cs ≡ false) × (has_settings ss ≡ false)) → Hold s commits (basis_of recorded caller)
  hold-commits s n m along few false caller none = let no' = none refl in rw (no'.0, no'.1) refl
  hold-commits s n m along few true caller none =
      let first = decide-past lists x agrees sound fits t there live s cs ss n m along few undecided' refl refl in
      and_from _ _ first.0 (done-events (after_event s (Event.Decide t.id)) first.1 (has_changes cs) (has_settings ss))

  -- its superior is one of those that are there
  superior-few : (f : Enlistment) → lasting_of (superior_of x.transactions.enlistments t.id) ≡ Some f → 1 ≤ count_by (is_live_superior x t.id) x.transactions.enlistments
  superior-few = of-superior (λ f. 1 ≤ count_by (is_live_superior x t.id) x.transactions.enlistments) x.transactions.enlistments t.id (λ e has is.
      let parts = and_parts (same_id e.transaction t.id) (is_superior e) is in
      let one = sum-one (one_where (is_live_superior x t.id)) x.transactions.enlistments e has in
      let counts : one_where (is_live_superior x t.id) e ≡ 1 = ap (λ b. cond b 1 0) (and_from _ _ is (live-from x t e there live parts.0 (or_left _ _ parts.1))) in
      omega arith)

  pub hold-all_readies : (s : Durable) (n : ℕ) → Along x t s [] [] n 0 → Enough n 0 → (recorded : Bool) (caller : Option Enlistment) (seen : Seen) → Hold s (all_readies seen) (basis_of recorded caller)
  hold-all_readies s n along few recorded caller seen =
      holds-append (event_if (has_changes cs) (Event.Ready t.id (Part.Changes cs))) _ s files.0 (holds-append (event_if (has_settings ss) (Event.Ready t.id (Part.Settings ss))) _ s_files keys.0
      (if_cases (λ steps. Hold s_keys steps (basis_of ready caller)) seen.has_superior _ _ (λ above. held (lasting_of (superior_of x.transactions.enlistments t.id)) superior-few) (λ top.
      if_cases (λ steps. Hold s_keys steps (basis_of ready caller)) (participants seen == 0) _ commits (λ none. refl) (λ some. hold-commits s_keys n 0 keys.1 few ready caller (λ not'.
      let d = or_parts (recorded || has_changes cs) (has_settings ss) not' in ((or_parts recorded (has_changes cs) d.0).1, d.1))))))
    where
      ready : Bool
      ready = (recorded || has_changes cs) || has_settings ss

      s_files : Durable
      s_files = after_events s (event_if (has_changes cs) (Event.Ready t.id (Part.Changes cs)))

      s_keys : Durable
      s_keys = after_events s_files (event_if (has_settings ss) (Event.Ready t.id (Part.Settings ss)))

      files : (limits_hold s (event_if (has_changes cs) (Event.Ready t.id (Part.Changes cs))) ≡ true) × Along x t s_files cs [] n 0
      files = ready-files s n along few (has_changes cs) refl

      keys : (limits_hold s_files (event_if (has_settings ss) (Event.Ready t.id (Part.Settings ss))) ≡ true) × Along x t s_keys cs ss n 0
      keys = ready-keys s_files n files.1 few (has_settings ss) refl

      held : (o : Option Enlistment) → ((f : Enlistment) → o ≡ Some f → 1 ≤ count_by (is_live_superior x t.id) x.transactions.enlistments) → limits_hold s_keys (held_event t.id o ++ []) ≡ true
      held None above = refl
      held (Some e) above =
          let event = Event.Held t.id e.id e.manager e.information in
          let next : Along x t (after_event s_keys event) cs ss n 1 = held-along x t s_keys cs ss n 0 e.id e.manager e.information keys.1 in
          and_from _ _ (uncounted (fact_of s_keys event) (s_keys.events + 1) (within (after_event s_keys event) cs ss n 1 next (record { parts = few.parts; above = above e refl }) (inr refl) (inr refl))) refl

  -- each way to go on
  pub hold-ways : (s : Durable) (n : ℕ) → Along x t s [] [] n 0 → Enough n 0 → (recorded : Bool) (caller : Option Enlistment) (seen : Seen) → Ways (λ steps. Hold s steps (basis_of recorded caller)) seen
  hold-ways s n along few recorded caller seen = record {
    requested = λ has. refl;
    pre_prepared = λ has. refl;
    pre_preparing = λ some. refl;
    preparing = λ some. refl;
    one_phase = λ alone one no_files no_keys some. refl;
    files = λ one some. and_from _ _ (single-changes lists x agrees sound fits t there live s [] [] n 0 along few undecided' refl refl) refl;
    keys = λ one none some. and_from _ _ (single-settings lists x agrees sound fits t there live s [] [] n 0 along few undecided' refl refl) refl;
    nobody = λ none. refl;
    ready = λ none. hold-all_readies s n along few recorded caller seen;
  }

  -- one enlistment more is prepared
  pub hold-prepare_completes : (s : Durable) (n : ℕ) → Along x t s [] [] n 0 → Enough (n + 1) 0 → (recorded : Bool) (e : Enlistment) (seen : Seen) → Hold s (prepare_completes seen) (basis_of recorded (Some e))
  hold-prepare_completes s n along few recorded e seen = go (is_durable_at x.managers e.manager)
    where
      next : (s' : Durable) (recorded' : Bool) → Along x t s' [] [] (n + 1) 0 → Hold s' (if is_last seen then all_readies seen else []) (basis_of recorded' (Some e))
      next s' recorded' along' = if_cases (λ steps. Hold s' steps (basis_of recorded' (Some e))) (is_last seen) (all_readies seen) [] (λ last. hold-all_readies s' (n + 1) along' few recorded' (Some e) seen) (λ waits. refl)

      go : (durable : Bool) → limits_hold s (event_if durable (Event.Ready t.id (enlistment_part e)) ++ events_ahead (if is_last seen then all_readies seen else []) (basis_of (durable || recorded) (Some e))) ≡ true
      go false = next s recorded (along-as x t s [] [] [] [] n (n + 1) 0 refl refl (omega arith) along)
      go true =
          let event = Event.Ready t.id (enlistment_part e) in
          let along' : Along x t (after_event s event) [] [] (n + 1) 0 = ready-along x t s [] [] n 0 (enlistment_part e) along in
          and_from _ _ (uncounted (fact_of s event) (s.events + 1) (within (after_event s event) [] [] (n + 1) 0 along' few (inl refl) (inl refl))) (next (after_event s event) true along')

  pub hold-read_onlies : (s : Durable) (n : ℕ) → Along x t s [] [] n 0 → Enough n 0 → (recorded : Bool) (caller : Option Enlistment) (seen : Seen) (share : Share) → Hold s (read_onlies seen share) (basis_of recorded caller)
  hold-read_onlies s n along few recorded caller seen share =
      if_cases (λ steps. Hold s steps (basis_of recorded caller)) (share.owes && is_last seen) (proceeds_without seen.phase (without share seen)) [] (λ last. goes_on seen.phase) (λ waits. refl)
    where
      goes_on : (phase : Phase) → Hold s (proceeds_without phase (without share seen)) (basis_of recorded caller)
      goes_on PrePreparing = proceeds-by (λ steps. Hold s steps (basis_of recorded caller)) (without share seen) (hold-ways s n along few recorded caller (without share seen))
      goes_on Preparing = hold-all_readies s n along few recorded caller (without share seen)
      goes_on SinglePhase = refl
      goes_on _ = refl
