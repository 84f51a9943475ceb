-- What was recorded goes on to agree with what is so now where a transaction goes on of which nobody is prepared yet.
use Rattle.std.proofs.Common.{◌≡◌, List, [], ◌∷◌, ◌++◌, None, refl, sym, ◌∙◌, ap, subst, arith}
use Rattle.std.proofs.lemmas.Bool.{true≢false}
use Rattle.ktm_base.specs.declared.id.Id.{Id}
use Rattle.ktm_base.specs.declared.notify.Notify.{Notify}
use Rattle.ktm_world.specs.declared.event.Event.{Event}
use Rattle.ktm_world.specs.declared.event.Part.{Part}
use Rattle.ktm_world.specs.declared.input.PhaseInput.{PhaseInput}
use Rattle.ktm_world.specs.declared.object.Phase.TheVariants.{PrePreparing, PrePrepared, Preparing, Requested, SinglePhase, Ended}
use Rattle.ktm_world.specs.declared.object.TransactionOutcome.TheVariants.{Committed as CommittedOutcome}
use Rattle.ktm_world.specs.declared.step.Owed.{Owed}
use Rattle.ktm_world.specs.declared.step.Step.{Step}
use Rattle.ktm_world.specs.declared.step.Who.{Who}
use Rattle.ktm_world.specs.Changes.{changed_all}
use Rattle.ktm_world.specs.Committed.{committed_with}
use Rattle.ktm_world.specs.Durable.{Recorded, after_events, changes_in, settings_in}
use Rattle.ktm_world.specs.Enlistments.{takes_part}
use Rattle.ktm_world.specs.Keys.{stored_all}
use Rattle.ktm_world.specs.Outcome.{committed_now}
use Rattle.ktm_world.specs.Phases.{Course, ended, in_phase, one_if, owing, telling, work_of, recording}
use Rattle.ktm_world.specs.Present.{Present}
use Rattle.ktm_world.proofs.offered.Durables.{after_events-append}
use Rattle.ktm_world.specs.Steps.{led, run, seen}
use Rattle.ktm_steps.proofs.offered.Ways.{Ways, commit-by, pre_prepare-by, prepare-by, proceed-by}
use Rattle.ktm_records.proofs.AgreementOfCommits.{works-done}
use Rattle.ktm_records.proofs.offered.AgreementOfCourses.{Follows, course_summaries, follows-from, none-in, none-unrecorded}
use Rattle.ktm_records.proofs.ReadyCourses.{Prepares, follows-preparing, readies-alike}
use Rattle.ktm_records.proofs.AgreementOfSilentSteps.{enlistments-alike}
use Rattle.ktm_records.proofs.LoggedTransaction.{AreDrawn, Tracks, tracks-single}
use Rattle.ktm_records.proofs.ReadyParts.{none-changed, none-counted, none-set}
use Rattle.ktm_records.proofs.AgreementOfPrepared.{follows-all_ready}
use Rattle.ktm_world.specs.Rows.{proceeds}

-- ---- nobody is prepared yet

module _ (x : Present) (before behind : List Recorded) (c : Course) (prepares : Prepares x before behind c None) where
  abbrev id : Id
  id = c.transaction.id

  -- nothing is recorded of it, and the log has to have nothing of it
  pub follows-nothing : (d : Course) → d.events ≡ c.events → d.works ≡ c.works → course_summaries d ≡ [] → Follows x id before behind d
  follows-nothing d events works none = follows-from x id before behind d None c.events c.works events works prepares.tracks (sym none) (λ r none. absurd none)

  follows-unrecorded : (d : Course) → d.events ≡ c.events → d.works ≡ c.works → d.transaction.is_recorded ≡ c.transaction.is_recorded → Follows x id before behind d
  follows-unrecorded d events works same = follows-nothing d events works (none-unrecorded d (same ∙ prepares.has))

  -- all are asked to prepare
  abbrev asked : Course
  asked = in_phase (telling c (takes_part id) Notify.Prepare (owing Owed.Prepare)) Preparing

  prepares-asked : Prepares x before behind asked None
  prepares-asked = readies-alike x before behind c Preparing asked.enlistments asked.sent [] [] None
      (enlistments-alike c (takes_part id) (owing Owed.Prepare) (λ e. record { back = refl; kind = refl; read_only = refl; prepared = refl; finished = refl })) prepares

  -- one participant alone
  follows-single : (part : Part) → changes_in part ≡ c.changes → settings_in part ≡ c.settings → Follows x id before behind (ended (record (recording c (Event.Single id part ∷ [])) { works = c.works ++ work_of c }) CommittedOutcome)
  unfolding ended
  follows-single part changes settings = record {
    o = None;
    tracks = subst (λ s. Tracks x id before behind None s (committed_with (committed_now x) (c.works ++ work_of c))) (sym (after_events-append x.recorded c.events (Event.Single id part ∷ [])))
        (tracks-single x id before behind None (after_events x.recorded c.events) (committed_with (committed_now x) c.works) (committed_with (committed_now x) (c.works ++ work_of c)) part (subst (AreDrawn x) (sym changes) prepares.drawn)
        ((works-done x c).0 ∙ ap (changed_all (committed_with (committed_now x) c.works).tree) (sym changes)) ((works-done x c).1 ∙ ap (stored_all (committed_with (committed_now x) c.works).store) (sym settings)) prepares.tracks);
    summaries = sym (none-in (record c { transaction = record c.transaction { phase = Ended; outcome = CommittedOutcome } }) refl);
    carried = λ r none. absurd none;
  }

  follows-nobody : Follows x id before behind (ended c CommittedOutcome)
  unfolding ended
  follows-nobody = follows-nothing (ended c CommittedOutcome) refl refl (none-in (ended c CommittedOutcome) refl)

  -- each way to go on
  follows-ways : Ways (λ steps. Follows x id before behind (run steps c)) (seen c)
  follows-ways = record {
    requested = λ has. follows-unrecorded (run (Step.Tell Who.Superior Notify.CommitRequest ∷ Step.Enter Requested ∷ []) c) refl refl refl;
    pre_prepared = λ has. follows-unrecorded (run (Step.Tell Who.Superior Notify.PrePrepareComplete ∷ Step.Enter PrePrepared ∷ []) c) refl refl refl;
    pre_preparing = λ some. follows-unrecorded (run (Step.Ask Who.Asking Notify.PrePrepare Owed.PrePrepare ∷ Step.Enter PrePreparing ∷ []) c) refl refl refl;
    preparing = λ some. follows-preparing x before behind asked None refl prepares-asked;
    one_phase = λ alone one no_files no_keys some. follows-unrecorded (run (Step.Ask Who.Parts Notify.SinglePhaseCommit Owed.Commit ∷ Step.Enter SinglePhase ∷ []) c) refl refl refl;
    files = λ one changes. let counted = ap one_if changes in follows-single (Part.Changes c.changes) refl (sym (none-set c.settings (none-counted _ (omega (arith, one, counted)))));
    keys = λ one no_changes settings. follows-single (Part.Settings c.settings) (sym (none-changed c.changes no_changes)) refl;
    nobody = λ none. follows-nobody;
    ready = λ none. follows-all_ready x before behind c None prepares (λ recorded. absurd (true≢false (sym recorded ∙ prepares.has)));
  }

  pub follows-to_prepare : Follows x id before behind (led PhaseInput.Prepare c)
  follows-to_prepare = prepare-by (Follows x id before behind) c follows-ways

  pub follows-pre_prepared : Follows x id before behind (run (proceeds (seen c)) c)
  follows-pre_prepared = proceed-by (Follows x id before behind) c follows-ways

  pub follows-to_pre_prepare : Follows x id before behind (led PhaseInput.PrePrepare c)
  follows-to_pre_prepare = pre_prepare-by (Follows x id before behind) c follows-ways

  pub follows-to_commit : Follows x id before behind (led PhaseInput.CommitTransaction c)
  follows-to_commit = commit-by (Follows x id before behind) c follows-ways
