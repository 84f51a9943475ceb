-- What was recorded of a transaction when a call brings it further, and the events of such a call.
use Rattle.std.specs.Prelude.{if◌then◌else◌}
use Rattle.std.proofs.Common.{◌≡◌, ℕ, ◌≤◌, ◌&&◌, not, Bool, true, false, [], length, count_by, Option, Some, None, refl, sym, ◌∙◌, ap, subst, arith, inl, inr, ◌⊎◌, List, ◌++◌}
use Rattle.std.proofs.lemmas.Bool.{and_parts, and_from, or_right, not_from_false, true≢false}
use Rattle.std.proofs.lemmas.Option.{none-some, same_Some}
use Rattle.ktm_base.specs.declared.id.Id.{Id}
use Rattle.ktm_world.specs.declared.event.DonePart.{DonePart}
use Rattle.ktm_world.specs.declared.event.Event.{Event}
use Rattle.ktm_world.specs.declared.input.PhaseInput.{PhaseInput}
use Rattle.ktm_world.specs.declared.object.Phase.{Phase}
use Rattle.ktm_world.specs.declared.object.Phase.TheVariants.{SinglePhase, Committing, Aborting, Ended}
use Rattle.ktm_world.specs.declared.object.Transaction.{Transaction}
use Rattle.ktm_world.specs.declared.recorded.Stage.{Stage}
use Rattle.ktm_world.specs.declared.reply.Reply.{Reply}
use Rattle.ktm_world.specs.declared.reply.Reply.TheVariants.{Done}
use Rattle.ktm_world.specs.Durable.{Recorded, changes_of, settings_of, is_decided, is_ready, recorded_or_new, superior_ids}
use Rattle.ktm_world.specs.Enlistments.{Enlistment, is_durable_at, superior_of, takes_part}
use Rattle.ktm_world.specs.Files.{own_changes}
use Rattle.ktm_world.specs.Keys.{own_settings}
use Rattle.ktm_world.specs.Lawful.{Agrees, Summary, is_held_stage, stage_in, summary_in, summary_now, summary_of, superior_now, undecided}
use Rattle.ktm_world.specs.Outcome.{Outcome}
use Rattle.ktm_world.specs.Phases.{Course, event_if, is_single_phase}
use Rattle.ktm_world.specs.Present.{Present}
use Rattle.ktm_world.specs.Steps.{led, basis, events_ahead, seen}
use Rattle.ktm_world.specs.TransactionCalls.{arrived, course_of, answering, transaction_in}
use Rattle.ktm_world.specs.Transactions.{is_live, is_of, is_undecided, same_id}
use Rattle.txf_laws.specs.Elements.{IsIn}
use Rattle.txf_laws.specs.Footprint.{ListsLaw}
use Rattle.txf_laws.specs.GoodState.{IsGoodState}
use Rattle.ktm_records.specs.Kept.{limits_hold}
use Rattle.ktm_courses.specs.SoundCourse.{IsSoundCourse, is_outcome_of}
use Rattle.txf_laws.specs.SoundFiles.{IsSoundFiles}
use Rattle.ktm_limits.proofs.CourseLimits.{Along, Few, Past, done-past, parts_counted, recorded_or_new-there}
use Rattle.ktm_courses.proofs.offered.EnlistmentAnswers.{can_roll_back, undecided-rolls}
use Rattle.ktm_courses.proofs.offered.Calls.{of-answering}
use Rattle.txf_laws.proofs.offered.Elements.{IsIn-flat_map, IsIn-kept, list_all-at}
use Rattle.ktm_records.proofs.offered.AgreementOfCourses.{arrival}
use Rattle.txf_laws.proofs.offered.Lists.{IsIn-unmap}
use Rattle.ktm_courses.proofs.offered.Moves.{same-by_id}
use Rattle.ktm_records.proofs.offered.NoMore.{Fits}
use Rattle.ktm_courses.proofs.offered.Endings.{part-parts}
use Rattle.ktm_limits.proofs.RecordedLimits.{Recalls, is_live_part, is_live_superior, live-from, parts-counted, recalled-changes, recalled-settings, recalls, stage-live, superior-is, superior-live}
use Rattle.ktm_limits.proofs.RecordedCourses.{hold-commits, hold-prepare_completes, hold-read_onlies, hold-ways}
use Rattle.txf_laws.proofs.offered.Sums.{count-less, count-strict}
use Rattle.txf_laws.proofs.offered.Tables.{KnownOrNew, recorded_or_new-cases, same_id-equal}
use Rattle.ktm_steps.proofs.offered.Recorded.{led-events}
use Rattle.ktm_steps.proofs.offered.Ways.{Ways, pre_prepares-by, prepares-by, proceeds-by, requests-by, if_cases}
use Rattle.ktm_world.specs.Rows.{is_last, proceeds, row}
use Rattle.ktm_world.specs.declared.input.Share.{Share}
use Rattle.ktm_world.specs.declared.step.Step.{Step}

module _ (lists : ListsLaw) (x : Present) (course : IsSoundCourse x) (good : IsGoodState x.recorded) (agrees : Agrees x) (sound : IsSoundFiles x) (fits : Fits x) where
  -- ---- one transaction

  -- what was recorded of it
  itself : (t : Transaction) → IsIn t x.transactions.items → (r : Recorded) → r.id ≡ t.id → (recalled : Recalls x r) → recalled.of ≡ t
  itself t there r is recalled = same-by_id (λ (u : Transaction). u.id) x.transactions.items course.transactions.rise recalled.of t recalled.there there (ap (λ (s : Summary). s.id) recalled.is ∙ is)

  -- an enlistment whose readiness is recorded
  abbrev pub is_recorded_part : Id → Enlistment → Bool
  is_recorded_part id e = takes_part id e && is_durable_at x.managers e.manager && e.is_prepared && not e.is_finished

  abbrev pub recorded_parts : Id → ℕ
  recorded_parts id = count_by (is_recorded_part id) x.transactions.enlistments

  part-live : (t : Transaction) → IsIn t x.transactions.items → is_live t ≡ true → (e : Enlistment) → is_recorded_part t.id e ≡ true → is_live_part x t.id e ≡ true
  part-live t there live e is =
      let c = and_parts (takes_part t.id e && is_durable_at x.managers e.manager && e.is_prepared) (not e.is_finished) is in
      let a = and_parts (takes_part t.id e) (is_durable_at x.managers e.manager) (and_parts (takes_part t.id e && is_durable_at x.managers e.manager) e.is_prepared c.0).0 in
      let part = part-parts t.id e a.0 in
      and_from _ _ a.0 (live-from x t e there live part.0 (or_right _ _ (and_from _ _ (not_from_false _ part.2) c.1)))

  parts-live : (t : Transaction) → IsIn t x.transactions.items → is_live t ≡ true → recorded_parts t.id ≤ count_by (is_live_part x t.id) x.transactions.enlistments
  parts-live t there live = count-less (is_recorded_part t.id) (is_live_part x t.id) x.transactions.enlistments (λ e has is. part-live t there live e is)

  -- of one that is there
  module _ (t : Transaction) (there : IsIn t x.transactions.items) (r : Recorded) (has : IsIn r x.recorded.transactions) (is : r.id ≡ t.id) where
    recalled : Recalls x r
    recalled = recalls x agrees r has

    of : recalled.of ≡ t
    of = itself t there r is recalled

    stage : (s : Stage) → stage_in t.phase ≡ Some s → recalled.stage ≡ s
    stage s stands = sym (same_Some _ _ (sym stands ∙ ap (λ (u : Transaction). stage_in u.phase) (sym of) ∙ recalled.stands))

    stage-is : (s : Stage) → stage_in t.phase ≡ Some s → r.stage ≡ s
    stage-is s stands = sym (ap (λ (q : Summary). q.stage) recalled.is) ∙ stage s stands

    parts-is : parts_counted r ≡ recorded_parts t.id
    parts-is = parts-counted x r recalled ∙ ap (λ (u : Transaction). recorded_parts u.id) of

  -- ---- one of which nothing or less is decided

  early-along : (t : Transaction) → IsIn t x.transactions.items → stage_in t.phase ≡ Some Stage.Ready → Along x t x.recorded [] [] (recorded_parts t.id) 0
  early-along t there early = go (recorded_or_new x.recorded.transactions t.id) refl (recorded_or_new-cases x.recorded.transactions t.id)
    where
      along : (r : Recorded) → recorded_or_new x.recorded.transactions t.id ≡ r → is_decided r.stage ≡ false → changes_of r ≡ [] → settings_of r ≡ [] → parts_counted r ≤ recorded_parts t.id → length (superior_ids r.superior) ≤ 0 → Along x t x.recorded [] [] (recorded_parts t.id) 0
      along r is waits owns sets parts above = record {
        rises = good.transactions_rise;
        others = λ q there other. there;
        waits = ap (λ (q : Recorded). is_decided q.stage) is ∙ waits;
        owns = ap changes_of is ∙ owns;
        sets = ap settings_of is ∙ sets;
        enlisted = subst (λ q. parts_counted q ≤ recorded_parts t.id) (sym is) parts;
        superior = subst (λ (q : Recorded). length (superior_ids q.superior) ≤ 0) (sym is) above;
        tree = agrees.tree;
        keys = agrees.keys;
        managers = refl;
        room = refl;
      }

      go : (r : Recorded) → recorded_or_new x.recorded.transactions t.id ≡ r → KnownOrNew x.recorded.transactions t.id r → Along x t x.recorded [] [] (recorded_parts t.id) 0
      go r is (inl (has, id)) =
          let stage' = stage t there r has id Stage.Ready early in
          along r is (ap is_decided (stage-is t there r has id Stage.Ready early))
          (recalled-changes x r (recalled t there r has id) ∙ ap (λ s. if is_held_stage s then own_changes x.files.table.own r.id else []) stage')
          (recalled-settings x r (recalled t there r has id) ∙ ap (λ s. if is_held_stage s then own_settings x.keys.own r.id else []) stage')
          (let e = parts-is t there r has id in omega arith)
          (let e = ap (λ s. length (superior_ids s)) (superior-is x r (recalled t there r has id) ∙ ap (λ s. if is_ready s then None else superior_now (superior_of x.transactions.enlistments (recalled t there r has id).of.id)) stage') in omega arith)
      go r is (inr new) = along r is (ap (λ (q : Recorded). is_decided q.stage) new) (ap changes_of new) (ap settings_of new) (let e = ap parts_counted new in omega arith) (let e = ap (λ (q : Recorded). length (superior_ids q.superior)) new in omega arith)

  -- ---- one that waits for its superior

  -- what the log has of it
  logged : (t : Transaction) → IsIn t x.transactions.items → t.is_recorded ≡ true → stage_in t.phase ≡ Some Stage.Held → (r : Recorded) × (summary_of r ≡ summary_now x t Stage.Held) × IsIn r x.recorded.transactions
  logged t there recorded held =
      let mine : IsIn (summary_now x t Stage.Held) (if t.is_recorded then summary_in x t (stage_in t.phase) else []) = subst (IsIn (summary_now x t Stage.Held))
      (sym (ap (λ b. if b then summary_in x t (stage_in t.phase) else []) recorded ∙ ap (summary_in x t) held)) (inl refl) in
      IsIn-unmap summary_of (summary_now x t Stage.Held) x.recorded.transactions (subst (IsIn (summary_now x t Stage.Held)) (sym agrees.transactions)
      (IsIn-flat_map (λ (u : Transaction). if u.is_recorded then summary_in x u (stage_in u.phase) else []) x.transactions.items t (summary_now x t Stage.Held) there mine))

  -- how many superiors it has
  abbrev above_of : Id → ℕ
  above_of id = length (superior_ids (superior_now (superior_of x.transactions.enlistments id)))

  held-begun : (t : Transaction) → IsIn t x.transactions.items → t.is_recorded ≡ true → stage_in t.phase ≡ Some Stage.Held
      → Along x t x.recorded (own_changes x.files.table.own t.id) (own_settings x.keys.own t.id) (recorded_parts t.id) (above_of t.id) × (above_of t.id ≤ count_by (is_live_superior x t.id) x.transactions.enlistments)
  held-begun t there recorded held =
      let found = logged t there recorded held in
      let r = found.0 in
      let id : r.id ≡ t.id = ap (λ (s : Summary). s.id) found.1 in
      let has = found.2 in
      let rec = recalled t there r has id in
      let of' : rec.of.id ≡ t.id = ap (λ (u : Transaction). u.id) (of t there r has id) in
      let stage' = stage t there r has id Stage.Held held in
      let is : recorded_or_new x.recorded.transactions t.id ≡ r = ap (recorded_or_new x.recorded.transactions) (sym id) ∙ recorded_or_new-there x.recorded.transactions good.transactions_rise r has in
      let above : length (superior_ids r.superior) ≡ above_of t.id = ap (λ s. length (superior_ids s)) (superior-is x r rec ∙ ap (λ s. if is_ready s then None else superior_now (superior_of x.transactions.enlistments rec.of.id)) stage') ∙ ap above_of of' in (
        record {
          rises = good.transactions_rise;
          others = λ q there other. there;
          waits = ap (λ (q : Recorded). is_decided q.stage) is ∙ ap is_decided (stage-is t there r has id Stage.Held held);
          owns = ap changes_of is ∙ recalled-changes x r rec ∙ ap (λ s. if is_held_stage s then own_changes x.files.table.own r.id else []) stage' ∙ ap (own_changes x.files.table.own) id;
          sets = ap settings_of is ∙ recalled-settings x r rec ∙ ap (λ s. if is_held_stage s then own_settings x.keys.own r.id else []) stage' ∙ ap (own_settings x.keys.own) id;
          enlisted = subst (λ q. parts_counted q ≤ recorded_parts t.id) (sym is) (let e = parts-is t there r has id in omega arith);
          superior = subst (λ (q : Recorded). length (superior_ids q.superior) ≤ above_of t.id) (sym is) (omega arith);
          tree = agrees.tree;
          keys = agrees.keys;
          managers = refl;
          room = refl;
        },
        let few = superior-live x r rec (superior_of x.transactions.enlistments rec.of.id) refl in
            let a = ap above_of of' in
            let b = ap (λ i. count_by (is_live_superior x i) x.transactions.enlistments) of' in
            omega arith,
      )

  -- ---- one that is decided

  past-begun : (t : Transaction) → IsIn t x.transactions.items → stage_in t.phase ≡ Some Stage.Decided → Past t x.recorded
  past-begun t there over = record {
    rises = good.transactions_rise;
    decided = λ r has same. ap is_decided (stage-is t there r has (same_id-equal r.id t.id same) Stage.Decided over);
    limits = good.limits;
  }

  -- ---- calls that bring a transaction further

  abbrev pub HoldsOut : Outcome → Type 0
  HoldsOut o = limits_hold x.recorded o.events ≡ true

  pub holds-arrived : (d : Course) (reply : Reply) → limits_hold x.recorded d.events ≡ true → HoldsOut (arrived x d reply)
  holds-arrived d reply holds = subst (λ es. limits_hold x.recorded es ≡ true) (sym (arrival x d reply).events) holds

  pub holds-answering : (o : Option Enlistment) (input : Enlistment → PhaseInput)
      → ((e : Enlistment) → o ≡ Some e → (t : Transaction) → transaction_in x e ≡ Some t → IsIn t x.transactions.items → same_id e.transaction t.id ≡ true → limits_hold x.recorded (led (input e) (course_of x t (Some e))).events ≡ true)
      → HoldsOut (answering x o input)
  holds-answering o input holds = of-answering HoldsOut x o input refl (λ e is t there own found. holds-arrived (led (input e) (course_of x t (Some e))) Done (holds e is t found there own))

  module _ (t : Transaction) (there : IsIn t x.transactions.items) (caller : Option Enlistment) where
    abbrev c : Course
    c = course_of x t caller

    -- the limits hold after each event that steps record of it
    abbrev Holds : List Step → Type 0
    Holds steps = limits_hold x.recorded (events_ahead steps (basis c)) ≡ true

    by-row : (input : PhaseInput) → Holds (row (seen c) input) → limits_hold x.recorded (led input c).events ≡ true
    by-row input holds = ap (limits_hold x.recorded) (led-events input c refl) ∙ holds

    waits-there : is_undecided t ≡ true → IsIn t (undecided x)
    waits-there waits = IsIn-kept (λ (v : Transaction). is_undecided v && not (is_of v.id None)) x.transactions.items t there (and_from _ _ waits refl)

    rolls-undecided : can_roll_back t.phase ≡ true → is_undecided t ≡ true
    rolls-undecided can = undecided-rolls t can (list_all-at (λ (t : Transaction). is_outcome_of t.phase t) x.transactions.items course.transactions.outcomes t there)

    early-rolls : (phase : Phase) → stage_in phase ≡ Some Stage.Ready → can_roll_back phase ≡ true
    early-rolls Committing early = absurd (true≢false (ap is_decided (same_Some _ _ early)))
    early-rolls Aborting early = absurd (none-some _ early)
    early-rolls Ended early = absurd (none-some _ early)
    early-rolls _ early = refl

    module _ (early : stage_in t.phase ≡ Some Stage.Ready) where
      live : is_live t ≡ true
      live = stage-live t Stage.Ready early

      there' : IsIn t (undecided x)
      there' = waits-there (rolls-undecided (early-rolls t.phase early))

      along : Along x t x.recorded [] [] (recorded_parts t.id) 0
      along = early-along t there early

      few : Few lists x agrees sound fits t there live (recorded_parts t.id) 0
      few = record { parts = parts-live t there live; above = omega arith }

      ways : Ways (λ steps. Holds steps) (seen c)
      ways = hold-ways lists x agrees sound fits t there live there' x.recorded (recorded_parts t.id) along few t.is_recorded caller (seen c)

      pub commit_transaction-events : limits_hold x.recorded (led PhaseInput.CommitTransaction c).events ≡ true
      commit_transaction-events = by-row PhaseInput.CommitTransaction (requests-by (λ steps. Holds steps) (seen c) ways)

      pub pre_prepare-events : limits_hold x.recorded (led PhaseInput.PrePrepare c).events ≡ true
      pre_prepare-events = by-row PhaseInput.PrePrepare (pre_prepares-by (λ steps. Holds steps) (seen c) ways)

      pub prepare-events : limits_hold x.recorded (led PhaseInput.Prepare c).events ≡ true
      prepare-events = by-row PhaseInput.Prepare (prepares-by (λ steps. Holds steps) (seen c) ways)

      pub pre_prepare_complete-events : limits_hold x.recorded (led PhaseInput.PrePrepareComplete c).events ≡ true
      pre_prepare_complete-events = by-row PhaseInput.PrePrepareComplete (if_cases (λ steps. Holds steps) (is_last (seen c)) (proceeds (seen c)) [] (λ last. proceeds-by (λ steps. Holds steps) (seen c) ways) (λ waits. refl))

      pub read_only-events : (share : Share) → limits_hold x.recorded (led (PhaseInput.ReadOnly share) c).events ≡ true
      read_only-events share = by-row (PhaseInput.ReadOnly share) (hold-read_onlies lists x agrees sound fits t there live there' x.recorded (recorded_parts t.id) along few t.is_recorded caller (seen c) share)

    -- its superior decides
    pub commit-events : t.is_recorded ≡ true → stage_in t.phase ≡ Some Stage.Held → can_roll_back t.phase ≡ true → limits_hold x.recorded (led PhaseInput.Commit c).events ≡ true
    commit-events recorded held can =
        let live = stage-live t Stage.Held held in
        let begun = held-begun t there recorded held in
        by-row PhaseInput.Commit (hold-commits lists x agrees sound fits t there live (waits-there (rolls-undecided can)) x.recorded (recorded_parts t.id) (above_of t.id) begun.0
        record { parts = parts-live t there live; above = begun.1 } t.is_recorded caller (λ not'. absurd (true≢false (sym recorded ∙ not'))))

  -- an enlistment that takes part is prepared, and was not
  pub prepare_complete-events : (t : Transaction) (there : IsIn t x.transactions.items) (e : Enlistment) → stage_in t.phase ≡ Some Stage.Ready → IsIn e x.transactions.enlistments → takes_part t.id e ≡ true → e.is_prepared ≡ false → e.is_finished ≡ false
      → limits_hold x.recorded (led PhaseInput.PrepareComplete (course_of x t (Some e))).events ≡ true
  prepare_complete-events t there e early has part idle busy =
      let live = stage-live t Stage.Ready early in
      let undecided' = waits-there t there (Some e) (rolls-undecided t there (Some e) (early-rolls t there (Some e) t.phase early)) in
      let parts = part-parts t.id e part in
      let more = count-strict (is_recorded_part t.id) (is_live_part x t.id) x.transactions.enlistments e (λ f has is. part-live t there live f is) has
      (rw (part, idle) (none (is_durable_at x.managers e.manager) (not e.is_finished)))
      (and_from _ _ part (live-from x t e there live parts.0 (or_right _ _ (and_from _ _ (not_from_false _ parts.2) (not_from_false _ busy))))) in
      by-row t there (Some e) PhaseInput.PrepareComplete (hold-prepare_completes lists x agrees sound fits t there live undecided' x.recorded (recorded_parts t.id) (early-along t there early) record { parts = more; above = omega arith } t.is_recorded e (seen (course_of x t (Some e))))
    where
      none : (a b : Bool) → (((true && a) && false) && b) ≡ false
      none true b = refl
      none false b = refl

  -- an enlistment has committed
  pub commit_complete-events : (t : Transaction) (there : IsIn t x.transactions.items) (e : Enlistment) → (t.phase ≡ Committing) ⊎ (t.phase ≡ SinglePhase) → limits_hold x.recorded (led PhaseInput.CommitComplete (course_of x t (Some e))).events ≡ true
  commit_complete-events t there e phases = by-row t there (Some e) PhaseInput.CommitComplete (if_cases (λ steps. limits_hold x.recorded (events_ahead steps (basis (course_of x t (Some e)))) ≡ true) (is_single_phase t.phase) _ _ (λ single. refl) (λ several. elim phases [
    | inr single ↦ absurd (true≢false (sym (ap is_single_phase single) ∙ several))
    | inl over ↦ noted over (is_durable_at x.managers e.manager)
  ]))
    where
      noted : t.phase ≡ Committing → (b : Bool) → limits_hold x.recorded (event_if b (Event.Done t.id (DonePart.Enlistment e.id)) ++ []) ≡ true
      noted over false = refl
      noted over true = and_from _ _ (done-past t x.recorded (DonePart.Enlistment e.id) (past-begun t there (ap stage_in over))).0 refl
