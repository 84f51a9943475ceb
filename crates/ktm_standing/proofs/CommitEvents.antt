-- A course that commits changes of files records an event.
use Rattle.std.proofs.Common.{◌≡◌, ℕ, ◌*◌, ◌≤◌, ◌||◌, not, Bool, true, false, cond, List, [], ◌∷◌, length, Option, Some, refl, sym, subst, arith, inl, inr}
use Rattle.std.proofs.lemmas.Bool.{cases_Bool, false≢true}
use Rattle.std.proofs.lemmas.List.{length-append}
use Rattle.std.specs.List.{list_any}
use Rattle.ktm_world.specs.declared.change.Change.{Change}
use Rattle.ktm_world.specs.declared.input.PhaseInput.{PhaseInput}
use Rattle.ktm_world.specs.declared.object.Transaction.{Transaction}
use Rattle.ktm_world.specs.declared.step.Fact.{Fact}
use Rattle.ktm_world.specs.declared.step.Step.{Step}
use Rattle.ktm_course.specs.Moved.{is_commit}
use Rattle.ktm_steps.proofs.offered.Lists.{each-row-passes}
use Rattle.ktm_steps.proofs.offered.Recorded.{led-events}
use Rattle.ktm_world.specs.Changes.{has_changes}
use Rattle.ktm_world.specs.Committed.{Work}
use Rattle.ktm_world.specs.Enlistments.{Enlistment}
use Rattle.ktm_world.specs.Logs.{Group}
use Rattle.ktm_world.specs.Phases.{Course, has_settings, work_of}
use Rattle.ktm_world.specs.Present.{Present}
use Rattle.ktm_world.specs.Rows.{row}
use Rattle.ktm_world.specs.Steps.{Basis, basis, events_ahead, events_of, is_recorded_by, led, seen}
use Rattle.ktm_world.specs.TransactionCalls.{course_of}
use Rattle.ktm_standing.proofs.Versions.{puts_in, puts_of}
use Rattle.ktm_standing.proofs.offered.Rows.{row_leads}

-- does the step record something, where files were changed
abbrev records_work : Step → Bool
records_work (Step.Record Fact.DoneFiles) = true
records_work (Step.Record Fact.SingleFiles) = true
records_work (Step.Record Fact.SingleKeys) = true
records_work _ = false

-- do the steps record something, if they commit
abbrev logs_work : List Step → Bool
logs_work steps = not (list_any is_commit steps) || list_any records_work steps

here : (step : Step) (steps : List Step) (b : Basis) → records_work step ≡ true → has_changes b.changes ≡ true → 1 ≤ length (events_ahead (step ∷ steps) b)
here (Step.Record Fact.DoneFiles) steps b is has = rw has (omega arith)
here (Step.Record Fact.SingleFiles) steps b is has = omega arith
here (Step.Record Fact.SingleKeys) steps b is has = omega arith
here _ steps b is has = absurd (false≢true is)

later : (step : Step) (steps : List Step) (b : Basis) → ((b : Basis) → has_changes b.changes ≡ true → 1 ≤ length (events_ahead steps b)) → has_changes b.changes ≡ true → 1 ≤ length (events_ahead (step ∷ steps) b)
later (Step.Record fact) steps b rest has =
    let b' : Basis = record b { is_recorded = is_recorded_by fact b } in
    let all = length-append (events_of fact b) (events_ahead steps b') in
    let some = rest b' has in
    omega (arith, all, some)
later _ steps b rest has = rest b has

ahead : (steps : List Step) → list_any records_work steps ≡ true → (b : Basis) → has_changes b.changes ≡ true → 1 ≤ length (events_ahead steps b)
ahead [] some b has = absurd (false≢true some)
ahead (step ∷ steps) some b has = elim (cases_Bool (records_work step)) [ inl is ↦ here step steps b is has | inr other ↦ later step steps b (ahead steps (rw other at some)) has ]

module _ (x : Present) (t : Transaction) (caller : Option Enlistment) (input : PhaseInput) (file : ℕ) where
  abbrev c : Course
  c = course_of x t caller

  abbrev steps : List Step
  steps = row (seen c) input

  logged : (b : Bool) (changes : List Change) → puts_of file changes ≤ 2 → (has_changes changes ≡ true → 1 ≤ length (events_ahead steps (basis c)))
      → puts_in file (cond b (record { transaction = Some t.id; changes = changes; settings = c.settings } ∷ []) []) ≤ 2 * length (events_ahead steps (basis c))
  logged false changes few some = omega arith
  logged true [] few some = omega arith
  logged true (change ∷ changes) few some = let one = some refl in omega (arith, few, one)

  -- it puts and cuts the bytes of a file no more than twice for each event, if the transaction has done so no more than twice
  pub course_logged : puts_of file c.changes ≤ 2 → puts_in file (led input c).works ≤ 2 * length (led input c).events
  unfolding led
  course_logged few =
      subst (λ (works : List Work). puts_in file works ≤ 2 * length (led input c).events) (sym (row_leads x t caller input).works)
      (subst (λ (events : Group). puts_in file (cond (list_any is_commit steps) (work_of c) []) ≤ 2 * length events) (sym (led-events input c refl))
      (elim (cases_Bool (list_any is_commit steps)) [
        | inl commits ↦ rw commits (logged (has_changes c.changes || has_settings c.settings) c.changes few (ahead steps (rw commits at (each-row-passes logs_work refl (seen c) input)) (basis c)))
        | inr none ↦ rw none (omega arith)
      ]))
