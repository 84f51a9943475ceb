-- Each row leads on: it commits once at most what the transaction has to commit, and what commits has a known outcome.
use Rattle.std.proofs.Common.{◌≡◌, ◌&&◌, not, Bool, true, false, cond, List, [], ◌∷◌, ◌++◌, Option, Some, None, append-nil, refl, sym, ap, ◌∙◌, inl, inr}
use Rattle.std.proofs.lemmas.Bool.{and_parts, cases_Bool, false≢true, not-true, true≢false}
use Rattle.std.specs.List.{list_all, list_any}
use Rattle.ktm_world.specs.declared.input.PhaseInput.{PhaseInput}
use Rattle.ktm_world.specs.declared.object.Transaction.{Transaction}
use Rattle.ktm_world.specs.declared.object.TransactionOutcome.{TransactionOutcome}
use Rattle.ktm_world.specs.declared.object.TransactionOutcome.TheVariants.{Undetermined, Committed, Aborted}
use Rattle.ktm_world.specs.declared.step.Step.{Step}
use Rattle.ktm_course.specs.Moved.{is_commit}
use Rattle.ktm_world.specs.Committed.{Work}
use Rattle.ktm_world.specs.Enlistments.{Enlistment, is_unfinished}
use Rattle.ktm_world.specs.Phases.{Course, ended, work_of}
use Rattle.ktm_world.specs.Present.{Present}
use Rattle.ktm_world.specs.Rows.{row}
use Rattle.ktm_world.specs.Steps.{answered, carried, changing, run, seen}
use Rattle.ktm_world.specs.Transactions.{is_undecided}
use Rattle.ktm_world.specs.TransactionCalls.{course_of}
use Rattle.ktm_steps.proofs.offered.Lists.{each-row-passes}
use Rattle.ktm_steps.proofs.offered.Staying.{stays-step}
use Rattle.ktm_steps.proofs.offered.Ways.{if_cases}
use Rattle.ktm_standing.specs.Courses.{LeadsOn}
use Rattle.ktm_standing.specs.Laws.{CoursesLaw}
use Rattle.ktm_standing.proofs.offered.Courses.{led_on}

-- ---- a test on lists

-- is the outcome known
abbrev is_known : TransactionOutcome → Bool
is_known Undetermined = false
is_known _ = true

-- does the step decide
abbrev decides : Step → Bool
decides (Step.Decide outcome) = true
decides (Step.End outcome) = true
decides _ = false

-- is what it decides, if it decides anything, a known outcome
abbrev decides_known : Step → Bool
decides_known (Step.Decide outcome) = is_known outcome
decides_known (Step.End outcome) = is_known outcome
decides_known (Step.EndWhereFinished outcome) = is_known outcome
decides_known _ = true

-- is work committed once at most, and decided behind
abbrev commits_once : List Step → Bool
commits_once [] = true
commits_once (Step.Commit ∷ steps) = not (list_any is_commit steps) && list_any decides steps
commits_once (_ ∷ steps) = commits_once steps

-- ---- the outcome

known-outcome : (outcome : TransactionOutcome) (t : Transaction) → is_known outcome ≡ true → is_undecided (record t { outcome = outcome }) ≡ false
known-outcome Undetermined t known = absurd (false≢true known)
known-outcome Committed t known = refl
known-outcome Aborted t known = refl

-- is the outcome of the course known
abbrev Known : Course → Type 0
Known c = is_undecided c.transaction ≡ false

known-ended : (c : Course) (outcome : TransactionOutcome) → is_known outcome ≡ true → Known (ended c outcome)
unfolding ended
known-ended c outcome known = known-outcome outcome c.transaction known

known-changing : (c : Course) (e : Option Enlistment) (f : Enlistment → Enlistment) → Known c → Known (changing c e f)
known-changing c None f known = known
known-changing c (Some e) f known = known

-- one that is known stays so
known-step : (step : Step) (c : Course) → decides_known step ≡ true → Known c → Known (carried step c)
known-step (Step.Decide outcome) c is known = known-outcome outcome c.transaction is
known-step (Step.End outcome) c is known = known-ended c outcome is
known-step (Step.EndWhereFinished outcome) c is known = if_cases Known (list_any (is_unfinished c.transaction.id) c.enlistments) c (ended c outcome) (λ some. known) (λ none. known-ended c outcome is)
known-step (Step.Change answer) c is known = known-changing c c.caller (answered answer) known
known-step (Step.Record fact) c is known = known
known-step Step.Commit c is known = known
known-step (Step.Tell who kind) c is known = known
known-step (Step.Ask who kind owed) c is known = known
known-step (Step.Enter phase) c is known = known

known-run : (steps : List Step) (c : Course) → list_all decides_known steps ≡ true → Known c → Known (run steps c)
known-run [] c all known = known
known-run (step ∷ steps) c all known =
    let parts = and_parts (decides_known step) (list_all decides_known steps) all in known-run steps (carried step c) parts.1 (known-step step c parts.0 known)

-- the outcome of a course is known once a step decides it
known-once : (step : Step) (c : Course) → decides_known step ≡ true → decides step ≡ true → Known (carried step c)
known-once (Step.Decide outcome) c is decided = known-outcome outcome c.transaction is
known-once (Step.End outcome) c is decided = known-ended c outcome is
known-once _ c is decided = absurd (false≢true decided)

known-behind : (steps : List Step) (c : Course) → list_all decides_known steps ≡ true → list_any decides steps ≡ true → Known (run steps c)
known-behind [] c all some = absurd (false≢true some)
known-behind (step ∷ steps) c all some =
    let parts = and_parts (decides_known step) (list_all decides_known steps) all in
    elim (cases_Bool (decides step)) [
      | inl decided ↦ known-run steps (carried step c) parts.1 (known-once step c parts.0 decided)
      | inr other ↦ known-behind steps (carried step c) parts.1 (rw other at some)
    ]

known-where : (steps : List Step) (c : Course) → list_all decides_known steps ≡ true → commits_once steps ≡ true → list_any is_commit steps ≡ true → Known (run steps c)
known-where [] c all once commits = absurd (false≢true commits)
known-where (Step.Commit ∷ steps) c all once commits = known-behind steps (carried Step.Commit c) all (and_parts (not (list_any is_commit steps)) (list_any decides steps) once).1
known-where (Step.Decide outcome ∷ steps) c all once commits = known-where steps (carried (Step.Decide outcome) c) (and_parts (is_known outcome) (list_all decides_known steps) all).1 once commits
known-where (Step.End outcome ∷ steps) c all once commits = known-where steps (carried (Step.End outcome) c) (and_parts (is_known outcome) (list_all decides_known steps) all).1 once commits
known-where (Step.EndWhereFinished outcome ∷ steps) c all once commits = known-where steps (carried (Step.EndWhereFinished outcome) c) (and_parts (is_known outcome) (list_all decides_known steps) all).1 once commits
known-where (Step.Change answer ∷ steps) c all once commits = known-where steps (carried (Step.Change answer) c) all once commits
known-where (Step.Record fact ∷ steps) c all once commits = known-where steps (carried (Step.Record fact) c) all once commits
known-where (Step.Tell who kind ∷ steps) c all once commits = known-where steps (carried (Step.Tell who kind) c) all once commits
known-where (Step.Ask who kind owed ∷ steps) c all once commits = known-where steps (carried (Step.Ask who kind owed) c) all once commits
known-where (Step.Enter phase ∷ steps) c all once commits = known-where steps (carried (Step.Enter phase) c) all once commits

-- ---- works

works-ended : (c : Course) (outcome : TransactionOutcome) → (ended c outcome).works ≡ c.works
unfolding ended
works-ended c outcome = refl

works-changing : (c : Course) (e : Option Enlistment) (f : Enlistment → Enlistment) → (changing c e f).works ≡ c.works
works-changing c None f = refl
works-changing c (Some e) f = refl

-- any other step commits nothing
works-step : (step : Step) (c : Course) → is_commit step ≡ false → (carried step c).works ≡ c.works
works-step Step.Commit c is = absurd (true≢false is)
works-step (Step.End outcome) c is = works-ended c outcome
works-step (Step.EndWhereFinished outcome) c is = if_cases (λ (d : Course). d.works ≡ c.works) (list_any (is_unfinished c.transaction.id) c.enlistments) c (ended c outcome) (λ some. refl) (λ none. works-ended c outcome)
works-step (Step.Change answer) c is = works-changing c c.caller (answered answer)
works-step (Step.Decide outcome) c is = refl
works-step (Step.Record fact) c is = refl
works-step (Step.Tell who kind) c is = refl
works-step (Step.Ask who kind owed) c is = refl
works-step (Step.Enter phase) c is = refl

works-none : (steps : List Step) (c : Course) → list_any is_commit steps ≡ false → (run steps c).works ≡ c.works
works-none [] c none = refl
works-none (step ∷ steps) c none = elim (cases_Bool (is_commit step)) [
  | inl is ↦ absurd (true≢false (rw is at none))
  | inr other ↦ works-none steps (carried step c) (rw other at none) ∙ works-step step c other
]

-- what a course commits is no other after a step
same-work : (step : Step) (c : Course) → work_of (carried step c) ≡ work_of c
same-work step c =
    let so = stays-step step c in
    λ i. work_of (record c { transaction = record c.transaction { id = so.id i }; changes = so.changes i; settings = so.settings i })

-- one that commits nothing, before others
works-beside : (step : Step) (steps : List Step) (c : Course) → is_commit step ≡ false → (run steps (carried step c)).works ≡ (carried step c).works ++ cond (list_any is_commit steps) (work_of (carried step c)) []
    → (run steps (carried step c)).works ≡ c.works ++ cond (list_any is_commit steps) (work_of c) []
works-beside step steps c other rest =
    rest
    ∙ ap (λ (works : List Work). works ++ cond (list_any is_commit steps) (work_of (carried step c)) []) (works-step step c other)
    ∙ ap (λ (work : List Work). c.works ++ cond (list_any is_commit steps) work []) (same-work step c)

works-run : (steps : List Step) (c : Course) → commits_once steps ≡ true → (run steps c).works ≡ c.works ++ cond (list_any is_commit steps) (work_of c) []
works-run [] c once = sym (append-nil c.works)
works-run (Step.Commit ∷ steps) c once = works-none steps (carried Step.Commit c) (not-true _ (and_parts (not (list_any is_commit steps)) (list_any decides steps) once).0)
works-run (Step.Decide outcome ∷ steps) c once = works-beside (Step.Decide outcome) steps c refl (works-run steps (carried (Step.Decide outcome) c) once)
works-run (Step.End outcome ∷ steps) c once = works-beside (Step.End outcome) steps c refl (works-run steps (carried (Step.End outcome) c) once)
works-run (Step.EndWhereFinished outcome ∷ steps) c once = works-beside (Step.EndWhereFinished outcome) steps c refl (works-run steps (carried (Step.EndWhereFinished outcome) c) once)
works-run (Step.Change answer ∷ steps) c once = works-beside (Step.Change answer) steps c refl (works-run steps (carried (Step.Change answer) c) once)
works-run (Step.Record fact ∷ steps) c once = works-beside (Step.Record fact) steps c refl (works-run steps (carried (Step.Record fact) c) once)
works-run (Step.Tell who kind ∷ steps) c once = works-beside (Step.Tell who kind) steps c refl (works-run steps (carried (Step.Tell who kind) c) once)
works-run (Step.Ask who kind owed ∷ steps) c once = works-beside (Step.Ask who kind owed) steps c refl (works-run steps (carried (Step.Ask who kind owed) c) once)
works-run (Step.Enter phase ∷ steps) c once = works-beside (Step.Enter phase) steps c refl (works-run steps (carried (Step.Enter phase) c) once)

-- ---- rows

-- is each list so
abbrev leads : List Step → Bool
leads steps = list_all decides_known steps && commits_once steps

leads_on : (x : Present) (t : Transaction) (caller : Option Enlistment) (steps : List Step) → leads steps ≡ true → LeadsOn x t caller steps
leads_on x t caller steps so =
    let parts = and_parts (list_all decides_known steps) (commits_once steps) so in
    record { known = known-where steps (course_of x t caller) parts.0 parts.1; works = works-run steps (course_of x t caller) parts.1 }

pub row_leads : (x : Present) (t : Transaction) (caller : Option Enlistment) (input : PhaseInput) → LeadsOn x t caller (row (seen (course_of x t caller)) input)
row_leads x t caller input = leads_on x t caller (row (seen (course_of x t caller)) input) (each-row-passes leads refl (seen (course_of x t caller)) input)

pub courses_law : CoursesLaw
courses_law = record { leads = led_on; rows = row_leads }
