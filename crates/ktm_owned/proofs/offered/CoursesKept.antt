-- What no row changes of a transaction's course: its Id, what it has to commit, what its work commits, and an outcome that is known.
use Rattle.std.specs.Prelude.{if◌then◌else◌}
use Rattle.std.proofs.Common.{◌≡◌, ◌||◌, ◌&&◌, Bool, true, false, List, [], ◌∷◌, ◌++◌, Option, Some, None, refl, sym, ◌∙◌, ap, subst, inl, inr, ◌⊎◌}
use Rattle.std.proofs.lemmas.Bool.{and_parts, cases_Bool, true≢false}
use Rattle.std.specs.List.{list_any}
use Rattle.ktm_world.specs.declared.change.Change.{Change}
use Rattle.ktm_world.specs.declared.input.PhaseInput.{PhaseInput}
use Rattle.ktm_world.specs.declared.object.Transaction.{Transaction}
use Rattle.ktm_world.specs.declared.object.TransactionOutcome.{TransactionOutcome}
use Rattle.ktm_world.specs.declared.object.TransactionOutcome.TheVariants.{Undetermined, Committed, Aborted}
use Rattle.ktm_world.specs.declared.step.Step.{Step}
use Rattle.ktm_world.specs.Changes.{has_changes}
use Rattle.ktm_world.specs.Committed.{Work}
use Rattle.ktm_world.specs.Enlistments.{Enlistment, is_unfinished}
use Rattle.ktm_world.specs.Keys.{OwnSettings}
use Rattle.ktm_world.specs.Phases.{Course, ended, has_settings, work_of}
use Rattle.ktm_world.specs.Rows.{row}
use Rattle.ktm_world.specs.Steps.{carried, changing, led, run, seen}
use Rattle.ktm_world.specs.Transactions.{is_undecided}
use Rattle.ktm_courses.specs.Lists.{each-row-passes}
use Rattle.ktm_courses.specs.Staying.{stays-led, stays-step}
use Rattle.ktm_courses.proofs.offered.Moves.{NoBoots}
use Rattle.ktm_courses.proofs.offered.OutcomesMade.{led-no_boots}
use Rattle.ktm_courses.specs.Ways.{if_cases}

-- at most one work, which commits what the transaction has to commit
abbrev pub OneWork : List Change → OwnSettings → List Work → Type 0
OneWork cs ss works = (works ≡ []) ⊎ ((w : Work) × (works ≡ w ∷ []) × (w.changes ≡ cs) × (w.settings ≡ ss))

-- a course of this transaction once it has gone on: it has a work or another outcome only where its outcome is known
pub record IsCourse (t : Transaction) (cs : List Change) (ss : OwnSettings) (c : Course) : Type 0 where
  pub id : c.transaction.id ≡ t.id
  pub changes : c.changes ≡ cs
  pub settings : c.settings ≡ ss
  pub works : OneWork cs ss c.works
  pub events : NoBoots c.events
  pub outcome : (is_undecided c.transaction ≡ false) ⊎ ((c.works ≡ []) × (is_undecided t ≡ true))

-- a course of this transaction as a call begins
pub record IsBegun (t : Transaction) (cs : List Change) (ss : OwnSettings) (c : Course) : Type 0 where
  pub id : c.transaction.id ≡ t.id
  pub changes : c.changes ≡ cs
  pub settings : c.settings ≡ ss
  pub works : c.works ≡ []
  pub events : c.events ≡ []
  pub outcome : c.transaction.outcome ≡ t.outcome

same_outcome : (t u : Transaction) → t.outcome ≡ u.outcome → is_undecided t ≡ is_undecided u
same_outcome t u same = ap (λ o. elim o as (λ _. Bool) [ Undetermined ↦ true | Committed ↦ false | Aborted ↦ false ]) same

-- ---- a test on lists

-- how far a course has come: nothing is done, its work is committed, or its outcome is known
data Stage : Type 0 where
  begun : Stage
  worked : Stage
  over : Stage

-- is the outcome one
abbrev is_known : TransactionOutcome → Bool
is_known Undetermined = false
is_known _ = true

-- has nothing been done
abbrev may_work : Stage → Bool
may_work begun = true
may_work _ = false

-- is the outcome known where work was committed
abbrev may_end : Stage → Bool
may_end worked = false
may_end _ = true

-- from this stage on, is work committed once at most, and only where the outcome is known then
abbrev keeps : Stage → List Step → Bool
keeps s [] = may_end s
keeps s (Step.Commit ∷ steps) = may_work s && keeps worked steps
keeps s (Step.Decide outcome ∷ steps) = is_known outcome && keeps over steps
keeps s (Step.End outcome ∷ steps) = is_known outcome && keeps over steps
keeps s (Step.EndWhereFinished outcome ∷ steps) = is_known outcome && keeps s steps && keeps over steps
keeps s (_ ∷ steps) = keeps s steps

module _ (t : Transaction) (cs : List Change) (ss : OwnSettings) where
  -- so much is done then
  abbrev Is : Stage → Course → Type 0
  Is begun c = (c.works ≡ []) × (c.transaction.outcome ≡ t.outcome)
  Is worked c = OneWork cs ss c.works
  Is over c = OneWork cs ss c.works × (is_undecided c.transaction ≡ false)

  -- what it has to commit is this
  record Has (c : Course) : Type 0 where
    changes : c.changes ≡ cs
    settings : c.settings ≡ ss

  -- in the end
  record Done (d : Course) : Type 0 where
    works : OneWork cs ss d.works
    outcome : (is_undecided d.transaction ≡ false) ⊎ ((d.works ≡ []) × (is_undecided t ≡ true))

  one-work : (s : Stage) (c : Course) → Is s c → OneWork cs ss c.works
  one-work begun c is = inl is.0
  one-work worked c is = is
  one-work over c is = is.0

  same : (s : Stage) (c d : Course) → d.works ≡ c.works → d.transaction.outcome ≡ c.transaction.outcome → Is s c → Is s d
  same begun c d works outcome is = (works ∙ is.0, outcome ∙ is.1)
  same worked c d works outcome is = subst (OneWork cs ss) (sym works) is
  same over c d works outcome is = (subst (OneWork cs ss) (sym works) is.0, same_outcome d.transaction c.transaction outcome ∙ is.1)

  known-outcome : (outcome : TransactionOutcome) (u : Transaction) → is_known outcome ≡ true → u.outcome ≡ outcome → is_undecided u ≡ false
  known-outcome Undetermined u known is = absurd (true≢false (sym known))
  known-outcome Committed u known is = same_outcome u (record t { outcome = Committed }) is
  known-outcome Aborted u known is = same_outcome u (record t { outcome = Aborted }) is

  -- its work is committed
  work-one : (c : Course) → c.works ≡ [] → Has c → OneWork cs ss (c.works ++ work_of c)
  work-one c none has = subst (λ ws. OneWork cs ss (ws ++ work_of c)) (sym none) (go (has_changes c.changes || has_settings c.settings))
    where
      go : (b : Bool) → OneWork cs ss (if b then record { transaction = Some c.transaction.id; changes = c.changes; settings = c.settings } ∷ [] else [])
      go true = inr (record { transaction = Some c.transaction.id; changes = c.changes; settings = c.settings }, refl, has.changes, has.settings)
      go false = inl refl

  has-ended : (c : Course) (outcome : TransactionOutcome) → Has c → Has (ended c outcome)
  unfolding ended
  has-ended c outcome has = record { changes = has.changes; settings = has.settings }

  over-ended : (s : Stage) (c : Course) (outcome : TransactionOutcome) → is_known outcome ≡ true → Is s c → Is over (ended c outcome)
  unfolding ended
  over-ended s c outcome known is = (one-work s c is, known-outcome outcome (record c.transaction { outcome = outcome }) known refl)

  same-changing : (s : Stage) (c : Course) (e : Option Enlistment) (f : Enlistment → Enlistment) → Is s c → Is s (changing c e f)
  same-changing s c None f is = is
  same-changing s c (Some e) f is = same s c (changing c (Some e) f) refl refl is

  has-step : (step : Step) (c : Course) → Has c → Has (carried step c)
  has-step step c has = let still = stays-step step c in record { changes = still.changes ∙ has.changes; settings = still.settings ∙ has.settings }

  works-run : (s : Stage) (steps : List Step) (c : Course) → keeps s steps ≡ true → Has c → Is s c → Done (run steps c)
  works-run begun [] c passes has is = record {
    works = inl is.0;
    outcome = elim (cases_Bool (is_undecided t)) [ inl undecided ↦ inr (is.0, undecided) | inr decided ↦ inl (same_outcome c.transaction t is.1 ∙ decided) ];
  }
  works-run worked [] c passes has is = absurd (true≢false (sym passes))
  works-run over [] c passes has is = record { works = is.0; outcome = inl is.1 }
  works-run begun (Step.Commit ∷ steps) c passes has is = works-run worked steps (carried Step.Commit c) (and_parts true (keeps worked steps) passes).1 (has-step Step.Commit c has) (work-one c is.0 has)
  works-run worked (Step.Commit ∷ steps) c passes has is = absurd (true≢false (sym (and_parts false (keeps worked steps) passes).0))
  works-run over (Step.Commit ∷ steps) c passes has is = absurd (true≢false (sym (and_parts false (keeps worked steps) passes).0))
  works-run s (Step.Decide outcome ∷ steps) c passes has is =
      let both = and_parts (is_known outcome) (keeps over steps) passes in
      works-run over steps (carried (Step.Decide outcome) c) both.1 (has-step (Step.Decide outcome) c has) (one-work s c is, known-outcome outcome (record c.transaction { outcome = outcome }) both.0 refl)
  works-run s (Step.End outcome ∷ steps) c passes has is =
      let both = and_parts (is_known outcome) (keeps over steps) passes in works-run over steps (ended c outcome) both.1 (has-ended c outcome has) (over-ended s c outcome both.0 is)
  works-run s (Step.EndWhereFinished outcome ∷ steps) c passes has is =
      let all = and_parts (is_known outcome && keeps s steps) (keeps over steps) passes in
      let both = and_parts (is_known outcome) (keeps s steps) all.0 in
      if_cases (λ d. Done (run steps d)) (list_any (is_unfinished c.transaction.id) c.enlistments) c (ended c outcome)
      (λ some. works-run s steps c both.1 has is) (λ none. works-run over steps (ended c outcome) all.1 (has-ended c outcome has) (over-ended s c outcome both.0 is))
  works-run s (Step.Change answer ∷ steps) c passes has is = works-run s steps (carried (Step.Change answer) c) passes (has-step (Step.Change answer) c has) (same-changing s c c.caller _ is)
  works-run s (Step.Record fact ∷ steps) c passes has is = works-run s steps (carried (Step.Record fact) c) passes (has-step (Step.Record fact) c has) (same s c (carried (Step.Record fact) c) refl refl is)
  works-run s (Step.Tell who kind ∷ steps) c passes has is = works-run s steps (carried (Step.Tell who kind) c) passes (has-step (Step.Tell who kind) c has) (same s c (carried (Step.Tell who kind) c) refl refl is)
  works-run s (Step.Ask who kind owed ∷ steps) c passes has is = works-run s steps (carried (Step.Ask who kind owed) c) passes (has-step (Step.Ask who kind owed) c has) (same s c (carried (Step.Ask who kind owed) c) refl refl is)
  works-run s (Step.Enter phase ∷ steps) c passes has is = works-run s steps (carried (Step.Enter phase) c) passes (has-step (Step.Enter phase) c has) (same s c (carried (Step.Enter phase) c) refl refl is)

  works-led : (input : PhaseInput) (c : Course) → IsBegun t cs ss c → Done (led input c)
  unfolding led
  works-led input c is = works-run begun (row (seen c) input) c (each-row-passes (keeps begun) refl (seen c) input) (record { changes = is.changes; settings = is.settings }) (is.works, is.outcome)

-- ---- rows

-- by each row it goes on so
pub led-is : (t : Transaction) (cs : List Change) (ss : OwnSettings) (input : PhaseInput) (c : Course) → IsBegun t cs ss c → IsCourse t cs ss (led input c)
led-is t cs ss input c is =
    let still = stays-led input c in
    let done = works-led t cs ss input c is in
    record {
      id = still.id ∙ is.id;
      changes = still.changes ∙ is.changes;
      settings = still.settings ∙ is.settings;
      works = done.works;
      events = led-no_boots input c is.events;
      outcome = done.outcome;
    }
