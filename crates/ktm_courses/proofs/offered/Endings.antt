-- What is sound of a transaction on its way, and how it comes to its end: what it comes to where it commits or rolls back, and where all are prepared, is sound again.
use Rattle.std.proofs.Common.{◌≡◌, ℕ, ◌==◌, ◌&&◌, ◌||◌, not, Bool, true, false, List, [], ◌∷◌, length, map, filter, suc, nat_lt, Some, is_some, is_none, refl, sym, ◌∙◌, ap, subst, arith, inl, inr}
use Rattle.std.proofs.lemmas.Bool.{cases_Bool, and_parts, and_from, and_cases, or_cases, or_left, or_right, not-true, not_from_false, true≢false, false_from_ne_true}
use Rattle.std.specs.List.{list_any}
use Rattle.ktm_base.specs.declared.id.Id.{Id}
use Rattle.ktm_base.specs.declared.notify.Notify.{Notify}
use Rattle.ktm_world.specs.declared.event.Event.{Event}
use Rattle.ktm_world.specs.declared.input.PhaseInput.{PhaseInput}
use Rattle.ktm_world.specs.declared.object.Phase.{Phase}
use Rattle.ktm_world.specs.declared.object.Phase.TheVariants.{Committing, Aborting, Ended}
use Rattle.ktm_world.specs.declared.object.Transaction.{Transaction}
use Rattle.ktm_world.specs.declared.object.TransactionOutcome.{TransactionOutcome}
use Rattle.ktm_world.specs.declared.object.TransactionOutcome.TheVariants.{Undetermined, Committed, Aborted}
use Rattle.ktm_world.specs.declared.step.Owed.{Owed}
use Rattle.ktm_world.specs.Enlistments.{Enlistment, Manager, is_superior, owes_commit, owes_rollback, takes_part, is_unfinished, is_durable_at, with_enlistments, superior_of, id_of, is_given}
use Rattle.ktm_world.specs.Phases.{Course, in_phase, decided, recording, telling, owing, unchanged, superior, is_its_superior, has_settings, end_notice, ended, ended_if_finished, event_if, is_single_phase}
use Rattle.ktm_world.specs.Transactions.{same_id, is_committed, is_aborted, is_undecided}
use Rattle.ktm_world.specs.Changes.{has_changes}
use Rattle.ktm_world.specs.Steps.{led, counted, held_event, is_meant, run, seen}
use Rattle.txf_laws.specs.Elements.{IsIn}
use Rattle.ktm_courses.specs.SoundCourse.{is_last_recover, is_unrecovered_well, is_outcome_of, is_of_its_boot, has_superior_as_asked, is_idle, is_waiting, owes_until_finished, is_part_as, is_awaited, has_durable_part, is_recorded_as_asked}
use Rattle.txf_laws.proofs.offered.Elements.{IsIn-kept, list_any-at, list_any-from}
use Rattle.ktm_courses.proofs.offered.Moves.{IsSame, IsAlike, Moved, Moved-then, moved-transaction, moved-telling, changes-none, stepped, with-unchanged, Stand, Stand-with, Stand-as, moved-still}
use Rattle.ktm_steps.proofs.offered.Table.{all_readies-by, held, readied}
use Rattle.ktm_steps.proofs.offered.Counts.{some-counted}
use Rattle.ktm_world.specs.Rows.{all_readies, commits}
use Rattle.ktm_world.specs.declared.step.Fact.{Fact}
use Rattle.ktm_world.specs.declared.step.Step.{Step}
use Rattle.ktm_world.specs.declared.step.Step.TheVariants.{Record}
use Rattle.ktm_world.specs.declared.step.Who.{Who}
use Rattle.ktm_steps.proofs.offered.Ways.{if_cases}

-- ---- tests on enlistments

pub none-at : {X : Type 0} (test : X → Bool) (xs : List X) → list_any test xs ≡ false → (x : X) → IsIn x xs → test x ≡ false
none-at test xs none x there = false_from_ne_true _ (λ is. true≢false (sym (list_any-from test xs x there is) ∙ none))

-- where what is tested stays of those that are told
pub list_any-told : (test told : Enlistment → Bool) (f : Enlistment → Enlistment) (es : List Enlistment) → ((e : Enlistment) → IsIn e es → told e ≡ true → test (f e) ≡ test e) → list_any test (with_enlistments told f es) ≡ list_any test es
list_any-told test told f [] same = refl
list_any-told test told f (e ∷ es) same = λ i. (if_cases (λ x. test x ≡ test e) (told e) (f e) e (λ is. same e (inl refl) is) (λ is. refl)) i || list_any-told test told f es (λ x there. same x (inr there)) i

-- of all of them
pub list_any-with : (test told : Enlistment → Bool) (f : Enlistment → Enlistment) → ((e : Enlistment) → test (f e) ≡ test e) → (es : List Enlistment) → list_any test (with_enlistments told f es) ≡ list_any test es
list_any-with test told f same es = list_any-told test told f es (λ e there is. same e)

-- as many enlistments pass, where what is tested stays
pub filter-with : (test told : Enlistment → Bool) (f : Enlistment → Enlistment) → ((e : Enlistment) → test (f e) ≡ test e) → (es : List Enlistment)
    → length (filter test (with_enlistments told f es)) ≡ length (filter test es)
filter-with test told f same [] = refl
filter-with test told f same (e ∷ es) =
    let first : test (stepped told f e) ≡ test e = if_cases (λ x. test x ≡ test e) (told e) (f e) e (λ is. same e) (λ is. refl) in
    elim (cases_Bool (test e)) [
      | inl is ↦ rw (first ∙ is, is) (ap suc (filter-with test told f same es))
      | inr other ↦ rw (first ∙ other, other) (filter-with test told f same es)
    ]

-- the superior stays
pub superior-with : (id : Id) (step : Enlistment → Enlistment) → ((e : Enlistment) → IsSame e (step e)) → (es : List Enlistment) → is_some (superior_of (map step es) id) ≡ is_some (superior_of es id)
superior-with id step same [] = refl
superior-with id step same (e ∷ es) =
    let test : (same_id (step e).transaction id && is_superior (step e)) ≡ (same_id e.transaction id && is_superior e) =
    λ i. same_id ((same e).transaction i) id && is_superior (record e { kind = (same e).kind i }) in
    elim (cases_Bool (same_id e.transaction id && is_superior e)) [
      | inl is ↦ rw (test ∙ is, is) refl
      | inr other ↦ rw (test ∙ other, other) (superior-with id step same es)
    ]

-- one of them is found
pub superior-found : (id : Id) (es : List Enlistment) (e : Enlistment) → IsIn e es → (same_id e.transaction id && is_superior e) ≡ true → is_some (superior_of es id) ≡ true
superior-found id [] e there is = absurd there
superior-found id (f ∷ es) e there is = elim (cases_Bool (same_id f.transaction id && is_superior f)) [
  | inl here ↦ rw here refl
  | inr not_here ↦ elim there [
    | inl same ↦ absurd (true≢false (sym is ∙ ap (λ (g : Enlistment). same_id g.transaction id && is_superior g) (sym same) ∙ not_here))
    | inr later ↦ rw not_here (superior-found id es e later is)
  ]
]

pub idle-parts : (e : Enlistment) → is_idle e ≡ true → (is_none e.owes ≡ true) × (e.is_prepared ≡ false) × (e.is_finished ≡ false)
idle-parts e idle =
    let both = and_parts (is_none e.owes && not e.is_prepared) (not e.is_finished) idle in
    let first = and_parts (is_none e.owes) (not e.is_prepared) both.0 in
    (first.0, not-true _ first.1, not-true _ both.1)

pub waiting-parts : (e : Enlistment) → is_waiting e ≡ true → (is_none e.owes ≡ true) × (e.is_prepared ≡ true) × (e.is_finished ≡ false)
waiting-parts e waits =
    let both = and_parts (is_none e.owes && e.is_prepared) (not e.is_finished) waits in
    let first = and_parts (is_none e.owes) e.is_prepared both.0 in
    (first.0, first.1, not-true _ both.1)

pub part-parts : (id : Id) (e : Enlistment) → takes_part id e ≡ true → (same_id e.transaction id ≡ true) × (is_superior e ≡ false) × (e.is_read_only ≡ false)
part-parts id e part =
    let both = and_parts (same_id e.transaction id && not (is_superior e)) (not e.is_read_only) part in
    let first = and_parts (same_id e.transaction id) (not (is_superior e)) both.0 in
    (first.0, not-true _ first.1, not-true _ both.1)

-- one that takes part and is not prepared is recovered
pub unprepared-recovered : (boot : ℕ) (ms : List Manager) (id : Id) (e : Enlistment) → is_unrecovered_well boot ms e ≡ true → takes_part id e ≡ true → e.is_prepared ≡ false → e.is_recovered ≡ true
unprepared-recovered boot ms id e well part prepared = elim (or_cases _ _ well) [
  | inl recovered ↦ recovered
  | inr back ↦ absurd (true≢false (sym (and_parts _ (is_superior e || e.is_prepared) back).1 ∙ rw ((part-parts id e part).1, prepared) refl))
]

-- ---- what is so of a transaction on its way

-- an earlier boot's transaction was brought back
abbrev pub is_backed : ℕ → Transaction → Bool
is_backed boot t = is_of_its_boot boot (record t { phase = Ended })

pub is_backed-from : (boot : ℕ) (t : Transaction) → is_of_its_boot boot t ≡ true → is_backed boot t ≡ true
is_backed-from boot t is = elim (cases_Bool (nat_lt (t.id).boot boot)) [
  | inl earlier ↦
      let is' = rw earlier at is in
      let all = and_parts _ t.is_recorded is' in
      let three = and_parts _ (t.created == 0) all.0 in
      let two = and_parts _ (t.timeout == 0) three.0 in
      rw earlier (and_from _ _ (and_from _ _ two.1 three.1) all.1)
  | inr now ↦ rw now refl
]

-- the transaction of a course is as its phase asks
pub record Stands (boot : ℕ) (c : Course) : Type 0 where
  pub outcome : is_outcome_of (c.transaction).phase c.transaction ≡ true
  pub boots : is_of_its_boot boot c.transaction ≡ true
  pub superior : has_superior_as_asked c.enlistments c.transaction ≡ true
  pub stand : Stand c.enlistments (c.transaction).id (is_part_as (c.transaction).phase)
  pub awaited : is_awaited c.enlistments c.transaction ≡ true
  pub alone : (not (is_single_phase (c.transaction).phase) || (not (has_changes c.changes) && not (has_settings c.settings))) ≡ true
  pub recorded : is_recorded_as_asked c.managers c.enlistments c.transaction ≡ true

-- it is in this phase, and nothing else of it is changed; what a step makes of it, but where it has ended
abbrev pub with_phase : Course → Phase → Course
with_phase c phase = record c { transaction = record c.transaction { phase = phase } }

-- it has gone on, and is sound again
pub record Arrives (boot : ℕ) (c d : Course) : Type 0 where
  pub moved : Moved c d
  pub stands : Stands boot d

pub arrives-then : (boot : ℕ) {c d e : Course} → Moved c d → Arrives boot d e → Arrives boot c e
arrives-then boot first rest = record { moved = Moved-then first rest.moved; stands = rest.stands }

-- those of its superior are its own
pub its-own : (c d : Course) → (d.transaction).id ≡ (c.transaction).id → (e : Enlistment) → IsIn e d.enlistments → is_its_superior c e ≡ true → same_id e.transaction (d.transaction).id ≡ true
its-own c d same e there is = subst (λ id. same_id e.transaction id ≡ true) (sym same) (and_parts (same_id e.transaction (c.transaction).id) (is_superior e) is).0

-- ---- the end

end_notice-other : (outcome : TransactionOutcome) → is_last_recover (end_notice outcome) ≡ false
end_notice-other Undetermined = refl
end_notice-other Committed = refl
end_notice-other Aborted = refl

-- is the outcome known
abbrev is_known : Transaction → Bool
is_known t = is_committed t || is_aborted t

-- an earlier boot's transaction that has ended has no times, as each that was brought back
backed-ended : (boot : ℕ) (t : Transaction) → is_backed boot t ≡ true → is_of_its_boot boot (record t { phase = Ended; timeout = 0; created = 0 }) ≡ true
backed-ended boot t is = elim (cases_Bool (nat_lt (t.id).boot boot)) [
  | inl earlier ↦ let is' = rw earlier at is in rw earlier (and_parts _ t.is_recorded is').1
  | inr now ↦ rw now refl
]

pub arrives-ended : (boot : ℕ) (c : Course) (outcome : TransactionOutcome) → is_known (record c.transaction { outcome = outcome }) ≡ true → is_backed boot c.transaction ≡ true
    → Stand c.enlistments (c.transaction).id (is_part_as Ended) → Arrives boot c (ended c outcome)
unfolding ended
arrives-ended boot c outcome known backed stand =
    let d = in_phase (decided c outcome) Ended in
    record {
      moved = Moved-then (moved-transaction c d.transaction refl (omega arith))
          (moved-telling d (is_its_superior c) (end_notice outcome) unchanged (end_notice-other outcome) (changes-none d (is_its_superior c) (its-own c d refl)));
      stands = record {
        outcome = known;
        boots = backed-ended boot c.transaction backed;
        superior = refl;
        stand = subst (λ es. Stand es (c.transaction).id (is_part_as Ended)) (sym (with-unchanged (is_its_superior c) c.enlistments)) stand;
        awaited = refl;
        alone = refl;
        recorded = refl;
      };
    }

-- an enlistment that has finished owes nothing
pub over-part : (owes : Enlistment → Bool) (e : Enlistment) → owes_until_finished owes e ≡ true → e.is_finished ≡ true → is_part_as Ended e ≡ true
over-part owes e until finished = elim (cases_Bool e.is_recovered) [
  | inl recovered ↦ let none : is_none e.owes ≡ true = rw (recovered, finished) at until in and_from _ _ none finished
  | inr other ↦ let none : is_none e.owes ≡ true = rw other at until in and_from _ _ none finished
]

-- nobody is unfinished
all-finished : (es : List Enlistment) (id : Id) (before : Enlistment → Bool) → Stand es id before → ((e : Enlistment) → before e ≡ true → e.is_finished ≡ true → is_part_as Ended e ≡ true)
    → list_any (is_unfinished id) es ≡ false → Stand es id (is_part_as Ended)
all-finished es id before stand each none = Stand-as es id before (is_part_as Ended) stand (λ e there part passes.
    elim (and_cases _ _ (none-at (is_unfinished id) es none e there)) [
      | inl other ↦ absurd (true≢false (sym part ∙ other))
      | inr finished ↦ each e passes (not-not e.is_finished finished)
    ])
  where
    not-not : (b : Bool) → not b ≡ false → b ≡ true
    not-not true is = refl
    not-not false is = absurd (true≢false is)

pub arrives-if_finished : (boot : ℕ) (c : Course) (outcome : TransactionOutcome) (before : Enlistment → Bool) → is_known (record c.transaction { outcome = outcome }) ≡ true → is_backed boot c.transaction ≡ true
    → Stand c.enlistments (c.transaction).id before → ((e : Enlistment) → before e ≡ true → e.is_finished ≡ true → is_part_as Ended e ≡ true)
    → (list_any (is_unfinished (c.transaction).id) c.enlistments ≡ true → Stands boot c)
    → Arrives boot c (ended_if_finished c outcome)
arrives-if_finished boot c outcome before known backed stand each goes_on =
    if_cases (λ d. Arrives boot c d) (list_any (is_unfinished (c.transaction).id) c.enlistments) c (ended c outcome)
    (λ some. record { moved = Moved-stays c; stands = goes_on some })
    (λ none. arrives-ended boot c outcome known backed (all-finished c.enlistments (c.transaction).id before stand each none))
  where
    Moved-stays : (c : Course) → Moved c c
    Moved-stays c = moved-transaction c c.transaction refl (omega arith)

pub alike-owing : (owed : Owed) (e : Enlistment) → IsAlike e (owing owed e)
alike-owing owed e = record { same = record { id = refl; manager = refl; transaction = refl; kind = refl; information = refl }; read_only = refl }

-- ---- it commits

-- all are prepared
pub record CanCommit (boot : ℕ) (c : Course) : Type 0 where
  pub backed : is_backed boot c.transaction ≡ true
  pub stand : Stand c.enlistments (c.transaction).id is_waiting
  pub recorded : ((c.transaction).is_recorded || not (has_durable_part c.managers c.enlistments (c.transaction).id (λ e. not e.is_finished))) ≡ true

module _ (boot : ℕ) (c : Course) (can : CanCommit boot c) where
  -- those that are told to commit
  abbrev to_commit_now : Enlistment → Bool
  to_commit_now e = takes_part (c.transaction).id e && e.is_prepared && e.is_recovered

  -- it is decided
  abbrev c_decided : Course
  c_decided = run (Record Fact.Decide ∷ Record Fact.DoneFiles ∷ Record Fact.DoneKeys ∷ Step.Commit ∷ Step.Decide Committed ∷ Step.Enter Committing ∷ []) c

  abbrev c_committing : Course
  c_committing = telling c_decided to_commit_now Notify.Commit (owing Owed.Commit)

  commit-parts : (e : Enlistment) → to_commit_now e ≡ true → (takes_part (c.transaction).id e ≡ true) × (e.is_prepared ≡ true) × (e.is_recovered ≡ true)
  commit-parts e is =
      let both = and_parts (takes_part (c.transaction).id e && e.is_prepared) e.is_recovered is in
      let first = and_parts (takes_part (c.transaction).id e) e.is_prepared both.0 in
      (first.0, first.1, both.1)

  committing-moved : Moved c c_committing
  committing-moved = Moved-then
      (moved-still c c_decided.transaction c_decided.events c_decided.works refl (omega arith))
      (moved-telling c_decided to_commit_now Notify.Commit (owing Owed.Commit) refl (record {
        own = λ e there is. (part-parts (c.transaction).id e (commit-parts e is).0).0;
        same = λ e. (alike-owing Owed.Commit e).same;
        recovered = λ e there is. inr (commit-parts e is).2;
      }))

  committing-stand : Stand c_committing.enlistments (c.transaction).id (is_part_as Committing)
  committing-stand = Stand-with c.enlistments (c.transaction).id is_waiting (is_part_as Committing) to_commit_now (owing Owed.Commit) can.stand
      (λ e there is. (commit-parts e is).0) (alike-owing Owed.Commit)
      (λ e there part waits is. rw ((commit-parts e is).1, (commit-parts e is).2, (waiting-parts e waits).2) refl)
      (λ e there part waits silent. elim (and_cases (takes_part (c.transaction).id e && e.is_prepared) e.is_recovered silent) [
        | inl first ↦ absurd (true≢false (sym (and_from _ _ part (waiting-parts e waits).1) ∙ first))
        | inr unrecovered ↦ rw ((waiting-parts e waits).1, unrecovered) (waiting-parts e waits).0
      ])

  pub arrives-committing : Arrives boot c (run commits c)
  arrives-committing = arrives-then boot committing-moved (arrives-if_finished boot c_committing Committed (is_part_as Committing) refl can.backed committing-stand
      (λ e is finished. over-part owes_commit e (and_parts e.is_prepared _ is).1 finished)
      (λ some. record {
        outcome = refl;
        boots = can.backed;
        superior = refl;
        stand = committing-stand;
        awaited = some;
        alone = refl;
        recorded = subst (λ b. ((c.transaction).is_recorded || not b) ≡ true)
            (sym (list_any-with (λ e. takes_part (c.transaction).id e && (not e.is_finished && is_durable_at c.managers e.manager)) to_commit_now (owing Owed.Commit) (λ e. refl) c.enlistments)) can.recorded;
      }))

-- ---- it rolls back

-- one that has not finished, and owes nothing where it is not recovered
abbrev pub may_be_told : Enlistment → Bool
may_be_told e = not e.is_finished && (e.is_recovered || is_none e.owes)

module _ (boot : ℕ) (c : Course) (backed : is_backed boot c.transaction ≡ true) (stand : Stand c.enlistments (c.transaction).id may_be_told) where
  -- those that are told to roll back
  abbrev to_roll_back : Enlistment → Bool
  to_roll_back e = takes_part (c.transaction).id e && e.is_recovered

  -- the superior, but one that asked for it
  abbrev to_tell : Enlistment → Bool
  to_tell e = is_meant Who.OtherSuperior c e

  abbrev c_undone : Course
  c_undone = recording c (event_if (c.transaction).is_recorded (Event.Undo (c.transaction).id))

  abbrev c_told : Course
  c_told = telling c_undone to_roll_back Notify.Rollback (owing Owed.Rollback)

  abbrev c_aborting : Course
  c_aborting = in_phase (decided (telling c_told to_tell Notify.Rollback unchanged) Aborted) Aborting

  aborting-moved : Moved c c_aborting
  aborting-moved = Moved-then
      (Moved-then
      (Moved-then (moved-still c c.transaction c_undone.events c.works refl (omega arith))
      (moved-telling c_undone to_roll_back Notify.Rollback (owing Owed.Rollback) refl (record {
        own = λ e there is. (part-parts (c.transaction).id e (and_parts (takes_part (c.transaction).id e) e.is_recovered is).0).0;
        same = λ e. (alike-owing Owed.Rollback e).same;
        recovered = λ e there is. inr (and_parts (takes_part (c.transaction).id e) e.is_recovered is).1;
      })))
      (moved-telling c_told to_tell Notify.Rollback unchanged refl (changes-none c_told to_tell (λ e there is.
      its-own c c_told refl e there (and_parts (is_its_superior c e) (not (is_given (id_of c.caller) e)) is).0))))
      (moved-transaction (telling c_told to_tell Notify.Rollback unchanged) c_aborting.transaction refl (omega arith))

  aborting-stand : Stand c_aborting.enlistments (c.transaction).id (is_part_as Aborting)
  aborting-stand = subst (λ es. Stand es (c.transaction).id (is_part_as Aborting)) (sym (with-unchanged to_tell c_told.enlistments))
      (Stand-with c.enlistments (c.transaction).id may_be_told (is_part_as Aborting) to_roll_back (owing Owed.Rollback) stand
      (λ e there is. (and_parts (takes_part (c.transaction).id e) e.is_recovered is).0) (alike-owing Owed.Rollback)
      (λ e there part may is. rw ((and_parts (takes_part (c.transaction).id e) e.is_recovered is).1, not-true _ (and_parts (not e.is_finished) _ may).0) refl)
      (λ e there part may silent. elim (and_cases (takes_part (c.transaction).id e) e.is_recovered silent) [
        | inl other ↦ absurd (true≢false (sym part ∙ other))
        | inr unrecovered ↦
            let owes : (e.is_recovered || is_none e.owes) ≡ true = (and_parts (not e.is_finished) _ may).1 in
            let none : is_none e.owes ≡ true = rw unrecovered at owes in
            rw unrecovered none
      ]))

  pub arrives-aborting : Arrives boot c (led PhaseInput.Rollback c)
  unfolding led
  arrives-aborting = arrives-then boot aborting-moved (arrives-if_finished boot c_aborting Aborted (is_part_as Aborting) refl backed aborting-stand
      (λ e is finished. over-part owes_rollback e is finished)
      (λ some. record {
        outcome = refl;
        boots = backed;
        superior = refl;
        stand = aborting-stand;
        awaited = some;
        alone = refl;
        recorded = refl;
      }))

-- ---- all are prepared

-- all are prepared, and the outcome is not known
pub record AllReady (boot : ℕ) (c : Course) : Type 0 where
  pub here : nat_lt ((c.transaction).id).boot boot ≡ false
  pub undecided : is_undecided c.transaction ≡ true
  pub stand : Stand c.enlistments (c.transaction).id is_waiting
  pub recorded : has_durable_part c.managers c.enlistments (c.transaction).id (λ e. e.is_prepared) ≡ true → (c.transaction).is_recorded ≡ true

-- nobody takes part
pub no-parts : (c : Course) → counted c (λ e. true) ≡ 0 → (e : Enlistment) → IsIn e c.enlistments → takes_part (c.transaction).id e ≡ true → ⊥
no-parts c none e there part = true≢false (sym (and_from _ _ part refl) ∙ none-at _ c.enlistments (some-counted c (λ e. true) true (ap (λ n. n == 0) none)) e there)

pub Stand-nobody : (es : List Enlistment) (id : Id) (before after : Enlistment → Bool) → Stand es id before → ((e : Enlistment) → IsIn e es → takes_part id e ≡ true → ⊥) → Stand es id after
Stand-nobody es id before after stand none = Stand-as es id before after stand (λ e there part passes. absurd (none e there part))

module _ (boot : ℕ) (c : Course) (all : AllReady boot c) where
  abbrev c_readied : Course
  c_readied = readied c

  readied-moved : Moved c c_readied
  readied-moved = moved-still c c_readied.transaction c_readied.events c.works refl (omega arith)

  can-commit : CanCommit boot c_readied
  can-commit = record {
    backed = rw all.here refl;
    stand = all.stand;
    recorded = elim (cases_Bool (has_durable_part c.managers c.enlistments (c.transaction).id (λ e. not e.is_finished))) [
      | inr none ↦ or_right _ _ (not_from_false _ none)
      | inl some ↦
          let one = list_any-at _ c.enlistments some in
          let parts = and_parts (takes_part (c.transaction).id one.0) (not (one.0).is_finished && is_durable_at c.managers (one.0).manager) one.2 in
          let rest = and_parts (not (one.0).is_finished) (is_durable_at c.managers (one.0).manager) parts.1 in
          let prepared : has_durable_part c.managers c.enlistments (c.transaction).id (λ e. e.is_prepared) ≡ true = list_any-from _ c.enlistments one.0 one.1
          (and_from _ _ parts.0 (and_from _ _ (waiting-parts one.0 ((all.stand).parts one.0 one.1 parts.0)).1 rest.1)) in
          or_left _ _ (or_left _ _ (or_left _ _ (all.recorded prepared)))
    ];
  }

  pub arrives-all_ready : Arrives boot c (run (all_readies (seen c)) c)
  arrives-all_ready = all_readies-by (Arrives boot c) c waits
      (λ top none. arrives-then boot readied-moved (arrives-ended boot c_readied Committed refl can-commit.backed
      (Stand-nobody c.enlistments (c.transaction).id is_waiting (is_part_as Ended) all.stand (no-parts c (omega arith)))))
      (λ top. arrives-then boot readied-moved (arrives-committing boot c_readied can-commit))
    where
      -- the superior is told
      waits : (e : Enlistment) → superior c ≡ Some e → Arrives boot c (held c_readied e)
      waits e is =
          let c_held = record (recording c_readied (held_event (c.transaction).id (Some e))) { transaction = record c.transaction { is_recorded = true } } in
          let told = telling c_held (is_its_superior c_readied) Notify.PrepareComplete unchanged in
          record {
            moved = Moved-then
                (Moved-then (moved-still c c_held.transaction c_held.events c.works refl (omega arith))
                (moved-telling c_held (is_its_superior c_readied) Notify.PrepareComplete unchanged refl (changes-none c_held (is_its_superior c_readied) (its-own c_readied c_held refl))))
                (moved-transaction told (held c_readied e).transaction refl (omega arith));
            stands = record {
              outcome = all.undecided;
              boots = rw all.here refl;
              superior = subst (λ es. is_some (superior_of es (c.transaction).id) ≡ true) (sym (with-unchanged (is_its_superior c) c.enlistments)) (ap is_some is);
              stand = subst (λ es. Stand es (c.transaction).id is_waiting) (sym (with-unchanged (is_its_superior c) c.enlistments)) all.stand;
              awaited = refl;
              alone = refl;
              recorded = refl;
            };
          }

-- the one that takes part
pub only-one : (es : List Enlistment) (id : Id) → length (filter (takes_part id) es) ≡ 1 → (a b : Enlistment) → IsIn a es → IsIn b es → takes_part id a ≡ true → takes_part id b ≡ true → a ≡ b
only-one es id one a b there there' part part' = go (filter (takes_part id) es) one (IsIn-kept (takes_part id) es a there part) (IsIn-kept (takes_part id) es b there' part')
  where
    go : (es : List Enlistment) → length es ≡ 1 → IsIn a es → IsIn b es → a ≡ b
    go [] one there there' = absurd there
    go (x ∷ []) one (inl e) (inl e') = sym e ∙ e'
    go (x ∷ []) one (inl e) (inr none) = absurd none
    go (x ∷ []) one (inr none) there' = absurd none
    go (x ∷ y ∷ xs) one there there' = absurd (omega arith)
