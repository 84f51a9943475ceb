-- Commands by which something comes to a transaction: what they come to has bytes, and what they commit can be committed.
use Rattle.std.proofs.Common.{◌≡◌, not, true, All, Option, Some, None, refl, ◌∙◌, ap, subst, inl, inr}
use Rattle.std.specs.List.{list_any}
use Rattle.std.proofs.lemmas.Bool.{false≢true}
use Rattle.ktm_base.specs.declared.id.Id.{Id}
use Rattle.ktm_base.specs.declared.id.Label.{Label}
use Rattle.ktm_base.specs.declared.id.Pid.{Pid}
use Rattle.ktm_base.specs.declared.refusal.Refusal.TheVariants.{TransactionAlreadyAborted, TransactionAlreadyCommitted, TransactionRequestNotValid}
use Rattle.ktm_laws.specs.Running.{HasEventsLeft}
use Rattle.ktm_standing.specs.Laws.{FilesLaw, SpelledLaw}
use Rattle.ktm_standing.specs.Standing.{IsStandingNow}
use Rattle.ktm_standing.proofs.offered.Named.{named_law}
use Rattle.ktm_course.specs.Moved.{is_commit}
use Rattle.ktm_event.specs.Spelling.{IsSpellableEvent}
use Rattle.ktm_memory.specs.Routed.{IsReadyCourse, course_to, outcome_of, reply_to}
use Rattle.ktm_memory.specs.declared.routed.Routed.TheVariants.{Course}
use Rattle.ktm_owned.proofs.offered.KeysKept.{not_refused}
use Rattle.ktm_owned.proofs.offered.Undecided.{undecided-from}
use Rattle.ktm_records.proofs.offered.AgreementOfCourses.{arrival}
use Rattle.ktm_world.specs.Values.{IsGiven}
use Rattle.ktm_world.specs.declared.command.Command.{Command}
use Rattle.ktm_world.specs.declared.command.Command.TheVariants.{CommitTransaction, RollbackTransaction}
use Rattle.ktm_world.specs.declared.input.PhaseInput.{PhaseInput}
use Rattle.ktm_world.specs.declared.object.Transaction.{Transaction}
use Rattle.ktm_world.specs.Decide.{decide}
use Rattle.ktm_world.specs.Enlistments.{Enlistment, enlistment_at}
use Rattle.ktm_world.specs.Labels.{transaction_named, transaction_tests}
use Rattle.ktm_world.specs.Outcome.{Outcome, first_refusal}
use Rattle.ktm_world.specs.Present.{Present}
use Rattle.ktm_world.specs.Rows.{row}
use Rattle.ktm_world.specs.Steps.{seen}
use Rattle.ktm_world.specs.TransactionCalls.{commit_transaction, course_of, may_roll_back, rollback_transaction, rollback_transaction_tests}
use Rattle.ktm_world.specs.Transactions.{is_aborted, is_active, is_committed, is_live, is_undecided, transaction_at}
use Rattle.txf_laws.proofs.offered.Elements.{not-not}
use Rattle.ktm_route.proofs.Alive.{live_active, live_rolled}
use Rattle.ktm_route.proofs.Routes.{commit_routed, passed_active, rollback_routed}

-- ---- any course

-- the enlistment that calls, if one does, is one of the transaction
abbrev pub IsCaller : Present → Transaction → Option Id → Type 0
IsCaller x t caller = (id : Id) → caller ≡ Some id → (e : Enlistment) × (enlistment_at x.transactions.enlistments id ≡ Some e) × (e.transaction ≡ t.id)

-- a command by which something comes to a transaction, from this enlistment, if one calls
module _ (x : Present) (process : Pid) (command : Command) (t : Transaction) (caller : Option Id) (input : PhaseInput) (comes : decide x process command ≡ outcome_of x process (Course t caller input)) where
  -- its events are those of the course
  course_events : (decide x process command).events ≡ (course_to x t caller input).events
  course_events = let c = course_to x t caller input in ap (λ (o : Outcome). o.events) comes ∙ (arrival x c (reply_to input c)).events

  -- the course is ready, where the transaction is there and has not ended, the caller is its own, and it is not decided where it commits
  pub ready_course : SpelledLaw → FilesLaw → IsStandingNow x → HasEventsLeft x → IsGiven command → transaction_at x.transactions.items t.id ≡ Some t → IsCaller x t caller
      → (list_any is_commit (row (seen (course_of x t None)) input) ≡ true → is_undecided t ≡ true) → (input ≡ PhaseInput.CommitTransaction → is_active t ≡ true) → is_live t ≡ true
      → IsReadyCourse x t caller input
  ready_course spelled files standing left is there called undecided active live = record {
    there = there;
    called = called;
    may = λ commits. files.commits x t standing left there (undecided commits);
    spelled = subst (All IsSpellableEvent) course_events (spelled.commands x process command standing is);
    active = active;
    live = live;
  }

-- ---- those of no enlistment

-- no enlistment calls
none_calls : (x : Present) (t : Transaction) → IsCaller x t None
none_calls x t = λ id is. absurd (cc)

-- a transaction that passes the tests is not decided
passed_undecided : (t : Transaction) → first_refusal (transaction_tests (Some t)) ≡ None → is_undecided t ≡ true
passed_undecided t passed =
    undecided-from t (not_refused (transaction_tests (Some t)) passed (is_committed t, TransactionAlreadyCommitted) (inr (inl refl)))
    (not_refused (transaction_tests (Some t)) passed (is_aborted t, TransactionAlreadyAborted) (inr (inr (inl refl))))

-- a transaction that passes the tests of a rollback may be rolled back
passed_rollback : (t : Transaction) → first_refusal (rollback_transaction_tests (Some t)) ≡ None → may_roll_back t ≡ true
passed_rollback t passed = not-not (may_roll_back t) (not_refused (rollback_transaction_tests (Some t)) passed (not (may_roll_back t), TransactionRequestNotValid) (inr (inr (inr (inl refl)))))

module _ (x : Present) (process : Pid) (up : x.machine.is_up ≡ true) (label : Label) (t : Transaction) (named : transaction_named x process label ≡ Some t) where
  -- a transaction that is asked to commit
  pub commit_comes : first_refusal (transaction_tests (Some t)) ≡ None → decide x process (CommitTransaction label) ≡ outcome_of x process (Course t None PhaseInput.CommitTransaction)
  unfolding commit_transaction
  commit_comes passed = commit_routed x process up label t named passed

  -- a transaction that is rolled back
  pub rollback_comes : first_refusal (rollback_transaction_tests (Some t)) ≡ None → decide x process (RollbackTransaction label) ≡ outcome_of x process (Course t None PhaseInput.Rollback)
  unfolding rollback_transaction
  rollback_comes passed = rollback_routed x process up label t named passed

  module _ (spelled : SpelledLaw) (files : FilesLaw) (standing : IsStandingNow x) (left : HasEventsLeft x) where
    pub commit_ready : IsGiven (CommitTransaction label) → first_refusal (transaction_tests (Some t)) ≡ None → IsReadyCourse x t None PhaseInput.CommitTransaction
    commit_ready is passed =
        ready_course x process (CommitTransaction label) t None PhaseInput.CommitTransaction (commit_comes passed) spelled files standing left is (named_law.transactions x process label t named) (none_calls x t)
        (λ commits. passed_undecided t passed) (λ asked. passed_active t passed) (live_active t (passed_active t passed))

    -- a rollback commits nothing
    pub rollback_ready : IsGiven (RollbackTransaction label) → first_refusal (rollback_transaction_tests (Some t)) ≡ None → IsReadyCourse x t None PhaseInput.Rollback
    rollback_ready is passed =
        ready_course x process (RollbackTransaction label) t None PhaseInput.Rollback (rollback_comes passed) spelled files standing left is (named_law.transactions x process label t named) (none_calls x t)
        (λ commits. absurd (false≢true commits)) (λ asked. absurd (cc)) (live_rolled t (passed_rollback t passed))
