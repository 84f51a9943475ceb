-- What is so once a transaction has gone on by steps, but for what was recorded.
use Rattle.std.specs.Prelude.{◌≡◌, ◌==◌, ◌&&◌, not, Bool, true, false, List, [], cond, map, Option, None, if◌then◌else◌}
use Rattle.std.specs.List.{list_any}
use Rattle.ktm_base.specs.declared.id.Id.{Id}
use Rattle.ktm_world.specs.declared.object.Transaction.{Transaction}
use Rattle.ktm_world.specs.declared.input.Seen.{Seen}
use Rattle.ktm_world.specs.declared.step.Step.{Step}
use Rattle.ktm_course.specs.Moved.{is_commit, records_files}
use Rattle.ktm_world.specs.Committed.{Work}
use Rattle.ktm_world.specs.Durable.{after_events, empty_state, next_after_all}
use Rattle.ktm_world.specs.Enlistments.{Enlistment}
use Rattle.ktm_world.specs.Files.{own_changes}
use Rattle.ktm_world.specs.Keys.{own_settings, without_own, stored_all}
use Rattle.ktm_world.specs.Outcome.{served}
use Rattle.ktm_world.specs.Phases.{Course, work_of}
use Rattle.ktm_world.specs.Present.{Present}
use Rattle.ktm_world.specs.Steps.{run}
use Rattle.ktm_world.specs.Transactions.{change_at, is_undecided}
use Rattle.ktm_world.specs.TransactionCalls.{course_of}
use Rattle.txf_laws.specs.Reservations.{files_committed}
use Rattle.txf_laws.specs.FileEffects.{forgotten}

-- what is so but for what was recorded
abbrev pub aside : Present → Present
aside x = record x { recorded = empty_state 0 0 }

-- what a transaction changed, opened and set is gone
abbrev pub with_forgotten : Present → Id → Present
with_forgotten x id = record x { files = forgotten x.files id; keys = record x.keys { own = without_own x.keys.own id } }

-- what it changed and set is committed
abbrev pub with_committed : Present → Id → Present
with_committed x id = record x {
  files = files_committed x.files id;
  keys = record { store = stored_all x.keys.store (own_settings x.keys.own id); own = without_own x.keys.own id };
}

-- where the course commits, the transaction's work is committed, and where its outcome is known it holds nothing
abbrev pub with_outcome : Present → Course → Bool → Present
with_outcome x c true = with_committed x c.transaction.id
with_outcome x c false = if is_undecided c.transaction then x else with_forgotten x c.transaction.id

-- the transaction and the enlistments are as they are on the course, and resource managers are sent what it sent
abbrev pub with_course : Present → Course → Bool → Present
with_course x c commits = record (with_outcome x c commits) {
  transactions = record x.transactions { items = change_at x.transactions.items c.transaction.id (λ u. c.transaction); enlistments = c.enlistments };
  managers = map (served None c.sent) x.managers;
}

-- ---- what the steps come to

-- what the changes and settings commit, if they do
abbrev pub works_if : Bool → Present → Transaction → List Work
works_if commits x t = cond commits (work_of (course_of x t None)) []

-- the steps lead the transaction, of which this enlistment calls, to a known outcome where they commit, and commit what it changed and set, or nothing
pub record LeadsOn (x : Present) (t : Transaction) (caller : Option Enlistment) (steps : List Step) : Type 0 where
  pub known : list_any is_commit steps ≡ true → is_undecided (run steps (course_of x t caller)).transaction ≡ false
  pub works : (run steps (course_of x t caller)).works ≡ works_if (list_any is_commit steps) x t

-- the next node number after what the steps record: the changes of the files raise it, where they are recorded
abbrev pub LogsNext : Present → Transaction → Option Enlistment → List Step → Type 0
LogsNext x t caller steps =
    (after_events x.recorded (run steps (course_of x t caller)).events).next_node
    ≡ cond (records_files steps) (next_after_all x.recorded.next_node (own_changes x.files.table.own t.id)) x.recorded.next_node

-- does a transaction commit at once where that is asked: it has no superior, and no enlistment takes part
abbrev pub commits_at_once : Seen → Bool
commits_at_once s = not s.has_superior && s.enlistments == 0
