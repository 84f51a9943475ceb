-- The course of a transaction to its end: what is read of it, and how it is changed.
use Rattle.std.specs.Prelude.{ℕ, ◌&&◌, ◌||◌, Bool, true, false, List, [], ◌∷◌, ◌++◌, map, filter, Option, Some, if◌then◌else◌}
use Rattle.std.specs.List.{list_any}
use Rattle.ktm_base.specs.declared.id.Id.{Id}
use Rattle.ktm_base.specs.declared.notify.Notify.{Notify}
use Rattle.ktm_world.specs.declared.change.Change.{Change}
use Rattle.ktm_world.specs.declared.event.Event.{Event}
use Rattle.ktm_world.specs.declared.event.Part.{Part}
use Rattle.ktm_world.specs.declared.object.Phase.{Phase}
use Rattle.ktm_world.specs.declared.object.Phase.TheVariants.{SinglePhase, Ended}
use Rattle.ktm_world.specs.declared.object.Transaction.{Transaction}
use Rattle.ktm_world.specs.declared.object.TransactionOutcome.{TransactionOutcome}
use Rattle.ktm_world.specs.declared.object.TransactionOutcome.TheVariants.{Aborted}
use Rattle.ktm_world.specs.declared.step.Owed.{Owed}
use Rattle.ktm_world.specs.Keys.{OwnSettings}
use Rattle.ktm_world.specs.Transactions.{same_id}
use Rattle.ktm_world.specs.Committed.{Work}
use Rattle.ktm_world.specs.Enlistments.{Enlistment, Sent, Manager, is_superior, is_unfinished, with_enlistments, superior_of, has_id, tell}
use Rattle.ktm_world.specs.Changes.{has_changes}

-- a transaction on its way, with all that one command does to it
pub record Course : Type 0 where
  pub transaction : Transaction
  pub enlistments : List Enlistment
  pub managers : List Manager
  -- what it has to commit, which no procedure changes
  pub changes : List Change
  pub settings : OwnSettings
  -- the enlistment that made the call, if one did
  pub caller : Option Enlistment
  -- what was done so far
  pub sent : List Sent
  pub events : List Event
  pub works : List Work

-- a time that is kept of a transaction until it has ended
abbrev pub until_ended : Phase → ℕ → ℕ
until_ended Ended time = 0
until_ended _ time = time

-- it is in this phase from now on; once it has ended, its timeout and when it was made are forgotten
abbrev pub in_phase : Course → Phase → Course
in_phase c phase = record c { transaction = record c.transaction { phase = phase; timeout = until_ended phase c.transaction.timeout; created = until_ended phase c.transaction.created } }

-- its outcome is known from now on
abbrev pub decided : Course → TransactionOutcome → Course
decided c outcome = record c { transaction = record c.transaction { outcome = outcome } }

-- it records these events too
abbrev pub recording : Course → List Event → Course
recording c events = record c { events = c.events ++ events }

-- each of its enlistments that passes the test is sent this, in order, and is changed
abbrev pub telling : Course → (Enlistment → Bool) → Notify → (Enlistment → Enlistment) → Course
telling c test kind f = record c {
  sent = c.sent ++ map (tell kind) (filter test c.enlistments);
  enlistments = with_enlistments test f c.enlistments;
}

-- an enlistment that owes this from now on
abbrev pub owing : Owed → Enlistment → Enlistment
owing what e = record e { owes = Some what }

-- an enlistment as it was
abbrev pub unchanged : Enlistment → Enlistment
unchanged e = e

-- its superior, if it has one
abbrev pub superior : Course → Option Enlistment
superior c = superior_of c.enlistments c.transaction.id

-- is the enlistment its superior
abbrev pub is_its_superior : Course → Enlistment → Bool
is_its_superior c e = same_id e.transaction c.transaction.id && is_superior e

-- do the keys take part
abbrev pub has_settings : OwnSettings → Bool
has_settings [] = false
has_settings (s ∷ ss) = true

-- one where this is so, and else none
abbrev pub one_if : Bool → ℕ
one_if true = 1
one_if false = 0

-- the notification by which a superior is told of this outcome
abbrev pub end_notice : TransactionOutcome → Notify
end_notice Aborted = Notify.RollbackComplete
end_notice _ = Notify.CommitComplete

-- the transaction has ended with this outcome, and its superior is told
unfoldable pub ended : Course → TransactionOutcome → Course
ended c outcome = telling (in_phase (decided c outcome) Ended) (is_its_superior c) (end_notice outcome) unchanged

-- it has ended where nobody is unfinished
abbrev pub ended_if_finished : Course → TransactionOutcome → Course
ended_if_finished c outcome = if list_any (is_unfinished c.transaction.id) c.enlistments then c else ended c outcome

-- what the built-in participants commit
abbrev pub work_of : Course → List Work
work_of c = if has_changes c.changes || has_settings c.settings then record { transaction = Some c.transaction.id; changes = c.changes; settings = c.settings } ∷ [] else []

-- the event where this is so, and else none
abbrev pub event_if : Bool → Event → List Event
event_if true event = event ∷ []
event_if false event = []

-- the enlistment with this Id is changed
abbrev pub changing_one : Course → Id → (Enlistment → Enlistment) → Course
changing_one c id f = record c { enlistments = with_enlistments (has_id id) f c.enlistments }

-- the part that an enlistment records
abbrev pub enlistment_part : Enlistment → Part
enlistment_part e = Part.Enlistment e.id e.manager e.information

-- does one enlistment commit in one phase
abbrev pub is_single_phase : Phase → Bool
is_single_phase SinglePhase = true
is_single_phase _ = false
