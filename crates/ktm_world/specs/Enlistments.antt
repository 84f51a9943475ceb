-- Enlistments, resource managers and their notifications.
use Rattle.std.specs.Prelude.{ℕ, ◌&&◌, ◌||◌, not, Bool, true, false, List, map, filter, find, Option, Some, None, if◌then◌else◌}
use Rattle.std.specs.List.{list_any}
use Rattle.ktm_base.specs.declared.id.Id.{Id}
use Rattle.ktm_base.specs.declared.notify.Notify.{Notify}
use Rattle.ktm_world.specs.declared.object.Phase.{Phase}
use Rattle.ktm_world.specs.declared.object.Phase.TheVariants.{Ended}
use Rattle.ktm_world.specs.declared.object.Transaction.{Transaction}
use Rattle.ktm_world.specs.declared.options.EnlistmentKind.{EnlistmentKind}
use Rattle.ktm_world.specs.declared.step.Owed.{Owed}
use Rattle.ktm_world.specs.Transactions.{same_id, is_of}

-- what a resource manager has to do with a transaction
pub record Enlistment : Type 0 where
  pub id : Id
  pub manager : Id
  pub transaction : Id
  pub kind : EnlistmentKind
  -- the answer that it owes, if it owes one
  pub owes : Option Owed
  -- it takes no part in the outcome
  pub is_read_only : Bool
  -- it can commit and can roll back
  pub is_prepared : Bool
  -- it has answered CommitComplete or RollbackComplete
  pub is_finished : Bool
  -- false where a restart brought it back, until RecoverEnlistment
  pub is_recovered : Bool
  -- the recovery information
  pub information : List ℕ

-- a notification, with its enlistment; the last one of a recovery has none
pub record Note : Type 0 where
  pub kind : Notify
  pub enlistment : Option Id

-- a notification on its way to a resource manager
pub record Sent : Type 0 where
  pub manager : Id
  pub note : Note

-- a resource manager now
pub record Manager : Type 0 where
  pub id : Id
  pub is_durable : Bool
  -- the notifications that wait, in order
  pub queue : List Note

-- is it the superior of its transaction
abbrev pub is_superior : Enlistment → Bool
is_superior e = elim e.kind as (λ _. Bool) [ EnlistmentKind.Superior ↦ true | _ ↦ false ]

-- does it ask for PREPREPARE
abbrev pub asks_pre_prepare : Enlistment → Bool
asks_pre_prepare e = elim e.kind as (λ _. Bool) [ EnlistmentKind.PrePrepare ↦ true | EnlistmentKind.Both ↦ true | _ ↦ false ]

-- can it commit in one phase
abbrev pub allows_one_phase : Enlistment → Bool
allows_one_phase e = elim e.kind as (λ _. Bool) [ EnlistmentKind.SinglePhase ↦ true | EnlistmentKind.Both ↦ true | _ ↦ false ]

-- does it owe an answer to PREPREPARE
abbrev pub owes_pre_prepare : Enlistment → Bool
owes_pre_prepare e = elim e.owes as (λ _. Bool) [ Some Owed.PrePrepare ↦ true | _ ↦ false ]

-- does it owe an answer to PREPARE
abbrev pub owes_prepare : Enlistment → Bool
owes_prepare e = elim e.owes as (λ _. Bool) [ Some Owed.Prepare ↦ true | _ ↦ false ]

-- does it owe an answer to COMMIT, or to SINGLE_PHASE_COMMIT
abbrev pub owes_commit : Enlistment → Bool
owes_commit e = elim e.owes as (λ _. Bool) [ Some Owed.Commit ↦ true | _ ↦ false ]

-- does it owe an answer to ROLLBACK
abbrev pub owes_rollback : Enlistment → Bool
owes_rollback e = elim e.owes as (λ _. Bool) [ Some Owed.Rollback ↦ true | _ ↦ false ]

-- an ordinary enlistment of the transaction, which is any but the superior
abbrev pub is_ordinary : Id → Enlistment → Bool
is_ordinary id e = same_id e.transaction id && not (is_superior e)

-- it can still vote: it is neither read-only nor prepared
abbrev pub is_open_for_votes : Enlistment → Bool
is_open_for_votes e = not e.is_read_only && not e.is_prepared

-- it takes part in the outcome
abbrev pub takes_part : Id → Enlistment → Bool
takes_part id e = is_ordinary id e && not e.is_read_only

-- it is to answer that it has finished
abbrev pub is_unfinished : Id → Enlistment → Bool
is_unfinished id e = takes_part id e && not e.is_finished

-- the superior enlistment of a transaction
abbrev pub superior_of : List Enlistment → Id → Option Enlistment
superior_of es id = find (λ e. same_id e.transaction id && is_superior e) es

-- is it the enlistment with this Id
abbrev pub has_id : Id → Enlistment → Bool
has_id id e = same_id e.id id

-- is it the one with this Id, if there is one
abbrev pub is_given : Option Id → Enlistment → Bool
is_given given e = elim given as (λ _. Bool) [ Some id ↦ has_id id e | None ↦ false ]

-- the Id of an enlistment, if there is one
abbrev pub id_of : Option Enlistment → Option Id
id_of None = None
id_of (Some e) = Some e.id

-- the enlistment with this Id
abbrev pub enlistment_at : List Enlistment → Id → Option Enlistment
enlistment_at es id = find (has_id id) es

-- the enlistments that pass a test, changed
abbrev pub with_enlistments : (Enlistment → Bool) → (Enlistment → Enlistment) → List Enlistment → List Enlistment
with_enlistments test f es = map (λ e. if test e then f e else e) es

-- has a transaction of this phase ended
abbrev pub is_ended : Phase → Bool
is_ended phase = elim phase as (λ _. Bool) [ Ended ↦ true | _ ↦ false ]

-- is an enlistment of this transaction live: a superior until the transaction is ended, another one until it is read-only or finished too
abbrev pub is_live_in : Transaction → Enlistment → Bool
is_live_in t e = same_id e.transaction t.id && not (is_ended t.phase) && (is_superior e || (not e.is_read_only && not e.is_finished))

-- is it live in its transaction
abbrev pub is_live_enlistment : List Transaction → Enlistment → Bool
is_live_enlistment ts e = list_any (λ t. is_live_in t e) ts

-- ---- resource managers

-- the resource manager with this Id
abbrev pub manager_at : List Manager → Id → Option Manager
manager_at ms id = find (λ m. same_id m.id id) ms

-- is there such a manager, and is it durable
abbrev pub is_durable_at : List Manager → Id → Bool
is_durable_at ms id = list_any (λ m. same_id m.id id && m.is_durable) ms

-- of the notifications that are sent, those for this manager
abbrev pub notes_for : Id → List Sent → List Note
notes_for id sent = map (λ s. s.note) (filter (λ s. same_id s.manager id) sent)

-- how many notifications a manager takes: one at most
abbrev pub taken_count : Id → Option Id → ℕ
taken_count id took = if is_of id took then 1 else 0

-- a notification of this kind, to the manager of an enlistment
abbrev pub tell : Notify → Enlistment → Sent
tell kind e = record { manager = e.manager; note = record { kind = kind; enlistment = Some e.id } }
