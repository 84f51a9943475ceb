-- What is so of the transactions, the enlistments, the resource managers and the handles of a machine at every time.
use Rattle.std.specs.Prelude.{◌≡◌, ℕ, ◌-◌, ◌<◌, ◌≤◌, ◌^◌, ◌==◌, ◌&&◌, ◌||◌, not, Bool, true, false, List, length, count_by, nat_lt, nat_le, Some, None, is_some, is_none, if◌then◌else◌}
use Rattle.std.specs.List.{list_any, list_all}
use Rattle.ktm_base.specs.declared.limits.TheConstants.{MOST_NUMBER, MOST_INFORMATION_BYTES}
use Rattle.ktm_base.specs.declared.id.Id.{Id}
use Rattle.ktm_base.specs.declared.notify.Notify.{Notify}
use Rattle.ktm_world.specs.declared.object.Handle.{Handle}
use Rattle.ktm_world.specs.declared.object.Object.{Object}
use Rattle.ktm_world.specs.declared.object.Object.TheVariants.{Transaction as TransactionObject, Manager as ManagerObject, Enlistment as EnlistmentObject, File as FileObject}
use Rattle.ktm_world.specs.declared.object.Phase.{Phase}
use Rattle.ktm_world.specs.declared.object.Phase.TheVariants.{Requested, PrePreparing, PrePrepared, Preparing, SinglePhase, Held, InDoubt, Committing, Aborting, Ended}
use Rattle.ktm_world.specs.declared.object.Transaction.{Transaction}
use Rattle.ktm_world.specs.Durable.{is_before}
use Rattle.ktm_world.specs.Enlistments.{Enlistment, Note, Manager, is_superior, asks_pre_prepare, allows_one_phase, owes_pre_prepare, owes_prepare, owes_commit, owes_rollback, takes_part, is_unfinished, superior_of, is_durable_at}
use Rattle.ktm_world.specs.Files.{OwnChanges, own_changes}
use Rattle.ktm_world.specs.HandleCalls.{is_handle}
use Rattle.ktm_world.specs.Keys.{Own, own_settings}
use Rattle.ktm_world.specs.Phases.{has_settings, is_single_phase}
use Rattle.ktm_world.specs.Present.{Present}
use Rattle.ktm_world.specs.TransactionCalls.{is_in_doubt}
use Rattle.ktm_world.specs.Transactions.{same_id, is_committed, is_aborted, is_undecided}
use Rattle.ktm_world.specs.Changes.{has_changes}
use Rattle.txf_laws.specs.Elements.{each_pair}

-- ---- Ids

-- was the Id drawn in this boot or an earlier one, and counted from 1, in this boot no further than the last number of its kind
abbrev pub is_counted : ℕ → ℕ → Id → Bool
is_counted boot last id = nat_le 1 id.boot && nat_le id.boot boot && nat_le 1 id.number && nat_le id.number MOST_NUMBER && (nat_lt id.boot boot || nat_le id.number last)

-- was an enlistment made in this boot, where its transaction was
abbrev pub is_made_with_it : ℕ → Enlistment → Bool
is_made_with_it boot e = nat_lt (e.transaction).boot boot || ((e.id).boot == boot)

-- have two handles not the same label of the same process
abbrev pub have_labels_apart : Handle → Handle → Bool
have_labels_apart a b = not (is_handle a.process a.label b)

-- ---- what names what

-- is the transaction there
abbrev pub has_transaction : List Transaction → Id → Bool
has_transaction ts id = list_any (λ t. same_id t.id id) ts

-- is the resource manager there
abbrev pub has_manager : List Manager → Id → Bool
has_manager ms id = list_any (λ m. same_id m.id id) ms

-- is the enlistment there, and is it one of this resource manager
abbrev pub has_enlistment_of : List Enlistment → Id → Id → Bool
has_enlistment_of es manager id = list_any (λ e. same_id e.id id && same_id e.manager manager) es

-- is the enlistment there
abbrev pub has_enlistment : List Enlistment → Id → Bool
has_enlistment es id = list_any (λ e. same_id e.id id) es

-- is the transaction, the resource manager or the enlistment there that the handle names
abbrev pub is_object_there : List Transaction → List Manager → List Enlistment → Object → Bool
is_object_there ts ms es (TransactionObject id) = has_transaction ts id
is_object_there ts ms es (ManagerObject id) = has_manager ms id
is_object_there ts ms es (EnlistmentObject id) = has_enlistment es id
is_object_there ts ms es (FileObject number) = true

-- is it there now
abbrev pub is_there : Present → Object → Bool
is_there x object = is_object_there x.transactions.items x.managers x.transactions.enlistments object

-- is it the notification that ends a recovery
abbrev pub is_last_recover : Notify → Bool
is_last_recover kind = elim kind as (λ _. Bool) [ Notify.LastRecover ↦ true | _ ↦ false ]

-- has a notification for this resource manager one of its enlistments, but the one that ends a recovery none
abbrev pub is_note_of : List Enlistment → Id → Note → Bool
is_note_of es manager note = elim note.enlistment as (λ _. Bool) [ Some id ↦ not (is_last_recover note.kind) && has_enlistment_of es manager id | None ↦ is_last_recover note.kind ]

-- are they not both superiors of one transaction
abbrev pub are_not_both_superiors : Enlistment → Enlistment → Bool
are_not_both_superiors a b = not (is_superior a && is_superior b && same_id a.transaction b.transaction)

-- has a superior a durable resource manager
abbrev pub is_superior_durable : List Manager → Enlistment → Bool
is_superior_durable ms e = not (is_superior e) || is_durable_at ms e.manager

-- is an enlistment that is not recovered one that a restart brought back: of an earlier boot and of a durable resource manager, a superior or prepared
abbrev pub is_unrecovered_well : ℕ → List Manager → Enlistment → Bool
is_unrecovered_well boot ms e =
    e.is_recovered || (nat_lt (e.id).boot boot && is_durable_at ms e.manager && not e.is_read_only && not e.is_finished && is_none e.owes && (is_superior e || e.is_prepared))

-- ---- a transaction by itself

-- is the outcome known exactly in the phases in which it is decided
abbrev pub is_outcome_of : Phase → Transaction → Bool
is_outcome_of Committing t = is_committed t
is_outcome_of Aborting t = is_aborted t
is_outcome_of Ended t = is_committed t || is_aborted t
is_outcome_of _ t = is_undecided t

-- the phases in which a transaction of an earlier boot can be
abbrev pub is_phase_back : Phase → Bool
is_phase_back InDoubt = true
is_phase_back Committing = true
is_phase_back Aborting = true
is_phase_back Ended = true
is_phase_back _ = false

-- was a transaction of an earlier boot brought back, with no timeout and recorded, and is one of this boot not in doubt
abbrev pub is_of_its_boot : ℕ → Transaction → Bool
is_of_its_boot boot t =
    if nat_lt (t.id).boot boot then is_phase_back t.phase && (t.timeout == 0) && (t.created == 0) && t.is_recorded else not (is_in_doubt t)

-- ---- a transaction with its enlistments

-- has it a superior in this phase, where one is waited for, and none where one enlistment decides
abbrev pub is_superior_as : Phase → Bool → Bool
is_superior_as Requested has = has
is_superior_as PrePrepared has = has
is_superior_as Held has = has
is_superior_as InDoubt has = has
is_superior_as SinglePhase has = not has
is_superior_as _ has = true

-- has it a superior as its phase asks
abbrev pub has_superior_as_asked : List Enlistment → Transaction → Bool
has_superior_as_asked es t = is_superior_as t.phase (is_some (superior_of es t.id))

-- it has given no answer and owes none
abbrev pub is_idle : Enlistment → Bool
is_idle e = is_none e.owes && not e.is_prepared && not e.is_finished

-- it is prepared, and owes nothing yet
abbrev pub is_waiting : Enlistment → Bool
is_waiting e = is_none e.owes && e.is_prepared && not e.is_finished

-- it owes this answer exactly where it is recovered and not finished, and owes no other
abbrev pub owes_until_finished : (Enlistment → Bool) → Enlistment → Bool
owes_until_finished owes e = if e.is_recovered && not e.is_finished then owes e else is_none e.owes

-- an enlistment that takes part, as the phase of its transaction asks: it owes the answer that is waited for, and has given those before
abbrev pub is_part_as : Phase → Enlistment → Bool
is_part_as PrePreparing e = not e.is_prepared && not e.is_finished && (is_none e.owes || (owes_pre_prepare e && asks_pre_prepare e))
is_part_as Preparing e = if e.is_prepared then is_waiting e else owes_prepare e && not e.is_finished
is_part_as SinglePhase e = owes_commit e && not e.is_prepared && not e.is_finished && allows_one_phase e
is_part_as Held e = is_waiting e
is_part_as InDoubt e = is_waiting e
is_part_as Committing e = e.is_prepared && owes_until_finished owes_commit e
is_part_as Aborting e = owes_until_finished owes_rollback e
is_part_as Ended e = is_none e.owes && e.is_finished
is_part_as _ e = is_idle e

-- a superior gives no such answers and is never read-only, one that is read-only owes nothing and is neither prepared nor finished, and any other is as the phase asks
abbrev pub is_enlistment_as : Phase → Enlistment → Bool
is_enlistment_as phase e = if is_superior e then is_idle e && not e.is_read_only else (if e.is_read_only then is_idle e else is_part_as phase e)

-- do the enlistments of the transaction pass the test
abbrev pub do_its_enlistments : List Enlistment → Id → (Enlistment → Bool) → Bool
do_its_enlistments es id test = list_all (λ e. not (same_id e.transaction id) || test e) es

-- is each of its enlistments as its phase asks
abbrev pub are_enlistments_as_asked : List Enlistment → Transaction → Bool
are_enlistments_as_asked es t = do_its_enlistments es t.id (is_enlistment_as t.phase)

-- is there an enlistment that takes part and passes the test
abbrev pub has_part : List Enlistment → Id → (Enlistment → Bool) → Bool
has_part es id test = list_any (λ e. takes_part id e && test e) es

-- is somebody waited for in this phase: an answer, or an end
abbrev pub is_awaited_as : Phase → List Enlistment → Id → Bool
is_awaited_as PrePreparing es id = has_part es id (λ e. is_some e.owes)
is_awaited_as Preparing es id = has_part es id (λ e. is_some e.owes)
is_awaited_as SinglePhase es id = count_by (takes_part id) es == 1
is_awaited_as Committing es id = list_any (is_unfinished id) es
is_awaited_as Aborting es id = list_any (is_unfinished id) es
is_awaited_as _ es id = true

-- is somebody waited for while its phase is one of waiting for enlistments, and one alone where it decides
abbrev pub is_awaited : List Enlistment → Transaction → Bool
is_awaited es t = is_awaited_as t.phase es t.id

-- is there an enlistment that takes part, has a durable resource manager and passes the test
abbrev pub has_durable_part : List Manager → List Enlistment → Id → (Enlistment → Bool) → Bool
has_durable_part ms es id test = has_part es id (λ e. test e && is_durable_at ms e.manager)

-- does the log have it in this phase where it has to: once an enlistment with a durable resource manager is prepared, or it waits for its superior
abbrev pub is_recorded_as : Phase → List Manager → List Enlistment → Id → Bool → Bool
is_recorded_as Preparing ms es id recorded = if has_durable_part ms es id (λ e. e.is_prepared) then recorded else not recorded
is_recorded_as Held ms es id recorded = recorded
is_recorded_as InDoubt ms es id recorded = recorded
is_recorded_as Committing ms es id recorded = recorded || not (has_durable_part ms es id (λ e. not e.is_finished))
is_recorded_as Aborting ms es id recorded = true
is_recorded_as Ended ms es id recorded = true
is_recorded_as _ ms es id recorded = not recorded

-- does the log have it where its phase asks that, and not before
abbrev pub is_recorded_as_asked : List Manager → List Enlistment → Transaction → Bool
is_recorded_as_asked ms es t = is_recorded_as t.phase ms es t.id t.is_recorded

-- has a transaction that one enlistment commits in one phase changed and set nothing of its own
abbrev pub is_alone_in_one_phase : List OwnChanges → List Own → Transaction → Bool
is_alone_in_one_phase changes settings t = not (is_single_phase t.phase) || (not (has_changes (own_changes changes t.id)) && not (has_settings (own_settings settings t.id)))

-- ---- all of it, by what it speaks of

-- the counts and the clock have not come past their ends
pub record AreSoundNumbers (boots image clock : ℕ) : Type 0 where
  -- there was a boot
  pub booted : 1 ≤ boots
  -- the count of boots fits a GUID
  pub boots_fit : boots < 2 ^ 32
  -- the number of the image fits a GUID
  pub image_fits : image < 2 ^ 16
  -- the clock has not come past its end
  pub clock_fits : clock ≤ 2 ^ 64 - 1

-- each transaction by itself
pub record AreSoundTransactions (boot last clock : ℕ) (ts : List Transaction) : Type 0 where
  -- they stand by rising Id
  pub rise : each_pair (λ (t u : Transaction). is_before t.id u.id) ts ≡ true
  -- the Id of each was drawn in a boot that there was, in this one up to the last number
  pub counted : list_all (λ t. is_counted boot last t.id) ts ≡ true
  -- one of an earlier boot was brought back, and one of this boot is not in doubt
  pub boots : list_all (is_of_its_boot boot) ts ≡ true
  -- the outcome is known exactly in the phases in which it is decided
  pub outcomes : list_all (λ t. is_outcome_of t.phase t) ts ≡ true
  -- none began after now
  pub begun : list_all (λ t. nat_le t.created clock) ts ≡ true

-- enlistments, with the transactions and resource managers that they name
pub record AreSoundEnlistments (boot last : ℕ) (ts : List Transaction) (ms : List Manager) (es : List Enlistment) : Type 0 where
  -- they stand by rising Id
  pub rise : each_pair (λ (e f : Enlistment). is_before e.id f.id) es ≡ true
  -- the Id of each was drawn in a boot that there was, in this one up to the last number
  pub counted : list_all (λ e. is_counted boot last e.id) es ≡ true
  -- one was made in this boot, where its transaction was
  pub made : list_all (is_made_with_it boot) es ≡ true
  -- the transaction of each is there
  pub transactions_there : list_all (λ e. has_transaction ts e.transaction) es ≡ true
  -- the resource manager of each is there
  pub managers_there : list_all (λ e. has_manager ms e.manager) es ≡ true
  -- a superior's resource manager is durable
  pub superiors_durable : list_all (is_superior_durable ms) es ≡ true
  -- no transaction has two superiors
  pub superiors_differ : each_pair are_not_both_superiors es ≡ true
  -- one that is not recovered was brought back by the restart
  pub unrecovered : list_all (is_unrecovered_well boot ms) es ≡ true
  -- no recovery information is too long
  pub information_fits : list_all (λ e. nat_le (length e.information) MOST_INFORMATION_BYTES) es ≡ true

-- resource managers, with what waits for them
pub record AreSoundManagers (boot last : ℕ) (es : List Enlistment) (ms : List Manager) : Type 0 where
  -- they stand by rising Id
  pub rise : each_pair (λ (m n : Manager). is_before m.id n.id) ms ≡ true
  -- the Id of each was drawn in a boot that there was, in this one up to the last number
  pub counted : list_all (λ m. is_counted boot last m.id) ms ≡ true
  -- a notification that waits has an enlistment of its resource manager, but for the last one of a recovery
  pub notes_there : list_all (λ m. list_all (is_note_of es m.id) m.queue) ms ≡ true

-- handles, with what they name
pub record AreSoundHandles (ts : List Transaction) (ms : List Manager) (es : List Enlistment) (hs : List Handle) : Type 0 where
  -- no label of a process is bound twice
  pub labels_differ : each_pair have_labels_apart hs ≡ true
  -- what a handle names is there
  pub objects_there : list_all (λ h. is_object_there ts ms es h.object) hs ≡ true

-- each transaction, with its enlistments, as its phase asks
pub record AreAsAsked (ms : List Manager) (es : List Enlistment) (ts : List Transaction) : Type 0 where
  -- it has a superior where it waits for one, and none where one enlistment decides
  pub superiors : list_all (has_superior_as_asked es) ts ≡ true
  -- each enlistment owes, and has answered, what the phase asks
  pub enlistments : list_all (are_enlistments_as_asked es) ts ≡ true
  -- where it waits for enlistments there is one that it waits for, and one alone where that one decides
  pub awaited : list_all (is_awaited es) ts ≡ true
  -- the log has it where its phase asks that, and not before
  pub recorded : list_all (is_recorded_as_asked ms es) ts ≡ true

-- what names what is there and stands once, and each transaction, with its enlistments, is as its phase asks
pub record IsSoundCourse (x : Present) : Type 0 where
  pub numbers : AreSoundNumbers x.recorded.boots x.recorded.image x.transactions.clock
  pub transactions : AreSoundTransactions x.recorded.boots x.transactions.last_transaction x.transactions.clock x.transactions.items
  pub enlistments : AreSoundEnlistments x.recorded.boots x.transactions.last_enlistment x.transactions.items x.managers x.transactions.enlistments
  pub managers : AreSoundManagers x.recorded.boots x.transactions.last_manager x.transactions.enlistments x.managers
  pub handles : AreSoundHandles x.transactions.items x.managers x.transactions.enlistments x.handles
  pub phases : AreAsAsked x.managers x.transactions.enlistments x.transactions.items
  -- where one enlistment decides there is nothing else to commit
  pub alone : list_all (is_alone_in_one_phase x.files.table.own x.keys.own) x.transactions.items ≡ true
