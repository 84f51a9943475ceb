-- Which replies a call may have.
use Rattle.std.proofs.Common.{◌≡◌, ℕ, Bool, true, false, not, cond, List, [], ◌∷◌, Option, Some, None, is_none, option_and_then, length, ◌==◌, refl, sym, ◌∙◌, subst}
use Rattle.ktm_base.specs.declared.id.Id.{Id}
use Rattle.ktm_base.specs.declared.id.Label.{Label}
use Rattle.ktm_base.specs.declared.id.Pid.{Pid}
use Rattle.ktm_base.specs.declared.refusal.Refusal.{Refusal}
use Rattle.ktm_base.specs.declared.refusal.Refusal.TheVariants.{HandleNoLongerValid, InvalidHandle, MachineDown, WaitTimeout}
use Rattle.ktm_world.specs.declared.command.Command.{Command}
use Rattle.ktm_world.specs.declared.command.Command.TheVariants.{CreateTransaction, OpenTransaction, CommitTransaction, RollbackTransaction, GetTransactionInformation, CreateResourceManager, OpenResourceManager, RecoverResourceManager, GetNotificationResourceManager, CreateEnlistment, OpenEnlistment, RecoverEnlistment, PrePrepareComplete, PrepareComplete, ReadOnlyEnlistment, CommitComplete, RollbackComplete, SinglePhaseReject, RollbackEnlistment, PrePrepareEnlistment, PrepareEnlistment, CommitEnlistment, SetEnlistmentRecoveryInformation, GetEnlistmentRecoveryInformation, CreateFile, CreateFileTransacted, ReadFile, WriteFile, SetEndOfFile, WriteUnits, GetFileSizeEx, FlushFileBuffers, DeleteFile, CreateDirectory, RemoveDirectory, MoveFile, DeleteFileTransacted, CreateDirectoryTransacted, RemoveDirectoryTransacted, MoveFileTransacted, FindFiles, FindFilesTransacted, KvSet, KvUnset, KvGet, KvList, CloseHandle, DuplicateHandle, Exit}
use Rattle.ktm_world.specs.declared.input.PhaseInput.{PhaseInput}
use Rattle.ktm_world.specs.declared.object.Object.{Object}
use Rattle.ktm_world.specs.declared.object.Transaction.{Transaction}
use Rattle.ktm_world.specs.declared.options.Access.{Access}
use Rattle.ktm_world.specs.declared.options.Disposition.{Disposition}
use Rattle.ktm_world.specs.declared.options.EnlistmentKind.{EnlistmentKind}
use Rattle.ktm_world.specs.declared.options.ShareMode.{ShareMode}
use Rattle.ktm_world.specs.declared.reply.Reply.{Reply}
use Rattle.ktm_world.specs.declared.reply.Reply.TheVariants.{Done}
use Rattle.ktm_world.specs.Decide.{bound_file, caller, command_effect, command_tests, decide, on_file, opening, refusal_of}
use Rattle.ktm_world.specs.Enlistments.{Enlistment, Manager, Note, is_ended}
use Rattle.ktm_world.specs.FileCalls.{Whereabouts, at_node, create_at, create_directory, create_file, delete_file, drop_at, find_files, find_path, flush_file, free, get_size, make_at, move_at, move_file, read_file, remove_directory, set_end, write_file}
use Rattle.ktm_world.specs.FileOutcome.{FileOutcome}
use Rattle.ktm_world.specs.Files.{FilesNow, OpenFile, tree_seen, without_transaction}
use Rattle.ktm_world.specs.HandleCalls.{bind_to, close_handle, closed_in_turn, duplicate_handle, exit, labels_of}
use Rattle.ktm_world.specs.Handles.{object_at}
use Rattle.ktm_world.specs.KeyCalls.{reply_of_value}
use Rattle.ktm_world.specs.Keys.{value_seen, without_own}
use Rattle.ktm_world.specs.Labels.{enlistment_named, file_named, file_number, holds_of, invalid_handle, is_dead, is_dead_file, manager_named, open_file_at, transaction_named, viewer}
use Rattle.ktm_world.specs.Outcome.{Outcome, first_refusal, only_reply, refuse_or}
use Rattle.ktm_world.specs.Phases.{Course}
use Rattle.ktm_world.specs.Present.{Present}
use Rattle.ktm_world.specs.Steps.{led, share_of}
use Rattle.ktm_world.specs.Transactions.{is_undecided, transaction_at}
use Rattle.ktm_world.specs.TransactionCalls.{aborted_by, aborted_if_due, aborted_in_turn, answering, arrived, commit_complete, commit_enlistment, commit_transaction, course_of, create_enlistment, create_enlistment_tests, create_resource_manager, create_transaction, enlist, enlistment_with, get_information, get_notification, get_transaction_information, goes_on, has_empty_queue, information_in, information_of, is_due, keep_information, manager_with, note_reply, open_enlistment, open_resource_manager, open_to_enlistment, open_to_manager, open_to_transaction, open_transaction, pre_prepare_complete, pre_prepare_enlistment, prepare_complete, prepare_enlistment, read_only_enlistment, recover_all, recover_enlistment, recover_resource_manager, recovery_of, released, rollback_complete, rollback_enlistment, rollback_transaction, set_information, single_phase_reject, take_first, tick, transaction_in, transaction_with, with_clock}
use Rattle.ktm_forms.specs.Tells.{IsTold, RepliesLaw, Telling, TickLaw, a_guid, a_notification, a_size, a_transaction, bytes, nothing, progress, tells}

-- ---- what is decided, by its tests and its effect

-- a reply that says that it is done
told_done : (reply : Reply) → reply ≡ Done → IsTold reply nothing
told_done reply is = subst (λ r. IsTold r nothing) (sym is) tt

-- where a first test holds, the tests come to a refusal
passed : (b : Bool) (refusal : Refusal) (tested : Option Refusal) → cond b (Some refusal) tested ≡ None → tested ≡ None
passed true refusal tested is = cc
passed false refusal tested is = is

module _ (telling : Telling) where
  refused_or_told : (x : Present) (tested : Option Refusal) (effect : Outcome) → (tested ≡ None → IsTold effect.reply telling) → IsTold (refuse_or x tested effect).reply telling
  refused_or_told x None effect told = told refl
  refused_or_told x (Some refusal) effect told = tt

  -- what is decided tells what its effect does, where no test of the call holds
  decided_told : (x : Present) (process : Pid) (command : Command) → (first_refusal (command_tests x process command) ≡ None → IsTold (command_effect x process command).reply telling)
      → IsTold (decide x process command).reply telling
  decided_told x process command told =
      refused_or_told x (refusal_of x process command) (command_effect x process command)
      (λ none. told (passed (not x.machine.is_up) MachineDown (first_refusal (command_tests x process command)) none))

-- ---- transactions

released_says : (c : Course) (o : Outcome) → (released c o).reply ≡ o.reply
released_says c o = elim (is_undecided c.transaction) as (λ b. (cond b o (record o { forgotten = c.transaction.id ∷ []; table = without_transaction o.table c.transaction.id; own = without_own o.own c.transaction.id })).reply ≡ o.reply) [ true ↦ refl | false ↦ refl ]

opened_told : (x : Present) (process : Pid) (label : Label) (t : Option Transaction) → IsTold (open_to_transaction x process label t).reply nothing
opened_told x process label None = tt
opened_told x process label (Some t) = tt

commit_reply_told : (ended : Bool) → IsTold (cond ended Reply.Committed Reply.Pending) progress
commit_reply_told true = tt
commit_reply_told false = tt

commit_told : (x : Present) (t : Option Transaction) (more : Option Refusal) → cond (is_none t) (Some InvalidHandle) more ≡ None → IsTold (commit_transaction x t).reply progress
unfolding commit_transaction
commit_told x None more tested = cc
commit_told x (Some t) more tested =
    let c = led PhaseInput.CommitTransaction (course_of x t None) in
    subst (λ r. IsTold r progress) (sym (released_says c _)) (commit_reply_told (is_ended c.transaction.phase))

arrived_told : (x : Present) (c : Course) → IsTold (arrived x c Done).reply nothing
arrived_told x c = told_done _ (released_says c _)

rolled_back_told : (x : Present) (t : Option Transaction) → IsTold (rollback_transaction x t).reply nothing
unfolding rollback_transaction
rolled_back_told x None = tt
rolled_back_told x (Some t) = arrived_told x (led PhaseInput.Rollback (course_of x t None))

information_told : (x : Present) (t : Option Transaction) (more : Option Refusal) → cond (is_none t) (Some InvalidHandle) more ≡ None → IsTold (information_of x t) a_transaction
information_told x None more tested = cc
information_told x (Some t) more tested = tt

-- ---- resource managers and enlistments

manager_told : (x : Present) (process : Pid) (label : Label) (m : Option Manager) → IsTold (open_to_manager x process label m).reply nothing
manager_told x process label None = tt
manager_told x process label (Some m) = tt

recovered_told : (x : Present) (m : Option Manager) → IsTold (recover_all x m).reply nothing
recovered_told x None = tt
recovered_told x (Some m) = tt

taken_told : (x : Present) (m : Option Manager) → first_refusal (invalid_handle m ∷ (holds_of has_empty_queue m, WaitTimeout) ∷ []) ≡ None → IsTold (take_first x m).reply a_notification
taken_told x None tested = cc
taken_told x (Some m) tested = go m.queue tested
  where
    go : (queue : List Note) → first_refusal ((false, InvalidHandle) ∷ (length queue == 0, WaitTimeout) ∷ []) ≡ None → IsTold (note_reply x queue) a_notification
    go [] tested = cc
    go (note ∷ notes) tested = tt

enlisted_told : (x : Present) (process : Pid) (label : Label) (m : Option Manager) (t : Option Transaction) (kind : EnlistmentKind) (more : Option Refusal)
    → cond (is_none m) (Some InvalidHandle) (cond (is_none t) (Some InvalidHandle) more) ≡ None → IsTold (enlist x process label m t kind).reply a_guid
enlisted_told x process label None t kind more tested = cc
enlisted_told x process label (Some m) None kind more tested = cc
enlisted_told x process label (Some m) (Some t) kind more tested = tt

enlistment_told : (x : Present) (process : Pid) (label : Label) (e : Option Enlistment) → IsTold (open_to_enlistment x process label e).reply nothing
enlistment_told x process label None = tt
enlistment_told x process label (Some e) = tt

answered_told : (x : Present) (e : Option Enlistment) (input : Enlistment → PhaseInput) → IsTold (answering x e input).reply nothing
answered_told x None input = tt
answered_told x (Some e) input = go (transaction_in x e)
  where
    go : (t : Option Transaction) → IsTold (goes_on x e t (input e)).reply nothing
    go None = tt
    go (Some t) = arrived_told x (led (input e) (course_of x t (Some e)))

informed_told : (x : Present) (e : Option Enlistment) (information : List ℕ) → IsTold (keep_information x e information).reply nothing
informed_told x None information = tt
informed_told x (Some e) information = tt

kept_information_told : (e : Option Enlistment) (more : Option Refusal) → cond (is_none e) (Some InvalidHandle) more ≡ None → IsTold (information_in e) bytes
kept_information_told None more tested = cc
kept_information_told (Some e) more tested = tt

-- ---- files

bound_says : (process : Pid) (label : Label) (opened : Option OpenFile) (o : Outcome) → (bound_file process label opened o).reply ≡ o.reply
bound_says process label None o = refl
bound_says process label (Some file) o = refl

made_file_told : (files : FilesNow) (who : Option Id) (there : Whereabouts) (access : Access) (share : ShareMode) (disposition : Disposition) → (create_at files who there access share disposition).reply ≡ Done
made_file_told files who (free directory name) access share disposition = refl
made_file_told files who (at_node node) access share disposition = refl
made_file_told files who _ access share disposition = refl

opening_told : (x : Present) (process : Pid) (label : Label) (who : Option Id) (path : List ℕ) (access : Access) (share : ShareMode) (disposition : Disposition)
    → IsTold (opening x process label who (create_file x.files who path access share disposition)).reply nothing
unfolding create_file
opening_told x process label who path access share disposition =
    told_done _ (bound_says process label _ _ ∙ made_file_told x.files who (find_path (tree_seen x.files who) path) access share disposition)

module _ (x : Present) (call : OpenFile → FileOutcome) (telling : Telling) (told : (o : OpenFile) → IsTold (call o).reply telling) where
  -- a call on an open file that is there
  of_open_told : (number : ℕ) (o : Option OpenFile) (more : Option Refusal) → cond (is_dead_file x.files.tree o) (Some HandleNoLongerValid) more ≡ None → IsTold (on_file x o call).reply telling
  of_open_told number None more tested = cc
  of_open_told number (Some o) more tested = told o

  of_number_told : (number : Option ℕ) (more : Option Refusal) → cond (is_none number) (Some InvalidHandle) (cond (holds_of (is_dead x.files) number) (Some HandleNoLongerValid) more) ≡ None
      → IsTold (on_file x (option_and_then (open_file_at x.files.table.opens) number) call).reply telling
  of_number_told None more tested = cc
  of_number_told (Some number) more tested = of_open_told number (open_file_at x.files.table.opens number) more tested

  -- a call on an open file that a label names
  on_file_told : (process : Pid) (label : Label) (more : Option Refusal)
      → cond (is_none (file_number (object_at x.handles process label))) (Some InvalidHandle) (cond (holds_of (is_dead x.files) (file_number (object_at x.handles process label))) (Some HandleNoLongerValid) more) ≡ None
      → IsTold (on_file x (file_named x process label) call).reply telling
  on_file_told process label more tested = of_number_told (file_number (object_at x.handles process label)) more tested

-- a call on an open file that tells nothing
on_file_done : (x : Present) (o : Option OpenFile) (call : OpenFile → FileOutcome) → ((p : OpenFile) → IsTold (call p).reply nothing) → IsTold (on_file x o call).reply nothing
on_file_done x None call told = tt
on_file_done x (Some o) call told = told o

written_told : (o : OpenFile) (offset : ℕ) (contents : List ℕ) → IsTold (write_file o offset contents).reply nothing
unfolding write_file
written_told o offset [] = tt
written_told o offset (b ∷ bs) = tt

read_told : (files : FilesNow) (o : OpenFile) (offset many : ℕ) → IsTold (read_file files o offset many).reply bytes
unfolding read_file
read_told files o offset many = tt

size_told : (files : FilesNow) (o : OpenFile) → IsTold (get_size files o).reply a_size
unfolding get_size
size_told files o = tt

resized_told : (o : OpenFile) (size : ℕ) → IsTold (set_end o size).reply nothing
unfolding set_end
resized_told o size = tt

dropped_told : (there : Whereabouts) → IsTold (drop_at there).reply nothing
dropped_told (at_node node) = tt
dropped_told _ = tt

deleted_told : (files : FilesNow) (who : Option Id) (path : List ℕ) → IsTold (delete_file files who path).reply nothing
unfolding delete_file
deleted_told files who path = dropped_told (find_path (tree_seen files who) path)

removed_told : (files : FilesNow) (who : Option Id) (path : List ℕ) → IsTold (remove_directory files who path).reply nothing
unfolding remove_directory
removed_told files who path = dropped_told (find_path (tree_seen files who) path)

made_told : (files : FilesNow) (who : Option Id) (path : List ℕ) → IsTold (create_directory files who path).reply nothing
unfolding create_directory
made_told files who path = go (find_path (tree_seen files who) path)
  where
    go : (there : Whereabouts) → IsTold (make_at files there).reply nothing
    go (free directory name) = tt
    go _ = tt

moved_told : (files : FilesNow) (who : Option Id) (source target : List ℕ) → IsTold (move_file files who source target).reply nothing
unfolding move_file
moved_told files who source target = go (find_path (tree_seen files who) source) (find_path (tree_seen files who) target)
  where
    go : (from to : Whereabouts) → IsTold (move_at from to).reply nothing
    go (at_node node) (free directory name) = tt
    go _ _ = tt

-- ---- keys and handles

value_told : (value : Option (List ℕ)) → IsTold (reply_of_value value) bytes
value_told None = tt
value_told (Some value) = tt

closed_told : (x : Present) (process : Pid) (label : Label) → IsTold (close_handle x process label).reply nothing
unfolding close_handle
closed_told x process label = tt

ended_told : (x : Present) (process : Pid) (labels : List Label) → IsTold (closed_in_turn x process labels).reply nothing
ended_told x process [] = tt
ended_told x process (label ∷ labels) = closed_told x process label

exit_told : (x : Present) (process : Pid) → IsTold (exit x process).reply nothing
unfolding exit
exit_told x process = ended_told x process (labels_of x.handles process)

duplicated_told : (x : Present) (process : Pid) (label : Label) (object : Option Object) → IsTold (bind_to x process label object).reply nothing
duplicated_told x process label None = tt
duplicated_told x process label (Some object) = tt

-- ---- every call

effect_told : (x : Present) (process : Pid) (command : Command) → first_refusal (command_tests x process command) ≡ None → IsTold (command_effect x process command).reply (tells command)
unfolding create_transaction open_transaction get_transaction_information duplicate_handle find_files create_resource_manager open_resource_manager recover_resource_manager get_notification create_enlistment create_enlistment_tests open_enlistment recover_enlistment pre_prepare_complete prepare_complete read_only_enlistment commit_complete rollback_complete single_phase_reject rollback_enlistment pre_prepare_enlistment prepare_enlistment commit_enlistment set_information get_information
effect_told x process (CreateTransaction label timeout) tested = tt
effect_told x process (OpenTransaction label guid) tested = opened_told x process label (transaction_with x guid)
effect_told x process (CommitTransaction label) tested = commit_told x (transaction_named x process label) _ tested
effect_told x process (RollbackTransaction label) tested = rolled_back_told x (transaction_named x process label)
effect_told x process (GetTransactionInformation label) tested = information_told x (transaction_named x process label) _ tested
effect_told x process (CreateResourceManager label durability) tested = tt
effect_told x process (OpenResourceManager label guid) tested = manager_told x process label (manager_with x guid)
effect_told x process (RecoverResourceManager label) tested = recovered_told x (manager_named x process label)
effect_told x process (GetNotificationResourceManager label) tested = taken_told x (manager_named x process label) tested
effect_told x process (CreateEnlistment label manager transaction kind) tested =
    enlisted_told x process label (manager_named x process manager) (transaction_named x process transaction) kind _ tested
effect_told x process (OpenEnlistment label manager guid) tested = enlistment_told x process label (enlistment_with x (manager_named x process manager) guid)
effect_told x process (RecoverEnlistment label) tested = answered_told x (enlistment_named x process label) recovery_of
effect_told x process (PrePrepareComplete label) tested = answered_told x (enlistment_named x process label) (λ e. PhaseInput.PrePrepareComplete)
effect_told x process (PrepareComplete label) tested = answered_told x (enlistment_named x process label) (λ e. PhaseInput.PrepareComplete)
effect_told x process (ReadOnlyEnlistment label) tested = answered_told x (enlistment_named x process label) (λ e. PhaseInput.ReadOnly (share_of e))
effect_told x process (CommitComplete label) tested = answered_told x (enlistment_named x process label) (λ e. PhaseInput.CommitComplete)
effect_told x process (RollbackComplete label) tested = answered_told x (enlistment_named x process label) (λ e. PhaseInput.RollbackComplete)
effect_told x process (SinglePhaseReject label) tested = answered_told x (enlistment_named x process label) (λ e. PhaseInput.SinglePhaseReject)
effect_told x process (RollbackEnlistment label) tested = answered_told x (enlistment_named x process label) (λ e. PhaseInput.Rollback)
effect_told x process (PrePrepareEnlistment label) tested = answered_told x (enlistment_named x process label) (λ e. PhaseInput.PrePrepare)
effect_told x process (PrepareEnlistment label) tested = answered_told x (enlistment_named x process label) (λ e. PhaseInput.Prepare)
effect_told x process (CommitEnlistment label) tested = answered_told x (enlistment_named x process label) (λ e. PhaseInput.Commit)
effect_told x process (SetEnlistmentRecoveryInformation label information) tested = informed_told x (enlistment_named x process label) information
effect_told x process (GetEnlistmentRecoveryInformation label) tested = kept_information_told (enlistment_named x process label) _ tested
effect_told x process (CreateFile label path access share disposition) tested = opening_told x process label None path access share disposition
effect_told x process (CreateFileTransacted label path access share disposition transaction) tested = opening_told x process label (caller x process transaction) path access share disposition
effect_told x process (ReadFile file offset many) tested = on_file_told x (λ o. read_file x.files o offset many) bytes (λ o. read_told x.files o offset many) process file _ tested
effect_told x process (WriteFile file offset contents) tested = on_file_done x (file_named x process file) (λ o. write_file o offset contents) (λ o. written_told o offset contents)
effect_told x process (SetEndOfFile file size) tested = on_file_done x (file_named x process file) (λ o. set_end o size) (λ o. resized_told o size)
effect_told x process (WriteUnits file start contents) tested = on_file_done x (file_named x process file) (λ o. write_file o start contents) (λ o. written_told o start contents)
effect_told x process (GetFileSizeEx file) tested = on_file_told x (λ o. get_size x.files o) a_size (λ o. size_told x.files o) process file _ tested
effect_told x process (FlushFileBuffers file) tested = on_file_done x (file_named x process file) (λ o. flush_file) (λ o. tt)
effect_told x process (DeleteFile path) tested = deleted_told x.files None path
effect_told x process (CreateDirectory path) tested = made_told x.files None path
effect_told x process (RemoveDirectory path) tested = removed_told x.files None path
effect_told x process (MoveFile source target) tested = moved_told x.files None source target
effect_told x process (DeleteFileTransacted path transaction) tested = deleted_told x.files (caller x process transaction) path
effect_told x process (CreateDirectoryTransacted path transaction) tested = made_told x.files (caller x process transaction) path
effect_told x process (RemoveDirectoryTransacted path transaction) tested = removed_told x.files (caller x process transaction) path
effect_told x process (MoveFileTransacted source target transaction) tested = moved_told x.files (caller x process transaction) source target
effect_told x process (FindFiles searched) tested = tt
effect_told x process (FindFilesTransacted searched transaction) tested = tt
effect_told x process (KvSet label key value) tested = tt
effect_told x process (KvUnset label key) tested = tt
effect_told x process (KvGet view key) tested = value_told (value_seen x.keys (viewer x process view) key)
effect_told x process (KvList view) tested = tt
effect_told x process (CloseHandle label) tested = closed_told x process label
effect_told x process (DuplicateHandle label from source) tested = duplicated_told x process label (object_at x.handles from source)
effect_told x process Exit tested = exit_told x process

pub replies_law : RepliesLaw
replies_law x process command = decided_told (tells command) x process command (effect_told x process command)

-- ---- the passing of time

due_told : (x : Present) (t : Option Transaction) → IsTold (aborted_if_due x t).reply nothing
due_told x None = tt
due_told x (Some t) = go (is_due x.transactions.clock t)
  where
    go : (due : Bool) → IsTold (cond due (aborted_by x t None Done) (only_reply x Done)).reply nothing
    go true = arrived_told x (led PhaseInput.Rollback (course_of x t None))
    go false = tt

in_turn_told : (x : Present) (ts : List Transaction) → IsTold (aborted_in_turn x ts).reply nothing
in_turn_told x [] = tt
in_turn_told x (t ∷ ts) = due_told x (transaction_at x.transactions.items t.id)

passes_told : (x : Present) (ms : ℕ) → IsTold (tick x ms).reply nothing
unfolding tick
passes_told x ms = in_turn_told (with_clock x ms) x.transactions.items

pub tick_law : TickLaw
tick_law x ms = refused_or_told nothing x (first_refusal ((not x.machine.is_up, MachineDown) ∷ [])) (tick x ms) (λ none. passes_told x ms)
