-- What holds of every outcome of a command.
use Rattle.std.proofs.Common.{◌≡◌, ℕ, Bool, true, false, not, ◌&&◌, cond, List, [], ◌∷◌, Option, Some, None, refl, sym, ◌∙◌, ap, inl, inr}
use Rattle.std.proofs.lemmas.Bool.{cases_Bool, and_from, and_parts}
use Rattle.ktm_base.specs.declared.id.Id.{Id}
use Rattle.ktm_base.specs.declared.id.Label.{Label}
use Rattle.ktm_base.specs.declared.id.Pid.{Pid}
use Rattle.ktm_base.specs.declared.refusal.Refusal.{Refusal}
use Rattle.ktm_base.specs.declared.refusal.Refusal.TheVariants.{MachineDown}
use Rattle.ktm_world.specs.declared.command.Command.{Command}
use Rattle.ktm_world.specs.declared.command.Command.TheVariants.{CreateTransaction, OpenTransaction, CommitTransaction, RollbackTransaction, GetTransactionInformation, CreateResourceManager, OpenResourceManager, RecoverResourceManager, GetNotificationResourceManager, CreateEnlistment, OpenEnlistment, RecoverEnlistment, PrePrepareComplete, PrepareComplete, ReadOnlyEnlistment, CommitComplete, RollbackComplete, SinglePhaseReject, RollbackEnlistment, PrePrepareEnlistment, PrepareEnlistment, CommitEnlistment, SetEnlistmentRecoveryInformation, GetEnlistmentRecoveryInformation, CreateFile, CreateFileTransacted, ReadFile, WriteFile, SetEndOfFile, WriteUnits, GetFileSizeEx, FlushFileBuffers, DeleteFile, CreateDirectory, RemoveDirectory, MoveFile, DeleteFileTransacted, CreateDirectoryTransacted, RemoveDirectoryTransacted, MoveFileTransacted, FindFiles, FindFilesTransacted, KvSet, KvUnset, KvGet, KvList, CloseHandle, DuplicateHandle, Exit}
use Rattle.ktm_world.specs.declared.command.View.TheVariants.{Plain, Transaction as Through}
use Rattle.ktm_world.specs.declared.input.PhaseInput.{PhaseInput}
use Rattle.ktm_world.specs.declared.object.Object.{Object}
use Rattle.ktm_world.specs.declared.object.Transaction.{Transaction}
use Rattle.ktm_world.specs.declared.options.EnlistmentKind.{EnlistmentKind}
use Rattle.ktm_world.specs.declared.options.Access.{Access}
use Rattle.ktm_world.specs.declared.options.Disposition.{Disposition}
use Rattle.ktm_world.specs.declared.options.ShareMode.{ShareMode}
use Rattle.ktm_world.specs.declared.reply.Reply.{Reply}
use Rattle.ktm_world.specs.declared.reply.Reply.TheVariants.{Refused, Done}
use Rattle.ktm_world.specs.Decide.{bound_file, caller, decide, refusal_of, command_tests, command_effect, on_file, opening, own_tests}
use Rattle.ktm_world.specs.Enlistments.{Enlistment, Manager, Note, is_ended}
use Rattle.ktm_courses.proofs.offered.HandlesAndTime.{Closes, close_handle-so, exit-so, tick-so}
use Rattle.ktm_world.specs.HandleCalls.{close_handle, exit, bind_to, duplicate_handle, duplicate_handle_tests}
use Rattle.ktm_world.specs.Handles.{object_at}
use Rattle.ktm_world.specs.Transactions.{is_undecided}
use Rattle.ktm_world.specs.FileCalls.{Whereabouts, free, at_node, find_path, conflict_test, create_act, delete_act, make_act, remove_act, move_act, create_at, drop_at, make_at, move_at, create_file, create_file_tests, read_file, read_file_tests, write_access_test, write_file, write_file_tests, write_units_tests, set_end, set_end_tests, get_size, flush_file, delete_file, delete_file_tests, create_directory, create_directory_tests, remove_directory, remove_directory_tests, move_file, move_file_tests, find_files, find_files_tests}
use Rattle.ktm_world.specs.FileOutcome.{FileOutcome, FileRoom}
use Rattle.ktm_world.specs.Files.{FilesNow, OpenFile, tree_seen, without_transaction}
use Rattle.ktm_world.specs.Keys.{without_own}
use Rattle.ktm_world.specs.KeyCalls.{reply_of_value}
use Rattle.ktm_world.specs.Holds.{Act}
use Rattle.ktm_world.specs.Labels.{enlistment_named, file_named, manager_named, transaction_named}
use Rattle.ktm_world.specs.Outcome.{Outcome, only_reply, refuse_or, first_refusal}
use Rattle.ktm_world.specs.Phases.{Course}
use Rattle.ktm_world.specs.Present.{Present}
use Rattle.ktm_world.specs.Steps.{led, share_of}
use Rattle.ktm_world.specs.TransactionCalls.{course_of, released, commit_reply, create_transaction, create_transaction_tests, commit_transaction, aborted_by, rollback_transaction, information_of, get_transaction_information, transaction_with, open_to_transaction, open_transaction, open_transaction_tests, tick, answering, arrived, commit_complete, create_enlistment, create_enlistment_tests, create_resource_manager, create_resource_manager_tests, enlist, enlistment_with, get_information, get_notification, goes_on, information_in, keep_information, manager_with, note_reply, open_enlistment, open_enlistment_tests, open_resource_manager, open_resource_manager_tests, open_to_enlistment, open_to_manager, pre_prepare_complete, prepare_complete, read_only_enlistment, recover_all, recover_enlistment, recover_resource_manager, recovery_of, rollback_complete, rollback_enlistment, set_information, single_phase_reject, pre_prepare_enlistment, prepare_enlistment, commit_enlistment, take_first, transaction_in}
use Rattle.ktm_world.specs.Uses.{file_room}
use Rattle.ktm_world.specs.World.{decide_tick}
use Rattle.ktm_standing.specs.Laws.{DecidedLaw}

-- ---- refused, or done

refused_is : (x : Present) (process : Pid) (command : Command) (refusal : Refusal) → refusal_of x process command ≡ Some refusal → decide x process command ≡ only_reply x (Refused refusal)
refused_is x process command refusal tested = ap (λ r. refuse_or x r (command_effect x process command)) tested

released_says : (c : Course) (o : Outcome) → (released c o).reply ≡ o.reply
released_says c o = elim (is_undecided c.transaction) as (λ b. (cond b o (record o { forgotten = c.transaction.id ∷ []; table = without_transaction o.table c.transaction.id; own = without_own o.own c.transaction.id })).reply ≡ o.reply) [ true ↦ refl | false ↦ refl ]

-- an outcome answers that it is done
pub record IsDone (o : Outcome) : Type 0 where
  pub says : o.reply ≡ Done

pub done_open : (x : Present) (process : Pid) (label : Label) (named : Option Transaction) → IsDone (open_to_transaction x process label named)
done_open x process label None = record { says = refl }
done_open x process label (Some t) = record { says = refl }

pub done_bind : (x : Present) (process : Pid) (label : Label) (named : Option Object) → IsDone (bind_to x process label named)
done_bind x process label None = record { says = refl }
done_bind x process label (Some object) = record { says = refl }

done_manager : (x : Present) (process : Pid) (label : Label) (m : Option Manager) → IsDone (open_to_manager x process label m)
done_manager x process label None = record { says = refl }
done_manager x process label (Some m) = record { says = refl }

done_enlistment : (x : Present) (process : Pid) (label : Label) (e : Option Enlistment) → IsDone (open_to_enlistment x process label e)
done_enlistment x process label None = record { says = refl }
done_enlistment x process label (Some e) = record { says = refl }

done_recovered : (x : Present) (m : Option Manager) → IsDone (recover_all x m)
done_recovered x None = record { says = refl }
done_recovered x (Some m) = record { says = refl }

done_informed : (x : Present) (e : Option Enlistment) (information : List ℕ) → IsDone (keep_information x e information)
done_informed x None information = record { says = refl }
done_informed x (Some e) information = record { says = refl }

done_arrived : (x : Present) (c : Course) → IsDone (arrived x c Done)
done_arrived x c = record { says = released_says c _ }

pub done_answering : (x : Present) (e : Option Enlistment) (input : Enlistment → PhaseInput) → IsDone (answering x e input)
done_answering x None input = record { says = refl }
done_answering x (Some e) input = go (transaction_in x e)
  where
    go : (t : Option Transaction) → IsDone (goes_on x e t (input e))
    go None = record { says = refl }
    go (Some t) = done_arrived x (led (input e) (course_of x t (Some e)))

done_aborted : (x : Present) (t : Transaction) → IsDone (aborted_by x t None Done)
done_aborted x t = done_arrived x (led PhaseInput.Rollback (course_of x t None))

pub done_rollback : (x : Present) (named : Option Transaction) → IsDone (rollback_transaction x named)
unfolding rollback_transaction
done_rollback x None = record { says = refl }
done_rollback x (Some t) = done_aborted x t

-- what closing a handle and the passing of time come to is done
closing : Closes (λ x. Unit {0}) (λ x o. IsDone o)
closing = record {
  rolls = record {
    reply = λ x asked. record { says = refl };
    rolls = λ x t asked there may. done_aborted x t;
    goes_on = λ x a next first second. record { says = first.says };
  };
  unbinds = λ x process label asked. record { says = refl };
  ends = λ x number asked. record { says = refl };
}

pub done_close : (x : Present) (process : Pid) (label : Label) → IsDone (close_handle x process label)
done_close x process label = close_handle-so (λ x. Unit {0}) (λ x o. IsDone o) closing x process label tt

pub done_exit : (x : Present) (process : Pid) → IsDone (exit x process)
done_exit x process = exit-so (λ x. Unit {0}) (λ x o. IsDone o) closing x process tt

pub done_tick : (x : Present) (ms : ℕ) → IsDone (tick x ms)
done_tick x ms = tick-so (λ x. Unit {0}) (λ x o. IsDone o) closing.rolls x ms tt

-- ---- calls on files

-- the label that is bound changes nothing else
bound_says : (process : Pid) (label : Label) (opened : Option OpenFile) (o : Outcome) → (bound_file process label opened o).reply ≡ o.reply
bound_says process label None o = refl
bound_says process label (Some file) o = refl

on_file_not_down : (x : Present) (o : Option OpenFile) (call : OpenFile → FileOutcome) → ((p : OpenFile) → (call p).reply ≡ Refused MachineDown → ⊥) → (on_file x o call).reply ≡ Refused MachineDown → ⊥
on_file_not_down x None call says e = cc
on_file_not_down x (Some o) call says e = says o e

created_says : (files : FilesNow) (who : Option Id) (path : List ℕ) (access : Access) (share : ShareMode) (disposition : Disposition) → (create_file files who path access share disposition).reply ≡ Done
unfolding create_file
created_says files who path access share disposition = go (find_path (tree_seen files who) path)
  where
    go : (there : Whereabouts) → (create_at files who there access share disposition).reply ≡ Done
    go (free directory name) = refl
    go (at_node node) = refl
    go _ = refl

opening_says : (x : Present) (process : Pid) (label : Label) (who : Option Id) (path : List ℕ) (access : Access) (share : ShareMode) (disposition : Disposition)
    → (opening x process label who (create_file x.files who path access share disposition)).reply ≡ Done
opening_says x process label who path access share disposition = let o = create_file x.files who path access share disposition in bound_says process label o.opened _ ∙ created_says x.files who path access share disposition

written_says : (o : OpenFile) (offset : ℕ) (bytes : List ℕ) → (write_file o offset bytes).reply ≡ Done
unfolding write_file
written_says o offset [] = refl
written_says o offset (b ∷ bs) = refl

dropped_says : (there : Whereabouts) → (drop_at there).reply ≡ Done
dropped_says (at_node node) = refl
dropped_says _ = refl

deleted_says : (files : FilesNow) (who : Option Id) (path : List ℕ) → (delete_file files who path).reply ≡ Done
unfolding delete_file
deleted_says files who path = dropped_says (find_path (tree_seen files who) path)

removed_says : (files : FilesNow) (who : Option Id) (path : List ℕ) → (remove_directory files who path).reply ≡ Done
unfolding remove_directory
removed_says files who path = dropped_says (find_path (tree_seen files who) path)

made_says : (files : FilesNow) (who : Option Id) (path : List ℕ) → (create_directory files who path).reply ≡ Done
unfolding create_directory
made_says files who path = go (find_path (tree_seen files who) path)
  where
    go : (there : Whereabouts) → (make_at files there).reply ≡ Done
    go (free directory name) = refl
    go _ = refl

moved_says : (files : FilesNow) (who : Option Id) (source target : List ℕ) → (move_file files who source target).reply ≡ Done
unfolding move_file
moved_says files who source target = go (find_path (tree_seen files who) source) (find_path (tree_seen files who) target)
  where
    go : (from to : Whereabouts) → (move_at from to).reply ≡ Done
    go (at_node node) (free directory name) = refl
    go _ _ = refl

-- ---- on a machine that is up no reply says that it is down

is_of_down : Refusal → Bool
is_of_down MachineDown = true
is_of_down refusal = false

-- none of the tests is that of a machine that is down
none_of_down : List (Bool × Refusal) → Bool
none_of_down [] = true
none_of_down (test ∷ tests) = not (is_of_down test.1) && none_of_down tests

-- a conflict says nothing of the machine
conflict_up : (files : FilesNow) (who : Option Id) (act : Option Act) → not (is_of_down (conflict_test files who act).1) ≡ true
unfolding is_of_down
conflict_up files who None = refl
conflict_up files who (Some act) = refl

-- the tests of calls on files say nothing of the machine
create_file_up : (files : FilesNow) (room : FileRoom) (who : Option Id) (path : List ℕ) (access : Access) (share : ShareMode) (disposition : Disposition)
    → none_of_down (create_file_tests files room who path access share disposition) ≡ true
unfolding is_of_down none_of_down create_file_tests
create_file_up files room who path access share disposition = and_from _ _ (conflict_up files who (create_act (find_path (tree_seen files who) path) access disposition)) refl

delete_file_up : (files : FilesNow) (room : FileRoom) (who : Option Id) (path : List ℕ) → none_of_down (delete_file_tests files room who path) ≡ true
unfolding is_of_down none_of_down delete_file_tests
delete_file_up files room who path = and_from _ _ (conflict_up files who (delete_act (find_path (tree_seen files who) path))) refl

create_directory_up : (files : FilesNow) (room : FileRoom) (who : Option Id) (path : List ℕ) → none_of_down (create_directory_tests files room who path) ≡ true
unfolding is_of_down none_of_down create_directory_tests
create_directory_up files room who path = and_from _ _ (conflict_up files who (make_act (find_path (tree_seen files who) path))) refl

remove_directory_up : (files : FilesNow) (room : FileRoom) (who : Option Id) (path : List ℕ) → none_of_down (remove_directory_tests files room who path) ≡ true
unfolding is_of_down none_of_down remove_directory_tests
remove_directory_up files room who path = and_from _ _ (conflict_up files who (remove_act (find_path (tree_seen files who) path))) refl

move_file_up : (files : FilesNow) (room : FileRoom) (who : Option Id) (source target : List ℕ) → none_of_down (move_file_tests files room who source target) ≡ true
unfolding is_of_down none_of_down move_file_tests
move_file_up files room who source target = and_from _ _ (conflict_up files who (move_act (find_path (tree_seen files who) source) (find_path (tree_seen files who) target))) refl

-- the tests of calls on open files say nothing of the machine
on_file_up : (o : Option OpenFile) (tests : OpenFile → List (Bool × Refusal)) → ((p : OpenFile) → none_of_down (tests p) ≡ true) → none_of_down (own_tests o tests) ≡ true
unfolding none_of_down
on_file_up None tests up = refl
on_file_up (Some o) tests up = up o

tests_of_up : (x : Present) (process : Pid) (command : Command) → none_of_down (command_tests x process command) ≡ true
unfolding is_of_down none_of_down create_transaction_tests open_transaction_tests create_resource_manager_tests open_resource_manager_tests create_enlistment_tests open_enlistment_tests duplicate_handle_tests read_file_tests write_file_tests write_units_tests set_end_tests find_files_tests
tests_of_up x process (CreateTransaction label timeout) = refl
tests_of_up x process (OpenTransaction label guid) = refl
tests_of_up x process (CommitTransaction label) = refl
tests_of_up x process (RollbackTransaction label) = refl
tests_of_up x process (GetTransactionInformation label) = refl
tests_of_up x process (CreateResourceManager label durability) = refl
tests_of_up x process (OpenResourceManager label guid) = refl
tests_of_up x process (RecoverResourceManager label) = refl
tests_of_up x process (GetNotificationResourceManager label) = refl
tests_of_up x process (CreateEnlistment label manager transaction kind) = refl
tests_of_up x process (OpenEnlistment label manager guid) = refl
tests_of_up x process (RecoverEnlistment label) = refl
tests_of_up x process (PrePrepareComplete label) = refl
tests_of_up x process (PrepareComplete label) = refl
tests_of_up x process (ReadOnlyEnlistment label) = refl
tests_of_up x process (CommitComplete label) = refl
tests_of_up x process (RollbackComplete label) = refl
tests_of_up x process (SinglePhaseReject label) = refl
tests_of_up x process (RollbackEnlistment label) = refl
tests_of_up x process (PrePrepareEnlistment label) = refl
tests_of_up x process (PrepareEnlistment label) = refl
tests_of_up x process (CommitEnlistment label) = refl
tests_of_up x process (SetEnlistmentRecoveryInformation label information) = refl
tests_of_up x process (GetEnlistmentRecoveryInformation label) = refl
tests_of_up x process (CreateFile label path access share disposition) = create_file_up x.files (file_room x) None path access share disposition
tests_of_up x process (CreateFileTransacted label path access share disposition transaction) = create_file_up x.files (file_room x) (caller x process transaction) path access share disposition
tests_of_up x process (ReadFile file offset many) = on_file_up (file_named x process file) (λ o. read_file_tests o many) (λ o. refl)
tests_of_up x process (WriteFile file offset bytes) = on_file_up (file_named x process file) (λ o. write_file_tests x.files (file_room x) o offset bytes) (λ o. refl)
tests_of_up x process (SetEndOfFile file size) = on_file_up (file_named x process file) (λ o. set_end_tests x.files (file_room x) o size) (λ o. refl)
tests_of_up x process (WriteUnits file start contents) = on_file_up (file_named x process file) (λ o. write_units_tests x.files (file_room x) o start contents) (λ o. refl)
tests_of_up x process (GetFileSizeEx file) = refl
tests_of_up x process (FlushFileBuffers file) = on_file_up (file_named x process file) (λ o. write_access_test o ∷ []) (λ o. refl)
tests_of_up x process (DeleteFile path) = delete_file_up x.files (file_room x) None path
tests_of_up x process (CreateDirectory path) = create_directory_up x.files (file_room x) None path
tests_of_up x process (RemoveDirectory path) = remove_directory_up x.files (file_room x) None path
tests_of_up x process (MoveFile source target) = move_file_up x.files (file_room x) None source target
tests_of_up x process (DeleteFileTransacted path transaction) = delete_file_up x.files (file_room x) (caller x process transaction) path
tests_of_up x process (CreateDirectoryTransacted path transaction) = create_directory_up x.files (file_room x) (caller x process transaction) path
tests_of_up x process (RemoveDirectoryTransacted path transaction) = remove_directory_up x.files (file_room x) (caller x process transaction) path
tests_of_up x process (MoveFileTransacted source target transaction) = move_file_up x.files (file_room x) (caller x process transaction) source target
tests_of_up x process (FindFiles searched) = refl
tests_of_up x process (FindFilesTransacted searched transaction) = refl
tests_of_up x process (KvSet label key value) = refl
tests_of_up x process (KvUnset label key) = refl
tests_of_up x process (KvGet Plain key) = refl
tests_of_up x process (KvGet (Through label) key) = refl
tests_of_up x process (KvList Plain) = refl
tests_of_up x process (KvList (Through label)) = refl
tests_of_up x process (CloseHandle label) = refl
tests_of_up x process (DuplicateHandle label from source) = refl
tests_of_up x process Exit = refl

first_not_down : (tests : List (Bool × Refusal)) → none_of_down tests ≡ true → first_refusal tests ≡ Some MachineDown → ⊥
unfolding is_of_down none_of_down
first_not_down [] none e = cc
first_not_down (test ∷ tests) none e =
    let parts = and_parts (not (is_of_down test.1)) (none_of_down tests) none in
    elim (cases_Bool test.0) [
      | inl holds ↦ (let first : Some test.1 ≡ Some MachineDown = rw holds at e in let same : test.1 ≡ MachineDown = cc in let wrong = ap is_of_down same ∙ refl in let right = parts.0 in cc)
      | inr fails ↦ first_not_down tests parts.1 (rw fails at e)
    ]

value_not_down : (value : Option (List ℕ)) → reply_of_value value ≡ Refused MachineDown → ⊥
value_not_down None e = cc
value_not_down (Some value) e = cc

commit_reply_not_down : (c : Course) → commit_reply c ≡ Refused MachineDown → ⊥
commit_reply_not_down c = go (is_ended c.transaction.phase)
  where
    go : (b : Bool) → cond b Reply.Committed Reply.Pending ≡ Refused MachineDown → ⊥
    go true e = cc
    go false e = cc

commit_not_down : (x : Present) (t : Option Transaction) → (commit_transaction x t).reply ≡ Refused MachineDown → ⊥
unfolding commit_transaction
commit_not_down x None e = cc
commit_not_down x (Some t) e = let c = led PhaseInput.CommitTransaction (course_of x t None) in commit_reply_not_down c (sym (released_says c _) ∙ e)

says_not_down : (reply : Reply) → reply ≡ Done → reply ≡ Refused MachineDown → ⊥
says_not_down reply says e = cc

done_not_down : (o : Outcome) → IsDone o → o.reply ≡ Refused MachineDown → ⊥
done_not_down o done = says_not_down o.reply done.says

information_not_down : (x : Present) (t : Option Transaction) → information_of x t ≡ Refused MachineDown → ⊥
information_not_down x None e = cc
information_not_down x (Some t) e = cc

taken_not_down : (x : Present) (m : Option Manager) → (take_first x m).reply ≡ Refused MachineDown → ⊥
taken_not_down x None e = cc
taken_not_down x (Some m) e = go m.queue e
  where
    go : (queue : List Note) → note_reply x queue ≡ Refused MachineDown → ⊥
    go [] e = cc
    go (note ∷ notes) e = cc

enlisted_not_down : (x : Present) (process : Pid) (label : Label) (m : Option Manager) (t : Option Transaction) (kind : EnlistmentKind) → (enlist x process label m t kind).reply ≡ Refused MachineDown → ⊥
enlisted_not_down x process label None t kind e = cc
enlisted_not_down x process label (Some m) None kind e = cc
enlisted_not_down x process label (Some m) (Some t) kind e = cc

contents_not_down : (enlistment : Option Enlistment) → information_in enlistment ≡ Refused MachineDown → ⊥
contents_not_down None e = cc
contents_not_down (Some enlistment) e = cc

effect_not_down : (x : Present) (process : Pid) (command : Command) → (command_effect x process command).reply ≡ Refused MachineDown → ⊥
unfolding create_transaction open_transaction get_transaction_information duplicate_handle read_file set_end get_size find_files create_resource_manager open_resource_manager recover_resource_manager get_notification create_enlistment open_enlistment recover_enlistment pre_prepare_complete prepare_complete read_only_enlistment commit_complete rollback_complete single_phase_reject rollback_enlistment pre_prepare_enlistment prepare_enlistment commit_enlistment set_information get_information
effect_not_down x process (CreateTransaction label timeout) e = cc
effect_not_down x process (OpenTransaction label guid) e = done_not_down _ (done_open x process label (transaction_with x guid)) e
effect_not_down x process (CommitTransaction label) e = commit_not_down x (transaction_named x process label) e
effect_not_down x process (RollbackTransaction label) e = done_not_down _ (done_rollback x (transaction_named x process label)) e
effect_not_down x process (GetTransactionInformation label) e = information_not_down x (transaction_named x process label) e
effect_not_down x process (CreateResourceManager label durability) e = cc
effect_not_down x process (OpenResourceManager label guid) e = done_not_down _ (done_manager x process label (manager_with x guid)) e
effect_not_down x process (RecoverResourceManager label) e = done_not_down _ (done_recovered x (manager_named x process label)) e
effect_not_down x process (GetNotificationResourceManager label) e = taken_not_down x (manager_named x process label) e
effect_not_down x process (CreateEnlistment label manager transaction kind) e = enlisted_not_down x process label (manager_named x process manager) (transaction_named x process transaction) kind e
effect_not_down x process (OpenEnlistment label manager guid) e = done_not_down _ (done_enlistment x process label (enlistment_with x (manager_named x process manager) guid)) e
effect_not_down x process (RecoverEnlistment label) e = done_not_down _ (done_answering x (enlistment_named x process label) recovery_of) e
effect_not_down x process (PrePrepareComplete label) e = done_not_down _ (done_answering x (enlistment_named x process label) (λ e. PhaseInput.PrePrepareComplete)) e
effect_not_down x process (PrepareComplete label) e = done_not_down _ (done_answering x (enlistment_named x process label) (λ e. PhaseInput.PrepareComplete)) e
effect_not_down x process (ReadOnlyEnlistment label) e = done_not_down _ (done_answering x (enlistment_named x process label) (λ e. PhaseInput.ReadOnly (share_of e))) e
effect_not_down x process (CommitComplete label) e = done_not_down _ (done_answering x (enlistment_named x process label) (λ e. PhaseInput.CommitComplete)) e
effect_not_down x process (RollbackComplete label) e = done_not_down _ (done_answering x (enlistment_named x process label) (λ e. PhaseInput.RollbackComplete)) e
effect_not_down x process (SinglePhaseReject label) e = done_not_down _ (done_answering x (enlistment_named x process label) (λ e. PhaseInput.SinglePhaseReject)) e
effect_not_down x process (RollbackEnlistment label) e = done_not_down _ (done_answering x (enlistment_named x process label) (λ e. PhaseInput.Rollback)) e
effect_not_down x process (PrePrepareEnlistment label) e = done_not_down _ (done_answering x (enlistment_named x process label) (λ e. PhaseInput.PrePrepare)) e
effect_not_down x process (PrepareEnlistment label) e = done_not_down _ (done_answering x (enlistment_named x process label) (λ e. PhaseInput.Prepare)) e
effect_not_down x process (CommitEnlistment label) e = done_not_down _ (done_answering x (enlistment_named x process label) (λ e. PhaseInput.Commit)) e
effect_not_down x process (SetEnlistmentRecoveryInformation label information) e = done_not_down _ (done_informed x (enlistment_named x process label) information) e
effect_not_down x process (GetEnlistmentRecoveryInformation label) e = contents_not_down (enlistment_named x process label) e
effect_not_down x process (CreateFile label path access share disposition) e = says_not_down _ (opening_says x process label None path access share disposition) e
effect_not_down x process (CreateFileTransacted label path access share disposition transaction) e =
    says_not_down _ (opening_says x process label (caller x process transaction) path access share disposition) e
effect_not_down x process (ReadFile file offset many) e = on_file_not_down x (file_named x process file) (λ o. read_file x.files o offset many) (λ o e. cc) e
effect_not_down x process (WriteFile file offset bytes) e =
    on_file_not_down x (file_named x process file) (λ o. write_file o offset bytes) (λ o. says_not_down (write_file o offset bytes).reply (written_says o offset bytes)) e
effect_not_down x process (SetEndOfFile file size) e = on_file_not_down x (file_named x process file) (λ o. set_end o size) (λ o e. cc) e
effect_not_down x process (WriteUnits file start contents) e =
    on_file_not_down x (file_named x process file) (λ o. write_file o start contents) (λ o. says_not_down (write_file o start contents).reply (written_says o start contents)) e
effect_not_down x process (GetFileSizeEx file) e = on_file_not_down x (file_named x process file) (λ o. get_size x.files o) (λ o e. cc) e
effect_not_down x process (FlushFileBuffers file) e = on_file_not_down x (file_named x process file) (λ o. flush_file) (λ o e. cc) e
effect_not_down x process (DeleteFile path) e = says_not_down _ (deleted_says x.files None path) e
effect_not_down x process (CreateDirectory path) e = says_not_down _ (made_says x.files None path) e
effect_not_down x process (RemoveDirectory path) e = says_not_down _ (removed_says x.files None path) e
effect_not_down x process (MoveFile source target) e = says_not_down _ (moved_says x.files None source target) e
effect_not_down x process (DeleteFileTransacted path transaction) e = says_not_down _ (deleted_says x.files (caller x process transaction) path) e
effect_not_down x process (CreateDirectoryTransacted path transaction) e = says_not_down _ (made_says x.files (caller x process transaction) path) e
effect_not_down x process (RemoveDirectoryTransacted path transaction) e = says_not_down _ (removed_says x.files (caller x process transaction) path) e
effect_not_down x process (MoveFileTransacted source target transaction) e = says_not_down _ (moved_says x.files (caller x process transaction) source target) e
effect_not_down x process (FindFiles searched) e = cc
effect_not_down x process (FindFilesTransacted searched transaction) e = cc
effect_not_down x process (KvSet label key value) e = cc
effect_not_down x process (KvUnset label key) e = cc
effect_not_down x process (KvGet view key) e = value_not_down _ e
effect_not_down x process (KvList view) e = cc
effect_not_down x process (CloseHandle label) e = done_not_down _ (done_close x process label) e
effect_not_down x process (DuplicateHandle label from source) e = done_not_down _ (done_bind x process label (object_at x.handles from source)) e
effect_not_down x process Exit e = done_not_down _ (done_exit x process) e

refused_not_down : (x : Present) (tested : Option Refusal) (effect : Outcome) → (tested ≡ Some MachineDown → ⊥) → (effect.reply ≡ Refused MachineDown → ⊥) → (refuse_or x tested effect).reply ≡ Refused MachineDown → ⊥
refused_not_down x None effect first then e = then e
refused_not_down x (Some refusal) effect first then e = first (cc)

up_not_down : (x : Present) (process : Pid) (command : Command) → x.machine.is_up ≡ true → (decide x process command).reply ≡ Refused MachineDown → ⊥
up_not_down x process command up =
    let tested : refusal_of x process command ≡ first_refusal (command_tests x process command) = ap (λ u. cond (not u) (Some MachineDown) (first_refusal (command_tests x process command))) up in
    refused_not_down x (refusal_of x process command) (command_effect x process command) (λ e. first_not_down (command_tests x process command) (tests_of_up x process command) (sym tested ∙ e)) (effect_not_down x process command)

-- ---- the passing of time

-- whether time passes is decided by the power alone
abbrev ticks : Present → ℕ → Bool → Outcome
ticks x ms on = refuse_or x (first_refusal ((not on, MachineDown) ∷ [])) (tick x ms)

tick_down : (x : Present) (ms : ℕ) → x.machine.is_up ≡ false → decide_tick x ms ≡ only_reply x (Refused MachineDown)
tick_down x ms off = ap (ticks x ms) off

tick_up : (x : Present) (ms : ℕ) → x.machine.is_up ≡ true → decide_tick x ms ≡ tick x ms
tick_up x ms on = ap (ticks x ms) on

pub decided_law : DecidedLaw
decided_law = record {
  refused = refused_is;
  is_up = up_not_down;
  no_time = tick_down;
  time = tick_up;
}
