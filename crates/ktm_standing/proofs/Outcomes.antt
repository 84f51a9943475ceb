-- An outcome that puts or cuts bytes of files records an event for each work.
use Rattle.std.specs.Prelude.{⊤}
use Rattle.std.proofs.Common.{◌≡◌, ℕ, ◌*◌, ◌≤◌, not, List, [], ◌∷◌, length, Option, None, Some, refl, sym, ◌∙◌, ap, subst, arith, inl, inr}
use Rattle.std.proofs.lemmas.Bool.{cases_Bool}
use Rattle.std.proofs.lemmas.List.{length-append}
use Rattle.std.proofs.lemmas.List.Sums.{sum_by-append}
use Rattle.ktm_base.specs.declared.id.Id.{Id}
use Rattle.ktm_base.specs.declared.id.Label.{Label}
use Rattle.ktm_base.specs.declared.id.Pid.{Pid}
use Rattle.ktm_base.specs.declared.refusal.Refusal.{Refusal}
use Rattle.ktm_base.specs.declared.refusal.Refusal.TheVariants.{MachineDown}
use Rattle.ktm_world.specs.declared.change.Change.{Change}
use Rattle.ktm_world.specs.declared.command.Command.{Command}
use Rattle.ktm_world.specs.declared.command.Command.TheVariants.{CreateTransaction, OpenTransaction, CommitTransaction, RollbackTransaction, GetTransactionInformation, CreateResourceManager, OpenResourceManager, RecoverResourceManager, GetNotificationResourceManager, CreateEnlistment, OpenEnlistment, RecoverEnlistment, PrePrepareComplete, PrepareComplete, ReadOnlyEnlistment, CommitComplete, RollbackComplete, SinglePhaseReject, RollbackEnlistment, PrePrepareEnlistment, PrepareEnlistment, CommitEnlistment, SetEnlistmentRecoveryInformation, GetEnlistmentRecoveryInformation, CreateFile, CreateFileTransacted, ReadFile, WriteFile, SetEndOfFile, WriteUnits, GetFileSizeEx, FlushFileBuffers, DeleteFile, CreateDirectory, RemoveDirectory, MoveFile, DeleteFileTransacted, CreateDirectoryTransacted, RemoveDirectoryTransacted, MoveFileTransacted, FindFiles, FindFilesTransacted, KvSet, KvUnset, KvGet, KvList, CloseHandle, DuplicateHandle, Exit}
use Rattle.ktm_world.specs.declared.input.PhaseInput.{PhaseInput}
use Rattle.ktm_world.specs.declared.object.Object.{Object}
use Rattle.ktm_world.specs.declared.object.Transaction.{Transaction}
use Rattle.ktm_world.specs.declared.options.EnlistmentKind.{EnlistmentKind}
use Rattle.ktm_world.specs.declared.reply.Reply.{Reply}
use Rattle.ktm_world.specs.declared.reply.Reply.TheVariants.{Refused, Done}
use Rattle.ktm_world.specs.Committed.{Work}
use Rattle.ktm_world.specs.Decide.{bound_file, caller, decide, command_effect, events_of, of_files, on_file, opening, refusal_of}
use Rattle.ktm_world.specs.Enlistments.{Enlistment, Manager}
use Rattle.ktm_world.specs.FileCalls.{create_file, read_file, write_file, set_end, get_size, flush_file, delete_file, create_directory, remove_directory, move_file, find_files}
use Rattle.ktm_world.specs.FileOutcome.{FileOutcome, works_of}
use Rattle.ktm_world.specs.Files.{OpenFile, own_changes}
use Rattle.ktm_world.specs.HandleCalls.{bind_to, close_handle, closed_file, duplicate_handle, exit, without_handle}
use Rattle.ktm_world.specs.Handles.{object_at}
use Rattle.ktm_world.specs.Labels.{enlistment_named, file_named, manager_named, transaction_named}
use Rattle.ktm_world.specs.Logs.{Group}
use Rattle.ktm_world.specs.Outcome.{Outcome, apply, first_refusal, joined, only_reply, refuse_or}
use Rattle.ktm_world.specs.Present.{Present}
use Rattle.ktm_world.specs.Steps.{led, share_of}
use Rattle.ktm_world.specs.TransactionCalls.{aborted_by, answering, arrived, commit_of, commit_reply, commit_transaction, course_of, create_enlistment, create_resource_manager, create_transaction, enlist, enlistment_with, get_information, get_notification, get_transaction_information, goes_on, keep_information, manager_with, open_enlistment, open_resource_manager, open_to_enlistment, open_to_manager, open_to_transaction, open_transaction, recover_all, recover_resource_manager, recovery_of, rollback_of, rollback_transaction, set_information, take_first, tick, transaction_in, transaction_with, pre_prepare_complete, prepare_complete, read_only_enlistment, commit_complete, rollback_complete, single_phase_reject, rollback_enlistment, pre_prepare_enlistment, prepare_enlistment, commit_enlistment, recover_enlistment}
use Rattle.ktm_world.specs.World.{decide_tick}
use Rattle.txf_laws.specs.SoundFiles.{IsSoundFiles}
use Rattle.txf_laws.proofs.offered.NormalForms.{is_of_file}
use Rattle.ktm_courses.proofs.offered.HandlesAndTime.{Closes, close_handle-so, exit-so, tick-so}
use Rattle.ktm_records.proofs.offered.AgreementOfCourses.{arrival}
use Rattle.ktm_standing.proofs.CommitEvents.{course_logged}
use Rattle.ktm_standing.proofs.offered.Rows.{row_leads}
use Rattle.ktm_standing.proofs.Versions.{own_few, puts_in, puts_of}

-- for each event, an outcome puts and cuts the bytes of a file no more than twice
pub record IsLogged (o : Outcome) : Type 0 where
  pub each : (file : ℕ) → puts_in file o.works ≤ 2 * length o.events

-- one that commits nothing
idle : (o : Outcome) → o.works ≡ [] → IsLogged o
idle o none = record { each = λ file. let works = ap (puts_in file) none in omega (arith, works) }

replied : (x : Present) (reply : Reply) → IsLogged (only_reply x reply)
replied x reply = idle (only_reply x reply) refl

-- two of them, one after the other
both : (a b : Outcome) → IsLogged a → IsLogged b → IsLogged (joined a b)
both a b first second = record {
  each = λ file.
      let works = sum_by-append (λ (work : Work). puts_of file work.changes) a.works b.works in
      let events = length-append a.events b.events in
      let one = first.each file in
      let two = second.each file in
      omega (arith, works, events, one, two);
}

-- ---- courses

-- no transaction puts or cuts the bytes of a file more than twice
abbrev Few : Present → Type 0
Few x = (id : Id) (file : ℕ) → puts_of file (own_changes x.files.table.own id) ≤ 2

-- a transaction goes on by what comes to it
course_logs : (x : Present) → Few x → (t : Transaction) (caller : Option Enlistment) (input : PhaseInput) (reply : Reply) → IsLogged (arrived x (led input (course_of x t caller)) reply)
course_logs x few t caller input reply =
    let d = led input (course_of x t caller) in
    let here = arrival x d reply in
    record {
      each = λ file.
          subst (λ (works : List Work). puts_in file works ≤ 2 * length (arrived x d reply).events) (sym here.works)
          (subst (λ (events : Group). puts_in file d.works ≤ 2 * length events) (sym here.events) (course_logged x t caller input file (few t.id file)));
    }

commit_logs : (x : Present) → Few x → (t : Option Transaction) → IsLogged (commit_of x t)
commit_logs x few None = replied x Done
commit_logs x few (Some t) = course_logs x few t None PhaseInput.CommitTransaction (commit_reply (led PhaseInput.CommitTransaction (course_of x t None)))

-- a rollback commits nothing, whatever the transaction has changed
aborted_idle : (x : Present) (t : Transaction) → (aborted_by x t None Done).works ≡ []
unfolding led
aborted_idle x t = (arrival x (led PhaseInput.Rollback (course_of x t None)) Done).works ∙ (row_leads x t None PhaseInput.Rollback).works

rollback_idle : (x : Present) (t : Option Transaction) → (rollback_of x t).works ≡ []
rollback_idle x None = refl
rollback_idle x (Some t) = aborted_idle x t

answered_logs : (x : Present) → Few x → (e : Option Enlistment) (input : Enlistment → PhaseInput) → IsLogged (answering x e input)
answered_logs x few None input = replied x Done
answered_logs x few (Some e) input = go (transaction_in x e)
  where
    go : (t : Option Transaction) → IsLogged (goes_on x e t (input e))
    go None = replied x Done
    go (Some t) = course_logs x few t (Some e) (input e) Done

-- ---- resource managers and enlistments

enlisted_idle : (x : Present) (process : Pid) (label : Label) (m : Option Manager) (t : Option Transaction) (kind : EnlistmentKind) → (enlist x process label m t kind).works ≡ []
enlisted_idle x process label None t kind = refl
enlisted_idle x process label (Some m) None kind = refl
enlisted_idle x process label (Some m) (Some t) kind = refl

informed_idle : (x : Present) (e : Option Enlistment) (information : List ℕ) → (keep_information x e information).works ≡ []
informed_idle x None information = refl
informed_idle x (Some e) information = refl

opened_manager_idle : (x : Present) (process : Pid) (label : Label) (m : Option Manager) → (open_to_manager x process label m).works ≡ []
opened_manager_idle x process label None = refl
opened_manager_idle x process label (Some m) = refl

opened_enlistment_idle : (x : Present) (process : Pid) (label : Label) (e : Option Enlistment) → (open_to_enlistment x process label e).works ≡ []
opened_enlistment_idle x process label None = refl
opened_enlistment_idle x process label (Some e) = refl

recovered_idle : (x : Present) (m : Option Manager) → (recover_all x m).works ≡ []
recovered_idle x None = refl
recovered_idle x (Some m) = refl

taken_idle : (x : Present) (m : Option Manager) → (take_first x m).works ≡ []
taken_idle x None = refl
taken_idle x (Some m) = refl

-- ---- transactions and handles

opened_transaction_idle : (x : Present) (process : Pid) (label : Label) (t : Option Transaction) → (open_to_transaction x process label t).works ≡ []
opened_transaction_idle x process label None = refl
opened_transaction_idle x process label (Some t) = refl

bound_idle : (x : Present) (process : Pid) (label : Label) (object : Option Object) → (bind_to x process label object).works ≡ []
bound_idle x process label None = refl
bound_idle x process label (Some object) = refl

-- for each event, what closing a handle and the passing of time come to puts and cuts the bytes of a file no more than twice
closing : Closes (λ x. ⊤) (λ x o. IsLogged o)
closing = record {
  rolls = record {
    reply = λ x asked. replied x Done;
    rolls = λ x t asked there may. idle (aborted_by x t None Done) (aborted_idle x t);
    goes_on = λ x a next first second. both a (next (apply x a)) first (second tt);
  };
  unbinds = λ x process label asked. idle (record (only_reply x Done) { handles = without_handle x.handles process label }) refl;
  ends = λ x number asked. idle (record (only_reply x Done) { table = closed_file x.files.table number }) refl;
}

close_logs : (x : Present) (process : Pid) (label : Label) → IsLogged (close_handle x process label)
close_logs x process label = close_handle-so (λ x. ⊤) (λ x o. IsLogged o) closing x process label tt

exit_logs : (x : Present) (process : Pid) → IsLogged (exit x process)
exit_logs x process = exit-so (λ x. ⊤) (λ x o. IsLogged o) closing x process tt

tick_logs : (x : Present) (ms : ℕ) → IsLogged (tick x ms)
tick_logs x ms = tick-so (λ x. ⊤) (λ x o. IsLogged o) closing.rolls x ms tt

-- ---- calls on files

change_logs : (who : Option Id) (change : Option Change) (file : ℕ) → puts_in file (works_of who change) ≤ 2 * length (events_of who change)
change_logs None None file = omega arith
change_logs None (Some change) file = elim (cases_Bool (is_of_file file change)) [ inl is ↦ rw is (omega arith) | inr other ↦ rw other (omega arith) ]
change_logs (Some id) change file = omega arith

files_logs : (x : Present) (who : Option Id) (o : FileOutcome) → IsLogged (of_files x who o)
files_logs x who o = record { each = change_logs who o.change }

opening_logs : (x : Present) (process : Pid) (label : Label) (who : Option Id) (o : FileOutcome) → IsLogged (opening x process label who o)
opening_logs x process label who o = go o.opened
  where
    go : (opened : Option OpenFile) → IsLogged (bound_file process label opened (of_files x who o))
    go None = record { each = change_logs who o.change }
    go (Some file) = record { each = change_logs who o.change }

on_file_logs : (x : Present) (o : Option OpenFile) (call : OpenFile → FileOutcome) → IsLogged (on_file x o call)
on_file_logs x None call = replied x Done
on_file_logs x (Some o) call = files_logs x o.transaction (call o)

-- ---- every outcome

effect_logs : (x : Present) → Few x → (process : Pid) (command : Command) → IsLogged (command_effect x process command)
unfolding create_transaction open_transaction commit_transaction rollback_transaction get_transaction_information open_resource_manager recover_resource_manager get_notification create_enlistment open_enlistment recover_enlistment pre_prepare_complete prepare_complete read_only_enlistment commit_complete rollback_complete single_phase_reject rollback_enlistment pre_prepare_enlistment prepare_enlistment commit_enlistment set_information get_information duplicate_handle create_resource_manager
effect_logs x few process (CreateTransaction label timeout) = idle _ refl
effect_logs x few process (OpenTransaction label guid) = idle _ (opened_transaction_idle x process label (transaction_with x guid))
effect_logs x few process (CommitTransaction label) = commit_logs x few (transaction_named x process label)
effect_logs x few process (RollbackTransaction label) = idle _ (rollback_idle x (transaction_named x process label))
effect_logs x few process (GetTransactionInformation label) = idle _ refl
effect_logs x few process (CreateResourceManager label durability) = idle _ refl
effect_logs x few process (OpenResourceManager label guid) = idle _ (opened_manager_idle x process label (manager_with x guid))
effect_logs x few process (RecoverResourceManager label) = idle _ (recovered_idle x (manager_named x process label))
effect_logs x few process (GetNotificationResourceManager label) = idle _ (taken_idle x (manager_named x process label))
effect_logs x few process (CreateEnlistment label manager transaction kind) = idle _ (enlisted_idle x process label (manager_named x process manager) (transaction_named x process transaction) kind)
effect_logs x few process (OpenEnlistment label manager guid) = idle _ (opened_enlistment_idle x process label (enlistment_with x (manager_named x process manager) guid))
effect_logs x few process (RecoverEnlistment label) = answered_logs x few (enlistment_named x process label) recovery_of
effect_logs x few process (PrePrepareComplete label) = answered_logs x few (enlistment_named x process label) (λ e. PhaseInput.PrePrepareComplete)
effect_logs x few process (PrepareComplete label) = answered_logs x few (enlistment_named x process label) (λ e. PhaseInput.PrepareComplete)
effect_logs x few process (ReadOnlyEnlistment label) = answered_logs x few (enlistment_named x process label) (λ e. PhaseInput.ReadOnly (share_of e))
effect_logs x few process (CommitComplete label) = answered_logs x few (enlistment_named x process label) (λ e. PhaseInput.CommitComplete)
effect_logs x few process (RollbackComplete label) = answered_logs x few (enlistment_named x process label) (λ e. PhaseInput.RollbackComplete)
effect_logs x few process (SinglePhaseReject label) = answered_logs x few (enlistment_named x process label) (λ e. PhaseInput.SinglePhaseReject)
effect_logs x few process (RollbackEnlistment label) = answered_logs x few (enlistment_named x process label) (λ e. PhaseInput.Rollback)
effect_logs x few process (PrePrepareEnlistment label) = answered_logs x few (enlistment_named x process label) (λ e. PhaseInput.PrePrepare)
effect_logs x few process (PrepareEnlistment label) = answered_logs x few (enlistment_named x process label) (λ e. PhaseInput.Prepare)
effect_logs x few process (CommitEnlistment label) = answered_logs x few (enlistment_named x process label) (λ e. PhaseInput.Commit)
effect_logs x few process (SetEnlistmentRecoveryInformation label information) = idle _ (informed_idle x (enlistment_named x process label) information)
effect_logs x few process (GetEnlistmentRecoveryInformation label) = idle _ refl
effect_logs x few process (CreateFile label path access share disposition) = opening_logs x process label None (create_file x.files None path access share disposition)
effect_logs x few process (CreateFileTransacted label path access share disposition transaction) =
    opening_logs x process label (caller x process transaction) (create_file x.files (caller x process transaction) path access share disposition)
effect_logs x few process (ReadFile file offset many) = on_file_logs x (file_named x process file) (λ o. read_file x.files o offset many)
effect_logs x few process (WriteFile file offset bytes) = on_file_logs x (file_named x process file) (λ o. write_file o offset bytes)
effect_logs x few process (SetEndOfFile file size) = on_file_logs x (file_named x process file) (λ o. set_end o size)
effect_logs x few process (WriteUnits file start contents) = on_file_logs x (file_named x process file) (λ o. write_file o start contents)
effect_logs x few process (GetFileSizeEx file) = on_file_logs x (file_named x process file) (λ o. get_size x.files o)
effect_logs x few process (FlushFileBuffers file) = on_file_logs x (file_named x process file) (λ o. flush_file)
effect_logs x few process (DeleteFile path) = files_logs x None (delete_file x.files None path)
effect_logs x few process (CreateDirectory path) = files_logs x None (create_directory x.files None path)
effect_logs x few process (RemoveDirectory path) = files_logs x None (remove_directory x.files None path)
effect_logs x few process (MoveFile source target) = files_logs x None (move_file x.files None source target)
effect_logs x few process (DeleteFileTransacted path transaction) = files_logs x (caller x process transaction) (delete_file x.files (caller x process transaction) path)
effect_logs x few process (CreateDirectoryTransacted path transaction) = files_logs x (caller x process transaction) (create_directory x.files (caller x process transaction) path)
effect_logs x few process (RemoveDirectoryTransacted path transaction) = files_logs x (caller x process transaction) (remove_directory x.files (caller x process transaction) path)
effect_logs x few process (MoveFileTransacted source target transaction) = files_logs x (caller x process transaction) (move_file x.files (caller x process transaction) source target)
effect_logs x few process (FindFiles searched) = files_logs x None (find_files x.files None searched)
effect_logs x few process (FindFilesTransacted searched transaction) = files_logs x (caller x process transaction) (find_files x.files (caller x process transaction) searched)
effect_logs x few process (KvSet label key value) = idle _ refl
effect_logs x few process (KvUnset label key) = idle _ refl
effect_logs x few process (KvGet view key) = idle _ refl
effect_logs x few process (KvList view) = idle _ refl
effect_logs x few process (CloseHandle label) = close_logs x process label
effect_logs x few process (DuplicateHandle label from source) = idle _ (bound_idle x process label (object_at x.handles from source))
effect_logs x few process Exit = exit_logs x process

refused_logs : (x : Present) (tested : Option Refusal) (effect : Outcome) → IsLogged effect → IsLogged (refuse_or x tested effect)
refused_logs x None effect is = is
refused_logs x (Some refusal) effect is = replied x (Refused refusal)

-- for each event, what a command comes to puts and cuts the bytes of a file no more than twice
pub decided_logs : (x : Present) → IsSoundFiles x → (process : Pid) (command : Command) → IsLogged (decide x process command)
decided_logs x sound process command =
    refused_logs x (refusal_of x process command) (command_effect x process command) (effect_logs x (own_few x sound) process command)

-- for each event, what the passing of time comes to puts and cuts a file no more than twice, whether the machine is up or down
pub ticked_logs : (x : Present) (ms : ℕ) → IsLogged (decide_tick x ms)
ticked_logs x ms = refused_logs x (first_refusal ((not x.machine.is_up, MachineDown) ∷ [])) (tick x ms) (tick_logs x ms)
