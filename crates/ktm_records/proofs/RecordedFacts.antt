-- What a machine records applies, but for the limits, whatever command it is given, and whatever time passes.
use Rattle.std.proofs.Common.{◌≡◌, ℕ, not, Bool, false, filter, List, [], ◌∷◌, ◌++◌, Option, Some, None, refl, sym, ◌∙◌, ap, subst}
use Rattle.std.proofs.lemmas.Bool.{and_from, eq-eqb, not_from_false, true≢false}
use Rattle.std.specs.List.{list_any}
use Rattle.ktm_base.specs.declared.id.Id.{Id}
use Rattle.ktm_base.specs.declared.id.Label.{Label}
use Rattle.ktm_base.specs.declared.id.Pid.{Pid}
use Rattle.ktm_base.specs.declared.refusal.Refusal.{Refusal}
use Rattle.ktm_base.specs.declared.refusal.Refusal.TheVariants.{MachineDown}
use Rattle.ktm_world.specs.declared.command.Command.{Command}
use Rattle.ktm_world.specs.declared.command.Command.TheVariants.{CreateTransaction, OpenTransaction, CommitTransaction, RollbackTransaction, GetTransactionInformation, CreateResourceManager, OpenResourceManager, RecoverResourceManager, GetNotificationResourceManager, CreateEnlistment, OpenEnlistment, RecoverEnlistment, PrePrepareComplete, PrepareComplete, ReadOnlyEnlistment, CommitComplete, RollbackComplete, SinglePhaseReject, RollbackEnlistment, PrePrepareEnlistment, PrepareEnlistment, CommitEnlistment, SetEnlistmentRecoveryInformation, GetEnlistmentRecoveryInformation, CreateFile, CreateFileTransacted, ReadFile, WriteFile, SetEndOfFile, WriteUnits, GetFileSizeEx, FlushFileBuffers, DeleteFile, CreateDirectory, RemoveDirectory, MoveFile, DeleteFileTransacted, CreateDirectoryTransacted, RemoveDirectoryTransacted, MoveFileTransacted, FindFiles, FindFilesTransacted, KvSet, KvUnset, KvGet, KvList, CloseHandle, DuplicateHandle, Exit}
use Rattle.ktm_world.specs.declared.event.Event.TheVariants.{MadeRm}
use Rattle.ktm_world.specs.declared.object.Object.{Object}
use Rattle.ktm_world.specs.declared.object.Transaction.{Transaction}
use Rattle.ktm_world.specs.declared.options.Durability.{Durability}
use Rattle.ktm_world.specs.declared.options.EnlistmentKind.{EnlistmentKind}
use Rattle.ktm_world.specs.Decide.{caller, command_effect, command_tests, decide, of_files, on_file, transacted}
use Rattle.ktm_world.specs.Durable.{is_manager}
use Rattle.ktm_world.specs.Enlistments.{Enlistment, Manager}
use Rattle.ktm_world.specs.FileCalls.{create_directory, create_file, delete_file, find_files, flush_file, get_size, move_file, read_file, remove_directory}
use Rattle.ktm_world.specs.FileOutcome.{FileOutcome}
use Rattle.ktm_world.specs.Files.{OpenFile}
use Rattle.ktm_world.specs.HandleCalls.{bind_to, duplicate_handle}
use Rattle.ktm_world.specs.Handles.{object_at}
use Rattle.ktm_world.specs.Labels.{enlistment_named, file_named, id_of_named, manager_named, transaction_named, transaction_tests}
use Rattle.ktm_world.specs.Outcome.{Outcome, first_refusal, refuse_or}
use Rattle.ktm_world.specs.Present.{Present}
use Rattle.ktm_world.specs.TransactionCalls.{commit_enlistment, commit_complete, commit_transaction, create_enlistment, create_resource_manager, create_transaction, enlist, enlistment_with, get_information, get_notification, get_transaction_information, keep_information, manager_with, new_id, open_enlistment, open_resource_manager, open_to_enlistment, open_to_manager, open_to_transaction, open_transaction, pre_prepare_complete, pre_prepare_enlistment, prepare_complete, prepare_enlistment, read_only_enlistment, recover_all, recover_enlistment, recover_resource_manager, rollback_complete, rollback_enlistment, rollback_transaction, set_information, single_phase_reject, take_first, tick, transaction_with}
use Rattle.ktm_world.specs.Transactions.{same_id}
use Rattle.ktm_world.specs.World.{decide_tick}
use Rattle.txf_laws.specs.Footprint.{ListsLaw}
use Rattle.txf_laws.specs.Formed.{FormedLaw}
use Rattle.ktm_records.specs.Kept.{IsKept}
use Rattle.ktm_records.specs.RecordedFacts.{RecordedFactsLaw}
use Rattle.ktm_courses.specs.SoundCourse.{is_counted}
use Rattle.ktm_records.proofs.offered.Agreement.{Agreed}
use Rattle.ktm_records.proofs.offered.Agreement.{durable_ids}
use Rattle.ktm_courses.proofs.offered.Calls.{Passes, enlistment-named, passed, transaction-named}
use Rattle.ktm_courses.proofs.offered.FileSteps.{units-pass}
use Rattle.ktm_records.proofs.CourseFacts.{facts-commit_complete, facts-commit_enlistment, facts-commit_of, facts-pre_prepare_complete, facts-pre_prepare_enlistment, facts-prepare_complete, facts-prepare_enlistment, facts-read_only, facts-recover, facts-rollback_complete, facts-rollback_enlistment, facts-rollback_of, facts-single_phase_reject}
use Rattle.txf_laws.proofs.offered.Diamonds.{none-from}
use Rattle.txf_laws.proofs.offered.Elements.{IsIn-filter, list_all-at}
use Rattle.ktm_records.proofs.Facts.{facts-one}
use Rattle.txf_laws.proofs.offered.Lists.{IsIn-unmap}
use Rattle.ktm_courses.proofs.offered.NewObjects.{next-other}
use Rattle.ktm_records.proofs.offered.PlainFacts.{MayLand, facts-of_files, facts-opening, facts-plain, facts-set_end, facts-write, lands-created}
use Rattle.ktm_owned.proofs.offered.PlainCalls.{plain-deleted, plain-made, plain-moved, plain-removed}
use Rattle.ktm_records.proofs.UndoFacts.{FactsOf, facts-closed, facts-exit, facts-tick}
use Rattle.std.proofs.lemmas.Option.{none-some}

module _ (lists : ListsLaw) (formed : FormedLaw) (x : Present) (kept : IsKept x) where
  -- ---- what records nothing

  opened-transaction : (process : Pid) (label : Label) (t : Option Transaction) → FactsOf x (open_to_transaction x process label t)
  opened-transaction process label None = refl
  opened-transaction process label (Some t) = refl

  opened-manager : (process : Pid) (label : Label) (m : Option Manager) → FactsOf x (open_to_manager x process label m)
  opened-manager process label None = refl
  opened-manager process label (Some m) = refl

  opened-enlistment : (process : Pid) (label : Label) (e : Option Enlistment) → FactsOf x (open_to_enlistment x process label e)
  opened-enlistment process label None = refl
  opened-enlistment process label (Some e) = refl

  enlisted : (process : Pid) (label : Label) (m : Option Manager) (t : Option Transaction) (kind : EnlistmentKind) → FactsOf x (enlist x process label m t kind)
  enlisted process label (Some m) (Some t) kind = refl
  enlisted process label None t kind = refl
  enlisted process label (Some m) None kind = refl

  told : (m : Option Manager) → FactsOf x (recover_all x m)
  told None = refl
  told (Some m) = refl

  taken : (m : Option Manager) → FactsOf x (take_first x m)
  taken None = refl
  taken (Some m) = refl

  bound : (process : Pid) (label : Label) (object : Option Object) → FactsOf x (bind_to x process label object)
  bound process label None = refl
  bound process label (Some object) = refl

  informed : (e : Option Enlistment) (information : List ℕ) → FactsOf x (keep_information x e information)
  informed None information = refl
  informed (Some e) information = refl

  -- a call that changes nothing of the files
  answered : (who : Option Id) (o : FileOutcome) → o.change ≡ None → FactsOf x (of_files x who o)
  answered who o none = facts-of_files x who o kept.sound.files kept.agrees (λ plain change is. absurd (none-some change (sym none ∙ is)))

  answered-file : (o : Option OpenFile) (call : OpenFile → FileOutcome) → ((f : OpenFile) → (call f).change ≡ None) → FactsOf x (on_file x o call)
  answered-file None call none = refl
  answered-file (Some f) call none = answered f.transaction (call f) (none f)

  reads-nothing : (o : OpenFile) (offset many : ℕ) → (read_file x.files o offset many).change ≡ None
  unfolding read_file
  reads-nothing o offset many = refl

  sizes-nothing : (o : OpenFile) → (get_size x.files o).change ≡ None
  unfolding get_size
  sizes-nothing o = refl

  finds-nothing : (who : Option Id) (searched : List ℕ) → (find_files x.files who searched).change ≡ None
  unfolding find_files
  finds-nothing who searched = refl

  -- ---- a resource manager

  -- the next Id is new to the log
  next-manager : is_manager x.recorded (new_id x x.transactions.last_manager) ≡ false
  next-manager = ap (list_any (λ other. same_id other (new_id x x.transactions.last_manager))) kept.agrees.managers ∙ none-from (λ other. same_id other (new_id x x.transactions.last_manager)) (durable_ids x.managers) (λ a there.
      let from = IsIn-unmap (λ (m : Manager). m.id) a (filter (λ (m : Manager). m.is_durable) x.managers) there in
      subst (λ b. same_id b (new_id x x.transactions.last_manager) ≡ false) from.1 (next-other x.recorded.boots x.transactions.last_manager (from.0).id
      (list_all-at (λ (m : Manager). is_counted x.recorded.boots x.transactions.last_manager m.id) x.managers kept.sound.course.managers.counted from.0 (IsIn-filter (λ (m : Manager). m.is_durable) x.managers from.0 from.2).0)))

  made : (process : Pid) (label : Label) (durability : Durability) → FactsOf x (create_resource_manager x process label durability)
  unfolding create_resource_manager
  made process label Durability.Volatile = refl
  made process label Durability.Durable = facts-one x.recorded (MadeRm (new_id x x.transactions.last_manager)) (and_from _ _ (eq-eqb x.recorded.boots x.recorded.boots refl) (not_from_false _ next-manager))

  -- ---- a call that is made in a transaction

  -- it is made by one, or refused
  in-one : (process : Pid) (transaction : Label) (tests : List (Bool × Refusal)) → Passes (transacted x process transaction tests) → caller x process transaction ≡ None → ⊥
  in-one process transaction tests passes plain = go (transaction_named x process transaction) passes plain
    where
      go : (o : Option Transaction) → Passes (transaction_tests o ++ tests) → id_of_named o ≡ None → ⊥
      go None passes' plain' = true≢false (passed passes').0
      go (Some t) passes' plain' = none-some t.id (sym plain')

  own : (process : Pid) (transaction : Label) (tests : List (Bool × Refusal)) (o : FileOutcome) → Passes (transacted x process transaction tests) → FactsOf x (of_files x (caller x process transaction) o)
  own process transaction tests o passes = facts-of_files x (caller x process transaction) o kept.sound.files kept.agrees (λ plain. absurd (in-one process transaction tests passes plain))

  plain : (o : FileOutcome) → MayLand x o.change → FactsOf x (of_files x None o)
  plain o lands = facts-of_files x None o kept.sound.files kept.agrees (λ is. lands)

  -- what was recorded agrees, and is carried out
  agreed : Agreed x
  agreed = record { agrees = kept.agrees; carried = kept.carried_out }

  -- ---- every call

  facts-command : (process : Pid) (command : Command) → first_refusal ((not x.machine.is_up, MachineDown) ∷ command_tests x process command) ≡ None → Passes (command_tests x process command) → FactsOf x (command_effect x process command)
  unfolding create_transaction open_transaction commit_transaction rollback_transaction get_transaction_information open_resource_manager recover_resource_manager get_notification create_enlistment open_enlistment recover_enlistment pre_prepare_complete prepare_complete read_only_enlistment commit_complete rollback_complete single_phase_reject rollback_enlistment pre_prepare_enlistment prepare_enlistment commit_enlistment set_information get_information duplicate_handle
  facts-command process (CreateTransaction label timeout) none passes = refl
  facts-command process (OpenTransaction label guid) none passes = opened-transaction process label (transaction_with x guid)
  facts-command process (CommitTransaction label) none passes = facts-commit_of x kept (transaction_named x process label) (transaction-named x process label) passes
  facts-command process (RollbackTransaction label) none passes = facts-rollback_of x kept (transaction_named x process label) (transaction-named x process label) passes
  facts-command process (GetTransactionInformation label) none passes = refl
  facts-command process (CreateResourceManager label durability) none passes = made process label durability
  facts-command process (OpenResourceManager label guid) none passes = opened-manager process label (manager_with x guid)
  facts-command process (RecoverResourceManager label) none passes = told (manager_named x process label)
  facts-command process (GetNotificationResourceManager label) none passes = taken (manager_named x process label)
  facts-command process (CreateEnlistment label manager transaction kind) none passes = enlisted process label (manager_named x process manager) (transaction_named x process transaction) kind
  facts-command process (OpenEnlistment label manager guid) none passes = opened-enlistment process label (enlistment_with x (manager_named x process manager) guid)
  facts-command process (RecoverEnlistment label) none passes = facts-recover x kept (enlistment_named x process label) (enlistment-named x process label)
  facts-command process (PrePrepareComplete label) none passes = facts-pre_prepare_complete x kept (enlistment_named x process label) (enlistment-named x process label) passes
  facts-command process (PrepareComplete label) none passes = facts-prepare_complete x kept (enlistment_named x process label) (enlistment-named x process label) passes
  facts-command process (ReadOnlyEnlistment label) none passes = facts-read_only x kept (enlistment_named x process label) (enlistment-named x process label) passes
  facts-command process (CommitComplete label) none passes = facts-commit_complete x kept (enlistment_named x process label) (enlistment-named x process label) passes
  facts-command process (RollbackComplete label) none passes = facts-rollback_complete x kept (enlistment_named x process label) (enlistment-named x process label)
  facts-command process (SinglePhaseReject label) none passes = facts-single_phase_reject x kept (enlistment_named x process label) (enlistment-named x process label)
  facts-command process (RollbackEnlistment label) none passes = facts-rollback_enlistment x kept (enlistment_named x process label) (enlistment-named x process label) passes
  facts-command process (PrePrepareEnlistment label) none passes = facts-pre_prepare_enlistment x kept (enlistment_named x process label) (enlistment-named x process label) passes
  facts-command process (PrepareEnlistment label) none passes = facts-prepare_enlistment x kept (enlistment_named x process label) (enlistment-named x process label) passes
  facts-command process (CommitEnlistment label) none passes = facts-commit_enlistment x kept (enlistment_named x process label) (enlistment-named x process label) passes
  facts-command process (SetEnlistmentRecoveryInformation label information) none passes = informed (enlistment_named x process label) information
  facts-command process (GetEnlistmentRecoveryInformation label) none passes = refl
  facts-command process (CreateFile label path access share disposition) none passes =
      facts-opening x process label None (create_file x.files None path access share disposition) (plain (create_file x.files None path access share disposition) (lands-created lists formed x kept.sound.files path access share disposition (passed passes).1))
  facts-command process (CreateFileTransacted label path access share disposition transaction) none passes =
      let o = create_file x.files (caller x process transaction) path access share disposition in
      facts-opening x process label (caller x process transaction) o (own process transaction _ o passes)
  facts-command process (ReadFile file offset many) none passes = answered-file (file_named x process file) (λ o. read_file x.files o offset many) (λ o. reads-nothing o offset many)
  facts-command process (WriteFile file offset bytes) none passes = facts-write lists formed x kept.sound.files kept.agrees process file offset bytes (units-pass x process file offset bytes passes)
  facts-command process (SetEndOfFile file size) none passes = facts-set_end lists formed x kept.sound.files kept.agrees process file size passes
  facts-command process (WriteUnits file start contents) none passes = facts-write lists formed x kept.sound.files kept.agrees process file start contents passes
  facts-command process (GetFileSizeEx file) none passes = answered-file (file_named x process file) (λ o. get_size x.files o) sizes-nothing
  facts-command process (FlushFileBuffers file) none passes = answered-file (file_named x process file) (λ o. flush_file) (λ o. refl)
  facts-command process (DeleteFile path) none passes = facts-plain lists formed x kept.sound.files kept.agrees (delete_file x.files None path) (plain-deleted lists formed x path (not x.machine.is_up, MachineDown) none kept.sound.files)
  facts-command process (CreateDirectory path) none passes = facts-plain lists formed x kept.sound.files kept.agrees (create_directory x.files None path) (plain-made lists formed x path (not x.machine.is_up, MachineDown) none kept.sound.files)
  facts-command process (RemoveDirectory path) none passes = facts-plain lists formed x kept.sound.files kept.agrees (remove_directory x.files None path) (plain-removed lists formed x path (not x.machine.is_up, MachineDown) none kept.sound.files)
  facts-command process (MoveFile source target) none passes = facts-plain lists formed x kept.sound.files kept.agrees (move_file x.files None source target) (plain-moved lists formed x source target (not x.machine.is_up, MachineDown) none kept.sound.files)
  facts-command process (DeleteFileTransacted path transaction) none passes = own process transaction _ (delete_file x.files (caller x process transaction) path) passes
  facts-command process (CreateDirectoryTransacted path transaction) none passes = own process transaction _ (create_directory x.files (caller x process transaction) path) passes
  facts-command process (RemoveDirectoryTransacted path transaction) none passes = own process transaction _ (remove_directory x.files (caller x process transaction) path) passes
  facts-command process (MoveFileTransacted source target transaction) none passes = own process transaction _ (move_file x.files (caller x process transaction) source target) passes
  facts-command process (FindFiles searched) none passes = answered None (find_files x.files None searched) (finds-nothing None searched)
  facts-command process (FindFilesTransacted searched transaction) none passes = answered (caller x process transaction) (find_files x.files (caller x process transaction) searched) (finds-nothing (caller x process transaction) searched)
  facts-command process (KvSet transaction key value) none passes = refl
  facts-command process (KvUnset transaction key) none passes = refl
  facts-command process (KvGet view key) none passes = refl
  facts-command process (KvList view) none passes = refl
  facts-command process (CloseHandle label) none passes = facts-closed x process label kept.sound.course agreed
  facts-command process (DuplicateHandle label from source) none passes = bound process label (object_at x.handles from source)
  facts-command process Exit none passes = facts-exit x process kept.sound.course agreed

  -- refused or not
  facts-refuse_or : (tests : List (Bool × Refusal)) (effect : Outcome) → (first_refusal tests ≡ None → FactsOf x effect) → FactsOf x (refuse_or x (first_refusal tests) effect)
  facts-refuse_or tests effect is = or_refused (first_refusal tests) refl
    where
      or_refused : (refusal : Option Refusal) → first_refusal tests ≡ refusal → FactsOf x (refuse_or x refusal effect)
      or_refused (Some refusal) refused = refl
      or_refused None none = is none

  facts-decided : (process : Pid) (command : Command) → FactsOf x (decide x process command)
  facts-decided process command = facts-refuse_or ((not x.machine.is_up, MachineDown) ∷ command_tests x process command) (command_effect x process command) (λ none.
      let all : Passes ((not x.machine.is_up, MachineDown) ∷ command_tests x process command) = record { none = none } in
      facts-command process command none (passed all).1)

  facts-decide_tick : (ms : ℕ) → FactsOf x (decide_tick x ms)
  facts-decide_tick ms = facts-refuse_or ((not x.machine.is_up, MachineDown) ∷ []) (tick x ms) (λ none. facts-tick x ms kept.sound.course agreed)

pub recorded_facts_law : ListsLaw → FormedLaw → RecordedFactsLaw
recorded_facts_law lists formed = record {
  commands = λ x process command kept. facts-decided lists formed x kept process command;
  ticks = λ x ms kept. facts-decide_tick lists formed x kept ms;
}
