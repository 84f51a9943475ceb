-- How many bytes a command records that neither ends a transaction nor tells of its end: a few, and the pages of what it writes.
use Rattle.std.proofs.Common.{◌≡◌, ℕ, ◌+◌, ◌*◌, ◌≤◌, false, List, [], Option, Some, None, is_some, refl, ◌∙◌, ap, arith}
use Rattle.std.proofs.lemmas.Bool.{true≢false}
use Rattle.ktm_base.specs.declared.id.Id.{Id}
use Rattle.ktm_base.specs.declared.id.Label.{Label}
use Rattle.ktm_base.specs.declared.id.Pid.{Pid}
use Rattle.ktm_base.specs.declared.refusal.Refusal.{Refusal}
use Rattle.ktm_world.specs.declared.command.Command.{Command}
use Rattle.ktm_world.specs.declared.command.Command.TheVariants.{CreateTransaction, OpenTransaction, CreateResourceManager, OpenResourceManager, RecoverResourceManager, CreateEnlistment, OpenEnlistment, RecoverEnlistment, SetEnlistmentRecoveryInformation, GetEnlistmentRecoveryInformation, CreateFile, CreateFileTransacted, ReadFile, WriteFile, SetEndOfFile, WriteUnits, GetFileSizeEx, FlushFileBuffers, DeleteFile, CreateDirectory, RemoveDirectory, MoveFile, DeleteFileTransacted, CreateDirectoryTransacted, RemoveDirectoryTransacted, MoveFileTransacted, FindFiles, FindFilesTransacted, KvSet, KvUnset, KvGet, KvList, DuplicateHandle}
use Rattle.ktm_world.specs.declared.event.Event.TheVariants.{MadeRm}
use Rattle.ktm_world.specs.declared.object.Object.{Object}
use Rattle.ktm_world.specs.declared.object.Transaction.{Transaction}
use Rattle.ktm_world.specs.declared.options.Durability.{Durability}
use Rattle.ktm_world.specs.declared.options.EnlistmentKind.{EnlistmentKind}
use Rattle.ktm_world.specs.declared.reply.Reply.TheVariants.{Done}
use Rattle.ktm_world.specs.Completions.{completion_of}
use Rattle.ktm_world.specs.Decide.{bound_file, caller, command_effect, decide, of_files, on_file, opening, refusal_of, on_file_tests, own_tests}
use Rattle.ktm_world.specs.Enlistments.{Enlistment, Manager}
use Rattle.ktm_world.specs.FileCalls.{create_directory, create_file, delete_file, find_files, flush_file, get_size, move_file, read_file, remove_directory, set_end, write_file, write_units_tests}
use Rattle.ktm_world.specs.FileOutcome.{FileOutcome}
use Rattle.ktm_world.specs.Files.{OpenFile}
use Rattle.ktm_world.specs.HandleCalls.{bind_to, duplicate_handle}
use Rattle.ktm_world.specs.Handles.{object_at}
use Rattle.ktm_world.specs.Labels.{enlistment_named, file_named, manager_named, transaction_named, file_tests}
use Rattle.ktm_world.specs.Outcome.{Outcome, refuse_or}
use Rattle.ktm_world.specs.Present.{Present}
use Rattle.ktm_world.specs.Steps.{led}
use Rattle.ktm_world.specs.TransactionCalls.{answering, course_of, create_enlistment, create_resource_manager, create_transaction, enlist, enlistment_with, get_information, keep_information, manager_with, new_id, open_enlistment, open_resource_manager, open_to_enlistment, open_to_manager, open_to_transaction, open_transaction, recover_all, recover_enlistment, recover_resource_manager, recovery_of, set_information, transaction_with}
use Rattle.ktm_world.specs.Uses.{file_room}
use Rattle.ktm_courses.proofs.offered.Calls.{of-answering, passed, Passes}
use Rattle.ktm_courses.proofs.offered.FileSteps.{passes-right, units-pass}
use Rattle.ktm_steps.proofs.offered.Recorded.{silent-led, silent-recovery}
use Rattle.ktm_records.specs.FileCallsMade.{FileCallsLaw, IsRightCall, file_call}
use Rattle.ktm_records.specs.Kept.{IsKept}
use Rattle.ktm_records.proofs.offered.AgreementOfCourses.{arrival}
use Rattle.ktm_room.proofs.offered.CourseSizes.{one-sized, sizes}
use Rattle.ktm_room.proofs.FileCallSizes.{IsShort, file-size, short-created, short-cut, short-deleted, short-directory, short-found, short-moved, short-read, short-removed, short-sized, written-size}

module _ (x : Present) (kept : IsKept x) where
  -- an outcome records few bytes
  abbrev pub Few : Outcome → Type 0
  Few o = sizes o.events ≤ 275 + 4 * x.recorded.units

  silent : sizes [] ≤ 275 + 4 * x.recorded.units
  silent = omega arith

  -- ---- objects

  opened-transaction : (process : Pid) (label : Label) (t : Option Transaction) → Few (open_to_transaction x process label t)
  opened-transaction process label None = silent
  opened-transaction process label (Some t) = silent

  opened-manager : (process : Pid) (label : Label) (m : Option Manager) → Few (open_to_manager x process label m)
  opened-manager process label None = silent
  opened-manager process label (Some m) = silent

  opened-enlistment : (process : Pid) (label : Label) (e : Option Enlistment) → Few (open_to_enlistment x process label e)
  opened-enlistment process label None = silent
  opened-enlistment process label (Some e) = silent

  enlisted : (process : Pid) (label : Label) (m : Option Manager) (t : Option Transaction) (kind : EnlistmentKind) → Few (enlist x process label m t kind)
  enlisted process label (Some m) (Some t) kind = silent
  enlisted process label None t kind = silent
  enlisted process label (Some m) None kind = silent

  told : (m : Option Manager) → Few (recover_all x m)
  told None = silent
  told (Some m) = silent

  bound : (process : Pid) (label : Label) (object : Option Object) → Few (bind_to x process label object)
  bound process label None = silent
  bound process label (Some object) = silent

  informed : (e : Option Enlistment) (information : List ℕ) → Few (keep_information x e information)
  informed None information = silent
  informed (Some e) information = silent

  made : (process : Pid) (label : Label) (durability : Durability) → Few (create_resource_manager x process label durability)
  unfolding create_resource_manager
  made process label Durability.Volatile = silent
  made process label Durability.Durable = let one = one-sized (MadeRm (new_id x x.transactions.last_manager)) in omega (arith, one)

  -- an enlistment that recovers records nothing
  few-recovery : (e : Option Enlistment) → Few (answering x e recovery_of)
  few-recovery o = of-answering Few x o recovery_of silent (λ e is t there own found.
      let same = ap sizes ((arrival x (led (recovery_of e) (course_of x t (Some e))) Done).events ∙ silent-led (recovery_of e) (course_of x t (Some e)) refl (silent-recovery e)) in
      omega (arith, same))

  -- ---- files

  few-files : (who : Option Id) (o : FileOutcome) → IsRightCall x who o → IsShort o.change → Few (of_files x who o)
  few-files who o right short = let few = file-size x who o right short in omega (arith, few)

  few-opening : (process : Pid) (label : Label) (who : Option Id) (o : FileOutcome) → IsRightCall x who o → IsShort o.change → Few (opening x process label who o)
  few-opening process label who o right short = go o.opened
    where
      go : (opened : Option OpenFile) → Few (bound_file process label opened (of_files x who o))
      go None = few-files who o right short
      go (Some file) = few-files who o right short

  few-on_file : (o : Option OpenFile) (call : OpenFile → FileOutcome) → ((f : OpenFile) → o ≡ Some f → IsRightCall x f.transaction (call f) × IsShort (call f).change) → Few (on_file x o call)
  few-on_file None call right = silent
  few-on_file (Some f) call right = let is = right f refl in few-files f.transaction (call f) is.0 is.1

  -- ---- every call

  module _ (calls : FileCallsLaw) where
    right-on : (process : Pid) (command : Command) (label : Label) (call : OpenFile → FileOutcome) → refusal_of x process command ≡ None
        → ((f : OpenFile) → file_named x process label ≡ Some f → file_call x process command ≡ Some (f.transaction, call f))
        → ((f : OpenFile) → file_named x process label ≡ Some f → IsShort (call f).change) → Few (on_file x (file_named x process label) call)
    right-on process command label call none is short = few-on_file (file_named x process label) call (λ f named. (calls x process command f.transaction (call f) kept none (is f named), short f named))

    right : (process : Pid) (command : Command) (who : Option Id) (o : FileOutcome) → refusal_of x process command ≡ None → file_call x process command ≡ Some (who, o) → IsShort o.change → Few (of_files x who o)
    right process command who o none is short = few-files who o (calls x process command who o kept none is) short

    -- bytes that are put, where there is room on the disk
    few-write : (process : Pid) (command : Command) (label : Label) (offset : ℕ) (bytes : List ℕ) → refusal_of x process command ≡ None
        → ((f : OpenFile) → file_named x process label ≡ Some f → file_call x process command ≡ Some (f.transaction, write_file f offset bytes))
        → Passes (on_file_tests x process label (λ o. write_units_tests x.files (file_room x) o offset bytes)) → Few (on_file x (file_named x process label) (λ o. write_file o offset bytes))
    unfolding write_units_tests
    few-write process command label offset bytes none is passes = go (file_named x process label) refl (passes-right (file_tests x process label) _ passes)
      where
        go : (o : Option OpenFile) → file_named x process label ≡ o → Passes (own_tests o (λ o. write_units_tests x.files (file_room x) o offset bytes)) → Few (on_file x o (λ o. write_file o offset bytes))
        go None named tests = silent
        go (Some f) named tests =
            let few = written-size x f offset bytes (calls x process command f.transaction (write_file f offset bytes) kept none (is f named)) (passed (passed tests).1).0 in
            omega (arith, few)

    few-effect : (process : Pid) (command : Command) → is_some (completion_of command) ≡ false → refusal_of x process command ≡ None → Few (command_effect x process command)
    unfolding create_transaction open_transaction open_resource_manager recover_resource_manager create_enlistment open_enlistment recover_enlistment set_information get_information duplicate_handle
    few-effect process (CreateTransaction label timeout) other none = silent
    few-effect process (OpenTransaction label guid) other none = opened-transaction process label (transaction_with x guid)
    few-effect process (CreateResourceManager label durability) other none = made process label durability
    few-effect process (OpenResourceManager label guid) other none = opened-manager process label (manager_with x guid)
    few-effect process (RecoverResourceManager label) other none = told (manager_named x process label)
    few-effect process (CreateEnlistment label manager transaction kind) other none = enlisted process label (manager_named x process manager) (transaction_named x process transaction) kind
    few-effect process (OpenEnlistment label manager guid) other none = opened-enlistment process label (enlistment_with x (manager_named x process manager) guid)
    few-effect process (RecoverEnlistment label) other none = few-recovery (enlistment_named x process label)
    few-effect process (SetEnlistmentRecoveryInformation label information) other none = informed (enlistment_named x process label) information
    few-effect process (GetEnlistmentRecoveryInformation label) other none = silent
    few-effect process (CreateFile label path access share disposition) other none =
        let o = create_file x.files None path access share disposition in
        few-opening process label None o (calls x process (CreateFile label path access share disposition) None o kept none refl) (short-created x.files None path access share disposition)
    few-effect process (CreateFileTransacted label path access share disposition transaction) other none =
        let who = caller x process transaction in
        let o = create_file x.files who path access share disposition in
        few-opening process label who o (calls x process (CreateFileTransacted label path access share disposition transaction) who o kept none refl) (short-created x.files who path access share disposition)
    few-effect process (ReadFile file offset many) other none = right-on process (ReadFile file offset many) file (λ o. read_file x.files o offset many) none (λ f named. rw named refl) (λ f named. short-read x.files f offset many)
    few-effect process (WriteFile file offset bytes) other none = few-write process (WriteFile file offset bytes) file offset bytes none (λ f named. rw named refl)
        (units-pass x process file offset bytes (passed (record { none = none })).1)
    few-effect process (SetEndOfFile file size) other none = right-on process (SetEndOfFile file size) file (λ o. set_end o size) none (λ f named. rw named refl) (λ f named. short-cut f size)
    few-effect process (WriteUnits file start contents) other none = few-write process (WriteUnits file start contents) file start contents none (λ f named. rw named refl) (passed (record { none = none })).1
    few-effect process (GetFileSizeEx file) other none = right-on process (GetFileSizeEx file) file (λ o. get_size x.files o) none (λ f named. rw named refl) (λ f named. short-sized x.files f)
    few-effect process (FlushFileBuffers file) other none = right-on process (FlushFileBuffers file) file (λ o. flush_file) none (λ f named. rw named refl) (λ f named. tt)
    few-effect process (DeleteFile path) other none = right process (DeleteFile path) None (delete_file x.files None path) none refl (short-deleted x.files None path)
    few-effect process (CreateDirectory path) other none = right process (CreateDirectory path) None (create_directory x.files None path) none refl (short-directory x.files None path)
    few-effect process (RemoveDirectory path) other none = right process (RemoveDirectory path) None (remove_directory x.files None path) none refl (short-removed x.files None path)
    few-effect process (MoveFile source target) other none = right process (MoveFile source target) None (move_file x.files None source target) none refl (short-moved x.files None source target)
    few-effect process (DeleteFileTransacted path transaction) other none =
        let who = caller x process transaction in right process (DeleteFileTransacted path transaction) who (delete_file x.files who path) none refl (short-deleted x.files who path)
    few-effect process (CreateDirectoryTransacted path transaction) other none =
        let who = caller x process transaction in right process (CreateDirectoryTransacted path transaction) who (create_directory x.files who path) none refl (short-directory x.files who path)
    few-effect process (RemoveDirectoryTransacted path transaction) other none =
        let who = caller x process transaction in right process (RemoveDirectoryTransacted path transaction) who (remove_directory x.files who path) none refl (short-removed x.files who path)
    few-effect process (MoveFileTransacted source target transaction) other none =
        let who = caller x process transaction in right process (MoveFileTransacted source target transaction) who (move_file x.files who source target) none refl (short-moved x.files who source target)
    few-effect process (FindFiles searched) other none = right process (FindFiles searched) None (find_files x.files None searched) none refl (short-found x.files None searched)
    few-effect process (FindFilesTransacted searched transaction) other none =
        let who = caller x process transaction in right process (FindFilesTransacted searched transaction) who (find_files x.files who searched) none refl (short-found x.files who searched)
    few-effect process (KvSet transaction key value) other none = silent
    few-effect process (KvUnset transaction key) other none = silent
    few-effect process (KvGet view key) other none = silent
    few-effect process (KvList view) other none = silent
    few-effect process (DuplicateHandle label from source) other none = bound process label (object_at x.handles from source)
    few-effect process _ other none = absurd (true≢false other)

    -- refused or not
    pub few-decided : (process : Pid) (command : Command) → is_some (completion_of command) ≡ false → Few (decide x process command)
    few-decided process command other = go (refusal_of x process command) refl
      where
        go : (refusal : Option Refusal) → refusal_of x process command ≡ refusal → Few (refuse_or x refusal (command_effect x process command))
        go (Some refusal) refused = silent
        go None none = few-effect process command other none
