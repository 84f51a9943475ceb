-- What is read as a command is spelled so, and what is spelled so is read.
use Rattle.std.proofs.Common.{◌≡◌, ℕ, true, List, [], ◌∷◌, ◌++◌, Option, Some, codes, refl, ◌∙◌, ap, subst, arith, lit<, append_assoc}
use Rattle.ktm_base.specs.declared.id.Label.{Label}
use Rattle.ktm_world.specs.declared.command.Command.{Command}
use Rattle.ktm_world.specs.declared.command.Command.TheVariants.{CreateTransaction, OpenTransaction, CommitTransaction, RollbackTransaction, GetTransactionInformation, CreateResourceManager, OpenResourceManager, RecoverResourceManager, GetNotificationResourceManager, CreateEnlistment, OpenEnlistment, RecoverEnlistment, PrePrepareComplete, PrepareComplete, ReadOnlyEnlistment, CommitComplete, RollbackComplete, SinglePhaseReject, RollbackEnlistment, PrePrepareEnlistment, PrepareEnlistment, CommitEnlistment, SetEnlistmentRecoveryInformation, GetEnlistmentRecoveryInformation, CreateFile, CreateFileTransacted, ReadFile, WriteFile, SetEndOfFile, WriteUnits, GetFileSizeEx, FlushFileBuffers, DeleteFile, CreateDirectory, RemoveDirectory, MoveFile, DeleteFileTransacted, CreateDirectoryTransacted, RemoveDirectoryTransacted, MoveFileTransacted, FindFiles, FindFilesTransacted, KvSet, KvUnset, KvGet, KvList, CloseHandle, DuplicateHandle, Exit}
use Rattle.ktm_world.specs.declared.options.Access.{Access}
use Rattle.ktm_world.specs.declared.options.Disposition.{Disposition}
use Rattle.ktm_world.specs.declared.options.ShareMode.{ShareMode}
use Rattle.ktm_world.specs.Values.{IsCommand}
use Rattle.ktm_codec.proofs.HexLemmas.{option_map_some}
use Rattle.ktm_codec.proofs.Steps.{bind_some, at_end_is}
use Rattle.ktm_script.specs.declared.form.Form.{Form}
use Rattle.ktm_script.specs.declared.form.Form.TheVariants as form
use Rattle.ktm_script.specs.Reading.{made, whole, form_name, form_at, arguments_at, command_at}
use Rattle.ktm_script.specs.Spelling.{space, ◌␣◌, label_spelling, access_spelling, share_spelling, disposition_spelling, command_spelling}
use Rattle.ktm_codec.specs.Quoted.{quoted}
use Rattle.ktm_script.proofs.PartLemmas.{reads_number, reads_process, reads_label, reads_view, reads_size, reads_text, reads_guid, reads_bytes, reads_durability, reads_form, reads_kind_in_transaction, reads_modes}
use Rattle.ktm_script.proofs.Readers.{Reads, ends_part, spaced, both, whole_is, whole_again}

-- a command of the grammar, and its spelling by its name and what stands behind that
record Read (name text : List ℕ) (c : Command) : Type 0 where
  pub valid : IsCommand c
  pub spelled : name ++ text ≡ command_spelling c

-- what is made of parts that were read
made_is : {X : Type 0} {Is : X → Type 0} {spell : X → List ℕ} {at : List ℕ → Option (X × List ℕ)} → Reads Is spell at → (form : Form) (make : X → Command)
    → ((x : X) → Is x → IsCommand (make x)) → ((x : X) → form_name form ++ spell x ≡ command_spelling (make x))
    → (text : List ℕ) (c : Command) → made make at text ≡ Some c → Read (form_name form) text c
made_is {X} {Is} {spell} {at} reads form make valid spelled text c e = option_map_some make (whole at text) c e (λ x f same.
    let read = whole_is reads text x f in
    subst (Read (form_name form) text) same (record { valid = valid x read.0; spelled = ap (λ (xs : List ℕ). form_name form ++ xs) read.1 ∙ spelled x }))

-- a command that is read from its spelling
record IsReadAgain (c : Command) : Type 0 where
  pub form : Form
  pub arguments : List ℕ
  pub spelled : form_name form ++ arguments ≡ command_spelling c
  pub ends : ends_part arguments ≡ true
  pub read : arguments_at form arguments ≡ Some c

made_again : {X : Type 0} {Is : X → Type 0} {spell : X → List ℕ} {at : List ℕ → Option (X × List ℕ)} → Reads Is spell at → (form : Form) (make : X → Command)
    (x : X) → Is x → form_name form ++ spell x ≡ command_spelling (make x) → ends_part (spell x) ≡ true → arguments_at form (spell x) ≡ made make at (spell x)
    → IsReadAgain (make x)
made_again {X} {Is} {spell} {at} reads form make x is spelled ends by =
    let read : made make at (spell x) ≡ Some (make x) = rw (whole_again reads x is) refl in
    record { form = form; arguments = spell x; spelled = spelled; ends = ends; read = by ∙ read }

modes_before : (a b c d : List ℕ) → (a ␣ b ␣ c) ++ space ∷ d ≡ a ␣ b ␣ c ␣ d
modes_before a b c d = simp append_assoc

-- the modes of a file in a transaction are not the last of its parts
transacted : (l : Label) (path : List ℕ) (a : Access) (s : ShareMode) (d : Disposition) (t : Label)
    → codes "CreateFileTransacted" ␣ label_spelling l ␣ quoted path ␣ ((access_spelling a ␣ share_spelling s ␣ disposition_spelling d) ++ space ∷ label_spelling t)
    ≡ command_spelling (CreateFileTransacted l path a s d t)
transacted l path a s d t =
    ap (λ (xs : List ℕ). codes "CreateFileTransacted" ␣ label_spelling l ␣ quoted path ␣ xs)
    (modes_before (access_spelling a) (share_spelling s) (disposition_spelling d) (label_spelling t))

arguments_is : (form : Form) (text : List ℕ) (c : Command) → arguments_at form text ≡ Some c → Read (form_name form) text c
arguments_is form.CreateTransaction = made_is (both reads_label (spaced (reads_number 0xFFFF_FFFF (lit< tt)))) form.CreateTransaction (λ x. CreateTransaction x.0 x.1) (λ x h. (h.0, omega (arith, h.1))) (λ x. refl)
arguments_is form.OpenTransaction = made_is (both reads_label reads_guid) form.OpenTransaction (λ x. OpenTransaction x.0 x.1) (λ x h. (h.0, h.1)) (λ x. refl)
arguments_is form.CommitTransaction = made_is reads_label form.CommitTransaction CommitTransaction (λ x h. h) (λ x. refl)
arguments_is form.RollbackTransaction = made_is reads_label form.RollbackTransaction RollbackTransaction (λ x h. h) (λ x. refl)
arguments_is form.GetTransactionInformation = made_is reads_label form.GetTransactionInformation GetTransactionInformation (λ x h. h) (λ x. refl)
arguments_is form.CreateResourceManager = made_is (both reads_label reads_durability) form.CreateResourceManager (λ x. CreateResourceManager x.0 x.1) (λ x h. h.0) (λ x. refl)
arguments_is form.OpenResourceManager = made_is (both reads_label reads_guid) form.OpenResourceManager (λ x. OpenResourceManager x.0 x.1) (λ x h. (h.0, h.1)) (λ x. refl)
arguments_is form.RecoverResourceManager = made_is reads_label form.RecoverResourceManager RecoverResourceManager (λ x h. h) (λ x. refl)
arguments_is form.GetNotificationResourceManager = made_is reads_label form.GetNotificationResourceManager GetNotificationResourceManager (λ x h. h) (λ x. refl)
arguments_is form.CreateEnlistment = made_is (both reads_label (both reads_label reads_kind_in_transaction)) form.CreateEnlistment (λ x. CreateEnlistment x.0 x.1.0 x.1.1.0 x.1.1.1) (λ x h. (h.0, h.1.0, h.1.1.0)) (λ x. refl)
arguments_is form.OpenEnlistment = made_is (both reads_label (both reads_label reads_guid)) form.OpenEnlistment (λ x. OpenEnlistment x.0 x.1.0 x.1.1) (λ x h. (h.0, h.1.0, h.1.1)) (λ x. refl)
arguments_is form.RecoverEnlistment = made_is reads_label form.RecoverEnlistment RecoverEnlistment (λ x h. h) (λ x. refl)
arguments_is form.PrePrepareComplete = made_is reads_label form.PrePrepareComplete PrePrepareComplete (λ x h. h) (λ x. refl)
arguments_is form.PrepareComplete = made_is reads_label form.PrepareComplete PrepareComplete (λ x h. h) (λ x. refl)
arguments_is form.ReadOnlyEnlistment = made_is reads_label form.ReadOnlyEnlistment ReadOnlyEnlistment (λ x h. h) (λ x. refl)
arguments_is form.CommitComplete = made_is reads_label form.CommitComplete CommitComplete (λ x h. h) (λ x. refl)
arguments_is form.RollbackComplete = made_is reads_label form.RollbackComplete RollbackComplete (λ x h. h) (λ x. refl)
arguments_is form.SinglePhaseReject = made_is reads_label form.SinglePhaseReject SinglePhaseReject (λ x h. h) (λ x. refl)
arguments_is form.RollbackEnlistment = made_is reads_label form.RollbackEnlistment RollbackEnlistment (λ x h. h) (λ x. refl)
arguments_is form.PrePrepareEnlistment = made_is reads_label form.PrePrepareEnlistment PrePrepareEnlistment (λ x h. h) (λ x. refl)
arguments_is form.PrepareEnlistment = made_is reads_label form.PrepareEnlistment PrepareEnlistment (λ x h. h) (λ x. refl)
arguments_is form.CommitEnlistment = made_is reads_label form.CommitEnlistment CommitEnlistment (λ x h. h) (λ x. refl)
arguments_is form.SetEnlistmentRecoveryInformation = made_is (both reads_label reads_bytes) form.SetEnlistmentRecoveryInformation (λ x. SetEnlistmentRecoveryInformation x.0 x.1) (λ x h. (h.0, h.1)) (λ x. refl)
arguments_is form.GetEnlistmentRecoveryInformation = made_is reads_label form.GetEnlistmentRecoveryInformation GetEnlistmentRecoveryInformation (λ x h. h) (λ x. refl)
arguments_is form.CreateFile = made_is (both reads_label (both reads_text reads_modes)) form.CreateFile (λ x. CreateFile x.0 x.1.0 x.1.1.0 x.1.1.1.0 x.1.1.1.1) (λ x h. (h.0, h.1.0)) (λ x. refl)
arguments_is form.CreateFileTransacted = made_is (both reads_label (both reads_text (both reads_modes reads_label))) form.CreateFileTransacted (λ x. CreateFileTransacted x.0 x.1.0 x.1.1.0.0 x.1.1.0.1.0 x.1.1.0.1.1 x.1.1.1) (λ x h. (h.0, h.1.0, h.1.1.1)) (λ x. transacted x.0 x.1.0 x.1.1.0.0 x.1.1.0.1.0 x.1.1.0.1.1 x.1.1.1)
arguments_is form.ReadFile = made_is (both reads_label (both reads_size reads_size)) form.ReadFile (λ x. ReadFile x.0 x.1.0 x.1.1) (λ x h. (h.0, h.1.0, h.1.1)) (λ x. refl)
arguments_is form.WriteFile = made_is (both reads_label (both reads_size reads_bytes)) form.WriteFile (λ x. WriteFile x.0 x.1.0 x.1.1) (λ x h. (h.0, h.1.0, h.1.1)) (λ x. refl)
arguments_is form.SetEndOfFile = made_is (both reads_label reads_size) form.SetEndOfFile (λ x. SetEndOfFile x.0 x.1) (λ x h. (h.0, h.1)) (λ x. refl)
arguments_is form.GetFileSizeEx = made_is reads_label form.GetFileSizeEx GetFileSizeEx (λ x h. h) (λ x. refl)
arguments_is form.FlushFileBuffers = made_is reads_label form.FlushFileBuffers FlushFileBuffers (λ x h. h) (λ x. refl)
arguments_is form.DeleteFile = made_is reads_text form.DeleteFile DeleteFile (λ x h. h) (λ x. refl)
arguments_is form.CreateDirectory = made_is reads_text form.CreateDirectory CreateDirectory (λ x h. h) (λ x. refl)
arguments_is form.RemoveDirectory = made_is reads_text form.RemoveDirectory RemoveDirectory (λ x h. h) (λ x. refl)
arguments_is form.MoveFile = made_is (both reads_text reads_text) form.MoveFile (λ x. MoveFile x.0 x.1) (λ x h. (h.0, h.1)) (λ x. refl)
arguments_is form.DeleteFileTransacted = made_is (both reads_text reads_label) form.DeleteFileTransacted (λ x. DeleteFileTransacted x.0 x.1) (λ x h. (h.0, h.1)) (λ x. refl)
arguments_is form.CreateDirectoryTransacted = made_is (both reads_text reads_label) form.CreateDirectoryTransacted (λ x. CreateDirectoryTransacted x.0 x.1) (λ x h. (h.0, h.1)) (λ x. refl)
arguments_is form.RemoveDirectoryTransacted = made_is (both reads_text reads_label) form.RemoveDirectoryTransacted (λ x. RemoveDirectoryTransacted x.0 x.1) (λ x h. (h.0, h.1)) (λ x. refl)
arguments_is form.MoveFileTransacted = made_is (both reads_text (both reads_text reads_label)) form.MoveFileTransacted (λ x. MoveFileTransacted x.0 x.1.0 x.1.1) (λ x h. (h.0, h.1.0, h.1.1)) (λ x. refl)
arguments_is form.FindFiles = made_is reads_text form.FindFiles FindFiles (λ x h. h) (λ x. refl)
arguments_is form.FindFilesTransacted = made_is (both reads_text reads_label) form.FindFilesTransacted (λ x. FindFilesTransacted x.0 x.1) (λ x h. (h.0, h.1)) (λ x. refl)
arguments_is form.KvSet = made_is (both reads_label (both reads_text reads_bytes)) form.KvSet (λ x. KvSet x.0 x.1.0 x.1.1) (λ x h. (h.0, h.1.0, h.1.1)) (λ x. refl)
arguments_is form.KvUnset = made_is (both reads_label reads_text) form.KvUnset (λ x. KvUnset x.0 x.1) (λ x h. (h.0, h.1)) (λ x. refl)
arguments_is form.KvGet = made_is (both reads_view reads_text) form.KvGet (λ x. KvGet x.0 x.1) (λ x h. (h.0, h.1)) (λ x. refl)
arguments_is form.KvList = made_is reads_view form.KvList KvList (λ x h. h) (λ x. refl)
arguments_is form.CloseHandle = made_is reads_label form.CloseHandle CloseHandle (λ x h. h) (λ x. refl)
arguments_is form.DuplicateHandle = made_is (both reads_label (both (spaced reads_process) reads_label)) form.DuplicateHandle (λ x. DuplicateHandle x.0 x.1.0 x.1.1) (λ x h. (h.0, h.1.0, h.1.1)) (λ x. refl)
arguments_is form.Exit = λ text c e.
    let ends = at_end_is Exit c text e in
    subst (Read (form_name form.Exit) text) ends.1 (record { valid = tt; spelled = rw ends.0 refl })

spelled_so : (c : Command) → IsCommand c → IsReadAgain c
spelled_so (CreateTransaction label timeout) h = made_again (both reads_label (spaced (reads_number 0xFFFF_FFFF (lit< tt)))) form.CreateTransaction (λ x. CreateTransaction x.0 x.1) (label, timeout) (h.0, omega (arith, h.1)) refl refl refl
spelled_so (OpenTransaction label guid) h = made_again (both reads_label reads_guid) form.OpenTransaction (λ x. OpenTransaction x.0 x.1) (label, guid) (h.0, h.1) refl refl refl
spelled_so (CommitTransaction transaction) h = made_again reads_label form.CommitTransaction CommitTransaction transaction h refl refl refl
spelled_so (RollbackTransaction transaction) h = made_again reads_label form.RollbackTransaction RollbackTransaction transaction h refl refl refl
spelled_so (GetTransactionInformation transaction) h = made_again reads_label form.GetTransactionInformation GetTransactionInformation transaction h refl refl refl
spelled_so (CreateResourceManager label durability) h = made_again (both reads_label reads_durability) form.CreateResourceManager (λ x. CreateResourceManager x.0 x.1) (label, durability) (h, tt) refl refl refl
spelled_so (OpenResourceManager label guid) h = made_again (both reads_label reads_guid) form.OpenResourceManager (λ x. OpenResourceManager x.0 x.1) (label, guid) (h.0, h.1) refl refl refl
spelled_so (RecoverResourceManager manager) h = made_again reads_label form.RecoverResourceManager RecoverResourceManager manager h refl refl refl
spelled_so (GetNotificationResourceManager manager) h = made_again reads_label form.GetNotificationResourceManager GetNotificationResourceManager manager h refl refl refl
spelled_so (CreateEnlistment label manager transaction kind) h = made_again (both reads_label (both reads_label reads_kind_in_transaction)) form.CreateEnlistment (λ x. CreateEnlistment x.0 x.1.0 x.1.1.0 x.1.1.1) (label, (manager, (transaction, kind))) (h.0, (h.1, (h.2, tt))) refl refl refl
spelled_so (OpenEnlistment label manager guid) h = made_again (both reads_label (both reads_label reads_guid)) form.OpenEnlistment (λ x. OpenEnlistment x.0 x.1.0 x.1.1) (label, (manager, guid)) (h.0, (h.1, h.2)) refl refl refl
spelled_so (RecoverEnlistment enlistment) h = made_again reads_label form.RecoverEnlistment RecoverEnlistment enlistment h refl refl refl
spelled_so (PrePrepareComplete enlistment) h = made_again reads_label form.PrePrepareComplete PrePrepareComplete enlistment h refl refl refl
spelled_so (PrepareComplete enlistment) h = made_again reads_label form.PrepareComplete PrepareComplete enlistment h refl refl refl
spelled_so (ReadOnlyEnlistment enlistment) h = made_again reads_label form.ReadOnlyEnlistment ReadOnlyEnlistment enlistment h refl refl refl
spelled_so (CommitComplete enlistment) h = made_again reads_label form.CommitComplete CommitComplete enlistment h refl refl refl
spelled_so (RollbackComplete enlistment) h = made_again reads_label form.RollbackComplete RollbackComplete enlistment h refl refl refl
spelled_so (SinglePhaseReject enlistment) h = made_again reads_label form.SinglePhaseReject SinglePhaseReject enlistment h refl refl refl
spelled_so (RollbackEnlistment enlistment) h = made_again reads_label form.RollbackEnlistment RollbackEnlistment enlistment h refl refl refl
spelled_so (PrePrepareEnlistment enlistment) h = made_again reads_label form.PrePrepareEnlistment PrePrepareEnlistment enlistment h refl refl refl
spelled_so (PrepareEnlistment enlistment) h = made_again reads_label form.PrepareEnlistment PrepareEnlistment enlistment h refl refl refl
spelled_so (CommitEnlistment enlistment) h = made_again reads_label form.CommitEnlistment CommitEnlistment enlistment h refl refl refl
spelled_so (SetEnlistmentRecoveryInformation enlistment information) h = made_again (both reads_label reads_bytes) form.SetEnlistmentRecoveryInformation (λ x. SetEnlistmentRecoveryInformation x.0 x.1) (enlistment, information) (h.0, h.1) refl refl refl
spelled_so (GetEnlistmentRecoveryInformation enlistment) h = made_again reads_label form.GetEnlistmentRecoveryInformation GetEnlistmentRecoveryInformation enlistment h refl refl refl
spelled_so (CreateFile label path access share disposition) h = made_again (both reads_label (both reads_text reads_modes)) form.CreateFile (λ x. CreateFile x.0 x.1.0 x.1.1.0 x.1.1.1.0 x.1.1.1.1) (label, (path, (access, (share, disposition)))) (h.0, (h.1, (tt, (tt, tt)))) refl refl refl
spelled_so (CreateFileTransacted label path access share disposition transaction) h = made_again (both reads_label (both reads_text (both reads_modes reads_label))) form.CreateFileTransacted (λ x. CreateFileTransacted x.0 x.1.0 x.1.1.0.0 x.1.1.0.1.0 x.1.1.0.1.1 x.1.1.1) (label, (path, ((access, (share, disposition)), transaction))) (h.0, (h.1, ((tt, (tt, tt)), h.2))) (transacted label path access share disposition transaction) refl refl
spelled_so (ReadFile file offset many) h = made_again (both reads_label (both reads_size reads_size)) form.ReadFile (λ x. ReadFile x.0 x.1.0 x.1.1) (file, (offset, many)) (h.0, (h.1, h.2)) refl refl refl
spelled_so (WriteFile file offset bytes) h = made_again (both reads_label (both reads_size reads_bytes)) form.WriteFile (λ x. WriteFile x.0 x.1.0 x.1.1) (file, (offset, bytes)) (h.0, (h.1, h.2)) refl refl refl
spelled_so (SetEndOfFile file size) h = made_again (both reads_label reads_size) form.SetEndOfFile (λ x. SetEndOfFile x.0 x.1) (file, size) (h.0, h.1) refl refl refl
spelled_so (WriteUnits file start contents) h = absurd h
spelled_so (GetFileSizeEx file) h = made_again reads_label form.GetFileSizeEx GetFileSizeEx file h refl refl refl
spelled_so (FlushFileBuffers file) h = made_again reads_label form.FlushFileBuffers FlushFileBuffers file h refl refl refl
spelled_so (DeleteFile path) h = made_again reads_text form.DeleteFile DeleteFile path h refl refl refl
spelled_so (CreateDirectory path) h = made_again reads_text form.CreateDirectory CreateDirectory path h refl refl refl
spelled_so (RemoveDirectory path) h = made_again reads_text form.RemoveDirectory RemoveDirectory path h refl refl refl
spelled_so (MoveFile source target) h = made_again (both reads_text reads_text) form.MoveFile (λ x. MoveFile x.0 x.1) (source, target) (h.0, h.1) refl refl refl
spelled_so (DeleteFileTransacted path transaction) h = made_again (both reads_text reads_label) form.DeleteFileTransacted (λ x. DeleteFileTransacted x.0 x.1) (path, transaction) (h.0, h.1) refl refl refl
spelled_so (CreateDirectoryTransacted path transaction) h = made_again (both reads_text reads_label) form.CreateDirectoryTransacted (λ x. CreateDirectoryTransacted x.0 x.1) (path, transaction) (h.0, h.1) refl refl refl
spelled_so (RemoveDirectoryTransacted path transaction) h = made_again (both reads_text reads_label) form.RemoveDirectoryTransacted (λ x. RemoveDirectoryTransacted x.0 x.1) (path, transaction) (h.0, h.1) refl refl refl
spelled_so (MoveFileTransacted source target transaction) h = made_again (both reads_text (both reads_text reads_label)) form.MoveFileTransacted (λ x. MoveFileTransacted x.0 x.1.0 x.1.1) (source, (target, transaction)) (h.0, (h.1, h.2)) refl refl refl
spelled_so (FindFiles searched) h = made_again reads_text form.FindFiles FindFiles searched h refl refl refl
spelled_so (FindFilesTransacted searched transaction) h = made_again (both reads_text reads_label) form.FindFilesTransacted (λ x. FindFilesTransacted x.0 x.1) (searched, transaction) (h.0, h.1) refl refl refl
spelled_so (KvSet transaction key value) h = made_again (both reads_label (both reads_text reads_bytes)) form.KvSet (λ x. KvSet x.0 x.1.0 x.1.1) (transaction, (key, value)) (h.0, (h.1, h.2)) refl refl refl
spelled_so (KvUnset transaction key) h = made_again (both reads_label reads_text) form.KvUnset (λ x. KvUnset x.0 x.1) (transaction, key) (h.0, h.1) refl refl refl
spelled_so (KvGet view key) h = made_again (both reads_view reads_text) form.KvGet (λ x. KvGet x.0 x.1) (view, key) (h.0, h.1) refl refl refl
spelled_so (KvList view) h = made_again reads_view form.KvList KvList view h refl refl refl
spelled_so (CloseHandle label) h = made_again reads_label form.CloseHandle CloseHandle label h refl refl refl
spelled_so (DuplicateHandle label process source) h = made_again (both reads_label (both (spaced reads_process) reads_label)) form.DuplicateHandle (λ x. DuplicateHandle x.0 x.1.0 x.1.1) (label, (process, source)) (h.0, (h.1, h.2)) refl refl refl
spelled_so Exit h = record { form = form.Exit; arguments = []; spelled = refl; ends = refl; read = refl }

-- what is read is a command of the grammar, and is spelled so
pub command_is : (text : List ℕ) (c : Command) → command_at text ≡ Some c → IsCommand c × (text ≡ space ∷ command_spelling c)
unfolding command_at
command_is text c e = bind_some _ (form_at text) c e (λ f g h.
    let name = reads_form.found text f.0 f.1 g in
    let read = arguments_is f.0 f.1 c h in
    (read.valid, name.1 ∙ ap (λ (xs : List ℕ). space ∷ xs) read.spelled))

-- what is spelled so is read
pub command_again : (c : Command) → IsCommand c → command_at (space ∷ command_spelling c) ≡ Some c
unfolding command_at
command_again c h =
    let again = spelled_so c h in
    rw (← again.spelled, reads_form.every again.form again.arguments tt again.ends) again.read
