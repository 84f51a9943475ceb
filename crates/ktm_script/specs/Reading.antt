-- Reading from left to right. The laws in proofs/ say that it reads what `Spelling` spells; no public contract rests on this file alone.
use Rattle.std.specs.Prelude.{◌≡◌, ℕ, ◌==◌, List, [], ◌∷◌, codes, Option, Some, None, Result, Ok, Err, option_map, bytes_eq, if◌then◌else◌}
use Rattle.std.specs.Borrow.{Bor}
use Rattle.std.specs.List.{find}
use Rattle.ktm_base.specs.declared.id.Label.{Label}
use Rattle.ktm_base.specs.declared.id.Pid.{Pid}
use Rattle.ktm_codec.specs.Guid.{guid_at}
use Rattle.ktm_codec.specs.Hex.{unhex_or_dash}
use Rattle.ktm_codec.specs.Number.{number_at}
use Rattle.ktm_codec.specs.Quoted.{quoted_at}
use Rattle.ktm_codec.specs.Steps.{◌>>=◌, at_end, on_some}
use Rattle.ktm_codec.specs.Word.{after_word, word_at}
use Rattle.ktm_script.specs.Spelling.{access_spelling, share_spelling, disposition_spelling, durability_spelling, kind_spelling}
use Rattle.ktm_script.specs.declared.fault.LineFault.{LineFault}
use Rattle.ktm_script.specs.declared.fault.LineFault.TheVariants.{BadLine, NoMemory}
use Rattle.ktm_script.specs.declared.form.Form.{Form}
use Rattle.ktm_script.specs.declared.form.Form.TheVariants as form
use Rattle.ktm_world.specs.declared.command.Command.{Command}
use Rattle.ktm_world.specs.declared.command.Command.TheVariants.{CreateTransaction, OpenTransaction, CommitTransaction, RollbackTransaction, GetTransactionInformation, CreateResourceManager, OpenResourceManager, RecoverResourceManager, GetNotificationResourceManager, CreateEnlistment, OpenEnlistment, RecoverEnlistment, PrePrepareComplete, PrepareComplete, ReadOnlyEnlistment, CommitComplete, RollbackComplete, SinglePhaseReject, RollbackEnlistment, PrePrepareEnlistment, PrepareEnlistment, CommitEnlistment, SetEnlistmentRecoveryInformation, GetEnlistmentRecoveryInformation, CreateFile, CreateFileTransacted, ReadFile, WriteFile, SetEndOfFile, GetFileSizeEx, FlushFileBuffers, DeleteFile, CreateDirectory, RemoveDirectory, MoveFile, DeleteFileTransacted, CreateDirectoryTransacted, RemoveDirectoryTransacted, MoveFileTransacted, FindFiles, FindFilesTransacted, KvSet, KvUnset, KvGet, KvList, CloseHandle, DuplicateHandle, Exit}
use Rattle.ktm_world.specs.declared.command.Line.{Line}
use Rattle.ktm_world.specs.declared.command.Line.TheVariants.{Tick, Cut, Crash, Restart, Process}
use Rattle.ktm_world.specs.declared.command.View.{View}
use Rattle.ktm_world.specs.declared.command.View.TheVariants as view
use Rattle.ktm_world.specs.declared.options.Access.{Access}
use Rattle.ktm_world.specs.declared.options.Access.TheVariants as access
use Rattle.ktm_world.specs.declared.options.ShareMode.{ShareMode}
use Rattle.ktm_world.specs.declared.options.ShareMode.TheVariants as share
use Rattle.ktm_world.specs.declared.options.Disposition.{Disposition}
use Rattle.ktm_world.specs.declared.options.Disposition.TheVariants as disposition
use Rattle.ktm_world.specs.declared.options.Durability.{Durability}
use Rattle.ktm_world.specs.declared.options.Durability.TheVariants as durability
use Rattle.ktm_world.specs.declared.options.EnlistmentKind.{EnlistmentKind}
use Rattle.ktm_world.specs.declared.options.EnlistmentKind.TheVariants as kind

-- what a function returned is what is read, unless memory ran out
abbrev pub Gives : {Y : Type 0} → Result Y LineFault → Option Y → Type 0
Gives (Ok x) read = read ≡ Some x
Gives (Err BadLine) read = read ≡ None
Gives (Err NoMemory) read = Unit {0}

-- what a function returned is the part that is read and what follows it, unless memory ran out
abbrev pub GivesPart : {X : Type 0} → Result (X × Bor (List ℕ)) LineFault → Option (X × List ℕ) → Type 0
GivesPart (Ok (x, rest)) read = read ≡ Some (x, rest.now)
GivesPart (Err BadLine) read = read ≡ None
GivesPart (Err NoMemory) read = Unit {0}

-- a part behind a space
abbrev pub behind_space : {X : Type 0} → (List ℕ → Option (X × List ℕ)) → List ℕ → Option (X × List ℕ)
behind_space part text = do
  rest ← after_word (codes " ") text
  part rest

-- one part, and another one behind it
infixr 30 ◌&◌
abbrev pub ◌&◌ : {X Y : Type 0} → (List ℕ → Option (X × List ℕ)) → (List ℕ → Option (Y × List ℕ)) → List ℕ → Option ((X × Y) × List ℕ)
(first & second) text = do
  x ← first text
  y ← second x.1
  Some ((x.0, y.0), y.1)

-- the parts, where nothing follows them
abbrev pub whole : {X : Type 0} → (List ℕ → Option (X × List ℕ)) → List ℕ → Option X
whole part text = do
  x ← part text
  at_end x.0 x.1

-- what is made of them
abbrev pub made : {X Y : Type 0} → (X → Y) → (List ℕ → Option (X × List ℕ)) → List ℕ → Option Y
made make part text = option_map make (whole part text)

-- a letter and a number from 1
unfoldable pub named_at : List ℕ → ℕ → List ℕ → Option (ℕ × List ℕ)
named_at letter most text = do
  digits ← after_word letter text
  number ← number_at most digits
  if number.0 == 0 then None else Some number

-- a process, at the front
unfoldable pub process_at : List ℕ → Option (Pid × List ℕ)
process_at text = do
  number ← named_at (codes "p") 64 text
  Some (record { 0 = number.0 }, number.1)

-- a label behind a space
unfoldable pub label_at : List ℕ → Option (Label × List ℕ)
label_at text = do
  number ← named_at (codes " h") 65535 text
  Some (record { 0 = number.0 }, number.1)

-- a view behind a space
unfoldable pub view_at : List ℕ → Option (View × List ℕ)
view_at text = on_some (after_word (codes " -") text) (λ rest. Some (view.Plain, rest)) (label_at text >>= λ label. Some (view.Transaction label.0, label.1))

-- a number of at most 64 bits, behind a space
unfoldable pub size_at : List ℕ → Option (ℕ × List ℕ)
size_at text = behind_space (number_at 0xFFFF_FFFF_FFFF_FFFF) text

-- a text behind a space, between quotation marks
unfoldable pub text_at : List ℕ → Option (List ℕ × List ℕ)
text_at text = behind_space quoted_at text

-- the first of the values that has this word
unfoldable pub by_word : {X : Type 0} → (X → List ℕ) → List X → List ℕ → Option X
by_word spell values word = find (λ value. bytes_eq (spell value) word) values

-- one of the values, by its word behind a space
unfoldable pub one_of : {X : Type 0} → (X → List ℕ) → List X → List ℕ → Option (X × List ℕ)
one_of spell values text = do
  rest ← after_word (codes " ") text
  value ← by_word spell values (word_at rest).0
  Some (value, (word_at rest).1)

-- bytes behind a space, by the characters before the next one
unfoldable pub bytes_at : List ℕ → Option (List ℕ × List ℕ)
bytes_at text = do
  rest ← after_word (codes " ") text
  bytes ← unhex_or_dash (word_at rest).0
  Some (bytes, (word_at rest).1)

-- what a file may be used for
abbrev pub accesses : List Access
accesses = access.Read ∷ access.Write ∷ access.ReadWrite ∷ []

-- what others may use a file for
abbrev pub shares : List ShareMode
shares = share.Nothing ∷ share.Read ∷ share.Write ∷ share.ReadWrite ∷ []

-- what is done where the file is there, and where it is not
abbrev pub dispositions : List Disposition
dispositions = disposition.CreateNew ∷ disposition.CreateAlways ∷ disposition.OpenExisting ∷ disposition.OpenAlways ∷ disposition.TruncateExisting ∷ []

-- whether a resource manager outlives a restart
abbrev pub durabilities : List Durability
durabilities = durability.Volatile ∷ durability.Durable ∷ []

-- the kinds of enlistments
abbrev pub kinds : List EnlistmentKind
kinds = kind.Plain ∷ kind.PrePrepare ∷ kind.SinglePhase ∷ kind.Both ∷ kind.Superior ∷ []

-- an access, by its word behind a space
unfoldable pub access_at : List ℕ → Option (Access × List ℕ)
access_at text = one_of access_spelling accesses text

-- a share mode, by its word behind a space
unfoldable pub share_at : List ℕ → Option (ShareMode × List ℕ)
share_at text = one_of share_spelling shares text

-- a disposition, by its word behind a space
unfoldable pub disposition_at : List ℕ → Option (Disposition × List ℕ)
disposition_at text = one_of disposition_spelling dispositions text

-- a durability, by its word behind a space
unfoldable pub durability_at : List ℕ → Option (Durability × List ℕ)
durability_at text = one_of durability_spelling durabilities text

-- a kind of enlistment, by its word behind a space
unfoldable pub kind_at : List ℕ → Option (EnlistmentKind × List ℕ)
kind_at text = one_of kind_spelling kinds text

-- the transaction of an enlistment, and its kind
unfoldable pub kind_in_transaction_at : List ℕ → Option ((Label × EnlistmentKind) × List ℕ)
kind_in_transaction_at text = (label_at & kind_at) text

-- how a file is opened: its access, its share mode and its disposition
unfoldable pub modes_at : List ℕ → Option ((Access × (ShareMode × Disposition)) × List ℕ)
modes_at text = (access_at & share_at & disposition_at) text

-- the name of a form
abbrev pub form_name : Form → List ℕ
form_name form.CreateTransaction = codes "CreateTransaction"
form_name form.OpenTransaction = codes "OpenTransaction"
form_name form.CommitTransaction = codes "CommitTransaction"
form_name form.RollbackTransaction = codes "RollbackTransaction"
form_name form.GetTransactionInformation = codes "GetTransactionInformation"
form_name form.CreateResourceManager = codes "CreateResourceManager"
form_name form.OpenResourceManager = codes "OpenResourceManager"
form_name form.RecoverResourceManager = codes "RecoverResourceManager"
form_name form.GetNotificationResourceManager = codes "GetNotificationResourceManager"
form_name form.CreateEnlistment = codes "CreateEnlistment"
form_name form.OpenEnlistment = codes "OpenEnlistment"
form_name form.RecoverEnlistment = codes "RecoverEnlistment"
form_name form.PrePrepareComplete = codes "PrePrepareComplete"
form_name form.PrepareComplete = codes "PrepareComplete"
form_name form.ReadOnlyEnlistment = codes "ReadOnlyEnlistment"
form_name form.CommitComplete = codes "CommitComplete"
form_name form.RollbackComplete = codes "RollbackComplete"
form_name form.SinglePhaseReject = codes "SinglePhaseReject"
form_name form.RollbackEnlistment = codes "RollbackEnlistment"
form_name form.PrePrepareEnlistment = codes "PrePrepareEnlistment"
form_name form.PrepareEnlistment = codes "PrepareEnlistment"
form_name form.CommitEnlistment = codes "CommitEnlistment"
form_name form.SetEnlistmentRecoveryInformation = codes "SetEnlistmentRecoveryInformation"
form_name form.GetEnlistmentRecoveryInformation = codes "GetEnlistmentRecoveryInformation"
form_name form.CreateFile = codes "CreateFile"
form_name form.CreateFileTransacted = codes "CreateFileTransacted"
form_name form.ReadFile = codes "ReadFile"
form_name form.WriteFile = codes "WriteFile"
form_name form.SetEndOfFile = codes "SetEndOfFile"
form_name form.GetFileSizeEx = codes "GetFileSizeEx"
form_name form.FlushFileBuffers = codes "FlushFileBuffers"
form_name form.DeleteFile = codes "DeleteFile"
form_name form.CreateDirectory = codes "CreateDirectory"
form_name form.RemoveDirectory = codes "RemoveDirectory"
form_name form.MoveFile = codes "MoveFile"
form_name form.DeleteFileTransacted = codes "DeleteFileTransacted"
form_name form.CreateDirectoryTransacted = codes "CreateDirectoryTransacted"
form_name form.RemoveDirectoryTransacted = codes "RemoveDirectoryTransacted"
form_name form.MoveFileTransacted = codes "MoveFileTransacted"
form_name form.FindFiles = codes "FindFiles"
form_name form.FindFilesTransacted = codes "FindFilesTransacted"
form_name form.KvSet = codes "KvSet"
form_name form.KvUnset = codes "KvUnset"
form_name form.KvGet = codes "KvGet"
form_name form.KvList = codes "KvList"
form_name form.CloseHandle = codes "CloseHandle"
form_name form.DuplicateHandle = codes "DuplicateHandle"
form_name form.Exit = codes "exit"

-- all forms
abbrev pub forms : List Form
forms = form.CreateTransaction ∷ form.OpenTransaction ∷ form.CommitTransaction ∷ form.RollbackTransaction ∷ form.GetTransactionInformation ∷ form.CreateResourceManager ∷ form.OpenResourceManager ∷ form.RecoverResourceManager ∷ form.GetNotificationResourceManager ∷ form.CreateEnlistment ∷ form.OpenEnlistment ∷ form.RecoverEnlistment ∷ form.PrePrepareComplete ∷ form.PrepareComplete ∷ form.ReadOnlyEnlistment ∷ form.CommitComplete ∷ form.RollbackComplete ∷ form.SinglePhaseReject ∷ form.RollbackEnlistment ∷ form.PrePrepareEnlistment ∷ form.PrepareEnlistment ∷ form.CommitEnlistment ∷ form.SetEnlistmentRecoveryInformation ∷ form.GetEnlistmentRecoveryInformation ∷ form.CreateFile ∷ form.CreateFileTransacted ∷ form.ReadFile ∷ form.WriteFile ∷ form.SetEndOfFile ∷ form.GetFileSizeEx ∷ form.FlushFileBuffers ∷ form.DeleteFile ∷ form.CreateDirectory ∷ form.RemoveDirectory ∷ form.MoveFile ∷ form.DeleteFileTransacted ∷ form.CreateDirectoryTransacted ∷ form.RemoveDirectoryTransacted ∷ form.MoveFileTransacted ∷ form.FindFiles ∷ form.FindFilesTransacted ∷ form.KvSet ∷ form.KvUnset ∷ form.KvGet ∷ form.KvList ∷ form.CloseHandle ∷ form.DuplicateHandle ∷ form.Exit ∷ []

-- a form, by its name behind a space
unfoldable pub form_at : List ℕ → Option (Form × List ℕ)
form_at text = one_of form_name forms text

-- what stands behind the name of a form
abbrev pub arguments_at : Form → List ℕ → Option Command
arguments_at form.CreateTransaction text = made (λ x. CreateTransaction x.0 x.1) (label_at & behind_space (number_at 0xFFFF_FFFF)) text
arguments_at form.OpenTransaction text = made (λ x. OpenTransaction x.0 x.1) (label_at & behind_space guid_at) text
arguments_at form.CommitTransaction text = made CommitTransaction label_at text
arguments_at form.RollbackTransaction text = made RollbackTransaction label_at text
arguments_at form.GetTransactionInformation text = made GetTransactionInformation label_at text
arguments_at form.CreateResourceManager text = made (λ x. CreateResourceManager x.0 x.1) (label_at & durability_at) text
arguments_at form.OpenResourceManager text = made (λ x. OpenResourceManager x.0 x.1) (label_at & behind_space guid_at) text
arguments_at form.RecoverResourceManager text = made RecoverResourceManager label_at text
arguments_at form.GetNotificationResourceManager text = made GetNotificationResourceManager label_at text
arguments_at form.CreateEnlistment text = made (λ x. CreateEnlistment x.0 x.1.0 x.1.1.0 x.1.1.1) (label_at & label_at & kind_in_transaction_at) text
arguments_at form.OpenEnlistment text = made (λ x. OpenEnlistment x.0 x.1.0 x.1.1) (label_at & label_at & behind_space guid_at) text
arguments_at form.RecoverEnlistment text = made RecoverEnlistment label_at text
arguments_at form.PrePrepareComplete text = made PrePrepareComplete label_at text
arguments_at form.PrepareComplete text = made PrepareComplete label_at text
arguments_at form.ReadOnlyEnlistment text = made ReadOnlyEnlistment label_at text
arguments_at form.CommitComplete text = made CommitComplete label_at text
arguments_at form.RollbackComplete text = made RollbackComplete label_at text
arguments_at form.SinglePhaseReject text = made SinglePhaseReject label_at text
arguments_at form.RollbackEnlistment text = made RollbackEnlistment label_at text
arguments_at form.PrePrepareEnlistment text = made PrePrepareEnlistment label_at text
arguments_at form.PrepareEnlistment text = made PrepareEnlistment label_at text
arguments_at form.CommitEnlistment text = made CommitEnlistment label_at text
arguments_at form.SetEnlistmentRecoveryInformation text = made (λ x. SetEnlistmentRecoveryInformation x.0 x.1) (label_at & bytes_at) text
arguments_at form.GetEnlistmentRecoveryInformation text = made GetEnlistmentRecoveryInformation label_at text
arguments_at form.CreateFile text = made (λ x. CreateFile x.0 x.1.0 x.1.1.0 x.1.1.1.0 x.1.1.1.1) (label_at & text_at & modes_at) text
arguments_at form.CreateFileTransacted text = made (λ x. CreateFileTransacted x.0 x.1.0 x.1.1.0.0 x.1.1.0.1.0 x.1.1.0.1.1 x.1.1.1) (label_at & text_at & modes_at & label_at) text
arguments_at form.ReadFile text = made (λ x. ReadFile x.0 x.1.0 x.1.1) (label_at & size_at & size_at) text
arguments_at form.WriteFile text = made (λ x. WriteFile x.0 x.1.0 x.1.1) (label_at & size_at & bytes_at) text
arguments_at form.SetEndOfFile text = made (λ x. SetEndOfFile x.0 x.1) (label_at & size_at) text
arguments_at form.GetFileSizeEx text = made GetFileSizeEx label_at text
arguments_at form.FlushFileBuffers text = made FlushFileBuffers label_at text
arguments_at form.DeleteFile text = made DeleteFile text_at text
arguments_at form.CreateDirectory text = made CreateDirectory text_at text
arguments_at form.RemoveDirectory text = made RemoveDirectory text_at text
arguments_at form.MoveFile text = made (λ x. MoveFile x.0 x.1) (text_at & text_at) text
arguments_at form.DeleteFileTransacted text = made (λ x. DeleteFileTransacted x.0 x.1) (text_at & label_at) text
arguments_at form.CreateDirectoryTransacted text = made (λ x. CreateDirectoryTransacted x.0 x.1) (text_at & label_at) text
arguments_at form.RemoveDirectoryTransacted text = made (λ x. RemoveDirectoryTransacted x.0 x.1) (text_at & label_at) text
arguments_at form.MoveFileTransacted text = made (λ x. MoveFileTransacted x.0 x.1.0 x.1.1) (text_at & text_at & label_at) text
arguments_at form.FindFiles text = made FindFiles text_at text
arguments_at form.FindFilesTransacted text = made (λ x. FindFilesTransacted x.0 x.1) (text_at & label_at) text
arguments_at form.KvSet text = made (λ x. KvSet x.0 x.1.0 x.1.1) (label_at & text_at & bytes_at) text
arguments_at form.KvUnset text = made (λ x. KvUnset x.0 x.1) (label_at & text_at) text
arguments_at form.KvGet text = made (λ x. KvGet x.0 x.1) (view_at & text_at) text
arguments_at form.KvList text = made KvList view_at text
arguments_at form.CloseHandle text = made CloseHandle label_at text
arguments_at form.DuplicateHandle text = made (λ x. DuplicateHandle x.0 x.1.0 x.1.1) (label_at & behind_space process_at & label_at) text
arguments_at form.Exit text = at_end Exit text

-- a command behind a space: its name, and what stands behind that
unfoldable pub command_at : List ℕ → Option Command
command_at text = do
  form ← form_at text
  arguments_at form.0 form.1

-- a process and its command
unfoldable pub process_line_at : List ℕ → Option Line
process_line_at text = do
  process ← process_at text
  command ← command_at process.1
  Some (Process process.0 command)

-- a number behind a space, which nothing follows
unfoldable pub last_count_at : ℕ → List ℕ → Option ℕ
last_count_at most text = whole (behind_space (number_at most)) text

-- a line, however long
unfoldable pub line_at : List ℕ → Option Line
line_at text =
    on_some (after_word (codes "tick") text) (λ rest. option_map Tick (last_count_at 0xFFFF_FFFF rest))
    (on_some (after_word (codes "cut") text) (λ rest. option_map Cut (last_count_at 0xFFFF_FFFF_FFFF_FFFF rest))
    (on_some (after_word (codes "crash") text) (at_end Crash)
    (on_some (after_word (codes "restart") text) (λ rest. option_map Restart (last_count_at 0xFFFF_FFFF_FFFF_FFFF rest)) (process_line_at text))))
