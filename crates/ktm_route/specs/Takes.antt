-- Which calls may take memory: out of memory they alone may give up.
use Rattle.std.specs.Prelude.{◌≡◌, ◌&&◌, not, Bool, true, false, List, [], ◌∷◌, ◌++◌, Option, is_none}
use Rattle.ktm_base.specs.declared.id.Pid.{Pid}
use Rattle.ktm_base.specs.declared.refusal.Refusal.{Refusal}
use Rattle.ktm_base.specs.declared.refusal.Refusal.TheVariants.{MachineDown}
use Rattle.ktm_world.specs.declared.command.Command.{Command}
use Rattle.ktm_world.specs.declared.command.Command.TheVariants.{CommitTransaction, RollbackTransaction, GetTransactionInformation, CloseHandle, Exit, GetNotificationResourceManager, PrePrepareEnlistment, PrepareEnlistment, CommitEnlistment, RecoverEnlistment, PrePrepareComplete, PrepareComplete, ReadOnlyEnlistment, SinglePhaseReject, CommitComplete, RollbackComplete, RollbackEnlistment, SetEnlistmentRecoveryInformation, CreateFile, CreateFileTransacted, ReadFile, WriteFile, SetEndOfFile, WriteUnits, GetFileSizeEx, FlushFileBuffers, DeleteFile, CreateDirectory, RemoveDirectory, MoveFile, DeleteFileTransacted, CreateDirectoryTransacted, RemoveDirectoryTransacted, MoveFileTransacted, FindFiles, FindFilesTransacted}
use Rattle.ktm_world.specs.declared.completion.Completion.{Completion}
use Rattle.ktm_route.specs.Completions.{command_of}
use Rattle.ktm_world.specs.Decide.{command_tests}
use Rattle.ktm_world.specs.Labels.{file_tests, transaction_named, transaction_tests}
use Rattle.ktm_world.specs.Outcome.{first_refusal}
use Rattle.ktm_world.specs.Present.{Present}
use Rattle.ktm_world.specs.TransactionCalls.{bound_test}
use Rattle.ktm_route.specs.declared.asked.Asked.{Asked}
use Rattle.ktm_route.specs.declared.asked.Asked.TheVariants.{Call, Units, Tick}

-- the tests that are made without memory: those of the labels where a path is looked for or bytes are read, and else all
abbrev pub early_tests : Present → Pid → Command → List (Bool × Refusal)
early_tests x process (CreateFile label path access share disposition) = bound_test x process label ∷ []
early_tests x process (CreateFileTransacted label path access share disposition transaction) = transaction_tests (transaction_named x process transaction) ++ bound_test x process label ∷ []
early_tests x process (ReadFile file offset many) = file_tests x process file
early_tests x process (DeleteFile path) = []
early_tests x process (CreateDirectory path) = []
early_tests x process (RemoveDirectory path) = []
early_tests x process (MoveFile source target) = []
early_tests x process (FindFiles searched) = []
early_tests x process (DeleteFileTransacted path transaction) = transaction_tests (transaction_named x process transaction)
early_tests x process (CreateDirectoryTransacted path transaction) = transaction_tests (transaction_named x process transaction)
early_tests x process (RemoveDirectoryTransacted path transaction) = transaction_tests (transaction_named x process transaction)
early_tests x process (MoveFileTransacted source target transaction) = transaction_tests (transaction_named x process transaction)
early_tests x process (FindFilesTransacted searched transaction) = transaction_tests (transaction_named x process transaction)
early_tests x process command = command_tests x process command

-- what refuses a command before memory is taken, if anything does
abbrev pub early_refusal : Present → Pid → Command → Option Refusal
early_refusal x process command = first_refusal ((not x.machine.is_up, MachineDown) ∷ early_tests x process command)

-- may a command take memory for what it does
abbrev pub effect_takes_memory : Present → Pid → Command → Bool
effect_takes_memory x process (CommitTransaction label) = false
effect_takes_memory x process (RollbackTransaction label) = false
effect_takes_memory x process (GetTransactionInformation label) = false
effect_takes_memory x process (CloseHandle label) = false
effect_takes_memory x process Exit = false
effect_takes_memory x process (GetNotificationResourceManager label) = false
effect_takes_memory x process (PrePrepareEnlistment label) = false
effect_takes_memory x process (PrepareEnlistment label) = false
effect_takes_memory x process (CommitEnlistment label) = false
effect_takes_memory x process (RecoverEnlistment label) = false
effect_takes_memory x process (PrePrepareComplete label) = false
effect_takes_memory x process (PrepareComplete label) = false
effect_takes_memory x process (ReadOnlyEnlistment label) = false
effect_takes_memory x process (SinglePhaseReject label) = false
effect_takes_memory x process (CommitComplete label) = false
effect_takes_memory x process (RollbackComplete label) = false
effect_takes_memory x process (RollbackEnlistment label) = false
effect_takes_memory x process (SetEnlistmentRecoveryInformation label information) = false
effect_takes_memory x process (WriteFile file offset []) = false
effect_takes_memory x process (WriteFile file offset (b ∷ bs)) = true
effect_takes_memory x process (SetEndOfFile file size) = true
effect_takes_memory x process (WriteUnits file start []) = false
effect_takes_memory x process (WriteUnits file start (c ∷ cs)) = true
effect_takes_memory x process (GetFileSizeEx file) = false
effect_takes_memory x process (FlushFileBuffers file) = false
effect_takes_memory x process command = true

-- may a command take memory: nothing refuses it before, and it may for what it does
abbrev pub takes_memory : Present → Pid → Command → Bool
takes_memory x process command = effect_takes_memory x process command && is_none (early_refusal x process command)

-- may what is asked; the passing of time does not
abbrev pub asked_takes_memory : Present → Asked → Bool
asked_takes_memory x (Call process command) = takes_memory x process command
asked_takes_memory x (Units process file start contents extent) = takes_memory x process (WriteUnits file start contents)
asked_takes_memory x (Tick ms) = false

-- no call on the way to the end of a transaction takes memory, whatever is so
abbrev pub CompletionsLaw : Type 0
CompletionsLaw = (x : Present) (process : Pid) (completion : Completion) → takes_memory x process (command_of completion) ≡ false
