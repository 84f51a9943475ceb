-- Worked rows of the grammar: some lines, and how each is spelled.
use Rattle.std.specs.Prelude.{◌≡◌, ℕ, List, [], ◌∷◌, map, replicate, codes}
use Rattle.ktm_base.specs.declared.id.Label.{Label}
use Rattle.ktm_base.specs.declared.id.Pid.{Pid}
use Rattle.ktm_world.specs.declared.command.Command.TheVariants.{CreateTransaction, OpenTransaction, CommitTransaction, RollbackTransaction, GetTransactionInformation, CreateResourceManager, OpenResourceManager, RecoverResourceManager, GetNotificationResourceManager, CreateEnlistment, OpenEnlistment, RecoverEnlistment, PrePrepareComplete, PrepareComplete, ReadOnlyEnlistment, CommitComplete, RollbackComplete, SinglePhaseReject, RollbackEnlistment, PrePrepareEnlistment, PrepareEnlistment, CommitEnlistment, SetEnlistmentRecoveryInformation, GetEnlistmentRecoveryInformation, CreateFile, CreateFileTransacted, ReadFile, WriteFile, SetEndOfFile, GetFileSizeEx, FlushFileBuffers, DeleteFile, CreateDirectory, RemoveDirectory, MoveFile, DeleteFileTransacted, CreateDirectoryTransacted, RemoveDirectoryTransacted, MoveFileTransacted, FindFiles, FindFilesTransacted, KvSet, KvUnset, KvGet, KvList, CloseHandle, DuplicateHandle, Exit}
use Rattle.ktm_world.specs.declared.command.Line.{Line}
use Rattle.ktm_world.specs.declared.command.Line.TheVariants.{Tick, Cut, Crash, Restart, Process}
use Rattle.ktm_world.specs.declared.command.View.TheVariants as view
use Rattle.ktm_world.specs.declared.options.Access.TheVariants as access
use Rattle.ktm_world.specs.declared.options.ShareMode.TheVariants as share
use Rattle.ktm_world.specs.declared.options.Disposition.TheVariants as disposition
use Rattle.ktm_world.specs.declared.options.Durability.TheVariants as durability
use Rattle.ktm_world.specs.declared.options.EnlistmentKind.TheVariants as kind
use Rattle.ktm_script.specs.Spelling.{spelling}

-- each line is spelled by the text beside it
abbrev pub AreSpelledSo : List (Line × List ℕ) → Type 0
AreSpelledSo rows = map (λ row. spelling row.0) rows ≡ map (λ row. row.1) rows

-- the process with this number
abbrev pub p : ℕ → Pid
p number = record { 0 = number }

-- the label with this number
abbrev pub h : ℕ → Label
h number = record { 0 = number }

-- what happens to the machine
abbrev pub lines_of_the_machine : List (Line × List ℕ)
lines_of_the_machine =
    (Tick 0, codes "tick 0")
    ∷ (Tick 4294967295, codes "tick 4294967295")
    ∷ (Cut 18446744073709551615, codes "cut 18446744073709551615")
    ∷ (Crash, codes "crash")
    ∷ (Restart 18446744073709551615, codes "restart 18446744073709551615")
    ∷ []

-- calls on transactions
abbrev pub lines_of_transactions : List (Line × List ℕ)
lines_of_transactions =
    (Process (p 1) (CreateTransaction (h 1) 4294967295), codes "p1 CreateTransaction h1 4294967295")
    ∷ (Process (p 1) (OpenTransaction (h 1) (0 ∷ 0 ∷ 0 ∷ 1 ∷ 0 ∷ 2 ∷ 0 ∷ 171 ∷ 0 ∷ 1 ∷ 2 ∷ 3 ∷ 4 ∷ 5 ∷ 205 ∷ 239 ∷ [])), codes "p1 OpenTransaction h1 00000001-0002-00ab-0001-02030405cdef")
    ∷ (Process (p 1) (CommitTransaction (h 1)), codes "p1 CommitTransaction h1")
    ∷ (Process (p 1) (RollbackTransaction (h 1)), codes "p1 RollbackTransaction h1")
    ∷ (Process (p 1) (GetTransactionInformation (h 1)), codes "p1 GetTransactionInformation h1")
    ∷ []

-- calls on resource managers and enlistments, each kind of enlistment among them
abbrev pub lines_of_enlistments : List (Line × List ℕ)
lines_of_enlistments =
    (Process (p 1) (CreateResourceManager (h 1) durability.Volatile), codes "p1 CreateResourceManager h1 volatile")
    ∷ (Process (p 1) (CreateResourceManager (h 1) durability.Durable), codes "p1 CreateResourceManager h1 durable")
    ∷ (Process (p 1) (OpenResourceManager (h 1) (replicate 16 255)), codes "p1 OpenResourceManager h1 ffffffff-ffff-ffff-ffff-ffffffffffff")
    ∷ (Process (p 1) (RecoverResourceManager (h 1)), codes "p1 RecoverResourceManager h1")
    ∷ (Process (p 1) (GetNotificationResourceManager (h 1)), codes "p1 GetNotificationResourceManager h1")
    ∷ (Process (p 1) (CreateEnlistment (h 1) (h 2) (h 3) kind.Plain), codes "p1 CreateEnlistment h1 h2 h3 plain")
    ∷ (Process (p 1) (CreateEnlistment (h 1) (h 2) (h 3) kind.PrePrepare), codes "p1 CreateEnlistment h1 h2 h3 preprepare")
    ∷ (Process (p 1) (CreateEnlistment (h 1) (h 2) (h 3) kind.SinglePhase), codes "p1 CreateEnlistment h1 h2 h3 singlephase")
    ∷ (Process (p 1) (CreateEnlistment (h 1) (h 2) (h 3) kind.Both), codes "p1 CreateEnlistment h1 h2 h3 both")
    ∷ (Process (p 1) (CreateEnlistment (h 1) (h 2) (h 3) kind.Superior), codes "p1 CreateEnlistment h1 h2 h3 superior")
    ∷ (Process (p 1) (OpenEnlistment (h 1) (h 2) (replicate 16 0)), codes "p1 OpenEnlistment h1 h2 00000000-0000-0000-0000-000000000000")
    ∷ (Process (p 1) (RecoverEnlistment (h 1)), codes "p1 RecoverEnlistment h1")
    ∷ (Process (p 1) (PrePrepareComplete (h 1)), codes "p1 PrePrepareComplete h1")
    ∷ (Process (p 1) (PrepareComplete (h 1)), codes "p1 PrepareComplete h1")
    ∷ (Process (p 1) (ReadOnlyEnlistment (h 1)), codes "p1 ReadOnlyEnlistment h1")
    ∷ (Process (p 1) (CommitComplete (h 1)), codes "p1 CommitComplete h1")
    ∷ (Process (p 1) (RollbackComplete (h 1)), codes "p1 RollbackComplete h1")
    ∷ (Process (p 1) (SinglePhaseReject (h 1)), codes "p1 SinglePhaseReject h1")
    ∷ (Process (p 1) (RollbackEnlistment (h 1)), codes "p1 RollbackEnlistment h1")
    ∷ (Process (p 1) (PrePrepareEnlistment (h 1)), codes "p1 PrePrepareEnlistment h1")
    ∷ (Process (p 1) (PrepareEnlistment (h 1)), codes "p1 PrepareEnlistment h1")
    ∷ (Process (p 1) (CommitEnlistment (h 1)), codes "p1 CommitEnlistment h1")
    ∷ (Process (p 1) (SetEnlistmentRecoveryInformation (h 1) (0 ∷ 154 ∷ [])), codes "p1 SetEnlistmentRecoveryInformation h1 009a")
    ∷ (Process (p 1) (GetEnlistmentRecoveryInformation (h 1)), codes "p1 GetEnlistmentRecoveryInformation h1")
    ∷ []

-- calls on files, with each access, share mode and disposition
abbrev pub lines_of_files : List (Line × List ℕ)
lines_of_files =
    (Process (p 1) (CreateFile (h 1) (codes "a") access.Read share.Nothing disposition.CreateNew), codes "p1 CreateFile h1 \"a\" r - CREATE_NEW")
    ∷ (Process (p 1) (CreateFile (h 1) (codes "a") access.Write share.Read disposition.CreateAlways), codes "p1 CreateFile h1 \"a\" w r CREATE_ALWAYS")
    ∷ (Process (p 1) (CreateFile (h 1) (codes "a") access.ReadWrite share.Write disposition.OpenExisting), codes "p1 CreateFile h1 \"a\" rw w OPEN_EXISTING")
    ∷ (Process (p 1) (CreateFile (h 1) (codes "a") access.Read share.ReadWrite disposition.OpenAlways), codes "p1 CreateFile h1 \"a\" r rw OPEN_ALWAYS")
    ∷ (Process (p 1) (CreateFileTransacted (h 1) (codes "a") access.Write share.Nothing disposition.TruncateExisting (h 2)), codes "p1 CreateFileTransacted h1 \"a\" w - TRUNCATE_EXISTING h2")
    ∷ (Process (p 1) (ReadFile (h 1) 0 18446744073709551615), codes "p1 ReadFile h1 0 18446744073709551615")
    ∷ (Process (p 1) (WriteFile (h 1) 18446744073709551615 []), codes "p1 WriteFile h1 18446744073709551615 -")
    ∷ (Process (p 1) (SetEndOfFile (h 1) 18446744073709551615), codes "p1 SetEndOfFile h1 18446744073709551615")
    ∷ (Process (p 1) (GetFileSizeEx (h 1)), codes "p1 GetFileSizeEx h1")
    ∷ (Process (p 1) (FlushFileBuffers (h 1)), codes "p1 FlushFileBuffers h1")
    ∷ (Process (p 1) (DeleteFile (codes "a")), codes "p1 DeleteFile \"a\"")
    ∷ (Process (p 1) (CreateDirectory (codes "a")), codes "p1 CreateDirectory \"a\"")
    ∷ (Process (p 1) (RemoveDirectory (codes "a")), codes "p1 RemoveDirectory \"a\"")
    ∷ (Process (p 1) (MoveFile (codes "a") (codes "a a")), codes "p1 MoveFile \"a\" \"a a\"")
    ∷ (Process (p 1) (DeleteFileTransacted (codes "a") (h 1)), codes "p1 DeleteFileTransacted \"a\" h1")
    ∷ (Process (p 1) (CreateDirectoryTransacted (codes "a") (h 1)), codes "p1 CreateDirectoryTransacted \"a\" h1")
    ∷ (Process (p 1) (RemoveDirectoryTransacted (codes "a") (h 1)), codes "p1 RemoveDirectoryTransacted \"a\" h1")
    ∷ (Process (p 1) (MoveFileTransacted (codes "a") [] (h 1)), codes "p1 MoveFileTransacted \"a\" \"\" h1")
    ∷ (Process (p 1) (FindFiles (codes "a")), codes "p1 FindFiles \"a\"")
    ∷ (Process (p 1) (FindFilesTransacted (codes "a") (h 1)), codes "p1 FindFilesTransacted \"a\" h1")
    ∷ []

-- calls on keys and handles
abbrev pub lines_of_keys_and_handles : List (Line × List ℕ)
lines_of_keys_and_handles =
    (Process (p 1) (KvSet (h 1) (codes "a") (10 ∷ 255 ∷ [])), codes "p1 KvSet h1 \"a\" 0aff")
    ∷ (Process (p 1) (KvUnset (h 1) (codes "a")), codes "p1 KvUnset h1 \"a\"")
    ∷ (Process (p 1) (KvGet view.Plain (codes "a")), codes "p1 KvGet - \"a\"")
    ∷ (Process (p 1) (KvList (view.Transaction (h 1))), codes "p1 KvList h1")
    ∷ (Process (p 1) (CloseHandle (h 65535)), codes "p1 CloseHandle h65535")
    ∷ (Process (p 1) (DuplicateHandle (h 1) (p 64) (h 2)), codes "p1 DuplicateHandle h1 p64 h2")
    ∷ (Process (p 64) Exit, codes "p64 exit")
    ∷ []
