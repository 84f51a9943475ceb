-- Worked rows of calls that meet on a file, a name or a directory, in two transactions, in one, or in none.
use Rattle.std.specs.Prelude.{[], ◌∷◌, codes}
use Rattle.ktm_base.specs.declared.refusal.Refusal.TheVariants.{TransactionalConflict, SharingViolation}
use Rattle.ktm_world.specs.declared.command.Command.TheVariants.{CreateFile, CloseHandle, WriteFile, ReadFile, DeleteFile, MoveFile, CreateTransaction, CreateFileTransacted, DeleteFileTransacted, RollbackTransaction, CreateDirectory, RemoveDirectoryTransacted, MoveFileTransacted}
use Rattle.ktm_world.specs.declared.options.Access.{Access}
use Rattle.ktm_world.specs.declared.options.Disposition.{Disposition}
use Rattle.ktm_world.specs.declared.options.ShareMode.{ShareMode}
use Rattle.ktm_world.specs.declared.reply.Reply.TheVariants.{Refused, Done, Guid, Contents}
use Rattle.ktm_world.specs.Scripts.{Answered, blank, p1, p2, h1, h2, h3, h9, transaction_guid}

-- a second transaction can open a file for writing once the first one has rolled back
abbrev pub SecondWriter : Type 0
SecondWriter = Answered blank (
    (p1 (CreateFile h9 (codes "\\a") Access.Write ShareMode.Nothing Disposition.CreateNew), Done)
    ∷ (p1 (CloseHandle h9), Done)
    ∷ (p1 (CreateTransaction h1 0), Guid (transaction_guid 1))
    ∷ (p2 (CreateTransaction h1 0), Guid (transaction_guid 2))
    ∷ (p1 (CreateFileTransacted h2 (codes "\\a") Access.Write ShareMode.Nothing Disposition.OpenExisting h1), Done)
    ∷ (p2 (CreateFileTransacted h2 (codes "\\a") Access.Write ShareMode.Nothing Disposition.OpenExisting h1), Refused TransactionalConflict)
    ∷ (p1 (RollbackTransaction h1), Done)
    ∷ (p2 (CreateFileTransacted h2 (codes "\\a") Access.Write ShareMode.Nothing Disposition.OpenExisting h1), Done)
    ∷ []
    )

-- two transactions cannot make the same name, whatever its case
abbrev pub NamesWithoutCase : Type 0
NamesWithoutCase = Answered blank (
    (p1 (CreateTransaction h1 0), Guid (transaction_guid 1))
    ∷ (p2 (CreateTransaction h1 0), Guid (transaction_guid 2))
    ∷ (p1 (CreateFileTransacted h2 (codes "\\Note") Access.Write ShareMode.Nothing Disposition.CreateNew h1), Done)
    ∷ (p2 (CreateFileTransacted h2 (codes "\\nOTE") Access.Write ShareMode.Nothing Disposition.CreateNew h1), Refused TransactionalConflict)
    ∷ []
    )

-- a directory in which another transaction makes a name cannot be removed, and in one that is removed no name can be made
abbrev pub DirectoryInUse : Type 0
DirectoryInUse = Answered blank (
    (p1 (CreateDirectory (codes "\\d")), Done)
    ∷ (p1 (CreateTransaction h1 0), Guid (transaction_guid 1))
    ∷ (p2 (CreateTransaction h1 0), Guid (transaction_guid 2))
    ∷ (p2 (CreateFileTransacted h2 (codes "\\d\\x") Access.Write ShareMode.Nothing Disposition.CreateNew h1), Done)
    ∷ (p1 (RemoveDirectoryTransacted (codes "\\d") h1), Refused TransactionalConflict)
    ∷ (p2 (RollbackTransaction h1), Done)
    ∷ (p1 (RemoveDirectoryTransacted (codes "\\d") h1), Done)
    ∷ (p2 (CreateFile h3 (codes "\\d\\y") Access.Write ShareMode.Nothing Disposition.CreateNew), Refused TransactionalConflict)
    ∷ []
    )

-- two transactions cannot move two directories into one another
abbrev pub CrossingMoves : Type 0
CrossingMoves = Answered blank (
    (p1 (CreateDirectory (codes "\\a")), Done)
    ∷ (p1 (CreateDirectory (codes "\\b")), Done)
    ∷ (p1 (CreateTransaction h1 0), Guid (transaction_guid 1))
    ∷ (p2 (CreateTransaction h1 0), Guid (transaction_guid 2))
    ∷ (p1 (MoveFileTransacted (codes "\\a") (codes "\\b\\a") h1), Done)
    ∷ (p2 (MoveFileTransacted (codes "\\b") (codes "\\a\\b") h1), Refused TransactionalConflict)
    ∷ []
    )

-- no transaction opens or changes a file that a plain handle may write, and a plain handle that reads stands in no one's way
abbrev pub PlainWriter : Type 0
PlainWriter = Answered blank (
    (p2 (CreateFile h1 (codes "\\a") Access.Write ShareMode.ReadWrite Disposition.CreateNew), Done)
    ∷ (p1 (CreateTransaction h1 0), Guid (transaction_guid 1))
    ∷ (p1 (CreateFileTransacted h2 (codes "\\a") Access.Read ShareMode.ReadWrite Disposition.OpenExisting h1), Refused TransactionalConflict)
    ∷ (p1 (DeleteFileTransacted (codes "\\a") h1), Refused TransactionalConflict)
    ∷ (p1 (CreateFile h3 (codes "\\a") Access.Read ShareMode.ReadWrite Disposition.OpenExisting), Done)
    ∷ (p2 (CloseHandle h1), Done)
    ∷ (p1 (CreateFileTransacted h2 (codes "\\a") Access.ReadWrite ShareMode.Nothing Disposition.OpenExisting h1), Done)
    ∷ []
    )

-- no plain call writes, empties or deletes a file that a transaction has open; it may move it
abbrev pub OpenInTransaction : Type 0
OpenInTransaction = Answered blank (
    (p1 (CreateFile h9 (codes "\\a") Access.Write ShareMode.Nothing Disposition.CreateNew), Done)
    ∷ (p1 (CloseHandle h9), Done)
    ∷ (p1 (CreateTransaction h1 0), Guid (transaction_guid 1))
    ∷ (p1 (CreateFileTransacted h2 (codes "\\a") Access.Read ShareMode.Nothing Disposition.OpenExisting h1), Done)
    ∷ (p2 (CreateFile h1 (codes "\\a") Access.Write ShareMode.ReadWrite Disposition.OpenExisting), Refused TransactionalConflict)
    ∷ (p2 (CreateFile h1 (codes "\\a") Access.Read ShareMode.ReadWrite Disposition.CreateAlways), Refused TransactionalConflict)
    ∷ (p2 (DeleteFile (codes "\\a")), Refused TransactionalConflict)
    ∷ (p2 (MoveFile (codes "\\a") (codes "\\b")), Done)
    ∷ (p1 (CloseHandle h2), Done)
    ∷ (p2 (CreateFile h1 (codes "\\b") Access.Write ShareMode.ReadWrite Disposition.OpenExisting), Done)
    ∷ []
    )

-- the open files of one transaction share with each other, both ways; emptying a file asks for writing, and no open file is deleted
abbrev pub SharingInTransaction : Type 0
SharingInTransaction = Answered blank (
    (p1 (CreateTransaction h1 0), Guid (transaction_guid 1))
    ∷ (p1 (CreateFileTransacted h2 (codes "\\a") Access.ReadWrite ShareMode.Read Disposition.CreateNew h1), Done)
    ∷ (p1 (CreateFileTransacted h3 (codes "\\a") Access.Write ShareMode.ReadWrite Disposition.OpenExisting h1), Refused SharingViolation)
    ∷ (p1 (CreateFileTransacted h3 (codes "\\a") Access.Read ShareMode.Read Disposition.OpenExisting h1), Refused SharingViolation)
    ∷ (p1 (CreateFileTransacted h3 (codes "\\a") Access.Read ShareMode.ReadWrite Disposition.CreateAlways h1), Refused SharingViolation)
    ∷ (p1 (CreateFileTransacted h3 (codes "\\a") Access.Read ShareMode.ReadWrite Disposition.OpenExisting h1), Done)
    ∷ (p1 (WriteFile h2 0 (codes "hello")), Done)
    ∷ (p1 (ReadFile h3 0 16), Contents (codes "hello"))
    ∷ (p1 (DeleteFileTransacted (codes "\\a") h1), Refused SharingViolation)
    ∷ []
    )
