-- Worked rows of what a transaction sees of files, and what others do.
use Rattle.std.specs.Prelude.{[], ◌∷◌, codes}
use Rattle.ktm_base.specs.declared.refusal.Refusal.TheVariants.{InvalidHandle, HandleNoLongerValid, FileNotFound, TransactionalConflict}
use Rattle.ktm_world.specs.declared.command.Command.TheVariants.{CreateFile, CreateTransaction, CreateFileTransacted, WriteFile, ReadFile, CommitTransaction, CloseHandle, DeleteFileTransacted}
use Rattle.ktm_world.specs.declared.options.Access.{Access}
use Rattle.ktm_world.specs.declared.options.Disposition.{Disposition}
use Rattle.ktm_world.specs.declared.options.ShareMode.{ShareMode}
use Rattle.ktm_world.specs.declared.reply.Reply.TheVariants.{Refused, Done, Guid, Committed, Contents}
use Rattle.ktm_world.specs.Scripts.{Answered, blank, p1, p2, h1, h2, h3, h4, h9, transaction_guid}

-- a writer sees what it writes, and a plain reader sees it once it is committed
abbrev pub ViewsOfWriterAndReader : Type 0
ViewsOfWriterAndReader = Answered blank (
    (p2 (CreateFile h1 (codes "\\a") Access.Read ShareMode.ReadWrite Disposition.CreateNew), Done)
    ∷ (p1 (CreateTransaction h1 0), Guid (transaction_guid 1))
    ∷ (p1 (CreateFileTransacted h2 (codes "\\a") Access.ReadWrite ShareMode.Nothing Disposition.OpenExisting h1), Done)
    ∷ (p1 (WriteFile h2 0 (codes "hello")), Done)
    ∷ (p1 (ReadFile h2 0 16), Contents (codes "hello"))
    ∷ (p2 (ReadFile h1 0 16), Contents [])
    ∷ (p1 (CommitTransaction h1), Committed)
    ∷ (p2 (ReadFile h1 0 16), Contents (codes "hello"))
    ∷ []
    )

-- a transaction goes on seeing the version of a file that it opened first, and cannot change the file once there is another one
abbrev pub FixedVersion : Type 0
FixedVersion = Answered blank (
    (p1 (CreateFile h9 (codes "\\a") Access.Write ShareMode.Nothing Disposition.CreateNew), Done)
    ∷ (p1 (WriteFile h9 0 (49 ∷ [])), Done)
    ∷ (p1 (CloseHandle h9), Done)
    ∷ (p1 (CreateTransaction h1 0), Guid (transaction_guid 1))
    ∷ (p1 (CreateFileTransacted h2 (codes "\\a") Access.Read ShareMode.ReadWrite Disposition.OpenExisting h1), Done)
    ∷ (p1 (CloseHandle h2), Done)
    ∷ (p2 (CreateTransaction h1 0), Guid (transaction_guid 2))
    ∷ (p2 (CreateFileTransacted h2 (codes "\\a") Access.ReadWrite ShareMode.Nothing Disposition.OpenExisting h1), Done)
    ∷ (p2 (WriteFile h2 0 (50 ∷ [])), Done)
    ∷ (p2 (CommitTransaction h1), Committed)
    ∷ (p1 (CreateFileTransacted h2 (codes "\\a") Access.Read ShareMode.ReadWrite Disposition.OpenExisting h1), Done)
    ∷ (p1 (ReadFile h2 0 4), Contents (49 ∷ []))
    ∷ (p1 (CloseHandle h2), Done)
    ∷ (p1 (CreateFileTransacted h2 (codes "\\a") Access.ReadWrite ShareMode.Nothing Disposition.OpenExisting h1), Refused TransactionalConflict)
    ∷ []
    )

-- a handle opened in a transaction is dead once that has committed, and can be closed once
abbrev pub DeadHandle : Type 0
DeadHandle = Answered blank (
    (p1 (CreateTransaction h1 0), Guid (transaction_guid 1))
    ∷ (p1 (CreateFileTransacted h2 (codes "\\a") Access.ReadWrite ShareMode.Nothing Disposition.CreateNew h1), Done)
    ∷ (p1 (CommitTransaction h1), Committed)
    ∷ (p1 (ReadFile h2 0 1), Refused HandleNoLongerValid)
    ∷ (p1 (CreateTransaction h3 0), Guid (transaction_guid 2))
    ∷ (p1 (CreateFileTransacted h4 (codes "\\a") Access.ReadWrite ShareMode.Nothing Disposition.OpenExisting h3), Done)
    ∷ (p1 (WriteFile h2 0 (122 ∷ [])), Refused HandleNoLongerValid)
    ∷ (p1 (ReadFile h4 0 1), Contents [])
    ∷ (p1 (CloseHandle h2), Done)
    ∷ (p1 (CloseHandle h2), Refused InvalidHandle)
    ∷ []
    )

-- a file that another transaction deleted is still read by an open handle, and is gone by name
abbrev pub DeletedFile : Type 0
DeletedFile = Answered blank (
    (p1 (CreateFile h9 (codes "\\a") Access.Write ShareMode.Nothing Disposition.CreateNew), Done)
    ∷ (p1 (WriteFile h9 0 (codes "old")), Done)
    ∷ (p1 (CloseHandle h9), Done)
    ∷ (p1 (CreateTransaction h1 0), Guid (transaction_guid 1))
    ∷ (p2 (CreateTransaction h1 0), Guid (transaction_guid 2))
    ∷ (p1 (CreateFileTransacted h2 (codes "\\a") Access.Read ShareMode.ReadWrite Disposition.OpenExisting h1), Done)
    ∷ (p2 (DeleteFileTransacted (codes "\\a") h1), Done)
    ∷ (p2 (CommitTransaction h1), Committed)
    ∷ (p1 (ReadFile h2 0 8), Contents (codes "old"))
    ∷ (p1 (CreateFileTransacted h3 (codes "\\a") Access.Read ShareMode.ReadWrite Disposition.OpenExisting h1), Refused FileNotFound)
    ∷ []
    )
