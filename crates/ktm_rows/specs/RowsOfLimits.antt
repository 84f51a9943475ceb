-- Worked rows of the limits of an image of 16 units.
use Rattle.std.specs.Prelude.{[], ◌∷◌, ◌++◌, map, replicate, codes}
use Rattle.std.specs.List.{flat_map}
use Rattle.ktm_base.specs.Names.{backslash}
use Rattle.ktm_base.specs.declared.refusal.Refusal.TheVariants.{DiskFull, NotEnoughQuota}
use Rattle.ktm_world.specs.declared.command.Command.TheVariants.{CreateFile, WriteFile, CloseHandle, CreateDirectory, CreateTransaction, CommitTransaction, RollbackTransaction, CreateFileTransacted, CreateDirectoryTransacted, RemoveDirectoryTransacted, MoveFileTransacted, KvSet, KvUnset}
use Rattle.ktm_world.specs.declared.options.Access.{Access}
use Rattle.ktm_world.specs.declared.options.Disposition.{Disposition}
use Rattle.ktm_world.specs.declared.options.ShareMode.{ShareMode}
use Rattle.ktm_world.specs.declared.reply.Reply.TheVariants.{Refused, Done, Guid, Committed}
use Rattle.ktm_world.specs.Scripts.{Row, Answered, new_image, p1, p2, h1, h2, h9, transaction_guid}

-- an older version takes its units, once for all who opened it, until the last of them is over
abbrev pub OlderVersion : Type 0
OlderVersion = Answered (new_image 16) (
    (p1 (CreateFile h9 (codes "\\a") Access.ReadWrite ShareMode.Nothing Disposition.CreateNew), Done)
    ∷ (p1 (WriteFile h9 0 (replicate 32768 0)), Done)
    ∷ (p1 (CloseHandle h9), Done)
    ∷ (p1 (CreateTransaction h1 0), Guid (transaction_guid 1))
    ∷ (p2 (CreateTransaction h1 0), Guid (transaction_guid 2))
    ∷ (p1 (CreateFileTransacted h2 (codes "\\a") Access.Read ShareMode.Nothing Disposition.OpenExisting h1), Done)
    ∷ (p2 (CreateFileTransacted h2 (codes "\\a") Access.Read ShareMode.Nothing Disposition.OpenExisting h1), Done)
    ∷ (p1 (CloseHandle h2), Done)
    ∷ (p2 (CloseHandle h2), Done)
    ∷ (p1 (CreateFile h9 (codes "\\a") Access.ReadWrite ShareMode.Nothing Disposition.OpenExisting), Done)
    ∷ (p1 (WriteFile h9 0 (1 ∷ [])), Done)
    ∷ (p1 (WriteFile h9 32768 (1 ∷ [])), Refused DiskFull)
    ∷ (p1 (RollbackTransaction h1), Done)
    ∷ (p1 (WriteFile h9 32768 (1 ∷ [])), Refused DiskFull)
    ∷ (p2 (RollbackTransaction h1), Done)
    ∷ (p1 (WriteFile h9 32768 (1 ∷ [])), Done)
    ∷ []
    )

-- the root and 15 more nodes are there at most, those of transactions among them, and one that was made and dropped again is not
abbrev pub NodeLimit : Type 0
NodeLimit = Answered (new_image 16) (
    map (λ letter. (p1 (CreateDirectory (backslash ∷ letter ∷ [])), Done)) (codes "abcdefghijklm")
    ++ ((p1 (CreateTransaction h1 0), Guid (transaction_guid 1))
    ∷ (p1 (CreateDirectoryTransacted (codes "\\n") h1), Done)
    ∷ (p1 (CreateFileTransacted h2 (codes "\\o") Access.Write ShareMode.Nothing Disposition.CreateNew h1), Done)
    ∷ (p1 (CreateDirectoryTransacted (codes "\\p") h1), Refused DiskFull)
    ∷ (p1 (CreateDirectory (codes "\\p")), Refused DiskFull)
    ∷ (p1 (RemoveDirectoryTransacted (codes "\\a") h1), Done)
    ∷ (p1 (CreateDirectory (codes "\\p")), Refused DiskFull)
    ∷ (p1 (RemoveDirectoryTransacted (codes "\\n") h1), Done)
    ∷ (p1 (CreateDirectory (codes "\\p")), Done)
    ∷ (p1 (CreateDirectory (codes "\\q")), Refused DiskFull)
    ∷ [])
    )

-- a directory moves to another name and back
abbrev pub there_and_back : Row
there_and_back = (p1 (MoveFileTransacted (codes "\\a") (codes "\\b") h1), Done) ∷ (p1 (MoveFileTransacted (codes "\\b") (codes "\\a") h1), Done) ∷ []

-- 16 changes wait at most: what was made, moved or dropped in transactions, and the keys that they unset; written bytes do not count
abbrev pub ChangesLimit : Type 0
ChangesLimit = Answered (new_image 16) (
    (p1 (CreateDirectory (codes "\\a")), Done)
    ∷ (p1 (CreateTransaction h1 0), Guid (transaction_guid 1))
    ∷ (p1 (KvSet h1 (codes "k") (1 ∷ [])), Done)
    ∷ (p1 (CommitTransaction h1), Committed)
    ∷ (p1 (CloseHandle h1), Done)
    ∷ (p1 (CreateTransaction h1 0), Guid (transaction_guid 2))
    ∷ (p2 (CreateTransaction h1 0), Guid (transaction_guid 3))
    ∷ (p1 (CreateFileTransacted h2 (codes "\\f") Access.Write ShareMode.Nothing Disposition.CreateNew h1), Done)
    ∷ flat_map (λ lines. lines) (replicate 7 there_and_back)
    ++ ((p2 (KvUnset h1 (codes "k")), Done)
    ∷ (p1 (MoveFileTransacted (codes "\\a") (codes "\\b") h1), Refused NotEnoughQuota)
    ∷ (p2 (CreateDirectoryTransacted (codes "\\d") h1), Refused NotEnoughQuota)
    ∷ (p1 (WriteFile h2 0 (codes "hello")), Done)
    ∷ (p1 (CreateDirectory (codes "\\d")), Done)
    ∷ (p1 (CommitTransaction h1), Committed)
    ∷ (p2 (CreateDirectoryTransacted (codes "\\e") h1), Done)
    ∷ [])
    )
