-- Worked rows of plain calls on files and directories.
use Rattle.std.specs.Prelude.{replicate, [], ◌∷◌, codes}
use Rattle.ktm_base.specs.declared.refusal.Refusal.{Refusal}
use Rattle.ktm_base.specs.declared.refusal.Refusal.TheVariants.{InvalidName, PathNotFound, AlreadyExists, AccessDenied, DirNotEmpty, SharingViolation, DiskFull}
use Rattle.ktm_world.specs.declared.command.Command.TheVariants.{CreateDirectory, CreateFile, SetEndOfFile, ReadFile, FlushFileBuffers, DeleteFile, RemoveDirectory, CloseHandle, MoveFile, FindFiles, WriteFile, GetFileSizeEx}
use Rattle.ktm_world.specs.declared.options.Access.{Access}
use Rattle.ktm_world.specs.declared.options.Disposition.{Disposition}
use Rattle.ktm_world.specs.declared.options.ShareMode.{ShareMode}
use Rattle.ktm_world.specs.declared.reply.Reply.TheVariants.{Refused, Done, Contents, Size, Names}
use Rattle.ktm_world.specs.Scripts.{Answered, new_image, blank, p1, h1, h2}

-- names are kept as created and compared without case, each call has its refusals, and a file that is open is not deleted
abbrev pub NamesOfFiles : Type 0
NamesOfFiles = Answered blank (
    (p1 (CreateDirectory (codes "\\Dir")), Done)
    ∷ (p1 (CreateDirectory (codes "\\dIR")), Refused AlreadyExists)
    ∷ (p1 (CreateDirectory (codes "\\x\\y")), Refused PathNotFound)
    ∷ (p1 (CreateDirectory (codes "\\a*")), Refused InvalidName)
    ∷ (p1 (CreateFile h1 (codes "\\Dir\\F") Access.ReadWrite ShareMode.ReadWrite Disposition.CreateNew), Done)
    ∷ (p1 (SetEndOfFile h1 3), Done)
    ∷ (p1 (ReadFile h1 0 9), Contents (0 ∷ 0 ∷ 0 ∷ []))
    ∷ (p1 (FlushFileBuffers h1), Done)
    ∷ (p1 (CreateFile h2 (codes "\\Dir\\F") Access.Read ShareMode.Read Disposition.OpenExisting), Refused SharingViolation)
    ∷ (p1 (DeleteFile (codes "\\Dir\\F")), Refused SharingViolation)
    ∷ (p1 (RemoveDirectory (codes "\\Dir")), Refused DirNotEmpty)
    ∷ (p1 (CloseHandle h1), Done)
    ∷ (p1 (MoveFile (codes "\\Dir\\F") (codes "\\G")), Done)
    ∷ (p1 (RemoveDirectory (codes "\\G")), Refused Refusal.Directory)
    ∷ (p1 (FindFiles (codes "\\*")), Names (codes "Dir\\" ∷ codes "G" ∷ []))
    ∷ (p1 (RemoveDirectory (codes "\\Dir")), Done)
    ∷ (p1 (DeleteFile (codes "\\")), Refused AccessDenied)
    ∷ (p1 (DeleteFile (codes "\\G")), Done)
    ∷ []
    )

-- on an image of 16 units, which are 65,536 bytes, one byte more is refused
abbrev pub UnitLimit : Type 0
UnitLimit = Answered (new_image 16) (
    (p1 (CreateFile h1 (codes "\\a") Access.ReadWrite ShareMode.Nothing Disposition.CreateNew), Done)
    ∷ (p1 (WriteFile h1 0 (replicate 65536 0)), Done)
    ∷ (p1 (WriteFile h1 65536 (1 ∷ [])), Refused DiskFull)
    ∷ (p1 (GetFileSizeEx h1), Size 65536)
    ∷ []
    )

-- on an image of 16 units all 65,536 bytes of a file are written three times
abbrev pub LongLog : Type 0
LongLog = Answered (new_image 16) (
    (p1 (CreateFile h1 (codes "\\a") Access.ReadWrite ShareMode.Nothing Disposition.CreateNew), Done)
    ∷ (p1 (WriteFile h1 0 (replicate 65536 0)), Done)
    ∷ (p1 (WriteFile h1 0 (replicate 65536 0)), Done)
    ∷ (p1 (WriteFile h1 0 (replicate 65536 0)), Done)
    ∷ (p1 (GetFileSizeEx h1), Size 65536)
    ∷ []
    )
