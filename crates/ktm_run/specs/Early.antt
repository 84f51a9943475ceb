-- What each early end of the program leaves, over every disk.
use Rattle.std.specs.Prelude.{◌≡◌, ◌⊎◌, ℕ, ◌<◌, true, List, length, Option, IfSome}
use Rattle.std.specs.Io.KnownBytes.{Appends, Keeps}
use Rattle.ktm_base.specs.Disk.{DiskState, DiskStatus}
use Rattle.ktm_base.specs.Told.{Goes}
use Rattle.ktm_kernel.specs.Restarts.{IsWorn}
use Rattle.ktm_kernel.specs.Bad.{IsBadAt}
use Rattle.ktm_run.specs.Form.{usage_line, bad_image_line, worn_line}
use Rattle.ktm_kernel.specs.Opening.{Prepared, WentDown}
use Rattle.ktm_dump.specs.Written.{AppendsPart}
use Rattle.ktm_kernel.specs.declared.fault.OpenFault.{OpenFault}
use Rattle.ktm_kernel.specs.declared.fault.OpenFault.TheVariants as opening
use Rattle.ktm_run.specs.declared.status.Status.{Status}
use Rattle.ktm_run.specs.declared.status.Status.TheVariants.{Done, Usage, SourceFault, SinkFault, NoMemory, BadImage, DiskFault, ScriptTooLong, Worn}

-- the outside: what the source has left, what the sink took, and what the disk tells and counts
pub record Outside : Type 0 where
  pub left : Option (List ℕ)
  pub taken : Option (List ℕ)
  pub disk : Option DiskState
  pub status : DiskStatus

-- the outside with these parts
abbrev pub outside : Option (List ℕ) → Option (List ℕ) → Option DiskState → DiskStatus → Outside
outside left taken disk status = record { left = left; taken = taken; disk = disk; status = status }

-- the source and all of the disk are as they were
pub record LeftAlone (old new : Outside) : Type 0 where
  pub source : new.left ≡ old.left
  pub disk : new.disk ≡ old.disk
  pub status : new.status ≡ old.status

-- nothing at all was touched
pub record Untouched (old new : Outside) : Type 0 where
  pub alone : LeftAlone old new
  pub not_written : Keeps old.taken new.taken

-- nothing was taken from the source, and the plan of the disk has not grown
pub record NotRun (old new : Outside) : Type 0 where
  pub not_read : new.left ≡ old.left
  pub plan_is : new.status.plan ≡ old.status.plan

-- the image is bad at this offset, and the disk tells what it told; a disk without a byte is never bad
pub record FoundBad (offset : ℕ) (old new : Outside) : Type 0 where
  pub not_run : NotRun old new
  pub same : new.disk ≡ old.disk
  pub bad : IfSome old.disk (λ s. (0 < length s.seen) × IsBadAt s.seen offset)

-- the image stands for a worn state, and the disk tells what it told; a disk without a byte is never worn
pub record FoundWorn (old new : Outside) : Type 0 where
  pub not_run : NotRun old new
  pub same : new.disk ≡ old.disk
  pub worn : IfSome old.disk (λ s. (0 < length s.seen) × IsWorn true s)

-- the disk was down in the opening, or went down in it
pub record FoundDown (old new : Outside) : Type 0 where
  pub not_run : NotRun old new
  pub not_written : Keeps old.taken new.taken
  pub went_down : WentDown old.status new.status

-- there was no memory for the opening: the disk tells what it told, or is a new image where it had no byte
pub record FoundNoMemory (old new : Outside) : Type 0 where
  pub not_run : NotRun old new
  pub not_written : Keeps old.taken new.taken
  pub disk : (new.disk ≡ old.disk) ⊎ Goes Prepared old.disk new.disk

-- the usage is said, or a part of it where the sink failed
abbrev pub SaysUsage : Status → Option (List ℕ) → Option (List ℕ) → Type 0
SaysUsage result old new = ((result ≡ Usage) × Appends old new usage_line) ⊎ ((result ≡ SinkFault) × AppendsPart old new usage_line)

-- words of no form: their usage was said, or a part of it where the sink failed, and nothing else was touched
abbrev pub NoForm : Status → Outside → Outside → Type 0
NoForm Usage old new = LeftAlone old new × Appends old.taken new.taken usage_line
NoForm SinkFault old new = LeftAlone old new × AppendsPart old.taken new.taken usage_line
NoForm Done old new = ⊥
NoForm SourceFault old new = ⊥
NoForm NoMemory old new = ⊥
NoForm BadImage old new = ⊥
NoForm DiskFault old new = ⊥
NoForm ScriptTooLong old new = ⊥
NoForm Worn old new = ⊥

-- how a run ends whose machine was not started, and what it says: of a bad image and of a worn one its line, or a part of it where the sink
-- failed, and else nothing
abbrev pub SaysWhy : Status → OpenFault → Option (List ℕ) → Option (List ℕ) → Type 0
SaysWhy result (opening.BadImage offset) old new = ((result ≡ BadImage) × Appends old new (bad_image_line offset)) ⊎ ((result ≡ SinkFault) × AppendsPart old new (bad_image_line offset))
SaysWhy result opening.Down old new = (result ≡ DiskFault) × (new ≡ old)
SaysWhy result opening.Worn old new = ((result ≡ Worn) × Appends old new worn_line) ⊎ ((result ≡ SinkFault) × AppendsPart old new worn_line)
SaysWhy result opening.NoMemory old new = (result ≡ NoMemory) × (new ≡ old)

-- how a run may end, where Opened says that the disk held what a run begins from
abbrev pub EndsAs : Status → Type 0 → Outside → Outside → Type 0
EndsAs Done Opened old new = Opened
EndsAs SourceFault Opened old new = Opened
EndsAs ScriptTooLong Opened old new = Opened
EndsAs SinkFault Opened old new =
    Untouched old new
    ⊎ ((offset : ℕ) × FoundBad offset old new × AppendsPart old.taken new.taken (bad_image_line offset))
    ⊎ (FoundWorn old new × AppendsPart old.taken new.taken worn_line)
    ⊎ Opened
EndsAs NoMemory Opened old new = FoundNoMemory old new ⊎ Opened
EndsAs BadImage Opened old new = (offset : ℕ) × FoundBad offset old new × Appends old.taken new.taken (bad_image_line offset)
EndsAs Worn Opened old new = FoundWorn old new × Appends old.taken new.taken worn_line
EndsAs DiskFault Opened old new = FoundDown old new
EndsAs Usage Opened old new = ⊥
