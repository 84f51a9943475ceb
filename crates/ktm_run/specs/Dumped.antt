-- What the form that writes the state of an image leaves, by how it ended.
use Rattle.std.specs.Prelude.{◌≡◌, ◌⊎◌, ℕ, List, [], Option, IfSome}
use Rattle.std.specs.Io.KnownBytes.{Appends, Keeps}
use Rattle.ktm_base.specs.Disk.{DiskState}
use Rattle.ktm_dump.specs.Text.{state_text}
use Rattle.ktm_dump.specs.Written.{AppendsPart}
use Rattle.ktm_journal.specs.declared.fault.LoadFault.{LoadFault}
use Rattle.ktm_journal.specs.declared.fault.LoadFault.TheVariants as load
use Rattle.ktm_kernel.specs.Logs.{StandsFor}
use Rattle.ktm_run.specs.Early.{FoundBad, FoundDown, NotRun, Outside}
use Rattle.ktm_run.specs.Form.{bad_image_line, blank_line}
use Rattle.ktm_run.specs.declared.status.Status.{Status}
use Rattle.ktm_run.specs.declared.status.Status.TheVariants.{Done, Usage, SourceFault, SinkFault, NoMemory, BadImage, DiskFault, ScriptTooLong, Worn}
use Rattle.ktm_world.specs.Durable.{Durable}

-- the bytes are none, or an image that stands for a state
abbrev pub IsReadable : List ℕ → Type 0
IsReadable bytes = (bytes ≡ []) ⊎ ((state : Durable) × StandsFor state bytes)

-- the text tells what the disk holds: no byte, or a state for which the bytes stand
abbrev pub Tells : Option DiskState → List ℕ → Type 0
Tells told text =
    (IfSome told (λ s. s.seen ≡ []) × (text ≡ blank_line))
    ⊎ ((state : Durable) × IfSome told (λ s. StandsFor state s.seen) × (text ≡ state_text state))

-- the disk tells what it told, and nothing was taken from the source
pub record OnlyRead (old new : Outside) : Type 0 where
  pub not_run : NotRun old new
  pub same : new.disk ≡ old.disk

-- what the disk holds was written whole
pub record IsDumped (old new : Outside) : Type 0 where
  pub only_read : OnlyRead old new
  pub text : List ℕ
  pub tells : Tells old.disk text
  pub wrote : Appends old.taken new.taken text

-- a part of it was written, and then the sink failed
pub record IsDumpedInPart (old new : Outside) : Type 0 where
  pub only_read : OnlyRead old new
  pub text : List ℕ
  pub tells : Tells old.disk text
  pub wrote : AppendsPart old.taken new.taken text

-- nothing was written
pub record IsNotDumped (old new : Outside) : Type 0 where
  pub only_read : OnlyRead old new
  pub not_written : Keeps old.taken new.taken

-- what is said of a disk without a byte, or a part of it where the sink failed
abbrev pub SaysBlank : Status → Option (List ℕ) → Option (List ℕ) → Type 0
SaysBlank result old new = ((result ≡ Done) × Appends old new blank_line) ⊎ ((result ≡ SinkFault) × AppendsPart old new blank_line)

-- how the dump of an image ends that was not loaded, and what it says: of a bad one its line, or a part of it where the sink failed, and
-- else nothing
abbrev pub SaysFault : Status → LoadFault → Option (List ℕ) → Option (List ℕ) → Type 0
SaysFault result (load.Bad offset) old new = ((result ≡ BadImage) × Appends old new (bad_image_line offset)) ⊎ ((result ≡ SinkFault) × AppendsPart old new (bad_image_line offset))
SaysFault result load.Down old new = (result ≡ DiskFault) × (new ≡ old)
SaysFault result load.NoMemory old new = (result ≡ NoMemory) × (new ≡ old)

-- what is left
abbrev pub DumpLeaves : Status → Outside → Outside → Type 0
DumpLeaves Done old new = IsDumped old new
DumpLeaves NoMemory old new = IsNotDumped old new
DumpLeaves DiskFault old new = IsNotDumped old new × FoundDown old new
DumpLeaves BadImage old new = (offset : ℕ) × FoundBad offset old new × Appends old.taken new.taken (bad_image_line offset)
DumpLeaves SinkFault old new = IsDumpedInPart old new ⊎ ((offset : ℕ) × FoundBad offset old new × AppendsPart old.taken new.taken (bad_image_line offset))
DumpLeaves Usage old new = ⊥
DumpLeaves SourceFault old new = ⊥
DumpLeaves ScriptTooLong old new = ⊥
DumpLeaves Worn old new = ⊥
