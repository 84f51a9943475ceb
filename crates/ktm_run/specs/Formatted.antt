-- What the form that makes an image new leaves, by how it ended.
use Rattle.std.specs.Prelude.{ℕ}
use Rattle.std.specs.Io.KnownBytes.{Keeps}
use Rattle.ktm_base.specs.Disk.{DiskState, IsSafe}
use Rattle.ktm_base.specs.Told.{Goes}
use Rattle.ktm_kernel.specs.Logs.{StandsFor}
use Rattle.ktm_run.specs.Early.{FoundDown, NotRun, Outside}
use Rattle.ktm_run.specs.declared.status.Status.{Status}
use Rattle.ktm_run.specs.declared.status.Status.TheVariants.{Done, Usage, SourceFault, SinkFault, NoMemory, BadImage, DiskFault, ScriptTooLong, Worn}
use Rattle.ktm_world.specs.Durable.{empty_state}

-- a disk that stands for the empty state of so many units, with the number 1, all of which is safe
pub record IsNew (units : ℕ) (s : DiskState) : Type 0 where
  pub safe : IsSafe s
  pub stands : StandsFor (empty_state units 1) s.seen

-- whatever the disk held, it holds the new image, and nothing was read or written
pub record MadeNew (units : ℕ) (old new : Outside) : Type 0 where
  pub not_run : NotRun old new
  pub not_written : Keeps old.taken new.taken
  pub made : Goes (λ _ s. IsNew units s) old.disk new.disk

-- what is left
abbrev pub FormatLeaves : Status → ℕ → Outside → Outside → Type 0
FormatLeaves Done units old new = MadeNew units old new
FormatLeaves DiskFault units old new = FoundDown old new
FormatLeaves SinkFault units old new = ⊥
FormatLeaves Usage units old new = ⊥
FormatLeaves SourceFault units old new = ⊥
FormatLeaves NoMemory units old new = ⊥
FormatLeaves BadImage units old new = ⊥
FormatLeaves ScriptTooLong units old new = ⊥
FormatLeaves Worn units old new = ⊥
