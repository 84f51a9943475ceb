-- What the lines of a generated script make of the machine and its disk, and what is counted of their replies.
use Rattle.std.specs.Prelude.{◌≡◌, ℕ, ◌<◌, List, Result, Ok, Err, IfSome, count_by}
use Rattle.std.specs.Io.KnownBytes.{Appends}
use Rattle.ktm_base.specs.declared.fault.NoMemory.{NoMemory}
use Rattle.ktm_base.specs.Disk.{HasLengths}
use Rattle.ktm_gen.specs.Script.{generated_lines, line_at}
use Rattle.ktm_kernel.specs.Stands.{IsReady, KernelState, KernelAt}
use Rattle.ktm_log.specs.OnDisk.{OnDisk}
use Rattle.ktm_run.specs.declared.status.Status.{Status}
use Rattle.ktm_run.specs.declared.status.Status.TheVariants.{Done, Usage, SourceFault, SinkFault, NoMemory as OutOfMemory, BadImage, DiskFault, ScriptTooLong, Worn}
use Rattle.ktm_run.specs.declared.tally.Tally.{Tally}
use Rattle.ktm_run.specs.Progress.{Now, Unanswered, Went}
use Rattle.ktm_dump.specs.Written.{AppendsPart}
use Rattle.ktm_run.specs.Summary.{is_ok, is_refused, is_start, summary_line}
use Rattle.ktm_world.specs.declared.reply.Reply.{Reply}
use Rattle.ktm_world.specs.World.{World}

-- the replies of each kind were counted
pub record Counted (replies : List Reply) (tally : Tally) : Type 0 where
  pub ok : tally.ok ≡ count_by is_ok replies
  pub refused : tally.refused ≡ count_by is_refused replies
  pub restarts : tally.restarts ≡ count_by is_start replies

-- the lines came by a transcript to a world for which the machine then stands, and their replies were counted
pub record Tallied (w : World) (old new : OnDisk KernelState) (lines : List (List ℕ)) (tally : Tally) : Type 0 where
  pub went : Went w old new lines
  pub counted : Counted went.replies tally

-- the first lines of the script of a number were executed, for every world that the machine stands for
pub record AreTallied (number lines : ℕ) (old new : OnDisk KernelState) (tally : Tally) : Type 0 where
  pub went : (w : World) → KernelAt old.it old.told w → Tallied w old new (generated_lines number lines) tally
  pub ready : IsReady new.it new.told new.status
  pub all : tally.lines ≡ lines

-- some of the first lines were executed, and at the next one there was no memory
pub record Halted (number lines : ℕ) (w : World) (old new : OnDisk KernelState) : Type 0 where
  pub before : ℕ
  pub fewer : before < lines
  pub at : OnDisk KernelState
  -- what the disk reads there is as long as an image that may be left
  pub lengths : IfSome at.told HasLengths
  pub went : Went w old at (generated_lines number before)
  pub broke : Unanswered went.world at new (line_at number before)

-- for every world that the machine stands for
abbrev pub Halts : ℕ → ℕ → OnDisk KernelState → OnDisk KernelState → Type 0
Halts number lines old new = (w : World) → KernelAt old.it old.told w → Halted number lines w old new

-- what the first lines leave
abbrev pub LinesLeave : ℕ → ℕ → OnDisk KernelState → OnDisk KernelState → Result Tally NoMemory → Type 0
LinesLeave number lines old new (Ok tally) = AreTallied number lines old new tally
LinesLeave number lines old new (Err fault) = Halts number lines old new

-- ---- the lines, and then their summary

-- they were executed, and of the summary so much was written
pub record Summed (number lines : ℕ) (w : World) (old new : OnDisk KernelState) (Wrote : List ℕ → Type 0) : Type 0 where
  pub went : Went w old new (generated_lines number lines)
  pub wrote : Wrote (summary_line lines went.replies went.world)

-- for every world that the machine stands for
abbrev pub Sums : ℕ → ℕ → OnDisk KernelState → OnDisk KernelState → (List ℕ → Type 0) → Type 0
Sums number lines old new Wrote = (w : World) → KernelAt old.it old.told w → Summed number lines w old new Wrote

-- what is left, by how it ended
abbrev pub SumLeaves : Status → ℕ → ℕ → Now → Now → Type 0
SumLeaves Done number lines old new = Sums number lines old.scene new.scene (Appends old.taken new.taken)
SumLeaves SinkFault number lines old new = Sums number lines old.scene new.scene (AppendsPart old.taken new.taken)
SumLeaves OutOfMemory number lines old new = (new.taken ≡ old.taken) × Halts number lines old.scene new.scene
SumLeaves Usage number lines old new = ⊥
SumLeaves SourceFault number lines old new = ⊥
SumLeaves BadImage number lines old new = ⊥
SumLeaves DiskFault number lines old new = ⊥
SumLeaves ScriptTooLong number lines old new = ⊥
SumLeaves Worn number lines old new = ⊥
