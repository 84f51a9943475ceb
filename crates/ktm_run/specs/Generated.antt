-- What a run of a generated script comes to, and what stands where one ended early.
use Rattle.std.specs.Prelude.{◌≡◌, ◌⊎◌, ℕ, ◌<◌, true, false, List, IsSomeAnd}
use Rattle.std.specs.Io.KnownBytes.{Appends, Keeps}
use Rattle.ktm_gen.specs.Script.{generated_lines, line_at}
use Rattle.ktm_kernel.specs.Begins.{Begins}
use Rattle.ktm_kernel.specs.Opened.{MayBegin}
use Rattle.ktm_run.specs.declared.status.Status.{Status}
use Rattle.ktm_run.specs.declared.status.Status.TheVariants.{Done, Usage, SourceFault, SinkFault, NoMemory, BadImage, DiskFault, ScriptTooLong, Worn}
use Rattle.ktm_run.specs.Early.{EndsAs, Outside}
use Rattle.ktm_run.specs.Form.{worn_line}
use Rattle.ktm_dump.specs.Written.{AppendsPart}
use Rattle.ktm_run.specs.Summary.{summary_line}
use Rattle.ktm_run.specs.Theorem.{CutOpening, Executed, Moment, NotOpened, Unanswered, moment_of}
use Rattle.ktm_world.specs.Durable.{Durable, is_worn}

-- the first lines of the script of a number were executed as those of any script, and of their summary so much was written
pub record Summarized (number lines : ℕ) (base : Durable) (old new : Outside) (Wrote : List ℕ → Type 0) : Type 0 where
  -- what it began from is not worn
  pub unworn : is_worn base ≡ false
  pub executed : Executed base old.status new.status new.disk (generated_lines number lines)
  pub wrote : Wrote (summary_line lines executed.replies executed.world)

-- some of these lines were executed, at the next one there was no memory, and nothing was written
pub record HaltedWithin (number lines : ℕ) (base : Durable) (old new : Outside) : Type 0 where
  pub unworn : is_worn base ≡ false
  pub before : ℕ
  pub fewer : before < lines
  -- the moment before that line
  pub at : Moment
  pub executed : Executed base old.status at.status at.disk (generated_lines number before)
  pub broke : Unanswered executed.world at (moment_of new) (line_at number before)
  pub not_written : Keeps old.taken at.taken

-- what stands after it, by how it ended, where the machine was asked to start
abbrev pub GeneratedEnds : Status → ℕ → ℕ → Durable → Outside → Outside → Type 0
GeneratedEnds Done number lines base old new = Summarized number lines base old new (Appends old.taken new.taken)
GeneratedEnds SinkFault number lines base old new =
    Summarized number lines base old new (AppendsPart old.taken new.taken) ⊎ ((is_worn base ≡ true) × AppendsPart old.taken new.taken worn_line)
GeneratedEnds NoMemory number lines base old new = NotOpened base old new ⊎ HaltedWithin number lines base old new
GeneratedEnds Worn number lines base old new = (is_worn base ≡ true) × Appends old.taken new.taken worn_line
GeneratedEnds DiskFault number lines base old new = CutOpening base old new
GeneratedEnds BadImage number lines base old new = ⊥
GeneratedEnds Usage number lines base old new = ⊥
GeneratedEnds SourceFault number lines base old new = ⊥
GeneratedEnds ScriptTooLong number lines base old new = ⊥

-- a run that reads no source ends in these ways alone
abbrev pub ReadsNone : Status → Type 0
ReadsNone SourceFault = ⊥
ReadsNone ScriptTooLong = ⊥
ReadsNone Usage = ⊥
ReadsNone status = Unit {0}

-- for whatever it begins from, and over every disk
pub record GeneratedLeaves (number lines : ℕ) (result : Status) (old new : Outside) : Type 0 where
  pub gen : (base : Durable) → IsSomeAnd old.disk (Begins base) → GeneratedEnds result number lines base old new
  pub ends : EndsAs result (MayBegin old.disk) old new
  pub reads_none : ReadsNone result
