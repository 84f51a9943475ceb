-- What the execution of a line, of bytes and of a script leaves, by its answer.
use Rattle.std.specs.Prelude.{◌≡◌, ℕ, ◌+◌, ◌<◌, ◌≤◌, true, List, [], ◌∷◌, length, take, Option, Result, Ok, Err, IfSome}
use Rattle.std.specs.Io.KnownBytes.{Consumes, IsAtEnd}
use Rattle.ktm_base.specs.declared.limits.TheConstants.{MOST_SCRIPT_BYTES}
use Rattle.ktm_kernel.specs.Stands.{IsReady, KernelAt}
use Rattle.ktm_run.specs.declared.status.Status.{Status}
use Rattle.ktm_run.specs.declared.status.Status.TheVariants.{Done, Usage, SourceFault, SinkFault, NoMemory, BadImage, DiskFault, ScriptTooLong, Worn}
use Rattle.ktm_run.specs.declared.fault.RunFault.{RunFault}
use Rattle.ktm_run.specs.Lasting.{LastsAfter}
use Rattle.ktm_run.specs.Progress.{Broke, Now, Progress, Stops}
use Rattle.ktm_run.specs.Script.{MayExecute, cut_lines, has_reply, kept_of, lines_from, part_from}
use Rattle.ktm_world.specs.World.{World}

-- ---- a line of which so much was kept

-- it was answered, and the machine is ready for the next one
pub record IsLineDone (kept : List ℕ) (old new : Now) : Type 0 where
  pub done : (line : List ℕ) → kept ≡ kept_of line → Progress old new (line ∷ [])
  pub ready : IsReady new.scene.it new.scene.told new.scene.status
  pub lasts : LastsAfter 1 old.scene.it new.scene.it

-- the run ended at it
pub record IsLineBroken (kept : List ℕ) (old new : Now) : Type 0 where
  pub wants_reply : has_reply kept ≡ true
  pub broke : (line : List ℕ) → kept ≡ kept_of line → (w : World) → KernelAt old.scene.it old.scene.told w → Broke w old new line

-- what it leaves
abbrev pub LineLeaves : List ℕ → Now → Now → Result (Unit {0}) RunFault → Type 0
LineLeaves kept old new (Ok done) = IsLineDone kept old new
LineLeaves kept old new (Err fault) = IsLineBroken kept old new

-- ---- bytes of a script, behind a part of a line of which so much was kept

-- the lines that end in them were answered, and of the part behind the last one so much is kept
pub record AreFed (bytes kept now_kept : List ℕ) (old new : Now) : Type 0 where
  pub done : (part : List ℕ) → kept ≡ kept_of part → Progress old new (lines_from part bytes)
  pub keeps : (part : List ℕ) → kept ≡ kept_of part → now_kept ≡ kept_of (part_from part bytes)
  pub ready : IsReady new.scene.it new.scene.told new.scene.status
  -- there is at most a line for each byte
  pub lasts : LastsAfter (length bytes) old.scene.it new.scene.it

-- what they leave; a run that ended did so at one of those lines
abbrev pub FeedLeaves : List ℕ → List ℕ → List ℕ → Now → Now → Result (Unit {0}) RunFault → Type 0
FeedLeaves bytes kept now_kept old new (Ok done) = AreFed bytes kept now_kept old new
FeedLeaves bytes kept now_kept old new (Err fault) = (part : List ℕ) → kept ≡ kept_of part → Stops old new (lines_from part bytes)

-- ---- a script

-- what the source has left, with the machine, its disk and the sink
pub record Position : Type 0 where
  pub left : Option (List ℕ)
  pub now : Now

-- the position with these parts
abbrev pub position : Option (List ℕ) → Now → Position
position left now = record { left = left; now = now }

-- the source came to its end, and each line was answered
pub record IsWhole (old new : Position) : Type 0 where
  pub script : List ℕ
  pub was_read : Consumes old.left new.left script
  pub at_end : IsAtEnd new.left
  pub short : length script ≤ MOST_SCRIPT_BYTES
  pub went : Progress old.now new.now (cut_lines script)

-- the source failed, and each line that had ended was answered
pub record IsBrokenOff (old new : Position) : Type 0 where
  pub script : List ℕ
  pub was_read : Consumes old.left new.left script
  pub short : length script ≤ MOST_SCRIPT_BYTES
  pub went : Progress old.now new.now (lines_from [] script)

-- the script goes on behind its greatest length, and each line that had ended before was answered
pub record IsTooLong (old new : Position) : Type 0 where
  pub script : List ℕ
  pub was_read : Consumes old.left new.left script
  pub long : length script ≡ MOST_SCRIPT_BYTES + 1
  pub went : Progress old.now new.now (lines_from [] (take MOST_SCRIPT_BYTES script))
  pub more : IfSome old.left (λ bytes. MOST_SCRIPT_BYTES < length bytes)

-- the run ended at a line
pub record IsStopped (old new : Position) : Type 0 where
  pub script : List ℕ
  pub lines : List (List ℕ)
  pub was_read : Consumes old.left new.left script
  pub short : length script ≤ MOST_SCRIPT_BYTES
  pub may : MayExecute new.left script lines
  pub stops : Stops old.now new.now lines

-- what it leaves
abbrev pub ScriptLeaves : Status → Position → Position → Type 0
ScriptLeaves Done old new = IsWhole old new
ScriptLeaves SourceFault old new = IsBrokenOff old new
ScriptLeaves ScriptTooLong old new = IsTooLong old new
ScriptLeaves SinkFault old new = IsStopped old new
ScriptLeaves NoMemory old new = IsStopped old new
ScriptLeaves Usage old new = ⊥
ScriptLeaves BadImage old new = ⊥
ScriptLeaves DiskFault old new = ⊥
ScriptLeaves Worn old new = ⊥
