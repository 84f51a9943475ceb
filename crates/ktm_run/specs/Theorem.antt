-- What a run of a script comes to, and what stands where one ended early.
use Rattle.std.specs.Prelude.{◌≡◌, ◌⊎◌, ℕ, ◌+◌, ◌≤◌, true, false, List, [], ◌∷◌, ◌++◌, length, take, Option, Some, Contains, IsSomeAnd}
use Rattle.std.specs.List.{filter}
use Rattle.std.specs.Io.KnownBytes.{Appends, Consumes, IsAtEnd, Keeps}
use Rattle.ktm_base.specs.declared.limits.TheConstants.{MOST_SCRIPT_BYTES}
use Rattle.ktm_base.specs.declared.power.PowerCall.{PowerCall}
use Rattle.ktm_base.specs.declared.power.PowerCall.TheVariants.{Power}
use Rattle.ktm_base.specs.Disk.{DiskState, DiskStatus, MayLeave}
use Rattle.ktm_kernel.specs.Logs.{StandsFor}
use Rattle.ktm_kernel.specs.Restarts.{LeavesOwnOrNot}
use Rattle.ktm_kernel.specs.Stands.{LeavesStates}
use Rattle.ktm_world.specs.Durable.{Durable, is_worn, stand}
use Rattle.ktm_world.specs.Lawful.{IsLawful}
use Rattle.ktm_world.specs.OneOutcome.{HasOneOutcome, tellings}
use Rattle.ktm_world.specs.Transcript.{Does, Transcript, Step}
use Rattle.ktm_world.specs.World.{World, opened, possible_logs}
use Rattle.ktm_kernel.specs.Begins.{BeginsAs}
use Rattle.ktm_kernel.specs.Opening.{opening_calls}
use Rattle.ktm_run.specs.Early.{Outside, Untouched}
use Rattle.ktm_run.specs.Plan.{plan_of, plans, falls_of, falls, RoseBy, calls_unanswered, calls_of, calls}
use Rattle.ktm_dump.specs.Written.{AppendsPart}
use Rattle.ktm_run.specs.Form.{worn_line}
use Rattle.ktm_run.specs.Script.{has_reply, cut_lines, lines_from, MayExecute, Means, MeanAll, reply_line, written_replies}
use Rattle.ktm_run.specs.declared.status.Status.{Status}
use Rattle.ktm_run.specs.declared.status.Status.TheVariants.{Done, Usage, SourceFault, SinkFault, NoMemory, BadImage, DiskFault, ScriptTooLong, Worn}
use Rattle.ktm_world.specs.declared.command.Line.{Line}
use Rattle.ktm_world.specs.declared.command.Line.TheVariants.{Restart}
use Rattle.ktm_world.specs.declared.reply.Reply.{Reply}
use Rattle.ktm_world.specs.Logs.{Group, is_up}

-- ---- what a disk may leave

-- what the disk reads, and each image that a loss of power may leave, stands for the state of a possible log
pub record HoldsStates (w : World) (s : DiskState) : Type 0 where
  pub seen : (log : List Group) × Contains (possible_logs w) log × StandsFor (stand w.base log) s.seen
  pub left : LeavesStates w s

-- ---- the run

-- what the sink took, and what the disk tells and counts
pub record Moment : Type 0 where
  pub taken : Option (List ℕ)
  pub disk : Option DiskState
  pub status : DiskStatus

-- all of it but what the source has left
abbrev pub moment_of : Outside → Moment
moment_of o = record { taken = o.taken; disk = o.disk; status = o.status }

-- the disk's counts over an opening and lines that may make so many device calls, had this plan and took the disk down so often
pub record RunCounts (units : ℕ) (old new : DiskStatus) (most : ℕ) (plan : List PowerCall) (fell : ℕ) : Type 0 where
  pub rose : RoseBy fell old.downs new.downs
  pub plan_is : new.plan ≡ old.plan ++ plan
  pub few : new.calls ≤ old.calls + (opening_calls units + most)

-- the disk's counts over a line that may make so many device calls, had this plan and took the disk down so often
pub record LineCounts (old new : DiskStatus) (most : ℕ) (plan : List PowerCall) (fell : ℕ) : Type 0 where
  pub rose : RoseBy fell old.downs new.downs
  pub plan_is : new.plan ≡ old.plan ++ plan
  pub few : new.calls ≤ old.calls + most

-- lines of a script were executed by a run that began so, over a disk with such counts before and now: their replies are those of a
-- transcript
pub record Executed (base : Durable) (old new : DiskStatus) (disk : Option DiskState) (lines : List (List ℕ)) : Type 0 where
  pub meant : List (Option Line)
  pub steps : List Step
  pub replies : List Reply
  pub world : World
  pub mean : MeanAll (filter has_reply lines) meant
  -- by explicit steps: answered, interrupted, or a restart that found a log
  pub transcript : Transcript (opened base []) meant steps replies world
  -- the world that they come to is lawful
  pub lawful : IsLawful world
  -- each world that a beginning of the steps comes to is lawful
  pub lawful_before : (n : ℕ) (mid : World) → Transcript (opened base []) (take n meant) (take n steps) (take n replies) mid → IsLawful mid
  -- over all its restarts no transaction is told to have committed and to have rolled back
  pub one_outcome : HasOneOutcome (tellings (opened base []) meant steps replies)
  -- the interrupted lines and the crashes that were answered are at most as many as the disk went down, the plan grew by that of
  -- the lines, and there were so few device calls
  pub counts : RunCounts base.units old new (calls base.units meant) (plans meant replies) (falls meant steps replies)
  -- the disk holds the state of a possible log of the world
  pub holds : IsSomeAnd disk (HoldsStates world)

-- they were executed, and their replies were written, each in a line of its own
pub record Replied (base : Durable) (old new : Moment) (lines : List (List ℕ)) : Type 0 where
  pub executed : Executed base old.status new.status new.disk lines
  pub wrote : Appends old.taken new.taken (written_replies executed.replies)

-- the run of a whole script
pub record RunTheorem (base : Durable) (old new : Outside) : Type 0 where
  -- the script is what the source had left, and all of it was read
  pub script : List ℕ
  pub was_read : Consumes old.left new.left script
  pub at_end : IsAtEnd new.left
  pub within : length script ≤ MOST_SCRIPT_BYTES
  -- what it began from is not worn
  pub unworn : is_worn base ≡ false
  pub replied : Replied base (moment_of old) (moment_of new) (cut_lines script)

-- ---- a run that ended early

-- the script so far, of which all lines that ended were answered
pub record EndedBetween (base : Durable) (old new : Outside) (script lines : List ℕ) : Type 0 where
  pub was_read : Consumes old.left new.left script
  pub unworn : is_worn base ≡ false
  pub replied : Replied base (moment_of old) (moment_of new) (lines_from [] lines)

-- a line was not executed, or it was a restart that found no memory: nothing of a reply was written, and the disk holds a state of
-- the same world
pub record Unanswered (w : World) (old new : Moment) (line : List ℕ) : Type 0 where
  pub wrote : Appends old.taken new.taken []
  pub holds : IsSomeAnd new.disk (HoldsStates w)
  pub counts : LineCounts old.status new.status calls_unanswered [] 0
      ⊎ ((pick : ℕ) × Means line (Some (Restart pick)) × (is_up w.power ≡ false) × LineCounts old.status new.status (calls_of w.base.units (Some (Restart pick))) (Power pick ∷ []) 0)

-- a line was answered, and a part of its reply was written
pub record HalfWritten (w : World) (old new : Moment) (line : List ℕ) : Type 0 where
  pub meant : Option Line
  pub mean : Means line meant
  pub step : Step
  pub reply : Reply
  pub world : World
  pub does : Does w meant step reply world
  pub wrote : AppendsPart old.taken new.taken (reply_line reply)
  pub counts : LineCounts old.status new.status (calls_of w.base.units meant) (plan_of meant reply) (falls_of meant step reply)
  pub holds : IsSomeAnd new.disk (HoldsStates world)

-- the script so far: its first lines were answered, and at the next one the run ended
pub record EndedWithin (base : Durable) (old new : Outside) : Type 0 where
  pub script : List ℕ
  pub was_read : Consumes old.left new.left script
  pub within : length script ≤ MOST_SCRIPT_BYTES
  pub unworn : is_worn base ≡ false
  -- no line was executed that was read half
  pub lines : List (List ℕ)
  pub may : MayExecute new.left script lines
  pub before : List (List ℕ)
  pub line : List ℕ
  pub behind : List (List ℕ)
  pub split : lines ≡ before ++ line ∷ behind
  -- only a line that has a reply ends a run
  pub wants_reply : has_reply line ≡ true
  -- the moment before that line
  pub at : Moment
  pub replied : Replied base (moment_of old) at before
  pub broke : Unanswered replied.executed.world at (moment_of new) line ⊎ HalfWritten replied.executed.world at (moment_of new) line

-- the machine was not started, no line was read, and what the disk holds may begin the same run
pub record NotOpened (base : Durable) (old new : Outside) : Type 0 where
  pub not_read : Keeps old.left new.left
  pub not_written : Keeps old.taken new.taken
  pub plan_is : new.status.plan ≡ old.status.plan
  pub image : IsSomeAnd new.disk (λ s. (image : List ℕ) → MayLeave s image → BeginsAs base image)

-- the disk went down in the opening: where it had no byte, it may hold a new image that is not whole
abbrev pub CutOpening : Durable → Outside → Outside → Type 0
CutOpening base old new = IsSomeAnd old.disk (λ s. s.seen ≡ []) ⊎ IsSomeAnd new.disk (LeavesOwnOrNot base)

-- what stands after a run that ended early
abbrev pub EndedEarly : Status → Durable → Outside → Outside → Type 0
EndedEarly SourceFault base old new = (script : List ℕ) × (length script ≤ MOST_SCRIPT_BYTES) × EndedBetween base old new script script
EndedEarly ScriptTooLong base old new = (script : List ℕ) × (length script ≡ MOST_SCRIPT_BYTES + 1) × EndedBetween base old new script (take MOST_SCRIPT_BYTES script)
EndedEarly SinkFault base old new = Untouched old new ⊎ EndedWithin base old new ⊎ ((is_worn base ≡ true) × AppendsPart old.taken new.taken worn_line)
EndedEarly NoMemory base old new = NotOpened base old new ⊎ EndedWithin base old new
EndedEarly Worn base old new = (is_worn base ≡ true) × Appends old.taken new.taken worn_line
EndedEarly BadImage base old new = ⊥
EndedEarly Usage base old new = ⊥
EndedEarly DiskFault base old new = CutOpening base old new
EndedEarly Done base old new = RunTheorem base old new
