-- What lines made of the machine, its disk and the sink.
use Rattle.std.specs.Prelude.{◌≡◌, ◌⊎◌, ℕ, ◌+◌, ◌≤◌, true, false, List, [], ◌∷◌, ◌++◌, Option, Some, IfSome, IsSomeAnd}
use Rattle.std.specs.List.{filter}
use Rattle.std.specs.Io.KnownBytes.{Appends}
use Rattle.ktm_base.specs.declared.power.PowerCall.{PowerCall}
use Rattle.ktm_base.specs.declared.power.PowerCall.TheVariants.{Power}
use Rattle.ktm_base.specs.Disk.{DiskState, DiskStatus, HasLengths}
use Rattle.ktm_kernel.specs.Stands.{KernelState, KernelAt, LeavesStates}
use Rattle.ktm_log.specs.OnDisk.{OnDisk, on}
use Rattle.ktm_run.specs.Plan.{plan_of, plans, falls_of, falls, RoseBy, calls_unanswered, calls_of, calls}
use Rattle.ktm_dump.specs.Written.{AppendsPart}
use Rattle.ktm_run.specs.Script.{has_reply, Means, MeanAll, reply_line, written_replies}
use Rattle.ktm_world.specs.declared.command.Line.{Line}
use Rattle.ktm_world.specs.declared.command.Line.TheVariants.{Restart}
use Rattle.ktm_world.specs.declared.reply.Reply.{Reply}
use Rattle.ktm_world.specs.Transcript.{Step, Does, Transcript}
use Rattle.ktm_world.specs.World.{World}
use Rattle.ktm_world.specs.Logs.{is_up}

-- the machine on its disk, and what the sink took
pub record Now : Type 0 where
  pub scene : OnDisk KernelState
  pub taken : Option (List ℕ)

-- the machine on a disk that tells so much and has this status, and what the sink took
abbrev pub point : KernelState → Option DiskState → DiskStatus → Option (List ℕ) → Now
point machine told status taken = record { scene = on machine told status; taken = taken }

-- between two moments lines were executed that may make so many device calls, had this plan and took the disk down so often
pub record Counts (old new : OnDisk KernelState) (most : ℕ) (plan : List PowerCall) (fell : ℕ) : Type 0 where
  pub rose : RoseBy fell old.status.downs new.status.downs
  pub plan_is : new.status.plan ≡ old.status.plan ++ plan
  pub few : new.status.calls ≤ old.status.calls + most

-- a line came to this reply, by a step to a world for which the machine then stands
pub record Did (w : World) (old new : OnDisk KernelState) (line : Option Line) (reply : Reply) : Type 0 where
  pub step : Step
  pub world : World
  pub does : Does w line step reply world
  pub stands : KernelAt new.it new.told world
  pub counts : Counts old new (calls_of w.base.units line) (plan_of line reply) (falls_of line step reply)

-- for every world that the machine stands for
abbrev pub Answers : OnDisk KernelState → OnDisk KernelState → Option Line → Reply → Type 0
Answers old new line reply = (w : World) → KernelAt old.it old.told w → Did w old new line reply

-- a line was not executed, or it was a restart that found no memory: what may be left is of the same world
pub record Unanswered (w : World) (old new : OnDisk KernelState) (line : List ℕ) : Type 0 where
  pub leaves : IsSomeAnd new.told (LeavesStates w)
  pub counts : Counts old new calls_unanswered [] 0
      ⊎ ((pick : ℕ) × Means line (Some (Restart pick)) × (is_up w.power ≡ false) × Counts old new (calls_of w.base.units (Some (Restart pick))) (Power pick ∷ []) 0)

-- the lines came by a transcript to a world for which the machine then stands
pub record Went (w : World) (old new : OnDisk KernelState) (lines : List (List ℕ)) : Type 0 where
  pub meant : List (Option Line)
  pub steps : List Step
  pub replies : List Reply
  pub world : World
  pub mean : MeanAll (filter has_reply lines) meant
  pub run : Transcript w meant steps replies world
  pub stands : KernelAt new.it new.told world
  pub counts : Counts old new (calls w.base.units meant) (plans meant replies) (falls meant steps replies)

-- the lines were executed, and their replies were written
pub record Ran (w : World) (old new : Now) (lines : List (List ℕ)) : Type 0 where
  pub went : Went w old.scene new.scene lines
  pub wrote : Appends old.taken new.taken (written_replies went.replies)

-- so many lines went on from one moment to the next, for every world that the machine stands for
abbrev pub Progress : Now → Now → List (List ℕ) → Type 0
Progress old new lines = (w : World) → KernelAt old.scene.it old.scene.told w → Ran w old new lines

-- a line was answered, and a part of its reply was written
pub record HalfWritten (w : World) (old new : Now) (line : List ℕ) : Type 0 where
  pub meant : Option Line
  pub mean : Means line meant
  pub reply : Reply
  pub did : Did w old.scene new.scene meant reply
  pub wrote : AppendsPart old.taken new.taken (reply_line reply)
  pub leaves : IsSomeAnd new.scene.told (LeavesStates did.world)

-- a line at which a run ended early
abbrev pub Broke : World → Now → Now → List ℕ → Type 0
Broke w old new line = (Appends old.taken new.taken [] × Unanswered w old.scene new.scene line) ⊎ HalfWritten w old new line

-- of these lines the first ones were answered, and at the next one the run ended
pub record Stopped (w : World) (old new : Now) (lines : List (List ℕ)) : Type 0 where
  pub before : List (List ℕ)
  pub line : List ℕ
  pub behind : List (List ℕ)
  pub split : lines ≡ before ++ line ∷ behind
  -- only a line that has a reply ends a run
  pub wants_reply : has_reply line ≡ true
  pub at : Now
  -- what the disk reads there is as long as an image that may be left
  pub lengths : IfSome at.scene.told HasLengths
  pub ran : Ran w old at before
  pub broke : Broke ran.went.world at new line

-- among these lines the run ended early, for every world that the machine stands for
abbrev pub Stops : Now → Now → List (List ℕ) → Type 0
Stops old new lines = (w : World) → KernelAt old.scene.it old.scene.told w → Stopped w old new lines
