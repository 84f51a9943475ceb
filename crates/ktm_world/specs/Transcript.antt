-- What the lines of a script may come to.
use Rattle.std.specs.Prelude.{◌≡◌, Bool, true, false, List, [], ◌∷◌, length, Option, Some, None, Contains}
use Rattle.ktm_base.specs.declared.refusal.Refusal.TheVariants.{BadLine, MachineDown, MachineUp, ImageWorn}
use Rattle.ktm_world.specs.declared.command.Line.{Line}
use Rattle.ktm_world.specs.declared.command.Line.TheVariants.{Tick, Cut, Crash, Restart, Process}
use Rattle.ktm_world.specs.declared.reply.Reply.{Reply}
use Rattle.ktm_world.specs.declared.reply.Reply.TheVariants.{Refused, Done, Restarted}
use Rattle.ktm_world.specs.Logs.{Group, is_up}
use Rattle.ktm_world.specs.Decide.{decide}
use Rattle.ktm_world.specs.Durable.{stand}
use Rattle.ktm_world.specs.Outcome.{Outcome}
use Rattle.ktm_world.specs.World.{World, present, extend, decide_tick, crashed, interrupted_by, interrupted_restart, found_worn, is_worn_log, opened, in_doubt, possible_logs}

-- what came of a line: it was answered, the power went in it, or it was a restart that found this log, which was not worn or was
pub data Step : Type 0 where
  answered : Step
  interrupted : Step
  found : List Group → Step
  worn : List Group → Step

-- a call comes to its outcome, or the power went in it
abbrev pub CallDoes : World → Outcome → Step → Reply → World → Type 0
CallDoes w o answered reply new = (reply ≡ o.reply) × (new ≡ extend w o)
CallDoes w o interrupted reply new = (is_up w.power ≡ true) × (reply ≡ Refused MachineDown) × (new ≡ interrupted_by w o)
CallDoes w o (found log) reply new = ⊥
CallDoes w o (worn log) reply new = ⊥

-- a line that is answered, and leaves the world as it is
abbrev pub IsAnswered : World → Reply → Step → Reply → World → Type 0
IsAnswered w says answered reply new = (reply ≡ says) × (new ≡ w)
IsAnswered w says interrupted reply new = ⊥
IsAnswered w says (found log) reply new = ⊥
IsAnswered w says (worn log) reply new = ⊥

-- a crash of a machine that is up or down
abbrev pub CrashDoes : Bool → World → Step → Reply → World → Type 0
CrashDoes true w answered reply new = (reply ≡ Done) × (new ≡ crashed w)
CrashDoes true w interrupted reply new = ⊥
CrashDoes true w (found log) reply new = ⊥
CrashDoes true w (worn log) reply new = ⊥
CrashDoes false w step reply new = IsAnswered w (Refused MachineDown) step reply new

-- one of the possible logs was found, which was worn or was not
pub record Finds (w : World) (log : List Group) (is_worn : Bool) : Type 0 where
  pub possible : Contains (possible_logs w) log
  pub worn : is_worn_log w log ≡ is_worn

-- a restart of a machine that is down
abbrev pub StartDoes : World → Step → Reply → World → Type 0
StartDoes w answered reply new = ⊥
StartDoes w interrupted reply new = (reply ≡ Refused MachineDown) × (new ≡ interrupted_restart w)
StartDoes w (found log) reply new =
    Finds w log false × (reply ≡ Restarted (stand w.base log).events (length (in_doubt (stand w.base log)))) × (new ≡ opened w.base log)
StartDoes w (worn log) reply new = Finds w log true × (reply ≡ Refused ImageWorn) × (new ≡ found_worn w log)

-- a restart of a machine that is up or down
abbrev pub RestartDoes : Bool → World → Step → Reply → World → Type 0
RestartDoes true w step reply new = IsAnswered w (Refused MachineUp) step reply new
RestartDoes false w step reply new = StartDoes w step reply new

-- from a world, a line comes by this step to this reply and this world; a line that is not in the grammar is none
abbrev pub Does : World → Option Line → Step → Reply → World → Type 0
Does w (Some (Process process command)) step reply new = CallDoes w (decide (present w) process command) step reply new
Does w (Some (Tick ms)) step reply new = CallDoes w (decide_tick (present w) ms) step reply new
Does w (Some (Cut calls)) step reply new = IsAnswered w Done step reply new
Does w (Some Crash) step reply new = CrashDoes (is_up w.power) w step reply new
Does w (Some (Restart pick)) step reply new = RestartDoes (is_up w.power) w step reply new
Does w None step reply new = IsAnswered w (Refused BadLine) step reply new

-- the lines that have a reply, with a step and a reply for each
abbrev pub Transcript : World → List (Option Line) → List Step → List Reply → World → Type 0
Transcript w [] [] [] new = new ≡ w
Transcript w (line ∷ lines) (step ∷ steps) (reply ∷ replies) new = (mid : World) × Does w line step reply mid × Transcript mid lines steps replies new
Transcript w [] (step ∷ steps) replies new = ⊥
Transcript w [] [] (reply ∷ replies) new = ⊥
Transcript w (line ∷ lines) [] replies new = ⊥
Transcript w (line ∷ lines) (step ∷ steps) [] new = ⊥
