-- What the lines of a script ask of the disk and its power, and how often they take the machine down.
use Rattle.std.specs.Prelude.{ℕ, ◌+◌, ◌-◌, ◌*◌, ◌^◌, ◌≤◌, min, Bool, true, false, List, [], ◌∷◌, ◌++◌, Option, Some, None, if◌then◌else◌}
use Rattle.ktm_base.specs.declared.power.PowerCall.{PowerCall}
use Rattle.ktm_base.specs.declared.power.PowerCall.TheVariants.{Arm, Off, Power}
use Rattle.ktm_base.specs.declared.refusal.Refusal.TheVariants.{MachineUp}
use Rattle.ktm_kernel.specs.Debts.{completes}
use Rattle.ktm_world.specs.declared.command.Line.{Line}
use Rattle.ktm_world.specs.declared.command.Line.TheVariants.{Tick, Cut, Crash, Restart, Process}
use Rattle.ktm_world.specs.declared.reply.Reply.{Reply}
use Rattle.ktm_world.specs.declared.reply.Reply.TheVariants.{Refused, Done}
use Rattle.ktm_world.specs.Transcript.{Step, answered, interrupted, found, worn}

-- is the reply ok alone
abbrev pub is_done : Reply → Bool
is_done Done = true
is_done other = false

-- did a restart find the machine up
abbrev pub was_up : Reply → Bool
was_up (Refused MachineUp) = true
was_up other = false

-- the plan of a line that was answered so: a cut sets the moment, a crash that is answered takes the disk down, and a restart of a
-- machine that is down gives the power back
abbrev pub plan_of : Option Line → Reply → List PowerCall
plan_of None reply = []
plan_of (Some (Process process command)) reply = []
plan_of (Some (Tick ms)) reply = []
plan_of (Some (Cut calls)) reply = Arm calls ∷ []
plan_of (Some Crash) reply = if is_done reply then Off ∷ [] else []
plan_of (Some (Restart pick)) reply = if was_up reply then [] else Power pick ∷ []

-- the plan of lines, one after another
abbrev pub plans : List (Option Line) → List Reply → List PowerCall
plans [] replies = []
plans (line ∷ lines) [] = []
plans (line ∷ lines) (reply ∷ replies) = plan_of line reply ++ plans lines replies

-- did the disk go down for a line: it was interrupted, or it is a crash that was answered
abbrev pub falls_of : Option Line → Step → Reply → ℕ
falls_of line interrupted reply = 1
falls_of (Some Crash) answered reply = if is_done reply then 1 else 0
falls_of (Some (Tick ms)) answered reply = 0
falls_of (Some (Cut calls)) answered reply = 0
falls_of (Some (Restart pick)) answered reply = 0
falls_of (Some (Process process command)) answered reply = 0
falls_of None answered reply = 0
falls_of line (found log) reply = 0
falls_of line (worn log) reply = 0

-- for how many lines it did
abbrev pub falls : List (Option Line) → List Step → List Reply → ℕ
falls [] steps replies = 0
falls (line ∷ lines) [] replies = 0
falls (line ∷ lines) (step ∷ steps) [] = 0
falls (line ∷ lines) (step ∷ steps) (reply ∷ replies) = falls_of line step reply + falls lines steps replies

-- the count rose by at least so much; one that stands at its type's end counts as having risen
abbrev pub RoseBy : ℕ → ℕ → ℕ → Type 0
RoseBy n before now = min (before + n) (2 ^ 64 - 1) ≤ now

-- the most device calls of a line, on an image of so many units: a call of a process records with four, and with six more where the log has not enough
-- room, which it always has for what completes a transaction, and also writes the bytes that it puts, or those that wait in memory, and reads the pages at both
-- ends of what it writes, or those that it is asked for; the passing of time records with four; a restart reads the image and records that it started; and no
-- other line makes any
abbrev pub calls_of : ℕ → Option Line → ℕ
calls_of units None = 0
calls_of units (Some (Process process command)) = 3 * units + (if completes command then 70 else 77)
calls_of units (Some (Tick ms)) = 4
calls_of units (Some (Cut calls)) = 0
calls_of units (Some Crash) = 0
calls_of units (Some (Restart pick)) = 2 * units + 27

-- the most device calls of a line that was not executed: it may have read the pages at both ends of what it was to write
abbrev pub calls_unanswered : ℕ
calls_unanswered = 2

-- the most device calls of lines
abbrev pub calls : ℕ → List (Option Line) → ℕ
calls units [] = 0
calls units (line ∷ lines) = calls_of units line + calls units lines
