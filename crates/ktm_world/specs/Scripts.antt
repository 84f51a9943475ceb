-- Scripts and what the model answers, for worked examples.
use Rattle.std.specs.Prelude.{◌≡◌, ℕ, List, [], ◌∷◌, length, map, Option, Some, None, if◌then◌else◌}
use Rattle.ktm_base.specs.declared.limits.TheConstants.{NEW_UNITS}
use Rattle.ktm_base.specs.declared.id.Label.{Label}
use Rattle.ktm_base.specs.declared.id.ObjectKind.{ObjectKind}
use Rattle.ktm_base.specs.declared.id.Pid.{Pid}
use Rattle.ktm_base.specs.declared.notify.Notify.{Notify}
use Rattle.ktm_base.specs.declared.refusal.Refusal.TheVariants.{BadLine, MachineDown, MachineUp, ImageWorn}
use Rattle.ktm_base.specs.Guid.{guid_of}
use Rattle.ktm_world.specs.declared.command.Command.{Command}
use Rattle.ktm_world.specs.declared.command.Line.{Line}
use Rattle.ktm_world.specs.declared.command.Line.TheVariants.{Tick, Cut, Crash, Restart, Process}
use Rattle.ktm_world.specs.declared.reply.Reply.{Reply}
use Rattle.ktm_world.specs.declared.reply.Reply.TheVariants.{Refused, Done, Notification, Restarted}
use Rattle.ktm_world.specs.Logs.{is_up}
use Rattle.ktm_world.specs.Decide.{decide}
use Rattle.ktm_world.specs.Durable.{empty_state, stand}
use Rattle.ktm_world.specs.Outcome.{Outcome}
use Rattle.ktm_world.specs.World.{World, present, extend, decide_tick, crashed, is_worn_log, found_worn, opened, in_doubt}

-- ---- what lines are answered

-- what a line is answered, and the world that it leaves
pub record Answer : Type 0 where
  pub reply : Reply
  pub world : World

-- this reply, and this world
abbrev pub says : Reply → World → Answer
says reply w = record { reply = reply; world = w }

-- an outcome answers, and goes into the history
abbrev pub comes_to : World → Outcome → Answer
comes_to w o = says o.reply (extend w o)

-- a restart that finds all that was recorded
abbrev pub restarts : World → Answer
restarts w =
    let s = stand w.base w.log in
    if is_worn_log w w.log then says (Refused ImageWorn) (found_worn w w.log) else says (Restarted s.events (length (in_doubt s))) (opened w.base w.log)

-- each line, of which one that is not in the grammar is none
abbrev pub answer : World → Option Line → Answer
answer w (Some (Process process command)) = comes_to w (decide (present w) process command)
answer w (Some (Tick ms)) = comes_to w (decide_tick (present w) ms)
answer w (Some (Cut calls)) = says Done w
answer w (Some Crash) = if is_up w.power then says Done (crashed w) else says (Refused MachineDown) w
answer w (Some (Restart pick)) = if is_up w.power then says (Refused MachineUp) w else restarts w
answer w None = says (Refused BadLine) w

-- the replies to a script, line after line, where the power goes at its crashes alone and each restart finds all that was recorded
abbrev pub answers : World → List (Option Line) → List Reply
answers w [] = []
answers w (line ∷ lines) = let a = answer w line in a.reply ∷ answers a.world lines

-- lines with the reply to each
abbrev pub Row : Type 0
Row = List (Option Line × Reply)

-- from a world, the lines of a row are answered as it says
abbrev pub Answered : World → Row → Type 0
Answered w row = answers w (map (λ l. l.0) row) ≡ map (λ l. l.1) row

-- ---- worlds to begin with

-- a new image with the number 1 and so many units, after its first boot
abbrev pub new_image : ℕ → World
new_image units = opened (empty_state units 1) []

-- one of 1,024 units
abbrev pub blank : World
blank = new_image NEW_UNITS

-- ---- lines

-- the process with this number
abbrev pub p : ℕ → Pid
p number = record { 0 = number }

-- a call by the first process
abbrev pub p1 : Command → Option Line
p1 command = Some (Process (p 1) command)

-- a call by the second process
abbrev pub p2 : Command → Option Line
p2 command = Some (Process (p 2) command)

-- so many milliseconds pass
abbrev pub time_passes : ℕ → Option Line
time_passes ms = Some (Tick ms)

-- the power goes
abbrev pub crash : Option Line
crash = Some Crash

-- the machine is started, with this number for what the loss of power left
abbrev pub restart : ℕ → Option Line
restart pick = Some (Restart pick)

-- a line that is not in the grammar
abbrev pub bad_line : Option Line
bad_line = None

-- the label 1
abbrev pub h1 : Label
h1 = record { 0 = 1 }

-- the label 2
abbrev pub h2 : Label
h2 = record { 0 = 2 }

-- the label 3
abbrev pub h3 : Label
h3 = record { 0 = 3 }

-- the label 4
abbrev pub h4 : Label
h4 = record { 0 = 4 }

-- the label 5
abbrev pub h5 : Label
h5 = record { 0 = 5 }

-- the label 6
abbrev pub h6 : Label
h6 = record { 0 = 6 }

-- the label 9
abbrev pub h9 : Label
h9 = record { 0 = 9 }

-- ---- replies

-- the GUID of the transaction with this number in the first boot
abbrev pub transaction_guid : ℕ → List ℕ
transaction_guid number = guid_of ObjectKind.Transaction 1 (record { boot = 1; number = number })

-- the GUID of the resource manager with this number in the first boot
abbrev pub manager_guid : ℕ → List ℕ
manager_guid number = guid_of ObjectKind.Manager 1 (record { boot = 1; number = number })

-- the GUID of the enlistment with this number in the first boot
abbrev pub enlistment_guid : ℕ → List ℕ
enlistment_guid number = guid_of ObjectKind.Enlistment 1 (record { boot = 1; number = number })

-- a notification of this kind, of the enlistment with this number in the first boot
abbrev pub told : Notify → ℕ → Reply
told kind number = Notification kind (Some (enlistment_guid number))
