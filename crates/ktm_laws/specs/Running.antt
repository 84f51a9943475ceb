-- What every world of a run is, from which it is lawful.
use Rattle.std.specs.Prelude.{◌≡◌, ℕ, ◌+◌, ◌*◌, ◌<◌, ◌≤◌, ◌^◌, ◌&&◌, ◌||◌, not, Bool, true, false, List, length, drop, Option}
use Rattle.std.specs.List.{list_any, list_all}
use Rattle.ktm_base.specs.declared.id.Pid.{Pid}
use Rattle.ktm_world.specs.declared.command.Command.{Command}
use Rattle.ktm_world.specs.declared.command.Line.{Line}
use Rattle.ktm_world.specs.declared.reply.Reply.{Reply}
use Rattle.ktm_world.specs.Decide.{decide}
use Rattle.ktm_world.specs.Durable.{Durable, is_worn, stand, events_apply, log_applies}
use Rattle.ktm_world.specs.Files.{is_last_version}
use Rattle.ktm_world.specs.Lawful.{IsLawful, works_apply, ends_version}
use Rattle.ktm_world.specs.Laws.{FirstOpensLieWithin}
use Rattle.ktm_world.specs.Logs.{Group}
use Rattle.ktm_world.specs.OneOutcome.{HasOneOutcome, tellings}
use Rattle.ktm_world.specs.Present.{Present}
use Rattle.ktm_world.specs.Transcript.{Step, Finds, Does, Transcript}
use Rattle.ktm_world.specs.Tree.{IsWellFormed}
use Rattle.ktm_world.specs.World.{World, OpenedAfter, first_open_now, present, extend, after, decide_tick, interrupted_by, crashed, interrupted_restart, found_worn, opened, possible_logs}
use Rattle.txf_laws.specs.GoodState.{IsGoodState}
use Rattle.txf_laws.specs.Grammatical.{is_grammatical}
use Rattle.ktm_records.specs.Kept.{IsKept}
use Rattle.ktm_records.specs.Spelling.{most_at_once}
use Rattle.ktm_laws.specs.Notes.{AreNotesTrue}
use Rattle.ktm_limits.specs.LimitsKept.{AreVersionsFixed}

-- the count of events does not end with the next command
abbrev pub HasEventsLeft : Present → Type 0
HasEventsLeft x = x.recorded.events + most_at_once < 2 ^ 63

-- it does not end in so many lines, with restarts among them that start from states that are not worn
pub record LastsFor (lines : ℕ) (w : World) : Type 0 where
  pub now : w.recorded.events + most_at_once * lines < 2 ^ 63
  pub restarted : 2 ^ 62 + most_at_once * (lines + 1) ≤ 2 ^ 63

-- has the grammar every event of the log
abbrev pub is_log_grammatical : List Group → Bool
is_log_grammatical log = list_all (list_all is_grammatical) log

-- does the log apply, with events that the grammar has
abbrev pub is_good_log : Durable → List Group → Bool
is_good_log base log = is_log_grammatical log && log_applies base log

-- has no work ended the version of a first open, while that is the last version of its file
abbrev pub is_last_since : World → OpenedAfter → Bool
is_last_since w o = not (is_last_version (present w).files (first_open_now w o)) || not (list_any (λ work. ends_version work o.file) (drop o.works w.works))

-- the log applies and comes to what was recorded, what was recorded agrees with what is so now, which is sound and has no limit passed, and
-- each log that may be found applies
pub record IsRunning (w : World) : Type 0 where
  -- the image that the run began with is good
  pub base : IsGoodState w.base
  -- each first open is of works that the world has
  pub openings : FirstOpensLieWithin w
  -- what the machine keeps of what is so now
  pub now : IsKept (present w)
  -- each version that was first opened has the same bytes in each of its first opens
  pub versions : AreVersionsFixed (present w)
  -- what waiting notifications tell of outcomes is so
  pub notes : AreNotesTrue (present w)
  -- what was committed at the restart is well formed
  pub formed : IsWellFormed w.start.tree
  -- the works apply in order to what was committed at the restart
  pub works : works_apply w.start w.works ≡ true
  -- a first open whose version is the last one has been so since it was made
  pub last : list_all (is_last_since w) w.first_opens ≡ true
  -- the grammar has what the log holds
  pub grammatical : is_log_grammatical w.log ≡ true
  -- the log applies
  pub applies : log_applies w.base w.log ≡ true
  -- it comes to what was recorded
  pub comes_to : stand w.base w.log ≡ w.recorded
  -- no loss of power takes a group of it
  pub kept : w.kept ≡ length w.log
  -- each log that may be on the disk applies
  pub possible : list_all (is_good_log w.base) (possible_logs w) ≡ true

-- every world of a run is such a world, and such a world is lawful
pub record LawfulWorldsLaw : Type 0 where
  -- it begins with a restart of a good image, with a log that applies and comes to a state that is not worn
  pub begins : (base : Durable) (log : List Group) → IsGoodState base → is_good_log base log ≡ true → is_worn (stand base log) ≡ false → IsRunning (opened base log)
  -- a command was answered
  pub commands : (w : World) (process : Pid) (command : Command) → HasEventsLeft (present w) → IsRunning w → IsRunning (after w process command)
  -- time has passed
  pub ticks : (w : World) (ms : ℕ) → HasEventsLeft (present w) → IsRunning w → IsRunning (extend w (decide_tick (present w) ms))
  -- what a command records applies to what was recorded, and so does what the passing of time records
  pub records : (w : World) (process : Pid) (command : Command) → HasEventsLeft (present w) → IsRunning w → events_apply w.recorded (decide (present w) process command).events ≡ true
  pub later_records : (w : World) (ms : ℕ) → HasEventsLeft (present w) → IsRunning w → events_apply w.recorded (decide_tick (present w) ms).events ≡ true
  -- the power went, in a command, while time passed, or while nothing was recorded
  pub interrupted_commands : (w : World) (process : Pid) (command : Command) → HasEventsLeft (present w) → IsRunning w → IsRunning (interrupted_by w (decide (present w) process command))
  pub interrupted_ticks : (w : World) (ms : ℕ) → HasEventsLeft (present w) → IsRunning w → IsRunning (interrupted_by w (decide_tick (present w) ms))
  pub crashes : (w : World) → IsRunning w → IsRunning (crashed w)
  -- the power went in a restart
  pub interrupted_restarts : (w : World) → IsRunning w → IsRunning (interrupted_restart w)
  -- a restart found a log, which was not worn or was
  pub restarts : (w : World) (log : List Group) → Finds w log false → IsRunning w → IsRunning (opened w.base log)
  pub worn_restarts : (w : World) (log : List Group) → Finds w log true → IsRunning w → IsRunning (found_worn w log)
  -- a line came to its reply
  pub lines : (w : World) (line : Option Line) (step : Step) (reply : Reply) (new : World) → Does w line step reply new → HasEventsLeft (present w) → IsRunning w → IsRunning new
  -- its count of events then lasts for the lines that are left
  pub lasts : (w : World) (line : Option Line) (step : Step) (reply : Reply) (new : World) (lines : ℕ) → Does w line step reply new → IsRunning w → LastsFor (lines + 1) w → LastsFor lines new
  -- several lines came to their replies
  pub transcripts : (w : World) (lines : List (Option Line)) (steps : List Step) (replies : List Reply) (new : World) → Transcript w lines steps replies new → LastsFor (length lines) w → IsRunning w → IsRunning new
  -- such a world is lawful
  pub lawful : (w : World) → IsRunning w → IsLawful w

-- no transcript tells a transaction two outcomes, from a world of a run whose count of events lasts for it
abbrev pub OneOutcomeLaw : Type 0
OneOutcomeLaw = (w : World) (lines : List (Option Line)) (steps : List Step) (replies : List Reply) (new : World)
    → IsRunning w → LastsFor (length lines) w → Transcript w lines steps replies new → HasOneOutcome (tellings w lines steps replies)
