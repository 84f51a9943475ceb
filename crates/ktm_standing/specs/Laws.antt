-- Laws of worlds that stand.
use Rattle.std.specs.Prelude.{◌≡◌, ℕ, ◌≤◌, ◌&&◌, true, false, List, [], All, filter, find, fold, IfSome, Option, Some, None, is_some, option_and_then}
use Rattle.std.specs.List.{list_all, list_any}
use Rattle.ktm_base.specs.declared.limits.TheConstants.{MOST_UNITS}
use Rattle.ktm_base.specs.declared.id.Id.{Id}
use Rattle.ktm_base.specs.Guid.{IsId, guid_of}
use Rattle.ktm_base.specs.declared.id.Label.{Label}
use Rattle.ktm_base.specs.declared.id.ObjectKind.{ObjectKind}
use Rattle.ktm_base.specs.declared.id.Pid.{Pid}
use Rattle.ktm_base.specs.declared.refusal.Refusal.{Refusal}
use Rattle.ktm_base.specs.declared.refusal.Refusal.TheVariants.{MachineDown}
use Rattle.ktm_event.specs.Spelling.{IsSpellableEvent}
use Rattle.ktm_world.specs.declared.command.Command.{Command}
use Rattle.ktm_world.specs.declared.input.PhaseInput.{PhaseInput}
use Rattle.ktm_world.specs.declared.object.Transaction.{Transaction}
use Rattle.ktm_world.specs.declared.reply.Reply.{Reply}
use Rattle.ktm_world.specs.declared.reply.Reply.TheVariants.{Refused}
use Rattle.ktm_world.specs.declared.step.Step.{Step}
use Rattle.ktm_world.specs.Values.{IsGiven}
use Rattle.ktm_course.specs.Moved.{is_commit}
use Rattle.ktm_world.specs.Decide.{decide, refusal_of, of_files, opening}
use Rattle.ktm_world.specs.Durable.{Durable, is_worn, stand}
use Rattle.ktm_world.specs.Enlistments.{Enlistment, Manager, enlistment_at, is_live_enlistment, manager_at}
use Rattle.ktm_world.specs.FileOutcome.{FileOutcome}
use Rattle.ktm_world.specs.Files.{OpenFile}
use Rattle.ktm_world.specs.Labels.{enlistment_named, file_named, manager_named, transaction_named}
use Rattle.ktm_world.specs.Logs.{Group}
use Rattle.ktm_world.specs.Outcome.{Outcome, apply, joined, only_reply}
use Rattle.ktm_world.specs.Present.{Present}
use Rattle.ktm_world.specs.Rows.{row}
use Rattle.ktm_world.specs.Steps.{run, seen}
use Rattle.ktm_world.specs.Transactions.{same_id, transaction_at, is_live, is_undecided}
use Rattle.ktm_world.specs.TransactionCalls.{arrived, course_of, enlistment_with, later, is_due, manager_with, tick, transaction_in, transaction_with, with_clock}
use Rattle.ktm_world.specs.Transcript.{Finds}
use Rattle.ktm_world.specs.World.{World, present, extend, after, decide_tick, crashed, interrupted_by, interrupted_restart, found_worn, opened}
use Rattle.ktm_records.specs.FileCallsMade.{file_call}
use Rattle.ktm_records.specs.Kept.{IsKept}
use Rattle.ktm_records.specs.Spelling.{AreRecordedTexts}
use Rattle.txf_laws.specs.GoodState.{IsGoodState}
use Rattle.ktm_laws.specs.Running.{HasEventsLeft, is_good_log}
use Rattle.ktm_courses.specs.SoundCourse.{IsSoundCourse}
use Rattle.txf_laws.specs.FileEffects.{IsOrderly}
use Rattle.ktm_standing.specs.Courses.{LeadsOn, aside, with_course}
use Rattle.ktm_standing.specs.Files.{IsOnCommitted, MayCommitNow, MayMake}
use Rattle.ktm_standing.specs.Effects.{IsLater, IsSilent, rolled_back, with_files, with_opened, with_parts}
use Rattle.ktm_standing.specs.Standing.{IsStandingNow, IsStanding, fresh}

-- ---- what commands come to

-- an outcome changes the parts that it names, what it commits, and what it sends
pub record EffectsLaw : Type 0 where
  pub silent : (x : Present) (o : Outcome) → IsSilent o → apply x o ≡ with_parts x o
  pub files : (x : Present) (who : Option Id) (o : FileOutcome) → apply x (of_files x who o) ≡ with_files x who o
  pub opens : (x : Present) (process : Pid) (label : Label) (who : Option Id) (o : FileOutcome) → apply x (opening x process label who o) ≡ with_opened x process label who o
  -- two that are joined do what the first does, and then the second, but that the log has one group of both
  pub joined : (x : Present) (a b : Outcome) → a.openings ≡ [] → IsLater b → aside (apply x (joined a b)) ≡ aside (apply (apply x a) b)

-- the passing of time rolls back the transactions that are due then, in order of creation, but that the log has one group of all
abbrev pub TimeoutLaw : Type 0
TimeoutLaw = (x : Present) (ms : ℕ) → IsSoundCourse x
    → aside (apply x (tick x ms)) ≡ aside (fold rolled_back (with_clock x ms) (filter (is_due (later x.transactions.clock ms)) x.transactions.items))

-- a transaction goes on by steps, whoever calls
pub record CoursesLaw : Type 0 where
  -- what is so once it has gone on by steps
  pub leads : (x : Present) (t : Transaction) (caller : Option Enlistment) (steps : List Step) (reply : Reply) → LeadsOn x t caller steps
      → let c = run steps (course_of x t caller) in aside (apply x (arrived x c reply)) ≡ aside (with_course x c (list_any is_commit steps))
  -- each row leads on
  pub rows : (x : Present) (t : Transaction) (caller : Option Enlistment) (input : PhaseInput) → LeadsOn x t caller (row (seen (course_of x t caller)) input)

-- what a label names is what has its Id
pub record NamedLaw : Type 0 where
  pub transactions : (x : Present) (process : Pid) (label : Label) (t : Transaction) → transaction_named x process label ≡ Some t → transaction_at x.transactions.items t.id ≡ Some t
  pub managers : (x : Present) (process : Pid) (label : Label) (m : Manager) → manager_named x process label ≡ Some m → manager_at x.managers m.id ≡ Some m
  pub enlistments : (x : Present) (process : Pid) (label : Label) (e : Enlistment) → enlistment_named x process label ≡ Some e → enlistment_at x.transactions.enlistments e.id ≡ Some e
  -- the transaction of an enlistment is there, and so is its resource manager
  pub transaction_of : (x : Present) (process : Pid) (label : Label) (e : Enlistment) → IsSoundCourse x → enlistment_named x process label ≡ Some e → (t : Transaction) × (transaction_in x e ≡ Some t)
  pub manager_of : (x : Present) (process : Pid) (label : Label) (e : Enlistment) → IsSoundCourse x → enlistment_named x process label ≡ Some e → is_some (manager_at x.managers e.manager) ≡ true
  pub managers_of : (x : Present) → IsSoundCourse x → list_all (λ e. is_some (manager_at x.managers e.manager)) x.transactions.enlistments ≡ true

-- what a GUID leads to: the Id of the system that has it as an object of the kind, if one has
pub record LeadsTo (kind : ObjectKind) (image : ℕ) (guid : List ℕ) (found : Option Id) : Type 0 where
  pub has : IfSome found (λ id. guid_of kind image id ≡ guid)
  pub every : (id : Id) → IsId id → guid_of kind image id ≡ guid → found ≡ Some id

-- what has a GUID is what has the Id that the GUID leads to, and there is none where it leads to none
pub record GuidLaw : Type 0 where
  pub transactions : (x : Present) (guid : List ℕ) (found : Option Id) → IsSoundCourse x → LeadsTo ObjectKind.Transaction x.recorded.image guid found
      → transaction_with x guid ≡ option_and_then (λ id. find (λ t. is_live t && same_id t.id id) x.transactions.items) found
  pub managers : (x : Present) (guid : List ℕ) (found : Option Id) → IsSoundCourse x → LeadsTo ObjectKind.Manager x.recorded.image guid found
      → manager_with x guid ≡ option_and_then (manager_at x.managers) found
  pub enlistments : (x : Present) (m : Manager) (guid : List ℕ) (found : Option Id) → IsSoundCourse x → LeadsTo ObjectKind.Enlistment x.recorded.image guid found
      → enlistment_with x (Some m) guid ≡ option_and_then (λ id. find (λ e. same_id e.manager m.id && is_live_enlistment x.transactions.items e && same_id e.id id) x.transactions.enlistments) found

-- what holds of every outcome of a command, and of the passing of time
pub record DecidedLaw : Type 0 where
  -- a refused command only replies
  pub refused : (x : Present) (process : Pid) (command : Command) (refusal : Refusal) → refusal_of x process command ≡ Some refusal → decide x process command ≡ only_reply x (Refused refusal)
  -- a machine that is up does not say that it is down
  pub is_up : (x : Present) (process : Pid) (command : Command) → x.machine.is_up ≡ true → (decide x process command).reply ≡ Refused MachineDown → ⊥
  -- time passes where the machine is up, and only there
  pub no_time : (x : Present) (ms : ℕ) → x.machine.is_up ≡ false → decide_tick x ms ≡ only_reply x (Refused MachineDown)
  pub time : (x : Present) (ms : ℕ) → x.machine.is_up ≡ true → decide_tick x ms ≡ tick x ms

-- ---- what they record

-- what a machine that stands records has bytes
pub record SpelledLaw : Type 0 where
  pub commands : (x : Present) (process : Pid) (command : Command) → IsStandingNow x → IsGiven command → All IsSpellableEvent (decide x process command).events
  pub ticks : (x : Present) (ms : ℕ) → IsStandingNow x → All IsSpellableEvent (decide_tick x ms).events

-- ---- what a machine that stands may rely on

-- what is so now is kept
abbrev pub KeptLaw : Type 0
KeptLaw = (x : Present) → IsStandingNow x → IsKept x

-- in calls on files, and in commits
pub record FilesLaw : Type 0 where
  -- numbers of nodes rise, and the next one is free
  pub orderly : (x : Present) → IsStandingNow x → IsOrderly x.files
  -- a plain file that is open to be written is there
  pub usable : (x : Present) (process : Pid) (label : Label) (o : OpenFile) → IsStandingNow x → file_named x process label ≡ Some o → IsOnCommitted x o
  -- what a call on files comes to can be made
  pub calls : (x : Present) (process : Pid) (command : Command) (who : Option Id) (o : FileOutcome) → IsStandingNow x → HasEventsLeft x → IsGiven command → refusal_of x process command ≡ None → file_call x process command ≡ Some (who, o) → MayMake x who o
  -- what an undecided transaction changed can be committed
  pub commits : (x : Present) (t : Transaction) → IsStandingNow x → HasEventsLeft x → transaction_at x.transactions.items t.id ≡ Some t → is_undecided t ≡ true → MayCommitNow x t

-- ---- what the machine keeps

-- a world stands after whatever a machine does for which a world stands, and so does what is so now
pub record StandingLaw : Type 0 where
  -- a command was answered, or time passed
  pub commands : (w : World) (process : Pid) (command : Command) → IsGiven command → HasEventsLeft (present w) → IsStanding w → IsStanding (after w process command)
  pub ticks : (w : World) (ms : ℕ) → HasEventsLeft (present w) → IsStanding w → IsStanding (extend w (decide_tick (present w) ms))
  -- the power went: by itself, in a command, while time passed, or in a restart
  pub crashes : (w : World) → IsStanding w → IsStanding (crashed w)
  pub interrupted_commands : (w : World) (process : Pid) (command : Command) → IsGiven command → HasEventsLeft (present w) → IsStanding w → IsStanding (interrupted_by w (decide (present w) process command))
  pub interrupted_ticks : (w : World) (ms : ℕ) → HasEventsLeft (present w) → IsStanding w → IsStanding (interrupted_by w (decide_tick (present w) ms))
  pub interrupted_restarts : (w : World) → IsStanding w → IsStanding (interrupted_restart w)
  -- a restart found a worn log
  pub worn_restarts : (w : World) (log : List Group) → Finds w log true → IsStanding w → IsStanding (found_worn w log)
  -- a restart opened a world, from a good state and a log that applies, whose keys are texts, and which is not worn
  pub restarts : (base : Durable) (log : List Group) → IsGoodState base → base.units ≤ MOST_UNITS → is_good_log base log ≡ true → AreRecordedTexts (stand base log)
      → is_worn (stand base log) ≡ false → IsStanding (opened base log)
  -- what is so now stands, too
  pub commands_now : (x : Present) (process : Pid) (command : Command) → IsGiven command → HasEventsLeft x → IsStandingNow x → IsStandingNow (apply x (decide x process command))
  pub ticks_now : (x : Present) (ms : ℕ) → HasEventsLeft x → IsStandingNow x → IsStandingNow (apply x (decide_tick x ms))

-- what is so in the world that a restart opens is what a machine that starts from its state has, which stands
pub record FreshLaw : Type 0 where
  pub opens : (base : Durable) (log : List Group) → present (opened base log) ≡ fresh (stand base log)
  pub stands : (s : Durable) → IsGoodState s → AreRecordedTexts s → s.units ≤ MOST_UNITS → is_worn s ≡ false → IsStandingNow (fresh s)
