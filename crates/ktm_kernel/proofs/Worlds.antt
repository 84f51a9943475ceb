-- From what an outcome did to what it is for the world that the machine stands for.
use Rattle.std.proofs.Common.{◌≡◌, ◌≢◌, ℕ, Bool, true, false, not, List, ◌∷◌, ◌++◌, length, Option, Some, refl, sym, ◌∙◌, ap, subst, inl, inr}
use Rattle.std.specs.Prelude.{Contains, IsSomeAnd}
use Rattle.ktm_base.specs.declared.id.Pid.{Pid}
use Rattle.ktm_base.specs.declared.refusal.Refusal.TheVariants.{MachineDown}
use Rattle.ktm_base.specs.Disk.{DiskState}
use Rattle.ktm_base.proofs.offered.ToldSteps.{IsSomeAnd-map}
use Rattle.ktm_laws.specs.Running.{HasEventsLeft}
use Rattle.ktm_journal.specs.Pages.{PagesLaw}
use Rattle.ktm_paged.specs.Laws.{RowsSeen}
use Rattle.ktm_core.specs.Logs.{StandsFor}
use Rattle.ktm_world.specs.declared.command.Command.{Command}
use Rattle.ktm_world.specs.declared.command.Line.TheVariants.{Crash}
use Rattle.ktm_world.specs.declared.reply.Reply.{Reply}
use Rattle.ktm_world.specs.declared.reply.Reply.TheVariants.{Refused, Done}
use Rattle.ktm_world.specs.Values.{IsGiven}
use Rattle.ktm_world.specs.Decide.{command_tests, decide, refusal_of}
use Rattle.ktm_world.specs.Durable.{Durable, stand}
use Rattle.ktm_world.specs.Logs.{Group, up, is_up, as_groups, prefixes_from}
use Rattle.ktm_world.specs.Outcome.{Outcome, apply, first_refusal}
use Rattle.ktm_world.specs.Present.{Present}
use Rattle.ktm_world.specs.Transcript.{Step, answered, interrupted, CallDoes, CrashDoes}
use Rattle.ktm_world.specs.World.{World, present, extend, decide_tick, crashed, interrupted_by}
use Rattle.ktm_world.proofs.offered.Worlds.{step_law, refusal_law}
use Rattle.ktm_standing.specs.Laws.{StandingLaw}
use Rattle.ktm_standing.specs.Standing.{IsStanding}
use Rattle.ktm_standing.proofs.offered.Decided.{decided_law, done_tick}
use Rattle.ktm_store.specs.Pool.{Shows}
use Rattle.ktm_kernel.specs.Stands.{KernelState, MachineAt, MachineState, Stands, StandsBy, KernelAt, LeavesStates, DoesLine, machine_on}
use Rattle.ktm_core.specs.Done.{fallen}
use Rattle.ktm_kernel.specs.Done.{IsDone, IsCutOff, Ends, LeavesEither}
use Rattle.ktm_kernel.proofs.Left.{left_up}
use Rattle.ktm_kernel.proofs.offered.Standing.{stands_up, up_is}
use Rattle.ktm_kernel.proofs.Possible.{log_possible, groups_possible}

-- where the machine is up the passing of time does not say that it is down
pub tick_not_down : (x : Present) (ms : ℕ) → x.machine.is_up ≡ true → (decide_tick x ms).reply ≢ Refused MachineDown
tick_not_down x ms on is = let done = sym (done_tick x ms).says ∙ ap (λ (o : Outcome). o.reply) (sym (decided_law.time x ms on)) ∙ is in absurd (cc)

-- ---- outcomes after which worlds stand

-- the world stands after the outcome, and where the power goes in it
pub record GoesOn (w : World) (o : Outcome) : Type 0 where
  pub stands : IsStanding (extend w o)
  pub falls : IsStanding (interrupted_by w o)

-- so it is of the outcome of a command
pub call_goes_on : StandingLaw → (process : Pid) (command : Command) → IsGiven command → (w : World) → HasEventsLeft (present w) → IsStanding w → GoesOn w (decide (present w) process command)
call_goes_on law process command is w counts standing = record {
  stands = law.commands w process command is counts standing;
  falls = law.interrupted_commands w process command is counts standing;
}

-- and of that of the passing of time
pub tick_goes_on : StandingLaw → (ms : ℕ) (w : World) → HasEventsLeft (present w) → IsStanding w → GoesOn w (decide_tick (present w) ms)
tick_goes_on law ms w counts standing = record {
  stands = law.ticks w ms counts standing;
  falls = law.interrupted_ticks w ms counts standing;
}

-- ---- a machine that was up

-- the outcome comes by a step to a world for which the machine then stands
abbrev DoesMachine : World → Outcome → Reply → MachineState → Option DiskState → Type 0
DoesMachine w o reply k told = (step : Step) × (new : World) × CallDoes w o step reply new × MachineAt k told new

abbrev pub DoesCall : World → Outcome → Reply → KernelState → Option DiskState → Type 0
DoesCall w o reply k told = (step : Step) × (new : World) × CallDoes w o step reply new × KernelAt k told new

-- with the bytes of a row that its pages show
pub on_shown : (w : World) (o : Outcome) (reply : Reply) (k : KernelState) (told : Option DiskState) (row : List ℕ) → Shows k.pool row → DoesMachine w o reply (machine_on k row) told → DoesCall w o reply k told
on_shown w o reply k told row shows (step, new, does, at) = (step, new, does, (row, shows, at))

module _ (old new : MachineState) (o : Outcome) (reply : Reply) (before now : Option DiskState) (w : World) (on : w.power ≡ up) (stands : Stands old before w) (keeps : GoesOn w o) where
  -- what was recorded is what the log comes to
  recorded_is : old.now.recorded ≡ stand w.base w.log
  recorded_is = ap (λ (x : Present). x.recorded) stands.now ∙ sym stands.standing.running.comes_to

  -- and what the outcome makes of it, what the log comes to then
  recorded_then : (apply old.now o).recorded ≡ stand w.base (w.log ++ as_groups o.events)
  recorded_then = ap (λ (x : Present). (apply x o).recorded) stands.now ∙ sym keeps.stands.running.comes_to

  done_up : IsDone old o reply new before now → Stands new now (extend w o)
  done_up done = record {
    is = done.is;
    now = done.state ∙ ap (λ x. apply x o) stands.now ∙ sym (step_law.0 w o stands.standing.running.openings);
    standing = keeps.stands;
    disk = done.disk stands.disk;
  }

  pub done_line : IsDone old o reply new before now → DoesMachine w o reply new now
  done_line done = (answered, extend w o, (done.says, refl), subst (λ power. StandsBy (is_up power) new now (extend w o)) (sym on) (done_up done))

  left : IsCutOff old o reply new before now → IsSomeAnd now (LeavesStates (interrupted_by w o))
  left cut = IsSomeAnd-map now (LeavesEither old.now.recorded (apply old.now o).recorded) (LeavesStates (interrupted_by w o)) (cut.disk stands.disk)
      (λ s either image may. elim (either image may) [
        | inl without ↦ (w.log, kept w.log (log_possible w.log (as_groups o.events)), subst (λ (d : Durable). StandsFor d image) recorded_is without)
        | inr with_it ↦ (w.log ++ as_groups o.events, kept (w.log ++ as_groups o.events) (groups_possible w.log o.events), subst (λ (d : Durable). StandsFor d image) recorded_then with_it)
      ])
    where
      kept : (log : List Group) → Contains (prefixes_from (length w.log) (w.log ++ as_groups o.events)) log → Contains (prefixes_from w.kept (w.log ++ as_groups o.events)) log
      kept log there = subst (λ n. Contains (prefixes_from n (w.log ++ as_groups o.events)) log) (sym stands.standing.running.kept) there

  pub cut_line : IsCutOff old o reply new before now → DoesMachine w o reply new now
  cut_line cut = (
    interrupted,
    interrupted_by w o,
    (ap is_up on, cut.says, refl),
    record {
      off = cut.off;
      recorded = cut.recorded ∙ ap (λ (x : Present). x.recorded) stands.now;
      standing = keeps.falls;
      disk = left cut;
    },
  )

-- by whether the disk is down then, for what is decided on what is so now
pub ended_line : (f : Present → Outcome) (is_down : Bool) (old new : MachineState) (reply : Reply) (before now : Option DiskState) → HasEventsLeft old.now → ((w : World) → HasEventsLeft (present w) → IsStanding w → GoesOn w (f (present w)))
    → Ends is_down old (f old.now) reply new before now → (w : World) → w.power ≡ up → Stands old before w → DoesMachine w (f (present w)) reply new now
ended_line f false old new reply before now counts keeps done w power stands =
    done_line old new (f (present w)) reply before now w power stands (keeps w (subst (λ (x : Present). HasEventsLeft x) stands.now counts) stands.standing) (subst (λ x. IsDone old (f x) reply new before now) stands.now done)
ended_line f true old new reply before now counts keeps cut w power stands =
    cut_line old new (f (present w)) reply before now w power stands (keeps w (subst (λ (x : Present). HasEventsLeft x) stands.now counts) stands.standing) (subst (λ x. IsCutOff old (f x) reply new before now) stands.now cut)

-- ---- a machine that was down

-- it says so, and nothing changes
down_line : (o : Outcome) (k : KernelState) (told : Option DiskState) (w : World) → o.reply ≡ Refused MachineDown → extend w o ≡ w → KernelAt k told w → DoesCall w o (Refused MachineDown) k told
down_line o k told w says same at = (answered, extend w o, (sym says, refl), subst (λ v. KernelAt k told v) (sym same) at)

pub down_refuses : (x : Present) (process : Pid) (command : Command) → x.machine.is_up ≡ false → refusal_of x process command ≡ Some MachineDown
down_refuses x process command off = ap (λ b. first_refusal ((not b, MachineDown) ∷ command_tests x process command)) off

pub down_call : (k : KernelState) (told : Option DiskState) (process : Pid) (command : Command) → k.now.machine.is_up ≡ false → (w : World) → KernelAt k told w → DoesCall w (decide (present w) process command) (Refused MachineDown) k told
down_call k told process command off w at =
    let refuses = down_refuses (present w) process command (sym (up_is k told w at) ∙ off) in
    down_line (decide (present w) process command) k told w (ap (λ (o : Outcome). o.reply) (decided_law.refused (present w) process command MachineDown refuses)) (refusal_law.0 w process command MachineDown refuses) at

pub down_tick : (k : KernelState) (told : Option DiskState) (ms : ℕ) → k.now.machine.is_up ≡ false → (w : World) → KernelAt k told w → DoesCall w (decide_tick (present w) ms) (Refused MachineDown) k told
down_tick k told ms off w at =
    let down : is_up w.power ≡ false = sym (up_is k told w at) ∙ off in
    down_line (decide_tick (present w) ms) k told w (ap (λ (o : Outcome). o.reply) (decided_law.no_time (present w) ms down)) (refusal_law.1 w ms down) at

-- ---- a crash

-- a machine whose power goes while nothing is recorded
pub crash_line : StandingLaw → RowsSeen → PagesLaw → (k : KernelState) → k.now.machine.is_up ≡ true → (told : Option DiskState) (w : World) → KernelAt k told w
    → DoesLine w (Some Crash) Done (record k { now = fallen k.now }) told
crash_line law seen pages k on told w at =
    let (power, (row, shows, stands)) = stands_up k told w at on in (
      answered,
      crashed w,
      subst (λ p. CrashDoes (is_up p) w answered Done (crashed w)) (sym power) (refl, refl),
      (row, shows, record { off = refl; recorded = ap (λ (x : Present). x.recorded) stands.now; standing = law.crashes w stands.standing; disk = left_up seen pages (machine_on k row) told w power stands }),
    )
