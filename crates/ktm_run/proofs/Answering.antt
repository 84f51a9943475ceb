-- What the answers to lines come to, of the machine and of the counts.
use Rattle.std.specs.Prelude.{IsSomeAnd}
use Rattle.std.proofs.Common.{◌≡◌, ◌⊎◌, inl, inr, ℕ, ◌+◌, ◌*◌, ◌≤◌, Bool, true, false, List, [], ◌∷◌, ◌++◌, Option, Some, Result, Ok, Err, IfOk, OnErr, refl, sym, ◌∙◌, ap, subst, arith}
use Rattle.std.proofs.lemmas.List.{append-nil}
use Rattle.ktm_base.specs.declared.limits.TheConstants.{MOST_UNITS}
use Rattle.ktm_base.specs.declared.id.Pid.{Pid}
use Rattle.ktm_base.specs.declared.fault.NoMemory.{NoMemory}
use Rattle.ktm_base.specs.declared.power.PowerCall.{PowerCall}
use Rattle.ktm_base.specs.declared.power.PowerCall.TheVariants.{Power}
use Rattle.ktm_base.specs.declared.refusal.Refusal.TheVariants.{MachineDown}
use Rattle.ktm_base.specs.Count.{Rose}
use Rattle.ktm_base.specs.Disk.{DiskState, DiskStatus, DeviceCalls}
use Rattle.ktm_base.specs.Power.{after_off, planned, Restored, NotRestored}
use Rattle.ktm_base.specs.Told.{Goes}
use Rattle.ktm_kernel.proofs.offered.Standing.{up_is}
use Rattle.ktm_kernel.specs.Answers.{IsUnanswered}
use Rattle.ktm_kernel.specs.Stands.{KernelState, KernelAt, FoundAt, FoundLaw, DoesLine, IsReady, LeavesStates, LeftLaw, PowerLaw}
use Rattle.ktm_run.proofs.Counting.{RoseBy-none}
use Rattle.ktm_run.specs.Plan.{calls_of, plan_of, falls_of, RoseBy}
use Rattle.ktm_log.specs.OnDisk.{OnDisk, on}
use Rattle.ktm_run.specs.Progress.{Counts, Answers, Unanswered}
use Rattle.ktm_run.specs.Script.{Means}
use Rattle.ktm_world.specs.declared.command.Command.{Command}
use Rattle.ktm_world.specs.declared.command.Line.{Line}
use Rattle.ktm_world.specs.declared.command.Line.TheVariants.{Crash, Restart, Process, Tick}
use Rattle.ktm_world.specs.declared.reply.Reply.{Reply}
use Rattle.ktm_world.specs.declared.reply.Reply.TheVariants.{Refused, Done}
use Rattle.ktm_world.specs.Transcript.{Step, answered, interrupted, found, worn, CallDoes, CrashDoes, StartDoes, RestartDoes, Does}
use Rattle.ktm_world.specs.Decide.{decide}
use Rattle.ktm_world.specs.Outcome.{Outcome}
use Rattle.ktm_world.specs.World.{World, decide_tick, present, interrupted_restart}
use Rattle.ktm_world.specs.TransactionCalls.{later}
use Rattle.ktm_world.specs.Logs.{is_up}

-- the world of a machine that is down is down
pub off_of : (k : KernelState) (told : Option DiskState) (w : World) → k.now.machine.is_up ≡ false → KernelAt k told w → is_up w.power ≡ false
off_of k told w off at = sym (up_is k told w at) ∙ off

-- a machine is ready too on a disk that tells the same, and is up and synced as before
pub ready_on : (k : KernelState) (before now : Option DiskState) (a b : DiskStatus) → now ≡ before → b.is_down ≡ a.is_down → b.pending ≡ a.pending → IsReady k before a → IsReady k now b
ready_on k before now a b same down pending ready = subst (λ (told : Option DiskState). IsReady k told b) (sym same) (record {
  powered = record { power = λ on. down ∙ ready.powered.power on; settled = λ on. pending ∙ ready.powered.settled on; image = ready.powered.image };
  slots = ready.slots;
  core = λ on.
      let core = ready.core on in record {
        ready = λ row.
            let of = core.ready row in record {
              powered = record { power = λ up. down ∙ of.powered.power up; settled = λ up. pending ∙ of.powered.settled up; image = of.powered.image; wanted = of.powered.wanted };
              standing = of.standing;
              slots = of.slots;
              room = of.room;
            };
        count = core.count;
        sound = core.sound;
        held = core.held;
      };
})

-- ---- the counts of one line

pub counted : (k n : KernelState) (before now : Option DiskState) (a b : DiskStatus) (most : ℕ) (plan : List PowerCall) (fell : ℕ)
    → RoseBy fell a.downs b.downs → b.plan ≡ a.plan ++ plan → b.calls ≤ a.calls + most
    → Counts (on k before a) (on n now b) most plan fell
counted k n before now a b most plan fell rose is few = record { rose = rose; plan_is = is; few = few }

-- a line that changed no count
quiet : (k n : KernelState) (before now : Option DiskState) (a b : DiskStatus) → b ≡ a
    → Counts (on k before a) (on n now b) 0 [] 0
quiet k n before now a b same = counted k n before now a b 0 [] 0
    (let is = ap (λ s. s.downs) same in omega arith)
    (ap (λ s. s.plan) same ∙ sym (append-nil a.plan))
    (let is = ap (λ s. s.calls) same in omega arith)

-- ---- a line that is decided: a call of a process, or the passing of time

-- a line that comes to an outcome plans nothing, records with few device calls, and takes the disk down only where the power goes in it
pub record IsDecided (line : Option Line) (o : World → Outcome) (reply : Reply) : Type 0 where
  pub does : (w new : World) (step : Step) → Does w line step reply new → CallDoes w (o w) step reply new
  pub plan : plan_of line reply ≡ []
  pub stays : falls_of line answered reply ≡ 0
  pub falls : falls_of line interrupted reply ≡ 1

pub is_call : (process : Pid) (command : Command) (reply : Reply) → IsDecided (Some (Process process command)) (λ w. decide (present w) process command) reply
is_call process command reply = record { does = λ w new step does. does; plan = refl; stays = refl; falls = refl }

pub is_tick : (ms : ℕ) (reply : Reply) → IsDecided (Some (Tick ms)) (λ w. decide_tick (present w) ms) reply
is_tick ms reply = record { does = λ w new step does. does; plan = refl; stays = refl; falls = refl }

module _ (line : Option Line) (o : World → Outcome) (reply : Reply) (is : IsDecided line o reply) (k n : KernelState) (before now : Option DiskState) (a b : DiskStatus)
    (cause : reply ≡ Refused MachineDown → (k.now.machine.is_up ≡ false) ⊎ Rose a.downs b.downs) (most : ℕ) (calls : DeviceCalls most a b b.is_down) (few : (w : World) → KernelAt k before w → b.calls ≤ a.calls + calls_of w.base.units line) where
  -- the power went in it only where the count of downs rose
  decided_rose : (w new : World) (step : Step) → KernelAt k before w → CallDoes w (o w) step reply new → RoseBy (falls_of line step reply) a.downs b.downs
  decided_rose w new answered at does = subst (λ fell. RoseBy fell a.downs b.downs) (sym is.stays) (RoseBy-none a.downs b.downs calls.later)
  decided_rose w new interrupted at (on, says, new_is) = elim (cause says) [
    | inl off ↦ let wrong : true ≡ false = sym on ∙ off_of k before w off at in absurd (cc)
    | inr rose ↦ subst (λ fell. RoseBy fell a.downs b.downs) (sym is.falls) rose
  ]
  decided_rose w new (found log) at never = absurd never
  decided_rose w new (worn log) at never = absurd never

  pub decided : ((w : World) → KernelAt k before w → DoesLine w line reply n now) → Answers (on k before a) (on n now b) line reply
  decided does = λ w at.
      let (step, new, done, stands) = does w at in record {
        step = step;
        world = new;
        does = done;
        stands = stands;
        counts = counted k n before now a b (calls_of w.base.units line) (plan_of line reply) (falls_of line step reply)
            (decided_rose w new step at (is.does w new step done))
            (calls.plan ∙ sym (append-nil a.plan) ∙ ap (λ (p : List PowerCall). a.plan ++ p) (sym is.plan))
            (few w at);
      }

-- ---- a call that finds no memory

-- it may have read
pub out_of_memory : LeftLaw → (old new : OnDisk KernelState) (line : List ℕ) → IsUnanswered old new → (w : World) → KernelAt old.it old.told w → Unanswered w old new line
out_of_memory left old new line is w at =
    let calls = is.reads.calls in record {
      leaves = subst (λ (o : Option DiskState). IsSomeAnd o (LeavesStates w)) (sym is.reads.same) (left old.it old.told w at);
      counts = inl (record { rose = RoseBy-none old.status.downs new.status.downs calls.later; plan_is = calls.plan ∙ sym (append-nil old.status.plan); few = calls.few });
    }

-- ---- a crash

-- a crash that is answered takes the disk down
off_rose : (on : Bool) (w new : World) (a b : DiskStatus) (step : Step) → b ≡ after_off a → CrashDoes on w step Done new → RoseBy (falls_of (Some Crash) step Done) a.downs b.downs
off_rose on w new a b answered is does = let up = ap (λ s. s.downs) is in omega arith
off_rose true w new a b interrupted is none = absurd none
off_rose true w new a b (found log) is none = absurd none
off_rose true w new a b (worn log) is none = absurd none
off_rose false w new a b interrupted is none = absurd none
off_rose false w new a b (found log) is none = absurd none
off_rose false w new a b (worn log) is none = absurd none

pub went_down : (k n : KernelState) (before now : Option DiskState) (a b : DiskStatus) → now ≡ before → b ≡ after_off a
    → ((told : Option DiskState) (w : World) → KernelAt k told w → DoesLine w (Some Crash) Done n told)
    → Answers (on k before a) (on n now b) (Some Crash) Done
went_down k n before now a b told is does = λ w at.
    let (step, new, done, stands) = does now w (subst (λ (o : Option DiskState). KernelAt k o w) (sym told) at) in record {
      step = step;
      world = new;
      does = done;
      stands = stands;
      counts = counted k n before now a b 0 _ (falls_of (Some Crash) step Done) (off_rose (is_up w.power) w new a b step is done) (ap (λ s. s.plan) is) (let few = ap (λ s. s.calls) is in omega arith);
    }

pub is_down_still : (k : KernelState) (told : Option DiskState) (a : DiskStatus) → k.now.machine.is_up ≡ false
    → Answers (on k told a) (on k told a) (Some Crash) (Refused MachineDown)
is_down_still k told a off = λ w at. record {
  step = answered;
  world = w;
  does = subst (λ b. CrashDoes b w answered (Refused MachineDown) w) (sym (off_of k told w off at)) (refl, refl);
  stands = at;
  counts = quiet k k told told a a refl;
}

-- ---- a restart

-- the power failed again
pub failed_again : PowerLaw → (k : KernelState) (before now : Option DiskState) (a b : DiskStatus) (pick : ℕ) → k.now.machine.is_up ≡ false
    → b ≡ record (planned a (Power pick)) { is_down = true; downs = b.downs } → Rose a.downs b.downs → Goes NotRestored before now
    → Answers (on k before a) (on k now b) (Some (Restart pick)) (Refused MachineDown)
failed_again law k before now a b pick off is rose goes = λ w at.
    let down = off_of k before w off at in record {
      step = interrupted;
      world = interrupted_restart w;
      does = subst (λ b. RestartDoes b w interrupted (Refused MachineDown) (interrupted_restart w)) (sym down) (refl, refl);
      stands = (law k before now w down at).1 goes;
      counts = counted k k before now a b (2 * w.base.units + 27) (Power pick ∷ []) 1 rose (ap (λ s. s.plan) is) (let few = ap (λ s. s.calls) is in omega arith);
    }

-- the power is back
found_at : PowerLaw → (k : KernelState) (before now : Option DiskState) → k.now.machine.is_up ≡ false → Goes Restored before now → (w : World) → KernelAt k before w → FoundAt k now w
found_at law k before now off goes w at = (law k before now w (off_of k before w off at) at).0 goes

-- the disk once its power is back
abbrev powered : DiskStatus → ℕ → DiskStatus
powered a pick = record (planned a (Power pick)) { is_down = false; pending = 0 }

-- a restart of a world that is down starts it
starts_of : (w new : World) (pick : ℕ) (step : Step) (reply : Reply) → is_up w.power ≡ false → Does w (Some (Restart pick)) step reply new → StartDoes w step reply new
starts_of w new pick step reply off does = subst (λ b. RestartDoes b w step reply new) off does

-- a machine that was down and starts asks for the power
started_plan : (w new : World) (pick : ℕ) (step : Step) (reply : Reply) → StartDoes w step reply new → plan_of (Some (Restart pick)) reply ≡ Power pick ∷ []
started_plan w new pick answered reply none = absurd none
started_plan w new pick interrupted reply (says, is) = ap (λ r. plan_of (Some (Restart pick)) r) says
started_plan w new pick (found log) reply (finds, says, is) = ap (λ r. plan_of (Some (Restart pick)) r) says
started_plan w new pick (worn log) reply (finds, says, is) = ap (λ r. plan_of (Some (Restart pick)) r) says

-- in the start of a machine that was down the power goes only where the count of downs rose
started_rose : (w new : World) (pick : ℕ) (step : Step) (reply : Reply) (a b : DiskStatus) → StartDoes w step reply new → (reply ≡ Refused MachineDown → Rose a.downs b.downs) → a.downs ≤ b.downs
    → RoseBy (falls_of (Some (Restart pick)) step reply) a.downs b.downs
started_rose w new pick answered reply a b none cause later = absurd none
started_rose w new pick interrupted reply a b (says, is) cause later = cause says
started_rose w new pick (found log) reply a b does cause later = RoseBy-none a.downs b.downs later
started_rose w new pick (worn log) reply a b does cause later = RoseBy-none a.downs b.downs later

-- a machine that starts again, on a disk whose power came back
module _ (law : PowerLaw) (k n : KernelState) (before mid now : Option DiskState) (a m b : DiskStatus) (pick : ℕ)
    (off : k.now.machine.is_up ≡ false) (power : m ≡ powered a pick) (goes : Goes Restored before mid)
    (calls : DeviceCalls (2 * MOST_UNITS + 27) m b b.is_down) (few : (w : World) → FoundAt k mid w → b.calls ≤ m.calls + (2 * w.base.units + 27)) where
  starts_counted : (w : World) (fell : ℕ) → KernelAt k before w → RoseBy fell m.downs b.downs
      → Counts (on k before a) (on n now b) (2 * w.base.units + 27) (Power pick ∷ []) fell
  starts_counted w fell at rose = counted k n before now a b (2 * w.base.units + 27) (Power pick ∷ []) fell
      (subst (λ d. RoseBy fell d b.downs) (ap (λ s. s.downs) power) rose)
      (calls.plan ∙ ap (λ s. s.plan) power)
      (subst (λ d. b.calls ≤ d + (2 * w.base.units + 27)) (ap (λ s. s.calls) power) (few w (found_at law k before mid off goes w at)))

  pub started : (reply : Reply) → ((pick : ℕ) (w : World) → FoundAt k mid w → DoesLine w (Some (Restart pick)) reply n now) → (reply ≡ Refused MachineDown → Rose m.downs b.downs)
      → Answers (on k before a) (on n now b) (Some (Restart pick)) reply
  started reply does cause = λ w at.
      let (step, new, done, stands) = does pick w (found_at law k before mid off goes w at) in
      let starts = starts_of w new pick step reply (off_of k before w off at) done in record {
        step = step;
        world = new;
        does = done;
        stands = stands;
        counts = subst (λ (p : List PowerCall). Counts (on k before a) (on n now b) (2 * w.base.units + 27) p (falls_of (Some (Restart pick)) step reply))
            (sym (started_plan w new pick step reply starts))
            (starts_counted w (falls_of (Some (Restart pick)) step reply) at (started_rose w new pick step reply m b starts cause calls.later));
      }

  pub not_started : FoundLaw → now ≡ mid → (line : List ℕ) (w : World) → Means line (Some (Restart pick)) → KernelAt k before w
      → Unanswered w (on k before a) (on n now b) line
  not_started stands_for same line w means at = record {
    leaves = subst (λ (o : Option DiskState). IsSomeAnd o (LeavesStates w)) (sym same) (stands_for k mid w (found_at law k before mid off goes w at));
    counts = inr (pick, means, off_of k before w off at, starts_counted w 0 at (RoseBy-none m.downs b.downs calls.later));
  }

-- ---- what was read of a line

pub meant : (bytes : List ℕ) (x y : Line) → x ≡ y → Means bytes (Some x) → Means bytes (Some y)
meant bytes x y is means = subst (λ (line : Line). Means bytes (Some line)) is means

pub answers_so : (r : Result Reply NoMemory) (old new : OnDisk KernelState) (bytes : List ℕ) (line : Option Line) → Means bytes line → IfOk r (λ reply. Answers old new line reply)
    → IfOk r (λ reply. (meant : Option Line) × Means bytes meant × Answers old new meant reply)
answers_so (Ok reply) old new bytes line means answers = (line, means, answers)
answers_so (Err fault) old new bytes line means answers = tt

pub OnErr-map : (r : Result Reply NoMemory) (P Q : Type 0) → (P → Q) → OnErr r P → OnErr r Q
OnErr-map (Ok reply) P Q f h = tt
OnErr-map (Err fault) P Q f h = f h
