-- What is asked comes to what stands, it can be recorded, and there is room for what it sends and for what is owed.
use Rattle.std.proofs.Common.{◌≡◌, ℕ, ◌+◌, ◌≤◌, Bool, true, length, Option, subst, arith}
use Rattle.ktm_base.specs.Disk.{DiskState, DiskStatus}
use Rattle.ktm_laws.specs.Running.{HasEventsLeft, LawfulWorldsLaw}
use Rattle.ktm_route.specs.Frames.{FitsEmptyLog, FramesLaw}
use Rattle.ktm_standing.specs.Laws.{StandingLaw}
use Rattle.ktm_standing.specs.Standing.{IsStandingNow}
use Rattle.ktm_core.specs.Answers.{asked_completes, asked_owes_more}
use Rattle.ktm_core.specs.Core.{CoreState, IsReady, log_left}
use Rattle.ktm_core.proofs.Given.{given}
use Rattle.ktm_core.proofs.Debts.{OwesWell, asked_owes}
use Rattle.ktm_debts.specs.Debts.{DebtsLaw}
use Rattle.ktm_memory.proofs.offered.Standing.{kept}
use Rattle.ktm_route.specs.Route.{CanBeAsked, decided}
use Rattle.ktm_route.specs.declared.asked.Asked.{Asked}
use Rattle.ktm_route.specs.declared.asked.Asked.TheVariants.{Call, Units, Tick}
use Rattle.ktm_slots.specs.Owed.{owed_slots}
use Rattle.ktm_slots.specs.Slots.{IsPaid, SlotsLaw, granted_in}
use Rattle.ktm_world.specs.declared.command.Command.TheVariants.{WriteUnits}
use Rattle.ktm_world.specs.Decide.{decide}
use Rattle.ktm_world.specs.Durable.{events_apply}
use Rattle.ktm_world.specs.Outcome.{Outcome, apply}
use Rattle.ktm_world.specs.Present.{Present}
use Rattle.ktm_world.specs.World.{decide_tick}

-- an outcome of a machine that stands comes to what stands, its events fit an empty log and apply to what was recorded, and so many slots are
-- enough for what it sends, and for what may be sent after it; it goes well with the debts, too
pub record GoesWell (completing owing : Bool) (x : Present) (o : Outcome) (slots left : ℕ) : Type 0 where
  pub standing : IsStandingNow x
  pub goes_on : IsStandingNow (apply x o)
  pub fits : FitsEmptyLog x.recorded.units o.events
  pub applies : events_apply x.recorded o.events ≡ true
  pub paid : length o.sent + owed_slots (apply x o) ≤ slots
  pub owes : OwesWell completing owing x o left

-- what is asked comes to what stands
asked_stands : StandingLaw → (x : Present) (asked : Asked) → CanBeAsked x asked → HasEventsLeft x → IsStandingNow x → IsStandingNow (apply x (decided x asked))
asked_stands law x (Call process command) can counts standing = law.commands_now x process command (given command can.0) counts standing
asked_stands law x (Units process file start contents extent) can counts standing = law.commands_now x process (WriteUnits file start contents) can.0 counts standing
asked_stands law x (Tick ms) can counts standing = law.ticks_now x ms counts standing

-- an empty log has room for what it records
asked_fits : FramesLaw → (x : Present) (asked : Asked) → IsStandingNow x → FitsEmptyLog x.recorded.units (decided x asked).events
asked_fits law x (Call process command) standing = law.commands x process command (kept x standing)
asked_fits law x (Units process file start contents extent) standing = law.commands x process (WriteUnits file start contents) (kept x standing)
asked_fits law x (Tick ms) standing = law.ticks x ms (kept x standing)

-- which applies to what was recorded
asked_applies : LawfulWorldsLaw → (x : Present) (asked : Asked) → HasEventsLeft x → IsStandingNow x → events_apply x.recorded (decided x asked).events ≡ true
asked_applies law x (Call process command) counts standing =
    subst (λ (y : Present). HasEventsLeft y → events_apply y.recorded (decide y process command).events ≡ true) standing.is (λ left. law.records standing.world process command left standing.stands.running) counts
asked_applies law x (Units process file start contents extent) counts standing =
    subst (λ (y : Present). HasEventsLeft y → events_apply y.recorded (decide y process (WriteUnits file start contents)).events ≡ true) standing.is
    (λ left. law.records standing.world process (WriteUnits file start contents) left standing.stands.running) counts
asked_applies law x (Tick ms) counts standing =
    subst (λ (y : Present). HasEventsLeft y → events_apply y.recorded (decide_tick y ms).events ≡ true) standing.is (λ left. law.later_records standing.world ms left standing.stands.running) counts

-- no more is sent than is owed and granted
asked_paid : SlotsLaw → (x : Present) (asked : Asked) → IsStandingNow x → IsPaid x (decided x asked) (granted_in x (decided x asked))
asked_paid law x (Call process command) standing = law.commands x process command (kept x standing).sound.course
asked_paid law x (Units process file start contents extent) standing = law.commands x process (WriteUnits file start contents) (kept x standing).sound.course
asked_paid law x (Tick ms) standing = let paid = law.ticks x ms (kept x standing).sound.course in omega (arith, paid)

-- so it is where a machine that is ready decides what is asked, and has the room that is granted for it then
pub asked_well : StandingLaw → SlotsLaw → FramesLaw → LawfulWorldsLaw → DebtsLaw → (c : CoreState) (slots : ℕ) (told : Option DiskState) (status : DiskStatus) (asked : Asked) → IsReady c told status → HasEventsLeft c.now → CanBeAsked c.now asked
    → c.slots + granted_in c.now (decided c.now asked) ≤ slots → GoesWell (asked_completes asked) (asked_owes_more asked) c.now (decided c.now asked) slots (log_left c.journal)
asked_well stands law frames lawful debts c slots told status asked ready left can granted =
    let paid : IsPaid c.now (decided c.now asked) (granted_in c.now (decided c.now asked)) = asked_paid law c.now asked ready.standing in
    let goes_on = asked_stands stands c.now asked can left ready.standing in
    record {
      standing = ready.standing;
      goes_on = goes_on;
      fits = asked_fits frames c.now asked ready.standing;
      applies = asked_applies lawful c.now asked left ready.standing;
      paid = omega (arith, paid, ready.slots, granted);
      owes = asked_owes debts c.now ready.standing asked (log_left c.journal) goes_on ready.room;
    }
