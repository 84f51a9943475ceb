-- What is asked, by what it records and what it makes of the debts of transactions.
use Rattle.std.proofs.Common.{◌≡◌, ℕ, ◌+◌, ◌≤◌, ◌&&◌, not, Bool, true, false, [], refl, arith, inl, inr}
use Rattle.std.proofs.lemmas.Bool.{and_cases, cases_Bool, le-ltb, ltb-false, not-false}
use Rattle.ktm_base.specs.declared.id.Pid.{Pid}
use Rattle.ktm_debts.specs.Debts.{DebtsLaw, debts, frame_of, may_owe_more, most_debts}
use Rattle.ktm_journal.specs.Image.{JournalState}
use Rattle.ktm_memory.proofs.offered.Standing.{kept}
use Rattle.ktm_route.specs.Route.{decided}
use Rattle.ktm_route.specs.declared.asked.Asked.{Asked}
use Rattle.ktm_route.specs.declared.asked.Asked.TheVariants.{Call, Units, Tick}
use Rattle.ktm_standing.specs.Standing.{IsStandingNow}
use Rattle.ktm_world.specs.declared.command.Command.{Command}
use Rattle.ktm_world.specs.declared.command.Command.TheVariants.{WriteUnits}
use Rattle.ktm_world.specs.Decide.{decide}
use Rattle.ktm_world.specs.Groups.{Group}
use Rattle.ktm_world.specs.Outcome.{Outcome, apply}
use Rattle.ktm_world.specs.Present.{Present}
use Rattle.ktm_world.specs.Sizes.{area_len}
use Rattle.ktm_world.proofs.offered.Durables.{after_events-units}
use Rattle.ktm_core.specs.Answers.{asked_completes, asked_owes_more}
use Rattle.ktm_core.specs.Core.{log_left}
use Rattle.ktm_core.specs.Done.{lacks_room, most_calls}
use Rattle.ktm_core.specs.Recording.{beside_of, is_refusal, lacks_room_beside, left_after, may_rise, put_calls}
use Rattle.ktm_core.proofs.Refused.{owes_apart, refused_owes}

-- what an outcome makes of the debts, for which there is room in what is left of the log: of a command that completes a transaction or not, and that may owe more or not
pub record OwesWell (completing owing : Bool) (x : Present) (o : Outcome) (left : ℕ) : Type 0 where
  pub room : debts x + 1 ≤ left
  pub most : debts (apply x o) ≤ most_debts x.recorded.units
  pub completes : completing ≡ true → frame_of o.events + debts (apply x o) ≤ debts x
  pub fits : completing ≡ false → frame_of o.events + most_debts x.recorded.units + 1 ≤ area_len x.recorded.units
  pub quiet : o.events ≡ [] → may_rise owing o.reply ≡ false → debts (apply x o) ≤ debts x
  pub apart : owing ≡ true → completing ≡ false

module _ (law : DebtsLaw) (x : Present) (standing : IsStandingNow x) where
  most_owed : (asked : Asked) → IsStandingNow (apply x (decided x asked)) → debts (apply x (decided x asked)) ≤ most_debts x.recorded.units
  most_owed asked goes_on = omega (arith, law.most (apply x (decided x asked)) (kept (apply x (decided x asked)) goes_on), after_events-units x.recorded (decided x asked).events)

  completed : (asked : Asked) → asked_completes asked ≡ true → frame_of (decided x asked).events + debts (apply x (decided x asked)) ≤ debts x
  completed (Call process command) is = law.completions x process command (kept x standing) is
  completed (Units process file start contents extent) is = absurd (cc)
  completed (Tick ms) is = law.ticks x ms (kept x standing)

  fitting : (asked : Asked) → asked_completes asked ≡ false → frame_of (decided x asked).events + most_debts x.recorded.units + 1 ≤ area_len x.recorded.units
  fitting (Call process command) is = law.fits x process command (kept x standing) is
  fitting (Units process file start contents extent) is = law.fits x process (WriteUnits file start contents) (kept x standing) refl
  fitting (Tick ms) is = absurd (cc)

  quiet_command : (process : Pid) (command : Command) → (decide x process command).events ≡ [] → may_rise (may_owe_more command) (decide x process command).reply ≡ false → debts (apply x (decide x process command)) ≤ debts x
  quiet_command process command none stays = elim (cases_Bool (may_owe_more command)) [
    | inl owes ↦ (elim (and_cases (may_owe_more command) (not (is_refusal (decide x process command).reply)) stays) [
      | inl not_owing ↦ law.quiet x process command (kept x standing) not_owing none
      | inr refused ↦ (let same = refused_owes x process command owes (not-false (is_refusal (decide x process command).reply) refused) in omega (arith, same))
    ])
    | inr not_owing ↦ law.quiet x process command (kept x standing) not_owing none
  ]

  quiet_asked : (asked : Asked) → (decided x asked).events ≡ [] → may_rise (asked_owes_more asked) (decided x asked).reply ≡ false → debts (apply x (decided x asked)) ≤ debts x
  quiet_asked (Call process command) none stays = quiet_command process command none stays
  quiet_asked (Units process file start contents extent) none stays = quiet_command process (WriteUnits file start contents) none stays
  quiet_asked (Tick ms) none stays = omega (arith, law.ticks x ms (kept x standing))

  asked_apart : (asked : Asked) → asked_owes_more asked ≡ true → asked_completes asked ≡ false
  asked_apart (Call process command) owes = owes_apart command owes
  asked_apart (Units process file start contents extent) owes = refl
  asked_apart (Tick ms) owes = absurd (cc)

  -- so it is for whatever is asked
  pub asked_owes : (asked : Asked) (left : ℕ) → IsStandingNow (apply x (decided x asked)) → debts x + 1 ≤ left → OwesWell (asked_completes asked) (asked_owes_more asked) x (decided x asked) left
  asked_owes asked left goes_on room = record { room = room; most = most_owed asked goes_on; completes = completed asked; fits = fitting asked; quiet = quiet_asked asked; apart = asked_apart asked }

-- ---- room in the log

module _ (x : Present) (o : Outcome) (j : JournalState) (units : x.recorded.units ≡ j.units) where
  -- behind what was recorded there is room for what is owed then
  pub room_after : (completing owing : Bool) (raw : Group) → OwesWell completing owing x o (log_left j) → frame_of raw ≤ frame_of o.events → debts (apply x o) + 1 ≤ left_after (beside_of completing j.units) j raw
  room_after true owing raw owes few =
      let free : lacks_room_beside 0 j raw ≡ false = le-ltb (log_left j) (frame_of raw + 0 + 1) (omega (arith, owes.room, owes.completes refl, few)) in
      rw free (omega (arith, owes.room, owes.completes refl, few))
  room_after false owing raw owes few = elim (cases_Bool (lacks_room_beside (most_debts j.units) j raw)) [
    | inl full ↦ rw full (omega (arith, owes.most, owes.fits refl, few, units))
    | inr free ↦ rw free (omega (arith, owes.most, units, ltb-false (log_left j) (frame_of raw + most_debts j.units + 1) free))
  ]

  -- what completes a transaction is recorded without a snapshot
  pub calls_by : (completing owing : Bool) → OwesWell completing owing x o (log_left j) → put_calls (beside_of completing j.units) j o.events ≤ most_calls completing false j o.events
  calls_by true owing owes =
      let free : lacks_room_beside 0 j o.events ≡ false = le-ltb (log_left j) (frame_of o.events + 0 + 1) (omega (arith, owes.room, owes.completes refl)) in
      rw free (omega arith)
  calls_by false owing owes = omega arith

  -- where nothing is recorded there is room for the greatest debts, or what is owed does not rise
  pub room_still : (completing owing : Bool) → OwesWell completing owing x o (log_left j) → o.events ≡ [] → (may_rise owing o.reply && lacks_room j []) ≡ false → debts (apply x o) + 1 ≤ log_left j
  room_still completing owing owes none enough = elim (and_cases (may_rise owing o.reply) (lacks_room j []) enough) [
    | inl stays ↦ omega (arith, owes.room, owes.quiet none stays)
    | inr free ↦ omega (arith, owes.most, units, ltb-false (log_left j) (0 + most_debts j.units + 1) free)
  ]

  -- an empty log has room for the greatest debts
  pub room_empty : (completing owing : Bool) → OwesWell completing owing x o (log_left j) → debts (apply x o) + 1 ≤ area_len j.units
  room_empty completing owing owes = omega (arith, owes.most, units)
