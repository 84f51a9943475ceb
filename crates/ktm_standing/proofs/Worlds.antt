-- A machine keeps what it keeps, whatever it does.
use Rattle.std.proofs.Common.{ℕ, List, [], ◌∷◌, sym, ◌∙◌, ap, subst, arith}
use Rattle.std.proofs.lemmas.List.Sums.{fold-append}
use Rattle.ktm_base.specs.declared.id.Pid.{Pid}
use Rattle.ktm_world.specs.declared.command.Command.{Command}
use Rattle.ktm_world.specs.Values.{IsGiven}
use Rattle.ktm_world.specs.Committed.{Committed, version_of, with_work}
use Rattle.ktm_world.specs.Decide.{decide}
use Rattle.ktm_world.specs.Laws.{StepLaw}
use Rattle.ktm_world.specs.Logs.{Group, down}
use Rattle.ktm_world.specs.Outcome.{Outcome, apply}
use Rattle.ktm_world.specs.Present.{Present}
use Rattle.ktm_world.specs.World.{World, present, extend, after, committed, decide_tick, possible_logs}
use Rattle.ktm_world.proofs.offered.Durables.{after_events-events}
use Rattle.ktm_laws.specs.Running.{HasEventsLeft, IsRunning, LawfulWorldsLaw}
use Rattle.ktm_records.specs.Spelling.{AreTexts, SpellingLaw}
use Rattle.ktm_standing.specs.Laws.{StandingLaw}
use Rattle.ktm_standing.specs.Standing.{IsStanding, IsStandingNow}
use Rattle.ktm_standing.proofs.Opened.{stands_opened}
use Rattle.ktm_standing.proofs.Outcomes.{IsLogged, decided_logs, ticked_logs}
use Rattle.ktm_standing.proofs.Versions.{counted_works}

module _ (step : StepLaw) (law : LawfulWorldsLaw) (spelling : SpellingLaw) where
  -- ---- an outcome

  stands_extend : (w : World) (o : Outcome) → IsRunning (extend w o) → IsLogged o → AreTexts (apply (present w) o) → IsStanding w → IsStanding (extend w o)
  stands_extend w o run logged texts standing = record {
    running = run;
    texts = subst AreTexts (sym (step.0 w o standing.running.openings)) texts;
    small = standing.small;
    counted = λ file.
        let before = standing.counted file in
        let works = ap (λ (c : Committed). version_of c.versions file) (fold-append with_work w.start w.works o.works) in
        let more = counted_works o.works (committed w) file in
        let puts = logged.each file in
        let events = after_events-events w.recorded o.events in
        omega (arith, before, works, more, puts, events);
  }

  stands_after : (w : World) (process : Pid) (command : Command) → IsGiven command → HasEventsLeft (present w) → IsStanding w → IsStanding (after w process command)
  stands_after w process command is left standing =
      stands_extend w (decide (present w) process command) (law.commands w process command left standing.running) (decided_logs (present w) standing.running.now.sound.files process command)
      (spelling.stay (present w) process command is standing.texts) standing

  stands_later : (w : World) (ms : ℕ) → HasEventsLeft (present w) → IsStanding w → IsStanding (extend w (decide_tick (present w) ms))
  stands_later w ms left standing =
      stands_extend w (decide_tick (present w) ms) (law.ticks w ms left standing.running) (ticked_logs (present w) ms) (spelling.stay_later (present w) ms standing.texts) standing

  -- ---- losses of power

  -- the power alone is another one
  stands_down : (w : World) (may : List (List Group)) → IsRunning (record w { power = down may }) → IsStanding w → IsStanding (record w { power = down may })
  stands_down w may run standing = record { running = run; texts = record { store = standing.texts.store; own = standing.texts.own }; small = standing.small; counted = standing.counted }

  -- ---- what is so now

  stands_after_now : (x : Present) (process : Pid) (command : Command) → IsGiven command → HasEventsLeft x → IsStandingNow x → IsStandingNow (apply x (decide x process command))
  stands_after_now x process command is left now = record {
    world = after now.world process command;
    stands = stands_after now.world process command is (subst HasEventsLeft (sym now.is) left) now.stands;
    is = step.1 now.world process command now.stands.running.openings ∙ ap (λ y. apply y (decide y process command)) now.is;
  }

  stands_later_now : (x : Present) (ms : ℕ) → HasEventsLeft x → IsStandingNow x → IsStandingNow (apply x (decide_tick x ms))
  stands_later_now x ms left now = record {
    world = extend now.world (decide_tick (present now.world) ms);
    stands = stands_later now.world ms (subst HasEventsLeft (sym now.is) left) now.stands;
    is = step.2 now.world ms now.stands.running.openings ∙ ap (λ y. apply y (decide_tick y ms)) now.is;
  }

  pub standing_law : StandingLaw
  standing_law = record {
    commands = stands_after;
    ticks = stands_later;
    crashes = λ w standing. stands_down w (possible_logs w) (law.crashes w standing.running) standing;
    interrupted_commands = λ w process command is left standing. stands_down w _ (law.interrupted_commands w process command left standing.running) standing;
    interrupted_ticks = λ w ms left standing. stands_down w _ (law.interrupted_ticks w ms left standing.running) standing;
    interrupted_restarts = λ w standing. stands_down w _ (law.interrupted_restarts w standing.running) standing;
    worn_restarts = λ w log finds standing. stands_down w (log ∷ []) (law.worn_restarts w log finds standing.running) standing;
    restarts = λ base log good small is texts unworn. stands_opened base log small (spelling.restarts base log texts) (law.begins base log good is unworn);
    commands_now = stands_after_now;
    ticks_now = stands_later_now;
  }
