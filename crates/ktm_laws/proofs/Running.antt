-- Every world of a run is such a world, and such a world is lawful.
use Rattle.std.proofs.Common.{◌≡◌, ℕ, ◌+◌, ◌≤◌, ◌&&◌, not, Bool, true, false, List, [], ◌∷◌, ◌++◌, length, drop, Option, Some, None, refl, sym, ◌∙◌, ap, subst, arith, inl, inr, ◌⊎◌}
use Rattle.std.proofs.Math.Bool.{and_assoc}
use Rattle.std.proofs.lemmas.Bool.{and_from, and_parts, or_cases, or_left, or_right, not-true, true≢false}
use Rattle.std.proofs.lemmas.List.Folds.{list_all-append}
use Rattle.std.specs.List.{list_any, list_all}
use Rattle.ktm_base.specs.declared.id.Pid.{Pid}
use Rattle.ktm_world.specs.declared.command.Command.{Command}
use Rattle.ktm_world.specs.declared.command.Line.{Line}
use Rattle.ktm_world.specs.declared.command.Line.TheVariants.{Tick, Cut, Crash, Restart, Process}
use Rattle.ktm_world.specs.declared.event.Event.{Event}
use Rattle.ktm_world.specs.declared.reply.Reply.{Reply}
use Rattle.ktm_world.specs.Changes.{changes_apply}
use Rattle.ktm_world.specs.Committed.{Committed, Work, with_work, committed_with}
use Rattle.ktm_world.specs.Conflicts.{holds_now}
use Rattle.ktm_world.specs.Decide.{decide}
use Rattle.ktm_world.specs.Durable.{Durable, after_events, events_apply, log_applies, stand}
use Rattle.ktm_world.specs.Files.{OpenFile, OwnChanges, is_last_version}
use Rattle.ktm_world.specs.Holds.{is_in}
use Rattle.ktm_world.specs.Lawful.{Agrees, IsLawful, works_apply, ends_version, hold_apart, all_apart, others_undecided, undecided, is_fixed_last, is_alone}
use Rattle.ktm_world.specs.Laws.{FirstOpensLaw, StepLaw}
use Rattle.ktm_world.specs.Logs.{Group, down, is_up, as_groups}
use Rattle.ktm_world.specs.Outcome.{Outcome, apply}
use Rattle.ktm_world.specs.Present.{Present}
use Rattle.ktm_world.specs.Transcript.{Step, answered, interrupted, found, worn, Finds, CallDoes, IsAnswered, CrashDoes, RestartDoes, Does, Transcript}
use Rattle.ktm_world.specs.Uses.{changes_waiting, is_over_quota, is_over_disk}
use Rattle.ktm_world.specs.World.{World, OpenedAfter, committed, first_open_now, present, extend, after, decide_tick, possible_logs, interrupted_by, crashed, interrupted_restart, found_worn, opened}
use Rattle.ktm_world.proofs.offered.Durables.{after_events-events, stand-append, stand-as_groups, log_applies-append, log_applies-as_groups}
use Rattle.ktm_records.specs.Agreement.{AgreeingLaw}
use Rattle.txf_laws.specs.Elements.{IsIn}
use Rattle.txf_laws.specs.Footprint.{ListsLaw}
use Rattle.txf_laws.specs.Formed.{FormedLaw}
use Rattle.txf_laws.specs.GoodStates.{GoodStatesLaw}
use Rattle.txf_laws.specs.Grammatical.{names_objects, is_grammatical}
use Rattle.ktm_records.specs.Kept.{IsWithin, are_carried_out}
use Rattle.ktm_courses.specs.NamedObjects.{NamedLaw}
use Rattle.ktm_laws.specs.Notes.{AreNotesTrue, NotesLaw}
use Rattle.txf_laws.specs.OwnGroup.{OwnGroupLaw}
use Rattle.ktm_owned.specs.OwnKeys.{OwnKeysLaw}
use Rattle.ktm_records.specs.RecordedFacts.{RecordedFactsLaw}
use Rattle.ktm_records.specs.Spelling.{SpellingLaw, most_at_once}
use Rattle.ktm_laws.specs.Running.{HasEventsLeft, LastsFor, is_log_grammatical, is_good_log, is_last_since, IsRunning, LawfulWorldsLaw}
use Rattle.txf_laws.specs.SoundFiles.{files_apart, is_open_last, set_apart}
use Rattle.ktm_records.specs.SoundWorlds.{IsSound, SoundWorldsLaw}
use Rattle.ktm_limits.specs.LimitsKept.{AreVersionsFixed, LimitsLaw}
use Rattle.ktm_laws.proofs.offered.LogCounts.{apply-from, lasts-behind, left-from, own-counts}
use Rattle.txf_laws.proofs.offered.Diamonds.{IsIn-map}
use Rattle.txf_laws.proofs.offered.Elements.{list_all-at, list_all-from}
use Rattle.ktm_laws.proofs.offered.PossibleLogs.{contains-passes, left-with, kept-all, left-extend, left-restart}
use Rattle.ktm_laws.proofs.LastVersions.{last-extend}
use Rattle.txf_laws.proofs.offered.CommitsOfOthers.{All-by}
use Rattle.ktm_laws.proofs.Sayings.{puts_all}
use Rattle.ktm_laws.proofs.offered.Starts.{good-restart, running-opened}
use Rattle.ktm_laws.proofs.Written.{IsWritten, MakesNone, written-decided, written-ticked}

-- ---- logs

groups-grammatical : (log : List Group) (events : List Event) → is_log_grammatical log ≡ true → list_all is_grammatical events ≡ true → is_log_grammatical (log ++ as_groups events) ≡ true
groups-grammatical log [] first second = list_all-append (λ (g : Group). list_all is_grammatical g) log [] ∙ and_from _ _ first refl
groups-grammatical log (event ∷ events) first second = list_all-append (λ (g : Group). list_all is_grammatical g) log ((event ∷ events) ∷ []) ∙ and_from _ _ first (and_from _ _ second refl)

works_apply-append : (c : Committed) (ws vs : List Work) → works_apply c (ws ++ vs) ≡ (works_apply c ws && works_apply (committed_with c ws) vs)
works_apply-append c [] vs = refl
works_apply-append c (w ∷ ws) vs =
    ap (λ b. changes_apply c.tree w.changes && b) (works_apply-append (with_work c w) ws vs)
    ∙ sym (and_assoc (changes_apply c.tree w.changes) (works_apply (with_work c w) ws) (works_apply (committed_with (with_work c w) ws) vs))

grammatical-both : (events : List Event) → list_all names_objects events ≡ true → list_all puts_all events ≡ true → list_all is_grammatical events ≡ true
grammatical-both events named puts = list_all-from is_grammatical events (λ event there. and_from _ _ (list_all-at names_objects events named event there) (list_all-at puts_all events puts event there))

-- ---- what an outcome makes of a world of a run

-- what is so of the outcome of a command, and of that of the passing of time
pub record IsTaken (w : World) (o : Outcome) : Type 0 where
  pub sound : IsSound (present (extend w o))
  pub agrees : Agrees (apply (present w) o)
  pub carried_out : are_carried_out (apply (present w) o).recorded ≡ true
  pub within : IsWithin (apply (present w) o)
  pub versions : AreVersionsFixed (apply (present w) o)
  pub notes : AreNotesTrue (apply (present w) o)
  pub applies : events_apply w.recorded o.events ≡ true
  pub grammatical : list_all is_grammatical o.events ≡ true
  pub written : IsWritten (present w) o

within-falls : (w : World) (may : List (List Group)) → IsWithin (present w) → IsWithin (present (record w { power = down may }))
unfolding changes_waiting is_over_quota is_over_disk
within-falls w may within = within

module _ (step : StepLaw) (openings : FirstOpensLaw) (lists : ListsLaw) (formed : FormedLaw) (states : GoodStatesLaw) (own_groups : OwnGroupLaw) (named : NamedLaw) (worlds : SoundWorldsLaw) (own_keys : OwnKeysLaw) (notes : NotesLaw) where
  running-extend : (w : World) (o : Outcome) → IsRunning w → IsTaken w o → IsRunning (extend w o)
  running-extend w o run taken =
      let is = step.0 w o run.openings in
      let grammatical = groups-grammatical w.log o.events run.grammatical taken.grammatical in
      let applies = log_applies-append w.base w.log (as_groups o.events)
      ∙ and_from _ _ run.applies (log_applies-as_groups (stand w.base w.log) o.events ∙ ap (λ s. events_apply s o.events) run.comes_to ∙ taken.applies) in
      record {
        base = run.base;
        openings = openings.1 w o run.openings;
        now = record {
          sound = taken.sound;
          good = states.2 w.recorded o.events run.now.good taken.grammatical taken.applies;
          carried_out = taken.carried_out;
          agrees = subst Agrees (sym is) taken.agrees;
          within = subst IsWithin (sym is) taken.within;
        };
        versions = subst AreVersionsFixed (sym is) taken.versions;
        notes = subst AreNotesTrue (sym is) taken.notes;
        formed = run.formed;
        works = works_apply-append w.start w.works o.works ∙ and_from _ _ run.works (written taken.written.works);
        last = last-extend w o run.openings run.now.sound.files taken.written run.last;
        grammatical = grammatical;
        applies = applies;
        comes_to = stand-append w.base w.log (as_groups o.events) ∙ stand-as_groups (stand w.base w.log) o.events ∙ ap (λ s. after_events s o.events) run.comes_to;
        kept = kept-all w.kept w.log o.events run.kept;
        possible = left-extend (is_good_log w.base) w o run.kept (and_from _ _ grammatical applies) run.possible;
      }
    where
      written : (o.works ≡ []) ⊎ ((v : Work) × (o.works ≡ v ∷ []) × (changes_apply (committed w).tree v.changes ≡ true) × MakesNone (present w) v.changes) → works_apply (committed w) o.works ≡ true
      written (inl none) = ap (works_apply (committed w)) none
      written (inr (v, one, all, makes)) = ap (works_apply (committed w)) one ∙ and_from _ _ all refl

  -- only the power is another one
  running-falls : (w : World) (may : List (List Group)) → IsRunning w → list_all (is_good_log w.base) may ≡ true → IsRunning (record w { power = down may })
  running-falls w may run possible = record {
    base = run.base;
    openings = record { works = run.openings.works };
    now = record {
      sound = (worlds.falls w (down may) (record { openings = run.openings; now = run.now.sound })).now;
      good = run.now.good;
      carried_out = run.now.carried_out;
      agrees = record { tree = run.now.agrees.tree; keys = run.now.agrees.keys; managers = run.now.agrees.managers; transactions = run.now.agrees.transactions; next_node = run.now.agrees.next_node };
      within = within-falls w may run.now.within;
    };
    versions = record { same = run.versions.same };
    notes = notes.falls w (down may) run.notes;
    formed = run.formed;
    works = run.works;
    last = run.last;
    grammatical = run.grammatical;
    applies = run.applies;
    comes_to = run.comes_to;
    kept = run.kept;
    possible = possible;
  }

  module _ (agrees : AgreeingLaw) (facts : RecordedFactsLaw) (spelling : SpellingLaw) (limits : LimitsLaw) where
    -- ---- commands and time

    pub taken-command : (w : World) (process : Pid) (command : Command) → HasEventsLeft (present w) → IsRunning w → IsTaken w (decide (present w) process command)
    taken-command w process command left run =
        let x = present w in
        let o = decide x process command in
        let few = spelling.few x process command run.now in
        let agree = agrees.commands x process command run.now.sound run.now.good run.now.carried_out run.now.agrees in
        let written = written-decided lists formed x run.now.sound.course run.now.sound.files process command in
        record {
          sound = (worlds.commands w process command (record { openings = run.openings; now = run.now.sound })).now;
          agrees = agree.0;
          carried_out = agree.1;
          within = limits.commands x process command run.now run.versions;
          versions = limits.versions x process command run.now run.versions;
          notes = notes.commands x process command run.now.sound.course run.notes;
          applies = apply-from o.events w.recorded (facts.commands x process command run.now) (limits.recorded x process command run.now) (omega (arith, left, few));
          grammatical = grammatical-both o.events (named.commands x process command run.now.sound.course) written.puts;
          written = written;
        }

    pub taken-tick : (w : World) (ms : ℕ) → HasEventsLeft (present w) → IsRunning w → IsTaken w (decide_tick (present w) ms)
    taken-tick w ms left run =
        let x = present w in
        let o = decide_tick x ms in
        let few = spelling.few_later x ms run.now in
        let agree = agrees.ticks x ms run.now.sound.course run.now.carried_out run.now.agrees in
        let written = written-ticked lists formed x run.now.sound.course run.now.sound.files ms in
        record {
          sound = (worlds.ticks w ms (record { openings = run.openings; now = run.now.sound })).now;
          agrees = agree.0;
          carried_out = agree.1;
          within = limits.ticks x ms run.now run.versions;
          versions = limits.later_versions x ms run.now run.versions;
          notes = notes.ticks x ms run.now.sound.course run.notes;
          applies = apply-from o.events w.recorded (facts.ticks x ms run.now) (limits.later x ms run.now) (omega (arith, left, few));
          grammatical = grammatical-both o.events (named.ticks x ms run.now.sound.course) written.puts;
          written = written;
        }

    pub running-command : (w : World) (process : Pid) (command : Command) → HasEventsLeft (present w) → IsRunning w → IsRunning (after w process command)
    running-command w process command left run = running-extend w (decide (present w) process command) run (taken-command w process command left run)

    pub running-tick : (w : World) (ms : ℕ) → HasEventsLeft (present w) → IsRunning w → IsRunning (extend w (decide_tick (present w) ms))
    running-tick w ms left run = running-extend w (decide_tick (present w) ms) run (taken-tick w ms left run)

    -- ---- losses of power

    good-now : (w : World) → IsRunning w → is_good_log w.base w.log ≡ true
    good-now w run = and_from _ _ run.grammatical run.applies

    interrupted-by : (w : World) (o : Outcome) → IsRunning w → IsTaken w o → IsRunning (interrupted_by w o)
    interrupted-by w o run taken = running-falls w _ run (left-with (is_good_log w.base) w.log w.kept o.events run.kept (good-now w run) (good-now (extend w o) (running-extend w o run taken)))

    pub running-crash : (w : World) → IsRunning w → IsRunning (crashed w)
    running-crash w run = running-falls w (possible_logs w) run run.possible

    pub running-interrupted_restart : (w : World) → IsRunning w → IsRunning (interrupted_restart w)
    running-interrupted_restart w run = running-falls w _ run (left-restart (is_good_log w.base) w (λ l fresh is. good-restart states own_groups spelling w.base l run.base is fresh) (possible_logs w) run.possible)

    -- a log that is found is good
    found-good : (w : World) (log : List Group) (is_worn : Bool) → Finds w log is_worn → IsRunning w → is_good_log w.base log ≡ true
    found-good w log is_worn finds run = contains-passes (is_good_log w.base) (possible_logs w) log run.possible finds.possible

    pub running-worn : (w : World) (log : List Group) → Finds w log true → IsRunning w → IsRunning (found_worn w log)
    running-worn w log finds run = running-falls w (log ∷ []) run (and_from _ _ (found-good w log true finds run) refl)

    -- ---- restarts

    pub running-found : (w : World) (log : List Group) → Finds w log false → IsRunning w → IsRunning (opened w.base log)
    running-found w log finds run = running-opened states own_groups spelling worlds agrees limits notes w.base log run.base (found-good w log false finds run) finds.worn

    -- ---- every line

    call-does : (w : World) (o : Outcome) (step : Step) (reply : Reply) (new : World) → CallDoes w o step reply new → IsTaken w o → IsRunning w → IsRunning new
    call-does w o answered reply new (says, becomes) taken run = subst IsRunning (sym becomes) (running-extend w o run taken)
    call-does w o interrupted reply new (on, says, becomes) taken run = subst IsRunning (sym becomes) (interrupted-by w o run taken)
    call-does w o (found log) reply new never taken run = absurd never
    call-does w o (worn log) reply new never taken run = absurd never

    answered-does : (w : World) (says : Reply) (step : Step) (reply : Reply) (new : World) → IsAnswered w says step reply new → IsRunning w → IsRunning new
    answered-does w says answered reply new (is, becomes) run = subst IsRunning (sym becomes) run
    answered-does w says interrupted reply new never run = absurd never
    answered-does w says (found log) reply new never run = absurd never
    answered-does w says (worn log) reply new never run = absurd never

    crash-does : (on : Bool) (w : World) (step : Step) (reply : Reply) (new : World) → CrashDoes on w step reply new → IsRunning w → IsRunning new
    crash-does true w answered reply new (says, becomes) run = subst IsRunning (sym becomes) (running-crash w run)
    crash-does true w interrupted reply new never run = absurd never
    crash-does true w (found log) reply new never run = absurd never
    crash-does true w (worn log) reply new never run = absurd never
    crash-does false w step reply new does run = answered-does w _ step reply new does run

    restart-does : (on : Bool) (w : World) (step : Step) (reply : Reply) (new : World) → RestartDoes on w step reply new → IsRunning w → IsRunning new
    restart-does true w step reply new does run = answered-does w _ step reply new does run
    restart-does false w answered reply new never run = absurd never
    restart-does false w interrupted reply new (says, becomes) run = subst IsRunning (sym becomes) (running-interrupted_restart w run)
    restart-does false w (found log) reply new (finds, says, becomes) run = subst IsRunning (sym becomes) (running-found w log finds run)
    restart-does false w (worn log) reply new (finds, says, becomes) run = subst IsRunning (sym becomes) (running-worn w log finds run)

    pub running-line : (w : World) (line : Option Line) (step : Step) (reply : Reply) (new : World) → Does w line step reply new → HasEventsLeft (present w) → IsRunning w → IsRunning new
    running-line w (Some (Process process command)) step reply new does left run = call-does w (decide (present w) process command) step reply new does (taken-command w process command left run) run
    running-line w (Some (Tick ms)) step reply new does left run = call-does w (decide_tick (present w) ms) step reply new does (taken-tick w ms left run) run
    running-line w (Some (Cut calls)) step reply new does left run = answered-does w _ step reply new does run
    running-line w (Some Crash) step reply new does left run = crash-does (is_up w.power) w step reply new does run
    running-line w (Some (Restart pick)) step reply new does left run = restart-does (is_up w.power) w step reply new does run
    running-line w None step reply new does left run = answered-does w _ step reply new does run

    -- ---- the count of events

    -- by a line that adds few events
    lasts-next : (w new : World) (lines : ℕ) → LastsFor (lines + 1) w → new.recorded.events ≤ w.recorded.events + most_at_once → LastsFor lines new
    lasts-next w new lines lasts few =
        let now = lasts.now in
        let end = lasts.restarted in
        record { now = omega (arith, now, few); restarted = omega (arith, end) }

    -- by a line that adds none
    lasts-same : (w new : World) (lines : ℕ) → LastsFor (lines + 1) w → new.recorded ≡ w.recorded → LastsFor lines new
    lasts-same w new lines lasts same = let events = ap (λ (s : Durable). s.events) same in lasts-next w new lines lasts (omega (arith, events))

    lasts-answered : (w : World) (says : Reply) (step : Step) (reply : Reply) (new : World) (lines : ℕ) → IsAnswered w says step reply new → LastsFor (lines + 1) w → LastsFor lines new
    lasts-answered w says answered reply new lines (is, becomes) lasts = lasts-same w new lines lasts (ap (λ (v : World). v.recorded) becomes)
    lasts-answered w says interrupted reply new lines never lasts = absurd never
    lasts-answered w says (found log) reply new lines never lasts = absurd never
    lasts-answered w says (worn log) reply new lines never lasts = absurd never

    lasts-call : (w : World) (o : Outcome) (step : Step) (reply : Reply) (new : World) (lines : ℕ) → CallDoes w o step reply new → length o.events ≤ most_at_once → LastsFor (lines + 1) w → LastsFor lines new
    lasts-call w o answered reply new lines (says, becomes) few lasts =
        let all = ap (λ (v : World). v.recorded.events) becomes ∙ after_events-events w.recorded o.events in
        lasts-next w new lines lasts (omega (arith, all, few))
    lasts-call w o interrupted reply new lines (on, says, becomes) few lasts = lasts-same w new lines lasts (ap (λ (v : World). v.recorded) becomes)
    lasts-call w o (found log) reply new lines never few lasts = absurd never
    lasts-call w o (worn log) reply new lines never few lasts = absurd never

    lasts-crash : (on : Bool) (w : World) (step : Step) (reply : Reply) (new : World) (lines : ℕ) → CrashDoes on w step reply new → LastsFor (lines + 1) w → LastsFor lines new
    lasts-crash true w answered reply new lines (says, becomes) lasts = lasts-same w new lines lasts (ap (λ (v : World). v.recorded) becomes)
    lasts-crash true w interrupted reply new lines never lasts = absurd never
    lasts-crash true w (found log) reply new lines never lasts = absurd never
    lasts-crash true w (worn log) reply new lines never lasts = absurd never
    lasts-crash false w step reply new lines does lasts = lasts-answered w _ step reply new lines does lasts

    -- a restart starts from a state that is not worn
    lasts-found : (w : World) (log : List Group) (lines : ℕ) → Finds w log false → IsRunning w → LastsFor (lines + 1) w → LastsFor lines (opened w.base log)
    lasts-found w log lines finds run lasts =
        let parts = and_parts (is_log_grammatical log) (log_applies w.base log) (found-good w log false finds run) in
        let few = own-counts spelling (stand w.base log) (states.3 w.base log run.base parts.0 parts.1) finds.worn in
        let end = lasts.restarted in
        record { now = omega (arith, few, end); restarted = omega (arith, end) }

    lasts-restart : (on : Bool) (w : World) (step : Step) (reply : Reply) (new : World) (lines : ℕ) → RestartDoes on w step reply new → IsRunning w → LastsFor (lines + 1) w → LastsFor lines new
    lasts-restart true w step reply new lines does run lasts = lasts-answered w _ step reply new lines does lasts
    lasts-restart false w answered reply new lines never run lasts = absurd never
    lasts-restart false w interrupted reply new lines (says, becomes) run lasts = lasts-same w new lines lasts (ap (λ (v : World). v.recorded) becomes)
    lasts-restart false w (found log) reply new lines (finds, says, becomes) run lasts = subst (LastsFor lines) (sym becomes) (lasts-found w log lines finds run lasts)
    lasts-restart false w (worn log) reply new lines (finds, says, becomes) run lasts = lasts-same w new lines lasts (ap (λ (v : World). v.recorded) becomes)

    pub lasts-line : (w : World) (line : Option Line) (step : Step) (reply : Reply) (new : World) (lines : ℕ) → Does w line step reply new → IsRunning w → LastsFor (lines + 1) w → LastsFor lines new
    lasts-line w (Some (Process process command)) step reply new lines does run lasts = lasts-call w (decide (present w) process command) step reply new lines does (spelling.few (present w) process command run.now) lasts
    lasts-line w (Some (Tick ms)) step reply new lines does run lasts = lasts-call w (decide_tick (present w) ms) step reply new lines does (spelling.few_later (present w) ms run.now) lasts
    lasts-line w (Some (Cut calls)) step reply new lines does run lasts = lasts-answered w _ step reply new lines does lasts
    lasts-line w (Some Crash) step reply new lines does run lasts = lasts-crash (is_up w.power) w step reply new lines does lasts
    lasts-line w (Some (Restart pick)) step reply new lines does run lasts = lasts-restart (is_up w.power) w step reply new lines does run lasts
    lasts-line w None step reply new lines does run lasts = lasts-answered w _ step reply new lines does lasts

    running-lines : (w : World) (lines : List (Option Line)) (steps : List Step) (replies : List Reply) (new : World) → Transcript w lines steps replies new → LastsFor (length lines) w → IsRunning w → IsRunning new
    running-lines w [] [] [] new same lasts run = subst IsRunning (sym same) run
    running-lines w [] [] (reply ∷ replies) new never lasts run = absurd never
    running-lines w [] (step ∷ steps) replies new never lasts run = absurd never
    running-lines w (line ∷ lines) [] replies new never lasts run = absurd never
    running-lines w (line ∷ lines) (step ∷ steps) [] new never lasts run = absurd never
    running-lines w (line ∷ lines) (step ∷ steps) (reply ∷ replies) new (mid, does, rest) lasts run =
        let all = lasts-behind w line lines lasts in
        running-lines mid lines steps replies new rest (lasts-line w line step reply mid (length lines) does run all) (running-line w line step reply mid does (left-from w (length lines) all) run)

    -- ---- lawful worlds

    apart-of : (x : Present) → IsSound x → all_apart x ≡ true
    apart-of x sound =
        let keys = own_keys.3 x sound.keys in
        list_all-from _ (undecided x) (λ t there. list_all-from (hold_apart x t) (others_undecided x.transactions.items (Some t.id)) (λ u there'. and_from _ _
        (list_all-at (files_apart x t) (others_undecided x.transactions.items (Some t.id)) (list_all-at (λ t. list_all (files_apart x t) (others_undecided x.transactions.items (Some t.id))) (undecided x) sound.files.apart t there) u there')
        (list_all-at (set_apart x t) (others_undecided x.transactions.items (Some t.id)) (list_all-at (λ t. list_all (set_apart x t) (others_undecided x.transactions.items (Some t.id))) (undecided x) keys t there) u there')))

    fixed-of : (w : World) → IsRunning w → (o : OpenedAfter) → IsIn o w.first_opens → is_fixed_last w o ≡ true
    fixed-of w run o there =
        let last = list_all-at (is_last_since w) w.first_opens run.last o there in
        elim (or_cases (not (is_in (holds_now (present w).files o.transaction).nodes o.file)) (is_last_version (present w).files (first_open_now w o))
        (list_all-at (is_open_last (present w).files) (present w).files.first_opens run.now.sound.files.first_last (first_open_now w o) (IsIn-map (first_open_now w) o w.first_opens there))) [
          | inl free ↦ or_left _ _ free
          | inr is ↦ elim (or_cases (not (is_last_version (present w).files (first_open_now w o))) (not (list_any (λ work. ends_version work o.file) (drop o.works w.works))) last) [
            | inl not' ↦ absurd (true≢false (sym is ∙ not-true _ not'))
            | inr none ↦ or_right _ _ none
          ]
        ]

    pub lawful-of : (w : World) → IsRunning w → IsLawful w
    lawful-of w run = record {
      works = (run.formed, run.works);
      own = All-by (λ (o : OwnChanges). changes_apply (committed w).tree o.changes ≡ true) w.table.own (list_all-at (λ (o : OwnChanges). changes_apply (committed w).tree o.changes) w.table.own run.now.sound.files.own_apply);
      apart = apart-of (present w) run.now.sound;
      fixed = All-by (λ (o : OpenedAfter). is_fixed_last w o ≡ true) w.first_opens (fixed-of w run);
      writers = All-by (λ (o : OpenFile). is_alone (present w) o ≡ true) w.table.opens (list_all-at (is_alone (present w)) w.table.opens run.now.sound.files.writers);
      limits = run.now.within;
      stands = λ on. record { applies = run.applies; comes_to = run.comes_to; agrees = run.now.agrees };
    }

    pub lawful_worlds_law : LawfulWorldsLaw
    lawful_worlds_law = record {
      begins = running-opened states own_groups spelling worlds agrees limits notes;
      commands = running-command;
      ticks = running-tick;
      records = λ w process command left run. (taken-command w process command left run).applies;
      later_records = λ w ms left run. (taken-tick w ms left run).applies;
      interrupted_commands = λ w process command left run. interrupted-by w (decide (present w) process command) run (taken-command w process command left run);
      interrupted_ticks = λ w ms left run. interrupted-by w (decide_tick (present w) ms) run (taken-tick w ms left run);
      crashes = running-crash;
      interrupted_restarts = running-interrupted_restart;
      restarts = running-found;
      worn_restarts = running-worn;
      lines = running-line;
      lasts = lasts-line;
      transcripts = running-lines;
      lawful = lawful-of;
    }
