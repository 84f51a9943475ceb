-- What a script is answered, as a transcript.
use Rattle.std.specs.Prelude.{Contains}
use Rattle.std.proofs.Common.{◌≡◌, ℕ, ◌+◌, ◌-◌, ◌≤◌, Bool, true, false, cond, List, [], ◌∷◌, length, get_or, Option, None, Some, refl, ◌∙◌, ap, subst, arith, length-drop}
use Rattle.std.proofs.lemmas.List.{get_or-drop, get_or-map, length-map}
use Rattle.ktm_base.specs.declared.refusal.Refusal.TheVariants.{MachineDown, MachineUp, ImageWorn}
use Rattle.ktm_world.specs.declared.command.Line.{Line}
use Rattle.ktm_world.specs.declared.command.Line.TheVariants.{Tick, Cut, Crash, Restart, Process}
use Rattle.ktm_world.specs.declared.reply.Reply.TheVariants.{Refused, Done, Restarted}
use Rattle.ktm_world.specs.Transcript.{answered, found, worn, CrashDoes, StartDoes, RestartDoes, Transcript}
use Rattle.ktm_world.specs.Logs.{Group, Power, up, down, is_up, possible_by, prefixes, prefixes_from}
use Rattle.ktm_world.specs.Scripts.{says, restarts, answer, answers}
use Rattle.ktm_world.specs.World.{World, crashed, opened, possible_logs, is_worn_log, found_worn, in_doubt}
use Rattle.ktm_world.specs.Durable.{stand}
use Rattle.ktm_world.specs.Laws.{MayFindAll, RestartsMayFindAll, TranscriptLaw, steps_of}

-- ---- the whole log is among the possible ones

length-prefixes : (log : List Group) → length (prefixes log) ≡ length log + 1
length-prefixes [] = refl
length-prefixes (group ∷ log) = let more = length-map (prefixes log) (λ (l : List Group). group ∷ l) in let rest = length-prefixes log in omega arith

last_prefix : (log d : List Group) → get_or (prefixes log) (length log) d ≡ log
last_prefix [] d = refl
last_prefix (group ∷ log) d =
    let long = length-prefixes log in
    get_or-map (λ (l : List Group). group ∷ l) (prefixes log) (length log) [] d (omega arith) ∙ ap (λ (l : List Group). group ∷ l) (last_prefix log [])

whole_log : (kept : ℕ) (log : List Group) → kept ≤ length log → Contains (prefixes_from kept log) log
whole_log kept log few =
    let long = length-prefixes log in
    let left = length-drop kept (prefixes log) in (
      length log - kept,
      omega arith,
      get_or-drop kept (prefixes log) (length log - kept) log ∙ subst (λ n. get_or (prefixes log) n log ≡ log) (omega arith) (last_prefix log log),
    )

whole_log_when_up : (power : Power) (kept : ℕ) (log : List Group) → is_up power ≡ true → kept ≤ length log → Contains (possible_by power kept log) log
whole_log_when_up up kept log on few = whole_log kept log few
whole_log_when_up (down may) kept log on few = cc

-- ---- transcripts

crash_does : (on : Bool) (w : World) → let a = cond on (says Done (crashed w)) (says (Refused MachineDown) w) in CrashDoes on w answered a.reply a.world
crash_does true w = (refl, refl)
crash_does false w = (refl, refl)

start_does : (b : Bool) (w : World) → is_worn_log w w.log ≡ b → Contains (possible_logs w) w.log
    → let s = stand w.base w.log in let a = cond b (says (Refused ImageWorn) (found_worn w w.log)) (says (Restarted s.events (length (in_doubt s))) (opened w.base w.log)) in
    StartDoes w (cond b (worn w.log) (found w.log)) a.reply a.world
start_does true w is possible = (record { possible = possible; worn = is }, refl, refl)
start_does false w is possible = (record { possible = possible; worn = is }, refl, refl)

restart_does : (on : Bool) (w : World) → MayFindAll on w
    → let a = cond on (says (Refused MachineUp) w) (restarts w) in RestartDoes on w (cond on answered (cond (is_worn_log w w.log) (worn w.log) (found w.log))) a.reply a.world
restart_does true w may = (refl, refl)
restart_does false w may = start_does (is_worn_log w w.log) w refl may

transcript_of : (w : World) (lines : List (Option Line)) → RestartsMayFindAll w lines → (new : World) × Transcript w lines (steps_of w lines) (answers w lines) new
transcript_of w [] may = (w, refl)
transcript_of w (None ∷ lines) may = let more = transcript_of (answer w None).world lines may in (more.0, ((answer w None).world, (refl, refl), more.1))
transcript_of w (Some (Process process command) ∷ lines) may =
    let line = Some (Process process command) in let more = transcript_of (answer w line).world lines may in (more.0, ((answer w line).world, (refl, refl), more.1))
transcript_of w (Some (Tick ms) ∷ lines) may =
    let line = Some (Tick ms) in let more = transcript_of (answer w line).world lines may in (more.0, ((answer w line).world, (refl, refl), more.1))
transcript_of w (Some (Cut calls) ∷ lines) may =
    let line = Some (Cut calls) in let more = transcript_of (answer w line).world lines may in (more.0, ((answer w line).world, (refl, refl), more.1))
transcript_of w (Some Crash ∷ lines) may =
    let line = Some Crash in let more = transcript_of (answer w line).world lines may in (more.0, ((answer w line).world, crash_does (is_up w.power) w, more.1))
transcript_of w (Some (Restart pick) ∷ lines) (may, rest) =
    let line = Some (Restart pick) in let more = transcript_of (answer w line).world lines rest in (more.0, ((answer w line).world, restart_does (is_up w.power) w may, more.1))

pub transcript_law : TranscriptLaw
transcript_law = (transcript_of, λ w on few. whole_log_when_up w.power w.kept w.log on few)
