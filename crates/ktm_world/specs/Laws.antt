-- Laws of the model.
use Rattle.std.specs.Prelude.{◌≡◌, ◌↔◌, ℕ, ◌≤◌, Bool, true, false, List, [], ◌∷◌, length, Option, Some, All, Contains, if◌then◌else◌}
use Rattle.ktm_base.specs.declared.id.Id.{Id}
use Rattle.ktm_base.specs.declared.id.Label.{Label}
use Rattle.ktm_base.specs.declared.id.Pid.{Pid}
use Rattle.ktm_base.specs.declared.refusal.Refusal.{Refusal}
use Rattle.ktm_base.specs.Names.{IsName, IsPath, IsPattern}
use Rattle.ktm_world.specs.declared.command.Command.{Command}
use Rattle.ktm_world.specs.declared.command.Line.{Line}
use Rattle.ktm_world.specs.declared.command.Line.TheVariants.{Restart}
use Rattle.ktm_world.specs.Transcript.{Step, answered, found, worn, Transcript}
use Rattle.ktm_world.specs.Logs.{Group, is_up}
use Rattle.ktm_world.specs.Decide.{decide, refusal_of, of_files, opening}
use Rattle.ktm_world.specs.Durable.{Durable}
use Rattle.ktm_world.specs.FileOutcome.{FileOutcome, files_after, lacks_quota, lacks_disk}
use Rattle.ktm_world.specs.Outcome.{Outcome, apply}
use Rattle.ktm_world.specs.Paths.{is_name, path_of, pattern_of}
use Rattle.ktm_world.specs.Present.{Present}
use Rattle.ktm_world.specs.Scripts.{answer, answers}
use Rattle.ktm_world.specs.Uses.{file_room, is_over_quota, is_over_disk}
use Rattle.ktm_world.specs.World.{World, OpenedAfter, present, extend, after, decide_tick, is_worn_log, opened, possible_logs, crashed}

-- each first open was made after works that the world has
pub record FirstOpensLieWithin (w : World) : Type 0 where
  pub works : All (λ (o : OpenedAfter). o.works ≤ length w.works) w.first_opens

-- appending to the history and recomputing is the same as changing what was computed, for every outcome, and so for every command and
-- for the passing of time
abbrev pub StepLaw : Type 0
StepLaw = ((w : World) (o : Outcome) → FirstOpensLieWithin w → present (extend w o) ≡ apply (present w) o)
    × ((w : World) (process : Pid) (command : Command) → FirstOpensLieWithin w → present (after w process command) ≡ apply (present w) (decide (present w) process command))
    × ((w : World) (ms : ℕ) → FirstOpensLieWithin w → present (extend w (decide_tick (present w) ms)) ≡ apply (present w) (decide_tick (present w) ms))

-- the first opens lie within the works of every world of a run: of one that a restart opens, and after every outcome
abbrev pub FirstOpensLaw : Type 0
FirstOpensLaw = ((base : Durable) (log : List Group) → FirstOpensLieWithin (opened base log))
    × ((w : World) (o : Outcome) → FirstOpensLieWithin w → FirstOpensLieWithin (extend w o))

-- a command that is refused leaves the world as it was, and so does the passing of time on a machine that is down
abbrev pub RefusalLaw : Type 0
RefusalLaw = ((w : World) (process : Pid) (command : Command) (refusal : Refusal) → refusal_of (present w) process command ≡ Some refusal → after w process command ≡ w)
    × ((w : World) (ms : ℕ) → is_up w.power ≡ false → extend w (decide_tick (present w) ms) ≡ w)

-- what a call on files makes of the files is what the machine has then, and it lacks room exactly where a limit would be passed then
abbrev pub FilesLaw : Type 0
FilesLaw = ((x : Present) (who : Option Id) (o : FileOutcome) → (apply x (of_files x who o)).files ≡ files_after x.files who o)
    × ((x : Present) (process : Pid) (label : Label) (who : Option Id) (o : FileOutcome) → is_over_quota x ≡ false
    → lacks_quota x.files (file_room x) who o ≡ is_over_quota (apply x (opening x process label who o)))
    × ((x : Present) (who : Option Id) (o : FileOutcome) → is_over_disk x ≡ false → lacks_disk x.files (file_room x) who o ≡ is_over_disk (apply x (of_files x who o)))

-- a text of any bytes is read as a name, a path or a pattern exactly where it is one, and as the one that it is
abbrev pub PathLaw : Type 0
PathLaw = ((name : List ℕ) → (is_name name ≡ true) ↔ IsName name)
    × ((text : List ℕ) (names : List (List ℕ)) → (path_of text ≡ Some names) ↔ IsPath names text)
    × ((text : List ℕ) (directory : List (List ℕ)) (last : List ℕ) → (pattern_of text ≡ Some (record { directory = directory; last = last })) ↔ IsPattern directory last text)

-- the step by which a line comes to its answer: a restart of a machine that is down finds all that was recorded
abbrev pub step_of : World → Option Line → Step
step_of w (Some (Restart pick)) = if is_up w.power then answered else (if is_worn_log w w.log then worn w.log else found w.log)
step_of w _ = answered

-- the steps by which the lines of a script come to their answers
abbrev pub steps_of : World → List (Option Line) → List Step
steps_of w [] = []
steps_of w (line ∷ lines) = step_of w line ∷ steps_of (answer w line).world lines

-- where the machine is down, all that was recorded may be found
abbrev pub MayFindAll : Bool → World → Type 0
MayFindAll true w = Unit {0}
MayFindAll false w = Contains (possible_logs w) w.log

-- at each restart of a machine that is down all that was recorded may be found
abbrev pub RestartsMayFindAll : World → List (Option Line) → Type 0
RestartsMayFindAll w [] = Unit {0}
RestartsMayFindAll w (Some (Restart pick) ∷ lines) = MayFindAll (is_up w.power) w × RestartsMayFindAll (answer w (Some (Restart pick))).world lines
RestartsMayFindAll w (line ∷ lines) = RestartsMayFindAll (answer w line).world lines

-- the answers to a script are a transcript, where each of its restarts may find all that was recorded; after a crash of a machine that
-- is up it may, where no more groups are kept than there are
abbrev pub TranscriptLaw : Type 0
TranscriptLaw = ((w : World) (lines : List (Option Line)) → RestartsMayFindAll w lines → (new : World) × Transcript w lines (steps_of w lines) (answers w lines) new)
    × ((w : World) → is_up w.power ≡ true → w.kept ≤ length w.log → Contains (possible_logs (crashed w)) (crashed w).log)
