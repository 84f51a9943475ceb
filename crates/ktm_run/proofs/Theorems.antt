-- From the lines that were answered to what a run comes to.
use Rattle.std.specs.Prelude.{IfSome, IsSomeAnd}
use Rattle.std.proofs.Common.{◌≡◌, ◌≢◌, ◌⊎◌, inl, inr, ℕ, ◌+◌, ◌*◌, ◌<◌, ◌≤◌, true, false, List, [], ◌∷◌, ◌++◌, length, take, Option, Some, None, refl, sym, ◌∙◌, ap, subst, arith, length-take}
use Rattle.std.proofs.lemmas.List.{append-nil}
use Rattle.std.proofs.KnownBytes.{Keeps-refl}
use Rattle.std.specs.Io.KnownBytes.{Appends, Consumes, Keeps}
use Rattle.ktm_base.specs.declared.limits.TheConstants.{MOST_SCRIPT_BYTES}
use Rattle.ktm_base.specs.declared.power.PowerCall.{PowerCall}
use Rattle.ktm_base.specs.declared.power.PowerCall.TheVariants.{Power}
use Rattle.ktm_base.specs.Count.{Rose}
use Rattle.ktm_base.specs.Disk.{DiskState, DiskStatus, HasLengths}
use Rattle.ktm_base.proofs.offered.Images.{seen_law}
use Rattle.ktm_kernel.specs.Stands.{KernelState, KernelAt, LeavesStates, LeftLaw}
use Rattle.ktm_run.specs.declared.status.Status.{Status}
use Rattle.ktm_run.specs.declared.status.Status.TheVariants.{Done, Usage, SourceFault, SinkFault, NoMemory, BadImage, DiskFault, ScriptTooLong, Worn}
use Rattle.ktm_kernel.specs.Opening.{OpeningCounts}
use Rattle.ktm_run.proofs.Lasting.{before_few, between_few, cut_few, front_few, meant_few}
use Rattle.ktm_run.specs.Lawful.{RunIsLawful, most_lines}
use Rattle.ktm_run.specs.Executed.{IsStopped, Position, ScriptLeaves, position}
use Rattle.ktm_log.specs.OnDisk.{OnDisk, on}
use Rattle.ktm_run.specs.Plan.{calls_unanswered}
use Rattle.ktm_run.specs.Progress.{Now, Counts, Went, Ran, Progress, Broke, Unanswered as Undone}
use Rattle.ktm_run.specs.Script.{Means, cut_lines, lines_from}
use Rattle.ktm_kernel.specs.declared.fault.OpenFault.{OpenFault}
use Rattle.ktm_kernel.specs.declared.fault.OpenFault.TheVariants as opening
use Rattle.ktm_run.specs.Early.{Outside, SaysWhy, EndsAs, FoundBad, FoundDown, FoundNoMemory, FoundWorn}
use Rattle.ktm_run.specs.Theorem.{HoldsStates, Moment, moment_of, RunCounts, LineCounts, Executed, Replied, EndedBetween, Unanswered, HalfWritten, EndedWithin, NotOpened, CutOpening, EndedEarly}
use Rattle.ktm_world.specs.declared.command.Line.TheVariants.{Restart}
use Rattle.ktm_world.specs.Durable.{Durable, is_worn}
use Rattle.ktm_world.specs.Logs.{is_up}
use Rattle.ktm_world.specs.World.{World, opened}

-- the counts of an opening are those of a run of no line
pub run_begun : (base : Durable) (old first : DiskStatus) → OpeningCounts base.units old first → RunCounts base.units old first 0 [] 0
run_begun base old first counts = record { rose = omega (arith, counts.later); plan_is = counts.plan ∙ sym (append-nil old.plan); few = omega (arith, counts.few) }

pub all_counts : (base : Durable) (old : DiskStatus) (first last : OnDisk KernelState) (n : ℕ) (plan : List PowerCall) (fell : ℕ) → RunCounts base.units old first.status 0 [] 0
    → Counts first last n plan fell → RunCounts base.units old last.status n plan fell
all_counts base old first last n plan fell opening counts = record {
  rose = omega (arith, opening.rose, counts.rose);
  plan_is = counts.plan_is ∙ ap (λ (l : List PowerCall). l ++ plan) (opening.plan_is ∙ append-nil old.plan);
  few = omega (arith, opening.few, counts.few);
}

-- what is read is one of the images that may be left
pub holds_of : (told : Option DiskState) (w : World) → IfSome told HasLengths → IsSomeAnd told (LeavesStates w) → IsSomeAnd told (HoldsStates w)
holds_of None w lengths leaves = absurd leaves
holds_of (Some s) w lengths leaves = record { seen = leaves s.seen (seen_law s lengths); left = leaves }

abbrev pub moment_at : Now → Moment
moment_at now = record { taken = now.taken; disk = now.scene.told; status = now.scene.status }

-- ---- a line at which a run ended

module _ (w : World) (at new : Now) (line : List ℕ) (lengths : IfSome new.scene.told HasLengths) where
  line_counts : (n : ℕ) (plan : List PowerCall) (fell : ℕ) → Counts at.scene new.scene n plan fell → LineCounts at.scene.status new.scene.status n plan fell
  line_counts n plan fell counts = record { rose = counts.rose; plan_is = counts.plan_is; few = counts.few }

  unanswered_counts : Counts at.scene new.scene calls_unanswered [] 0 ⊎ ((pick : ℕ) × Means line (Some (Restart pick)) × (is_up w.power ≡ false) × Counts at.scene new.scene (2 * w.base.units + 27) (Power pick ∷ []) 0)
      → LineCounts at.scene.status new.scene.status calls_unanswered [] 0
      ⊎ ((pick : ℕ) × Means line (Some (Restart pick)) × (is_up w.power ≡ false) × LineCounts at.scene.status new.scene.status (2 * w.base.units + 27) (Power pick ∷ []) 0)
  unanswered_counts (inl none) = inl (line_counts calls_unanswered [] 0 none)
  unanswered_counts (inr (pick, mean, off, some)) = inr (pick, mean, off, line_counts (2 * w.base.units + 27) (Power pick ∷ []) 0 some)

  pub unanswered_of : Appends at.taken new.taken [] → Undone w at.scene new.scene line → Unanswered w (moment_at at) (moment_at new) line
  unanswered_of wrote undone = record { wrote = wrote; holds = holds_of new.scene.told w lengths undone.leaves; counts = unanswered_counts undone.counts }

  broke_of : Broke w at new line → Unanswered w (moment_at at) (moment_at new) line ⊎ HalfWritten w (moment_at at) (moment_at new) line
  broke_of (inl (wrote, undone)) = inl (unanswered_of wrote undone)
  broke_of (inr half) =
      let did = half.did in inr (record {
        meant = half.meant;
        mean = half.mean;
        step = did.step;
        reply = half.reply;
        world = did.world;
        does = did.does;
        wrote = half.wrote;
        counts = line_counts _ _ _ did.counts;
        holds = holds_of new.scene.told did.world lengths half.leaves;
      })

-- ---- the run

module _ (base : Durable) (old new : Outside) (first : OnDisk KernelState) (machine : KernelState) (lengths : IfSome new.disk HasLengths) where
  abbrev begun : Now
  begun = record { scene = first; taken = old.taken }

  abbrev ended : Now
  ended = record { scene = on machine new.disk new.status; taken = new.taken }

  module _ (stands : KernelAt first.it first.told (opened base [])) (unworn : is_worn base ≡ false) (opening : RunCounts base.units old.status first.status 0 [] 0) (law : RunIsLawful base) (left : LeftLaw) where
    abbrev pub executed : (at : OnDisk KernelState) (lines : List (List ℕ)) → IfSome at.told HasLengths → length lines ≤ most_lines → Went (opened base []) first at lines → Executed base old.status at.status at.told lines
    executed at lines long many went = let few = meant_few lines went.meant went.mean many in record {
      meant = went.meant;
      steps = went.steps;
      replies = went.replies;
      world = went.world;
      mean = went.mean;
      transcript = went.run;
      lawful = law.lawful went.meant went.steps went.replies went.world few went.run;
      lawful_before = λ n mid run. law.lawful _ _ _ mid (omega (arith, length-take n went.meant, few)) run;
      one_outcome = law.one_outcome went.meant went.steps went.replies went.world few went.run;
      counts = all_counts base old.status first at _ _ _ opening went.counts;
      holds = holds_of at.told went.world long (left at.it at.told went.world went.stands);
    }

    abbrev replied : (at : Now) (lines : List (List ℕ)) → IfSome at.scene.told HasLengths → length lines ≤ most_lines → Ran (opened base []) begun at lines → Replied base (moment_of old) (moment_at at) lines
    replied at lines long many ran = record { executed = executed at.scene lines long many ran.went; wrote = ran.wrote }

    all_replied : (lines : List (List ℕ)) → length lines ≤ most_lines → Progress begun ended lines → Replied base (moment_of old) (moment_of new) lines
    all_replied lines many progress = replied ended lines lengths many (progress (opened base []) stands)

    -- the source, and all of the rest
    abbrev start : Position
    start = position old.left begun

    abbrev end : Position
    end = position new.left ended

    between : (script lines : List ℕ) → Consumes old.left new.left script → length (lines_from [] lines) ≤ most_lines → Progress begun ended (lines_from [] lines) → EndedBetween base old new script lines
    between script lines read many progress = record { was_read = read; unworn = unworn; replied = all_replied (lines_from [] lines) many progress }

    within : IsStopped start end → EndedWithin base old new
    within is =
        let stopped = is.stops (opened base []) stands in record {
          script = is.script;
          was_read = is.was_read;
          within = is.short;
          unworn = unworn;
          lines = is.lines;
          may = is.may;
          before = stopped.before;
          line = stopped.line;
          behind = stopped.behind;
          split = stopped.split;
          wants_reply = stopped.wants_reply;
          at = moment_at stopped.at;
          replied = replied stopped.at stopped.before stopped.lengths (before_few new.left is.script is.lines stopped.before stopped.behind stopped.line is.short is.may stopped.split) stopped.ran;
          broke = broke_of stopped.ran.went.world stopped.at ended stopped.line lengths stopped.broke;
        }

    pub run_ended : (result : Status) → ScriptLeaves result start end → EndedEarly result base old new
    run_ended Done is = record { script = is.script; was_read = is.was_read; at_end = is.at_end; within = is.short; unworn = unworn; replied = all_replied (cut_lines is.script) (cut_few is.script is.short) is.went }
    run_ended SourceFault is = (is.script, is.short, between is.script is.script is.was_read (between_few is.script is.short) is.went)
    run_ended ScriptTooLong is = (is.script, is.long, between is.script (take MOST_SCRIPT_BYTES is.script) is.was_read (front_few is.script) is.went)
    run_ended SinkFault is = inr (inl (within is))
    run_ended NoMemory is = inr (within is)
    run_ended Usage is = absurd is
    run_ended BadImage is = absurd is
    run_ended Worn is = absurd is
    run_ended DiskFault is = absurd is

no_longer : (left : Option (List ℕ)) (most : ℕ) → IsSomeAnd left (λ bytes. length bytes ≤ most) → IfSome left (λ bytes. most < length bytes) → ⊥
no_longer None most tells long = absurd tells
no_longer (Some bytes) most tells long = omega (arith, tells, long)

-- where neither the source nor the sink fails and the script is not too long
pub run_complete : (base : Durable) (mid old new : Outside) (Opened : Type 0) (source_before source_now sink_before sink_now : ℕ) (result : Status)
    → EndedEarly result base mid new → EndsAs result Opened old new
    → (result ≡ SourceFault → Rose source_before source_now) → (result ≡ SinkFault → Rose sink_before sink_now) → (result ≡ ScriptTooLong → IfSome old.left (λ bytes. MOST_SCRIPT_BYTES < length bytes))
    → ¬ Rose source_before source_now → ¬ Rose sink_before sink_now → IsSomeAnd old.left (λ bytes. length bytes ≤ MOST_SCRIPT_BYTES)
    → (result ≡ Done) ⊎ (result ≡ NoMemory) ⊎ ((result ≡ Worn) × (is_worn base ≡ true)) ⊎ ((result ≡ DiskFault) × FoundDown old new)
run_complete base mid old new Opened a b c d Done early ends source sink long reads writes short = inl refl
run_complete base mid old new Opened a b c d NoMemory early ends source sink long reads writes short = inr (inl refl)
run_complete base mid old new Opened a b c d Worn early ends source sink long reads writes short = inr (inr (inl (refl, early.0)))
run_complete base mid old new Opened a b c d DiskFault early ends source sink long reads writes short = inr (inr (inr (refl, ends)))
run_complete base mid old new Opened a b c d SourceFault early ends source sink long reads writes short = absurd (reads (source refl))
run_complete base mid old new Opened a b c d SinkFault early ends source sink long reads writes short = absurd (writes (sink refl))
run_complete base mid old new Opened a b c d ScriptTooLong early ends source sink long reads writes short = absurd (no_longer old.left MOST_SCRIPT_BYTES short (long refl))
run_complete base mid old new Opened a b c d Usage early ends source sink long reads writes short = absurd early
run_complete base mid old new Opened a b c d BadImage early ends source sink long reads writes short = absurd early

-- ---- how a script ends, once its machine was started

module _ (old new : Position) where
  pub script_ends : (result : Status) (Opened : Type 0) (before after : Outside) → Opened → ScriptLeaves result old new → EndsAs result Opened before after
  script_ends Done Opened before after opened is = opened
  script_ends SourceFault Opened before after opened is = opened
  script_ends ScriptTooLong Opened before after opened is = opened
  script_ends SinkFault Opened before after opened is = inr (inr (inr opened))
  script_ends NoMemory Opened before after opened is = inr opened
  script_ends Usage Opened before after opened is = absurd is
  script_ends BadImage Opened before after opened is = absurd is
  script_ends DiskFault Opened before after opened is = absurd is
  script_ends Worn Opened before after opened is = absurd is

  pub not_usage : (result : Status) → ScriptLeaves result old new → result ≡ Usage → ⊥
  not_usage result is same = subst (λ s. ScriptLeaves s old new) same is

  pub too_long : (result : Status) → ScriptLeaves result old new → result ≡ ScriptTooLong → IfSome old.left (λ bytes. MOST_SCRIPT_BYTES < length bytes)
  too_long result is same = (subst (λ s. ScriptLeaves s old new) same is).more

-- ---- a machine that was not started

pub said_nothing : (old new : Option (List ℕ)) → new ≡ old → Keeps old new
said_nothing old new same = subst (λ (o : Option (List ℕ)). Keeps old o) (sym same) (Keeps-refl old)

module _ (result : Status) (Opened : Type 0) (old new : Outside) where
  pub not_started_ends : (why : OpenFault) → SaysWhy result why old.taken new.taken → ((offset : ℕ) → why ≡ opening.BadImage offset → FoundBad offset old new)
      → (why ≡ opening.Worn → FoundWorn old new) → (why ≡ opening.Down → Keeps old.taken new.taken → FoundDown old new)
      → (why ≡ opening.NoMemory → Keeps old.taken new.taken → FoundNoMemory old new) → EndsAs result Opened old new
  not_started_ends (opening.BadImage offset) (inl (is, wrote)) bad worn down none = subst (λ s. EndsAs s Opened old new) (sym is) (offset, bad offset refl, wrote)
  not_started_ends (opening.BadImage offset) (inr (is, wrote)) bad worn down none = subst (λ s. EndsAs s Opened old new) (sym is) (inr (inl (offset, bad offset refl, wrote)))
  not_started_ends opening.Worn (inl (is, wrote)) bad worn down none = subst (λ s. EndsAs s Opened old new) (sym is) (worn refl, wrote)
  not_started_ends opening.Worn (inr (is, wrote)) bad worn down none = subst (λ s. EndsAs s Opened old new) (sym is) (inr (inr (inl (worn refl, wrote))))
  not_started_ends opening.Down (is, same) bad worn down none = subst (λ s. EndsAs s Opened old new) (sym is) (down refl (said_nothing _ _ same))
  not_started_ends opening.NoMemory (is, same) bad worn down none = subst (λ s. EndsAs s Opened old new) (sym is) (inl (none refl (said_nothing _ _ same)))

module _ (result : Status) (base : Durable) (old new : Outside) where
  pub not_started_early : (why : OpenFault) → SaysWhy result why old.taken new.taken → ((offset : ℕ) → why ≡ opening.BadImage offset → ⊥)
      → (why ≡ opening.Worn → is_worn base ≡ true) → (why ≡ opening.Down → CutOpening base old new)
      → (why ≡ opening.NoMemory → Keeps old.taken new.taken → NotOpened base old new) → EndedEarly result base old new
  not_started_early (opening.BadImage offset) says good worn down none = absurd (good offset refl)
  not_started_early opening.Worn (inl (is, wrote)) good worn down none = subst (λ s. EndedEarly s base old new) (sym is) (worn refl, wrote)
  not_started_early opening.Worn (inr (is, wrote)) good worn down none = subst (λ s. EndedEarly s base old new) (sym is) (inr (inr (worn refl, wrote)))
  not_started_early opening.Down (is, same) good worn down none = subst (λ s. EndedEarly s base old new) (sym is) (down refl)
  not_started_early opening.NoMemory (is, same) good worn down none = subst (λ s. EndedEarly s base old new) (sym is) (inl (none refl (said_nothing _ _ same)))

-- a run that was not started ends neither for its use nor for its source nor for the length of its script
pub not_started_is : (result : Status) (why : OpenFault) (old new : Option (List ℕ)) → SaysWhy result why old new → (result ≢ Usage) × (result ≢ SourceFault) × (result ≢ ScriptTooLong)
not_started_is result (opening.BadImage offset) old new (inl (is, wrote)) = (λ same. cc, λ same. cc, λ same. cc)
not_started_is result (opening.BadImage offset) old new (inr (is, wrote)) = (λ same. cc, λ same. cc, λ same. cc)
not_started_is result opening.Worn old new (inl (is, wrote)) = (λ same. cc, λ same. cc, λ same. cc)
not_started_is result opening.Worn old new (inr (is, wrote)) = (λ same. cc, λ same. cc, λ same. cc)
not_started_is result opening.Down old new (is, silent) = (λ same. cc, λ same. cc, λ same. cc)
not_started_is result opening.NoMemory old new (is, silent) = (λ same. cc, λ same. cc, λ same. cc)
