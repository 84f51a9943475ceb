-- A machine that is down, whose disk has the power back, and is started again.
use Rattle.std.proofs.Common.{◌≡◌, ℕ, ◌+◌, ◌*◌, ◌≤◌, ◌||◌, not, true, false, List, [], ◌∷◌, Option, None, Some, Result, Ok, Err, refl, sym, ◌∙◌, ap, subst, arith, inl, inr}
use Rattle.std.proofs.lemmas.Bool.{both_ways}
use Rattle.std.specs.Prelude.{Contains, IfOk, IfSome, IsSomeAnd, OnErr}
use Rattle.ktm_base.specs.declared.fault.NoMemory.{NoMemory}
use Rattle.ktm_base.specs.declared.refusal.Refusal.TheVariants.{ImageWorn, MachineDown}
use Rattle.ktm_base.specs.Disk.{DeviceCalls, DiskState, DiskStatus}
use Rattle.ktm_base.proofs.offered.Images.{safe_law, power_law as images_power_law}
use Rattle.ktm_base.proofs.offered.ToldSteps.{IsSomeAnd-map, IsSomeAnd-step}
use Rattle.ktm_core.specs.Bad.{IsBadAt}
use Rattle.ktm_core.specs.Starting.{started as what_starts}
use Rattle.ktm_journal.specs.Image.{IsHeaded}
use Rattle.ktm_core.specs.Logs.{IsSafeFor, StandsFor}
use Rattle.ktm_world.specs.declared.command.Line.TheVariants.{Restart}
use Rattle.ktm_world.specs.declared.reply.Reply.{Reply}
use Rattle.ktm_world.specs.declared.reply.Reply.TheVariants.{BadImage, Refused, Restarted}
use Rattle.ktm_world.specs.Durable.{Durable, is_worn, stand}
use Rattle.ktm_world.specs.World.{World, own_group, opened, possible_logs, interrupted_restart, found_worn, is_worn_log, with_own}
use Rattle.ktm_laws.specs.Running.{is_good_log}
use Rattle.ktm_laws.proofs.offered.PossibleLogs.{contains-passes}
use Rattle.ktm_standing.specs.Laws.{StandingLaw}
use Rattle.ktm_store.specs.Pool.{Shows}
use Rattle.ktm_world.specs.Logs.{Group, is_up}
use Rattle.ktm_world.specs.Transcript.{Step, interrupted, found, worn, RestartDoes, StartDoes}
use Rattle.ktm_world.proofs.offered.Durables.{stand-append, stand-units}
use Rattle.ktm_log.specs.OnDisk.{on}
use Rattle.ktm_kernel.specs.Answers.{IsAsBefore, IsRestartAnswered, StartAgainLeaves}
use Rattle.ktm_kernel.specs.Buffers.{BuffersState}
use Rattle.ktm_kernel.specs.Restarts.{IsStarted, IsUnwritten, IsWorn, LeavesOwnOrNot, MayOpen, NoStartLeaves, Started, answer_of, restart_went_down}
use Rattle.ktm_kernel.specs.declared.restart.Restarted.{Restarted as RestartedMachine}
use Rattle.ktm_kernel.specs.declared.restart.RestartFault.{RestartFault}
use Rattle.ktm_kernel.specs.declared.restart.RestartFault.TheVariants.{Down, Bad, Worn}
use Rattle.ktm_kernel.specs.Stands.{KernelState, HasFallen, MachineFoundAt, StandsBy, LeavesStates, DoesLine, FoundAt, PowerLaw, FoundLaw, machine_on}
use Rattle.ktm_kernel.proofs.Possible.{first_is, Contains-filter, Contains-map, in_first, in_second}
use Rattle.ktm_kernel.proofs.Ready.{off_ready}

pub power_law : StandingLaw → PowerLaw
power_law law k old new w off (row, shows, at) = (
  λ restored. (
    row,
    shows,
    record {
      off = off;
      down = fallen.off;
      recorded = fallen.recorded;
      standing = fallen.standing;
      disk = IsSomeAnd-step old new (LeavesStates w) _ fallen.disk restored (λ a b leaves back. (back.safe, leaves b.seen back.left));
    },
  ),
  λ failed. (
    row,
    shows,
    record {
      off = fallen.off;
      recorded = fallen.recorded;
      standing = law.interrupted_restarts w fallen.standing;
      disk = IsSomeAnd-step old new (LeavesStates w) (LeavesStates (interrupted_restart w)) fallen.disk failed (λ a b leaves again image may.
          let (log, possible, stands) = leaves image ((images_power_law a b image may).1 again) in
          (log, in_first (possible_logs w) _ log possible, stands));
    },
  ),
)
  where
    fallen : HasFallen (machine_on k row) old w
    fallen = subst (λ b. StandsBy b (machine_on k row) old w) off at

-- ---- one of the possible logs was found

module _ (law : StandingLaw) (k : KernelState) (told now : Option DiskState) (w : World) (pick : ℕ) (row : List ℕ) (shows : Shows k.pool row) (at : MachineFoundAt (machine_on k row) told w) (log : List Group) (possible : Contains (possible_logs w) log) where
  -- the machine is down, so a restart starts it
  off_does : (step : Step) (reply : Reply) (new : World) → StartDoes w step reply new → RestartDoes (is_up w.power) w step reply new
  off_does step reply new does = subst (λ b. RestartDoes b w step reply new) (sym at.off) does

  may_open : MayOpen w.base log
  may_open = record { good = at.standing.running.base; small = at.standing.small; applies = contains-passes (is_good_log w.base) (possible_logs w) log at.standing.running.possible possible }

  pub started : (new : KernelState) (events in_doubt : ℕ) → Started w.base log new events in_doubt now → DoesLine w (Some (Restart pick)) (Restarted events in_doubt) new now
  started new events doubts starts = (
    found log,
    opened w.base log,
    off_does (found log) (Restarted events doubts) (opened w.base log)
        (record { possible = possible; worn = starts.unworn }, ap (λ n. Restarted n doubts) starts.events_are ∙ ap (λ n. Restarted (stand w.base log).events n) starts.in_doubt_are, refl),
    starts.stands,
  )

  -- what a start makes of the state is what the log comes to with its group
  own_then : what_starts (stand w.base log) ≡ stand w.base (with_own w log)
  own_then = sym (stand-append w.base log (own_group (stand w.base log) ∷ []))

  pub cut : IsSomeAnd now (LeavesOwnOrNot (stand w.base log)) → DoesLine w (Some (Restart pick)) (Refused MachineDown) k now
  cut leaves = (
    interrupted,
    interrupted_restart w,
    off_does interrupted (Refused MachineDown) (interrupted_restart w) (refl, refl),
    (
      row,
      shows,
      record {
        off = at.down;
        recorded = at.recorded;
        standing = law.interrupted_restarts w at.standing;
        disk = IsSomeAnd-map now (LeavesOwnOrNot (stand w.base log)) (LeavesStates (interrupted_restart w)) leaves (λ s either image may. elim (either image may) [
          | inl without ↦ (log, in_first (possible_logs w) _ log possible, without)
          | inr with_it ↦ (
            with_own w log,
            in_second (possible_logs w) _ _ (Contains-map (with_own w) _ log (Contains-filter (λ l. not (is_worn_log w l)) (possible_logs w) log possible (ap not with_it.0))),
            subst (λ (d : Durable). StandsFor d image) own_then with_it.1,
          )
        ]);
      },
    ),
  )

  pub stays : is_worn_log w log ≡ true → IsSomeAnd now (IsSafeFor (stand w.base log)) → DoesLine w (Some (Restart pick)) (Refused ImageWorn) k now
  stays is holds = (
    worn log,
    found_worn w log,
    off_does (worn log) (Refused ImageWorn) (found_worn w log) (record { possible = possible; worn = is }, refl, refl),
    (
      row,
      shows,
      record {
        off = at.down;
        recorded = at.recorded;
        standing = law.worn_restarts w log (record { possible = possible; worn = is }) at.standing;
        disk = IsSomeAnd-map now (IsSafeFor (stand w.base log)) (LeavesStates (found_worn w log)) holds
            (λ s held image may. (log, first_is log [], subst (λ (l : List ℕ). StandsFor (stand w.base log) l) (sym ((safe_law s image held.0).0 may)) held.1));
      },
    ),
  )

-- ---- the answers of a restart, for the state that the disk stands for

-- bytes stand for one state at most
abbrev pub StatesLaw : Type 0
StatesLaw = (a b : Durable) (bytes : List ℕ) → StandsFor a bytes → StandsFor b bytes → a ≡ b

-- bytes that stand for a state are bad nowhere
abbrev pub BadImagesLaw : Type 0
BadImagesLaw = (state : Durable) (bytes : List ℕ) (offset : ℕ) → StandsFor state bytes → IsBadAt bytes offset → ⊥

pub started_line : StandingLaw → (k new : KernelState) (events in_doubt : ℕ) (told now : Option DiskState)
    → ((base : Durable) (log : List Group) → MayOpen base log → IsSomeAnd told (IsSafeFor (stand base log)) → Started base log new events in_doubt now)
    → (pick : ℕ) (w : World) → FoundAt k told w → DoesLine w (Some (Restart pick)) (Restarted events in_doubt) new now
started_line law k new events in_doubt None now starts pick w (row, shows, at) = absurd at.disk
started_line law k new events in_doubt (Some s) now starts pick w (row, shows, at) =
    let (safe, held) = at.disk in
    let (log, possible, stands) = held in
    started law k (Some s) now w pick row shows at log possible new events in_doubt (starts w.base log (may_open law k (Some s) now w pick row shows at log possible) (safe, stands))

pub interrupted_line : StandingLaw → (k : KernelState) (told now : Option DiskState) → ((state : Durable) → IsSomeAnd told (IsSafeFor state) → IsSomeAnd now (LeavesOwnOrNot state))
    → (pick : ℕ) (w : World) → FoundAt k told w → DoesLine w (Some (Restart pick)) (Refused MachineDown) k now
interrupted_line law k None now leaves pick w (row, shows, at) = absurd at.disk
interrupted_line law k (Some s) now leaves pick w (row, shows, at) =
    let (safe, held) = at.disk in
    let (log, possible, stands) = held in
    cut law k (Some s) now w pick row shows at log possible (leaves (stand w.base log) (safe, stands))

pub worn_line : StandingLaw → StatesLaw → (k : KernelState) (told now : Option DiskState) → now ≡ told → IfSome told (IsWorn true)
    → (pick : ℕ) (w : World) → FoundAt k told w → DoesLine w (Some (Restart pick)) (Refused ImageWorn) k now
worn_line law states k None now same is pick w (row, shows, at) = absurd at.disk
worn_line law states k (Some s) now same is pick w (row, shows, at) =
    let (safe, held) = at.disk in
    let (log, possible, stands) = held in
    let (state, read, may, is_so) = is in
    stays law k (Some s) now w pick row shows at log possible (ap is_worn (states (stand w.base log) state s.seen stands read) ∙ is_so)
    (subst (λ d. IsSomeAnd d (IsSafeFor (stand w.base log))) (sym same) (safe, stands))

-- what stands for the state of one of the logs is not bad
pub found_is_good : BadImagesLaw → (k : KernelState) (told : Option DiskState) (offset : ℕ) → IfSome told (λ s. IsBadAt s.seen offset) → (w : World) → FoundAt k told w → ⊥
found_is_good law k None offset bad w (row, shows, at) = absurd at.disk
found_is_good law k (Some s) offset bad w (row, shows, at) =
    let (safe, held) = at.disk in
    let (log, possible, stands) = held in
    law (stand w.base log) s.seen offset stands bad

-- it takes as many device calls as the units of the run's image ask for
pub found_few : (k : KernelState) (told : Option DiskState) (a b : ℕ) → ((units image selector : ℕ) → IsSomeAnd told (λ s. IsHeaded units image selector s.seen) → b ≤ a + (2 * units + 27))
    → (w : World) → FoundAt k told w → b ≤ a + (2 * w.base.units + 27)
found_few k None a b few w (row, shows, at) = absurd at.disk
found_few k (Some s) a b few w (row, shows, at) =
    let (safe, held) = at.disk in
    let (log, possible, stands) = held in
    let most = few stands.places.units stands.places.image stands.paged.is.selector stands.paged.is.formatted.headed in
    let units = sym (ap (λ (d : Durable). d.units) stands.is) ∙ stand-units w.base log in
    omega (arith, most, units)

-- what is safe is what a loss of power leaves
pub found_law : FoundLaw
found_law k None w (row, shows, at) = absurd at.disk
found_law k (Some s) w (row, shows, at) = λ image may.
    let (safe, held) = at.disk in
    let (log, possible, stands) = held in
    (log, possible, subst (λ (l : List ℕ). StandsFor (stand w.base log) l) (sym ((safe_law s image safe).0 may)) stands)

-- ---- what a restart of a machine that is down leaves

-- device calls of which none was refused leave a disk up that was up
pub calls_up : (most : ℕ) (s t : DiskStatus) → s.is_down ≡ false → DeviceCalls most s t false → DeviceCalls most s t t.is_down
calls_up most s t up calls = subst (DeviceCalls most s t) (sym (calls.down ∙ ap (λ down. down || false) up)) calls

module _ (law : StandingLaw) (k : KernelState) (o n : Option DiskState) (s t : DiskStatus) (b d : BuffersState) where
  pub restart_answered : (r : RestartedMachine) → IsStarted (on b o s) (on d n t) r → IsRestartAnswered (on k o s) (on r.kernel n t) (Restarted r.events r.in_doubt)
  restart_answered r is = record {
    does = started_line law k r.kernel r.events r.in_doubt o n is.starts;
    says = tt;
    cause = λ e. absurd (cc);
    up = is.up;
    counts = is.counts;
    ready = is.ready;
    unwritten = tt;
  }

  module _ (states : StatesLaw) (bad : BadImagesLaw) (off : k.now.machine.is_up ≡ false) (up : s.is_down ≡ false) (pending : s.pending ≡ 0) where
    as_before : (most : ℕ) → IsUnwritten (on b o s) (on d n t) → DeviceCalls most s t false → IsAsBefore (on k o s) (on k n t)
    as_before most is calls = record { machine = refl; told = is.told; up = calls.down ∙ ap (λ down. down || false) up; pending = is.pending ∙ pending }

    -- one that did not start, by its fault
    pub unstarted_answered : (most : ℕ) (fault : RestartFault) → NoStartLeaves (on b o s) (on d n t) fault → (let r : Result ℕ RestartFault = Err fault in DeviceCalls most s t (restart_went_down r))
        → (r : Result Reply NoMemory) → IfOk r (λ reply. answer_of fault ≡ Some reply) → OnErr r (answer_of fault ≡ None) → StartAgainLeaves (on k o s) (on k n t) r
    unstarted_answered most Down is calls (Ok reply) says none = let same : Refused MachineDown ≡ reply = cc in subst (IsRestartAnswered (on k o s) (on k n t)) same (record {
      does = interrupted_line law k o n is.leaves;
      says = tt;
      cause = λ e. elim (calls.cause refl) [ inl was ↦ absurd (both_ways s.is_down up was) | inr rose ↦ rose ];
      up = off;
      counts = refl;
      ready = off_ready k n t off;
      unwritten = tt;
    })
    unstarted_answered most (Bad offset) is calls (Ok reply) says none = let same : BadImage offset ≡ reply = cc in subst (IsRestartAnswered (on k o s) (on k n t)) same (record {
      does = λ pick w at. absurd (found_is_good bad k o offset is.bad w at);
      says = tt;
      cause = λ e. absurd (cc);
      up = off;
      counts = refl;
      ready = off_ready k n t off;
      unwritten = as_before most is.unwritten calls;
    })
    unstarted_answered most Worn is calls (Ok reply) says none = let same : Refused ImageWorn ≡ reply = cc in subst (IsRestartAnswered (on k o s) (on k n t)) same (record {
      does = worn_line law states k o n is.unwritten.told is.found;
      says = tt;
      cause = λ e. absurd (cc);
      up = off;
      counts = refl;
      ready = off_ready k n t off;
      unwritten = as_before most is.unwritten calls;
    })
    unstarted_answered most RestartFault.NoMemory is calls (Ok reply) says none = absurd (cc)
    unstarted_answered most Down is calls (Err fault) says none = absurd (cc)
    unstarted_answered most (Bad offset) is calls (Err fault) says none = absurd (cc)
    unstarted_answered most Worn is calls (Err fault) says none = absurd (cc)
    unstarted_answered most RestartFault.NoMemory is calls (Err fault) says none = as_before most is calls
