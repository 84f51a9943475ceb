-- What a call leaves, by what was asked for it.
use Rattle.std.proofs.Common.{◌≡◌, ◌≢◌, ◌⊎◌, ◌||◌, ◌≤◌, ℕ, Bool, List, length, true, false, Option, Some, None, Result, Ok, Err, refl, sym, ◌∙◌, ap, subst, inl, inr, arith}
use Rattle.std.specs.Prelude.{OnErr}
use Rattle.std.proofs.lemmas.Bool.{both_ways}
use Rattle.std.proofs.lemmas.Option.{same_Some}
use Rattle.ktm_base.specs.declared.fault.NoMemory.{NoMemory}
use Rattle.ktm_base.specs.declared.id.Pid.{Pid}
use Rattle.ktm_base.specs.declared.refusal.Refusal.{Refusal}
use Rattle.ktm_base.specs.declared.refusal.Refusal.TheVariants.{MachineDown}
use Rattle.ktm_base.specs.Disk.{DiskState, DiskStatus, OnlyReads}
use Rattle.ktm_alike.specs.Alike.{mapped_present}
use Rattle.ktm_content.specs.Places.{byte_at}
use Rattle.ktm_core.specs.Asked.{Asked}
use Rattle.ktm_core.specs.Asked.TheVariants.{Call, Tick as TickAsked}
use Rattle.ktm_core.specs.Core.{AreSoundFiles}
use Rattle.ktm_base.specs.declared.id.Label.{Label}
use Rattle.ktm_core.specs.declared.reading.ReadFault.{ReadFault}
use Rattle.ktm_core.specs.declared.reading.ReadFault.TheVariants.{Down, NoMemory as OutOfMemory}
use Rattle.ktm_core.specs.Done.{fallen}
use Rattle.ktm_core.specs.Route.{IsOfPlaces, NeedsNoBytes, decided}
use Rattle.ktm_laws.specs.Running.{HasEventsLeft}
use Rattle.ktm_log.specs.OnDisk.{OnDisk, on}
use Rattle.ktm_standing.proofs.offered.Applied.{apply-reply}
use Rattle.ktm_standing.proofs.offered.Decided.{decided_law}
use Rattle.ktm_store.specs.Store.{PoolState}
use Rattle.ktm_units.specs.Units.{IsOfNoBytes, IsSameOutcome, UnitsLaw}
use Rattle.ktm_world.specs.declared.command.Command.{Command}
use Rattle.ktm_world.specs.declared.command.Command.TheVariants.{ReadFile, SetEndOfFile, WriteFile, WriteUnits}
use Rattle.ktm_world.specs.declared.command.Line.TheVariants.{Process, Tick}
use Rattle.ktm_world.specs.World.{decide_tick}
use Rattle.ktm_world.specs.declared.reply.Reply.{Reply}
use Rattle.ktm_world.specs.declared.reply.Reply.TheVariants.{Refused}
use Rattle.ktm_world.specs.Decide.{decide}
use Rattle.ktm_world.specs.Outcome.{Outcome, only_reply}
use Rattle.ktm_world.specs.Present.{Present}
use Rattle.ktm_world.specs.Values.{IsCommand, IsGiven}
use Rattle.ktm_kernel.specs.Answers.{CallLeaves, IsAsItWas, IsLineAnswered, line_has_bytes, most_reads, no_byte, reply_but_bytes}
use Rattle.ktm_kernel.specs.Staging.{AskLeaves, ComesTo, IsAskable, IsOverPlaces, KeepsPlaces, MayAsk, MayBeAsked, WasAnswered, WasAsked, went_down}
use Rattle.ktm_kernel.specs.declared.staging.Staged.{Staged}
use Rattle.ktm_kernel.specs.declared.staging.Staged.TheVariants.{Ask, Refuse}
use Rattle.ktm_kernel.specs.Stands.{IsCoreReady, IsReady, KernelState}
use Rattle.ktm_kernel.proofs.Asking.{call-asks}
use Rattle.ktm_kernel.proofs.Given.{command-over, tick-over}
use Rattle.ktm_kernel.proofs.Lines.{Laws, as-it-was, down-answered, fell, replied, unanswered, was-answered}
use Rattle.ktm_kernel.proofs.Staged.{LeadsTo, leads-less, leads-same}
use Rattle.ktm_kernel.proofs.Worlds.{call_goes_on, down_call, down_tick, tick_goes_on, tick_not_down}

module _ (laws : Laws) (process : Pid) (command : Command) (given : IsGiven command)
    (k : KernelState) (pool : PoolState) (told now : Option DiskState) (s t : DiskStatus) (most : ℕ) (on_up : k.now.machine.is_up ≡ true) (ready : IsReady k told s) (left : HasEventsLeft k.now) (allowed : most ≤ most_reads (Process process command)) (few : most ≤ 2) where
  -- once pages were read or filled
  abbrev mid : KernelState
  mid = record k { pool = pool }

  abbrev decides : Present → Outcome
  decides y = decide y process command

  -- what it leaves, and what is so out of memory
  abbrev Leaves : OnDisk KernelState → Result Reply NoMemory → Type 0
  Leaves new r = CallLeaves process command (on k told s) new r × OnErr r (IsAsItWas k new.it)

  other : (decides k.now).reply ≢ Refused MachineDown
  other = decided_law.is_up k.now process command on_up

  -- nothing was asked out of memory
  pub none-left : (fault : NoMemory) → OnlyReads most told now s t false → KeepsPlaces k.now.files k.pool pool → LeadsTo told k mid (λ row. Unit {0}) → (slots : ℕ) → k.slots ≤ slots → Leaves (on (record mid { slots = slots }) now t) (Err fault)
  none-left fault reads places leads slots more = (
    unanswered k pool told now s t most on_up few reads (λ is. places) slots more leads,
    as-it-was k pool told now s t most on_up few reads (λ is. places) slots more,
  )

  -- it was asked
  pub asked-leaves : (asked : Asked) → OnlyReads most told now s t false → KeepsPlaces k.now.files k.pool pool
      → LeadsTo told k mid (λ row. IsOverPlaces (byte_at row) k.now (decided k.now asked) (decides (mapped_present (byte_at row) k.now))) → MayAsk k.now pool (Process process command) (decides k.now) asked
      → (t ≡ s) ⊎ ((line_has_bytes (Process process command) ≡ true) × ((refusal : Refusal) → (decides k.now).reply ≡ Refused refusal → ⊥))
      → (new : KernelState) (then : Option DiskState) (u : DiskStatus) (r : Result Reply NoMemory) → WasAsked asked (on mid now t) (on new then u) r → Leaves (on new then u) r
  asked-leaves asked reads places leads may quiet new then u (Ok reply) was = (
    was-answered laws (Process process command) decides (λ w l b r does. does) (call_goes_on laws.standing process command given) k pool told now s t most on_up ready left allowed asked new then u reply reads leads may was other quiet,
    tt,
  )
  asked-leaves asked reads places leads may quiet new then u (Err fault) was =
      let un = was.leaves was.rows.0 was.rows.1 in
      subst (λ (d : OnDisk KernelState). Leaves d (Err fault)) (λ i. on (sym was.same.0 i) (sym un.told i) (sym un.status i))
      (none-left fault reads places (leads-less told k mid _ (λ row. Unit {0}) (λ row is. tt) leads) new.slots was.same.1)

  -- what was staged was asked, or answered
  module _ (new : KernelState) (then : Option DiskState) (u : DiskStatus) where
    -- the machine answered
    pub said : (x : Present) (reply : Reply) → Leaves (on (record mid { now = x }) now t) (Ok reply) → (r : Result Reply NoMemory) → WasAnswered x (Some reply) (on mid now t) (on new then u) r → Leaves (on new then u) r
    said x reply leaves (Ok other) was = subst (λ (d : OnDisk KernelState). Leaves d (Ok other)) (λ i. on (sym was.it i) (sym was.told i) (sym was.status i)) (subst (λ (q : Reply). Leaves (on (record mid { now = x }) now t) (Ok q)) (sym (same_Some other reply was.says)) leaves)
    said x reply leaves (Err fault) was = absurd (let e = was.says in cc)

    pub unsaid : ((fault : NoMemory) → Leaves (on mid now t) (Err fault)) → (r : Result Reply NoMemory) → WasAnswered k.now None (on mid now t) (on new then u) r → Leaves (on new then u) r
    unsaid leaves (Ok other) was = absurd (let e = was.says in cc)
    unsaid leaves (Err fault) was = subst (λ (d : OnDisk KernelState). Leaves d (Err fault)) (λ i. on (sym was.it i) (sym was.told i) (sym was.status i)) (leaves fault)

    module _ (has : line_has_bytes (Process process command) ≡ true) (refused : Option Refusal) (done : refused ≡ None → (refusal : Refusal) → (decides k.now).reply ≡ Refused refusal → ⊥) where
      pub staged-leaves : (staged : Result Staged ReadFault) → OnlyReads most told now s t (went_down staged) → KeepsPlaces k.now.files k.pool pool → LeadsTo told k mid (ComesTo k.now decides staged)
          → MayBeAsked k.now pool (Process process command) (decides k.now) refused s t staged → (r : Result Reply NoMemory) → AskLeaves staged (on mid now t) (on new then u) r → Leaves (on new then u) r
      staged-leaves (Ok (Ask asked)) reads places leads may r was = asked-leaves asked reads places leads may.0 (inr (has, done may.1)) new then u r was
      staged-leaves (Ok (Refuse refusal)) reads places leads (is, same) r was = said k.now (Refused refusal) (
        replied laws (Process process command) decides (λ w l b r does. does) (call_goes_on laws.standing process command given) k pool told now s t most on_up ready left allowed (Refused refusal) reads places
            (leads-less told k mid (λ row. IsSameOutcome (byte_at row) k.now (only_reply k.now (Refused refusal)) (decides (mapped_present (byte_at row) k.now))) _
            (λ row over. (over.reply, over.leaves.comes_to ∙ ap (mapped_present (byte_at row)) (apply-reply k.now (Refused refusal)))) leads)
            (is ∙ ap (only_reply k.now) (sym says)) (ap (reply_but_bytes (Process process command)) (sym says)) (λ down. other (says ∙ down)) (inl same),
        tt,
      ) r was
        where
          says : (decides k.now).reply ≡ Refused refusal
          says = ap (λ (o : Outcome). o.reply) is
      staged-leaves (Err Down) reads places leads may r was = said (fallen k.now) (Refused MachineDown) (
        fell laws (Process process command) decides (λ w l b r does. does) (call_goes_on laws.standing process command given) k pool told now s t most on_up ready left allowed reads leads has,
        tt,
      ) r was
      staged-leaves (Err OutOfMemory) reads places leads may r was = unsaid (λ fault. none-left fault reads places leads k.slots (omega arith)) r was

-- ---- a machine that is down

pub call-down : (process : Pid) (command : Command) (k : KernelState) (told : Option DiskState) (status : DiskStatus) → k.now.machine.is_up ≡ false → IsReady k told status
    → IsLineAnswered (Process process command) (decide k.now process command) (on k told status) (on k told status) (Refused MachineDown)
call-down process command k told status off ready = down-answered (Process process command) (λ y. decide y process command) (λ w l b r does. does) k told status (down_call k told process command off) off ready

pub tick-down : (ms : ℕ) (k : KernelState) (told : Option DiskState) (status : DiskStatus) → k.now.machine.is_up ≡ false → IsReady k told status → IsLineAnswered (Tick ms) (decide_tick k.now ms) (on k told status) (on k told status) (Refused MachineDown)
tick-down ms k told status off ready = down-answered (Tick ms) (λ y. decide_tick y ms) (λ w l b r does. does) k told status (down_tick k told ms off) off ready

-- ---- what is asked as it is

-- no device call was made
pub reads-none : (told : Option DiskState) (s : DiskStatus) → OnlyReads 0 told told s s false
reads-none told s = record { same = refl; pending = refl; calls = record { later = omega arith; counted = omega arith; few = omega arith; cause = λ refused. absurd (both_ways false refl refused); down = or-false s.is_down; plan = refl; places = refl } }
  where
    or-false : (b : Bool) → b ≡ (b || false)
    or-false true = refl
    or-false false = refl

module _ (laws : Laws) (units : UnitsLaw) (k : KernelState) (told : Option DiskState) (s : DiskStatus) (on_up : k.now.machine.is_up ≡ true) (ready : IsReady k told s) (left : HasEventsLeft k.now) where
  core : IsCoreReady k told s
  core = ready.core on_up

  sound : AreSoundFiles (length k.pool.marks.held) k.now.files
  sound = subst (λ n. AreSoundFiles n k.now.files) (sym core.count) core.sound

  places : KeepsPlaces k.now.files k.pool k.pool
  places = record { count = refl; held = core.held; wanted = refl }

  module _ (new : KernelState) (then : Option DiskState) (u : DiskStatus) where
    -- a call that has no bytes
    pub call-answered : (process : Pid) (command : Command) → IsGiven command → IsOfPlaces k.now process command → IsOfNoBytes command → (r : Result Reply NoMemory) → WasAsked (Call process command) (on k told s) (on new then u) r
        → CallLeaves process command (on k told s) (on new then u) r × OnErr r (IsAsItWas k new)
    call-answered process command given can none r was =
        asked-leaves laws process command given k k.pool told told s s 0 on_up ready left (omega arith) (omega arith) (Call process command) (reads-none told s) places
        (leads-same k told (λ row. IsOverPlaces (byte_at row) k.now (decide k.now process command) (decide (mapped_present (byte_at row) k.now) process command)) (λ row. command-over units laws.alike (byte_at row) refl k.now process command none))
        (call-asks units laws.alike k.now process command k.pool can none sound) (inl refl) new then u r was

    -- the passing of time
    pub tick-answered : (ms : ℕ) (reply : Reply) → WasAsked (TickAsked ms) (on k told s) (on new then u) (Ok reply) → IsLineAnswered (Tick ms) (decide_tick k.now ms) (on k told s) (on new then u) reply
    tick-answered ms reply was =
        was-answered laws (Tick ms) (λ y. decide_tick y ms) (λ w l b r does. does) (tick_goes_on laws.standing ms) k k.pool told told s s 0 on_up ready left (omega arith) (TickAsked ms) new then u reply (reads-none told s)
        (leads-same k told (λ row. IsOverPlaces (byte_at row) k.now (decide_tick k.now ms) (decide_tick (mapped_present (byte_at row) k.now) ms)) (λ row. tick-over units laws.alike (byte_at row) refl k.now ms))
        (record {
          can = tt;
          sound = record { owner = sound.0; files = sound.1; puts = tt };
          held = tt;
          zeros = subst (λ (o : Outcome). IsOverPlaces no_byte k.now (decide_tick k.now ms) o) ((laws.alike no_byte refl).0.ticked k.now ms) (tick-over units laws.alike no_byte refl k.now ms);
          completes = refl;
          owes = refl;
          writes = λ is. (let e : false ≡ true = is in absurd (cc));
          by = λ id. refl;
          closes = refl;
        }) was (tick_not_down k.now ms on_up) (inl refl)

-- it can be asked
pub call-askable : (k : KernelState) (told : Option DiskState) (s : DiskStatus) → k.now.machine.is_up ≡ true → IsReady k told s → (process : Pid) (command : Command) → IsOfPlaces k.now process command → IsAskable k (Ok (Ask (Call process command)))
call-askable k told s on_up ready process command can = let sound = (ready.core on_up).sound in (can, record { owner = sound.0; files = sound.1; puts = tt }, tt)

pub tick-askable : (k : KernelState) (told : Option DiskState) (s : DiskStatus) → k.now.machine.is_up ≡ true → IsReady k told s → (ms : ℕ) → IsAskable k (Ok (Ask (TickAsked ms)))
tick-askable k told s on_up ready ms = let sound = (ready.core on_up).sound in (tt, record { owner = sound.0; files = sound.1; puts = tt }, tt)

-- a call of the grammar that neither reads, writes nor sets an end has no bytes
pub no-bytes : (c : Command) → IsCommand c → ((file : Label) (offset many : ℕ) → c ≡ ReadFile file offset many → ⊥) → ((file : Label) (offset : ℕ) (bytes : List ℕ) → c ≡ WriteFile file offset bytes → ⊥) → IsOfNoBytes c
no-bytes (ReadFile file offset many) is read write = absurd (read file offset many refl)
no-bytes (WriteFile file offset bytes) is read write = absurd (write file offset bytes refl)
no-bytes (WriteUnits file start contents) is read write = absurd is
no-bytes c is read write = tt

-- and so it can be done over places
pub of-places : (x : Present) (process : Pid) (c : Command) → IsCommand c → ((file : Label) (offset many : ℕ) → c ≡ ReadFile file offset many → ⊥) → ((file : Label) (offset : ℕ) (bytes : List ℕ) → c ≡ WriteFile file offset bytes → ⊥)
    → ((file : Label) (size : ℕ) → c ≡ SetEndOfFile file size → ⊥) → IsOfPlaces x process c
of-places x process c is read write end = (is, needs c is read write end)
  where
    needs : (c : Command) → IsCommand c → ((file : Label) (offset many : ℕ) → c ≡ ReadFile file offset many → ⊥) → ((file : Label) (offset : ℕ) (bytes : List ℕ) → c ≡ WriteFile file offset bytes → ⊥) → ((file : Label) (size : ℕ) → c ≡ SetEndOfFile file size → ⊥) → NeedsNoBytes x process c
    needs (ReadFile file offset many) is read write end = absurd (read file offset many refl)
    needs (WriteFile file offset bytes) is read write end = absurd (write file offset bytes refl)
    needs (SetEndOfFile file size) is read write end = absurd (end file size refl)
    needs (WriteUnits file start contents) is read write end = absurd is
    needs c is read write end = tt
