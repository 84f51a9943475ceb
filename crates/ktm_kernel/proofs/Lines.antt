-- What an answer leaves, for the line by which it came.
use Rattle.std.proofs.Common.{◌≡◌, ◌≢◌, ◌⊎◌, ◌+◌, ◌*◌, ◌||◌, ◌≤◌, ℕ, Bool, true, false, List, length, Option, Some, Ok, refl, sym, ◌∙◌, ap, subst, inl, inr, arith}
use Rattle.std.specs.Prelude.{IsSomeAnd}
use Rattle.std.proofs.lemmas.Bool.{both_ways}
use Rattle.ktm_base.specs.declared.refusal.Refusal.{Refusal}
use Rattle.ktm_base.specs.declared.refusal.Refusal.TheVariants.{MachineDown}
use Rattle.ktm_base.specs.Count.{Rose}
use Rattle.ktm_base.specs.Disk.{DeviceCalls, DiskState, DiskStatus, OnlyReads}
use Rattle.ktm_base.proofs.offered.Images.{calls_law}
use Rattle.ktm_base.proofs.offered.ToldSteps.{IsSomeAnd-map}
use Rattle.ktm_alike.specs.Alike.{mapped_present}
use Rattle.ktm_alike.specs.Laws.{AlikeLaw}
use Rattle.ktm_content.specs.Places.{byte_at}
use Rattle.ktm_core.specs.Answers.{IsAnswered as IsCoreAnswered, asked_completes, asked_owes_more, asked_writes}
use Rattle.ktm_core.specs.Asked.{Asked}
use Rattle.ktm_core.specs.Asked.TheVariants.{Call, Tick as TickAsked, Units}
use Rattle.ktm_core.specs.Core.{CoreState}
use Rattle.ktm_core.specs.Done.{Ends as CoreEnds, TouchesNothing, fallen, left_behind, makes_room, most_calls as most_core_calls}
use Rattle.ktm_core.specs.Recorded.{IsUntouched}
use Rattle.ktm_core.specs.Route.{decided}
use Rattle.ktm_journal.specs.Pages.{PagesLaw}
use Rattle.ktm_laws.specs.ReservedFiles.{ReservedFilesLaw}
use Rattle.ktm_laws.specs.Running.{HasEventsLeft}
use Rattle.ktm_log.specs.OnDisk.{on}
use Rattle.ktm_mapped.specs.Mapped.{mapped_group}
use Rattle.ktm_paged.specs.Laws.{RowsSeen}
use Rattle.ktm_records.specs.Kept.{IsKept}
use Rattle.ktm_records.specs.Spelling.{SpellingLaw, most_at_once}
use Rattle.ktm_standing.proofs.offered.Applied.{apply-reply}
use Rattle.ktm_standing.specs.Laws.{KeptLaw, StandingLaw}
use Rattle.ktm_standing.specs.Standing.{IsStanding}
use Rattle.ktm_store.specs.Marks.{MarksState}
use Rattle.ktm_store.specs.Pool.{Shows, kept_at}
use Rattle.ktm_store.specs.Store.{PoolState}
use Rattle.ktm_world.proofs.offered.Durables.{after_events-events}
use Rattle.ktm_world.specs.declared.command.Command.TheVariants.{ReadFile, WriteUnits}
use Rattle.ktm_world.specs.declared.command.Line.{Line}
use Rattle.ktm_world.specs.declared.command.Line.TheVariants.{Process}
use Rattle.ktm_world.specs.declared.reply.Reply.{Reply}
use Rattle.ktm_world.specs.declared.reply.Reply.TheVariants.{Refused}
use Rattle.ktm_world.specs.Durable.{Durable}
use Rattle.ktm_world.specs.Logs.{is_up}
use Rattle.ktm_world.specs.Outcome.{Outcome, apply, only_reply}
use Rattle.ktm_world.specs.Present.{Present}
use Rattle.ktm_world.specs.World.{World, present}
use Rattle.ktm_kernel.specs.Answers.{CameOrFell, IsAsItWas, IsLineAnswered, IsUnanswered, but_bytes, completes_line, line_has_bytes, line_owes_more, line_writes, most_reads, no_byte, reply_but_bytes}
use Rattle.ktm_kernel.specs.Done.{Ends, LeavesEither, most_calls}
use Rattle.ktm_kernel.specs.Staging.{IsOverPlaces, KeepsPlaces, MayAsk, WasAsked}
use Rattle.ktm_kernel.specs.Stands.{DoesLine, HoldsRecorded, IsReady, KernelAt, KernelState, StandsBy, core_on, machine_on}
use Rattle.ktm_kernel.proofs.Fallen.{left-off, left-recorded}
use Rattle.ktm_kernel.proofs.Images.{holds-left}
use Rattle.ktm_kernel.proofs.Lifted.{lifted}
use Rattle.ktm_kernel.proofs.Ready.{off_ready, ready-slots, ready-stands, stands-agrees, stays-ready}
use Rattle.ktm_kernel.proofs.Reserved.{line_reserved, reserved_fallen, reserved_same}
use Rattle.ktm_kernel.proofs.Sizes.{calls-over, more_calls, no-events}
use Rattle.ktm_kernel.proofs.Staged.{KeepsMachine, LeadsTo, ends-before}
use Rattle.ktm_kernel.proofs.Worlds.{DoesCall, GoesOn, ended_line, on_shown}
use Rattle.ktm_kernel.proofs.offered.Standing.{stands_up}

-- the laws by which answers are those of worlds
pub record Laws : Type 0 where
  pub standing : StandingLaw
  pub kept : KeptLaw
  pub reserves : ReservedFilesLaw
  pub spelling : SpellingLaw
  pub alike : AlikeLaw
  pub seen : RowsSeen
  pub pages : PagesLaw

-- ---- what was asked

-- few events are recorded
asked-few : SpellingLaw → (x : Present) (asked : Asked) → IsKept x → length (decided x asked).events ≤ most_at_once
asked-few spelling x (Call process command) kept = spelling.few x process command kept
asked-few spelling x (Units process file start contents extent) kept = spelling.few x process (WriteUnits file start contents) kept
asked-few spelling x (TickAsked ms) kept = spelling.few_later x ms kept

-- the reply and what is so then are the outcome's, or the machine went down and says so
core-says : (is_down : Bool) (old new : CoreState) (o : Outcome) (reply : Reply) (before now : Option DiskState) → CoreEnds is_down old o reply new before now
    → ((reply ≡ o.reply) × (new.now ≡ apply old.now o)) ⊎ ((is_down ≡ true) × (reply ≡ Refused MachineDown) × (new.now ≡ left_behind old.now o))
core-says false old new o reply before now done = inl (done.says, done.state)
core-says true old new o reply before now cut = inr (refl, cut.says, cut.state)

-- what writes to a file has to do with bytes
writes-bytes : (line : Line) → line_writes line ≡ true → line_has_bytes line ≡ true
writes-bytes (Process process (ReadFile file offset many)) writes = refl
writes-bytes line writes = writes

refused-same : (a b : Refusal) → Refused a ≡ Refused b → a ≡ b
refused-same a b is = ap of is
  where
    of : Reply → Refusal
    of (Refused r) = r
    of reply = a

or-none : (b c : Bool) → b ≡ false → (b || c) ≡ c
or-none true c off = absurd (cc)
or-none false c off = refl

-- ---- a line

module _ (laws : Laws) (line : Line) (decides : Present → Outcome) (does : (w : World) (k : KernelState) (told : Option DiskState) (reply : Reply) → DoesCall w (decides (present w)) reply k told → DoesLine w (Some line) reply k told)
    (goes_on : (w : World) → HasEventsLeft (present w) → IsStanding w → GoesOn w (decides (present w)))
    (k : KernelState) (pool : PoolState) (told now : Option DiskState) (s t : DiskStatus) (most : ℕ) (on_up : k.now.machine.is_up ≡ true) (ready : IsReady k told s) (left : HasEventsLeft k.now) (allowed : most ≤ most_reads line) where
  -- once pages were read or filled
  abbrev mid : KernelState
  mid = record k { pool = pool }

  -- the outcome over places
  abbrev o : Outcome
  o = decides k.now

  kept : IsKept k.now
  kept = laws.kept k.now (ready-stands k told s on_up ready)

  was-up : s.is_down ≡ false
  was-up = ready.powered.power on_up

  -- for each world, with a row for which the machine stands
  for-worlds : (new : KernelState) (then : Option DiskState) (is_down : Bool) (reply : Reply) (comes : List ℕ → Type 0) → LeadsTo told k mid comes
      → ((row later : List ℕ) → KeepsMachine (machine_on k row) (machine_on mid later) → Shows pool later → comes later → Shows new.pool later × Ends is_down (machine_on k row) (decides (machine_on k row).now) reply (machine_on new later) told then)
      → (w : World) → KernelAt k told w → DoesLine w (Some line) reply new then
  for-worlds new then is_down reply comes leads ends w at =
      let (power, (row, shows, stands)) = stands_up k told w at on_up in
      let (later, shown, keeps, is) = leads row shows (stands-agrees k told w row stands) in
      let (shown_then, ended) = ends row later keeps shown is in
      does w new then reply (on_shown w (decides (present w)) reply new then later shown_then
      (ended_line decides is_down (machine_on k row) (machine_on new later) reply told then left goes_on ended w power stands))

  -- ---- only a reply

  -- an answer that changes nothing
  pub replied : (reply : Reply) → OnlyReads most told now s t false → KeepsPlaces k.now.files k.pool pool
      → LeadsTo told k mid (λ row. ((decides (mapped_present (byte_at row) k.now)).reply ≡ reply) × (apply (mapped_present (byte_at row) k.now) (decides (mapped_present (byte_at row) k.now)) ≡ mapped_present (byte_at row) k.now))
      → o ≡ only_reply k.now o.reply → reply_but_bytes line reply ≡ reply_but_bytes line o.reply → reply ≢ Refused MachineDown → (t ≡ s) ⊎ ((line_has_bytes line ≡ true) × ((refusal : Refusal) → reply ≡ Refused refusal → ⊥))
      → IsLineAnswered line o (on k told s) (on mid now t) reply
  replied reply reads places leads alone says other quiet = record {
    does = for-worlds mid now false reply _ leads (λ row later keeps shown is. (
      shown,
      record {
        is = keeps.is;
        says = sym is.0 ∙ ap (λ (x : Present). (decides x).reply) keeps.now;
        state = keeps.now ∙ sym (ap (λ (x : Present). apply x (decides x)) (sym keeps.now) ∙ is.1 ∙ keeps.now);
        units = refl;
        image = refl;
        disk = λ holds. subst (λ u. IsSomeAnd u (HoldsRecorded (machine_on mid later))) (sym reads.same) (IsSomeAnd-map told (HoldsRecorded (machine_on k row)) (HoldsRecorded (machine_on mid later)) holds keeps.disk);
      },
    ));
    says = inl (says, sym (ap but_bytes (ap (apply k.now) alone ∙ apply-reply k.now o.reply)));
    cause = λ is. absurd (other is);
    ready = stays-ready k pool told now s t most on_up ready places reads;
    calls = subst (λ b. DeviceCalls (most_calls (completes_line line) (line_writes line) k.now k.journal o.events + most_reads line) s t b) (sym (reads.calls.down ∙ or-none s.is_down false was-up))
        (more_calls most (most_calls (completes_line line) (line_writes line) k.now k.journal o.events + most_reads line) s t false (omega (arith, allowed)) reads.calls);
    untouched = λ touches. record { told = reads.same; status = same touches quiet };
    down = λ off. absurd (both_ways k.now.machine.is_up off on_up);
    counts = omega arith;
    reserved = λ on. reserved_same line k.now kept;
  }
    where
      same : TouchesNothing (line_owes_more line) (line_has_bytes line) k.journal o reply → (t ≡ s) ⊎ ((line_has_bytes line ≡ true) × ((refusal : Refusal) → reply ≡ Refused refusal → ⊥)) → t ≡ s
      same (inl refused) (inl is) = is
      same (inr none) (inl is) = is
      same (inl (refusal, refused, more)) (inr (has, never)) = absurd (never refusal refused)
      same (inr (none, room, lacks)) (inr (has, never)) = absurd (both_ways (line_has_bytes line) lacks has)

  -- ---- the disk went down before anything was asked

  -- each image that may be left stands for what was recorded, with what is decided or without
  abbrev either : List ℕ → DiskState → Type 0
  either row = LeavesEither (machine_on k row).now.recorded (apply (machine_on k row).now (decides (machine_on k row).now)).recorded

  pub fell : OnlyReads most told now s t true → LeadsTo told k mid (λ row. Unit {0}) → line_has_bytes line ≡ true
      → IsLineAnswered line o (on k told s) (on (record mid { now = fallen k.now }) now t) (Refused MachineDown)
  fell reads leads has = record {
    does = for-worlds (record mid { now = fallen k.now }) now true (Refused MachineDown) _ leads (λ row later keeps shown is. (
      shown,
      record {
        says = refl;
        off = refl;
        recorded = ap (λ (x : Present). x.recorded) keeps.now;
        units = refl;
        image = refl;
        disk = λ holds. subst (λ u. IsSomeAnd u (either row)) (sym reads.same) (IsSomeAnd-map told (HoldsRecorded (machine_on k row)) (either row) holds (λ d held image may. inl (holds-left laws.seen laws.pages (core_on k row) d image held may)));
      },
    ));
    says = inr (refl, refl, refl);
    cause = λ is. elim (reads.calls.cause refl) [
      | inl off ↦ absurd (both_ways s.is_down was-up off)
      | inr rose ↦ inr rose
    ];
    ready = off_ready (record mid { now = fallen k.now }) now t refl;
    calls = subst (λ b. DeviceCalls (most_calls (completes_line line) (line_writes line) k.now k.journal o.events + most_reads line) s t b) (sym (reads.calls.down ∙ or-none s.is_down true was-up))
        (more_calls most (most_calls (completes_line line) (line_writes line) k.now k.journal o.events + most_reads line) s t true (omega (arith, allowed)) reads.calls);
    untouched = λ touches. absurd (refused_not touches);
    down = λ off. absurd (both_ways k.now.machine.is_up off on_up);
    counts = omega arith;
    reserved = λ on. reserved_fallen line k.now kept;
  }
    where
      refused_not : TouchesNothing (line_owes_more line) (line_has_bytes line) k.journal o (Refused MachineDown) → ⊥
      refused_not (inl (refusal, refused, more)) = more (sym (refused-same MachineDown refusal refused))
      refused_not (inr (none, room, not_so)) = both_ways (line_has_bytes line) not_so has

  -- ---- it was asked

  module _ (asked : Asked) (new : KernelState) (then : Option DiskState) (u : DiskStatus) (reply : Reply) (reads : OnlyReads most told now s t false) (leads : LeadsTo told k mid (λ row. IsOverPlaces (byte_at row) k.now (decided k.now asked) (decides (mapped_present (byte_at row) k.now))))
      (may : MayAsk k.now pool line o asked) (was : WasAsked asked (on mid now t) (on new then u) (Ok reply)) (other : o.reply ≢ Refused MachineDown) (quiet : (t ≡ s) ⊎ ((line_has_bytes line ≡ true) × ((refusal : Refusal) → o.reply ≡ Refused refusal → ⊥))) where
    -- what is asked comes to this over places
    abbrev p : Outcome
    p = decided k.now asked

    -- with some row
    abbrev row : List ℕ
    row = was.rows.0

    answered : IsCoreAnswered (asked_completes asked) (asked_owes_more asked) (asked_writes asked) p (on (core_on mid row) now t) (on (core_on new row) then u) reply
    answered = was.leaves row was.rows.1

    came : ((reply ≡ p.reply) × (new.now ≡ apply k.now p)) ⊎ ((u.is_down ≡ true) × (reply ≡ Refused MachineDown) × (new.now ≡ left_behind k.now p))
    came = core-says u.is_down (core_on mid row) (core_on new row) p reply now then answered.ends

    -- it comes to the same but for the bytes
    same : but_bytes (apply k.now p) ≡ but_bytes (apply k.now o)
    same = sym may.zeros.same.leaves.comes_to ∙ (laws.alike no_byte refl).1.applied k.now o

    says : CameOrFell line o k.now new.now reply
    says = elim came [
      | inl done ↦ inl (ap (reply_but_bytes line) (done.0 ∙ sym may.zeros.same.reply), ap but_bytes done.1 ∙ same)
      | inr cut ↦ inr (cut.1, ap (λ (x : Present). x.machine.is_up) cut.2 ∙ left-off k.now p, ap (λ (x : Present). x.recorded) cut.2 ∙ left-recorded k.now p)
    ]

    calls : DeviceCalls (most_calls (completes_line line) (line_writes line) k.now k.journal o.events + most_reads line) s u u.is_down
    calls =
        let few = calls-over no_byte (completes_line line) (asked_writes asked) (line_writes line) may.writes k.now k.journal p.events o.events may.zeros.same.leaves.events may.zeros.few in
        let asks : DeviceCalls (most_core_calls (completes_line line) (asked_writes asked) k.journal p.events) t u u.is_down = subst (λ b. DeviceCalls (most_core_calls b (asked_writes asked) k.journal p.events) t u u.is_down) may.completes answered.calls in
        more_calls (most + most_core_calls (completes_line line) (asked_writes asked) k.journal p.events) (most_calls (completes_line line) (line_writes line) k.now k.journal o.events + most_reads line) s u u.is_down (omega (arith, few, allowed))
        (calls_law s t u most (most_core_calls (completes_line line) (asked_writes asked) k.journal p.events) u.is_down reads.calls asks)

    cause : reply ≡ Refused MachineDown → (k.now.machine.is_up ≡ false) ⊎ Rose s.downs u.downs
    cause is = elim came [
      | inl done ↦ absurd (other (may.zeros.same.reply ∙ sym done.0 ∙ is))
      | inr cut ↦ elim (calls.cause cut.0) [
        | inl off ↦ absurd (both_ways s.is_down was-up off)
        | inr rose ↦ inr rose
      ]
    ]

    untouched : TouchesNothing (line_owes_more line) (line_has_bytes line) k.journal o reply → IsUntouched (on k told s) (on new then u)
    untouched touches = elim quiet [
      | inl none ↦ (let un = answered.untouched (asks touches) in record { told = un.told ∙ reads.same; status = un.status ∙ none })
      | inr some ↦ absurd (never some touches)
    ]
      where
        no-puts : line_has_bytes line ≡ false → (b : Bool) → asked_writes asked ≡ b → b ≡ false
        no-puts lacks true is = absurd (both_ways (line_has_bytes line) lacks (writes-bytes line (may.writes is)))
        no-puts lacks false is = refl

        asks : TouchesNothing (line_owes_more line) (line_has_bytes line) k.journal o reply → TouchesNothing (asked_owes_more asked) (asked_writes asked) k.journal p reply
        asks (inl refused) = inl refused
        asks (inr (none, room, lacks)) = inr (
          no-events no_byte p.events (mapped_group no_byte o.events) may.zeros.same.leaves.events (ap (mapped_group no_byte) none),
          ap (λ b. makes_room b k.journal) may.owes ∙ room,
          no-puts lacks (asked_writes asked) refl,
        )

        never : (line_has_bytes line ≡ true) × ((refusal : Refusal) → o.reply ≡ Refused refusal → ⊥) → TouchesNothing (line_owes_more line) (line_has_bytes line) k.journal o reply → ⊥
        never (has, never_refused) (inr (none, room, lacks)) = both_ways (line_has_bytes line) lacks has
        never (has, never_refused) (inl (refusal, refused, more)) = elim came [
          | inl done ↦ never_refused refusal (may.zeros.same.reply ∙ sym done.0 ∙ refused)
          | inr cut ↦ more (sym (refused-same MachineDown refusal (sym cut.1 ∙ refused)))
        ]

    counts : new.now.recorded.events ≤ k.now.recorded.events + most_at_once
    counts = elim came [
      | inl done ↦
          let few = asked-few laws.spelling k.now asked kept in
          let all = after_events-events k.now.recorded p.events in
          let is = ap (λ (x : Present). x.recorded.events) done.1 in
          omega (arith, few, all, is)
      | inr cut ↦ (let is = ap (λ (x : Present). x.recorded.events) cut.2 ∙ ap (λ (d : Durable). d.events) (left-recorded k.now p) in omega (arith, is))
    ]

    ended : (any later : List ℕ) → KeepsMachine (machine_on k any) (machine_on mid later) → Shows pool later → IsOverPlaces (byte_at later) k.now p (decides (mapped_present (byte_at later) k.now))
        → Shows new.pool later × Ends u.is_down (machine_on k any) (decides (machine_on k any).now) reply (machine_on new later) told then
    ended any later keeps shown over = (
      record { size = shown.size ∙ ap (λ (m : MarksState). length m.held * 4096) (sym was.marks); bytes = λ page bytes is. shown.bytes page bytes (ap (λ seen. kept_at seen page) (sym was.seen) ∙ is) },
      subst (λ b. Ends u.is_down (machine_on k any) (decides (machine_on k any).now) reply (machine_on new later) b then) reads.same
          (subst (λ (x : Present). Ends u.is_down (machine_on k any) (decides x) reply (machine_on new later) now then) keeps.now
          (ends-before u.is_down (machine_on k any) (machine_on mid later) (machine_on new later) (decides (machine_on mid later).now) reply now then keeps
          (lifted laws.seen (core_on mid later) (core_on new later) p (decides (machine_on mid later).now) over.same reply now then u.is_down (was.leaves later shown).ends))),
    )

    pub was-answered : IsLineAnswered line o (on k told s) (on new then u) reply
    was-answered = record {
      does = for-worlds new then u.is_down reply _ leads ended;
      says = says;
      cause = cause;
      ready = was.ready;
      calls = calls;
      untouched = untouched;
      down = λ off. absurd (both_ways k.now.machine.is_up off on_up);
      counts = counts;
      reserved = λ on. line_reserved laws.reserves line k.now new.now asked kept may.by may.closes (elim came [ inl done ↦ inl done.1 | inr cut ↦ inr cut.2 ]);
    }

-- ---- out of memory

module _ (k : KernelState) (pool : PoolState) (told now : Option DiskState) (s t : DiskStatus) (most : ℕ) (on_up : k.now.machine.is_up ≡ true) (few : most ≤ 2) (reads : OnlyReads most told now s t false) (places : IsReady k told s → KeepsPlaces k.now.files k.pool pool) (slots : ℕ) (more : k.slots ≤ slots) where
  -- nothing was asked, and there is room for no fewer notifications
  pub unanswered : LeadsTo told k (record k { pool = pool }) (λ row. Unit {0}) → IsUnanswered (on k told s) (on (record k { pool = pool; slots = slots }) now t)
  unanswered leads = record {
    reads = record { same = reads.same; pending = reads.pending; calls = more_calls most 2 s t false few reads.calls };
    at = λ w at.
        let (power, (row, shows, stands)) = stands_up k told w at on_up in
        let (later, shown, keeps, is) = leads row shows (stands-agrees k told w row stands) in (
          later,
          shown,
          subst (λ p. StandsBy (is_up p) (machine_on (record k { pool = pool; slots = slots }) later) now w) (sym power) (record {
            is = refl;
            now = keeps.now ∙ stands.now;
            standing = stands.standing;
            disk = subst (λ u. IsSomeAnd u (HoldsRecorded (machine_on (record k { pool = pool; slots = slots }) later))) (sym reads.same)
                (IsSomeAnd-map told (HoldsRecorded (machine_on k row)) (HoldsRecorded (machine_on (record k { pool = pool; slots = slots }) later)) stands.disk
                (λ d holds. let there = keeps.disk d holds in record { journal = there.journal; pages = there.pages; stored = there.stored }));
          }),
        );
    ready = λ ready. ready-slots (record k { pool = pool }) slots more now t (stays-ready k pool told now s t most on_up ready (places ready) reads);
  }

  pub as-it-was : IsAsItWas k (record k { pool = pool; slots = slots })
  as-it-was = record { now = refl; journal = refl; slots = more }

-- ---- a machine that is down

-- nothing is done
pub down-answered : (line : Line) (decides : Present → Outcome) (does : (w : World) (k : KernelState) (told : Option DiskState) (reply : Reply) → DoesCall w (decides (present w)) reply k told → DoesLine w (Some line) reply k told) (k : KernelState) (told : Option DiskState) (status : DiskStatus)
    → ((w : World) → KernelAt k told w → DoesCall w (decides (present w)) (Refused MachineDown) k told) → k.now.machine.is_up ≡ false → IsReady k told status → IsLineAnswered line (decides k.now) (on k told status) (on k told status) (Refused MachineDown)
down-answered line decides does k told status stays off ready = record {
  does = λ w at. does w k told (Refused MachineDown) (stays w at);
  says = inr (refl, off, refl);
  cause = λ is. inl off;
  ready = ready;
  calls = record { later = omega arith; counted = omega arith; few = omega arith; cause = λ refused. inl refused; down = or-same status.is_down; plan = refl; places = refl };
  untouched = λ touches. record { told = refl; status = refl };
  down = λ is. record { told = refl; status = refl };
  counts = omega arith;
  reserved = λ on. absurd (both_ways k.now.machine.is_up off on);
}
  where
    or-same : (b : Bool) → b ≡ (b || b)
    or-same true = refl
    or-same false = refl
