-- How an outcome ends: recorded, or cut off.
use Rattle.std.proofs.Common.{◌≡◌, ◌≢◌, ◌⊎◌, ℕ, ◌+◌, ◌≤◌, Bool, true, false, List, [], ◌∷◌, length, Option, refl, sym, ◌∙◌, ap, subst, arith, inl, inr}
use Rattle.std.proofs.lemmas.Bool.{both_ways, or_right}
use Rattle.std.specs.Prelude.{◌↔◌, IfSome, IsSomeAnd, IsTrue}
use Rattle.ktm_base.specs.declared.refusal.Refusal.TheVariants.{MachineDown}
use Rattle.ktm_base.specs.declared.limits.TheConstants.{MOST_UNITS}
use Rattle.ktm_base.specs.Disk.{DeviceCalls, DiskState, DiskStatus}
use Rattle.ktm_debts.specs.Debts.{debts, frame_of}
use Rattle.ktm_each.specs.Each.{EachOfDurable, EachOfGroup}
use Rattle.ktm_world.specs.Sizes.{area_len, frame_size}
use Rattle.ktm_event.specs.Kept.{EventsState}
use Rattle.ktm_journal.specs.Image.{IsHeaded, JournalState, page_count}
use Rattle.ktm_log.specs.OnDisk.{AllSynced, on}
use Rattle.ktm_paged.specs.Paged.{IsSound, meant_group}
use Rattle.ktm_paged.specs.Recorded.{RecordsLaw}
use Rattle.ktm_restart.specs.Logs.{AppliesTo}
use Rattle.ktm_slots.specs.Owed.{owed_slots}
use Rattle.ktm_store.specs.Store.{StoreState}
use Rattle.ktm_trace.specs.Contents.{ContentsLaw, KeptLaw}
use Rattle.ktm_world.specs.declared.event.Event.{Event}
use Rattle.ktm_world.specs.declared.reply.Reply.{Reply}
use Rattle.ktm_world.specs.declared.reply.Reply.TheVariants.{Refused}
use Rattle.ktm_world.specs.Durable.{Durable, after_events}
use Rattle.ktm_world.specs.Logs.{Group}
use Rattle.ktm_world.specs.Outcome.{Outcome, apply}
use Rattle.ktm_world.specs.Present.{Present}
use Rattle.ktm_world.proofs.offered.Durables.{after_events-events, after_events-image, after_events-units}
use Rattle.ktm_standing.specs.Standing.{IsStandingNow}
use Rattle.ktm_memory.specs.declared.settlement.Settlement.{Settlement}
use Rattle.ktm_memory.specs.Decided.{Decides}
use Rattle.ktm_memory.specs.Memory.{IsRoomy, LayersNow, MaySettle, MemoryState, SettlesGood, Shows, TellsWithin, held, now_of, present_of}
use Rattle.ktm_memory.specs.Settled.{left_to_do}
use Rattle.ktm_memory.proofs.offered.Settling.{settles_with, tells_with}
use Rattle.ktm_memory.proofs.offered.Shown.{Counts, settled-is, shown-itself}
use Rattle.ktm_memory.proofs.offered.Standing.{kept as kept_now}
use Rattle.ktm_memory.proofs.offered.Sent.{sends-alike}
use Rattle.ktm_core.specs.Core.{HoldsPlaces, HoldsState, LeavesEitherPlaces, core_of, log_left}
use Rattle.ktm_core.specs.Done.{Ends, IsDone, IsCutOff, TouchesNothing, fallen, left_behind, most_calls}
use Rattle.ktm_core.specs.Answers.{IsAnswered}
use Rattle.ktm_core.specs.Recording.{IsNotPut, IsPut, IsSameMemory, MayRecord, beside_of, kept_on, left_after, put_calls}
use Rattle.ktm_core.proofs.Asks.{GoesWell}
use Rattle.ktm_core.proofs.Groups.{more_calls, synced_more}
use Rattle.ktm_core.proofs.Meant.{frame-fewer, many, nothing}
use Rattle.ktm_core.proofs.Debts.{calls_by, room_after}

-- ---- the journal and the list of events

-- a list of events has as much room as before, and the image as many units
pub kept : (j k : JournalState) (e f : EventsState) → k.units ≡ j.units → f.room ≡ e.room → IsRoomy j e → IsRoomy k f
kept j k e f units room roomy = record {
  most = subst (λ n. n ≤ MOST_UNITS) (sym units) roomy.most;
  room = subst (λ n. area_len n ≤ f.room + frame_size []) (sym units) (omega (arith, roomy.room, room));
}

-- there are events, or none
some_or_none : (es : List Event) → (es ≡ []) ⊎ (es ≢ [])
some_or_none [] = inl refl
some_or_none (e ∷ es) = inr (λ is. cc)

-- with a journal of the same image that counts the same memory shows the same
counts_alike : (m : MemoryState) (j : JournalState) → j.units ≡ m.journal.units → j.image ≡ m.journal.image → j.events ≡ m.journal.events → present_of (record m { journal = j }) ≡ present_of m
counts_alike m j units image events i = record (present_of m) { recorded = record (present_of m).recorded { units = units i; image = image i; events = events i } }

-- what memory has once the machine is down, by whether something is recorded
behind_some : (x : Present) (o : Outcome) → o.events ≢ [] → left_behind x o ≡ fallen x
behind_some x o some = by o.events some
  where
    by : (es : List Event) → es ≢ [] → (elim es as (λ _. Present) [ [] ↦ fallen (apply x o) | (_ ∷ _) ↦ fallen x ]) ≡ fallen x
    by [] some = absurd (some refl)
    by (e ∷ es) some = refl

pub behind_none : (x : Present) (o : Outcome) → o.events ≡ [] → left_behind x o ≡ fallen (apply x o)
behind_none x o none = by o.events none
  where
    by : (es : List Event) → es ≡ [] → (elim es as (λ _. Present) [ [] ↦ fallen (apply x o) | (_ ∷ _) ↦ fallen x ]) ≡ fallen (apply x o)
    by [] none = refl
    by (e ∷ es) none = absurd (cc)

-- a machine that is down answers so, and asks for nothing more
pub down_answered : (completing owing writing : Bool) (a m : MemoryState) (o : Outcome) (t u : StoreState) (before now : Option DiskState) (s after : DiskStatus) → m.is_up ≡ false
    → IsCutOff (core_of a t) o (Refused MachineDown) (core_of m u) before now → DeviceCalls (most_calls completing writing a.journal o.events) s after true → (TouchesNothing owing writing a.journal o (Refused MachineDown) → ⊥)
    → IsAnswered completing owing writing o (on (core_of a t) before s) (on (core_of m u) now after) (Refused MachineDown)
down_answered completing owing writing a m o t u before now s after off cut calls touches =
    let down : after.is_down ≡ true = calls.down ∙ or_right s.is_down true refl in
    record {
      ends = subst (λ b. Ends b (core_of a t) o (Refused MachineDown) (core_of m u) before now) (sym down) cut;
      powered = record {
        power = λ up. absurd (both_ways m.is_up off up);
        settled = λ up. absurd (both_ways m.is_up off up);
        image = λ up. absurd (both_ways m.is_up off up);
        wanted = λ up. absurd (both_ways m.is_up off up);
      };
      slots = λ up. absurd (both_ways m.is_up off up);
      room = λ up. absurd (both_ways m.is_up off up);
      calls = subst (λ b. DeviceCalls (most_calls completing writing a.journal o.events) s after b) (sym down) calls;
      untouched = λ nothing. absurd (touches nothing);
    }

-- each place that was recorded has its owner, and each place that the outcome's events put
pub record IsSoundOutcome (x : Present) (o : Outcome) : Type 0 where
  pub owner : ℕ → ℕ × ℕ
  pub state : EachOfDurable (IsSound owner (page_count x.recorded.units)) x.recorded
  pub events : EachOfGroup (IsSound owner (page_count x.recorded.units)) o.events

module _ (completing owing : Bool) (a : MemoryState) (o : Outcome) (reply : Reply) (rest : Settlement) (events : EventsState) (n : MemoryState) (decided : Decides (held a) o reply rest events n)
    (well : GoesWell completing owing (present_of a) o n.tm.slots (log_left a.journal)) where
  abbrev pub x : Present
  x = present_of a

  abbrev pub raw : Group
  raw = decided.records.raw

  -- nothing that is recorded has changed
  pub recorded_still : (present_of n).recorded ≡ x.recorded
  recorded_still = elim (some_or_none o.events) [
    | inl none ↦ ap (λ (es : List Event). after_events (present_of n).recorded es) (sym (decided.group ∙ none)) ∙ ap (λ (y : Present). y.recorded) decided.comes_to
        ∙ ap (λ (es : List Event). after_events x.recorded es) none
    | inr some ↦ ap (λ (h : LayersNow). (now_of h).recorded) (decided.waits some)
  ]

  -- what is recorded is nothing where there are no events
  pub raw_none : o.events ≡ [] → raw ≡ []
  raw_none none = nothing x.recorded raw (decided.records.is.means ∙ none)

  -- there are events, or none, by what is recorded of them
  pub none_by : (b : Bool) → IsTrue b ↔ (raw ≡ []) → b ≡ true → o.events ≡ []
  none_by b test is = sym decided.records.is.means ∙ ap (meant_group x.recorded) (test.0 is)

  pub some_by : (b : Bool) → IsTrue b ↔ (raw ≡ []) → b ≡ false → o.events ≢ []
  some_by b test not none = both_ways b not (test.1 (raw_none none))

  raw_many : length raw ≡ length o.events
  raw_many = sym (many x.recorded raw) ∙ ap (λ (es : List Event). length es) decided.records.is.means

  -- its events may be recorded
  pub may_record : RecordsLaw → IsSoundOutcome x o → o.events ≢ [] → MayRecord n events raw o.events
  may_record records sound some =
      let size = decided.records.is.size in
      record {
        holds = decided.records.holds;
        fits = omega (arith, well.fits, size, ap (λ (j : JournalState). area_len j.units) decided.journal);
        applies = subst (λ (s : Durable). AppliesTo s raw) (sym recorded_still) (records.applies (page_count x.recorded.units) sound.owner x.recorded raw o.events decided.records.is sound.state sound.events well.applies);
        owner = sound.owner;
        sound = subst (λ (s : Durable). EachOfDurable (IsSound sound.owner (page_count s.units)) s) (sym recorded_still) sound.state;
        means = subst (λ (s : Durable). meant_group s raw ≡ o.events) (sym recorded_still) decided.records.is.means;
        puts = subst (λ (s : Durable). EachOfGroup (IsSound sound.owner (page_count s.units)) o.events) (sym recorded_still) sound.events;
        size = size;
        stands = subst (λ (h : LayersNow). IsStandingNow (now_of h)) (sym (decided.waits some)) well.standing;
      }

  -- memory may settle once they are
  pub may_settle : (r : MemoryState) → IsSameMemory n r → MaySettle r rest
  may_settle r same = subst (λ (b : MemoryState). MaySettle b rest) (sym same.is) (settles_with n r.journal rest decided.may)

  -- and there is room for what it tells
  pub may_tell : (r : MemoryState) → IsSameMemory n r → TellsWithin r (λ y. left_to_do y rest)
  may_tell r same =
      subst (λ (b : MemoryState). TellsWithin b (λ y. left_to_do y rest)) (sym same.is)
      (tells_with n r.journal (λ y. left_to_do y rest)
      (λ y shows. subst (λ sent. length sent ≤ n.tm.slots) (sym (sends-alike n rest y shows ∙ decided.tells)) (omega (arith, well.paid))))

  -- the image has as many units
  pub same_units : (r m : MemoryState) → IsSameMemory n r → m.journal ≡ r.journal → m.journal.units ≡ a.journal.units
  same_units r m same keeps = ap (λ (j : JournalState). j.units) keeps ∙ same.units ∙ ap (λ (j : JournalState). j.units) decided.journal

  same_image : (r m : MemoryState) → IsSameMemory n r → m.journal ≡ r.journal → m.journal.image ≡ a.journal.image
  same_image r m same keeps = ap (λ (j : JournalState). j.image) keeps ∙ same.image ∙ ap (λ (j : JournalState). j.image) decided.journal

  -- ---- what was recorded was settled
  module _ (contents : ContentsLaw) (traces : KeptLaw) (r m : MemoryState) (same : IsSameMemory n r) (counts : r.journal.events ≡ n.journal.events + length raw)
      (settles : SettlesGood r (λ y. left_to_do y rest) m) (keeps : m.journal ≡ r.journal) where
    -- the journal counts the group more as what is so then does
    counted : Counts m.journal (apply x o)
    counted = record {
      units = same_units r m same keeps ∙ sym (after_events-units x.recorded o.events);
      image = same_image r m same keeps ∙ sym (after_events-image x.recorded o.events);
      events = ap (λ (j : JournalState). j.events) keeps ∙ counts ∙ ap (λ (j : JournalState). j.events + length raw) decided.journal ∙ ap (λ n. x.recorded.events + n) raw_many
          ∙ sym (after_events-events x.recorded o.events);
    }

    is_logged : SettlesGood (record n { journal = r.journal }) (λ y. left_to_do y rest) m
    is_logged = subst (λ (b : MemoryState). SettlesGood b (λ y. left_to_do y rest) m) same.is settles

    pub now_then : present_of m ≡ apply x o
    now_then = settled-is contents traces (held a) o reply rest events n r.journal m decided ((kept_now x well.standing).good) is_logged counted (kept_now (apply x o) well.goes_on)

    -- memory shows with the group in its journal what it shows without
    shows_logged : Shows (record n { journal = r.journal }) (present_of n)
    shows_logged =
        let itself = shown-itself traces n in
        record {
          is_up = itself.is_up;
          boot = itself.boot;
          transactions = itself.transactions;
          managers = itself.managers;
          traces = itself.traces;
          files = itself.files;
          next_node = itself.next_node;
          keys = itself.keys;
          handles = itself.handles;
        }

    pub slots_then : owed_slots (present_of m) ≤ m.tm.slots
    slots_then =
        let fewer : n.tm.slots ≤ m.tm.slots + length o.sent = subst (λ sent. n.tm.slots ≤ m.tm.slots + length sent) decided.tells (is_logged.slots (present_of n) shows_logged) in
        subst (λ (y : Present). owed_slots y ≤ m.tm.slots) (sym now_then) (omega (arith, well.paid, fewer))

  -- ---- a command that records something

  module _ (some : o.events ≢ []) (before : Option DiskState) (s : DiskStatus) (t : StoreState) where
    abbrev beside : ℕ
    beside = beside_of completing a.journal.units

    at_first : IsSomeAnd before (HoldsPlaces (core_of a t)) → IsSomeAnd before (HoldsState n.journal (present_of n).recorded t)
    at_first at = subst (λ (j : JournalState). IsSomeAnd before (HoldsState j (present_of n).recorded t)) (sym decided.journal) (subst (λ (d : Durable). IsSomeAnd before (HoldsState a.journal d t)) (sym recorded_still) at)

    frame_few : frame_of raw ≤ frame_of o.events
    frame_few = frame-fewer x.recorded raw o.events decided.records.is.means decided.records.is.size

    few_calls : put_calls beside n.journal o.events ≤ most_calls completing false a.journal o.events
    few_calls = subst (λ (j : JournalState). put_calls beside j o.events ≤ most_calls completing false a.journal o.events) (sym decided.journal) (calls_by x o a.journal refl completing owing well.owes)

    -- it was not refused
    done_touches : (P : Type 0) → TouchesNothing owing false a.journal o reply → P
    done_touches P touches = elim touches [ inl (refusal, is, other) ↦ absurd (decided.answers some refusal is) | inr (no_event, no_room, no_unit) ↦ absurd (some no_event) ]

    cut_touches : TouchesNothing owing false a.journal o (Refused MachineDown) → ⊥
    cut_touches touches = elim touches [
      | inl (refusal, is, other) ↦ (let down : refusal ≡ MachineDown = cc in other down)
      | inr (no_event, no_room, no_unit) ↦ some no_event
    ]

    module _ (r m : MemoryState) (u : StoreState) (now : Option DiskState) (after : DiskStatus) where
      module _ (contents : ContentsLaw) (traces : KeptLaw) (records : RecordsLaw) (sound : IsSoundOutcome x o)
          (put : IsPut beside events o.events (kept_on n t before s) (kept_on r u now after)) (settles : SettlesGood r (λ y. left_to_do y rest) m) (keeps : m.journal ≡ r.journal) where
        now_is : present_of m ≡ apply x o
        now_is = now_then contents traces r m put.same (put.counts raw decided.records.holds) settles keeps

        recorded_then : after_events (present_of n).recorded o.events ≡ (present_of m).recorded
        recorded_then = ap (λ (d : Durable). after_events d o.events) recorded_still ∙ sym (ap (λ (y : Present). y.recorded) now_is)

        done : IsDone (core_of a t) o reply (core_of m u) before now
        done = record {
          says = decided.says;
          state = now_is;
          keeps = record { units = same_units r m put.same keeps; image = same_image r m put.same keeps; seen = put.store.seen; marks = put.store.marks };
          disk = λ at. subst (λ (j : JournalState). IsSomeAnd now (HoldsState j (present_of m).recorded u)) (sym keeps)
              (subst (λ (d : Durable). IsSomeAnd now (HoldsState r.journal d u)) recorded_then (put.disk raw (may_record records sound some) (at_first at)));
        }

        calls_made : AllSynced (most_calls completing false a.journal o.events) s after
        calls_made = synced_more (put_calls beside n.journal o.events) (most_calls completing false a.journal o.events) s after few_calls (put.synced raw (may_record records sound some))

        -- the log has room for what is owed then
        room_then : debts (present_of m) + 1 ≤ log_left m.journal
        room_then =
            let left : log_left m.journal ≡ left_after beside a.journal raw = ap log_left keeps ∙ put.left raw decided.records.holds ∙ ap (λ (j : JournalState). left_after beside j raw) decided.journal in
            subst (λ l. debts (present_of m) + 1 ≤ l) (sym left) (subst (λ (y : Present). debts y + 1 ≤ left_after beside a.journal raw) (sym now_is) (room_after x o a.journal refl completing owing raw well.owes frame_few))

        -- the group was recorded, and memory has settled
        pub done_answered : IsAnswered completing owing false o (on (core_of a t) before s) (on (core_of m u) now after) reply
        done_answered = record {
          ends = subst (λ b. Ends b (core_of a t) o reply (core_of m u) before now) (sym calls_made.up) done;
          powered = record {
            power = λ up. calls_made.up;
            settled = λ up. calls_made.pending;
            image = λ up. subst (λ j. IfSome now (λ d. IsHeaded j.units j.image j.selector d.seen)) (sym keeps) put.headed;
            wanted = λ up. put.wanted;
          };
          slots = λ up. slots_then contents traces r m put.same (put.counts raw decided.records.holds) settles keeps;
          room = λ up. room_then;
          calls = subst (λ b. DeviceCalls (most_calls completing false a.journal o.events) s after b) (sym calls_made.up) calls_made.calls;
          untouched = done_touches _;
        }

      -- the power went
      module _ (records : RecordsLaw) (sound : IsSoundOutcome x o) (left : IsNotPut beside events o.events (kept_on n t before s) (kept_on r u now after))
          (falls : m ≡ record r { is_up = false }) where
        -- memory is as it was, but for its journal, which counts the same
        as_before : present_of r ≡ x
        as_before = ap present_of left.same.is ∙ counts_alike n r.journal left.same.units left.same.image left.counts ∙ ap now_of (decided.waits some)

        cut : IsCutOff (core_of a t) o (Refused MachineDown) (core_of m u) before now
        cut = record {
          says = refl;
          state = ap present_of falls ∙ ap fallen as_before ∙ sym (behind_some x o some);
          keeps = record {
            units = ap (λ (b : MemoryState). b.journal.units) falls ∙ left.same.units ∙ ap (λ (j : JournalState). j.units) decided.journal;
            image = ap (λ (b : MemoryState). b.journal.image) falls ∙ left.same.image ∙ ap (λ (j : JournalState). j.image) decided.journal;
            seen = left.store.seen;
            marks = left.store.marks;
          };
          disk = λ at. subst (λ (d : Durable). IsSomeAnd now (LeavesEitherPlaces t.seen d (after_events d o.events))) recorded_still (left.disk raw (may_record records sound some) (at_first at));
        }

        calls_cut : DeviceCalls (most_calls completing false a.journal o.events) s after true
        calls_cut = more_calls (put_calls beside n.journal o.events) (most_calls completing false a.journal o.events) s after true few_calls (left.calls raw (may_record records sound some))

        pub cut_answered : IsAnswered completing owing false o (on (core_of a t) before s) (on (core_of m u) now after) (Refused MachineDown)
        cut_answered = down_answered completing owing false a m o t u before now s after (ap (λ (b : MemoryState). b.is_up) falls) cut calls_cut cut_touches
