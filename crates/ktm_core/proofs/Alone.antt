-- How an outcome ends that records nothing: memory settles at once, and room is made in the log behind that, where it is lacking.
use Rattle.std.proofs.Common.{◌≡◌, ◌+◌, ◌≤◌, ◌&&◌, not, Bool, true, false, List, [], length, Option, Ok, Err, refl, sym, ◌∙◌, ap, subst, arith, inl, inr}
use Rattle.std.proofs.lemmas.Bool.{and_parts, both_ways, not-true}
use Rattle.std.specs.Prelude.{IfSome, IsSomeAnd}
use Rattle.ktm_base.proofs.offered.ToldSteps.{IsSomeAnd-map}
use Rattle.ktm_base.specs.declared.fault.Down.{Down}
use Rattle.ktm_base.specs.declared.refusal.Refusal.TheVariants.{MachineDown}
use Rattle.ktm_base.specs.Disk.{DeviceCalls, DiskState, DiskStatus}
use Rattle.ktm_debts.specs.Debts.{debts}
use Rattle.ktm_each.specs.Each.{EachOfDurable}
use Rattle.ktm_event.specs.Kept.{EventsState}
use Rattle.ktm_journal.specs.Image.{IsHeaded, JournalState, page_count}
use Rattle.ktm_log.specs.OnDisk.{OnDisk, on}
use Rattle.ktm_memory.specs.declared.settlement.Settlement.{Settlement}
use Rattle.ktm_memory.specs.Decided.{Decides}
use Rattle.ktm_memory.specs.Memory.{MemoryState, SettlesGood, held, present_of}
use Rattle.ktm_memory.specs.Settled.{left_to_do}
use Rattle.ktm_memory.proofs.offered.Standing.{kept as kept_now}
use Rattle.ktm_paged.specs.Paged.{IsSound}
use Rattle.ktm_restart.specs.Logs.{JournalFor}
use Rattle.ktm_saving.specs.Saved.{IsHalfSaved, IsSaved}
use Rattle.ktm_slots.specs.Owed.{owed_slots}
use Rattle.ktm_standing.specs.Standing.{IsStandingNow}
use Rattle.ktm_store.specs.Store.{StoreState}
use Rattle.ktm_trace.specs.Contents.{ContentsLaw, KeptLaw}
use Rattle.ktm_world.specs.declared.event.Event.{Event}
use Rattle.ktm_world.specs.declared.reply.Reply.{Reply}
use Rattle.ktm_world.specs.declared.reply.Reply.TheVariants.{Refused}
use Rattle.ktm_world.specs.Durable.{Durable, after_events}
use Rattle.ktm_world.specs.Groups.{Group}
use Rattle.ktm_world.specs.Outcome.{Outcome, apply}
use Rattle.ktm_world.specs.Sizes.{area_len}
use Rattle.ktm_world.specs.Present.{Present}
use Rattle.ktm_core.specs.Answers.{IsAnswered}
use Rattle.ktm_core.specs.Core.{HoldsPlaces, HoldsState, IsPowered, LeavesEitherPlaces, core_of, log_left}
use Rattle.ktm_core.specs.Done.{Ends, IsCutOff, IsDone, TouchesNothing, fallen, lacks_room, makes_room, most_calls}
use Rattle.ktm_core.specs.Recording.{IsSameMemory, RoomLeaves, is_refusal, may_rise}
use Rattle.ktm_core.proofs.Asks.{GoesWell}
use Rattle.ktm_core.proofs.Ends.{IsSoundOutcome, behind_none, down_answered, now_then, raw, raw_none, slots_then}
use Rattle.ktm_core.proofs.Groups.{compacted_left, more_calls}
use Rattle.ktm_core.proofs.Journals.{saved_for, saved_or_not, saved_pages}
use Rattle.ktm_core.proofs.Debts.{room_empty, room_still}
use Rattle.ktm_core.proofs.Puts.{holds-with, leaves-with}
use Rattle.ktm_core.proofs.Writing.{no-calls}

-- memory is as it was
pub itself : (n : MemoryState) → IsSameMemory n n
itself n = record { is = refl; units = refl; image = refl }

module _ (completing owing : Bool) (a : MemoryState) (o : Outcome) (reply : Reply) (rest : Settlement) (events : EventsState) (n : MemoryState) (decided : Decides (held a) o reply rest events n)
    (well : GoesWell completing owing (present_of a) o n.tm.slots (log_left a.journal)) (none : o.events ≡ []) (contents : ContentsLaw) (traces : KeptLaw) (m : MemoryState) (settles : SettlesGood n (λ y. left_to_do y rest) m) (keeps : m.journal ≡ n.journal) where
  abbrev was : Present
  was = present_of a

  none_more : n.journal.events ≡ n.journal.events + length (raw completing owing a o reply rest events n decided well)
  none_more = let empty : length (raw completing owing a o reply rest events n decided well) ≡ 0 = ap (λ (l : Group). length l) (raw_none completing owing a o reply rest events n decided well none) in omega (arith, empty)

  -- memory is what the outcome makes of what was so
  now_is : present_of m ≡ apply was o
  now_is = now_then completing owing a o reply rest events n decided well contents traces n m (itself n) none_more settles keeps

  pub stands_alone : IsStandingNow (present_of m)
  stands_alone = subst IsStandingNow (sym now_is) well.goes_on

  slots_alone : owed_slots (present_of m) ≤ m.tm.slots
  slots_alone = slots_then completing owing a o reply rest events n decided well contents traces n m (itself n) none_more settles keeps

  journal_is : m.journal ≡ a.journal
  journal_is = keeps ∙ decided.journal

  -- nothing that is recorded has changed
  recorded_is : (present_of m).recorded ≡ was.recorded
  recorded_is = ap (λ (y : Present). y.recorded) now_is ∙ ap (λ (es : List Event). after_events was.recorded es) none

  module _ (before : Option DiskState) (s : DiskStatus) (t : StoreState) (powered : IsPowered (core_of a t) before s) (up : was.machine.is_up ≡ true) where
    holds_still : IsSomeAnd before (HoldsPlaces (core_of a t)) → IsSomeAnd before (HoldsPlaces (core_of m t))
    holds_still at = subst (λ (j : JournalState). IsSomeAnd before (HoldsState j (present_of m).recorded t)) (sym journal_is) (subst (λ (d : Durable). IsSomeAnd before (HoldsState a.journal d t)) (sym recorded_is) at)

    -- ---- nothing more was done

    done : IsDone (core_of a t) o reply (core_of m t) before before
    done = record {
      says = decided.says;
      state = now_is;
      keeps = record { units = ap (λ (j : JournalState). j.units) journal_is; image = ap (λ (j : JournalState). j.image) journal_is; seen = refl; marks = refl };
      disk = holds_still;
    }

    alone_answered : debts (apply was o) + 1 ≤ log_left a.journal → IsAnswered completing owing false o (on (core_of a t) before s) (on (core_of m t) before s) reply
    alone_answered room =
        let on_disk = powered.power up in
        record {
          ends = subst (λ b. Ends b (core_of a t) o reply (core_of m t) before before) (sym on_disk) done;
          powered = record {
            power = λ on. on_disk;
            settled = λ on. powered.settled up;
            image = λ on. subst (λ (j : JournalState). IfSome before (λ d. IsHeaded j.units j.image j.selector d.seen)) (sym journal_is) (powered.image up);
            wanted = λ on. powered.wanted up;
          };
          slots = λ on. slots_alone;
          room = λ on. subst (λ l. debts (present_of m) + 1 ≤ l) (sym (ap log_left journal_is)) (subst (λ (y : Present). debts y + 1 ≤ log_left a.journal) (sym now_is) room);
          calls = subst (λ b. DeviceCalls (most_calls completing false a.journal o.events) s s b) (sym on_disk) (more_calls 0 (most_calls completing false a.journal o.events) s s false (omega arith) (no-calls s));
          untouched = λ nothing. record { told = refl; status = refl };
        }

    -- ---- room was made

    module _ (rises : may_rise owing o.reply ≡ true) (full : lacks_room a.journal [] ≡ true) (sound : IsSoundOutcome was o) where
      owing_is : owing ≡ true
      owing_is = (and_parts owing (not (is_refusal o.reply)) rises).0

      no_refusal : is_refusal o.reply ≡ false
      no_refusal = not-true (is_refusal o.reply) (and_parts owing (not (is_refusal o.reply)) rises).1

      room_wanted : makes_room owing a.journal ≡ false → ⊥
      room_wanted enough = both_ways (makes_room owing a.journal) enough (ap (λ b. b && lacks_room a.journal []) owing_is ∙ full)

      saved_touches : TouchesNothing owing false a.journal o reply → ⊥
      saved_touches touches = elim touches [
        | inl (refusal, is, other) ↦ both_ways (is_refusal o.reply) no_refusal (ap is_refusal (sym decided.says ∙ is))
        | inr (no_event, enough, no_unit) ↦ room_wanted enough
      ]

      cut_touches : TouchesNothing owing false a.journal o (Refused MachineDown) → ⊥
      cut_touches touches = elim touches [
        | inl (refusal, is, other) ↦ (let down : refusal ≡ MachineDown = cc in other down)
        | inr (no_event, enough, no_unit) ↦ room_wanted enough
      ]

      few_calls : 6 ≤ most_calls completing false a.journal o.events
      few_calls = subst (λ (es : List Event). 6 ≤ most_calls completing false a.journal es) (sym none) (rw (well.owes.apart owing_is, full) (omega arith))

      -- what was recorded is good, and each of its places has its owner
      owned : EachOfDurable (IsSound sound.owner (page_count (present_of m).recorded.units)) (present_of m).recorded
      owned = subst (λ (d : Durable). EachOfDurable (IsSound sound.owner (page_count d.units)) d) (sym recorded_is) sound.state

      journal_there : IsSomeAnd before (HoldsPlaces (core_of a t)) → IsSomeAnd before (JournalFor m.journal (present_of m).recorded)
      journal_there at = IsSomeAnd-map before (HoldsPlaces (core_of m t)) (JournalFor m.journal (present_of m).recorded) (holds_still at) (λ d is. is.journal)

      module _ (new : OnDisk MemoryState) where
        module _ (saved : IsSaved (on m before s) new) where
          saved_disk : IsSomeAnd before (HoldsPlaces (core_of a t)) → IsSomeAnd new.told (HoldsPlaces (core_of new.it t))
          saved_disk at =
              subst (λ (d : Durable). IsSomeAnd new.told (HoldsState new.it.journal d t)) (sym (ap (λ (b : MemoryState). (present_of b).recorded) saved.is))
              (holds-with m.journal (present_of m).recorded (present_of m).recorded t (λ there. there) new.it.journal before new.told (ap (λ (b : MemoryState). b.journal.units) saved.is) (holds_still at)
              (saved_for (present_of m).recorded (on m before s) new (kept_now (present_of m) stands_alone).good sound.owner owned (journal_there at) saved) saved.compacts.pages)

          saved_done : IsDone (core_of a t) o reply (core_of new.it t) before new.told
          saved_done = record {
            says = decided.says;
            state = ap present_of saved.is ∙ now_is;
            keeps = record {
              units = ap (λ (b : MemoryState). b.journal.units) saved.is ∙ ap (λ (j : JournalState). j.units) journal_is;
              image = ap (λ (b : MemoryState). b.journal.image) saved.is ∙ ap (λ (j : JournalState). j.image) journal_is;
              seen = refl;
              marks = refl;
            };
            disk = saved_disk;
          }

          saved_room : debts (present_of new.it) + 1 ≤ log_left new.it.journal
          saved_room =
              let left : log_left new.it.journal ≡ area_len a.journal.units = ap (λ (b : MemoryState). log_left b.journal) saved.is ∙ compacted_left m.journal ∙ ap (λ (j : JournalState). area_len j.units) journal_is in
              subst (λ l. debts (present_of new.it) + 1 ≤ l) (sym left)
              (subst (λ (y : Present). debts y + 1 ≤ area_len a.journal.units) (sym (ap present_of saved.is ∙ now_is)) (room_empty was o a.journal refl completing owing well.owes))

          -- a snapshot of what is recorded stands for what the log held
          saved_answered : IsAnswered completing owing false o (on (core_of a t) before s) (on (core_of new.it t) new.told new.status) reply
          saved_answered = record {
            ends = subst (λ b. Ends b (core_of a t) o reply (core_of new.it t) before new.told) (sym saved.compacts.synced.up) saved_done;
            powered = record {
              power = λ on. saved.compacts.synced.up;
              settled = λ on. saved.compacts.synced.pending;
              image = λ on. saved.compacts.headed;
              wanted = λ on. powered.wanted up;
            };
            slots = λ on. subst (λ (b : MemoryState). owed_slots (present_of b) ≤ b.tm.slots) (sym saved.is) slots_alone;
            room = λ on. saved_room;
            calls = subst (λ b. DeviceCalls (most_calls completing false a.journal o.events) s new.status b) (sym saved.compacts.synced.up)
                (more_calls 6 (most_calls completing false a.journal o.events) s new.status false few_calls saved.compacts.synced.calls);
            untouched = λ nothing. absurd (saved_touches nothing);
          }

        -- the power went while it was written
        module _ (half : IsHalfSaved (on m before s) new) (f : MemoryState) (falls : f ≡ record new.it { is_up = false }) where
          half_disk : IsSomeAnd before (HoldsPlaces (core_of a t)) → IsSomeAnd new.told (LeavesEitherPlaces t.seen was.recorded (apply was o).recorded)
          half_disk at =
              let good = (kept_now (present_of m) stands_alone).good in
              let same = (present_of m).recorded in
              let either = saved_or_not same (on m before s) new good sound.owner owned (journal_there at) half in
              let pages = saved_pages same (on m before s) new good sound.owner owned (journal_there at) half in
              subst (λ (d : Durable). IsSomeAnd new.told (LeavesEitherPlaces t.seen d (apply was o).recorded)) recorded_is
              (subst (λ (d : Durable). IsSomeAnd new.told (LeavesEitherPlaces t.seen same d)) (ap (λ (y : Present). y.recorded) now_is)
              (leaves-with m.journal same same t (λ there. there) before new.told refl (holds_still at) either pages))

          half_cut : IsCutOff (core_of a t) o (Refused MachineDown) (core_of f t) before new.told
          half_cut = record {
            says = refl;
            state = ap present_of falls ∙ ap fallen (ap present_of half.same ∙ now_is) ∙ sym (behind_none was o none);
            keeps = record {
              units = ap (λ (b : MemoryState). b.journal.units) falls ∙ ap (λ (b : MemoryState). b.journal.units) half.same ∙ ap (λ (j : JournalState). j.units) journal_is;
              image = ap (λ (b : MemoryState). b.journal.image) falls ∙ ap (λ (b : MemoryState). b.journal.image) half.same ∙ ap (λ (j : JournalState). j.image) journal_is;
              seen = refl;
              marks = refl;
            };
            disk = half_disk;
          }

          half_answered : IsAnswered completing owing false o (on (core_of a t) before s) (on (core_of f t) new.told new.status) (Refused MachineDown)
          half_answered = down_answered completing owing false a f o t t before new.told s new.status (ap (λ (b : MemoryState). b.is_up) falls) half_cut
              (more_calls 6 (most_calls completing false a.journal o.events) s new.status true few_calls half.cut.calls) cut_touches

    -- ---- by whether room was made

    abbrev makes : Bool
    makes = may_rise owing o.reply && lacks_room m.journal []

    abbrev Answered : MemoryState → OnDisk MemoryState → Reply → Type 0
    Answered f new says = IsAnswered completing owing false o (on (core_of a t) before s) (on (core_of f t) new.told new.status) says

    made_ok : (b : Bool) (unit : Unit {0}) (new : OnDisk MemoryState) → IsSoundOutcome was o → makes ≡ b → RoomLeaves b (on m before s) new (Ok unit) → Answered new.it new reply
    made_ok true unit new sound is saved = let both = and_parts (may_rise owing o.reply) (lacks_room m.journal []) is in saved_answered both.0 (ap (λ (j : JournalState). lacks_room j []) (sym journal_is) ∙ both.1) sound new saved
    made_ok false unit new sound is same =
        subst (λ (d : OnDisk MemoryState). Answered d.it d reply) (sym same)
        (alone_answered (room_still was o a.journal refl completing owing well.owes none (subst (λ (j : JournalState). (may_rise owing o.reply && lacks_room j []) ≡ false) journal_is is)))

    -- it was answered
    pub answered_alone : (unit : Unit {0}) (new : OnDisk MemoryState) → IsSoundOutcome was o → RoomLeaves (may_rise owing reply && lacks_room m.journal []) (on m before s) new (Ok unit) → Answered new.it new reply
    answered_alone unit new sound leaves = made_ok makes unit new sound refl (subst (λ r. RoomLeaves (may_rise owing r && lacks_room m.journal []) (on m before s) new (Ok unit)) decided.says leaves)

    made_down : (b : Bool) (down : Down) (new : OnDisk MemoryState) (f : MemoryState) → IsSoundOutcome was o → makes ≡ b → RoomLeaves b (on m before s) new (Err down) → f ≡ record new.it { is_up = false } → Answered f new (Refused MachineDown)
    made_down true down new f sound is half falls = let both = and_parts (may_rise owing o.reply) (lacks_room m.journal []) is in half_answered both.0 (ap (λ (j : JournalState). lacks_room j []) (sym journal_is) ∙ both.1) sound new half f falls
    made_down false down new f sound is never falls = absurd never

    -- the power went
    pub down_alone : (down : Down) (new : OnDisk MemoryState) (f : MemoryState) → IsSoundOutcome was o → RoomLeaves (may_rise owing reply && lacks_room m.journal []) (on m before s) new (Err down) → f ≡ record new.it { is_up = false }
        → Answered f new (Refused MachineDown)
    down_alone down new f sound leaves falls = made_down makes down new f sound refl (subst (λ r. RoomLeaves (may_rise owing r && lacks_room m.journal []) (on m before s) new (Err down)) decided.says leaves) falls
