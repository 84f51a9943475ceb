-- How an outcome ends that records nothing where the pages that wait in memory are written behind it.
use Rattle.std.proofs.Common.{◌≡◌, ℕ, ◌+◌, ◌≤◌, Bool, true, false, List, [], ◌∷◌, Option, refl, sym, ◌∙◌, ap, subst, arith, inl, inr}
use Rattle.std.proofs.lemmas.Bool.{both_ways}
use Rattle.std.specs.Prelude.{IsSomeAnd}
use Rattle.ktm_base.proofs.offered.Images.{calls_law}
use Rattle.ktm_base.specs.declared.refusal.Refusal.TheVariants.{MachineDown}
use Rattle.ktm_base.specs.Disk.{DeviceCalls, DiskState, DiskStatus}
use Rattle.ktm_journal.specs.Image.{JournalState, page_count}
use Rattle.ktm_log.specs.OnDisk.{OnDisk, on}
use Rattle.ktm_memory.specs.Memory.{MemoryState, present_of}
use Rattle.ktm_store.specs.Store.{StoreState}
use Rattle.ktm_world.specs.declared.event.Event.{Event}
use Rattle.ktm_world.specs.declared.reply.Reply.{Reply}
use Rattle.ktm_world.specs.declared.reply.Reply.TheVariants.{Refused}
use Rattle.ktm_world.specs.Durable.{Durable, after_events}
use Rattle.ktm_world.specs.Outcome.{Outcome, apply}
use Rattle.ktm_world.specs.Present.{Present}
use Rattle.ktm_core.specs.Answers.{IsAnswered}
use Rattle.ktm_core.specs.Core.{CoreState, HoldsPlaces, LeavesEitherPlaces, core_of}
use Rattle.ktm_core.specs.Done.{Ends, IsCutOff, IsDone, TouchesNothing, fallen, most_calls, page_calls, waiting_calls}
use Rattle.ktm_core.specs.Recording.{AreWaitingTorn, AreWaitingWritten, is_refusal}
use Rattle.ktm_core.proofs.Ends.{behind_none, down_answered}
use Rattle.ktm_core.proofs.Groups.{more_calls}

-- ---- none is written

none_waiting : (units : ℕ) (es : List Event) → waiting_calls false units es ≡ 0
none_waiting units [] = refl
none_waiting units (e ∷ es) = refl

touches_less : (owing writing : Bool) (j : JournalState) (o : Outcome) (reply : Reply) → TouchesNothing owing writing j o reply → TouchesNothing owing false j o reply
touches_less owing writing j o reply touches = elim touches [ inl refused ↦ inl refused | inr (none, free, out) ↦ inr (none, free, refl) ]

-- what may write pages that wait may leave them
pub unwritten : (completing owing writing : Bool) (o : Outcome) (old new : OnDisk CoreState) (reply : Reply) → IsAnswered completing owing false o old new reply → IsAnswered completing owing writing o old new reply
unwritten completing owing writing o old new reply answered = record {
  ends = answered.ends;
  powered = answered.powered;
  slots = answered.slots;
  room = answered.room;
  calls = more_calls (most_calls completing false old.it.journal o.events) (most_calls completing writing old.it.journal o.events) old.status new.status new.status.is_down (omega (arith, none_waiting old.it.journal.units o.events)) answered.calls;
  untouched = λ nothing. answered.untouched (touches_less owing writing old.it.journal o reply nothing);
}

-- ---- they are written

module _ (completing owing : Bool) (a m : MemoryState) (o : Outcome) (reply : Reply) (t u : StoreState) (before mid : Option DiskState) (s s1 : DiskStatus)
    (answered : IsAnswered completing owing false o (on (core_of a t) before s) (on (core_of m u) mid s1) reply) (up : (present_of a).machine.is_up ≡ true) (accepted : is_refusal reply ≡ false) where
  abbrev x : Present
  x = present_of a

  done : IsDone (core_of a t) o reply (core_of m u) before mid
  done = by s1.is_down answered.ends
    where
      by : (b : Bool) → Ends b (core_of a t) o reply (core_of m u) before mid → IsDone (core_of a t) o reply (core_of m u) before mid
      by false is = is
      by true cut = absurd (both_ways (is_refusal reply) accepted (ap is_refusal cut.says))

  -- the machine is up
  still_up : m.is_up ≡ true
  still_up = ap (λ (y : Present). y.machine.is_up) done.state ∙ up

  pub same_marks : u.marks ≡ t.marks
  same_marks = done.keeps.marks

  same_units : m.journal.units ≡ a.journal.units
  same_units = done.keeps.units

  accepted_touches : TouchesNothing owing true a.journal o reply → ⊥
  accepted_touches touches = elim touches [
    | inl (refusal, is, other) ↦ both_ways (is_refusal reply) accepted (ap is_refusal is)
    | inr (no_event, no_room, no_unit) ↦ (let both : true ≡ false = no_unit in cc)
  ]

  down_touches : TouchesNothing owing true a.journal o (Refused MachineDown) → ⊥
  down_touches touches = elim touches [
    | inl (refusal, is, other) ↦ (let down : refusal ≡ MachineDown = cc in other down)
    | inr (no_event, no_room, no_unit) ↦ (let both : true ≡ false = no_unit in cc)
  ]

  module _ (none : o.events ≡ []) (v : StoreState) (now : Option DiskState) (s2 : DiskStatus) where
    few_calls : most_calls completing false a.journal o.events + page_calls (page_count m.journal.units) ≤ most_calls completing true a.journal o.events
    few_calls =
        subst (λ (es : List Event). most_calls completing false a.journal es + page_calls (page_count m.journal.units) ≤ most_calls completing true a.journal es) (sym none)
        (subst (λ n. most_calls completing false a.journal [] + page_calls (page_count n) ≤ most_calls completing true a.journal []) (sym same_units) (omega arith))

    -- it was up between them
    first_calls : DeviceCalls (most_calls completing false a.journal o.events) s s1 false
    first_calls = subst (λ b. DeviceCalls (most_calls completing false a.journal o.events) s s1 b) (answered.powered.power still_up) answered.calls

    then_calls : (refused : Bool) → DeviceCalls (page_calls (page_count m.journal.units)) s1 s2 refused → DeviceCalls (most_calls completing true a.journal o.events) s s2 refused
    then_calls refused calls =
        more_calls (most_calls completing false a.journal o.events + page_calls (page_count m.journal.units)) (most_calls completing true a.journal o.events) s s2 refused few_calls
        (calls_law s s1 s2 (most_calls completing false a.journal o.events) (page_calls (page_count m.journal.units)) refused first_calls calls)

    module _ (written : AreWaitingWritten m.journal u v mid now s1 s2) where
      written_done : IsDone (core_of a t) o reply (core_of m v) before now
      written_done = record {
        says = done.says;
        state = done.state;
        keeps = record { units = done.keeps.units; image = done.keeps.image; seen = written.store.seen ∙ done.keeps.seen; marks = written.store.marks ∙ done.keeps.marks };
        disk = λ at. written.disk (present_of m).recorded (done.disk at);
      }

      pub written_answered : IsAnswered completing owing true o (on (core_of a t) before s) (on (core_of m v) now s2) reply
      written_answered = record {
        ends = subst (λ b. Ends b (core_of a t) o reply (core_of m v) before now) (sym written.synced.up) written_done;
        powered = record {
          power = λ on. written.synced.up;
          settled = λ on. written.synced.pending;
          image = λ on. written.headed;
          wanted = λ on. written.wanted;
        };
        slots = answered.slots;
        room = answered.room;
        calls = subst (λ b. DeviceCalls (most_calls completing true a.journal o.events) s s2 b) (sym written.synced.up) (then_calls false written.synced.calls);
        untouched = λ nothing. absurd (accepted_touches nothing);
      }

    -- the power went meanwhile
    module _ (torn : AreWaitingTorn m.journal u v mid now s1 s2) (f : MemoryState) (falls : f ≡ record m { is_up = false }) where
      torn_disk : IsSomeAnd before (HoldsPlaces (core_of a t)) → IsSomeAnd now (LeavesEitherPlaces t.seen x.recorded (apply x o).recorded)
      torn_disk at =
          let became : (present_of m).recorded ≡ (apply x o).recorded = ap (λ (y : Present). y.recorded) done.state in
          let was : (present_of m).recorded ≡ x.recorded = became ∙ ap (λ (es : List Event). after_events x.recorded es) none in
          let same = (present_of m).recorded in
          subst (λ (row : List ℕ). IsSomeAnd now (LeavesEitherPlaces row x.recorded (apply x o).recorded)) done.keeps.seen
          (subst (λ (d : Durable). IsSomeAnd now (LeavesEitherPlaces u.seen d (apply x o).recorded)) was
          (subst (λ (d : Durable). IsSomeAnd now (LeavesEitherPlaces u.seen same d)) became (torn.disk same (done.disk at))))

      torn_cut : IsCutOff (core_of a t) o (Refused MachineDown) (core_of f v) before now
      torn_cut = record {
        says = refl;
        state = ap present_of falls ∙ ap fallen done.state ∙ sym (behind_none x o none);
        keeps = record {
          units = ap (λ (b : MemoryState). b.journal.units) falls ∙ done.keeps.units;
          image = ap (λ (b : MemoryState). b.journal.image) falls ∙ done.keeps.image;
          seen = torn.store.seen ∙ done.keeps.seen;
          marks = torn.store.marks ∙ done.keeps.marks;
        };
        disk = torn_disk;
      }

      pub torn_answered : IsAnswered completing owing true o (on (core_of a t) before s) (on (core_of f v) now s2) (Refused MachineDown)
      torn_answered = down_answered completing owing true a f o t v before now s s2 (ap (λ (b : MemoryState). b.is_up) falls) torn_cut (then_calls true torn.calls) down_touches
