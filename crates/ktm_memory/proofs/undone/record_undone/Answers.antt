use Rattle.std.proofs.Common.{◌≡◌, ◌≤◌, ℕ, ◌+◌, ◌++◌, [], All, List, drop, filter, sum_by, append-nil, append_assoc, refl, ap, sym, subst, ◌∙◌, arith}
use Rattle.std.specs.List.{flat_map}
use Rattle.ktm_event.proofs.Joined.{first_spelled, sizes_both}
use Rattle.ktm_event.specs.Kept.{EventsState, Holds}
use Rattle.ktm_event.specs.Spelling.{IsSpellableEvent}
use Rattle.ktm_world.specs.Sizes.{event_size}
use Rattle.ktm_world.specs.declared.event.Event.{Event}
use Rattle.ktm_world.specs.declared.object.Transaction.{Transaction}
use Rattle.ktm_world.specs.Transactions.{is_live}
use Rattle.ktm_world.specs.TransactionCalls.{later}
use Rattle.ktm_standing.specs.Effects.{undo_of}
use Rattle.ktm_memory.proofs.UndoneLive.{undone_all, undone_here, undone_over, undone_same}
use Rattle.ktm_memory.proofs.undone.record_undone.Goals as goal
use Rattle.ktm_memory.proofs.undone.record_undone.Goals.{In-loop-place, in-Some, in_default}

module _ (c : In-loop-place) where
  abbrev clock : ℕ
  clock = later c.args.tm.now.now.clock c.args.ms

  abbrev live : List Transaction
  live = filter is_live c.args.tm.now.now.items

  -- what is recorded of those behind this place
  abbrev behind : List Event
  behind = flat_map (undo_of clock) (drop (c.loop-place.place + 1) live)

pub loop-place-init : goal.loop-place-init
loop-place-init c =
    let live = filter is_live c.args.tm.now.now.items in
    let same = undone_same (later c.args.tm.now.now.clock c.args.ms) (drop c.due_from-place.result live) live c.due_from-place.ensures in
    record {
      spelled = subst (All IsSpellableEvent) (sym same) c.requires.spelled;
      fits = omega (arith, c.requires.fits, ap (sum_by event_size) same);
      holds = ([], c.requires.empty, same);
      room = refl;
    }

pub record_one-requires-clause-spelled : goal.record_one-requires-clause-spelled
record_one-requires-clause-spelled c =
    let d = (goal.at.record_one-requires-clause-spelled c).In-loop-place in
    let split = undone_here (clock d) (live d) c.loop-place.place c.in-Some.t (sym c.live_at.ensures ∙ c.in-Some.is) in
    (first_spelled (undo_of (clock d) c.in-Some.t) (behind d) (subst (All IsSpellableEvent) split c.loop-place.invariant.spelled)).0

pub record_one-requires-clause-fits : goal.record_one-requires-clause-fits
record_one-requires-clause-fits c =
    let d = (goal.at.record_one-requires-clause-fits c).In-loop-place in
    let split = ap (sum_by event_size) (undone_here (clock d) (live d) c.loop-place.place c.in-Some.t (sym c.live_at.ensures ∙ c.in-Some.is)) ∙ sizes_both (undo_of (clock d) c.in-Some.t) (behind d) in
    omega (arith, c.loop-place.invariant.fits, split)

pub loop-place-preserved : goal.loop-place-preserved
loop-place-preserved c =
    let d = (goal.at.loop-place-preserved c).In-loop-place in
    elim c.match-live_at.branch [
      | in-Some w ↦
          (let one = undo_of (clock d) w.in-Some.t in
          let split = undone_here (clock d) (live d) c.loop-place.place w.in-Some.t (sym c.live_at.ensures ∙ w.in-Some.is) in
          let so_far = c.loop-place.invariant.holds in
          subst (λ (events : EventsState). record {
            spelled : All IsSpellableEvent (behind d);
            fits : sum_by event_size (behind d) ≤ events.spare;
            holds : (all : List Event) × Holds events all × (all ++ behind d ≡ flat_map (undo_of (clock d)) (live d));
            room : events.room ≡ c.args.events.now.room;
          }) (sym w.events-is) (record {
            spelled = (first_spelled one (behind d) (subst (All IsSpellableEvent) split c.loop-place.invariant.spelled)).1;
            fits = omega (arith, c.loop-place.invariant.fits, ap (sum_by event_size) split ∙ sizes_both one (behind d), w.record_one.ensures.spare);
            holds = (so_far.0 ++ one, w.record_one.ensures.adds so_far.0 so_far.1, append_assoc so_far.0 one (behind d) ∙ ap (λ (es : List Event). so_far.0 ++ es) (sym split) ∙ so_far.2);
            room = w.record_one.ensures.room ∙ c.loop-place.invariant.room;
          }))
      | in_default w ↦
          (let same = undone_over (clock d) (live d) c.loop-place.place (sym c.live_at.ensures ∙ w.in_default.is) in
          let so_far = c.loop-place.invariant.holds in
          subst (λ (events : EventsState). record {
            spelled : All IsSpellableEvent (behind d);
            fits : sum_by event_size (behind d) ≤ events.spare;
            holds : (all : List Event) × Holds events all × (all ++ behind d ≡ flat_map (undo_of (clock d)) (live d));
            room : events.room ≡ c.args.events.now.room;
          }) (sym w.events-is) (record {
            spelled = subst (All IsSpellableEvent) same c.loop-place.invariant.spelled;
            fits = omega (arith, c.loop-place.invariant.fits, ap (sum_by event_size) same);
            holds = (so_far.0, so_far.1, ap (λ (es : List Event). so_far.0 ++ es) (sym same) ∙ so_far.2);
            room = c.loop-place.invariant.room;
          }))
    ]

pub returns-clause-holds : goal.returns-clause-holds
returns-clause-holds c =
    let so_far = c.loop-place.invariant.holds in
    let none = undone_all (later c.args.tm.now.now.clock c.args.ms) c.args.tm.now.now.items c.loop-place.place (omega (arith, c.live_count-place-end.ensures, c.loop-place-test.false)) in
    subst (Holds c.loop-place.events) (sym (append-nil so_far.0) ∙ ap (λ (es : List Event). so_far.0 ++ es) (sym none) ∙ so_far.2) so_far.1
