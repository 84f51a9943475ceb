use Rattle.std.proofs.Common.{◌≡◌, ◌≤◌, ◌++◌, All, List, drop, filter, sum_by}
use Rattle.std.specs.List.{flat_map}
use Rattle.ktm_event.specs.Kept.{Holds}
use Rattle.ktm_event.specs.Spelling.{IsSpellableEvent}
use Rattle.ktm_world.specs.Sizes.{event_size}
use Rattle.ktm_world.specs.declared.event.Event.{Event}
use Rattle.ktm_world.specs.Transactions.{is_live}
use Rattle.ktm_world.specs.TransactionCalls.{later}
use Rattle.ktm_standing.specs.Effects.{undo_of}
use Rattle.ktm_memory.proofs.undone.record_undone.Given as goal

-- what is recorded of those from this place on fits, and with it the list has all
abbrev pub invariant-loop-place : goal.invariant-loop-place
invariant-loop-place l =
    let live = filter is_live l.tm.now.items in
    let left = flat_map (undo_of (later l.tm.now.clock l.ms)) (drop l.place live) in
    record {
      spelled : All IsSpellableEvent left;
      fits : sum_by event_size left ≤ l.events.spare;
      holds : (so_far : List Event) × Holds l.events so_far × (so_far ++ left ≡ flat_map (undo_of (later l.tm.now.clock l.ms)) live);
      room : l.events.room ≡ l.initial.events.room;
    }
