use Rattle.std.proofs.Common.{◌≡◌, ◌+◌, ◌≤◌, ◌++◌, All, List, drop, sum_by}
use Rattle.std.specs.List.{flat_map}
use Rattle.ktm_event.specs.Kept.{Holds}
use Rattle.ktm_event.specs.Spelling.{IsSpellableEvent}
use Rattle.ktm_world.specs.Sizes.{event_size}
use Rattle.ktm_world.specs.declared.event.Event.{Event}
use Rattle.ktm_world.specs.World.{own_events}
use Rattle.ktm_restart.proofs.own.push_all_own.Given as goal

-- what is left fits, and with it the list has all
abbrev pub invariant-loop-transaction : goal.invariant-loop-transaction
invariant-loop-transaction l =
    let left = flat_map own_events (drop l.transaction-index l.transactions) in
    record {
      spelled : All IsSpellableEvent left;
      adds : (group : List Event) → Holds l.initial.events group → (so_far : List Event) × Holds l.events so_far × (so_far ++ left ≡ group ++ flat_map own_events l.transactions);
      spare : l.events.spare + sum_by event_size (flat_map own_events l.transactions) ≡ l.initial.events.spare + sum_by event_size left;
      room : l.events.room ≡ l.initial.events.room;
      capacity : l.initial.events.capacity ≤ l.events.capacity;
    }
