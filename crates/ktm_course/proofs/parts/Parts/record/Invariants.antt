use Rattle.std.proofs.Common.{◌≡◌, ◌+◌, ◌≤◌, ◌++◌, All, List, drop, sum_by}
use Rattle.ktm_event.specs.Kept.{Holds}
use Rattle.ktm_event.specs.Spelling.{IsSpellableEvent}
use Rattle.ktm_world.specs.Sizes.{event_size}
use Rattle.ktm_world.specs.declared.event.Event.{Event}
use Rattle.ktm_world.specs.Steps.{Basis, events_ahead}
use Rattle.ktm_course.specs.Recorded.{IsBasis}
use Rattle.ktm_course.proofs.parts.Parts.record.Given as goal

-- what the steps that are left record fits, and with it the list has all
abbrev pub invariant-loop-step : goal.invariant-loop-step
invariant-loop-step g l = record {
  spelled : (b : Basis) → IsBasis g.F.WrittenFiles.files b l.transaction l.recorded l.self → All IsSpellableEvent (events_ahead (drop l.step-index l.steps) b);
  fits : (b : Basis) → IsBasis g.F.WrittenFiles.files b l.transaction l.recorded l.self → sum_by event_size (events_ahead (drop l.step-index l.steps) b) ≤ l.events.spare;
  adds : (b : Basis) (group : List Event) → IsBasis g.F.WrittenFiles.files b l.transaction l.is_recorded l.self → Holds l.initial.events group
      → (so_far : List Event) × Holds l.events so_far
      × (so_far ++ events_ahead (drop l.step-index l.steps) (record b { is_recorded = l.recorded }) ≡ group ++ events_ahead l.steps b);
  spare : (b : Basis) → IsBasis g.F.WrittenFiles.files b l.transaction l.is_recorded l.self
      → l.events.spare + sum_by event_size (events_ahead l.steps b)
      ≡ l.initial.events.spare + sum_by event_size (events_ahead (drop l.step-index l.steps) (record b { is_recorded = l.recorded }));
  room : l.events.room ≡ l.initial.events.room;
}
