-- What fits an empty log fits a list of events.
use Rattle.std.proofs.Common.{◌≤◌, List, [], sum_by, arith}
use Rattle.ktm_event.specs.Kept.{EventsState, Holds}
use Rattle.ktm_journal.specs.Image.{JournalState}
use Rattle.ktm_world.specs.Sizes.{event_size}
use Rattle.ktm_world.specs.declared.event.Event.{Event}
use Rattle.ktm_room.specs.Frames.{FitsEmptyLog}
use Rattle.ktm_memory.specs.Memory.{IsRoomy}

-- an empty list has room for events that fit an empty log
pub fits : (j : JournalState) (events : EventsState) (group : List Event) → IsRoomy j events → Holds events [] → FitsEmptyLog j.units group → sum_by event_size group ≤ events.spare
fits j events group roomy empty small = omega (arith, small, roomy.room, empty.sizes)
