-- How many bytes events take at least.
use Rattle.std.proofs.Common.{◌*◌, ◌≤◌, length, sum_by, List, [], ◌∷◌, arith}
use Rattle.std.proofs.lemmas.List.Sums.{sum_by-cons}
use Rattle.ktm_world.specs.declared.event.Event.{Event}
use Rattle.ktm_world.specs.declared.event.Event.TheVariants.{Boot, MadeRm, Plain, Ready, Single, Held, Decide, Undo, Done}
use Rattle.ktm_world.specs.declared.change.Change.{Change}
use Rattle.ktm_world.specs.declared.change.Change.TheVariants.{Make, Put, Cut, Move, Drop}
use Rattle.ktm_world.specs.Sizes.{change_size, event_size}

-- an event takes five bytes at least
pub event_size-least : (event : Event) → 5 ≤ event_size event
event_size-least (Boot boot) = omega arith
event_size-least (MadeRm manager) = omega arith
event_size-least (Plain change) = let least = change_size-least change in omega arith
  where
    change_size-least : (change : Change) → 4 ≤ change_size change
    change_size-least (Make node parent kind name) = omega arith
    change_size-least (Put node offset contents) = omega arith
    change_size-least (Cut node size pages) = omega arith
    change_size-least (Move node parent name) = omega arith
    change_size-least (Drop node) = omega arith
event_size-least (Ready transaction part) = omega arith
event_size-least (Single transaction part) = omega arith
event_size-least (Held transaction enlistment manager information) = omega arith
event_size-least (Decide transaction) = omega arith
event_size-least (Undo transaction) = omega arith
event_size-least (Done transaction done) = omega arith

pub events_size-least : (events : List Event) → 5 * length events ≤ sum_by event_size events
events_size-least [] = omega arith
events_size-least (event ∷ events) = omega (arith, event_size-least event, events_size-least events, sum_by-cons event_size event events)
