-- Parts of transactions as they are recorded, with contents on pages, and as a state has them, with the places of bytes.
use Rattle.std.specs.Prelude.{◌≡◌, ◌+◌, ◌/◌, ◌==◌, ◌&&◌, Bool, true, false, length, map, Result, Ok, Err}
use Rattle.std.specs.List.{list_all}
use Rattle.ktm_content.specs.Places.{places_on}
use Rattle.ktm_event.specs.declared.fault.EventFault.{EventFault}
use Rattle.ktm_event.specs.declared.fault.EventFault.TheVariants.{NotAnEvent, NoMemory}
use Rattle.ktm_world.specs.declared.change.Change.{Change}
use Rattle.ktm_world.specs.declared.change.Change.TheVariants.{Put, Cut}
use Rattle.ktm_world.specs.declared.change.Contents.{Contents}
use Rattle.ktm_world.specs.declared.change.Contents.TheVariants.{Whole, Paged}
use Rattle.ktm_world.specs.declared.event.Part.{Part}
use Rattle.ktm_world.specs.declared.event.Part.TheVariants.{Changes}

-- has each unit of recorded contents, which begin a unit, a page
abbrev pub has_page_each : Contents → Bool
has_page_each (Whole bytes) = false
has_page_each (Paged len pages) = length pages == (len + 4095) / 4096

-- is it a recorded change of a transaction's work: a file is cut to nothing, and its bytes are put from the first one on
abbrev pub is_of_work : Change → Bool
is_of_work (Put node offset contents) = offset == 0 && has_page_each contents
is_of_work (Cut node size pages) = size == 0 && length pages == 0
is_of_work _ = true

-- are the changes of a recorded part such ones
abbrev pub is_work : Part → Bool
is_work (Changes changes) = list_all is_of_work changes
is_work _ = true

-- contents as the places of their bytes
abbrev pub placed : Contents → Contents
placed (Whole bytes) = Whole bytes
placed (Paged len pages) = Whole (places_on pages len)

-- a recorded change of a transaction's work as a state has it
abbrev pub placed_change : Change → Change
placed_change (Put node offset contents) = Put node offset (placed contents)
placed_change change = change

-- a recorded part as a state has it
abbrev pub placed_part : Part → Part
placed_part (Changes changes) = Changes (map placed_change changes)
placed_part part = part

-- the thing as a state has it, if it is one of a transaction's work; memory may be missing
abbrev pub IsPlaced : {X : Type 0} → Bool → X → Result X EventFault → Type 0
IsPlaced is x (Ok y) = (is ≡ true) × (y ≡ x)
IsPlaced is x (Err NotAnEvent) = is ≡ false
IsPlaced is x (Err NoMemory) = Unit {0}
