-- What is recorded with pages means: the same change, with the place of each byte on them.
use Rattle.std.specs.Prelude.{ℕ, ◌+◌, ◌-◌, ◌*◌, ◌/◌, ◌^◌, ◌==◌, ◌&&◌, Bool, true, false, min, max, nat_lt, List, [], length, map, Option, Some, None, if◌then◌else◌}
use Rattle.std.specs.List.{list_all, flat_map}
use Rattle.ktm_world.specs.declared.change.Change.{Change}
use Rattle.ktm_world.specs.declared.change.Change.TheVariants.{Put, Cut}
use Rattle.ktm_world.specs.declared.change.Contents.TheVariants.{Whole, Paged}
use Rattle.ktm_world.specs.declared.event.Event.{Event}
use Rattle.ktm_world.specs.declared.event.Event.TheVariants.{Plain, Ready, Single}
use Rattle.ktm_world.specs.declared.event.Part.{Part}
use Rattle.ktm_world.specs.declared.event.Part.TheVariants.{Changes}
use Rattle.ktm_content.specs.Places.{places_on}
use Rattle.ktm_world.specs.Changes.{node_of}
use Rattle.ktm_world.specs.Durable.{changes_in}
use Rattle.ktm_world.specs.Tree.{Tree, bytes_of}
use Rattle.txf_laws.specs.Grammatical.{changes_of_event}

-- ---- units

-- the first unit that is touched where bytes are put at an offset into a file of so many bytes
abbrev pub first_unit : ℕ → ℕ → ℕ
first_unit size offset = min size offset / 4096

-- the end of the last unit that has a byte in front of this end
abbrev pub end_of_units : ℕ → ℕ
end_of_units end = (end + 4095) / 4096 * 4096

-- how many units have a byte in front of this end, from this one on
abbrev pub units_from : ℕ → ℕ → ℕ
units_from unit end = (end + 4095) / 4096 - unit

-- the end of the bytes in the units that are touched where bytes are put up to this end into a file of so many bytes
abbrev pub end_touched : ℕ → ℕ → ℕ
end_touched size end = min (max size end) (end_of_units end)

-- ---- changes

-- the bytes on pages are put into a file, from the begin of a unit up to an end
abbrev pub put_on : ℕ → ℕ → ℕ → List ℕ → Change
put_on node unit end pages = Put node (unit * 4096) (Whole (places_on pages (end - unit * 4096)))

-- what a change of a file of so many bytes means, which is recorded with the pages of the units that it touches
abbrev pub meant : ℕ → Change → Change
meant size (Put node offset (Paged len pages)) = put_on node (first_unit size offset) (end_touched size (offset + len)) pages
meant size (Cut node end pages) = if nat_lt size end then put_on node (size / 4096) end pages else Cut node end []
meant size change = change

-- the pages that a change names
abbrev pub pages_in : Change → List ℕ
pages_in (Put node offset (Paged len pages)) = pages
pages_in (Cut node end pages) = pages
pages_in _ = []

-- has a change of a file of so many bytes one page for each unit that it touches, and do its bytes end where a size can say it
abbrev pub has_its_pages : ℕ → Change → Bool
has_its_pages size (Put node offset (Paged len pages)) = nat_lt (offset + len) (2 ^ 64) && length pages == units_from (first_unit size offset) (offset + len)
has_its_pages size (Put node offset (Whole bytes)) = false
has_its_pages size (Cut node end pages) = length pages == (if nat_lt size end then units_from (size / 4096) end else 0)
has_its_pages size _ = true

-- what the change means, if it has its pages
abbrev pub meant_if_paged : ℕ → Change → Option Change
meant_if_paged size change = if has_its_pages size change then Some (meant size change) else None

-- ---- what is recorded

-- how many bytes the file of a change has
abbrev pub size_before : Tree → Change → ℕ
size_before tree change = length (bytes_of tree (node_of change))

-- what a part means: in the form in which a transaction's changes are recorded each file is cut to nothing before bytes are put
abbrev pub meant_part : Part → Part
meant_part (Changes changes) = Changes (map (meant 0) changes)
meant_part part = part

-- what an event means where these are the committed files
abbrev pub meant_event : Tree → Event → Event
meant_event tree (Plain change) = Plain (meant (size_before tree change) change)
meant_event tree (Ready transaction part) = Ready transaction (meant_part part)
meant_event tree (Single transaction part) = Single transaction (meant_part part)
meant_event tree event = event

-- does a change put no bytes but from the begin of its file on
abbrev pub begins_file : Change → Bool
begins_file (Put node offset contents) = offset == 0
begins_file _ = true

-- has a change of a transaction its pages, in the form in which it is recorded
abbrev pub has_work_pages : Change → Bool
has_work_pages change = begins_file change && has_its_pages 0 change

-- has each change of an event its pages
abbrev pub has_event_its_pages : Tree → Event → Bool
has_event_its_pages tree (Plain change) = has_its_pages (size_before tree change) change
has_event_its_pages tree (Ready transaction part) = list_all has_work_pages (changes_in part)
has_event_its_pages tree (Single transaction part) = list_all has_work_pages (changes_in part)
has_event_its_pages tree _ = true

-- the pages that an event names
abbrev pub pages_of_event : Event → List ℕ
pages_of_event event = flat_map pages_in (changes_of_event event)
