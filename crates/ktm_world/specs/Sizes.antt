-- How many bytes events take in a log.
use Rattle.std.specs.Prelude.{ℕ, ◌+◌, ◌*◌, ◌/◌, List, length, sum_by, Option, Some, None}
use Rattle.ktm_keyed.specs.declared.keyed.Keyed.{Keyed}
use Rattle.ktm_world.specs.declared.event.Part.{Part}
use Rattle.ktm_world.specs.declared.event.Part.TheVariants.{Enlistment, Changes, Settings}
use Rattle.ktm_world.specs.declared.event.DonePart.{DonePart}
use Rattle.ktm_world.specs.declared.event.DonePart.TheVariants.{Files, Keys}
use Rattle.ktm_world.specs.declared.event.Event.{Event}
use Rattle.ktm_world.specs.declared.event.Event.TheVariants.{Boot, MadeRm, Plain, Ready, Single, Held, Decide, Undo}
use Rattle.ktm_world.specs.declared.change.Change.{Change}
use Rattle.ktm_world.specs.declared.change.Change.TheVariants.{Make, Put, Cut, Move, Drop}
use Rattle.ktm_world.specs.declared.change.Contents.{Contents}
use Rattle.ktm_world.specs.declared.change.Contents.TheVariants.{Whole, Paged}

-- what a key is set to: a tag, and the value behind its length in two bytes
abbrev pub set_to_size : Option (List ℕ) → ℕ
set_to_size None = 1
set_to_size (Some value) = 3 + length value

-- a setting: the key behind its length in one byte, and what it is set to
abbrev pub setting_size : Keyed (Option (List ℕ)) → ℕ
setting_size setting = 1 + length setting.key + set_to_size setting.value

-- a list of pages: a count of four bytes, and four for each
abbrev pub pages_size : List ℕ → ℕ
pages_size pages = 4 + 4 * length pages

-- contents that are put: how many bytes there are, in four bytes, and the pages, of which each has 4,096 of them where they begin a unit
abbrev pub put_size : Contents → ℕ
put_size (Whole bytes) = 8 + 4 * ((length bytes + 4095) / 4096)
put_size (Paged len pages) = 4 + pages_size pages

-- a change: a tag and its fields, of which a number has eight bytes
abbrev pub change_size : Change → ℕ
change_size (Make node parent kind name) = 19 + length name
change_size (Put node offset contents) = 17 + put_size contents
change_size (Cut node size pages) = 17 + pages_size pages
change_size (Move node parent name) = 18 + length name
change_size (Drop node) = 9

-- an enlistment, its resource manager, and its recovery information behind its length in one byte
abbrev pub record_size : List ℕ → ℕ
record_size information = 17 + length information

-- a part: a tag, and an enlistment, or a count of four bytes and the items of a list
abbrev pub part_size : Part → ℕ
part_size (Enlistment enlistment manager information) = 1 + record_size information
part_size (Changes changes) = 5 + sum_by change_size changes
part_size (Settings settings) = 5 + sum_by setting_size settings

-- who is done: a tag, and an enlistment's Id
abbrev pub done_size : DonePart → ℕ
done_size (DonePart.Enlistment enlistment) = 9
done_size Files = 1
done_size Keys = 1

-- an event: a tag and its fields, of which an Id has eight bytes
abbrev pub event_size : Event → ℕ
event_size (Boot boot) = 5
event_size (MadeRm manager) = 9
event_size (Plain change) = 1 + change_size change
event_size (Ready transaction part) = 9 + part_size part
event_size (Single transaction part) = 9 + part_size part
event_size (Held transaction enlistment manager information) = 9 + record_size information
event_size (Decide transaction) = 9
event_size (Undo transaction) = 9
event_size (Event.Done transaction done) = 9 + done_size done

-- a group: a count of four bytes, and the events
abbrev pub group_size : List Event → ℕ
group_size events = 4 + sum_by event_size events

-- a frame: a gate, a length of four bytes, and the group
abbrev pub frame_size : List Event → ℕ
frame_size events = 5 + group_size events

-- the frames of a log
abbrev pub log_size : List (List Event) → ℕ
log_size log = sum_by frame_size log

-- an area of an image of so many units, which its log may fill
abbrev pub area_len : ℕ → ℕ
area_len units = 8192 * units + 65536
