-- How what the code passes on stands for what the model has.
use Rattle.std.specs.Prelude.{◌≤◌, ◌||◌, All, Bool, false, List, length, Option}
use Rattle.ktm_base.specs.declared.limits.TheConstants.{MOST_NAME_BYTES}
use Rattle.ktm_base.specs.declared.id.Id.{Id}
use Rattle.ktm_world.specs.Conflicts.{is_open_in, violates_sharing, writes}
use Rattle.ktm_world.specs.Files.{OpenFile}
use Rattle.ktm_world.specs.Holds as holds
use Rattle.ktm_world.specs.Holds.{Place as At, place, places_changed}
use Rattle.txf_opens.specs.declared.act.Act.{Act}
use Rattle.txf_opens.specs.declared.act.Act.TheVariants.{Open, Delete, MoveFile, Make, DropDirectory, MoveDirectory}
use Rattle.txf_opens.specs.declared.act.Place.{Place}
use Rattle.txf_opens.specs.declared.file.OpenFile.{OpenFile as Kept}

-- the open file that the code keeps so
abbrev pub open_of : Kept → OpenFile
open_of k = record { number = k.number; node = k.node; transaction = k.transaction; access = k.access; share = k.share }

-- the name in a directory
abbrev pub place_in : Place → At
place_in p = place p.directory p.name.now

-- what the call does
abbrev pub act_of : Act → holds.Act
act_of (Open file access truncates share) = holds.opens file (writes access || truncates)
act_of (Delete file at) = holds.deletes file (place_in at)
act_of (MoveFile file from to) = holds.moves_file file (place_in from) (place_in to)
act_of (Make at) = holds.makes (place_in at)
act_of (DropDirectory directory at) = holds.drops_directory directory (place_in at)
act_of (MoveDirectory directory from to) = holds.moves_directory directory (place_in from) (place_in to)

-- each name has at most 255 bytes
abbrev pub HaveShortNames : List At → Type 0
HaveShortNames = All (λ p. length p.name ≤ MOST_NAME_BYTES)

-- each name that the call changes has at most 255 bytes
abbrev pub HasShortNames : Act → Type 0
HasShortNames act = HaveShortNames (places_changed (act_of act))

-- is it against the share mode of one of these open files, of the caller's group: a file that is opened, deleted or moved
abbrev pub violates : List OpenFile → Option Id → Act → Bool
violates opens who (Open file access truncates share) = violates_sharing opens who file access truncates share
violates opens who (Delete file at) = is_open_in opens who file
violates opens who (MoveFile file from to) = is_open_in opens who file
violates opens who _ = false
