-- The enlistments that are brought back, before they stand by rising Id, and what is asked of them.
use Rattle.std.specs.Prelude.{List, [], ◌∷◌, filter}
use Rattle.std.specs.List.{flat_map}
use Rattle.ktm_world.specs.Durable.{Recorded}
use Rattle.ktm_world.specs.Enlistments.{Enlistment}
use Rattle.ktm_world.specs.World.{enlistments_back, is_brought_back, with_enlistment}

-- the enlistments of the transactions that are brought back, in the order of these
abbrev pub enlistments_coming : List Recorded → List Enlistment
enlistments_coming ts = flat_map enlistments_back (filter is_brought_back ts)

-- the enlistments with each of the others at its place, the last of them first
abbrev pub with_all : List Enlistment → List Enlistment → List Enlistment
with_all es [] = es
with_all es (x ∷ xs) = with_enlistment (with_all es xs) x
