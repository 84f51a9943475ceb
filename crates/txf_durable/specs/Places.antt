-- The places of nodes. No public clause cites this module.
use Rattle.std.specs.Prelude.{Option, Some, None}
use Rattle.ktm_world.specs.declared.change.Change.{Change}
use Rattle.ktm_world.specs.declared.change.Change.TheVariants.{Make, Put, Cut, Move, Drop}
use Rattle.ktm_world.specs.Holds.{Place, place}

-- the place to which a change brings its node
abbrev pub brought : Change → Option Place
brought (Make node parent kind name) = Some (place parent name)
brought (Put node offset contents) = None
brought (Cut node size pages) = None
brought (Move node parent name) = Some (place parent name)
brought (Drop node) = None
