-- What a run of the machine begins from.
use Rattle.std.specs.Prelude.{◌≡◌, ℕ, List, [], ◌∷◌}
use Rattle.ktm_base.specs.declared.limits.TheConstants.{NEW_UNITS}
use Rattle.ktm_base.specs.Disk.{DiskState, IsSafe}
use Rattle.ktm_core.specs.Logs.{StandsFor}
use Rattle.ktm_world.specs.Durable.{Durable, empty_state}

-- a run begins from the state for which an image stands; no byte at all becomes a new image of 1,024 units with the number 1
abbrev pub BeginsAs : Durable → List ℕ → Type 0
BeginsAs base [] = base ≡ empty_state NEW_UNITS 1
BeginsAs base (byte ∷ image) = StandsFor base (byte ∷ image)

-- a disk whose bytes are safe, from which a run begins
abbrev pub Begins : Durable → DiskState → Type 0
Begins base s = IsSafe s × BeginsAs base s.seen
