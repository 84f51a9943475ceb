-- A durable state fits the area of a snapshot.
use Rattle.std.specs.Prelude.{◌+◌, ◌≤◌}
use Rattle.ktm_world.specs.Sizes.{area_len}
use Rattle.ktm_world.specs.Durable.{Durable}
use Rattle.txf_laws.specs.GoodState.{IsGoodState}
use Rattle.ktm_snapshot.specs.Sizes.{state_size}

-- a good state, behind its length in eight bytes, fits the area of a snapshot
abbrev pub SnapshotsLaw : Type 0
SnapshotsLaw = (s : Durable) → IsGoodState s → 8 + state_size s ≤ area_len s.units
