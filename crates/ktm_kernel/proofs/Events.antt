-- How many events the log of a world has.
use Rattle.std.proofs.Common.{◌≡◌, Option, sym, ◌∙◌, ap}
use Rattle.ktm_base.specs.Disk.{DiskState}
use Rattle.ktm_kernel.proofs.offered.Standing.{recorded_is}
use Rattle.ktm_kernel.specs.Stands.{KernelAt, KernelState}
use Rattle.ktm_world.specs.Durable.{Durable, stand}
use Rattle.ktm_world.specs.World.{World}

-- what a machine counts is what the log of its world has
pub events_of : (k : KernelState) (told : Option DiskState) (w : World) → KernelAt k told w → k.now.recorded.events ≡ (stand w.base w.log).events
events_of k told w at = let ((row, recorded), standing) = recorded_is k told w at in ap (λ (s : Durable). s.events) (recorded ∙ sym standing.running.comes_to)
