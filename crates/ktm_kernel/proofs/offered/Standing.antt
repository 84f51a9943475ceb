-- What a machine has in common with a world for which it stands.
use Rattle.std.proofs.Common.{◌≡◌, ℕ, Bool, true, false, List, Option, refl, sym, ◌∙◌, ap}
use Rattle.std.proofs.lemmas.Bool.{both_ways}
use Rattle.ktm_base.specs.Disk.{DiskState}
use Rattle.ktm_kernel.specs.Stands.{KernelAt, KernelState, MachineAt, MachineState, Stands, StandsBy, machine_on}
use Rattle.ktm_mapped.specs.Mapped.{mapped_durable}
use Rattle.ktm_standing.specs.Standing.{IsStanding}
use Rattle.ktm_store.specs.Pool.{Shows}
use Rattle.ktm_content.specs.Places.{byte_at}
use Rattle.ktm_world.specs.Logs.{Power, up, down, is_up}
use Rattle.ktm_world.specs.Present.{Present}
use Rattle.ktm_world.specs.World.{World, present}

-- a machine is up where its world is
machine_up : (k : MachineState) (told : Option DiskState) (w : World) → MachineAt k told w → k.now.machine.is_up ≡ is_up w.power
machine_up k told w at = go w.power refl at
  where
    go : (power : Power) → w.power ≡ power → StandsBy (is_up power) k told w → k.now.machine.is_up ≡ is_up w.power
    go up is stands = ap (λ (x : Present). x.machine.is_up) stands.now
    go (down may) is fallen = fallen.off ∙ sym (ap is_up is)

pub up_is : (k : KernelState) (told : Option DiskState) (w : World) → KernelAt k told w → k.now.machine.is_up ≡ is_up w.power
up_is k told w (row, shows, at) = machine_up (machine_on k row) told w at

-- what was recorded is the world's, and that stands
machine_recorded : (k : MachineState) (told : Option DiskState) (w : World) → MachineAt k told w → (k.now.recorded ≡ (present w).recorded) × IsStanding w
machine_recorded k told w at = go (is_up w.power) at
  where
    go : (b : Bool) → StandsBy b k told w → (k.now.recorded ≡ (present w).recorded) × IsStanding w
    go true stands = (ap (λ (x : Present). x.recorded) stands.now, stands.standing)
    go false fallen = (fallen.recorded, fallen.standing)

-- with the bytes at its places, what was recorded is the world's, and that stands
pub recorded_is : (k : KernelState) (told : Option DiskState) (w : World) → KernelAt k told w → ((row : List ℕ) × (mapped_durable (byte_at row) k.now.recorded ≡ (present w).recorded)) × IsStanding w
recorded_is k told w (row, shows, at) = let is = machine_recorded (machine_on k row) told w at in ((row, is.0), is.1)

-- a machine that is up stands for a world that is up
pub machine_stands : (k : MachineState) (told : Option DiskState) (w : World) → MachineAt k told w → k.now.machine.is_up ≡ true → (w.power ≡ up) × Stands k told w
machine_stands k told w at on = go w.power refl at
  where
    go : (power : Power) → w.power ≡ power → StandsBy (is_up power) k told w → (w.power ≡ up) × Stands k told w
    go up is stands = (is, stands)
    go (down may) is fallen = absurd (both_ways k.now.machine.is_up fallen.off on)

pub stands_up : (k : KernelState) (told : Option DiskState) (w : World) → KernelAt k told w → k.now.machine.is_up ≡ true → (w.power ≡ up) × ((row : List ℕ) × Shows k.pool row × Stands (machine_on k row) told w)
stands_up k told w (row, shows, at) on = let is = machine_stands (machine_on k row) told w at on in (is.0, (row, shows, is.1))
