-- A machine that is ready, as it is then.
use Rattle.std.proofs.Common.{◌≡◌, ◌≤◌, ◌||◌, ℕ, List, [], true, false, Option, sym, ◌∙◌, ap, subst, arith}
use Rattle.std.specs.Prelude.{IfSome}
use Rattle.std.proofs.lemmas.Bool.{both_ways}
use Rattle.ktm_base.specs.Disk.{DiskState, DiskStatus, OnlyReads}
use Rattle.ktm_base.proofs.offered.ToldSteps.{IsSomeAnd-map}
use Rattle.ktm_core.specs.Core.{PagesAgree}
use Rattle.ktm_core.specs.Reading.{Agrees}
use Rattle.ktm_journal.specs.Image.{IsHeaded}
use Rattle.ktm_slots.specs.Owed.{owed_slots}
use Rattle.ktm_standing.specs.Standing.{IsStandingNow}
use Rattle.ktm_store.specs.Pool.{on_row}
use Rattle.ktm_store.specs.Store.{PoolState}
use Rattle.ktm_world.specs.World.{World}
use Rattle.ktm_kernel.specs.Staging.{KeepsPlaces}
use Rattle.ktm_kernel.specs.Stands.{HoldsRecorded, IsPowered, IsReady, KernelState, Stands, machine_on}

-- ---- a machine that is down

-- a machine that is down owes its disk nothing
pub unpowered : (k : KernelState) (told : Option DiskState) (status : DiskStatus) → k.now.machine.is_up ≡ false → IsPowered k told status
unpowered k told status off = record {
  power = λ on. absurd (both_ways k.now.machine.is_up off on);
  settled = λ on. absurd (both_ways k.now.machine.is_up off on);
  image = λ on. absurd (both_ways k.now.machine.is_up off on);
}

-- and needs no room
off_slots : (k : KernelState) → k.now.machine.is_up ≡ false → k.now.machine.is_up ≡ true → owed_slots k.now ≤ k.slots
off_slots k off on = absurd (both_ways k.now.machine.is_up off on)

pub off_ready : (k : KernelState) (told : Option DiskState) (status : DiskStatus) → k.now.machine.is_up ≡ false → IsReady k told status
off_ready k told status off = record {
  powered = unpowered k told status off;
  slots = off_slots k off;
  core = λ on. absurd (both_ways k.now.machine.is_up off on);
}

-- ---- a machine that is up

-- what is so stands
pub ready-stands : (k : KernelState) (told : Option DiskState) (status : DiskStatus) → k.now.machine.is_up ≡ true → IsReady k told status → IsStandingNow k.now
ready-stands k told status up ready = ((ready.core up).ready []).standing

-- pages were read or filled
module _ (k : KernelState) (pool : PoolState) (told now : Option DiskState) (s t : DiskStatus) (most : ℕ) (up : k.now.machine.is_up ≡ true) (ready : IsReady k told s) (places : KeepsPlaces k.now.files k.pool pool) (reads : OnlyReads most told now s t false) where
  up-then : t.is_down ≡ false
  up-then = reads.calls.down ∙ ap (λ b. b || false) (ready.powered.power up)

  image-then : IfSome now (λ d. IsHeaded k.journal.units k.journal.image k.journal.selector d.seen)
  image-then = subst (λ u. IfSome u (λ d. IsHeaded k.journal.units k.journal.image k.journal.selector d.seen)) (sym reads.same) (ready.powered.image up)

  pub stays-ready : IsReady (record k { pool = pool }) now t
  stays-ready = record {
    powered = record { power = λ on. up-then; settled = λ on. reads.pending ∙ ready.powered.settled up; image = λ on. image-then };
    slots = ready.slots;
    core = λ on. let core = ready.core up in record {
      ready = λ row. let was = core.ready row in record {
        powered = record { power = λ on. up-then; settled = λ on. reads.pending ∙ ready.powered.settled up; image = λ on. image-then; wanted = λ on. places.wanted ∙ was.powered.wanted up };
        standing = was.standing;
        slots = was.slots;
        room = was.room;
      };
      count = places.count ∙ core.count;
      sound = core.sound;
      held = places.held;
    };
  }

-- with more room for notifications
pub ready-slots : (k : KernelState) (slots : ℕ) → k.slots ≤ slots → (told : Option DiskState) (status : DiskStatus) → IsReady k told status → IsReady (record k { slots = slots }) told status
ready-slots k slots more told status ready = record {
  powered = record { power = ready.powered.power; settled = ready.powered.settled; image = ready.powered.image };
  slots = λ up. omega (arith, ready.slots up, more);
  core = λ up. let core = ready.core up in record {
    ready = λ row. let was = core.ready row in record {
      powered = record { power = was.powered.power; settled = was.powered.settled; image = was.powered.image; wanted = was.powered.wanted };
      standing = was.standing;
      slots = omega (arith, was.slots, more);
      room = was.room;
    };
    count = core.count;
    sound = core.sound;
    held = core.held;
  };
}

-- its disk agrees with the bytes with which it stands for a world
pub stands-agrees : (k : KernelState) (told : Option DiskState) (w : World) (row : List ℕ) → Stands (machine_on k row) told w → Agrees k.journal.units k.pool row told
stands-agrees k told w row stands = IsSomeAnd-map told (HoldsRecorded (machine_on k row)) (PagesAgree k.journal.units (on_row k.pool row)) stands.disk (λ s holds. holds.pages)
