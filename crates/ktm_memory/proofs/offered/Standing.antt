-- Parts of what stands.
use Rattle.std.proofs.Common.{◌≤◌, ap, subst, arith}
use Rattle.ktm_base.specs.declared.limits.TheConstants.{MOST_UNITS}
use Rattle.ktm_base.specs.declared.id.Id.{Id}
use Rattle.ktm_event.specs.Spelling.{AreSpellableChanges}
use Rattle.ktm_world.specs.Durable.{Durable}
use Rattle.ktm_world.specs.Files.{own_changes}
use Rattle.ktm_world.specs.Present.{Present}
use Rattle.ktm_world.specs.World.{World, present}
use Rattle.ktm_world.proofs.offered.Durables.{stand-units}
use Rattle.ktm_records.proofs.offered.OwnSizes.{spelled-owned}
use Rattle.ktm_records.specs.Kept.{IsKept}
use Rattle.ktm_standing.specs.Standing.{IsStanding, IsStandingNow}

-- what a machine keeps of what is so now
pub kept : (x : Present) → IsStandingNow x → IsKept x
kept x standing = subst IsKept standing.is standing.stands.running.now

few_units : (w : World) → IsStanding w → (present w).recorded.units ≤ MOST_UNITS
few_units w stands =
    let same = stand-units w.base w.log in
    let comes = ap (λ (s : Durable). s.units) stands.running.comes_to in
    omega (arith, same, comes, stands.small)

-- what a transaction changed has bytes
pub own_spelled : (x : Present) → IsStandingNow x → (id : Id) → AreSpellableChanges (own_changes x.files.table.own id)
own_spelled x standing id =
    subst (λ (y : Present). AreSpellableChanges (own_changes y.files.table.own id)) standing.is
    ((spelled-owned (present standing.world) standing.stands.running.now standing.stands.texts (few_units standing.world standing.stands)).files id)
