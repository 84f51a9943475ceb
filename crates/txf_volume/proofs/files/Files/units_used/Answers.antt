use Rattle.std.proofs.Common.{arith}
use Rattle.txf_volume.proofs.Steady.{steady, units-now}
use Rattle.txf_volume.proofs.files.Files.units_used.Goals as goal

pub returns-clause-units : goal.returns-clause-units
returns-clause-units c =
    let now = units-now _ c.self.inside.units c.self.inside.counts c.self.invariant c.older_units.ensures.held in
    rw (← c.self.view_is) (omega (arith, now, c.older_units.ensures.units))

pub returns-clause-steady : goal.returns-clause-steady
returns-clause-steady c = rw (← c.self.view_is) (steady _ c.self.inside.units c.self.inside.counts c.self.invariant)
