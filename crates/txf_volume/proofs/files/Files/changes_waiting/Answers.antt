use Rattle.std.proofs.Common.{sym}
use Rattle.txf_volume.proofs.Steady.{steady, waiting-now}
use Rattle.txf_volume.proofs.files.Files.changes_waiting.Goals as goal

pub returns-clause-waiting : goal.returns-clause-waiting
returns-clause-waiting c =
    rw (← c.self.view_is) (sym (waiting-now _ c.self.inside.units c.self.inside.counts c.self.invariant))

pub returns-clause-steady : goal.returns-clause-steady
returns-clause-steady c = rw (← c.self.view_is) (steady _ c.self.inside.units c.self.inside.counts c.self.invariant)
