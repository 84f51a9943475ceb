use Rattle.txf_volume.proofs.Steady.{steady}
use Rattle.txf_volume.proofs.files.Files.steady.Goals as goal

pub returns : goal.returns
returns c = rw (← c.self.view_is) (steady _ c.self.inside.units c.self.inside.counts c.self.invariant)
