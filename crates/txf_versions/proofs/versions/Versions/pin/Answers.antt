use Rattle.std.proofs.Common.{◌<◌, min, arith}
use Rattle.txf_versions.proofs.Ready.{AreReady-pin}
use Rattle.txf_versions.proofs.versions.Versions.pin.Goals as goal

pub invariant_of-self : goal.invariant_of-self
invariant_of-self c =
    let some : 0 < min c.self.inside.first_opens.spare c.self.inside.free = rw (← c.self.view_is) at c.requires.spare in
    AreReady-pin _ _ _ _ _ _ c.self.invariant c.push.ensures.opens (omega (arith, some))
