use Rattle.std.proofs.Common.{subst}
use Rattle.ktm_content.specs.Places.{LieOn}
use Rattle.ktm_content.proofs.offered.Bytes.{lie-on}
use Rattle.ktm_content.proofs.lent.PlacedRef.pages.Goals as goal

pub returns : goal.returns
returns c = subst (LieOn c.self.inside.pages.now) c.self.view_is (lie-on c.self.inside.pages.now c.self.inside.size c.self.invariant)
