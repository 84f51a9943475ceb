use Rattle.ktm_content.proofs.States.{size-lent}
use Rattle.ktm_content.proofs.lent.PlacedRef.len.Goals as goal

pub returns : goal.returns
returns c = size-lent c.args.self.now c.self.inside.pages.now c.self.inside.size c.self.view_is c.self.invariant
