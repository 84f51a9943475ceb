use Rattle.txf_nodes.proofs.Reaching.{taken_of}
use Rattle.txf_nodes.proofs.children.Children.next.Goals as goal

pub returns-clause-first : goal.returns-clause-first
returns-clause-first g c = rw c.skip.ensures (taken_of _ c.args.self.now c.first-first.ensures.first)
