use Rattle.txf_nodes.proofs.InPlace.{forgotten}
use Rattle.txf_nodes.proofs.table.NodeTable.forget_version.Goals as goal

pub invariant_of-self : goal.invariant_of-self
invariant_of-self g c = (forgotten _ _ _ c.args.number c.self.invariant c.forget_version.ensures.nodes c.forget_version.ensures.none).stands

pub returns-clause-tree : goal.returns-clause-tree
returns-clause-tree g c =
    rw (← c.self.view_is) ((forgotten _ _ _ c.args.number c.self.invariant c.forget_version.ensures.nodes c.forget_version.ensures.none).tree)

pub returns-clause-versions : goal.returns-clause-versions
returns-clause-versions g c =
    rw (← c.self.view_is) ((forgotten _ _ _ c.args.number c.self.invariant c.forget_version.ensures.nodes c.forget_version.ensures.none).versions)

pub returns-clause-contents : goal.returns-clause-contents
returns-clause-contents g c =
    rw (← c.self.view_is) ((forgotten _ _ _ c.args.number c.self.invariant c.forget_version.ensures.nodes c.forget_version.ensures.none).contents)
