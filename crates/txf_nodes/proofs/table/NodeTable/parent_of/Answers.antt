use Rattle.std.proofs.Common.{◌∙◌, ap}
use Rattle.ktm_world.specs.Tree.{parent_of}
use Rattle.txf_nodes.proofs.table.NodeTable.parent_of.Goals as goal

pub returns-in-Some : goal.returns-in-Some
returns-in-Some g c = λ bytes. c.parent.ensures ∙ ap parent_of (c.in-Some.ensures.node bytes)

pub returns-in-None : goal.returns-in-None
returns-in-None g c = λ bytes. ap parent_of (c.in-None.ensures.node bytes)
