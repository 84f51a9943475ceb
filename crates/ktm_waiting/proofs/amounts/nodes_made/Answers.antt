use Rattle.std.proofs.Common.{arith}
use Rattle.txf_tree.specs.TreeState.{tree_of}
use Rattle.ktm_waiting.proofs.Made.{nodes-counted}
use Rattle.ktm_waiting.proofs.amounts.nodes_made.Goals as goal

pub overflow_sub-result : goal.overflow_sub-result
overflow_sub-result c = omega (arith, nodes-counted (tree_of c.args.files.now.tree) c.args.changes.now c.requires.apply c.requires.new, c.count_makes.ensures, c.count_drops.ensures)

pub returns : goal.returns
returns c = omega (arith, nodes-counted (tree_of c.args.files.now.tree) c.args.changes.now c.requires.apply c.requires.new, c.count_makes.ensures, c.count_drops.ensures)
