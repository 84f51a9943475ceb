use Rattle.std.proofs.Common.{◌≡◌, ◌+◌, ◌-◌, ◌≤◌, length, refl, ◌∙◌, ap, arith}
use Rattle.ktm_world.specs.Changes.{changed, node_of}
use Rattle.ktm_world.specs.Tree.{bytes_of}
use Rattle.txf_tree.specs.TreeState.{tree_of}
use Rattle.txf_volume.specs.Held.{tree_units}
use Rattle.txf_volume.proofs.PlainTies.{units-sum}
use Rattle.txf_volume.proofs.plain.units_after.Goals as goal

sums : (c : goal.After-loss)
    → (c.loss.result ≤ c.args.units + c.gain.result) × (c.args.units + c.gain.result - c.loss.result ≡ tree_units (changed (tree_of c.args.tree.now) c.args.change.now))
sums c =
    let was = bytes_of (tree_of c.args.tree.now) (node_of c.args.change.now) in
    let size : c.size-was.result ≡ length was = c.size-was.ensures ∙ ap (λ node. length (bytes_of (tree_of c.args.tree.now) node)) c.node_of.ensures in
    units-sum (tree_of c.args.tree.now) c.args.change.now was c.args.units c.gain.result c.loss.result c.requires.rise c.requires.file
    refl c.requires.sum (c.gain.ensures.gain was size) (c.loss.ensures.loss was size)

pub overflow_sub-result : goal.overflow_sub-result
overflow_sub-result c = (sums c).0

pub overflow_cast-result-2 : goal.overflow_cast-result-2
overflow_cast-result-2 c = let e = (sums c).1 in omega arith

pub returns : goal.returns
returns c = (sums c).1
