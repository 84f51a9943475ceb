use Rattle.std.proofs.Common.{◌∙◌, ap, arith}
use Rattle.ktm_world.specs.Changes.{node_of}
use Rattle.ktm_world.specs.Tree.{bytes_of, units_of}
use Rattle.txf_tree.specs.TreeState.{tree_of}
use Rattle.txf_durable.specs.State.{tree_units}
use Rattle.txf_durable.proofs.Units.{units-after, units-apart}
use Rattle.txf_durable.proofs.files.restore.Goals as goal

pub overflow_sub-others : goal.overflow_sub-others
overflow_sub-others c =
    let apart = units-apart (tree_of c.args.tree.now) c.node_of-node.result c.law_of_numbers.ensures in
    omega (arith, apart, c.units_at.ensures.units, c.requires.counted.units)

pub returns-clause-counted : goal.returns-clause-counted
returns-clause-counted c =
    let before = tree_of c.args.tree.now in
    let node = c.node_of-node.ensures in
    let apart = units-apart before (node_of c.args.change) c.law_of_numbers.ensures in
    let after = units-after before c.args.change c.law_of_numbers.ensures (rw c.restore.ensures.tree at c.law_of_numbers-2.ensures) in
    let then = ap tree_units c.restore.ensures.tree in
    let had = c.units_at.ensures.units ∙ ap (λ n. units_of (bytes_of before n)) node in
    let has = c.units_at-2.ensures.units ∙ ap (λ n. units_of (bytes_of (tree_of c.restore.new.self) n)) node
    ∙ ap (λ tree. units_of (bytes_of tree (node_of c.args.change))) c.restore.ensures.tree in
    record { versions = c.restore.ensures.versions; units = omega (arith, apart, after, c.requires.counted.units, then, had, has) }
