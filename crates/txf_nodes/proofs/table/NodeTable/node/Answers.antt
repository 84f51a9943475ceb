use Rattle.std.proofs.Common.{◌∙◌, ap, sym}
use Rattle.std.specs.Option.{option_map}
use Rattle.ktm_world.specs.Tree.{root}
use Rattle.txf_nodes.specs.NodesState.{node_by}
use Rattle.txf_nodes.proofs.Naming.{node_at-now}
use Rattle.txf_nodes.proofs.table.NodeTable.node.Goals as goal

pub returns-then-number-eq-ROOT-clause-now : goal.returns-then-number-eq-ROOT-clause-now
returns-then-number-eq-ROOT-clause-now g c = rw (← c.self.view_is, c.if-number-eq-ROOT.true) (sym c.self.invariant.no_root)

pub returns-then-number-eq-ROOT-clause-node : goal.returns-then-number-eq-ROOT-clause-node
returns-then-number-eq-ROOT-clause-node g c = λ bytes.
    rw (← c.self.view_is, c.if-number-eq-ROOT.true) (ap (option_map (node_by bytes)) (sym c.self.invariant.no_root) ∙ sym (node_at-now bytes c.self.inside.nodes.nodes root))

pub returns-clause-node : goal.returns-clause-node
returns-clause-node g c = λ bytes. rw (← c.self.view_is) (ap (option_map (node_by bytes)) c.get.ensures ∙ sym (node_at-now bytes _ c.args.number))
