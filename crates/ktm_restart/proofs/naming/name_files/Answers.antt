use Rattle.std.proofs.Common.{List, ◌∙◌, refl, subst, sym}
use Rattle.ktm_owners.specs.Owners.{AreNamedByFile}
use Rattle.ktm_owners.proofs.offered.Turns.{AreNamedSoFar, all-named, none-named, one-named}
use Rattle.ktm_world.specs.declared.recorded.Node.{Node}
use Rattle.txf_tree.specs.Children.{node_seen}
use Rattle.txf_tree.specs.TreeState.{tree_of}
use Rattle.ktm_restart.proofs.naming.name_files.Goals as goal

pub nodes-init : goal.nodes-init
nodes-init c =
    let tree = tree_of c.args.tree.now in
    let before = c.args.owners.now.named in
    record {
      named = subst (λ (left : List Node). AreNamedSoFar AreNamedByFile tree left before before) (sym c.nodes-nodes.ensures) (none-named AreNamedByFile tree before);
      owners = refl;
    }

pub nodes-preserved : goal.nodes-preserved
nodes-preserved c =
    let (own, here, is) = c.in_ok-name_file.ensures.named in
    record {
      named = one-named AreNamedByFile (tree_of c.args.tree.now) (node_seen c.in-Some.node) c.next.new.self c.args.owners.now.named c.nodes.owners.named own c.name_file.new.owners.named (rw c.in-Some.ensures.first at c.nodes.invariant.named) here is;
      owners = c.name_file.ensures.owners ∙ c.nodes.invariant.owners;
    }

pub returns-clause-named : goal.returns-clause-named
returns-clause-named c = all-named AreNamedByFile (tree_of c.args.tree.now) c.args.owners.now.named c.nodes.owners.named (rw c.in_default.ensures.none at c.nodes.invariant.named)
