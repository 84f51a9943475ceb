use Rattle.std.proofs.lemmas.List.Elements.{All-cons, All-tail}
use Rattle.ktm_paged.specs.Paged.{LiesBelow}
use Rattle.ktm_world.specs.declared.recorded.Node.{Node}
use Rattle.ktm_world.specs.Tree.{bytes_or_none}
use Rattle.txf_tree.specs.Children.{node_seen}
use Rattle.ktm_restart.proofs.lying.files_lie_below.Goals as goal

pub nodes-preserved : goal.nodes-preserved
nodes-preserved c =
    let here = c.file_lies_below.ensures.0 c.if-not-file_lies_below.false in
    record {
      rest = λ lies. (rw c.in-Some.ensures.first at c.nodes.invariant.rest) (All-cons (λ (node : Node). LiesBelow c.args.count (bytes_or_none node.content)) (node_seen c.in-Some.node) c.next.new.self here lies);
      back = λ lies. All-tail (λ (node : Node). LiesBelow c.args.count (bytes_or_none node.content)) (node_seen c.in-Some.node) c.next.new.self ((rw c.in-Some.ensures.first at c.nodes.invariant.back) lies);
    }
