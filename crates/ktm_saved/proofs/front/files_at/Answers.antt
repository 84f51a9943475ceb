use Rattle.std.proofs.Common.{◌<◌, ◌≤◌, ap, arith, subst, sym}
use Rattle.ktm_codec.specs.Spans.{Spans}
use Rattle.ktm_codec.proofs.SpansLemmas.{one_reading}
use Rattle.ktm_saved.proofs.GoodParts.{files_of, none_low, tree_from}
use Rattle.ktm_saved.proofs.front.files_at.Goals as goal
use Rattle.ktm_saved.proofs.front.files_at.Goals.{then-next-next_node-via-then-next-next_node, then-next-next_node-via-else-next-next_node+then-next-gt-MOST_NEXT_NODE}
use Rattle.ktm_saved.specs.Reading.{IsGoodTree}
use Rattle.ktm_snapshot.proofs.OneState.{unambiguous_nodes}
use Rattle.ktm_snapshot.specs.StateGrammar.{AreNodesOf}
use Rattle.ktm_world.specs.Tree.{Tree}
use Rattle.txf_saved.specs.Saved.{AreSaved, number_behind}
use Rattle.txf_tree.specs.TreeState.{tree_of}

pub returns-in_default-clause-good : goal.returns-in_default-clause-good
returns-in_default-clause-good c = λ tree end spans good.
    (rw c.in_default.is at c.in_ok-files.ensures) tree end spans (files_of c.law_of_next.ensures c.args.next tree good)

pub returns-then-next-next_node-clause-good : goal.returns-then-next-next_node-clause-good
returns-then-next-next_node-clause-good c = λ tree end spans good.
    let read : AreSaved c.args.bytes.now c.args.at c.in-Some.end c.in-Some.files = rw c.in-Some.is at c.in_ok-files.ensures in
    let there = tree_of c.in-Some.files.tree in
    let same = (one_reading AreNodesOf unambiguous_nodes c.args.bytes.now c.args.at tree there end c.in-Some.end spans read.spelled).0 in
    let good' : IsGoodTree c.args.next there = subst (IsGoodTree c.args.next) same good in
    elim c.then-next-next_node.branch [
      | then-next-next_node-via-then-next-next_node w ↦
          let low : c.args.next < number_behind there = omega (arith, w.if-next-next_node.true, c.next_node.ensures, read.next) in
          none_low c.law_of_next.ensures c.args.next there low good'
      | then-next-next_node-via-else-next-next_node+then-next-gt-MOST_NEXT_NODE w ↦ omega (arith, w.if-next-gt-MOST_NEXT_NODE.true, good'.to)
    ]

pub returns-clause-good : goal.returns-clause-good
returns-clause-good c =
    let read : AreSaved c.args.bytes.now c.args.at c.in-Some.end c.in-Some.files = rw c.in-Some.is at c.in_ok-files.ensures in
    let there = tree_of c.in-Some.files.tree in
    let behind : number_behind there ≤ c.args.next = omega (arith, c.if-next-next_node.false, c.next_node.ensures, read.next) in
    let good = tree_from c.law_of_next.ensures c.args.next there read.nodes behind (omega (arith, c.if-next-gt-MOST_NEXT_NODE.false)) in
    subst (λ (t : Tree). Spans (AreNodesOf t) c.args.bytes.now c.args.at c.in-Some.end × IsGoodTree c.args.next t) (sym (ap tree_of c.raise_next.ensures.tree)) (read.spelled, good)
