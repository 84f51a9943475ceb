use Rattle.std.proofs.Common.{◌∙◌, ap, sym, subst}
use Rattle.ktm_codec.specs.Spans.{Spans}
use Rattle.ktm_codec.proofs.SpansLemmas.{one_reading}
use Rattle.ktm_snapshot.proofs.OneState.{unambiguous_nodes}
use Rattle.ktm_snapshot.specs.StateGrammar.{AreNodesOf}
use Rattle.ktm_world.specs.Tree.{Tree}
use Rattle.txf_saved.proofs.saved.read_files.Goals as goal
use Rattle.txf_saved.specs.Making.{nodes_of}
use Rattle.txf_saved.specs.Saved.{AreFiles, number_behind}

pub returns-in_default : goal.returns-in_default
returns-in_default c = λ nodes end spans files. (rw c.in_default.is at c.in_ok-nodes.ensures) nodes end spans

pub returns-in-Some-2 : goal.returns-in-Some-2
returns-in-Some-2 c =
    let read = rw c.in-Some.is at c.in_ok-nodes.ensures in
    let all = rw (c.in-Some-2.is, c.deref.ensures.value) at c.in_ok-files.ensures in
    record {
      spelled = subst (λ (t : Tree). Spans (AreNodesOf t) c.args.bytes.now c.args.at c.in-Some.end) (sym all.tree) read;
      nodes = subst AreFiles (sym all.tree) all.are_files;
      next = all.next ∙ ap number_behind (sym all.tree);
    }

pub returns : goal.returns
returns c = λ nodes end spans files.
    let read = rw c.in-Some.is at c.in_ok-nodes.ensures in
    let none = rw (c.in-None.is, c.deref.ensures.value) at c.in_ok-files.ensures in
    none (subst AreFiles (one_reading AreNodesOf unambiguous_nodes c.args.bytes.now c.args.at nodes (nodes_of c.in-Some.nodes.items) end c.in-Some.end spans read).0 files)
