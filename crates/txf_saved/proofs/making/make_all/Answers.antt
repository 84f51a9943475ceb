use Rattle.std.proofs.Common.{◌∙◌, Ok, ap, arith, rules, sym}
use Rattle.std.proofs.lemmas.Bool.{ne_eqb}
use Rattle.std.proofs.lemmas.List.{get_or_default}
use Rattle.ktm_snapshot.specs.declared.node.ReadNode.{ReadNode}
use Rattle.ktm_world.specs.Tree.{node_at}
use Rattle.txf_saved.proofs.Finding.{at_its_number}
use Rattle.txf_saved.proofs.Steps.{begins, finish, further, root_given}
use Rattle.txf_saved.proofs.making.make_all.Goals as goal
use Rattle.txf_saved.specs.Making.{nodes_of}

pub nodes-init : goal.nodes-init
nodes-init c = record { part = begins _ _ c.new-files.ensures.tree c.new-files.ensures.next_node; empty = search rules; made = λ k d low. absurd (omega (arith, low)) }

pub returns-then-node-eq-ROOT : goal.returns-then-node-eq-ROOT
returns-then-node-eq-ROOT c =
    let xs = c.args.nodes.now in
    let i = c.nodes.node-index in
    let node = c.node-item.result in
    root_given (nodes_of xs) node.number _ (ap (λ (x : ReadNode). node_at (nodes_of xs) x.number) c.node-item.is ∙ at_its_number xs i node c.requires (omega arith)) c.if-node-eq-ROOT.true

pub climb-requires : goal.climb-requires
climb-requires c =
    let xs = c.args.nodes.now in
    let i = c.nodes.node-index in
    let node = c.node-item.result in
    record {
      rise = c.requires;
      known = (_, ap (λ (x : ReadNode). node_at (nodes_of xs) x.number) c.node-item.is ∙ at_its_number xs i node c.requires (omega arith));
      none = c.nodes.invariant.empty;
    }

pub returns-then-not-branch : goal.returns-then-not-branch
returns-then-not-branch c = c.in_ok-climb.ensures.astray (ap Ok c.if-not-branch.true)

pub returns-then-not-branch-2 : goal.returns-then-not-branch-2
returns-then-not-branch-2 c =
    c.in_ok-make_way.ensures.not_made (ap Ok c.if-not-branch-2.true) (nodes_of c.args.nodes.now) _
    (record { part = c.nodes.invariant.part; leads = c.in_ok-climb.ensures.leads (ap Ok c.if-not-branch.false) })

pub nodes-preserved : goal.nodes-preserved
nodes-preserved c =
    let xs = c.args.nodes.now in
    let i = c.nodes.node-index in
    let made = c.in_ok-make_way.ensures.made (ap Ok c.if-not-branch-2.false) (nodes_of xs) _ (record { part = c.nodes.invariant.part; leads = c.in_ok-climb.ensures.leads (ap Ok c.if-not-branch.false) }) in
    record {
      part = made.part;
      empty = c.in_ok-make_way.ensures.empty (ap Ok c.if-not-branch-2.false);
      made = further xs (nodes_of xs) _ _ i _ (λ d. ap (λ (x : ReadNode). x.number) (get_or_default xs i d c.node-item.result (omega arith) ∙ sym c.node-item.is)) (ne_eqb _ _ c.if-node-eq-ROOT.false) made c.nodes.invariant.made;
    }

pub returns : goal.returns
returns c =
    finish c.args.nodes.now c.nodes.files c.requires c.law_of_forms.ensures c.nodes.invariant.part (λ k d within. c.nodes.invariant.made k d (omega (arith, within)))
