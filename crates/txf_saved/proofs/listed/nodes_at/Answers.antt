use Rattle.std.proofs.Common.{◌≡◌, ◌∙◌, ◌++◌, ◌∷◌, [], ◌+◌, length, ap, sym, subst, arith, rules}
use Rattle.std.proofs.lemmas.List.{length_push, length-map, map-append}
use Rattle.ktm_base.specs.Grammar.{IsU32}
use Rattle.ktm_codec.specs.Spans.{Spans}
use Rattle.ktm_snapshot.specs.Pieces.{IsFrontOf}
use Rattle.ktm_snapshot.specs.Shown.{node_read}
use Rattle.ktm_snapshot.specs.StateGrammar.{IsNodeOf}
use Rattle.ktm_world.specs.Tree.{numbers_rise}
use Rattle.txf_saved.proofs.listed.nodes_at.Goals as goal
use Rattle.txf_saved.specs.Making.{nodes_of}

pub returns-in_default : goal.returns-in_default
returns-in_default c = (c.law_of_reading.ensures.nodes c.args.bytes.now c.args.at).no_count c.in_default.ensures

pub nodes-init : goal.nodes-init
nodes-init c =
    let none : c.new-nodes.result.items ≡ [] = search rules in
    record {
      front = subst (λ xs. Spans (IsFrontOf (IsU32 c.in-Some.count) IsNodeOf (nodes_of xs)) c.args.bytes.now c.args.at c.in-Some.start) (sym none) ((c.law_of_reading.ensures.nodes c.args.bytes.now c.args.at).begins _ _ c.in-Some.ensures);
      rising = ap (λ xs. numbers_rise (nodes_of xs)) none;
      counted = ap length none;
    }

pub returns-in_default-2 : goal.returns-in_default-2
returns-in_default-2 c =
    (c.law_of_reading.ensures.nodes c.args.bytes.now c.args.at).no_item _ (nodes_of c.nodes.nodes.items) _ c.nodes.invariant.front
    (omega (arith, length-map c.nodes.nodes.items node_read, c.nodes.invariant.counted)) (rw c.in_default-2.is at c.in_ok-node.ensures)

pub returns-then-not-comes_behind : goal.returns-then-not-comes_behind
returns-then-not-comes_behind c =
    let law = c.law_of_reading.ensures.nodes c.args.bytes.now c.args.at in
    let more = map-append node_read c.nodes.nodes.items (c.in-Some-2.node ∷ []) in
    law.falls _ (nodes_of c.nodes.nodes.items ++ node_read c.in-Some-2.node ∷ []) _ (law.goes_on _ (nodes_of c.nodes.nodes.items) _ _ _ c.nodes.invariant.front (rw c.in-Some-2.is at c.in_ok-node.ensures))
    (omega (arith, length_push (nodes_of c.nodes.nodes.items) (node_read c.in-Some-2.node), length-map c.nodes.nodes.items node_read, c.nodes.invariant.counted))
    (cc (more))

pub nodes-preserved : goal.nodes-preserved
nodes-preserved c =
    let law = c.law_of_reading.ensures.nodes c.args.bytes.now c.args.at in
    let more = ap nodes_of c.in_ok-push.ensures.items ∙ map-append node_read c.nodes.nodes.items (c.in-Some-2.node ∷ []) in
    record {
      front = subst (λ xs. Spans (IsFrontOf (IsU32 c.in-Some.count) IsNodeOf xs) c.args.bytes.now c.args.at c.in-Some-2.next) (sym more) (law.goes_on _ (nodes_of c.nodes.nodes.items) _ _ _ c.nodes.invariant.front (rw c.in-Some-2.is at c.in_ok-node.ensures));
      rising = rw c.in_ok-push.ensures.items (cc);
      counted = ap length c.in_ok-push.ensures.items ∙ length_push _ _ ∙ ap (λ n. n + 1) c.nodes.invariant.counted;
    }

pub returns : goal.returns
returns c =
    (c.law_of_reading.ensures.nodes c.args.bytes.now c.args.at).whole _ (nodes_of c.nodes.nodes.items) _ c.nodes.invariant.front
    (length-map c.nodes.nodes.items node_read ∙ omega (arith, c.nodes.invariant.counted)) c.nodes.invariant.rising
