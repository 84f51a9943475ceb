use Rattle.std.proofs.Common.{◌≡◌, ◌∙◌, ap, sym, true, is_some}
use Rattle.std.proofs.lemmas.Option.{none-some, same_Some}
use Rattle.txf_nodes.specs.Indexes.{replaced}
use Rattle.txf_nodes.specs.NodesState.{NodeOf, now_at}
use Rattle.txf_nodes.proofs.Numbering.{IsIndexed-renewed, none_there, now_at-key, numbered, unnumbered}
use Rattle.txf_nodes.proofs.nodes.Nodes.rename.Goals as goal

pub unreachable-requires : goal.unreachable-requires
unreachable-requires g c =
    let some : is_some (now_at c.args.self.now.nodes c.args.number) ≡ true = c.requires.there in
    let there = rw (← c.self.view_is) at some in
    let none = (unnumbered _ _ c.args.number c.self.invariant.all (sym c.in_default.ensures)).0 in
    none_there _ there none

pub unreachable-requires-in-None : goal.unreachable-requires-in-None
unreachable-requires-in-None g c =
    let at = numbered _ _ c.args.number c.in-Some.key c.self.invariant.all (sym c.in-Some.ensures) in
    none-some at.0 (c.in-None.ensures.value ∙ at.1)

pub invariant_of-self : goal.invariant_of-self
invariant_of-self g c =
    (IsIndexed-renewed _ _ c.args.number c.in-Some.key _ c.rename.new.self c.self.invariant (sym c.in-Some.ensures) (sym c.in-Some-get_mut.ensures.value)
    (ap (λ (n : NodeOf _). n.number) c.rename.ensures)).0

pub returns-clause-nodes : goal.returns-clause-nodes
returns-clause-nodes g c =
    let changed =
    (IsIndexed-renewed _ _ c.args.number c.in-Some.key _ c.rename.new.self c.self.invariant (sym c.in-Some.ensures) (sym c.in-Some-get_mut.ensures.value)
    (ap (λ (n : NodeOf _). n.number) c.rename.ensures)).1 in
    let there = now_at-key _ _ c.args.number c.in-Some.key c.self.invariant.all (sym c.in-Some.ensures) ∙ sym c.in-Some-get_mut.ensures.value in
    rw (← c.self.view_is)
    (λ n found. changed
    ∙ ap (replaced _ c.args.number)
    (c.rename.ensures ∙ ap (λ (n : NodeOf _). record n { parent = c.args.parent; name = c.args.name }) (same_Some _ n (sym there ∙ found))))
