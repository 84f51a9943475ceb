use Rattle.std.proofs.Common.{◌∙◌, ap, sym}
use Rattle.std.proofs.lemmas.Option.{none-some, same_Some}
use Rattle.txf_nodes.specs.Indexes.{replaced}
use Rattle.txf_nodes.specs.NodesState.{NodeOf}
use Rattle.txf_nodes.proofs.Numbering.{IsIndexed-renewed, now_at-key, numbered, unnumbered}
use Rattle.txf_nodes.proofs.nodes.Nodes.forget_version.Goals as goal

pub returns-in_default-clause-nodes : goal.returns-in_default-clause-nodes
returns-in_default-clause-nodes g c =
    rw (← c.self.view_is)
    (λ n found. absurd (none-some n (sym (unnumbered _ _ c.args.number c.self.invariant.all (sym c.in_default.ensures)).0 ∙ found)))

pub unreachable-requires : goal.unreachable-requires
unreachable-requires g c =
    let at = numbered _ _ c.args.number c.in-Some.key c.self.invariant.all (sym c.in-Some.ensures) in
    none-some at.0 (c.in-None.ensures.value ∙ at.1)

pub invariant_of-self : goal.invariant_of-self
invariant_of-self g c =
    (IsIndexed-renewed _ _ c.args.number c.in-Some.key _ c.forget_version.new.self c.self.invariant (sym c.in-Some.ensures) (sym c.in-Some-get_mut.ensures.value)
    (ap (λ (n : NodeOf _). n.number) c.forget_version.ensures)).0

pub returns-clause-nodes : goal.returns-clause-nodes
returns-clause-nodes g c =
    let changed =
    (IsIndexed-renewed _ _ c.args.number c.in-Some.key _ c.forget_version.new.self c.self.invariant (sym c.in-Some.ensures) (sym c.in-Some-get_mut.ensures.value)
    (ap (λ (n : NodeOf _). n.number) c.forget_version.ensures)).1 in
    let there = now_at-key _ _ c.args.number c.in-Some.key c.self.invariant.all (sym c.in-Some.ensures) ∙ sym c.in-Some-get_mut.ensures.value in
    rw (← c.self.view_is)
    (λ n found. changed
    ∙ ap (replaced _ c.args.number) (c.forget_version.ensures ∙ ap (λ (n : NodeOf _). record n { version = 0 }) (same_Some _ n (sym there ∙ found))))

pub returns-clause-none : goal.returns-clause-none
returns-clause-none g c =
    let there = now_at-key _ _ c.args.number c.in-Some.key c.self.invariant.all (sym c.in-Some.ensures) ∙ sym c.in-Some-get_mut.ensures.value in
    rw (← c.self.view_is) (λ none. absurd (none-some _ (sym none ∙ there)))
