use Rattle.std.proofs.Common.{◌∙◌, [], ap, sym}
use Rattle.txf_nodes.specs.NodesState.{NodeOf, now_at}
use Rattle.txf_nodes.proofs.Applying.{new_place, now_none}
use Rattle.txf_nodes.proofs.InPlace.{inserted}
use Rattle.txf_nodes.proofs.table.NodeTable.make_new.Goals as goal

pub new-requires : goal.new-requires
new-requires g c =
    rw (← c.as_slice.ensures) (new_place _ c.args.number c.args.parent c.as_slice.result.now (sym (c.is_new_place.ensures (λ _. [])) ∙ c.if-not-is_new_place.false)).few

pub put-requires-clause-number : goal.put-requires-clause-number
put-requires-clause-number g c =
    let place = new_place _ c.args.number c.args.parent c.as_slice.result.now (sym (c.is_new_place.ensures (λ _. [])) ∙ c.if-not-is_new_place.false) in
    ap (λ (n : NodeOf _). now_at c.args.self.now.nodes n.number) c.new.ensures ∙ now_none (λ _. []) c.args.self.now.nodes c.args.number place.number

pub put-requires-clause-not_root : goal.put-requires-clause-not_root
put-requires-clause-not_root g c = λ same.
    let place = new_place _ c.args.number c.args.parent c.as_slice.result.now (sym (c.is_new_place.ensures (λ _. [])) ∙ c.if-not-is_new_place.false) in
    place.not_root (sym (ap (λ (n : NodeOf _). n.number) c.new.ensures) ∙ same)

pub returns-in-Ok-clause-inserted : goal.returns-in-Ok-clause-inserted
returns-in-Ok-clause-inserted g c =
    let place = new_place _ c.args.number c.args.parent c.as_slice.result.now (sym (c.is_new_place.ensures (λ _. [])) ∙ c.if-not-is_new_place.false) in
    inserted _ _ c.new.result _ _ _ _ c.new.ensures (now_none (λ _. []) c.args.self.now.nodes c.args.number place.number) c.in-Ok.ensures.nodes c.in-Ok.ensures.spare
