use Rattle.std.proofs.Common.{◌∙◌, ap, sym}
use Rattle.txf_nodes.specs.NodesState.{NodeOf, now_at}
use Rattle.txf_nodes.proofs.Applying.{now_none}
use Rattle.txf_nodes.proofs.InPlace.{inserted}
use Rattle.txf_nodes.proofs.table.NodeTable.insert.Goals as goal

pub put-requires-clause-number : goal.put-requires-clause-number
put-requires-clause-number g c =
    ap (λ (n : NodeOf _). now_at c.args.self.now.nodes n.number) c.new.ensures ∙ now_none c.requires.number.0 c.args.self.now.nodes c.args.number c.requires.number.1

pub put-requires-clause-not_root : goal.put-requires-clause-not_root
put-requires-clause-not_root g c = λ same. c.requires.not_root (sym (ap (λ (n : NodeOf _). n.number) c.new.ensures) ∙ same)

pub returns : goal.returns
returns g c =
    inserted _ _ c.new.result _ _ _ _ c.new.ensures (now_none c.requires.number.0 c.args.self.now.nodes c.args.number c.requires.number.1)
    c.in_default.ensures.nodes c.in_default.ensures.spare
