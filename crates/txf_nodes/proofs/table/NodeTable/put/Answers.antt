use Rattle.std.proofs.Common.{◌≡◌, ◌∙◌, ap₂, sym}
use Rattle.txf_nodes.specs.Indexes.{name_of}
use Rattle.txf_nodes.specs.Places.{child_name}
use Rattle.txf_nodes.proofs.Applying.{name_none, name_there, under-here, under-same, under_free}
use Rattle.txf_nodes.proofs.Renaming.{IsTree-with}
use Rattle.txf_nodes.proofs.table.NodeTable.put.Goals as goal

pub returns-in-Err-clause-taken : goal.returns-in-Err-clause-taken
returns-in-Err-clause-taken g c =
    let name : c.child_name-name.result ≡ name_of c.args.node = c.child_name-name.ensures ∙ ap₂ child_name c.parent.ensures c.name.ensures.name in λ bytes.
    rw (← c.self.view_is)
    (sym (name_there bytes _ _ c.args.node.parent c.args.node.name c.self.invariant) ∙ (rw name at c.in-Err.ensures.taken))

pub invariant_of-self-2 : goal.invariant_of-self-2
invariant_of-self-2 g c =
    let name : c.child_name-name.result ≡ name_of c.args.node = c.child_name-name.ensures ∙ ap₂ child_name c.parent.ensures c.name.ensures.name in
    rw c.insert.ensures.nodes
    (IsTree-with _ _ c.insert_new.new.self.entries c.args.node c.self.invariant (rw (← c.self.view_is) at c.requires.number) c.requires.not_root
    (rw c.name.ensures.name at c.name.ensures.few) (under_free c.self.inside.names.entries (name_of c.args.node) (rw name at c.in_default.ensures.free))
    (under-here c.insert_new.new.self.entries (name_of c.args.node) c.in_default.field-0 _ (rw (name, c.number-number.ensures) at c.in_default.ensures.under))
    (λ q differs. under-same _ _ q (c.in_default.ensures.other_names q (λ same. differs (same ∙ name)))))

pub returns-clause-free : goal.returns-clause-free
returns-clause-free g c =
    let name : c.child_name-name.result ≡ name_of c.args.node = c.child_name-name.ensures ∙ ap₂ child_name c.parent.ensures c.name.ensures.name in λ bytes.
    rw (← c.self.view_is) (name_none bytes _ _ c.args.node.parent c.args.node.name c.self.invariant (rw name at c.in_default.ensures.free))
