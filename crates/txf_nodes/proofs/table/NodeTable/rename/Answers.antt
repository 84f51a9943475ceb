use Rattle.std.proofs.Common.{◌≡◌, ◌∙◌, None, ap, ap₂, refl, sym}
use Rattle.ktm_world.specs.declared.recorded.Node.{Node}
use Rattle.txf_nodes.specs.Indexes.{name_of, under}
use Rattle.txf_nodes.specs.NodesState.{NodeOf}
use Rattle.txf_nodes.specs.Places.{child_name}
use Rattle.txf_nodes.proofs.Applying.{IsRenamed-from, can_move, still_free}
use Rattle.txf_nodes.proofs.InPlace.{contents-kept, swapped, tree-swapped, versions-swapped}
use Rattle.txf_nodes.proofs.Naming.{name_free, named_now}
use Rattle.txf_nodes.proofs.Numbering.{none_there}
use Rattle.txf_nodes.proofs.Renaming.{IsTree-renamed}
use Rattle.txf_nodes.proofs.table.NodeTable.rename.Goals as goal

pub unreachable-requires : goal.unreachable-requires
unreachable-requires g c =
    none_there _ (can_move c.requires.applies.0 c.self.inside.nodes.nodes c.args.number c.args.parent c.args.name (rw (← c.self.view_is) at c.requires.applies.1)).there
    (sym c.in_default.ensures)

pub child_name-requires : goal.child_name-requires
child_name-requires g c =
    rw c.as_slice-2.ensures ((can_move c.requires.applies.0 c.args.self.now.nodes c.args.number c.args.parent c.args.name c.requires.applies.1).few)

pub insert-requires-clause-free : goal.insert-requires-clause-free
insert-requires-clause-free g c =
    let bytes = c.requires.applies.0 in
    let can = can_move bytes c.self.inside.nodes.nodes c.args.number c.args.parent c.args.name (rw (← c.self.view_is) at c.requires.applies.1) in
    let was : c.as_slice.result.now ≡ name_of c.in-Some.stored.now = c.as_slice.ensures ∙ c.child_name-was.ensures ∙ ap₂ child_name c.parent.ensures c.name.ensures.name in
    let name : c.child_name.result ≡ child_name c.args.parent c.args.name = c.child_name.ensures ∙ ap (child_name c.args.parent) c.as_slice-2.ensures in
    rw name
    (still_free _ _ (name_of c.in-Some.stored.now) _ _ ((named_now _ _ _ _ c.self.invariant.named (sym c.in-Some.ensures)).under)
    (name_free bytes _ _ c.args.parent c.args.name c.self.invariant can.free)
    (λ q differs. c.remove.ensures.other_names q (λ same. differs (same ∙ was))))

pub rename-requires-clause-there : goal.rename-requires-clause-there
rename-requires-clause-there g c =
    (can_move c.requires.applies.0 c.self.inside.nodes.nodes c.args.number c.args.parent c.args.name (rw (← c.self.view_is) at c.requires.applies.1)).there

pub rename-requires-clause-few : goal.rename-requires-clause-few
rename-requires-clause-few g c =
    (can_move c.requires.applies.0 c.args.self.now.nodes c.args.number c.args.parent c.args.name c.requires.applies.1).few

pub invariant_of-self : goal.invariant_of-self
invariant_of-self g c =
    let bytes = c.requires.applies.0 in
    let s = c.in-Some.stored.now in
    let x : NodeOf _ = record s { parent = c.args.parent; name = c.args.name } in
    let can = can_move bytes c.self.inside.nodes.nodes c.args.number c.args.parent c.args.name (rw (← c.self.view_is) at c.requires.applies.1) in
    let found = sym c.in-Some.ensures in
    let was : c.as_slice.result.now ≡ name_of s = c.as_slice.ensures ∙ c.child_name-was.ensures ∙ ap₂ child_name c.parent.ensures c.name.ensures.name in
    let name : c.child_name.result ≡ name_of x = c.child_name.ensures ∙ ap (child_name c.args.parent) c.as_slice-2.ensures in
    let free : under c.self.inside.names.entries (name_of x) ≡ None = name_free bytes _ _ c.args.parent c.args.name c.self.invariant can.free in
    let swap = swapped _ _ c.args.number s x found refl (c.rename.ensures.nodes s found) in
    let moved =
    IsRenamed-from c.self.inside.names.entries c.remove.new.self.entries c.insert.new.self.entries (name_of s) (name_of x)
    c.insert.result c.args.number _ ((named_now _ _ _ _ c.self.invariant.named found).under) free (rw was at c.remove.ensures.gone)
    (λ q differs. c.remove.ensures.other_names q (λ same. differs (same ∙ was))) (rw name at c.insert.ensures.under)
    (λ q differs. c.insert.ensures.other_names q (λ same. differs (same ∙ name))) in
    rw swap.is
    (IsTree-renamed _ _ c.insert.new.self.entries c.args.number _ _ c.self.invariant swap.found swap.number can.few free moved.here moved.gone moved.others)

pub returns-clause-tree : goal.returns-clause-tree
returns-clause-tree g c =
    let found = sym c.in-Some.ensures in
    rw (← c.self.view_is)
    (λ bytes. tree-swapped bytes _ _ c.args.number _ _ (λ (n : Node). record n { parent = c.args.parent; name = c.args.name }) c.self.invariant.rising
    (swapped _ _ c.args.number _ _ found refl (c.rename.ensures.nodes _ found)) refl)

pub returns-clause-versions : goal.returns-clause-versions
returns-clause-versions g c =
    let found = sym c.in-Some.ensures in
    rw (← c.self.view_is)
    (versions-swapped _ _ c.args.number _ _ c.self.invariant.rising (swapped _ _ c.args.number _ _ found refl (c.rename.ensures.nodes _ found)) refl)

pub returns-clause-contents : goal.returns-clause-contents
returns-clause-contents g c =
    let found = sym c.in-Some.ensures in
    rw (← c.self.view_is) (contents-kept _ _ c.args.number _ _ (swapped _ _ c.args.number _ _ found refl (c.rename.ensures.nodes _ found)) refl)
