use Rattle.std.proofs.Common.{◌≡◌, ◌∙◌, ap, ap₂, sym}
use Rattle.std.specs.Option.{option_map}
use Rattle.txf_nodes.specs.Indexes.{name_of}
use Rattle.txf_nodes.specs.NodesState.{content_in, tree_in, versions_in}
use Rattle.txf_nodes.specs.Places.{child_name}
use Rattle.txf_nodes.proofs.Applying.{under-gone, under-same, without_now-none}
use Rattle.txf_nodes.proofs.Changing.{tree_in-without, versions_in-without}
use Rattle.txf_nodes.proofs.InPlace.{content-without, content_by, other-without}
use Rattle.txf_nodes.proofs.Renaming.{IsTree-without}
use Rattle.txf_nodes.proofs.table.NodeTable.remove.Goals as goal

pub invariant_of-self : goal.invariant_of-self
invariant_of-self g c =
    let name : c.as_slice.result.now ≡ name_of c.in-Some.stored =
    c.as_slice.ensures ∙ c.child_name.ensures ∙ ap₂ child_name c.parent.ensures c.name.ensures.name in
    rw c.in-Some.ensures.nodes
    (IsTree-without _ _ c.remove-in-Some.new.self.entries c.args.number c.in-Some.stored c.self.invariant (sym c.in-Some.ensures.node)
    (under-gone c.remove-in-Some.new.self.entries (name_of c.in-Some.stored) (rw name at c.remove-in-Some.ensures.gone))
    (λ q differs. under-same _ _ q (c.remove-in-Some.ensures.other_names q (λ same. differs (same ∙ name)))))

pub invariant_of-self-in-None : goal.invariant_of-self-in-None
invariant_of-self-in-None g c = rw (c.in-None.ensures.nodes, without_now-none _ c.args.number c.in-None.ensures.node) c.self.invariant

pub returns-in-Some-clause-content : goal.returns-in-Some-clause-content
returns-in-Some-clause-content g c = rw (← c.self.view_is) (c.into_content.ensures ∙ ap content_in c.in-Some.ensures.node)

pub returns-in-Some-clause-bytes : goal.returns-in-Some-clause-bytes
returns-in-Some-clause-bytes g c = λ bytes.
    rw (← c.self.view_is) (ap (option_map bytes) (c.into_content.ensures ∙ ap content_in c.in-Some.ensures.node) ∙ content_by bytes _ c.args.number)

pub returns-in-Some-clause-tree : goal.returns-in-Some-clause-tree
returns-in-Some-clause-tree g c = λ bytes. rw (← c.self.view_is) (ap (tree_in bytes) c.in-Some.ensures.nodes ∙ tree_in-without bytes _ c.args.number)

pub returns-in-Some-clause-versions : goal.returns-in-Some-clause-versions
returns-in-Some-clause-versions g c = rw (← c.self.view_is) (ap versions_in c.in-Some.ensures.nodes ∙ versions_in-without _ c.args.number)

pub returns-in-Some-clause-contents : goal.returns-in-Some-clause-contents
returns-in-Some-clause-contents g c =
    rw (← c.self.view_is)
    (record {
      here = content-without _ _ c.args.number c.in-Some.ensures.nodes;
      others = λ other differs. other-without _ _ c.args.number c.in-Some.ensures.nodes other differs;
    })

pub returns-in-None-clause-content : goal.returns-in-None-clause-content
returns-in-None-clause-content g c = rw (← c.self.view_is) (ap content_in c.in-None.ensures.node)

pub returns-in-None-clause-bytes : goal.returns-in-None-clause-bytes
returns-in-None-clause-bytes g c = λ bytes.
    rw (← c.self.view_is) (ap (option_map bytes) (ap content_in c.in-None.ensures.node) ∙ content_by bytes _ c.args.number)

pub returns-in-None-clause-tree : goal.returns-in-None-clause-tree
returns-in-None-clause-tree g c = λ bytes. rw (← c.self.view_is) (ap (tree_in bytes) c.in-None.ensures.nodes ∙ tree_in-without bytes _ c.args.number)

pub returns-in-None-clause-versions : goal.returns-in-None-clause-versions
returns-in-None-clause-versions g c = rw (← c.self.view_is) (ap versions_in c.in-None.ensures.nodes ∙ versions_in-without _ c.args.number)

pub returns-in-None-clause-contents : goal.returns-in-None-clause-contents
returns-in-None-clause-contents g c =
    rw (← c.self.view_is)
    (record {
      here = content-without _ _ c.args.number c.in-None.ensures.nodes;
      others = λ other differs. other-without _ _ c.args.number c.in-None.ensures.nodes other differs;
    })
