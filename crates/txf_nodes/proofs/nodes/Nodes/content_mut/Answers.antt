use borrow.Follows.Closed.{read_of}
use Rattle.std.proofs.Common.{Option, ◌<◌, ◌+◌, ◌^◌, ◌∙◌, ap, min, refl, subst, sym}
use Rattle.std.specs.Prelude.{IfSome}
use Rattle.std.specs.Option.{ghost_name_of}
use Rattle.txf_nodes.specs.Indexes.{nodes_of}
use Rattle.txf_nodes.specs.NodesState.{NodeOf, content_in}
use Rattle.txf_nodes.proofs.Numbering.{IsIndexed-refilled, now_at-key, unnumbered}
use Rattle.txf_nodes.proofs.nodes.Nodes.content_mut.Goals as goal

pub content_at-requires : goal.content_at-requires
content_at-requires g c =
    subst (λ (o : Option (NodeOf _)). IfSome o (λ x. 0 < c.args.changes → x.version + c.args.changes < 2 ^ 64)) (now_at-key _ _ c.args.number c.in-Some.key c.self.invariant.all (sym c.in-Some.ensures))
    (rw (← c.self.view_is) at c.requires)

pub invariant_of-self-lent : goal.invariant_of-self-lent
invariant_of-self-lent g c =
    λ _. (λ w. (IsIndexed-refilled _ _ c.args.number c.in-Some.key c.args.changes w c.self.invariant (sym c.in-Some.ensures)).0, c.self.invariant)

pub returns-in-Some : goal.returns-in-Some
returns-in-Some g c =
    let nodes = c.self.inside.nodes in
    let numbers = c.self.inside.numbers in
    rw (← c.self.view_is) (
      λ t. read_of (ghost_name_of c.content_at.result)
          (λ (w : g.row.C.Denot). record {
            nodes = (IsIndexed-refilled nodes.items numbers.entries c.args.number c.in-Some.key c.args.changes w c.self.invariant (sym c.in-Some.ensures)).1 t;
            spare = min nodes.spare numbers.spare;
          })
          (record { nodes = nodes_of nodes.items numbers.entries; spare = min nodes.spare numbers.spare }),
      record {
        writes_back = tt;
        value = c.content_at.ensures.value ∙ ap content_in (sym (now_at-key _ _ c.args.number c.in-Some.key c.self.invariant.all (sym c.in-Some.ensures)));
      },
    )

pub returns-in-None : goal.returns-in-None
returns-in-None g c =
    rw (← c.self.view_is) (
      refl,
      record {
        writes_back = tt;
        value = ap content_in (sym (unnumbered _ _ c.args.number c.self.invariant.all (sym c.in-None.ensures)).0);
      },
    )
