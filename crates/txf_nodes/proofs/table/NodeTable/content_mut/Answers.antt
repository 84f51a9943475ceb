use Rattle.std.proofs.Common.{◌∙◌, ap, refl}
use Rattle.std.specs.Option.{option_map}
use Rattle.txf_nodes.proofs.InPlace.{IsTree-refilled, content_by, few_now, refilled-if}
use Rattle.txf_nodes.proofs.table.NodeTable.content_mut.Goals as goal

pub content_mut-requires : goal.content_mut-requires
content_mut-requires g c = few_now _ c.args.file c.args.changes _ c.self.invariant.rising (rw (← c.self.view_is) at c.requires)

pub invariant_of-self-lent : goal.invariant_of-self-lent
invariant_of-self-lent g c = λ _. (λ w. IsTree-refilled _ _ c.args.file c.args.changes w c.self.invariant, c.self.invariant)

pub returns : goal.returns
returns g c =
    rw (← c.self.view_is) (
      refl,
      record {
        writes_back = tt;
        value = c.content_mut.ensures.value;
        bytes = λ bytes. ap (option_map bytes) c.content_mut.ensures.value ∙ content_by bytes _ c.args.file;
        refilled = λ content. refilled-if _ c.args.file c.args.changes content c.content_mut.result c.self.invariant.rising c.content_mut.ensures.value;
      },
    )
