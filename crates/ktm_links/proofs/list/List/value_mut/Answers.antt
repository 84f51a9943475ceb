use Rattle.std.proofs.Common.{ap, refl, ◌∙◌}
use Rattle.ktm_links.specs.Items.{Listed, with_value}
use Rattle.ktm_links.proofs.Linked.{listed_valued, present, removed_value, valued_key}
use Rattle.ktm_links.proofs.Segments.{is_linked}
use Rattle.ktm_links.proofs.offered.Keys.{split}
use Rattle.ktm_links.proofs.list.List.value_mut.Goals as goal

pub index_mut-requires : goal.index_mut-requires
index_mut-requires g c = present _ _ _ _ _ _ c.self.invariant (split _ _ (rw (← c.self.view_is) at c.requires))

pub invariant_of-self-lent : goal.invariant_of-self-lent
invariant_of-self-lent g c w =
    is_linked _ _ _ _ _ (valued_key _ _ _ _ _ c.args.key _ w (split _ _ (rw (← c.self.view_is) at c.requires)) c.self.invariant c.index_mut.ensures.value)

pub returns : goal.returns
returns g c =
    let at = split _ _ (rw (← c.self.view_is) at c.requires) in (
      (
        refl,
        λ w. listed_valued _ _ _ _ _ c.args.key _ w at c.self.invariant c.index_mut.ensures.value
            ∙ ap (λ (l : Listed _). record l { items = with_value l.items c.args.key w }) c.self.view_is,
      ),
      record {
        writes_back = tt;
        value = rw (← c.self.view_is) (removed_value _ _ _ _ _ _ c.index_mut.result.now c.self.invariant at c.index_mut.ensures.value);
      },
    )
