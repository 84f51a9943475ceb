use Rattle.std.proofs.Common.{is_some, sym, ap, ◌∙◌}
use Rattle.ktm_links.specs.Mapped.{at}
use Rattle.txf_reserve.proofs.Changing.{key_at-some}
use Rattle.txf_reserve.proofs.Present.{has-at}
use Rattle.txf_reserve.proofs.pairs.Pairs.has.Goals as goal

pub returns : goal.returns
returns g c =
    rw (← c.self.view_is)
    (c.is_some.ensures
    ∙ ap is_some c.find.ensures.key
    ∙ key_at-some c.self.inside.by_owner.entries c.as_slice.result.now
    ∙ ap (λ q. is_some (at c.self.inside.by_owner.entries q)) (c.as_slice.ensures ∙ c.owner_name-name.ensures)
    ∙ sym (has-at g.K.PairName.room _ c.self.invariant.by_owner c.args.key.now c.args.transaction))
