use Rattle.std.proofs.Common.{ap, ◌∙◌}
use Rattle.std.specs.List.{list_any}
use Rattle.txf_opens.specs.Acts.{place_in}
use Rattle.txf_reserve.specs.HeldPairs.{is_of_other}
use Rattle.txf_reserve.proofs.Holding.{place_others}
use Rattle.txf_reserve.proofs.reserve.Reserve.is_place_held.Goals as goal

pub returns : goal.returns
returns c =
    rw (← c.self.view_is)
    (c.is_held_by_other.ensures
    ∙ ap (λ k. list_any (is_of_other k c.args.who) c.self.inside.places.pairs) (c.as_slice.ensures ∙ c.place_key.ensures)
    ∙ place_others c.self.inside.places.pairs c.self.invariant.places_are c.args.who (place_in c.args.place))
