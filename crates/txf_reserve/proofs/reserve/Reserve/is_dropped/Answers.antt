use Rattle.std.proofs.Common.{ap, ◌∙◌}
use Rattle.std.specs.List.{list_any}
use Rattle.txf_reserve.specs.HeldPairs.{is_of_other}
use Rattle.txf_reserve.proofs.Holding.{number_others}
use Rattle.txf_reserve.proofs.reserve.Reserve.is_dropped.Goals as goal

pub returns : goal.returns
returns c =
    rw (← c.self.view_is)
    (c.is_held_by_other.ensures
    ∙ ap (λ k. list_any (is_of_other k c.args.who) c.self.inside.dropped.pairs) c.long_bytes.ensures
    ∙ number_others c.self.inside.dropped.pairs c.self.invariant.dropped_are c.args.who c.args.directory)
