use Rattle.std.proofs.Common.{◌∙◌, ap, arith}
use Rattle.std.specs.Prelude.{sum_by}
use Rattle.std.proofs.lemmas.List.{take_all}
use Rattle.txf_durable.specs.Recorded.{units_put}
use Rattle.txf_durable.proofs.Giving.{units-given}
use Rattle.txf_durable.proofs.counts.units_given.Goals as goal

pub returns : goal.returns
returns c = λ tree all.
    c.loop-change.invariant.sum ∙ ap (sum_by units_put) (take_all c.loop-change.change-index c.args.changes.now (omega arith)) ∙ units-given tree c.args.changes.now c.requires all
