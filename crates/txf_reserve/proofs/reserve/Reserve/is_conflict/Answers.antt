use Rattle.std.proofs.Common.{◌∙◌}
use Rattle.txf_opens.specs.Acts.{act_of}
use Rattle.txf_reserve.proofs.Meets.{is_conflict-parts}
use Rattle.txf_reserve.proofs.reserve.Reserve.is_conflict.Goals as goal

pub returns : goal.returns
returns c =
    c.are_in_conflict.ensures
    ∙ is_conflict-parts c.args.self.now c.args.opens.now.opens c.args.who (act_of c.args.act.now) c.args.outdated c.parts_of.result c.parts_of.ensures
