use Rattle.std.proofs.Common.{◌∙◌}
use Rattle.txf_opens.specs.Acts.{act_of}
use Rattle.txf_reserve.proofs.Meets.{meets_by-another, meets_parts-by}
use Rattle.txf_reserve.proofs.reserve.Reserve.meets.Goals as goal

pub returns : goal.returns
returns c =
    c.meets_parts.ensures
    ∙ meets_parts-by c.args.self.now c.args.opens.now.opens c.args.who (act_of c.args.act.now) c.parts_of.result c.parts_of.ensures
    ∙ meets_by-another c.args.self.now c.args.opens.now.opens c.args.who (act_of c.args.act.now)
