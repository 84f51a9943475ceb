use Rattle.std.proofs.Common.{sym, ◌∙◌}
use Rattle.ktm_names.proofs.WalkLemmas.{past_end, past_none, past_star}
use Rattle.ktm_names.proofs.wildcard.walk.Goals as goal

pub returns-in_default : goal.returns-in_default
returns-in_default c = past_none c.args.pattern.now c.args.name.now (sym c.in_default.ensures)

pub returns-in-Some-split_first : goal.returns-in-Some-split_first
returns-in-Some-split_first c =
    past_star c.args.pattern.now c.args.name.now c.in-Some.rest.now c.in-Some-split_first.field-0-0.now c.in-Some-split_first.rest.now c.in-Some.left.now
    c.in-Some.ensures c.in-Some-split_first.ensures.cases.0

pub returns-in-None : goal.returns-in-None
returns-in-None c =
    past_end c.args.pattern.now c.args.name.now c.in-Some.rest.now c.in-Some.left.now c.in-Some.ensures c.in-None.ensures.cases
    ∙ sym c.is_empty.ensures ∙ c.if-is_empty.true

pub returns-in-None-2 : goal.returns-in-None-2
returns-in-None-2 c =
    past_end c.args.pattern.now c.args.name.now c.in-Some.rest.now c.in-Some.left.now c.in-Some.ensures c.in-None.ensures.cases
    ∙ sym c.is_empty.ensures ∙ c.if-is_empty.false
