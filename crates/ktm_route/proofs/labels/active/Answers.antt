use Rattle.std.proofs.Common.{sym, ◌∙◌}
use Rattle.ktm_route.proofs.Routes.{none_named, same_named}
use Rattle.ktm_route.proofs.labels.active.Goals as goal

pub returns-in_default-clause-err : goal.returns-in_default-clause-err
returns-in_default-clause-err c = none_named _ (sym c.in_default.is ∙ c.named.ensures)

pub returns-in-Some-active_refusal-clause-err : goal.returns-in-Some-active_refusal-clause-err
returns-in-Some-active_refusal-clause-err c = same_named _ c.in-Some.t _ (sym c.in-Some.is ∙ c.named.ensures) (sym c.in-Some-active_refusal.is ∙ c.active_refusal.ensures)

pub returns-in-None-clause-ok : goal.returns-in-None-clause-ok
returns-in-None-clause-ok c = (sym (c.named.ensures) ∙ c.in-Some.is, sym c.active_refusal.ensures ∙ c.in-None.is)
