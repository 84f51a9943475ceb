use Rattle.std.proofs.Common.{◌∙◌}
use Rattle.txf_calls.specs.Calls.{unless_refused}
use Rattle.txf_calls.proofs.handle.set_end.Goals as goal

pub returns : goal.returns
returns g c who = c.unless_refused.ensures ∙ (λ i. unless_refused (c.end_refusal-refusal.ensures who i) (c.cut.ensures i))
