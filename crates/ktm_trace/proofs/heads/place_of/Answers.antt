use Rattle.std.proofs.Common.{◌∙◌, ap}
use Rattle.std.specs.Prelude.{length}
use Rattle.std.specs.Option.{unwrap_or}
use Rattle.ktm_trace.specs.declared.heads.Head.{Head}
use Rattle.ktm_world.specs.Durable.{is_before}
use Rattle.ktm_trace.proofs.Placed.{first-at}
use Rattle.ktm_trace.proofs.heads.place_of.Goals as goal

pub returns-clause-place : goal.returns-clause-place
returns-clause-place c = c.unwrap_or.ensures ∙ ap (λ o. unwrap_or o (length c.args.items.now)) c.first_behind.ensures ∙ first-at (λ (h : Head). is_before c.args.id h.id) c.args.items.now
