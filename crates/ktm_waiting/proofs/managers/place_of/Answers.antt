use Rattle.std.proofs.Common.{◌∙◌, ap}
use Rattle.std.specs.Prelude.{length}
use Rattle.std.specs.Option.{unwrap_or}
use Rattle.ktm_world.specs.Durable.{is_before}
use Rattle.ktm_waiting.proofs.Placing.{first-at}
use Rattle.ktm_waiting.proofs.managers.place_of.Goals as goal

pub returns-clause-place : goal.returns-clause-place
returns-clause-place c = c.unwrap_or.ensures ∙ ap (λ o. unwrap_or o (length c.args.items.now)) c.first_behind.ensures ∙ first-at (is_before c.args.id) c.args.items.now
