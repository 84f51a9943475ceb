use Rattle.std.proofs.Common.{ap, subst, ◌∙◌}
use Rattle.std.specs.Prelude.{filter}
use Rattle.ktm_world.specs.Transactions.{is_live}
use Rattle.ktm_tm.specs.Timeouts.{NoneDueBefore}
use Rattle.ktm_tm.specs.TmState.{TmState}
use Rattle.ktm_tm.proofs.Early.{early-live}
use Rattle.ktm_tm.proofs.tm.Tm.earliest_now.Goals as goal

pub returns-else-self : goal.returns-else-self
returns-else-self c =
    let live = c.live.ensures.live ∙ ap (λ (s : TmState). filter is_live s.now.items) c.self.view_is in
    early-live c.earliest_of.result c.args.self.now.now.items (subst (NoneDueBefore c.earliest_of.result) live c.earliest_of.ensures)
