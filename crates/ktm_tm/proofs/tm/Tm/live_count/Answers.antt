use Rattle.std.proofs.Common.{ap, length, ◌∙◌}
use Rattle.std.specs.Prelude.{count_by}
use Rattle.std.proofs.lemmas.List.Sums.{length-filter}
use Rattle.ktm_world.specs.Transactions.{is_live}
use Rattle.ktm_tm.specs.TmState.{TmState}
use Rattle.ktm_tm.proofs.tm.Tm.live_count.Goals as goal

pub returns : goal.returns
returns c = ap length c.live.ensures.live ∙ length-filter is_live c.self.inside.transactions.items ∙ ap (λ (s : TmState). count_by is_live s.now.items) c.self.view_is
