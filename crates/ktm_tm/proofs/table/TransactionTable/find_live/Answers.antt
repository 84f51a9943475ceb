use Rattle.std.proofs.Common.{ap, ◌∙◌}
use Rattle.std.specs.Prelude.{find}
use Rattle.ktm_world.specs.Transactions.{same_id}
use Rattle.ktm_tm.specs.Table.{all_of}
use Rattle.ktm_tm.proofs.Kept.{first_live, kept_rising, live_found}
use Rattle.ktm_tm.proofs.table.TransactionTable.find_live.Goals as goal

pub find_in-requires : goal.find_in-requires
find_in-requires c = rw c.deref.ensures.value (kept_rising _ _ _ _ _ c.self.invariant.0)

pub returns-clause-first : goal.returns-clause-first
returns-clause-first c =
    rw (← c.self.view_is) (c.find_in.ensures ∙ ap (find (λ t. same_id t.id c.args.id)) (c.deref.ensures.value ∙ c.self.invariant.0.live_are) ∙ live_found (all_of c.self.inside.boot c.self.inside.back.items c.self.inside.endings.items c.self.inside.live.items) c.args.id)

pub returns-clause-found : goal.returns-clause-found
returns-clause-found c =
    rw (← c.self.view_is) (c.find_in.ensures ∙ ap (find (λ t. same_id t.id c.args.id)) (c.deref.ensures.value ∙ c.self.invariant.0.live_are) ∙ live_found (all_of c.self.inside.boot c.self.inside.back.items c.self.inside.endings.items c.self.inside.live.items) c.args.id ∙ first_live (all_of c.self.inside.boot c.self.inside.back.items c.self.inside.endings.items c.self.inside.live.items) c.args.id c.self.invariant.0.listed.rising)
