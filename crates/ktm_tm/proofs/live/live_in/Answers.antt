use Rattle.std.proofs.Common.{ap, is_some, sym, ◌∙◌}
use Rattle.ktm_tm.proofs.LiveCounts.{live-of-found, live-of-missing, live-of-none}
use Rattle.ktm_tm.proofs.live.live_in.Goals as goal

pub returns-in-Some-clause-live : goal.returns-in-Some-clause-live
returns-in-Some-clause-live c = c.live-live.ensures.live ∙ live-of-found c.args.transactions.now.items c.args.transaction c.args.enlistments.now.enlistments (ap is_some (sym c.in-Some.ensures.first))

pub returns-in-None-clause-live : goal.returns-in-None-clause-live
returns-in-None-clause-live c = sym (live-of-missing c.args.transactions.now.items c.args.transaction c.args.enlistments.now.enlistments (ap is_some (sym c.in-None.ensures.first)))

pub returns-then-live-eq0-clause-live : goal.returns-then-live-eq0-clause-live
returns-then-live-eq0-clause-live c = sym (live-of-none c.args.transactions.now.items c.args.transaction c.args.enlistments.now.enlistments (sym c.live-live.ensures.live ∙ c.if-live-eq0.true))
