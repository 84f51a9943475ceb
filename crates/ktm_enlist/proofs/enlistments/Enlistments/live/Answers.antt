use Rattle.ktm_enlist.proofs.Counting.{none_counted}
use Rattle.ktm_enlist.proofs.enlistments.Enlistments.live.Goals as goal

pub returns-in-None-clause-live : goal.returns-in-None-clause-live
returns-in-None-clause-live c = (none_counted c.args.self.now.enlistments c.args.transaction c.in-None.ensures.group 0).live
