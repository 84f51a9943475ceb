use Rattle.std.proofs.Common.{subst}
use Rattle.ktm_base.specs.declared.id.Id.{Id}
use Rattle.ktm_enlist.specs.Counts.{AreCounts}
use Rattle.ktm_enlist.proofs.Counting.{none_counted}
use Rattle.ktm_enlist.proofs.enlistments.Enlistments.counts.Goals as goal

pub returns-in-Some : goal.returns-in-Some
returns-in-Some c = subst (λ (id : Id). AreCounts c.in-Some.group.counts id c.args.self.now.enlistments) c.in-Some.ensures.group.1 c.in-Some.ensures.group.0.counted.counts

pub returns-in-None : goal.returns-in-None
returns-in-None c = (none_counted c.args.self.now.enlistments c.args.transaction c.in-None.ensures.group 0).counts
