use Rattle.std.proofs.Common.{◌≡◌, subst, count_by}
use Rattle.ktm_base.specs.declared.id.Id.{Id}
use Rattle.ktm_world.specs.Enlistments.{is_unfinished}
use Rattle.ktm_enlist.proofs.Counting.{any_counted, none_counted}
use Rattle.ktm_enlist.proofs.enlistments.Enlistments.has_unfinished.Goals as goal

pub returns-in-Some : goal.returns-in-Some
returns-in-Some c =
    any_counted (is_unfinished c.args.transaction) c.args.self.now.enlistments c.in-Some.group.unfinished
    (subst (λ (id : Id). c.in-Some.group.unfinished ≡ count_by (is_unfinished id) c.args.self.now.enlistments) c.in-Some.ensures.group.1 c.in-Some.ensures.group.0.counted.unfinished)

pub returns-in-None : goal.returns-in-None
returns-in-None c = any_counted (is_unfinished c.args.transaction) c.args.self.now.enlistments 0 (none_counted c.args.self.now.enlistments c.args.transaction c.in-None.ensures.group 0).unfinished
