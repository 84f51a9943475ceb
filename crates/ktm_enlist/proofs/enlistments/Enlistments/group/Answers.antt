use Rattle.std.proofs.Common.{arith, subst}
use Rattle.ktm_enlist.specs.Enlistments.{AreEnlisted, EnlistmentsState}
use Rattle.ktm_enlist.proofs.Grouping.{group_for}
use Rattle.ktm_enlist.proofs.enlistments.Enlistments.group.Goals as goal

pub returns-clause-group : goal.returns-clause-group
returns-clause-group c = rw (← c.self.view_is) (group_for c.self.inside.items.items c.self.inside.next.items c.self.inside.groups.items c.args.transaction c.group_in.result c.self.invariant.5 (rw c.deref.ensures.value at c.group_in.ensures))

pub returns-clause-enlisted : goal.returns-clause-enlisted
returns-clause-enlisted c =
    subst (λ (s : EnlistmentsState). AreEnlisted s.enlistments) c.self.view_is record { rising = c.self.invariant.0; few = omega (arith, c.self.invariant.4) }
