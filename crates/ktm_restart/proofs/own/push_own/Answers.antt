use Rattle.std.proofs.Common.{append_assoc, subst}
use Rattle.ktm_event.specs.Kept.{Holds}
use Rattle.ktm_restart.proofs.own.push_own.Goals as goal

pub returns-clause-adds : goal.returns-clause-adds
returns-clause-adds c = λ group holds. subst (Holds c.push_done-2.new.events) (append_assoc group _ _) (c.push_done-2.ensures.adds _ (c.push_done.ensures.adds group holds))
