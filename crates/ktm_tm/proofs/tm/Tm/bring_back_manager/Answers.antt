use Rattle.std.proofs.Common.{ap, arith}
use Rattle.ktm_world.specs.Enlistments.{Manager}
use Rattle.ktm_tm.specs.TmState.{TmState}
use Rattle.ktm_tm.proofs.Carrying.{there_more}
use Rattle.ktm_tm.proofs.Next.{back_push}
use Rattle.ktm_tm.proofs.tm.Tm.bring_back_manager.Goals as goal

pub invariant_of-self : goal.invariant_of-self
invariant_of-self c = (
  rw c.add.ensures.managers (back_push (λ (m : Manager). m.id) c.self.inside.transactions.boot c.self.inside.last_manager c.self.inside.managers.managers _ c.self.invariant.0 (omega (arith, c.requires.earlier, ap (λ (s : TmState). s.boot) c.self.view_is))),
  c.self.invariant.1,
  rw c.add.ensures.managers (there_more c.self.inside.managers.managers _ c.self.inside.enlistments.enlistments c.self.invariant.2),
  c.self.invariant.3,
  c.self.invariant.4,
  c.self.invariant.5,
)
