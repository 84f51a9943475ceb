use Rattle.std.proofs.Common.{◌≡◌, ap, arith, is_some, length, subst, sym, true}
use Rattle.ktm_world.specs.Enlistments.{Enlistment, manager_at}
use Rattle.ktm_tm.specs.TmState.{TmState}
use Rattle.ktm_tm.proofs.Carrying.{there_push}
use Rattle.ktm_tm.proofs.LiveCounts.{live-enlisted}
use Rattle.ktm_tm.proofs.Next.{back_push}
use Rattle.ktm_tm.proofs.Recovering.{recovered_end}
use Rattle.ktm_tm.proofs.tm.Tm.bring_back_enlistment.Goals as goal

pub invariant_of-self : goal.invariant_of-self
invariant_of-self c = (
  c.self.invariant.0,
  rw c.add.ensures.enlistments
      (back_push (λ (e : Enlistment). e.id) c.self.inside.transactions.boot c.self.inside.last_enlistment c.self.inside.enlistments.enlistments _ c.self.invariant.1 (omega (arith, c.requires.earlier, ap (λ (s : TmState). s.boot) c.self.view_is))),
  rw c.add.ensures.enlistments
      (there_push c.self.inside.managers.managers c.self.inside.enlistments.enlistments _ c.self.invariant.2 (subst (λ (s : TmState). is_some (manager_at s.managers c.args.e.manager) ≡ true) (sym c.self.view_is) c.requires.there)),
  recovered_end _ c.add.new.self.enlistments (ap length c.as_slice.ensures),
  rw c.add.ensures.enlistments (live-enlisted c.self.inside.transactions.items c.self.inside.enlistments.enlistments c.args.e _ c.live_one-live.result c.self.invariant.4 c.live_one-live.ensures),
  c.self.invariant.5,
)
