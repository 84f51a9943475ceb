use Rattle.std.proofs.Common.{◌≡◌, ◌∙◌, ap, is_some, refl, subst, sym, true}
use Rattle.ktm_world.specs.Enlistments.{Enlistment, manager_at}
use Rattle.ktm_tm.specs.TmState.{TmState, id_after}
use Rattle.ktm_tm.proofs.Carrying.{there_push}
use Rattle.ktm_tm.proofs.LiveCounts.{live-enlisted}
use Rattle.ktm_tm.proofs.Next.{next_push}
use Rattle.ktm_tm.proofs.Recovering.{recovered_push}
use Rattle.ktm_tm.proofs.tm.Tm.create_enlistment.Goals as goal

pub invariant_of-self : goal.invariant_of-self
invariant_of-self c =
    let id = c.next_enlistment_id-id.ensures ∙ ap (λ s. id_after s.boot s.now.last_enlistment) (sym c.self.view_is) in
    (c.self.invariant.0, rw (c.add.ensures.enlistments, id) (next_push (λ (e : Enlistment). e.id) c.self.inside.transactions.boot c.self.inside.last_enlistment c.self.inside.enlistments.enlistments _ c.self.invariant.1 refl), rw c.add.ensures.enlistments (there_push c.self.inside.managers.managers c.self.inside.enlistments.enlistments _ c.self.invariant.2 (subst (λ (s : TmState). is_some (manager_at s.managers c.args.manager) ≡ true) (sym c.self.view_is) c.requires.there)), rw c.add.ensures.enlistments (recovered_push _ c.self.inside.enlistments.enlistments _ c.self.invariant.3 refl), rw c.add.ensures.enlistments (live-enlisted c.self.inside.transactions.items c.self.inside.enlistments.enlistments _ _ c.live_one.result c.self.invariant.4 c.live_one.ensures), c.self.invariant.5)
