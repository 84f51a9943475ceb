use Rattle.std.proofs.Common.{◌∙◌, ap, refl, sym}
use Rattle.ktm_world.specs.Enlistments.{Manager}
use Rattle.ktm_tm.specs.TmState.{id_after}
use Rattle.ktm_tm.proofs.Carrying.{there_more}
use Rattle.ktm_tm.proofs.Next.{next_push}
use Rattle.ktm_tm.proofs.tm.Tm.create_manager.Goals as goal

pub invariant_of-self : goal.invariant_of-self
invariant_of-self c =
    let id = c.next_manager_id-id.ensures ∙ ap (λ s. id_after s.boot s.now.last_manager) (sym c.self.view_is) in
    (rw (c.add.ensures.managers, id) (next_push (λ (m : Manager). m.id) c.self.inside.transactions.boot c.self.inside.last_manager c.self.inside.managers.managers _ c.self.invariant.0 refl), c.self.invariant.1, rw c.add.ensures.managers (there_more c.self.inside.managers.managers _ c.self.inside.enlistments.enlistments c.self.invariant.2), c.self.invariant.3, c.self.invariant.4, c.self.invariant.5)
