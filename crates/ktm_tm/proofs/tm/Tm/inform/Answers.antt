use Rattle.std.proofs.Common.{◌∙◌, is_some, refl, sym}
use Rattle.ktm_world.specs.Durable.{is_before}
use Rattle.ktm_world.specs.Enlistments.{has_id, is_live_enlistment, manager_at}
use Rattle.ktm_tm.specs.TmState.{id_after}
use Rattle.ktm_tm.proofs.Carrying.{changed_recovered, changed_test}
use Rattle.ktm_tm.proofs.LiveCounts.{live-changed}
use Rattle.ktm_tm.proofs.tm.Tm.inform.Goals as goal

pub invariant_of-self : goal.invariant_of-self
invariant_of-self c = (
  c.self.invariant.0,
  rw c.inform.ensures.enlistments (changed_test (λ id manager transaction. is_before id (id_after c.self.inside.transactions.boot c.self.inside.last_enlistment)) (has_id c.args.id) (λ e. record e { information = c.args.information }) record { id = λ e. refl; manager = λ e. refl; transaction = λ e. refl; recovered = λ e is. is } c.self.inside.enlistments.enlistments ∙ c.self.invariant.1),
  rw c.inform.ensures.enlistments (changed_test (λ id manager transaction. is_some (manager_at c.self.inside.managers.managers manager)) (has_id c.args.id) (λ e. record e { information = c.args.information }) record { id = λ e. refl; manager = λ e. refl; transaction = λ e. refl; recovered = λ e is. is } c.self.inside.enlistments.enlistments ∙ c.self.invariant.2),
  rw c.inform.ensures.enlistments (changed_recovered (has_id c.args.id) (λ e. record e { information = c.args.information }) record { id = λ e. refl; manager = λ e. refl; transaction = λ e. refl; recovered = λ e is. is } c.self.inside.back_enlistments c.self.inside.enlistments.enlistments c.self.invariant.3),
  rw c.inform.ensures.enlistments
      (c.self.invariant.4 ∙ sym (live-changed (is_live_enlistment c.self.inside.transactions.items) (has_id c.args.id) (λ e. record e { information = c.args.information }) (λ e. refl) c.self.inside.enlistments.enlistments)),
  c.self.invariant.5,
)
