use Rattle.std.proofs.Common.{◌∙◌, [], Some}
use Rattle.ktm_world.specs.Durable.{is_before}
use Rattle.ktm_tm.specs.TmState.{id_after}
use Rattle.ktm_tm.proofs.Carrying.{there_all}
use Rattle.ktm_tm.proofs.Next.{served_before}
use Rattle.ktm_tm.proofs.tm.Tm.take_note.Goals as goal

pub invariant_of-self : goal.invariant_of-self
invariant_of-self c = (
  rw c.take.ensures.managers (served_before (λ id. is_before id (id_after c.self.inside.transactions.boot c.self.inside.last_manager)) (Some c.args.id) [] c.self.inside.managers.managers ∙ c.self.invariant.0),
  c.self.invariant.1,
  rw c.take.ensures.managers (there_all (Some c.args.id) [] c.self.inside.managers.managers c.self.inside.enlistments.enlistments ∙ c.self.invariant.2),
  c.self.invariant.3,
  c.self.invariant.4,
  c.self.invariant.5,
)
