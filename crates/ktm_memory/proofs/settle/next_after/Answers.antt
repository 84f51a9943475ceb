use Rattle.std.proofs.Common.{ap, refl, ◌∙◌, arith, Some}
use Rattle.ktm_memory.proofs.settle.next_after.Goals as goal

pub overflow_add-node : goal.overflow_add-node
overflow_add-node c = omega (arith, c.requires _ (c.in-Some.is ∙ ap Some c.in-Make.is) refl)
