use Rattle.std.proofs.Common.{arith}
use Rattle.std.proofs.lemmas.Grind.{common_steps}
use Rattle.ktm_kernel.proofs.Openings.{prepared_new}
use Rattle.ktm_kernel.proofs.open.prepare.Goals as goal

pub returns-in-Err-clause-err : goal.returns-in-Err-clause-err
returns-in-Err-clause-err g c = grind (arith, common_steps)

pub returns-in_default-format-clause-ok : goal.returns-in_default-format-clause-ok
returns-in_default-format-clause-ok g c = prepared_new c.law_of_new_images.ensures.states _ _ _ c.in-Ok.len c.len.ensures.same c.in-Ok.ensures.value c.if-len-eq0.true c.in_default-format.ensures.ok
