use Rattle.std.proofs.Common.{arith, length-append}
use Rattle.std.specs.List.{flat_map}
use Rattle.ktm_world.specs.declared.recorded.RecordedPart.{RecordedPart}
use Rattle.ktm_world.specs.Durable.{enlistments_in, superior_ids}
use Rattle.ktm_waiting.proofs.Fitting.{enlistments-all}
use Rattle.ktm_waiting.proofs.amounts.enlistments_of.Goals as goal

pub returns : goal.returns
returns c =
    let parts = c.transaction.inside.parts.items in
    let both = length-append (superior_ids c.transaction.inside.superior) (flat_map (λ (p : RecordedPart). enlistments_in p.part) parts) in
    let counted = rw c.deref.ensures.value at c.count_enlistments.ensures in
    rw (← c.transaction.view_is) (omega (arith, both, enlistments-all parts, counted, c.count_superiors.ensures.count))
