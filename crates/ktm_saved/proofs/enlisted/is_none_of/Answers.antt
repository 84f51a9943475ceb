use Rattle.std.proofs.Common.{◌∙◌, ap, sym}
use Rattle.std.specs.List.{list_all}
use Rattle.ktm_world.specs.declared.event.Part.{Part}
use Rattle.ktm_saved.proofs.EachOther.{none-is, of_parts}
use Rattle.ktm_saved.proofs.enlisted.is_none_of.Goals as goal
use Rattle.txf_laws.proofs.offered.GoodTransactions.{differ}
use Rattle.ktm_world.specs.Durable.{enlistments_in}

pub returns-in-Enlistment : goal.returns-in-Enlistment
returns-in-Enlistment c =
    let ps = c.args.parts.now in
    none-is c.in-Enlistment.enlistment ps c.has_part_of.result c.has_part_of.ensures ∙ ap (λ (part : Part). list_all (λ x. list_all (differ x) (of_parts ps)) (enlistments_in part)) (sym c.in-Enlistment.is)
