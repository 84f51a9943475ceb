use Rattle.std.proofs.Common.{◌∙◌, Option, ap, sym}
use Rattle.std.specs.List.{list_all}
use Rattle.ktm_world.specs.declared.recorded.Superior.{Superior}
use Rattle.ktm_saved.proofs.EachOther.{none-is, of_parts}
use Rattle.ktm_saved.proofs.enlisted.is_no_superior_of.Goals as goal
use Rattle.txf_laws.proofs.offered.GoodTransactions.{differ}
use Rattle.ktm_world.specs.Durable.{superior_ids}

pub returns-in-Some : goal.returns-in-Some
returns-in-Some c =
    let ps = c.args.parts.now in
    none-is c.in-Some.s.enlistment ps c.has_part_of.result c.has_part_of.ensures ∙ ap (λ (o : Option Superior). list_all (λ x. list_all (differ x) (of_parts ps)) (superior_ids o)) (sym c.in-Some.is)
