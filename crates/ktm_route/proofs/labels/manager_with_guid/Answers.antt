use Rattle.std.proofs.Common.{option_map, ap, sym, ◌∙◌}
use Rattle.ktm_base.specs.declared.id.ObjectKind.{ObjectKind}
use Rattle.ktm_standing.proofs.offered.Guids.{guid_law}
use Rattle.ktm_memory.specs.Memory.{present_of}
use Rattle.ktm_memory.proofs.offered.Standing.{kept}
use Rattle.ktm_world.specs.Enlistments.{Manager}
use Rattle.ktm_route.proofs.Found.{leads_to}
use Rattle.ktm_route.proofs.labels.manager_with_guid.Goals as goal

pub returns : goal.returns
returns c =
    let x = present_of c.args.memory.now in
    c.manager_there.ensures
    ∙ sym (ap (option_map (λ (m : Manager). m.id)) (guid_law.managers x c.args.guid.now c.id_of.result (kept x c.requires).sound.course
    (leads_to ObjectKind.Manager c.image.result x.recorded.image c.args.guid.now c.id_of.result (c.image.ensures ∙ ap (λ j. j.image) c.journal.ensures) c.id_of.ensures.found c.id_of.ensures.every)))
