use Rattle.std.proofs.Common.{option_and_then, ap, sym, ◌∙◌}
use Rattle.ktm_base.specs.declared.id.ObjectKind.{ObjectKind}
use Rattle.ktm_memory.specs.Memory.{present_of}
use Rattle.ktm_memory.proofs.offered.Standing.{kept}
use Rattle.ktm_world.specs.Enlistments.{enlistment_at}
use Rattle.ktm_route.specs.Route.{live_of}
use Rattle.ktm_route.proofs.Found.{enlistment_by_guid, leads_to}
use Rattle.ktm_route.proofs.labels.enlistment_with_guid.Goals as goal

pub returns : goal.returns
returns c = λ m is.
    let x = present_of c.args.memory.now in
    c.enlistment_there.ensures
    ∙ ap (λ manager. option_and_then (λ id. live_of x.transactions manager (enlistment_at x.transactions.enlistments id)) c.id_of.result) (sym is)
    ∙ sym (enlistment_by_guid x m c.args.guid.now c.id_of.result (kept x c.requires).sound.course
    (leads_to ObjectKind.Enlistment c.image.result x.recorded.image c.args.guid.now c.id_of.result (c.image.ensures ∙ ap (λ j. j.image) c.journal.ensures) c.id_of.ensures.found c.id_of.ensures.every))
