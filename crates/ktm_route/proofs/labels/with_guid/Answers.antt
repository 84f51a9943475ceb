use Rattle.std.proofs.Common.{◌&&◌, ap, sym, ◌∙◌}
use Rattle.std.specs.Prelude.{find, option_and_then}
use Rattle.ktm_base.specs.declared.id.ObjectKind.{ObjectKind}
use Rattle.ktm_world.specs.Transactions.{is_live, same_id}
use Rattle.ktm_standing.proofs.offered.Guids.{guid_law}
use Rattle.ktm_memory.specs.Memory.{present_of}
use Rattle.ktm_memory.proofs.offered.Standing.{kept}
use Rattle.ktm_route.proofs.Found.{leads_to}
use Rattle.ktm_route.proofs.labels.with_guid.Goals as goal

pub returns-in_default : goal.returns-in_default
returns-in_default c =
    let x = present_of c.args.memory.now in
    sym (guid_law.transactions x c.args.guid.now c.id_of.result (kept x c.requires).sound.course
    (leads_to ObjectKind.Transaction c.image.result x.recorded.image c.args.guid.now c.id_of.result (c.image.ensures ∙ ap (λ j. j.image) c.journal.ensures) c.id_of.ensures.found c.id_of.ensures.every)
    ∙ ap (option_and_then (λ id. find (λ t. is_live t && same_id t.id id) x.transactions.items)) c.in_default.is)

pub returns : goal.returns
returns c =
    let x = present_of c.args.memory.now in
    c.find_live.ensures.first
    ∙ ap (λ tm. find (λ t. is_live t && same_id t.id c.in-Some.id) tm.now.items) c.tm.ensures
    ∙ sym (guid_law.transactions x c.args.guid.now c.id_of.result (kept x c.requires).sound.course
    (leads_to ObjectKind.Transaction c.image.result x.recorded.image c.args.guid.now c.id_of.result (c.image.ensures ∙ ap (λ j. j.image) c.journal.ensures) c.id_of.ensures.found c.id_of.ensures.every)
    ∙ ap (option_and_then (λ id. find (λ t. is_live t && same_id t.id id) x.transactions.items)) c.in-Some.is)
