use Rattle.std.proofs.Common.{cond, Some, None, is_some, ap, sym, ◌∙◌}
use Rattle.ktm_world.specs.Enlistments.{Manager, manager_at}
use Rattle.ktm_memory.specs.Memory.{present_of}
use Rattle.std.proofs.Common.{option_and_then, option_map}
use Rattle.ktm_route.proofs.Found.{manager_by_id}
use Rattle.ktm_route.proofs.labels.manager_there.Goals as goal

pub returns-then-has_manager : goal.returns-then-has_manager
returns-then-has_manager c =
    let ms = (present_of c.args.memory.now).managers in
    let id = c.in_ok-id.id in
    sym (ap (λ o. option_map (λ (m : Manager). m.id) (option_and_then (manager_at ms) o)) c.in_ok-id.was
    ∙ manager_by_id ms id
    ∙ ap (λ b. cond b (Some id) None) (ap (λ tm. is_some (manager_at tm.managers id)) (sym c.tm.ensures) ∙ sym c.has_manager.ensures ∙ c.if-has_manager.true))
