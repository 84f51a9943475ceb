use Rattle.std.proofs.Common.{◌≤◌, List, [], sum_by, refl, ap, sym, subst, ◌∙◌}
use Rattle.std.proofs.lemmas.Bool.{or_from}
use Rattle.ktm_base.specs.declared.refusal.Refusal.TheVariants.{NotEnoughQuota}
use Rattle.ktm_world.specs.Sizes.{event_size}
use Rattle.ktm_world.specs.declared.event.Event.{Event}
use Rattle.ktm_world.specs.declared.object.Handle.{Handle}
use Rattle.ktm_tm.specs.TmState.{id_after}
use Rattle.ktm_world.specs.Handles.{no_handle_left, object_at}
use Rattle.ktm_world.specs.Outcome.{Outcome}
use Rattle.ktm_world.specs.TransactionCalls.{create_resource_manager, no_manager_left}
use Rattle.ktm_memory.specs.Memory.{held, present_of}
use Rattle.ktm_memory.proofs.ObjectsDecided.{manager_decided, manager_records}
use Rattle.ktm_memory.proofs.offered.Tests.{test_passes}
use Rattle.ktm_memory.proofs.memory.Memory.decide_manager.Goals as goal

pub record_manager-requires-clause-fits : goal.record_manager-requires-clause-fits
record_manager-requires-clause-fits c =
    let handles = ap (λ m. no_handle_left m.handles.handles) (sym c.self.view_is) ∙ sym c.is_full.ensures ∙ c.if-is_full.false in
    let managers = ap (λ m. no_manager_left m.tm.managers m.tm.now) (sym c.self.view_is) ∙ sym c.is_full_of_managers.ensures ∙ c.if-is_full_of_managers.false in
    let x = present_of c.args.self.now in
    let made = create_resource_manager x c.args.process c.args.label c.args.durability in
    let id = c.next_manager_id-id.ensures ∙ ap (λ m. id_after m.tm.boot m.tm.now.last_manager) c.self.view_is in
    subst (λ (es : List Event). sum_by event_size es ≤ c.args.events.now.spare)
    (ap (λ (o : Outcome). o.events) (test_passes x _ NotEnoughQuota [] made (or_from _ _ handles managers))
    ∙ sym (manager_records (held c.args.self.now) c.args.process c.args.label c.args.durability c.next_manager_id-id.result id))
    c.requires.fits

pub returns-clause-ok : goal.returns-clause-ok
returns-clause-ok c =
    let handles = ap (λ m. no_handle_left m.handles.handles) (sym c.self.view_is) ∙ sym c.is_full.ensures ∙ c.if-is_full.false in
    let managers = ap (λ m. no_manager_left m.tm.managers m.tm.now) (sym c.self.view_is) ∙ sym c.is_full_of_managers.ensures ∙ c.if-is_full_of_managers.false in
    let kept = c.in_ok-reserve_manager.ensures.now in
    let x = present_of c.args.self.now in
    let made = create_resource_manager x c.args.process c.args.label c.args.durability in
    let id = c.next_manager_id-id.ensures ∙ ap (λ m. id_after m.tm.boot m.tm.now.last_manager) c.self.view_is in
    manager_decided (held c.args.self.now) _ c.args.process c.args.label c.args.durability c.guid.result c.image.result c.next_manager_id-id.result c.record_manager.new.events
    c.guid.ensures (c.image.ensures ∙ ap (λ m. m.journal.image) c.self.view_is) id
    (rw (← c.self.view_is) (rw (c.in_ok-reserve.ensures.handles, kept.boot, kept.now, kept.managers) refl)) (
      c.in_ok-reserve_manager.ensures.room,
      c.in_ok-reserve.ensures.room,
      ap (λ ms. no_manager_left ms c.reserve_manager.new.self.now) kept.managers ∙ ap (λ now. no_manager_left c.self.inside.tm.managers now) kept.now ∙ ap (λ m. no_manager_left m.tm.managers m.tm.now) c.self.view_is ∙ managers,
      ap (λ (hs : List Handle). object_at hs c.args.process c.args.label) (c.in_ok-reserve.ensures.handles ∙ ap (λ m. m.handles.handles) c.self.view_is) ∙ c.requires.free,
    )
    c.record_manager.ensures.holds
    _ (test_passes x _ NotEnoughQuota [] made (or_from _ _ handles managers))
