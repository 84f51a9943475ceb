use Rattle.std.proofs.Common.{is_some, ap, sym, ◌∙◌}
use Rattle.ktm_world.specs.Enlistments.{Manager}
use Rattle.ktm_world.specs.Labels.{manager_named}
use Rattle.ktm_memory.specs.Memory.{present_of}
use Rattle.ktm_memory.proofs.offered.Standing.{kept}
use Rattle.ktm_route.proofs.EnlistmentRoutes.{enlist_bound, enlist_refused, enlist_unfit, enlist_unnamed, enlists}
use Rattle.ktm_route.proofs.ManagerRoutes.{manager_by, none_mapped}
use Rattle.ktm_route.proofs.enlistment_routes.to_enlist.Goals as goal

pub returns-in_default : goal.returns-in_default
returns-in_default c =
    let x = present_of c.args.memory.now in
    enlist_unnamed x c.args.process c.requires.up c.args.label c.args.manager c.args.transaction c.args.kind
    (none_mapped (λ (m : Manager). m.id) (manager_named x c.args.process c.args.manager) (sym c.manager_named.ensures ∙ c.in_default.is))

pub returns-in-Err : goal.returns-in-Err
returns-in-Err c =
    let x = present_of c.args.memory.now in
    let named = manager_by x c.args.process c.args.manager c.in-Some.manager (sym c.manager_named.ensures ∙ c.in-Some.is) in
    enlist_refused x c.args.process c.requires.up c.args.label c.args.manager c.args.transaction c.args.kind named.0 c.in-Some.manager named.1 named.3 c.in-Err.refusal (c.in-Err.ensures.err)

pub returns-then-is_some : goal.returns-then-is_some
returns-then-is_some c =
    let x = present_of c.args.memory.now in
    let named = manager_by x c.args.process c.args.manager c.in-Some.manager (sym c.manager_named.ensures ∙ c.in-Some.is) in
    let (into, passed) = c.in-Ok.ensures.ok in
    enlist_bound x c.args.process c.requires.up c.args.label c.args.manager c.args.transaction c.args.kind named.0 c.in-Some.manager named.1 named.3 c.in-Ok.t into passed
    (ap is_some (sym c.object_at.ensures) ∙ sym c.is_some.ensures ∙ c.if-is_some.true)

pub returns-in-Some-kind_refusal : goal.returns-in-Some-kind_refusal
returns-in-Some-kind_refusal c =
    let x = present_of c.args.memory.now in
    let named = manager_by x c.args.process c.args.manager c.in-Some.manager (sym c.manager_named.ensures ∙ c.in-Some.is) in
    let (into, passed) = c.in-Ok.ensures.ok in
    enlist_unfit x c.args.process c.requires.up c.args.label c.args.manager c.args.transaction c.args.kind named.0 c.in-Some.manager named.1 named.3 c.in-Ok.t into passed
    (kept x c.requires.standing).sound.course (ap is_some (sym c.object_at.ensures) ∙ sym c.is_some.ensures ∙ c.if-is_some.false)
    c.in-Some-kind_refusal.refusal (sym c.kind_refusal.ensures ∙ c.in-Some-kind_refusal.is)

pub returns-in-None : goal.returns-in-None
returns-in-None c =
    let x = present_of c.args.memory.now in
    let named = manager_by x c.args.process c.args.manager c.in-Some.manager (sym c.manager_named.ensures ∙ c.in-Some.is) in
    let (into, passed) = c.in-Ok.ensures.ok in
    enlists x c.args.process c.requires.up c.args.label c.args.manager c.args.transaction c.args.kind named.0 c.in-Some.manager named.1 named.3 c.in-Ok.t into passed
    (kept x c.requires.standing).sound.course (ap is_some (sym c.object_at.ensures) ∙ sym c.is_some.ensures ∙ c.if-is_some.false)
    (sym c.kind_refusal.ensures ∙ c.in-None.is)
