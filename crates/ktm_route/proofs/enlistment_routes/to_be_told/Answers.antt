use Rattle.std.proofs.Common.{ap, subst, sym, ◌∙◌}
use Rattle.ktm_world.specs.declared.command.Command.TheVariants.{GetEnlistmentRecoveryInformation}
use Rattle.ktm_world.specs.Enlistments.{Enlistment}
use Rattle.ktm_memory.specs.Memory.{present_of}
use Rattle.ktm_memory.specs.declared.routed.Routed.TheVariants.{Tell}
use Rattle.ktm_route.specs.Route.{IsRouted}
use Rattle.ktm_route.proofs.EnlistmentRoutes.{tell_refused, tells}
use Rattle.ktm_route.proofs.enlistment_routes.to_be_told.Goals as goal

pub returns-then-is_live : goal.returns-then-is_live
returns-then-is_live c =
    let x = present_of c.args.memory.now in
    subst (λ id. IsRouted x c.args.process (GetEnlistmentRecoveryInformation c.args.label) (Tell id)) (sym (ap (λ (e : Enlistment). e.id) c.e.view_is))
    (tells x c.args.process c.requires.up c.requires.standing c.args.label c.in-Some.e.now c.in-Some.t (c.in-Some.ensures) (sym c.is_live.ensures ∙ c.if-is_live.true))

pub returns-else-is_live : goal.returns-else-is_live
returns-else-is_live c =
    tell_refused (present_of c.args.memory.now) c.args.process c.requires.up c.requires.standing c.args.label c.in-Some.e.now c.in-Some.t (c.in-Some.ensures) (sym c.is_live.ensures ∙ c.if-is_live.false)
