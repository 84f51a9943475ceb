use Rattle.std.proofs.Common.{Some, ap, subst, sym, ◌∙◌}
use Rattle.ktm_world.specs.declared.command.Command.TheVariants.{RecoverEnlistment}
use Rattle.ktm_world.specs.Enlistments.{Enlistment}
use Rattle.ktm_memory.specs.Memory.{present_of}
use Rattle.ktm_memory.specs.declared.routed.Routed.TheVariants.{Course}
use Rattle.ktm_route.specs.Route.{IsRouted}
use Rattle.ktm_route.proofs.EnlistmentRoutes.{recovery, recovery_refused}
use Rattle.ktm_route.proofs.enlistment_routes.to_recover.Goals as goal

pub returns-in-Ok : goal.returns-in-Ok
returns-in-Ok c =
    let x = present_of c.args.memory.now in
    subst (λ id. IsRouted x c.args.process (RecoverEnlistment c.args.label) (Course c.in-Some.transaction (Some id) c.in-Ok.input)) (sym (ap (λ (e : Enlistment). e.id) c.e.view_is))
    (recovery x c.args.process c.requires.up c.requires.standing c.args.label c.in-Some.e.now c.in-Some.transaction (c.in-Some.ensures)
    c.law_of_calls.ensures c.law_of_coming.ensures c.law_of_files.ensures c.requires.counts c.law_of_spelled.ensures c.in-Ok.input c.requires.command (sym c.recover.ensures ∙ c.in-Ok.is))

pub returns-in-Err : goal.returns-in-Err
returns-in-Err c =
    recovery_refused (present_of c.args.memory.now) c.args.process c.requires.up c.requires.standing c.args.label c.in-Some.e.now c.in-Some.transaction (c.in-Some.ensures)
    c.law_of_calls.ensures c.law_of_coming.ensures c.law_of_files.ensures c.requires.counts c.law_of_spelled.ensures c.in-Err.refusal (sym c.recover.ensures ∙ c.in-Err.is)
