use Rattle.std.proofs.Common.{◌≤◌, ap, subst, sym, length, ◌∙◌}
use Rattle.std.proofs.lemmas.Bool.{le-ltb}
use Rattle.ktm_base.specs.declared.limits.TheConstants.{MOST_INFORMATION_BYTES}
use Rattle.ktm_world.specs.declared.command.Command.TheVariants.{SetEnlistmentRecoveryInformation}
use Rattle.ktm_world.specs.Enlistments.{Enlistment}
use Rattle.ktm_memory.specs.Memory.{present_of}
use Rattle.ktm_memory.specs.declared.routed.Routed.TheVariants.{Inform}
use Rattle.ktm_route.specs.Route.{IsRouted}
use Rattle.ktm_route.proofs.EnlistmentRoutes.{informs}
use Rattle.ktm_route.proofs.enlistment_routes.to_inform.Goals as goal

pub returns : goal.returns
returns c =
    let x = present_of c.args.memory.now in
    subst (λ id. IsRouted x c.args.process (SetEnlistmentRecoveryInformation c.args.label c.args.information) (Inform id c.args.information)) (sym (ap (λ (e : Enlistment). e.id) c.e.view_is))
    (informs x c.args.process c.requires.up c.requires.standing c.args.label c.in-Some.e.now c.in-Some.t (c.in-Some.ensures) c.law_of_calls.ensures c.args.information
    (sym c.may_set_information.ensures ∙ c.if-not-may_set_information.false)
    (le-ltb MOST_INFORMATION_BYTES (length c.args.information) (subst (λ n. n ≤ MOST_INFORMATION_BYTES) c.len.ensures c.if-len-gt-MOST_INFORMATION_BYTES.false)))
