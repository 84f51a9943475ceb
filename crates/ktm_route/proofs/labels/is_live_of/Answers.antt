use Rattle.std.proofs.Common.{◌≡◌, ◌&&◌, true, Some, None, ap, sym, ◌∙◌}
use Rattle.std.specs.Prelude.{find}
use Rattle.std.proofs.Math.Bool.{and-false}
use Rattle.txf_laws.proofs.offered.Elements.{not-not}
use Rattle.ktm_world.specs.Enlistments.{is_live_enlistment}
use Rattle.ktm_world.specs.Transactions.{is_live, same_id}
use Rattle.ktm_route.proofs.Found.{live_in_found}
use Rattle.ktm_route.proofs.labels.is_live_of.Goals as goal

pub returns-in-Some : goal.returns-in-Some
returns-in-Some c =
    let ts = c.args.memory.now.tm.now.items in
    let e = c.args.e.now in
    let found : find (λ t. is_live t && same_id t.id e.transaction) ts ≡ Some c.in-Some.t =
    rw (← c.e.view_is) (ap (λ tm. find (λ t. is_live t && same_id t.id c.e.inside.transaction) tm.now.items) (sym c.tm.ensures) ∙ sym c.find_live.ensures.first ∙ c.in-Some.is) in
    let same : same_id e.manager c.args.manager ≡ true = rw (← c.e.view_is) (not-not _ (sym c.ne.ensures ∙ c.if-ne.false)) in
    c.is_live.ensures ∙ sym (live_in_found ts e (Some c.in-Some.t) found) ∙ ap (λ b. b && is_live_enlistment ts e) (sym same)

pub returns-in-None : goal.returns-in-None
returns-in-None c =
    let ts = c.args.memory.now.tm.now.items in
    let e = c.args.e.now in
    let found : find (λ t. is_live t && same_id t.id e.transaction) ts ≡ None =
    rw (← c.e.view_is) (ap (λ tm. find (λ t. is_live t && same_id t.id c.e.inside.transaction) tm.now.items) (sym c.tm.ensures) ∙ sym c.find_live.ensures.first ∙ c.in-None.is) in
    sym (ap (λ b. same_id e.manager c.args.manager && b) (live_in_found ts e None found) ∙ and-false (same_id e.manager c.args.manager))
