use Rattle.std.proofs.Common.{◌∷◌, ◌∙◌, [], None, not, ap, sym, subst}
use Rattle.txf_durable.specs.Waiting.{is_met}
use Rattle.ktm_replayed.specs.Replayed.{ReplayedState}
use Rattle.ktm_waiting.specs.Waiting.{AreHeld}
use Rattle.ktm_waiting.proofs.offered.Beside.{changes-alone, changes-met, tested-with}
use Rattle.ktm_replayed.proofs.replayed.Replayed.is_free.Goals as goal

pub returns-then-not-others_change : goal.returns-then-not-others_change
returns-then-not-others_change c = sym (changes-alone c.args.self.now.state None (c.args.change.now ∷ []) (sym c.others_change.ensures ∙ c.if-not-others_change.true))

pub returns-then-applies : goal.returns-then-applies
returns-then-applies c =
    let s = c.args.self.now.state in
    let w = c.self.inside.waiting in
    let cs = c.args.change.now ∷ [] in
    let held = subst (λ (r : ReplayedState). AreHeld w r.state.tree r.state.transactions) c.self.view_is c.self.invariant in
    let met = c.meets_one.ensures ∙ ap (λ (r : ReplayedState). is_met w None r.state.tree cs) c.self.view_is in
    tested-with s None cs (not c.meets_one.result) (λ all new. ap not met ∙ sym (changes-met s w None cs held all new))
