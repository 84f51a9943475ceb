use Rattle.std.proofs.Common.{◌&&◌, ◌∙◌, sym, subst}
use Rattle.std.specs.Prelude.{IfOk, ◌≡◌}
use Rattle.txf_durable.specs.Waiting.{is_met}
use Rattle.ktm_replayed.specs.Replayed.{ReplayedState}
use Rattle.ktm_waiting.specs.Waiting.{AreHeld}
use Rattle.ktm_waiting.proofs.offered.Beside.{changes-alone, changes-met, met-ok}
use Rattle.ktm_replayed.proofs.replayed.Replayed.meet_others.Goals as goal

pub returns-then-not-others_change : goal.returns-then-not-others_change
returns-then-not-others_change c =
    changes-alone c.args.self.now.state c.args.who c.args.changes.now (sym c.others_change.ensures ∙ c.if-not-others_change.true) ∙ (λ i. c.requires.apply i && c.requires.new i)

pub returns : goal.returns
returns c =
    let s = c.args.self.now.state in
    let w = c.self.inside.waiting in
    let held = subst (λ (r : ReplayedState). AreHeld w r.state.tree r.state.transactions) c.self.view_is c.self.invariant in
    let met = subst (λ (r : ReplayedState). IfOk c.meets.result (λ m. m ≡ is_met w c.args.who r.state.tree c.args.changes.now)) c.self.view_is c.meets.ensures.met in
    met-ok c.meets.result _ (is_met w c.args.who s.tree c.args.changes.now) met (changes-met s w c.args.who c.args.changes.now held c.requires.apply c.requires.new)
