use Rattle.std.proofs.Common.{sym, ◌∙◌, ap, option_and_then, ◌+◌, drop, take}
use Rattle.txf_calls.specs.Leads.{way}
use Rattle.txf_calls.proofs.Ways.{way-step}
use Rattle.txf_calls.proofs.along.way.Goals as goal

pub returns-in-None : goal.returns-in-None
returns-in-None g c =
    let step = way-step (g.V.View.tree c.args.view.now) c.loop-i.directory c.args.names c.loop-i.i c.args.path.now c.name.result.now c.enter.result c.loop-i-test.true c.name.ensures.value c.enter.ensures in
    sym (sym c.loop-i.invariant.rest ∙ step ∙ ap (option_and_then (λ next. way (g.V.View.tree c.args.view.now) next (drop (c.loop-i.i + 1) (take c.args.names c.args.path.now)))) c.in-None.is)

pub loop-i-preserved : goal.loop-i-preserved
loop-i-preserved g c =
    let step = way-step (g.V.View.tree c.args.view.now) c.loop-i.directory c.args.names c.loop-i.i c.args.path.now c.name.result.now c.enter.result c.loop-i-test.true c.name.ensures.value c.enter.ensures in
    record { rest = sym (ap (option_and_then (λ next. way (g.V.View.tree c.args.view.now) next (drop (c.loop-i.i + 1) (take c.args.names c.args.path.now)))) c.in-Some.is) ∙ sym step ∙ c.loop-i.invariant.rest }
