use Rattle.std.proofs.Common.{◌∷◌, ◌++◌, List, drop, ap, sym, ◌+◌, ◌∙◌}
use Rattle.std.specs.List.{flat_map}
use Rattle.std.proofs.lemmas.List.{drop_all}
use Rattle.ktm_world.specs.declared.event.Event.{Event}
use Rattle.ktm_world.specs.declared.event.Event.TheVariants.{Done}
use Rattle.ktm_world.specs.Durable.{Recorded}
use Rattle.ktm_world.specs.World.{own_events}
use Rattle.ktm_replayed.proofs.offered.OwnEvents.{own-split}
use Rattle.ktm_replayed.proofs.own.first_own.Goals as goal

pub returns-in-Some : goal.returns-in-Some
returns-in-Some c =
    let later = flat_map own_events (drop (c.loop-transaction.transaction-index + 1) c.args.transactions.now) in
    let first = c.in-Some.ensures in
    let split = own-split c.args.transactions.now c.loop-transaction.transaction-index c.transaction-item.result c.loop-transaction-test.true c.transaction-item.is in
    let viewed = ap (λ (t : Recorded). Done t.id c.in-Some.done ∷ (first.0 ++ later)) (sym c.transaction.view_is) in
    (first.0 ++ later, c.loop-transaction.invariant ∙ split ∙ ap (λ (es : List Event). es ++ later) first.1 ∙ viewed)

pub loop-transaction-preserved : goal.loop-transaction-preserved
loop-transaction-preserved c =
    let later = flat_map own_events (drop (c.loop-transaction.transaction-index + 1) c.args.transactions.now) in
    let split = own-split c.args.transactions.now c.loop-transaction.transaction-index c.transaction-item.result c.loop-transaction-test.true c.transaction-item.is in
    c.loop-transaction.invariant ∙ split ∙ ap (λ (es : List Event). es ++ later) c.in_default.ensures

pub returns : goal.returns
returns c = c.loop-transaction.invariant ∙ ap (flat_map own_events) (drop_all c.loop-transaction.transaction-index c.args.transactions.now c.loop-transaction-test.false)
