use Rattle.std.proofs.Common.{◌∙◌, subst, sym}
use Rattle.std.proofs.lemmas.Bool.{true≢false}
use Rattle.ktm_paged.specs.Paged.{LieBelow}
use Rattle.ktm_restart.proofs.Readings.{state-well}
use Rattle.ktm_restart.proofs.reading.is_on_pages.Goals as goal

pub returns-then-not-lie_below-clause-off : goal.returns-then-not-lie_below-clause-off
returns-then-not-lie_below-clause-off c is on_pages =
    let count = c.count.ensures ∙ c.requires.many in
    true≢false (sym (c.lie_below.ensures.1 (subst (λ n. LieBelow n c.args.replayed.now.state) (sym count) on_pages.below)) ∙ c.if-not-lie_below.true)

pub give_state-requires-clause-below : goal.give_state-requires-clause-below
give_state-requires-clause-below c = subst (λ n. LieBelow n c.args.replayed.now.state) c.count.ensures (c.lie_below.ensures.0 c.if-not-lie_below.false)

pub returns-clause-on : goal.returns-clause-on
returns-clause-on c is =
    state-well c.args.replayed.now.state c.count.result c.give_state.new.owners.owners c.requires.good (c.lie_below.ensures.0 c.if-not-lie_below.false) (c.count.ensures ∙ c.requires.many)
    (c.give_state.ensures.many is ∙ sym c.count.ensures) (c.give_state.ensures.known is)

pub returns-clause-off : goal.returns-clause-off
returns-clause-off c is on_pages = c.give_state.ensures.shared is on_pages.apart
