use Rattle.std.proofs.Common.{true, false, ◌≡◌, ◌∙◌, ap, length, subst, sym}
use Rattle.std.proofs.lemmas.Bool.{true≢false}
use Rattle.ktm_journal.specs.Image.{page_count}
use Rattle.ktm_paged.specs.Meaning.{has_event_its_pages, meant_event}
use Rattle.ktm_paged.specs.Paged.{IsApart}
use Rattle.ktm_restart.specs.Reading.{ReadingState, event_if_paged, is_event_below}
use Rattle.ktm_restart.proofs.Readings.{below-event, meant-after, meant-applies, meant-bad, meant-begins, meant-made, meant-none, meant-puts, meant-some, owners-apart}
use Rattle.ktm_restart.proofs.reading.Reading.apply.Goals as goal
use Rattle.ktm_restart.proofs.reading.Reading.apply.Goals.{In-Some}
use Rattle.txf_laws.specs.Grammatical.{is_grammatical}
use Rattle.ktm_world.specs.declared.event.Event.{Event}
use Rattle.ktm_world.specs.Tree.{Tree}

-- what the event means
means : (c : In-Some) → (has_event_its_pages c.args.self.now.state.tree c.args.event ≡ true) × (meant_event c.args.self.now.state.tree c.args.event ≡ c.in-Some.event)
means c =
    meant-some c.args.self.now.state.tree c.args.event c.in-Some.event
    (c.in-Some.ensures ∙ ap (λ (t : Tree). event_if_paged t c.args.event) (c.tree.ensures ∙ ap (λ (r : ReadingState). r.state.tree) c.self.view_is))

-- its pages are there
below : (c : In-Some) → is_event_below (page_count c.args.self.now.state.units) c.args.event ≡ true
below c =
    let count = c.count.ensures ∙ ap (λ (r : ReadingState). length r.owners) c.self.view_is ∙ c.requires.well.many in
    subst (λ n. is_event_below n c.args.event ≡ true) count (sym c.is_event_below.ensures ∙ c.if-not-is_event_below.false)

pub apply_meant-requires-clause-grammatical : goal.apply_meant-requires-clause-grammatical
apply_meant-requires-clause-grammatical c =
    let d = (goal.at.apply_meant-requires-clause-grammatical c).In-Some in
    let is = means d in
    subst (λ (e : Event). is_grammatical e ≡ true) is.1 (d.law_of_paged_records.ensures.0.grammatical d.args.self.now.state.tree d.args.event is.0 d.requires.grammatical)

pub apply_meant-requires-clause-made : goal.apply_meant-requires-clause-made
apply_meant-requires-clause-made c =
    let d = (goal.at.apply_meant-requires-clause-made c).In-Some in
    meant-made d.args.self.now.state d.args.event d.in-Some.event (means d).0 (means d).1

pub apply_meant-requires-clause-puts : goal.apply_meant-requires-clause-puts
apply_meant-requires-clause-puts c =
    let d = (goal.at.apply_meant-requires-clause-puts c).In-Some in
    meant-puts d.args.self.now.state d.args.event d.in-Some.event (means d).0 (means d).1 (page_count d.args.self.now.state.units) (below d)

pub apply_meant-requires-clause-begins : goal.apply_meant-requires-clause-begins
apply_meant-requires-clause-begins c =
    let d = (goal.at.apply_meant-requires-clause-begins c).In-Some in
    meant-begins d.args.self.now.state d.args.event d.in-Some.event (means d).0 (means d).1

pub returns-then-not-is_event_below-clause-bad : goal.returns-then-not-is_event_below-clause-bad
returns-then-not-is_event_below-clause-bad c is applies =
    let count = c.count.ensures ∙ ap (λ (r : ReadingState). length r.owners) c.self.view_is ∙ c.requires.well.many in
    true≢false (sym (below-event (page_count c.args.self.now.state.units) c.args.event applies.below) ∙ subst (λ n. is_event_below n c.args.event ≡ false) count (sym c.is_event_below.ensures ∙ c.if-not-is_event_below.true))

pub returns-in-Some-clause-applies : goal.returns-in-Some-clause-applies
returns-in-Some-clause-applies c is =
    let d = (goal.at.returns-in-Some-clause-applies c).In-Some in
    let (same, well) = c.apply_meant.ensures.after is in
    meant-applies d.args.self.now.state d.args.event d.in-Some.event (means d).0 (means d).1 (page_count d.args.self.now.state.units) (below d) (c.apply_meant.ensures.applies is)
    (subst IsApart same (owners-apart c.apply_meant.new.self well))

pub returns-in-Some-clause-after : goal.returns-in-Some-clause-after
returns-in-Some-clause-after c is =
    let d = (goal.at.returns-in-Some-clause-after c).In-Some in
    let (same, well) = c.apply_meant.ensures.after is in
    (same ∙ sym (meant-after d.args.self.now.state d.args.event d.in-Some.event (means d).0 (means d).1), well)

pub returns-in-Some-clause-bad : goal.returns-in-Some-clause-bad
returns-in-Some-clause-bad c is =
    let d = (goal.at.returns-in-Some-clause-bad c).In-Some in
    meant-bad d.args.self.now.state d.args.event d.in-Some.event (means d).0 (means d).1 (page_count d.args.self.now.state.units) (c.apply_meant.ensures.bad is)

pub returns-in-None-clause-bad : goal.returns-in-None-clause-bad
returns-in-None-clause-bad c is applies =
    let none = meant-none c.args.self.now.state.tree c.args.event (c.in-None.ensures ∙ ap (λ (t : Tree). event_if_paged t c.args.event) (c.tree.ensures ∙ ap (λ (r : ReadingState). r.state.tree) c.self.view_is)) in
    true≢false (sym applies.paged ∙ none)
