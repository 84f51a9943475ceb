use Rattle.std.proofs.Common.{List, Ok, true, false, ◌∙◌, ap, subst, sym}
use Rattle.std.proofs.lemmas.Bool.{true≢false}
use Rattle.ktm_owners.specs.declared.owners.Owner.{Owner}
use Rattle.ktm_owners.specs.Owners.{LeavesGiven, all_given}
use Rattle.ktm_paged.specs.Paged.{IsPlainlyMade}
use Rattle.ktm_restart.specs.Reading.{IsReadWell, ReadingState}
use Rattle.ktm_restart.proofs.Giving.{ok-same}
use Rattle.ktm_restart.proofs.Readings.{meant-read, meant-refused, names-there}
use Rattle.ktm_restart.proofs.reading.Reading.apply_meant.Goals as goal
use Rattle.ktm_world.specs.Durable.{Durable, after_event, event_applies}

pub apply-requires : goal.apply-requires
apply-requires c = subst (λ (r : ReadingState). IsPlainlyMade r.state.tree c.args.event) (sym c.self.view_is) c.requires.made

pub returns-then-not-branch-clause-bad : goal.returns-then-not-branch-clause-bad
returns-then-not-branch-clause-bad c is does apart =
    true≢false (sym does ∙ sym (c.in_ok-apply.ensures.applies ∙ ap (λ (r : ReadingState). event_applies r.state c.args.event) c.self.view_is) ∙ c.if-not-branch.true)

pub give_named-requires : goal.give_named-requires
give_named-requires c =
    let well = subst (λ (o : List Owner). IsReadWell (record { state = c.args.self.now.state; owners = o })) (sym (c.name_event.ensures.owners ∙ ap (λ (r : ReadingState). r.owners) c.self.view_is)) c.requires.well in
    names-there c.args.self.now.state c.name_event.new.owners.owners c.args.event well c.requires.puts c.requires.begins c.name_event.new.owners.named c.in_ok-name_event.ensures.named

pub returns-clause-applies : goal.returns-clause-applies
returns-clause-applies c is = sym (c.in_ok-apply.ensures.applies ∙ ap (λ (r : ReadingState). event_applies r.state c.args.event) c.self.view_is) ∙ c.if-not-branch.false

pub returns-clause-after : goal.returns-clause-after
returns-clause-after c is =
    let s = c.args.self.now.state in
    let old = c.name_event.new.owners.owners in
    let names = c.name_event.new.owners.named in
    let new = c.give_named.new.owners.owners in
    let b = c.give_named.result in
    let well = subst (λ (o : List Owner). IsReadWell (record { state = s; owners = o })) (sym (c.name_event.ensures.owners ∙ ap (λ (r : ReadingState). r.owners) c.self.view_is)) c.requires.well in
    let does = sym (c.in_ok-apply.ensures.applies ∙ ap (λ (r : ReadingState). event_applies r.state c.args.event) c.self.view_is) ∙ c.if-not-branch.false in
    let after = c.in_ok-apply.ensures.after (ap Ok c.if-not-branch.false) ∙ ap (λ (r : ReadingState). after_event r.state c.args.event) c.self.view_is in
    let leaves = subst (λ (t : Durable). LeavesGiven (all_given t old names) new b) after c.give_named.ensures in
    let read = meant-read s old c.args.event well c.requires.puts c.requires.begins names c.in_ok-name_event.ensures.named new b leaves does c.law_of_good_states.ensures c.requires.grammatical c.requires.made (ok-same b true is) in
    (after, subst (λ (t : Durable). IsReadWell (record { state = t; owners = new })) (sym after) read)

pub returns-clause-bad : goal.returns-clause-bad
returns-clause-bad c is does =
    let s = c.args.self.now.state in
    let old = c.name_event.new.owners.owners in
    let names = c.name_event.new.owners.named in
    let new = c.give_named.new.owners.owners in
    let b = c.give_named.result in
    let well = subst (λ (o : List Owner). IsReadWell (record { state = s; owners = o })) (sym (c.name_event.ensures.owners ∙ ap (λ (r : ReadingState). r.owners) c.self.view_is)) c.requires.well in
    let after = c.in_ok-apply.ensures.after (ap Ok c.if-not-branch.false) ∙ ap (λ (r : ReadingState). after_event r.state c.args.event) c.self.view_is in
    let leaves = subst (λ (t : Durable). LeavesGiven (all_given t old names) new b) after c.give_named.ensures in
    meant-refused s old c.args.event well c.requires.puts c.requires.begins names c.in_ok-name_event.ensures.named new b leaves does (ok-same b false is)
