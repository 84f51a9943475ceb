use Rattle.std.proofs.Common.{◌≤◌, [], ◌++◌, All, List, append-nil, arith, sum_by, sym, subst}
use Rattle.std.proofs.lemmas.List.Elements.{All-head}
use Rattle.ktm_event.specs.Kept.{Holds}
use Rattle.ktm_event.specs.Spelling.{IsSpellableEvent}
use Rattle.ktm_world.specs.Sizes.{event_size}
use Rattle.ktm_world.specs.declared.event.Event.{Event}
use Rattle.ktm_course.proofs.Bases.{some_basis}
use Rattle.ktm_course.proofs.parts.Parts.record_step.Goals as goal

pub push-requires-clause-spelled : goal.push-requires-clause-spelled
push-requires-clause-spelled g c =
    let b = some_basis g.F.WrittenFiles.files c.args.transaction c.args.is_recorded c.args.self.now in
    All-head IsSpellableEvent _ [] (subst (λ (es : List Event). All IsSpellableEvent (es ++ [])) (sym (c.in-Some.ensures.events c.args.transaction b.0 b.1)) (rw c.in-Record.is at (c.requires.spelled b.0 b.1)))

pub push-requires-clause-fits : goal.push-requires-clause-fits
push-requires-clause-fits g c =
    let b = some_basis g.F.WrittenFiles.files c.args.transaction c.args.is_recorded c.args.self.now in
    let fits = subst (λ (es : List Event). sum_by event_size (es ++ []) ≤ c.args.events.now.spare) (sym (c.in-Some.ensures.events c.args.transaction b.0 b.1)) (rw c.in-Record.is at (c.requires.fits b.0 b.1)) in
    omega (arith, fits)

pub returns-in_default-entry-clause-adds : goal.returns-in_default-entry-clause-adds
returns-in_default-entry-clause-adds g c = λ b group is holds.
    rw c.in-Record.is (subst (λ (es : List Event). Holds c.args.events.now (group ++ (es ++ []))) (c.in_default-entry.ensures.events c.args.transaction b is) (subst (Holds c.args.events.now) (sym (append-nil group)) holds))
