use Rattle.std.proofs.Common.{ap, sym, ◌∙◌}
use Rattle.ktm_base.specs.declared.id.Id.{Id}
use Rattle.ktm_world.specs.declared.event.DonePart.{DonePart}
use Rattle.ktm_world.specs.declared.event.Event.{Event}
use Rattle.ktm_world.specs.Phases.{enlistment_part}
use Rattle.ktm_world.specs.Steps.{event_of_caller}
use Rattle.ktm_course.proofs.parts.Parts.entry.Goals as goal

pub returns-in-Ready-clause-events : goal.returns-in-Ready-clause-events
returns-in-Ready-clause-events g c = λ id b is.
    rw c.in-Ready.is (c.ready_entry.ensures.events id b.managers b.caller is.caller ∙ ap (λ (i : Id). event_of_caller b.caller b.managers (λ e. Event.Ready i (enlistment_part e))) (sym is.id))

pub returns-in-Done-clause-events : goal.returns-in-Done-clause-events
returns-in-Done-clause-events g c = λ id b is.
    rw c.in-Done.is (c.done_entry.ensures.events id b.managers b.caller is.caller ∙ ap (λ (i : Id). event_of_caller b.caller b.managers (λ e. Event.Done i (DonePart.Enlistment e.id))) (sym is.id))
