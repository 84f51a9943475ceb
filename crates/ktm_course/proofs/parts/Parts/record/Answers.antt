use Rattle.std.proofs.Common.{◌≡◌, ◌+◌, ◌∷◌, [], ◌++◌, All, Bool, List, append-nil, arith, drop, slice_index_or, sum_by, sym, ap, subst, ◌∙◌, append_assoc, refl}
use Rattle.std.proofs.lemmas.List.{drop_all, drop_more}
use Rattle.ktm_event.specs.Kept.{Holds}
use Rattle.ktm_event.specs.Spelling.{IsSpellableEvent}
use Rattle.ktm_world.specs.declared.step.Fact.{Fact}
use Rattle.ktm_world.specs.declared.step.Step.{Step}
use Rattle.ktm_world.specs.Sizes.{event_size}
use Rattle.ktm_world.specs.declared.event.Event.{Event}
use Rattle.ktm_world.specs.Steps.{Basis, events_ahead}
use Rattle.ktm_course.specs.Recorded.{IsBasis, recorded_after}
use Rattle.ktm_course.proofs.Bases.{recorded_basis}
use Rattle.ktm_course.proofs.Steps.{first_records}
use Rattle.ktm_event.proofs.Joined.{first_spelled, sizes_both}
use Rattle.ktm_course.proofs.parts.Parts.record.Given.{Over}
use Rattle.ktm_course.proofs.parts.Parts.record.Goals as goal
use Rattle.ktm_course.proofs.parts.Parts.record.Goals.{In-loop-step}

-- what a step of the loop records from a basis, and what those behind it do
module _ (g : Over) (c : In-loop-step g) (b : Basis) where
  abbrev step : Step
  step = slice_index_or c.args.steps.now c.loop-step.step-index (Step.Record Fact.ReadyFiles)

  abbrev behind : List Step
  behind = drop (c.loop-step.step-index + 1) c.args.steps.now

  abbrev first : List Event
  first = events_ahead (step ∷ []) b

  abbrev later : Bool → List Event
  later recorded = events_ahead behind (record b { is_recorded = recorded })

  split : events_ahead (drop c.loop-step.step-index c.args.steps.now) b ≡ first ++ later (recorded_after (step ∷ []) b)
  split = first_records step behind _ b (drop_more c.args.steps.now c.loop-step.step-index (Step.Record Fact.ReadyFiles) c.loop-step-test.true)

pub loop-step-init : goal.loop-step-init
loop-step-init g c =
    let same = λ (b : Basis) (is : b.is_recorded ≡ c.args.is_recorded). ap (λ (r : Bool). events_ahead c.args.steps.now (record b { is_recorded = r })) (sym is) in
    record {
      spelled = c.requires.spelled;
      fits = c.requires.fits;
      adds = λ b group is holds. (group, holds, ap (λ (es : List Event). group ++ es) (same b is.recorded));
      spare = λ b is. omega (arith, ap (sum_by event_size) (same b is.recorded));
      room = refl;
    }

pub record_step-requires-clause-spelled : goal.record_step-requires-clause-spelled
record_step-requires-clause-spelled g c = λ b is.
    let d = (goal.at.record_step-requires-clause-spelled g c).In-loop-step in
    (first_spelled (first g d b) _ (subst (All IsSpellableEvent) (split g d b) (c.loop-step.invariant.spelled b is))).0

pub record_step-requires-clause-fits : goal.record_step-requires-clause-fits
record_step-requires-clause-fits g c = λ b is.
    let d = (goal.at.record_step-requires-clause-fits g c).In-loop-step in
    omega (arith, c.loop-step.invariant.fits b is, ap (sum_by event_size) (split g d b), sizes_both (first g d b) (later g d b (recorded_after (step g d b ∷ []) b)))

pub loop-step-preserved : goal.loop-step-preserved
loop-step-preserved g c =
    let d = (goal.at.loop-step-preserved g c).In-loop-step in
    let after = c.is_recorded_after-recorded.result in
    let before = λ (b : Basis). record b { is_recorded = c.loop-step.recorded } in
    let is_split = λ (b : Basis) (is : IsBasis g.F.WrittenFiles.files (before b) c.args.transaction c.loop-step.recorded c.args.self.now).
    split g d (before b) ∙ ap (λ (r : Bool). first g d (before b) ++ later g d b r) (sym (c.is_recorded_after-recorded.ensures c.args.transaction (before b) is)) in
    let same = λ (b : Basis) (is : b.is_recorded ≡ after). ap (λ (r : Bool). later g d b r) (sym is) in
    record {
      spelled = λ b is.
          let is_before = recorded_basis b c.args.transaction after c.loop-step.recorded c.args.self.now is in
          subst (All IsSpellableEvent) (sym (ap (λ (r : Bool). later g d b r) is.recorded)) (first_spelled (first g d (before b)) _ (subst (All IsSpellableEvent) (is_split b is_before) (c.loop-step.invariant.spelled (before b) is_before))).1;
      fits = λ b is.
          let is_before = recorded_basis b c.args.transaction after c.loop-step.recorded c.args.self.now is in
          omega (arith, c.loop-step.invariant.fits (before b) is_before, ap (sum_by event_size) (is_split b is_before), sizes_both (first g d (before b)) (later g d b after), ap (λ (r : Bool). sum_by event_size (later g d b r)) is.recorded, c.record_step.ensures.spare (before b) is_before);
      adds = λ b group is holds.
          let is_before = recorded_basis b c.args.transaction c.args.is_recorded c.loop-step.recorded c.args.self.now is in
          let so_far = c.loop-step.invariant.adds b group is holds in (
            so_far.0 ++ first g d (before b),
            c.record_step.ensures.adds (before b) so_far.0 is_before so_far.1,
            append_assoc so_far.0 (first g d (before b)) (later g d b after) ∙ ap (λ (es : List Event). so_far.0 ++ es) (sym (is_split b is_before)) ∙ so_far.2,
          );
      spare = λ b is.
          let is_before = recorded_basis b c.args.transaction c.args.is_recorded c.loop-step.recorded c.args.self.now is in
          omega (arith, c.loop-step.invariant.spare b is, ap (sum_by event_size) (is_split b is_before), sizes_both (first g d (before b)) (later g d b after), c.record_step.ensures.spare (before b) is_before);
      room = c.record_step.ensures.room ∙ c.loop-step.invariant.room;
    }

pub returns-clause-adds : goal.returns-clause-adds
returns-clause-adds g c = λ b group is holds.
    let all = c.loop-step.invariant.adds b group is holds in
    let none = ap (λ (left : List Step). events_ahead left (record b { is_recorded = c.loop-step.recorded })) (drop_all c.loop-step.step-index c.args.steps.now c.loop-step-test.false) in
    subst (Holds c.loop-step.events) (sym (append-nil all.0) ∙ ap (λ (es : List Event). all.0 ++ es) (sym none) ∙ all.2) all.1

pub returns-clause-spare : goal.returns-clause-spare
returns-clause-spare g c = λ b is.
    let none = ap (λ (left : List Step). sum_by event_size (events_ahead left (record b { is_recorded = c.loop-step.recorded }))) (drop_all c.loop-step.step-index c.args.steps.now c.loop-step-test.false) in
    omega (arith, c.loop-step.invariant.spare b is, none)
