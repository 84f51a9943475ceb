use Rattle.std.proofs.Common.{◌≡◌, ◌+◌, ◌∷◌, add-one, ap, arith, drop, drop-cons, get_or, subst}
use Rattle.std.proofs.lemmas.List.{drop_all}
use Rattle.ktm_world.specs.declared.step.Fact.{Fact}
use Rattle.ktm_world.specs.declared.step.Step.{Step}
use Rattle.ktm_tm.specs.Steps.{after_all, visits_all, Leaves}
use Rattle.ktm_tm.proofs.Carrying.{next_left, next_visited, none_left}
use Rattle.ktm_tm.proofs.steps.carry_all.Goals as goal

pub loop-step-preserved : goal.loop-step-preserved
loop-step-preserved g c =
    let here : drop c.loop-step.step-index c.args.steps.now ≡ get_or c.args.steps.now c.loop-step.step-index (Step.Record Fact.ReadyFiles) ∷ drop (c.loop-step.step-index + 1) c.args.steps.now = rw add-one (drop-cons c.args.steps.now c.loop-step.step-index (Step.Record Fact.ReadyFiles) c.loop-step-test.true) in
    record {
      leaves =
          next_left c.args.g _ (drop (c.loop-step.step-index + 1) c.args.steps.now) c.loop-step.t c.carry-t.result c.loop-step.enlistments c.carry-t.new.enlistments c.loop-step.managers c.carry-t.new.managers _ c.args.enlistments.now c.args.managers.now
          (subst (λ l. Leaves c.args.g l c.loop-step.t c.loop-step.enlistments c.loop-step.managers (after_all c.args.g c.args.steps.now c.args.t c.args.enlistments.now.enlistments) c.args.enlistments.now c.args.managers.now) here c.loop-step.invariant.leaves)
          c.carry-t.ensures.carries;
      counted =
          next_visited c.args.g _ (drop (c.loop-step.step-index + 1) c.args.steps.now) c.loop-step.t c.carry-t.result c.loop-step.enlistments c.carry-t.new.enlistments c.loop-step.managers c.carry-t.new.managers _ _ _
          (subst (λ l. c.loop-step.visits + visits_all c.args.g l c.loop-step.t c.loop-step.enlistments.enlistments ≡ c.args.visits.now + visits_all c.args.g c.args.steps.now c.args.t c.args.enlistments.now.enlistments) here c.loop-step.invariant.counted)
          c.carry-t.ensures.carries c.carry-t.ensures.counted;
    }

pub returns-clause-carries : goal.returns-clause-carries
returns-clause-carries g c =
    none_left c.args.g c.loop-step.t c.loop-step.enlistments c.loop-step.managers _ c.args.enlistments.now c.args.managers.now
    (subst (λ l. Leaves c.args.g l c.loop-step.t c.loop-step.enlistments c.loop-step.managers (after_all c.args.g c.args.steps.now c.args.t c.args.enlistments.now.enlistments) c.args.enlistments.now c.args.managers.now)
    (drop_all c.loop-step.step-index c.args.steps.now (omega arith)) c.loop-step.invariant.leaves)

pub returns-clause-counted : goal.returns-clause-counted
returns-clause-counted g c =
    let none = ap (λ l. visits_all c.args.g l c.loop-step.t c.loop-step.enlistments.enlistments) (drop_all c.loop-step.step-index c.args.steps.now (omega arith)) in
    omega (arith, none, c.loop-step.invariant.counted)
