use Rattle.std.proofs.Common.{◌∙◌, List, ap, sym}
use Rattle.std.proofs.lemmas.List.{drop_all}
use Rattle.ktm_world.specs.declared.step.Step.{Step}
use Rattle.ktm_trace.specs.declared.recording.Recording.{Recording}
use Rattle.ktm_trace.specs.Recordings.{steps_noted}
use Rattle.ktm_trace.proofs.Noting.{ahead-noted}
use Rattle.ktm_trace.proofs.trace.Trace.record.Goals as goal

pub returns : goal.returns
returns c =
    let steps = c.args.steps.now in
    let old = c.args.self.now in
    record {
      transactions = λ b is.
          sym (ap (λ (left : List Step). steps_noted c.loop-step.now left c.loop-step.self) (drop_all c.loop-step.step-index steps c.loop-step-test.false))
          ∙ c.loop-step.invariant.transactions
          ∙ sym (ahead-noted steps b old ∙ ap (λ (r : Recording). steps_noted r steps old) is);
    }
