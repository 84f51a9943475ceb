use Rattle.std.proofs.Common.{◌≡◌, ◌+◌, ◌≤◌, ◌∙◌, List, length, None, subst, sym, arith}
use Rattle.std.proofs.lemmas.Bool.{true≢false}
use Rattle.ktm_standing.proofs.offered.Rows.{row_leads}
use Rattle.ktm_standing.specs.Courses.{LogsNext}
use Rattle.ktm_memory.specs.Memory.{CanGoOn, Shows, course_then}
use Rattle.ktm_memory.proofs.Carried.{aborts_log}
use Rattle.ktm_world.specs.declared.input.PhaseInput.{PhaseInput}
use Rattle.ktm_world.specs.declared.reply.Reply.TheVariants.{Done}
use Rattle.ktm_world.specs.declared.step.Step.{Step}
use Rattle.ktm_world.specs.Outcome.{apply}
use Rattle.ktm_world.specs.Rows.{aborts}
use Rattle.ktm_world.specs.Steps.{led}
use Rattle.ktm_world.specs.TransactionCalls.{arrived}
use Rattle.ktm_memory.proofs.memory.Memory.roll_back.Goals as goal

pub carry_out-requires-clause-may : goal.carry_out-requires-clause-may
carry_out-requires-clause-may c =
    subst (λ (steps : List Step). CanGoOn c.args.self.now c.args.t None steps) (sym (c.as_slice.ensures.value ∙ c.step-steps.ensures.row)) (record {
      there = c.requires.there;
      live = c.requires.live;
      leads = λ x shows. row_leads x c.args.t None PhaseInput.Rollback;
      few = λ some. absurd (omega (arith, some));
      noted = omega arith;
      commits = λ is. absurd (true≢false (sym is));
    })

pub carry_out-requires-clause-told : goal.carry_out-requires-clause-told
unfolding led
carry_out-requires-clause-told c x shows =
    subst (λ (steps : List Step). length (arrived x (course_then x c.args.t None steps) Done).sent ≤ c.args.self.now.tm.slots) (sym (c.as_slice.ensures.value ∙ c.step-steps.ensures.row)) (c.requires.told x shows)

pub returns-clause-settles : goal.returns-clause-settles
unfolding led
returns-clause-settles c =
    let steps : c.as_slice.result.now ≡ aborts = c.as_slice.ensures.value ∙ c.step-steps.ensures.row in
    record {
      shows = λ x shows all. subst (λ (l : List Step). Shows c.carry_out.new.self (apply x (arrived x (course_then x c.args.t None l) Done))) steps
          (c.carry_out.ensures.settles.shows x shows (subst (λ (l : List Step). LogsNext x c.args.t None l) (sym steps) (aborts_log x c.args.t)));
      slots = λ x shows. subst (λ (l : List Step). c.args.self.now.tm.slots ≤ c.carry_out.new.self.tm.slots + length (arrived x (course_then x c.args.t None l) Done).sent) steps (c.carry_out.ensures.settles.slots x shows);
    }
