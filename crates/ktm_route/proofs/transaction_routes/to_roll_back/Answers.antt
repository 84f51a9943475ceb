use Rattle.std.proofs.Common.{refl, sym, ◌∙◌}
use Rattle.ktm_memory.specs.Memory.{present_of}
use Rattle.ktm_route.proofs.Courses.{rollback_comes, rollback_ready}
use Rattle.ktm_route.proofs.Routes.{rollback_refused, rollback_unnamed}
use Rattle.ktm_route.proofs.transaction_routes.to_roll_back.Goals as goal

pub returns-in_default : goal.returns-in_default
returns-in_default c = rollback_unnamed (present_of c.args.memory.now) c.args.process c.requires.up c.args.label (sym (c.named.ensures) ∙ c.in_default.is)

pub returns-in-Some-rollback_refusal : goal.returns-in-Some-rollback_refusal
returns-in-Some-rollback_refusal c =
    rollback_refused (present_of c.args.memory.now) c.args.process c.requires.up c.args.label c.in-Some.t c.in-Some-rollback_refusal.refusal (sym (c.named.ensures) ∙ c.in-Some.is) (sym c.rollback_refusal.ensures ∙ c.in-Some-rollback_refusal.is)

pub returns-in-None : goal.returns-in-None
returns-in-None c =
    let x = present_of c.args.memory.now in
    let t = c.in-Some.t in
    let named = sym (c.named.ensures) ∙ c.in-Some.is in
    let passed = sym c.rollback_refusal.ensures ∙ c.in-None.is in (
      rollback_comes x c.args.process c.requires.up c.args.label t named passed,
      rollback_ready x c.args.process c.requires.up c.args.label t named c.law_of_spelled.ensures c.law_of_files.ensures c.requires.standing c.requires.counts c.requires.command passed,
      refl,
      refl,
    )
