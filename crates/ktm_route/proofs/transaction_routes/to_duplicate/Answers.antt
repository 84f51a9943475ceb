use Rattle.std.proofs.Common.{is_some, ap, refl, sym, ◌∙◌}
use Rattle.ktm_world.specs.Outcome.{first_refusal}
use Rattle.ktm_memory.specs.Held.{files_of}
use Rattle.ktm_memory.specs.Memory.{present_of}
use Rattle.ktm_route.specs.Route.{source_tests}
use Rattle.ktm_route.proofs.Routes.{duplicate_bound, duplicate_refused, duplicate_routed, source_named, unbound_names}
use Rattle.ktm_route.proofs.Takes.{duplicate_takes}
use Rattle.ktm_route.proofs.transaction_routes.to_duplicate.Goals as goal

pub returns-in-Some : goal.returns-in-Some
returns-in-Some c = duplicate_refused (present_of c.args.memory.now) c.args.process c.requires c.args.label c.args.from c.args.source c.in-Some.refusal (ap (λ o. first_refusal (source_tests (files_of c.args.memory.now.files) o)) (sym c.object_at.ensures) ∙ sym c.source_refusal.ensures ∙ c.in-Some.is)

pub returns-then-is_some : goal.returns-then-is_some
returns-then-is_some c = duplicate_bound (present_of c.args.memory.now) c.args.process c.requires c.args.label c.args.from c.args.source (ap (λ o. first_refusal (source_tests (files_of c.args.memory.now.files) o)) (sym c.object_at.ensures) ∙ sym c.source_refusal.ensures ∙ c.in_default.is) (ap is_some (sym c.object_at-2.ensures) ∙ sym c.is_some.ensures ∙ c.if-is_some.true)

pub returns : goal.returns
returns c =
    let passed = (ap (λ o. first_refusal (source_tests (files_of c.args.memory.now.files) o)) (sym c.object_at.ensures) ∙ sym c.source_refusal.ensures ∙ c.in_default.is) in
    let free = (ap is_some (sym c.object_at-2.ensures) ∙ sym c.is_some.ensures ∙ c.if-is_some.false) in
    let x = present_of c.args.memory.now in (
      duplicate_routed x c.args.process c.requires c.args.label c.args.from c.args.source passed free,
      (unbound_names _ free, source_named (files_of c.args.memory.now.files) _ passed),
      duplicate_takes x c.args.process c.requires c.args.label c.args.from c.args.source passed free,
      refl,
    )
