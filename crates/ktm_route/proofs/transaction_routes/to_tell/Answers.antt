use Rattle.std.proofs.Common.{refl, sym, ◌∙◌}
use Rattle.ktm_memory.specs.Memory.{present_of}
use Rattle.ktm_route.proofs.Routes.{information_routed, information_unnamed}
use Rattle.ktm_route.proofs.transaction_routes.to_tell.Goals as goal

pub returns-in-Some : goal.returns-in-Some
returns-in-Some c = (information_routed (present_of c.args.memory.now) c.args.process c.requires c.args.label c.in-Some.t (sym (c.named.ensures) ∙ c.in-Some.is), tt, refl, refl)

pub returns-in-None : goal.returns-in-None
returns-in-None c = information_unnamed (present_of c.args.memory.now) c.args.process c.requires c.args.label (sym (c.named.ensures) ∙ c.in-None.is)
