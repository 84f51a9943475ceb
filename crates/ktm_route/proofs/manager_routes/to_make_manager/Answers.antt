use Rattle.std.proofs.Common.{is_some, ap, sym, ◌∙◌}
use Rattle.ktm_memory.specs.Memory.{present_of}
use Rattle.ktm_route.proofs.ManagerRoutes.{make_bound, makes}
use Rattle.ktm_route.proofs.manager_routes.to_make_manager.Goals as goal

pub returns-then-is_some : goal.returns-then-is_some
returns-then-is_some c = make_bound (present_of c.args.memory.now) c.args.process c.requires c.args.label c.args.durability (ap is_some (sym c.object_at.ensures) ∙ sym c.is_some.ensures ∙ c.if-is_some.true)

pub returns : goal.returns
returns c = makes (present_of c.args.memory.now) c.args.process c.requires c.args.label c.args.durability (ap is_some (sym c.object_at.ensures) ∙ sym c.is_some.ensures ∙ c.if-is_some.false)
