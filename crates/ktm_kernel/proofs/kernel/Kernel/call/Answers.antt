use Rattle.std.proofs.Common.{sym, ◌∙◌}
use Rattle.ktm_kernel.proofs.Calls.{call-down}
use Rattle.ktm_kernel.proofs.kernel.Kernel.call.Goals as goal

pub returns-then-not-is_up-clause-leaves : goal.returns-then-not-is_up-clause-leaves
returns-then-not-is_up-clause-leaves g c = call-down c.args.process c.args.command c.args.self.now _ _ (sym c.is_up.ensures ∙ c.if-not-is_up.true) c.requires.ready
