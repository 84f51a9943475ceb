use Rattle.std.proofs.Common.{length}
use Rattle.ktm_base.specs.Grammar.{IsU32}
use Rattle.ktm_world.specs.EventGrammar.{IsIdOf}
use Rattle.ktm_manager.specs.Durable.{durable_in}
use Rattle.ktm_saving.proofs.Lists.{ArePartly, eight}
use Rattle.ktm_saving.proofs.managers.write_managers.Given as goal

abbrev pub invariant-managers : goal.invariant-managers
invariant-managers l = ArePartly (IsU32 (length (durable_in l.tm.managers))) IsIdOf eight 4 (durable_in l.tm.managers) l.managers l.fn.out l.out

abbrev pub decreases-managers : goal.decreases-managers
decreases-managers l = length l.managers
