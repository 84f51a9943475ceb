use Rattle.std.proofs.Common.{drop, length}
use Rattle.ktm_base.specs.Grammar.{IsU32}
use Rattle.ktm_snapshot.specs.Sizes.{entry_size}
use Rattle.ktm_snapshot.specs.StateGrammar.{IsEntryOf}
use Rattle.ktm_saving.proofs.Lists.{ArePartly}
use Rattle.ktm_saving.proofs.entries.write_entries.Given as goal

abbrev pub invariant-loop-entry : goal.invariant-loop-entry
invariant-loop-entry l = ArePartly (IsU32 (length l.store)) IsEntryOf entry_size 4 l.store (drop l.entry-index l.store) l.fn.out l.out
