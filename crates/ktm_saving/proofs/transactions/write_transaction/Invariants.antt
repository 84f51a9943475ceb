use Rattle.std.proofs.Common.{length, map}
use Rattle.ktm_snapshot.specs.Sizes.{marked_size, start_size}
use Rattle.ktm_snapshot.specs.StateGrammar.{IsMarkedOf, IsStartOf}
use Rattle.ktm_trace.specs.Lent.{transaction_lent}
use Rattle.ktm_saving.specs.Owned.{changes_placed, part_with, recorded_in}
use Rattle.ktm_saving.proofs.Lists.{ArePartly}
use Rattle.ktm_saving.proofs.transactions.write_transaction.Given as goal

abbrev pub invariant-parts : goal.invariant-parts
invariant-parts l =
    let one = recorded_in l.memory (transaction_lent l.fn.transaction) in
    ArePartly (IsStartOf one.id one.stage one.superior (length one.parts)) IsMarkedOf marked_size (start_size one.superior) one.parts
    (map (part_with l.tm.now.enlistments (changes_placed l.owned) l.owned.settings.now) l.parts) l.fn.out l.out

abbrev pub decreases-parts : goal.decreases-parts
decreases-parts l = length l.parts
