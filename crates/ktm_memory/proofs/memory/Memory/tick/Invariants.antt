use Rattle.std.proofs.Common.{◌≡◌, ◌≤◌, filter, length}
use Rattle.ktm_base.specs.declared.limits.TheConstants.{MOST_LIVE}
use Rattle.ktm_standing.proofs.offered.Distinct.{Rise}
use Rattle.ktm_memory.specs.Memory.{MemoryState, Settles, TellsWithin}
use Rattle.ktm_memory.specs.Rules.{KeepRules}
use Rattle.txf_volume.specs.Held.{files_of}
use Rattle.ktm_world.specs.TransactionCalls.{tick}
use Rattle.ktm_world.specs.Transactions.{is_live}
use Rattle.ktm_memory.proofs.Ticks.{from_here, left_from}
use Rattle.ktm_memory.proofs.memory.Memory.tick.Given as goal

abbrev pub invariant-loop-t : goal.invariant-loop-t
invariant-loop-t l = record {
  rise : Rise l.self.tm.now.items;
  few : length (filter is_live l.self.tm.now.items) ≤ MOST_LIVE;
  journal : l.self.journal ≡ l.fn.self.journal;
  rules : KeepRules (files_of l.fn.self.files) (files_of l.self.files);
  -- what settles the rest settles all
  settles : (new : MemoryState) → Settles l.self (from_here l.place) new → Settles l.fn.self (λ x. tick x l.ms) new;
  told : TellsWithin l.self (from_here l.place);
}

abbrev pub decreases-loop-t : goal.decreases-loop-t
decreases-loop-t l = left_from l.self.tm.now l.place
