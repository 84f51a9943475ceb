use Rattle.std.proofs.Common.{◌≡◌, length}
use Rattle.ktm_world.specs.HandleCalls.{exit, labels_of}
use Rattle.ktm_memory.specs.Memory.{MemoryState, Settles, TellsWithin}
use Rattle.ktm_memory.specs.Rules.{KeepRules}
use Rattle.txf_volume.specs.Held.{files_of}
use Rattle.ktm_memory.proofs.memory.Memory.exit.Given as goal

abbrev pub invariant-loop-closed : goal.invariant-loop-closed
invariant-loop-closed l = record {
  -- what settles the rest settles all
  settles : (new : MemoryState) → Settles l.self (λ x. exit x l.process) new → Settles l.fn.self (λ x. exit x l.process) new;
  told : TellsWithin l.self (λ x. exit x l.process);
  journal : l.self.journal ≡ l.fn.self.journal;
  rules : KeepRules (files_of l.fn.self.files) (files_of l.self.files);
}

abbrev pub decreases-loop-closed : goal.decreases-loop-closed
decreases-loop-closed l = length (labels_of l.self.handles.handles l.process)
