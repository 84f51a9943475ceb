use Rattle.std.proofs.Common.{◌≡◌, ◌++◌}
use Rattle.txf_volume.specs.Held.{files_of}
use Rattle.txf_volume.specs.Restoring.{begun}
use Rattle.txf_volume.proofs.files.Files.own_all.Given as goal

-- the changes so far are the transaction's own, and the others come behind them
abbrev pub invariant-loop-change : goal.invariant-loop-change
invariant-loop-change l = record {
  files : files_of l.self ≡ begun (files_of l.fn.self) l.fn.transaction l.yielded;
  all : l.yielded ++ l.change-iterator.rest.items ≡ l.fn.changes.items;
}
