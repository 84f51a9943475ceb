use Rattle.std.proofs.Common.{◌≡◌, ◌++◌}
use Rattle.std.specs.Vec.Iter.{into_iter_items}
use Rattle.txf_volume.specs.Held.{files_of}
use Rattle.ktm_back.specs.Restoring.{files_with_own, keys_with_own, own_changes_of, own_settings_of}
use Rattle.ktm_back.proofs.restoring.restore_all.Given as goal

-- what the transactions so far have is their own
abbrev pub invariant-loop-t : goal.invariant-loop-t
invariant-loop-t l = record {
  rest : l.yielded ++ into_iter_items l.t-iterator ≡ l.fn.transactions.items;
  files : files_of l.files ≡ files_with_own (files_of l.initial.files) (own_changes_of l.yielded);
  keys : l.keys ≡ keys_with_own l.initial.keys (own_settings_of l.yielded);
}
