use Rattle.std.proofs.Common.{◌≡◌, ◌++◌}
use Rattle.std.specs.List.{flat_map}
use Rattle.std.specs.Vec.Iter.{into_iter_items}
use Rattle.ktm_world.specs.declared.recorded.RecordedPart.{RecordedPart}
use Rattle.ktm_world.specs.Durable.{changes_in, settings_in}
use Rattle.txf_volume.specs.Held.{files_of}
use Rattle.ktm_back.specs.Restoring.{files_with_own, keys_with_own, own_if_changed, own_if_set}
use Rattle.ktm_back.proofs.restoring.restore_parts.Given as goal

-- what the parts so far have is the transaction's own
abbrev pub invariant-loop-p : goal.invariant-loop-p
invariant-loop-p l = record {
  rest : l.yielded ++ into_iter_items l.p-iterator ≡ l.fn.parts.items;
  files : files_of l.files ≡ files_with_own (files_of l.initial.files) (own_if_changed l.transaction (flat_map (λ (p : RecordedPart). changes_in p.part) l.yielded));
  keys : l.keys ≡ keys_with_own l.initial.keys (own_if_set l.transaction (flat_map (λ (p : RecordedPart). settings_in p.part) l.yielded));
}
