use Rattle.std.proofs.Common.{◌≡◌, ◌+◌, ◌≤◌, ℕ, count_by, drop, length}
use Rattle.kv_rm.specs.declared.held.TheConstants.{HASHES}
use Rattle.kv_rm.specs.Held.{count_at, has_hash}
use Rattle.kv_rm.proofs.held.HeldKeys.add_all.Given as goal

-- the rest is still to be counted
abbrev pub invariant-loop-setting : goal.invariant-loop-setting
invariant-loop-setting l = record {
  room : HASHES ≤ length l.self.counts.items;
  counted :
      (hash : ℕ) → count_at l.self.counts.items hash + count_by (has_hash hash) (drop l.setting-index l.settings)
      ≡ count_at l.initial.self.counts.items hash + count_by (has_hash hash) l.settings;
}
