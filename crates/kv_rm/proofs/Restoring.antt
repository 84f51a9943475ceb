-- Settings that a transaction has again, counted with the others.
use Rattle.std.proofs.Common.{◌≡◌, ℕ, ◌+◌, ◌<◌, ◌^◌, List, [], ◌∷◌, ◌++◌, arith}
use Rattle.std.specs.Prelude.{count_by}
use Rattle.ktm_base.specs.declared.id.Id.{Id}
use Rattle.ktm_world.specs.Keys.{Own, OwnSettings}
use Rattle.kv_rm.specs.Count.{is_of_kind, AreCounts}
use Rattle.kv_rm.specs.Held.{count_at, has_hash, hash_count, AreHeld}
use Rattle.kv_rm.specs.declared.count.Counts.{Counts}
use Rattle.kv_rm.specs.declared.count.Kind.TheVariants.{Value, Unset}
use Rattle.kv_rm.proofs.Counted.{counted-restored}

module _ (own : List Own) (id : Id) (settings : OwnSettings) where
  -- the transactions, with this one behind the others
  abbrev back : List Own
  back = own ++ record { transaction = id; settings = settings } ∷ []

  -- what is counted then
  pub are_counts-restored : (counts new : Counts) → AreCounts own counts
      → new.values ≡ counts.values + count_by (is_of_kind Value) settings
      → new.unsets ≡ counts.unsets + count_by (is_of_kind Unset) settings
      → AreCounts back new
  are_counts-restored counts new are values unsets = record {
    values = let more = counted-restored (is_of_kind Value) own id settings in let before = are.values in omega (arith, more, before, values);
    unsets = let more = counted-restored (is_of_kind Unset) own id settings in let before = are.unsets in omega (arith, more, before, unsets);
  }

  -- what is counted by hashes then
  pub are_held-restored : (counts new : List ℕ) → AreHeld own counts → ((hash : ℕ) → count_at new hash ≡ count_at counts hash + count_by (has_hash hash) settings) → AreHeld back new
  are_held-restored counts new are more = record {
    counted = λ hash.
        let all = counted-restored (has_hash hash) own id settings in
        let before = are.counted hash in
        let come = more hash in
        omega (arith, all, before, come);
  }

  -- there is room for them
  pub few_restored : (counts : List ℕ) → AreHeld own counts → ((hash : ℕ) → hash_count hash back < 2 ^ 33) → (hash : ℕ) → count_at counts hash + count_by (has_hash hash) settings < 2 ^ 33
  few_restored counts are few hash =
      let most = few hash in
      let all = counted-restored (has_hash hash) own id settings in
      let before = are.counted hash in
      omega (arith, most, all, before)
