-- How many settings transactions have whose keys have the same hash.
use Rattle.std.specs.Prelude.{◌≡◌, ℕ, ◌+◌, ◌*◌, ◌%◌, ◌/◌, ◌^◌, ◌==◌, Bool, List, [], ◌∷◌, Option, cond, slice_index_or, sum_by, count_by}
use Rattle.ktm_keyed.specs.declared.keyed.Keyed.{Keyed}
use Rattle.ktm_world.specs.Keys.{Own}
use Rattle.kv_rm.specs.declared.held.TheConstants.{MIXER}

-- a byte more is mixed in
abbrev pub mixed : ℕ → ℕ → ℕ
mixed hash byte = (hash + byte) % 2 ^ 32 * MIXER % 2 ^ 32

-- each byte is mixed in, in order
abbrev pub mixed_all : ℕ → List ℕ → ℕ
mixed_all hash [] = hash
mixed_all hash (byte ∷ bytes) = mixed_all (mixed hash byte) bytes

-- the hash of a key
unfoldable pub hash_of : List ℕ → ℕ
hash_of key = mixed_all 0 key / 2 ^ 22

-- has the setting a key of this hash
abbrev pub has_hash : ℕ → Keyed (Option (List ℕ)) → Bool
has_hash hash setting = hash_of setting.key == hash

-- how many settings of all transactions have a key of this hash
abbrev pub hash_count : ℕ → List Own → ℕ
hash_count hash own = sum_by (λ o. count_by (has_hash hash) o.settings) own

-- what is counted of a hash
abbrev pub count_at : List ℕ → ℕ → ℕ
count_at counts hash = slice_index_or counts hash 0

-- 1 where the two hashes are the same
abbrev pub one_at : ℕ → ℕ → ℕ
one_at hash other = cond (hash == other) 1 0

-- these are the counts of the transactions' settings, by the hashes of their keys
pub record AreHeld (own : List Own) (counts : List ℕ) : Type 0 where
  pub counted : (hash : ℕ) → count_at counts hash ≡ hash_count hash own
