-- How many settings of each kind transactions have.
use Rattle.std.specs.Prelude.{◌≡◌, ℕ, ◌<◌, ◌^◌, Bool, List, Option, None, Some, is_some, is_none, sum_by, count_by}
use Rattle.ktm_keyed.specs.declared.keyed.Keyed.{Keyed}
use Rattle.ktm_world.specs.Keys.{Own}
use Rattle.kv_rm.specs.declared.count.Counts.{Counts}
use Rattle.kv_rm.specs.declared.count.Kind.{Kind}
use Rattle.kv_rm.specs.declared.count.Kind.TheVariants.{Value, Unset}

-- what setting a key to this does with it
abbrev pub kind_of : Option (List ℕ) → Kind
kind_of (Some value) = Value
kind_of None = Unset

-- is the setting of this kind
abbrev pub is_of_kind : Kind → Keyed (Option (List ℕ)) → Bool
is_of_kind Value setting = is_some setting.value
is_of_kind Unset setting = is_none setting.value

-- 1 where there is a kind that is this one
abbrev pub one_of : Kind → Option Kind → ℕ
one_of Value (Some Value) = 1
one_of Unset (Some Unset) = 1
one_of _ _ = 0

-- how many settings of all transactions are of this kind
abbrev pub own_count : Kind → List Own → ℕ
own_count kind own = sum_by (λ o. count_by (is_of_kind kind) o.settings) own

-- these are the counts of the transactions' settings
pub record AreCounts (own : List Own) (counts : Counts) : Type 0 where
  pub values : counts.values ≡ own_count Value own
  pub unsets : counts.unsets ≡ own_count Unset own

-- the counts fit into 32 bits
pub record AreFew (counts : Counts) : Type 0 where
  pub values : counts.values < 2 ^ 32
  pub unsets : counts.unsets < 2 ^ 32
