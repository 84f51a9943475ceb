-- A list of values under keys, apart at a key.
use Rattle.std.specs.Prelude.{◌≡◌, ℕ, List, ◌∷◌, ◌++◌}
use Rattle.ktm_keyed.specs.declared.keyed.Keyed.{Keyed}
use Rattle.ktm_keyed.specs.Keyed.{put, without}

-- a value under the key would stand between the two parts, which are all that is under other keys
pub record IsSplit {V : Type 0} (items : List (Keyed V)) (key : List ℕ) (before after : List (Keyed V)) : Type 0 where
  pub puts : (value : V) → put items key value ≡ before ++ record { key = key; value = value } ∷ after
  pub removes : without items key ≡ before ++ after
