-- What contracts see of a pattern.
use Rattle.std.specs.Prelude.{ℕ, List}

-- the names of the directory in which it seeks, and its last part
pub record PatternValue : Type 0 where
  pub directory : List (List ℕ)
  pub last : List ℕ
