-- Steps of reading, one behind the other.
use Rattle.std.specs.Prelude.{ℕ, List, [], ◌∷◌, Option, Some, None}

-- the next step, where the first one read something
infixl 10 ◌>>=◌
abbrev pub ◌>>=◌ : {A B : Type 0} → Option A → (A → Option B) → Option B
None >>= f = None
Some x >>= f = f x

-- the value, where nothing follows it
abbrev pub at_end : {X : Type 0} → X → List ℕ → Option X
at_end x [] = Some x
at_end x (c ∷ cs) = None

-- the way of reading behind what is at the front, and else the other way
abbrev pub on_some : {A X : Type 0} → Option A → (A → Option X) → Option X → Option X
on_some None read other = other
on_some (Some x) read other = read x
