-- What steps of reading read.
use Rattle.std.proofs.Common.{◌≡◌, ℕ, List, [], ◌∷◌, Option, Some, None, refl}
use Rattle.std.proofs.lemmas.Option.{same_Some}
use Rattle.ktm_codec.specs.Steps.{◌>>=◌, at_end, on_some}

-- what two steps read, each of them read something
pub bind_some : {A B P : Type 0} (f : A → Option B) (r : Option A) (y : B) → (r >>= f) ≡ Some y → ((x : A) → r ≡ Some x → f x ≡ Some y → P) → P
bind_some f None y e use_it = cc
bind_some f (Some x) y e use_it = use_it x refl e

pub at_end_is : {X : Type 0} (x y : X) (rest : List ℕ) → at_end x rest ≡ Some y → (rest ≡ []) × (x ≡ y)
at_end_is x y [] e = (refl, same_Some x y e)
at_end_is x y (c ∷ cs) e = cc

-- either something was at the front, or the other way was gone
pub on_some_is : {A X P : Type 0} (o : Option A) (read : A → Option X) (other : Option X) (y : X) → on_some o read other ≡ Some y
    → ((x : A) → o ≡ Some x → read x ≡ Some y → P) → (other ≡ Some y → P) → P
on_some_is None read other y e there gone = gone e
on_some_is (Some x) read other y e there gone = there x refl e
