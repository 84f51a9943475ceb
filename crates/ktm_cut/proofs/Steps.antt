-- Steps of contents that are told.
use Rattle.std.specs.Prelude.{IfSome}
use Rattle.std.proofs.Common.{List, ℕ, Option, None, Some, Result, Ok, Err}
use Rattle.std.specs.Result.{OnOk}
use Rattle.ktm_base.specs.Told.{Goes}

pub OnOk-map : {T E : Type 0} (r : Result T E) (P Q : Type 0) → (P → Q) → OnOk r P → OnOk r Q
OnOk-map (Ok x) P Q f h = f h
OnOk-map (Err e) P Q f h = tt

pub Goes-map : (R S : List ℕ → List ℕ → Type 0) (a b : Option (List ℕ)) → ((x y : List ℕ) → R x y → S x y) → Goes R a b → Goes S a b
Goes-map R S None None f h = tt
Goes-map R S None (Some y) f h = h
Goes-map R S (Some x) None f h = h
Goes-map R S (Some x) (Some y) f h = f x y h

-- two steps, where a fact holds between them
pub Goes-then : (P : List ℕ → Type 0) (R S T : List ℕ → List ℕ → Type 0) (a b c : Option (List ℕ)) → ((x y z : List ℕ) → P y → R x y → S y z → T x z) → IfSome b P → Goes R a b → Goes S b c → Goes T a c
Goes-then P R S T None None None f p first next = tt
Goes-then P R S T None None (Some z) f p first next = next
Goes-then P R S T None (Some y) c f p first next = absurd first
Goes-then P R S T (Some x) None c f p first next = absurd first
Goes-then P R S T (Some x) (Some y) None f p first next = next
Goes-then P R S T (Some x) (Some y) (Some z) f p first next = f x y z p first next
