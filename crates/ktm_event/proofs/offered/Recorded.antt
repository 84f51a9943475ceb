-- Lists of which each thing is so to that of the other.
use Rattle.std.proofs.Common.{List, [], ◌∷◌, ◌++◌}
use Rattle.ktm_event.specs.OnPages.{AreEach}

module _ {X : Type 0} (Is : X → X → Type 0) where
  pub each-both : (xs ys us vs : List X) → AreEach Is xs ys → AreEach Is us vs → AreEach Is (xs ++ us) (ys ++ vs)
  each-both [] [] us vs first second = second
  each-both (x ∷ xs) (y ∷ ys) us vs first second = (first.0, each-both xs ys us vs first.1 second)
  each-both [] (y ∷ ys) us vs first second = absurd first
  each-both (x ∷ xs) [] us vs first second = absurd first
