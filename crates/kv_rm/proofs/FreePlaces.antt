-- Lists behind free places.
use Rattle.std.proofs.Common.{◌≡◌, ℕ, ◌+◌, ◌-◌, ◌<◌, ◌≤◌, List, ◌∷◌, ◌++◌, length, take, drop, set, length-append, length-drop, sym, ◌∙◌, ap, arith}
use Rattle.std.specs.List.{insert}
use Rattle.std.proofs.Math.Seq.{drop-append_seam, take-append_seam}
use Rattle.std.proofs.lemmas.List.{drop-set, length-take, take-append-drop}
use Rattle.std.proofs.lemmas.List.Edits.{insert-append_right}

module _ {X : Type 0} where
  -- one more behind the free places
  pub drop-insert : (xs : List X) (n i : ℕ) (y : X) → n ≤ length xs → drop n (insert xs (n + i) y) ≡ insert (drop n xs) i y
  drop-insert xs n i y within =
      let front = take n xs in
      let long : length front ≡ n = let whole = length-take n xs in omega arith in
      let at : n + i - n ≡ i = omega arith in
      ap (drop n)
      (ap (λ l. insert l (n + i) y) (sym (take-append-drop n xs)) ∙ insert-append_right front (drop n xs) n (n + i) y long (omega arith))
      ∙ ap (λ k. drop n (front ++ insert (drop n xs) k y)) at
      ∙ ap (λ k. drop k (front ++ insert (drop n xs) i y)) (sym long)
      ∙ drop-append_seam front (insert (drop n xs) i y)

  -- one more in the last free place
  pub drop-last : (xs : List X) (n : ℕ) (y : X) → 0 < n → n ≤ length xs → drop (n - 1) (set xs (n - 1) y) ≡ y ∷ drop n xs
  drop-last xs n y some within =
      let one : n - 1 + 1 ≡ n = omega arith in
      drop-set xs (n - 1) y (omega arith) ∙ ap (λ k. y ∷ drop k xs) one

  -- the free places turned behind and cut off
  pub turned : (xs : List X) (n : ℕ) → take (length xs - n) (drop n xs ++ take n xs) ≡ drop n xs
  turned xs n = ap (λ k. take k (drop n xs ++ take n xs)) (sym (length-drop n xs)) ∙ take-append_seam (drop n xs) (take n xs)

  -- there are no fewer
  pub within-insert : (xs : List X) (n i : ℕ) (y : X) → n ≤ length xs → n ≤ length (insert xs i y)
  within-insert xs n i y within =
      let front = length-take i xs in
      let back = length-drop i xs in
      let all = length-append (take i xs) (y ∷ drop i xs) in
      omega arith
