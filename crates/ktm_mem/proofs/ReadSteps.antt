-- A read from the front of some bytes.
use Rattle.std.proofs.Common.{◌≡◌, ℕ, ◌+◌, List, ◌++◌, length, take, drop, sym, ◌∙◌, ap}
use Rattle.std.proofs.lemmas.List.{take_at, take-append-drop, drop-drop}

-- what a read of n bytes at this place put into the front of the buffer, and what is left behind it
pub read_step : (bytes : List ℕ) (at n : ℕ) (piece buf : List ℕ) → length piece ≡ n → piece ≡ take n (drop at bytes) → drop at bytes ≡ take n (piece ++ buf) ++ drop (at + n) bytes
read_step bytes at n piece buf long is =
    sym (ap (λ (l : List ℕ). l ++ drop (at + n) bytes) (take_at piece buf n long ∙ is) ∙ ap (λ (l : List ℕ). take n (drop at bytes) ++ l) (sym (drop-drop n at bytes)) ∙ take-append-drop n (drop at bytes))
