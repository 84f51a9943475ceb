-- A text that gets some parts, one behind the other.
use Rattle.std.proofs.Common.{◌≡◌, ℕ, List, ◌++◌, ◌∙◌, ap, append_assoc}

pub three_parts : (old a b new p q r : List ℕ) → a ≡ old ++ p → b ≡ a ++ q → new ≡ b ++ r → new ≡ old ++ (p ++ (q ++ r))
three_parts old a b new p q r first second third =
    third ∙ ap (λ (l : List ℕ). l ++ r) (second ∙ ap (λ (l : List ℕ). l ++ q) first) ∙ append_assoc (old ++ p) q r ∙ append_assoc old p (q ++ r)
