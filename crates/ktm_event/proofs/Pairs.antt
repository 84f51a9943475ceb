-- Two things of the grammar, one behind the other, as a pair.
use Rattle.std.proofs.Common.{List, ℕ, ap, ◌∙◌}
use Rattle.ktm_base.specs.Grammar.{Then}
use Rattle.ktm_codec.specs.Spans.{Unambiguous}
use Rattle.ktm_codec.proofs.Forms.{unambiguous_then}

abbrev pub Both : {X Y : Type 0} → (X → List ℕ → Type 0) → (Y → List ℕ → Type 0) → X × Y → List ℕ → Type 0
Both First Second (x, y) = Then (First x) (Second y)

pub unambiguous_both : {X Y : Type 0} (First : X → List ℕ → Type 0) (Second : Y → List ℕ → Type 0) → Unambiguous First → Unambiguous Second → Unambiguous (Both First Second)
unambiguous_both {X} {Y} First Second one two (x, y) (x', y') a b c d p q e =
    let (same, same', bytes) = unambiguous_then First Second one x x' y y' (λ _. two y y') a b c d p q e in
    (ap (λ (x : X). (x, y)) same ∙ ap (λ (y : Y). (x', y)) same', bytes)
