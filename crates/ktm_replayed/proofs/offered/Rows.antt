-- Things in a row, of which some were read.
use Rattle.std.proofs.Common.{◌≡◌, ℕ, ◌-◌, ◌<◌, List, [], ◌∷◌, ◌++◌, length, refl, sym, ◌∙◌, ap, subst, arith}
use Rattle.ktm_base.specs.Grammar.{IsRow}
use Rattle.ktm_codec.specs.Spans.{Spans, Unambiguous}
use Rattle.ktm_codec.proofs.SpansLemmas.{length-part, one_reading, spans_parts}

-- so many of these come first, and then one that is spelled from a place on
abbrev pub GoOnFrom : {X : Type 0} → (X → List ℕ → Type 0) → List ℕ → List X → List X → ℕ → Type 0
GoOnFrom {X} Item bytes ys xs here = (x : X) × (rest : List X) × (next : ℕ) × (xs ≡ ys ++ x ∷ rest) × Spans (Item x) bytes here next

one-more : {X : Type 0} (Item : X → List ℕ → Type 0) (bytes : List ℕ) (x y : X) (ys xs : List X) (here : ℕ) → x ≡ y → GoOnFrom Item bytes ys xs here → GoOnFrom Item bytes (y ∷ ys) (x ∷ xs) here
one-more {X} Item bytes x y ys xs here same (z, rest, next, split, item) = (z, rest, next, ap (λ (v : X). v ∷ xs) same ∙ ap (λ (l : List X). y ∷ l) split, item)

-- where there are more of them, the next one is spelled where those that were read end
pub row-split : {X : Type 0} (Item : X → List ℕ → Type 0) → Unambiguous Item → (bytes : List ℕ) (ys xs : List X) (at here end : ℕ)
    → Spans (IsRow Item ys) bytes at here → Spans (IsRow Item xs) bytes at end → length ys < length xs → GoOnFrom Item bytes ys xs here
row-split Item one bytes ys [] at here end so_far row fewer = absurd (omega arith)
row-split Item one bytes [] (x ∷ xs) at here end so_far row fewer =
    let (mid, first, rest) = spans_parts bytes at end row in
    let none : here - at ≡ 0 = sym (length-part bytes at here so_far.forward so_far.within) ∙ ap (λ (l : List ℕ). length l) so_far.form in
    (x, xs, mid, refl, subst (λ n. Spans (Item x) bytes n mid) (omega (arith, none, so_far.forward)) first)
row-split {X} Item one bytes (y ∷ ys) (x ∷ xs) at here end so_far row fewer =
    let (mid, first, rest) = spans_parts bytes at end row in
    let (mid', first', rest') = spans_parts bytes at here so_far in
    let (same, places) = one_reading Item one bytes at x y mid mid' first first' in
    one-more Item bytes x y ys xs here same (row-split Item one bytes ys xs mid' here end rest' (subst (λ n. Spans (IsRow Item xs) bytes n end) places rest) (omega arith))
