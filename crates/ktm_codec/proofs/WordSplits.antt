-- A text is split at its first space.
use Rattle.std.proofs.Common.{◌≡◌, ◌<◌, ◌==◌, ℕ, zero, suc, true, false, cond, length, get_or, take, drop, arith, List, [], ◌∷◌, ◌++◌, refl, sym, ◌∙◌, ap, inl, inr, append_assoc, nat_eq}
use Rattle.std.proofs.lemmas.Bool.{cases_Bool}
use Rattle.std.proofs.lemmas.List.{append-nil}
use Rattle.ktm_codec.specs.Word.{word_at, word_from}

-- a word ends at the first space
pub word_ends : (front text : List ℕ) (end : ℕ) → end < length text → (get_or text end 0 == 32) ≡ true → ((k : ℕ) → k < end → (get_or text k 0 == 32) ≡ false)
    → word_from front text ≡ (front ++ take end text, drop end text)
unfolding word_from
word_ends front [] end within ends others = absurd (omega (arith, within))
word_ends front (c ∷ cs) zero within ends others =
    ap (λ t. cond t (front, c ∷ cs) (word_from (front ++ c ∷ []) cs)) ends ∙ ap (λ (l : List ℕ). (l, c ∷ cs)) (sym (append-nil front))
word_ends front (c ∷ cs) (suc end) within ends others =
    let other = others 0 (omega arith) in
    ap (λ t. cond t (front, c ∷ cs) (word_from (front ++ c ∷ []) cs)) other
    ∙ word_ends (front ++ c ∷ []) cs end (omega (arith, within)) ends (λ k below. others (suc k) (omega (arith, below)))
    ∙ ap (λ (l : List ℕ). (l, drop end cs)) (append_assoc front (c ∷ []) (take end cs))

-- without a space it is all of the text
pub word_is_all : (front text : List ℕ) → ((k : ℕ) → k < length text → (get_or text k 0 == 32) ≡ false) → word_from front text ≡ (front ++ text, [])
unfolding word_from
word_is_all front [] others = ap (λ (l : List ℕ). (l, [])) (sym (append-nil front))
word_is_all front (c ∷ cs) others =
    let other = others 0 (omega arith) in
    ap (λ t. cond t (front, c ∷ cs) (word_from (front ++ c ∷ []) cs)) other
    ∙ word_is_all (front ++ c ∷ []) cs (λ k below. others (suc k) (omega (arith, below)))
    ∙ ap (λ (l : List ℕ). (l, [])) (append_assoc front (c ∷ []) cs)

word_from_is : (front text : List ℕ) → front ++ text ≡ (word_from front text).0 ++ (word_from front text).1
unfolding word_from
word_from_is front [] = refl
word_from_is front (c ∷ cs) = elim (cases_Bool (nat_eq c 32)) [
  | inl ends ↦ rw ends refl
  | inr more ↦ rw more (sym (append_assoc front (c ∷ []) cs) ∙ word_from_is (front ++ c ∷ []) cs)
]

-- what is before the first space, and what follows it
pub word_is : (text : List ℕ) → text ≡ (word_at text).0 ++ (word_at text).1
word_is text = word_from_is [] text
