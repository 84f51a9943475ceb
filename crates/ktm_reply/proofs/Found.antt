-- What is found, and what is not.
use Rattle.std.proofs.Common.{◌≡◌, ℕ, bytes_eq, List, [], ◌∷◌, ◌++◌, Option, Some, None, refl, sym, ◌∙◌, ap, inl, inr}
use Rattle.std.proofs.lemmas.Bool.{cases_Bool}
use Rattle.std.proofs.lemmas.Option.{same_Some}
use Rattle.std.proofs.lemmas.Slice.Eq.{bytes_eq-Decides}
use Rattle.std.specs.List.{find}
use Rattle.ktm_codec.specs.Word.{after_word}
use Rattle.ktm_codec.proofs.WordLemmas.{after_word_is}

-- what is found by its name has it
pub name_is : {X : Type 0} (name : X → List ℕ) (xs : List X) (text : List ℕ) (x : X) → find (λ y. bytes_eq (name y) text) xs ≡ Some x → text ≡ name x
name_is name [] text x e = cc
name_is name (y ∷ ys) text x e = elim (cases_Bool (bytes_eq (name y) text)) [
  | inl same ↦ sym ((bytes_eq-Decides (name y) text).0 same) ∙ ap name (same_Some y x (rw same at e))
  | inr other ↦ name_is name ys text x (rw other at e)
]

pub nothing : {X : Type 0} (o : Option X) → ((x : X) → o ≡ Some x → ⊥) → o ≡ None
nothing None never = refl
nothing (Some x) never = absurd (never x refl)

-- the word is not at the front of what is read otherwise
pub apart : {X : Type 0} (read : List ℕ → Option X) (word text : List ℕ) (x : X) → read text ≡ Some x
    → ((rest : List ℕ) → read (word ++ rest) ≡ None) → after_word word text ≡ None
apart read word text x e never = nothing (after_word word text) (λ rest f.
    let none : read text ≡ None = ap read (after_word_is word text rest f) ∙ never rest in
    cc)
