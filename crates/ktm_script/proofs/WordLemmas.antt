-- What is read as a word is spelled so, and what is spelled so is read.
use Rattle.std.proofs.Common.{◌≡◌, ℕ, Bool, true, not, List, [], ◌∷◌, ◌++◌, Some, codes, bytes_eq, refl, sym, ◌∙◌, ap, inl, inr, append_assoc, nat_eq}
use Rattle.std.specs.List.{list_all}
use Rattle.std.proofs.lemmas.Bool.{cases_Bool}
use Rattle.std.proofs.lemmas.List.{append-nil}
use Rattle.std.proofs.lemmas.Option.{same_Some, some_pair_parts}
use Rattle.std.proofs.lemmas.Slice.Eq.{bytes_eq-Decides}
use Rattle.ktm_codec.proofs.WordLemmas.{after_word_is, after_word_again}
use Rattle.ktm_codec.proofs.WordSplits.{word_is}
use Rattle.ktm_codec.specs.Word.{after_word, word_at, word_from}
use Rattle.ktm_codec.proofs.Steps.{bind_some}
use Rattle.ktm_script.specs.Reading.{by_word, one_of}
use Rattle.ktm_script.specs.Spelling.{space}
use Rattle.ktm_script.proofs.Readers.{Reads, ends_part}

-- no space is in it
abbrev pub is_word : List ℕ → Bool
is_word word = list_all (λ c. not (nat_eq c space)) word

word_from_again : (front word rest : List ℕ) → is_word word ≡ true → ends_part rest ≡ true → word_from front (word ++ rest) ≡ (front ++ word, rest)
unfolding word_from
word_from_again front [] [] h ends = rw (append-nil front) refl
word_from_again front [] (c ∷ cs) h ends = rw (ends, append-nil front) refl
word_from_again front (c ∷ cs) rest h ends = elim (cases_Bool (nat_eq c space)) [
  | inl space ↦ cc (rw space at h)
  | inr more ↦ rw more (word_from_again (front ++ c ∷ []) cs rest (rw more at h) ends ∙ ap (λ (xs : List ℕ). (xs, rest)) (append_assoc front (c ∷ []) cs))
]

pub word_again : (word rest : List ℕ) → is_word word ≡ true → ends_part rest ≡ true → word_at (word ++ rest) ≡ (word, rest)
word_again word rest h ends = word_from_again [] word rest h ends

by_word_is : {X : Type 0} (spell : X → List ℕ) (values : List X) (word : List ℕ) (x : X) → by_word spell values word ≡ Some x → word ≡ spell x
unfolding by_word
by_word_is spell [] word x e = cc
by_word_is spell (v ∷ vs) word x e = elim (cases_Bool (bytes_eq (spell v) word)) [
  | inl same ↦ sym ((bytes_eq-Decides (spell v) word).0 same) ∙ ap spell (same_Some v x (rw same at e))
  | inr other ↦ by_word_is spell vs word x (rw other at e)
]

-- values that each have a word of their own
pub by_words : {X : Type 0} (spell : X → List ℕ) (values : List X) → ((x : X) → (is_word (spell x) ≡ true) × (by_word spell values (spell x) ≡ Some x))
    → Reads (λ (x : X). Unit {0}) (λ x. space ∷ spell x) (one_of spell values)
unfolding one_of
by_words {X} spell values own = record {
  found = λ text x rest e. bind_some _ (after_word (codes " ") text) (x, rest) e (λ behind f g.
      bind_some _ (by_word spell values (word_at behind).0) (x, rest) g (λ v h k.
      let same = some_pair_parts v x (word_at behind).1 rest k in
      let spelled : (word_at behind).0 ≡ spell x = by_word_is spell values (word_at behind).0 v h ∙ ap spell same.0 in (
        tt,
        after_word_is (codes " ") text behind f ∙ ap (λ (xs : List ℕ). space ∷ xs)
            (word_is behind ∙ ap (λ (xs : List ℕ). xs ++ (word_at behind).1) spelled ∙ ap (λ (xs : List ℕ). spell x ++ xs) same.1),
      )));
  every = λ x rest is ends. rw (after_word_again (codes " ") (spell x ++ rest), word_again (spell x) rest (own x).0 ends, (own x).1) refl;
}
