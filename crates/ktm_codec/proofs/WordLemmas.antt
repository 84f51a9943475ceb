-- What follows a word.
use Rattle.std.proofs.Common.{◌≡◌, ℕ, List, ◌++◌, Some, refl, ◌∙◌, sym, take, drop, length, inl, inr, take-append-drop, bytes_eq}
use Rattle.std.proofs.lemmas.Bool.{cases_Bool}
use Rattle.std.proofs.lemmas.List.{take_at, drop_at}
use Rattle.std.proofs.lemmas.Option.{same_Some}
use Rattle.std.proofs.lemmas.Slice.Eq.{bytes_eq-Decides}
use Rattle.ktm_codec.specs.Word.{after_word}

pub after_word_is : (word text rest : List ℕ) → after_word word text ≡ Some rest → text ≡ word ++ rest
unfolding after_word
after_word_is word text rest e = elim (cases_Bool (bytes_eq (take (length word) text) word)) [
  | inl same ↦
      let behind : drop (length word) text ≡ rest = same_Some _ _ (rw same at e) in
      let front = (bytes_eq-Decides (take (length word) text) word).0 same in
      sym (take-append-drop (length word) text) ∙ rw (front, behind) refl
  | inr other ↦ cc (rw other at e)
]

pub after_word_again : (word rest : List ℕ) → after_word word (word ++ rest) ≡ Some rest
unfolding after_word
after_word_again word rest =
    let same = (bytes_eq-Decides word word).1 refl in
    rw (take_at word rest (length word) refl, drop_at word rest (length word) refl, same) refl
