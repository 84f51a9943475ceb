-- Words at the front of a text.
use Rattle.std.specs.Prelude.{ℕ, ◌==◌, List, [], ◌∷◌, ◌++◌, length, take, drop, Option, Some, None, if◌then◌else◌, bytes_eq}

-- what follows the word, where the text begins with it
unfoldable pub after_word : List ℕ → List ℕ → Option (List ℕ)
after_word word text = if bytes_eq (take (length word) text) word then Some (drop (length word) text) else None

-- the word so far with its characters up to the first space, which is 32, and what follows them
unfoldable pub word_from : List ℕ → List ℕ → List ℕ × List ℕ
word_from front [] = (front, [])
word_from front (c ∷ cs) = if c == 32 then (front, c ∷ cs) else word_from (front ++ c ∷ []) cs

-- the word at the front, up to the first space, and what follows it
abbrev pub word_at : List ℕ → List ℕ × List ℕ
word_at text = word_from [] text
