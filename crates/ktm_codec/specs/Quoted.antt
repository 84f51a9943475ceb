-- Texts between quotation marks.
use Rattle.std.specs.Prelude.{ℕ, ◌==◌, nat_le, not, Bool, IsTrue, ◌&&◌, List, [], ◌∷◌, ◌++◌, Option, Some, None, if◌then◌else◌}
use Rattle.std.specs.List.{AllByRecursion}

-- the quotation mark
abbrev pub quotation_mark : ℕ
quotation_mark = 34

-- a character of a text: from 0x20 to 0x7E, and no quotation mark
abbrev pub is_text_byte : ℕ → Bool
is_text_byte c = nat_le 0x20 c && nat_le c 0x7E && not (c == quotation_mark)

-- each is a character of a text
abbrev pub AreTextBytes : List ℕ → Type 0
AreTextBytes text = AllByRecursion (λ c. IsTrue (is_text_byte c)) text

-- a text between quotation marks
abbrev pub quoted : List ℕ → List ℕ
quoted text = quotation_mark ∷ text ++ quotation_mark ∷ []

-- the text so far with its characters up to the next quotation mark, and what follows that
unfoldable pub text_from : List ℕ → List ℕ → Option (List ℕ × List ℕ)
text_from front [] = None
text_from front (c ∷ cs) =
    if c == quotation_mark then Some (front, cs) else
    (if is_text_byte c then text_from (front ++ c ∷ []) cs else None)

-- the text between quotation marks at the front, and what follows it
unfoldable pub quoted_at : List ℕ → Option (List ℕ × List ℕ)
quoted_at [] = None
quoted_at (c ∷ cs) = if c == quotation_mark then text_from [] cs else None
