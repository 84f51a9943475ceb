-- Names, paths and patterns: which texts they are, and which names a pattern matches.
use Rattle.std.specs.Prelude.{◌≡◌, ◌≢◌, ℕ, ◌-◌, ◌<◌, ◌≤◌, nat_le, ◌==◌, Bool, true, false, not, ◌&&◌, ◌||◌, List, [], ◌∷◌, ◌++◌, length, map, slice_index, All, codes, if◌then◌else◌}
use Rattle.std.specs.List.{AllPass, join_with_byte, list_any}
use Rattle.ktm_base.specs.declared.limits.TheConstants.{MOST_NAME_BYTES, MOST_PARTS}

-- the byte with a to z mapped onto A to Z
unfoldable pub folded_byte : ℕ → ℕ
folded_byte byte = if nat_le 0x61 byte && nat_le byte 0x7A then byte - 0x20 else byte

-- each byte folded: two names are the same where their folded bytes are
abbrev pub folded : List ℕ → List ℕ
folded bytes = map folded_byte bytes

-- what stands before each name of a path
abbrev pub backslash : ℕ
backslash = 0x5C

-- in a pattern it stands for any characters
abbrev pub star : ℕ
star = 0x2A

-- in a pattern it stands for one character
abbrev pub question_mark : ℕ
question_mark = 0x3F

-- a character of a name: from 0x20 to 0x7E, and none of \ / : * ? " < > |
unfoldable pub is_name_byte : ℕ → Bool
is_name_byte c = nat_le 0x20 c && nat_le c 0x7E && not (list_any (λ other. other == c) (codes "\\/:*?\"<>|"))

-- a character of a pattern's last part: one of a name, a star or a question mark
abbrev pub is_pattern_byte : ℕ → Bool
is_pattern_byte c = is_name_byte c || c == star || c == question_mark

-- the last character
abbrev pub last_byte : List ℕ → ℕ
last_byte name = slice_index name (length name - 1)

-- a name: 1 to 255 characters of names, of which the last is neither a space nor a dot
pub record IsName (name : List ℕ) : Type 0 where
  pub some : 1 ≤ length name
  pub few : length name ≤ MOST_NAME_BYTES
  pub characters : AllPass is_name_byte name
  pub no_space : last_byte name ≢ 0x20
  pub no_dot : last_byte name ≢ 0x2E

-- a backslash, and the names with a backslash between them
abbrev pub path_text : List (List ℕ) → List ℕ
path_text names = backslash ∷ join_with_byte backslash names

-- the text is the path of these names, 32 at most; that of no name is the root
pub record IsPath (names : List (List ℕ)) (text : List ℕ) : Type 0 where
  pub few : length names ≤ MOST_PARTS
  pub each : All IsName names
  pub spelled : text ≡ path_text names

-- the last part of a pattern: 1 to 255 characters of names, stars and question marks
pub record IsLastPart (last : List ℕ) : Type 0 where
  pub some : 1 ≤ length last
  pub few : length last ≤ MOST_NAME_BYTES
  pub characters : AllPass is_pattern_byte last

-- the text is the pattern of this directory and this last part, which make 32 parts at most
pub record IsPattern (directory : List (List ℕ)) (last : List ℕ) (text : List ℕ) : Type 0 where
  pub few : length directory < MOST_PARTS
  pub each : All IsName directory
  pub ending : IsLastPart last
  pub spelled : text ≡ path_text (directory ++ last ∷ [])

-- what is left of a text behind each of its fronts, the empty one first
abbrev pub ends_of : List ℕ → List (List ℕ)
ends_of [] = [] ∷ []
ends_of (c ∷ cs) = (c ∷ cs) ∷ ends_of cs

-- does a character of a pattern that is no star stand for this character of a name
abbrev pub stands_for : ℕ → ℕ → Bool
stands_for p c = p == question_mark || folded_byte p == folded_byte c

-- does the pattern match the name: a star stands for some front of what is left of the name, and each other character for one
unfoldable pub matches : List ℕ → List ℕ → Bool
matches [] [] = true
matches [] (c ∷ cs) = false
matches (p ∷ ps) [] = p == star && matches ps []
matches (p ∷ ps) (c ∷ cs) = if p == star then list_any (matches ps) (ends_of (c ∷ cs)) else stands_for p c && matches ps cs
