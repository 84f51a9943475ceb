-- Names, paths and patterns, read from texts.
use Rattle.std.specs.Prelude.{ℕ, ◌==◌, ◌&&◌, not, Bool, List, [], ◌∷◌, ◌++◌, length, nat_le, Option, Some, None, if◌then◌else◌}
use Rattle.std.specs.List.{list_all}
use Rattle.ktm_base.specs.declared.limits.TheConstants.{MOST_NAME_BYTES, MOST_PARTS}
use Rattle.ktm_base.specs.Names.{backslash, is_name_byte, is_pattern_byte, last_byte}

-- is the text a name: 1 to 255 characters of names, of which the last is neither a space nor a dot
unfoldable pub is_name : List ℕ → Bool
is_name name = nat_le 1 (length name) && nat_le (length name) MOST_NAME_BYTES && list_all is_name_byte name && not (last_byte name == 0x20) && not (last_byte name == 0x2E)

-- is the text the last part of a pattern: 1 to 255 characters of patterns
unfoldable pub is_last_part : List ℕ → Bool
is_last_part last = nat_le 1 (length last) && nat_le (length last) MOST_NAME_BYTES && list_all is_pattern_byte last

-- the parts between backslashes, the first of which begins so
abbrev pub parts_from : List ℕ → List ℕ → List (List ℕ)
parts_from part [] = part ∷ []
parts_from part (c ∷ cs) = if c == backslash then part ∷ parts_from [] cs else parts_from (part ++ c ∷ []) cs

-- the parts behind the backslash at the front; none for the backslash alone
abbrev pub parts_of : List ℕ → Option (List (List ℕ))
parts_of [] = None
parts_of (c ∷ []) = if c == backslash then Some [] else None
parts_of (c ∷ d ∷ cs) = if c == backslash then Some (parts_from [] (d ∷ cs)) else None

-- parts as the names of a path: 32 at most, and each a name
abbrev pub names_in : Option (List (List ℕ)) → Option (List (List ℕ))
names_in None = None
names_in (Some parts) = if nat_le (length parts) MOST_PARTS && list_all is_name parts then Some parts else None

-- the names of a path, if the text is one
unfoldable pub path_of : List ℕ → Option (List (List ℕ))
path_of text = names_in (parts_of text)

-- a pattern: the directory whose entries are looked at, and what their names are matched with
pub record Search : Type 0 where
  pub directory : List (List ℕ)
  pub last : List ℕ

-- a pattern with one more name in front, if the part is a name
abbrev pub with_part : List ℕ → Option Search → Option Search
with_part part None = None
with_part part (Some search_for) = if is_name part then Some (record search_for { directory = part ∷ search_for.directory }) else None

-- parts as a pattern: names, and a last part behind them
abbrev pub search_in : List (List ℕ) → Option Search
search_in [] = None
search_in (last ∷ []) = if is_last_part last then Some (record { directory = []; last = last }) else None
search_in (part ∷ next ∷ parts) = with_part part (search_in (next ∷ parts))

-- parts as a pattern, where there are 32 at most
abbrev pub few_parts : Option (List (List ℕ)) → Option Search
few_parts None = None
few_parts (Some parts) = if nat_le (length parts) MOST_PARTS then search_in parts else None

-- what a text asks for, if it is a pattern
unfoldable pub pattern_of : List ℕ → Option Search
pattern_of text = few_parts (parts_of text)
