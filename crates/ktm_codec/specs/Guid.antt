-- GUIDs in the lower-case hyphenated form of 36 characters.
use Rattle.std.specs.Prelude.{ℕ, List, take, Option, option_map, option_and_then}
use Rattle.ktm_codec.specs.Word.{after_word}
use Rattle.uuid.specs.Text.{hyphenated_text, lower, parsed_hyphenated}

-- the lower-case hyphenated form of a GUID's bytes
abbrev pub guid_spelling : List ℕ → List ℕ
guid_spelling guid = hyphenated_text lower guid

-- the bytes that the 36 characters at the front spell, and what follows them
unfoldable pub guid_at : List ℕ → Option (List ℕ × List ℕ)
guid_at text = option_and_then (λ guid. option_map (λ rest. (guid, rest)) (after_word (guid_spelling guid) text)) (parsed_hyphenated (take 36 text))
