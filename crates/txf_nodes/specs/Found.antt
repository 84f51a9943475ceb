-- Which entries are found, and how they are listed. No public clause cites this module.
use Rattle.std.specs.Prelude.{ℕ, List, [], ◌∷◌, ◌++◌, map, if◌then◌else◌}
use Rattle.ktm_base.specs.Names.{backslash}
use Rattle.txf_nodes.specs.Children.{Shown, matching}

-- the name of an entry as it is listed, a directory's with a backslash behind it
abbrev pub shown_text : Shown → List ℕ
shown_text entry = if entry.is_directory then entry.name ++ backslash ∷ [] else entry.name

-- the texts of the entries that match
abbrev pub found : List Shown → List ℕ → List (List ℕ)
found entries last = map shown_text (matching last entries)
