-- The places of entries in their directories, and the entries from a place on.
use Rattle.std.specs.Prelude.{ℕ, not, List, [], ◌∷◌, ◌++◌, filter}
use Rattle.std.specs.Ordering.{is_lt}
use Rattle.ktm_base.specs.Names.{folded}
use Rattle.ktm_links.specs.Mapped.{name_cmp}
use Rattle.ktm_base.specs.Order.{digits}
use Rattle.txf_nodes.specs.Children.{Shown}

-- the eight bytes of a number, the greatest first
unfoldable pub number_bytes : ℕ → List ℕ
number_bytes n = digits 7 n []

-- the place of a child: the bytes of its directory's number, and behind them its folded name
abbrev pub child_name : ℕ → List ℕ → List ℕ
child_name directory name = number_bytes directory ++ folded name

-- the first place behind that of a child
abbrev pub after_child : ℕ → List ℕ → List ℕ
after_child directory name = child_name directory name ++ 0 ∷ []

-- the entries of a directory whose places are not below this one
abbrev pub entries_from : ℕ → List ℕ → List Shown → List Shown
entries_from directory from entries = filter (λ entry. not (is_lt (name_cmp (child_name directory entry.name) from))) entries
