-- The files that are open for writing, by name. No public clause cites this module.
use Rattle.std.specs.Prelude.{◌≡◌, true, ℕ, List, Some}
use Rattle.ktm_links.specs.declared.list.Key.{Key}
use Rattle.ktm_links.specs.Items.{Item, value_at}
use Rattle.ktm_links.specs.Mapped.{IsNotBelow}
use Rattle.txf_opens.specs.declared.file.OpenFile.{OpenFile as Kept}
use Rattle.txf_opens.specs.Indexed.{is_writer}
use Rattle.txf_opens.specs.Names.{use_name}
use Rattle.txf_opens.specs.Acts.{open_of}

-- it is open for writing, by the first of the names of which this is so
pub record IsFirstWriter (P : List ℕ → Type 0) (items : List (Item Kept)) (file : Kept) : Type 0 where
  pub key : Key
  pub there : value_at items key ≡ Some file
  pub writes : is_writer (open_of file) ≡ true
  pub so : P (use_name (open_of file))
  pub first : (k : Key) (other : Kept) → value_at items k ≡ Some other → is_writer (open_of other) ≡ true → P (use_name (open_of other)) → IsNotBelow (use_name (open_of other)) (use_name (open_of file))

-- no file is open for writing by a name of which this is so
abbrev pub IsNoWriter : (List ℕ → Type 0) → List (Item Kept) → Type 0
IsNoWriter P items = (k : Key) (other : Kept) → value_at items k ≡ Some other → is_writer (open_of other) ≡ true → P (use_name (open_of other)) → ⊥
