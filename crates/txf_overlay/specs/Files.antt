-- The files that are written, and how a map of them stands for them. No public clause cites this module.
use Rattle.std.specs.Prelude.{◌≡◌, ℕ, ◌<◌, ◌^◌, All, List, [], ◌∷◌, map}
use Rattle.ktm_links.specs.Mapped.{NamedItem}
use Rattle.txf_tree.specs.Places.{number_bytes}
use Rattle.txf_overlay.specs.OverlayState.{Written}
use Rattle.txf_overlay.specs.Pages.{LieOnPages}
use Rattle.txf_overlay.specs.Written.{AreFilesRising, total_units}

-- the file of an entry
abbrev pub file_in : NamedItem Written → Written
file_in e = e.value

-- the files alone
abbrev pub files_in : List (NamedItem Written) → List Written
files_in entries = map file_in entries

-- each stands under its number
abbrev pub AreFiles : List (NamedItem Written) → Type 0
AreFiles [] = Unit {0}
AreFiles (e ∷ es) = (e.name ≡ number_bytes e.value.file) × (e.value.file < 2 ^ 64) × AreFiles es

-- each file stands under its number, and the numbers rise
pub record IsFilesMap (entries : List (NamedItem Written)) : Type 0 where
  pub are : AreFiles entries
  pub rise : AreFilesRising (files_in entries)

-- the map, how many units all files take, and that their bytes lie on pages
pub record AreCounted (entries : List (NamedItem Written)) (units : ℕ) : Type 0 where
  pub map : IsFilesMap entries
  pub sum : units ≡ total_units (files_in entries)
  pub pages : All (λ w. LieOnPages w.bytes) (files_in entries)

-- the files by rising number, and how many can come without memory
pub record FilesState : Type 0 where
  pub written : List Written
  pub spare : ℕ
