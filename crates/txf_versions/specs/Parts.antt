-- What contracts see of the two parts of the versions. No public clause cites this module.
use Rattle.std.specs.Prelude.{◌≡◌, ℕ, ◌≤◌, ◌+◌, ◌-◌, List, [], ◌∷◌, ◌++◌, length, map}
use Rattle.ktm_links.specs.Mapped.{NamedItem}
use Rattle.txf_versions.specs.declared.kept.Older.{Older}
use Rattle.txf_versions.specs.declared.opened.Opened.{Opened}
use Rattle.txf_versions.specs.Names.{version_bytes}
use Rattle.txf_versions.specs.VersionsState.{older_units, AreHeld}

-- the first opens in order, and how many can come without memory
pub record OpensState : Type 0 where
  pub opens : List Opened
  pub spare : ℕ

-- one first open is gone, and the others are left in order
pub record IsTaken (old : List Opened) (it : Opened) (new : List Opened) : Type 0 where
  pub left : List Opened
  pub right : List Opened
  pub was : old ≡ left ++ it ∷ right
  pub is : new ≡ left ++ right

-- the older versions in order, and how many can come without memory
pub record KeptState : Type 0 where
  pub older : List Older
  pub spare : ℕ

-- the version of an entry
abbrev pub older_in : NamedItem Older → Older
older_in e = e.value

-- the versions of the entries
abbrev pub older_of : List (NamedItem Older) → List Older
older_of entries = map older_in entries

-- each version stands under its name
abbrev pub AreNamed : List (NamedItem Older) → Type 0
AreNamed [] = Unit {0}
AreNamed (e ∷ es) = (e.name ≡ version_bytes e.value.file e.value.version []) × AreNamed es

-- each version stands under its name, and they have so many units
pub record AreOlderKept (entries : List (NamedItem Older)) (units : ℕ) : Type 0 where
  pub names : AreNamed entries
  pub sum : units ≡ older_units (older_of entries)

-- each older version is held once, and there is room for those that can come, also after so many more first opens
pub record AreReady (opens : List Opened) (older : List Older) (spare free : ℕ) : Type 0 where
  pub once : AreHeld opens older
  pub room : free + (length opens - length older) ≤ spare
