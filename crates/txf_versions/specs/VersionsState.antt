-- What a contract sees of the versions.
use Rattle.std.specs.Prelude.{◌≡◌, ℕ, ◌==◌, ◌&&◌, ◌||◌, not, Bool, true, false, List, [], ◌∷◌, nat_lt, filter, map, sum_by, if◌then◌else◌}
use Rattle.std.specs.List.{list_any}
use Rattle.ktm_base.specs.declared.id.Id.{Id}
use Rattle.ktm_world.specs.Transactions.{same_id}
use Rattle.ktm_world.specs.Tree.{units_of}
use Rattle.txf_versions.specs.declared.kept.Older.{Older}
use Rattle.txf_versions.specs.declared.opened.Opened.{Opened}

-- the first opens in order, the bytes of older versions by rising file and version, and how many first opens can come without memory
pub record VersionsState : Type 0 where
  pub opens : List Opened
  pub older : List Older
  pub spare : ℕ

-- is it a first open of the transaction
abbrev pub is_own : Id → Opened → Bool
is_own transaction o = same_id o.transaction transaction

-- is it the transaction's first open of the file
abbrev pub is_open_of : Id → ℕ → Opened → Bool
is_open_of transaction file o = same_id o.transaction transaction && o.file == file

-- did it fix this version of the file
abbrev pub fixes : ℕ → ℕ → Opened → Bool
fixes file version o = o.file == file && o.version == version

-- did a first open fix this version of the file
abbrev pub is_pinned : List Opened → ℕ → ℕ → Bool
is_pinned opens file version = list_any (fixes file version) opens

-- are these the bytes of this version of the file
abbrev pub is_version : ℕ → ℕ → Older → Bool
is_version file version v = v.file == file && v.version == version

-- did a first open fix the version whose bytes these are
abbrev pub is_held : List Opened → Older → Bool
is_held opens v = is_pinned opens v.file v.version

-- the first opens but those of the transaction
abbrev pub without_transaction : List Opened → Id → List Opened
without_transaction opens transaction = filter (λ o. not (is_own transaction o)) opens

-- does the first version come before the second, by file and then by version
abbrev pub comes_before : Older → Older → Bool
comes_before v w = nat_lt v.file w.file || (v.file == w.file && nat_lt v.version w.version)

-- the older versions with one more, in its place
abbrev pub with_older : List Older → Older → List Older
with_older [] v = v ∷ []
with_older (w ∷ ws) v = if comes_before w v then w ∷ with_older ws v else v ∷ w ∷ ws

-- the units of an older version
abbrev pub version_units : Older → ℕ
version_units v = units_of v.bytes

-- the units of all older versions
abbrev pub older_units : List Older → ℕ
older_units older = sum_by version_units older

-- the bytes of all older versions
abbrev pub older_contents : List Older → List (List ℕ)
older_contents older = map (λ v. v.bytes) older

-- a first open fixed each of these versions
abbrev pub AreAllHeld : List Opened → List Older → Type 0
AreAllHeld opens [] = Unit {0}
AreAllHeld opens (v ∷ vs) = (is_held opens v ≡ true) × AreAllHeld opens vs

-- no version is there twice
abbrev pub AreApart : List Older → Type 0
AreApart [] = Unit {0}
AreApart (v ∷ vs) = (list_any (is_version v.file v.version) vs ≡ false) × AreApart vs

-- a first open fixed each older version, and none is there twice
pub record AreHeld (opens : List Opened) (older : List Older) : Type 0 where
  pub held : AreAllHeld opens older
  pub apart : AreApart older
