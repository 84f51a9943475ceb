-- Puts of whole units, and how they are recorded.
use Rattle.std.specs.Prelude.{◌≡◌, ℕ, ◌+◌, ◌*◌, ◌/◌, ◌^◌, ◌<◌, ◌≤◌, List, [], length, Option, Some, None, IfSome}
use Rattle.ktm_base.specs.declared.limits.TheConstants.{UNIT_BYTES}
use Rattle.ktm_base.specs.declared.id.Id.{Id}
use Rattle.ktm_content.specs.Places.{CanBePut}
use Rattle.ktm_paged.specs.Meaning.{end_touched, first_unit, size_before}
use Rattle.ktm_world.specs.declared.change.Change.{Change}
use Rattle.ktm_world.specs.declared.change.Contents.TheVariants.{Paged, Whole}
use Rattle.ktm_world.specs.Files.{FilesNow, bytes_seen}
use Rattle.ktm_world.specs.Tree.{Tree}
use Rattle.txf_calls.specs.declared.call.FileCall.{FileCall}
use Rattle.txf_calls.specs.declared.call.FileCall.TheVariants.{SetEnd, Write, WriteUnits}
use Rattle.ktm_memory.specs.declared.extent.Extent.{Extent}
use Rattle.ktm_memory.specs.declared.extent.Extent.TheVariants.{Put, End}

-- these are the units that are touched where so many bytes are put at an offset into a file of so many bytes
pub record SuitsPut (size start : ℕ) (contents : List ℕ) (offset len : ℕ) : Type 0 where
  pub first : first_unit size offset * UNIT_BYTES ≡ start
  pub last : start + length contents ≡ end_touched size (offset + len)
  pub some : 1 ≤ len
  pub fits : offset + len < 2 ^ 64

-- these are the units that are touched where a file of so many bytes becomes longer, up to their end
pub record SuitsEnd (size start : ℕ) (contents : List ℕ) : Type 0 where
  pub first : size / UNIT_BYTES * UNIT_BYTES ≡ start
  pub longer : size < start + length contents
  pub fits : start + length contents < 2 ^ 64

-- units that are put into a file of so many bytes are what is recorded by the extent
abbrev pub SuitsExtent : ℕ → ℕ → List ℕ → Extent → Type 0
SuitsExtent size start contents (Put offset len) = SuitsPut size start contents offset len
SuitsExtent size start contents End = SuitsEnd size start contents

-- how a put of units is recorded, which lie on these pages
abbrev pub recorded_as : ℕ → ℕ → List ℕ → List ℕ → Extent → Change
recorded_as node start contents pages (Put offset len) = Change.Put node offset (Paged len pages)
recorded_as node start contents pages End = Change.Cut node (start + length contents) pages

-- a change of a file of so many bytes can be recorded: by the extent of the units that it puts, and else as it is, where it puts nothing and makes the file no longer
abbrev pub CanBeRecorded : ℕ → Change → Option Extent → Type 0
CanBeRecorded size (Change.Put node start (Whole contents)) (Some extent) = SuitsExtent size start contents extent
CanBeRecorded size (Change.Put node start contents) _ = ⊥
CanBeRecorded size (Change.Cut node end pages) None = (end ≤ size) × (pages ≡ [])
CanBeRecorded size change None = Unit {0}
CanBeRecorded size change (Some extent) = ⊥

-- so can a change, if there is one, where these are the committed files
abbrev pub CanBeRecordedIf : Tree → Option Change → Option Extent → Type 0
CanBeRecordedIf tree change extent = IfSome change (λ c. CanBeRecorded (size_before tree c) c extent)

-- the call puts no bytes, and makes no file longer
abbrev pub NeedsNoPages : FilesNow → Option Id → FileCall → Type 0
NeedsNoPages files who (Write file offset bytes) = bytes ≡ []
NeedsNoPages files who (WriteUnits file start contents) = contents ≡ []
NeedsNoPages files who (SetEnd file size) = size ≤ length (bytes_seen files who file.node)
NeedsNoPages files who _ = Unit {0}

-- the units can be put over what is seen, and are what is recorded by the extent
pub record AreUnits (seen : List ℕ) (start : ℕ) (contents : List ℕ) (extent : Extent) : Type 0 where
  pub can : CanBePut seen start contents
  pub suits : SuitsExtent (length seen) start contents extent

-- how a call is recorded: by an extent where it puts units, and else it needs no pages
abbrev pub SuitsCall : FilesNow → Option Id → FileCall → Option Extent → Type 0
SuitsCall files who call None = NeedsNoPages files who call
SuitsCall files who (WriteUnits file start contents) (Some extent) = AreUnits (bytes_seen files who file.node) start contents extent
SuitsCall files who call (Some extent) = ⊥
