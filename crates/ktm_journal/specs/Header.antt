-- What the header of an image says.
use Rattle.std.specs.Prelude.{ℕ, ◌≤◌, List, Option, None, Some}
use Rattle.ktm_base.specs.declared.limits.TheConstants.{LEAST_UNITS, MOST_UNITS}
use Rattle.ktm_journal.specs.declared.header.Header.{Header}
use Rattle.ktm_journal.specs.Image.{IsHeaded, image_len}
use Rattle.ktm_journal.specs.Format.{IsHeader}
use Rattle.ktm_journal.specs.Bad.{HasNoHeader}

-- the header is that of an image, in bytes of this length
pub record IsFront (units image len : ℕ) (header : List ℕ) : Type 0 where
  pub least : LEAST_UNITS ≤ units
  pub most : units ≤ MOST_UNITS
  pub long : image_len units ≤ len
  pub header_is : IsHeader units image header

-- the header that the bytes begin with, if they do
abbrev pub BeginsAnImage : Option Header → List ℕ → Type 0
BeginsAnImage None bytes = HasNoHeader bytes
BeginsAnImage (Some header) bytes = IsHeaded header.units header.image header.selector bytes
