-- A row that stands on a disk has the bytes of its pages.
use Rattle.std.specs.Prelude.{◌≡◌, ℕ, ◌-◌, ◌*◌, ◌≤◌, List, length, drop, slice_range, Option, None, Some, IfSome}
use Rattle.std.proofs.Common.{arith, length-take, length-drop}
use Rattle.ktm_base.specs.declared.limits.TheConstants.{UNIT_BYTES}
use Rattle.ktm_base.specs.Disk.{DiskState}
use Rattle.ktm_row.specs.Places.{Stands, end_of, row_told}

pub row_long : (begin pages : ℕ) (seen : List ℕ) → end_of begin pages ≤ length seen → length (slice_range seen begin (end_of begin pages)) ≡ pages * UNIT_BYTES
row_long begin pages seen fits = omega (arith, fits, length-take (end_of begin pages - begin) (drop begin seen), length-drop begin seen)

pub row_lengths : (begin pages : ℕ) (told : Option DiskState) → IfSome told (Stands begin pages) → IfSome (row_told begin pages told) (λ r. length r.seen ≡ pages * UNIT_BYTES)
row_lengths begin pages None stands = tt
row_lengths begin pages (Some s) stands = row_long begin pages s.seen stands.fits
