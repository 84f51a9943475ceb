-- The proof of a disk's law of lengths.
use Rattle.std.specs.Prelude.{ℕ, List, Option, None, Some, refl, IfSome}
use Rattle.ktm_base.specs.Disk.{HasLengths}
use Rattle.ktm_disk.specs.Told.{IsLengthKnown, told_of}

-- where the length is known, what is told has the lengths that a disk must have
pub known_lengths : (dirty : List (ℕ × ℕ)) (grown_from : Option ℕ) (asked : ℕ) (contents : Option (List ℕ)) → IsLengthKnown grown_from asked contents → IfSome (told_of dirty grown_from asked contents) HasLengths
known_lengths dirty grown_from asked None known = tt
known_lengths dirty grown_from asked (Some seen) known = record { no_shorter = (known seen refl).0; no_longer = (known seen refl).1 }
