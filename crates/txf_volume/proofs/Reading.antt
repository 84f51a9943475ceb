-- Lemmas on the size of bytes that may not be there.
use Rattle.std.proofs.Common.{◌≡◌, ℕ, List, length, Option, Some, None, refl}
use Rattle.std.proofs.lemmas.Option.{same_Some}
use Rattle.std.specs.Option.{option_map}
use Rattle.txf_overlay.specs.Written.{bytes_or}

pub size_there : (first : List ℕ) (o : Option (List ℕ)) (size : ℕ) → Some size ≡ option_map (λ bytes. length bytes) o → size ≡ length (bytes_or first o)
size_there first None size is = absurd (cc)
size_there first (Some bytes) size is = same_Some size (length bytes) is

pub none_there : (first : List ℕ) (o : Option (List ℕ)) → None ≡ option_map (λ bytes. length bytes) o → first ≡ bytes_or first o
none_there first None is = refl
none_there first (Some bytes) is = absurd (cc)
