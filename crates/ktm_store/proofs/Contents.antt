-- The bytes of contents in a row of pages.
use Rattle.std.proofs.Common.{◌≡◌, ℕ, ◌<◌, List, length, get_or}
use Rattle.std.proofs.lemmas.List.{get_or-map, length-map}
use Rattle.ktm_content.specs.Places.{byte_at}
use Rattle.ktm_store.specs.Store.{bytes_at}

pub get_or-bytes_at : (seen places : List ℕ) (k : ℕ) → k < length places → get_or (bytes_at seen places) k 0 ≡ byte_at seen (get_or places k 0)
get_or-bytes_at seen places k low = get_or-map (byte_at seen) places k 0 0 low

pub length-bytes_at : (seen places : List ℕ) → length (bytes_at seen places) ≡ length places
length-bytes_at seen places = length-map places (byte_at seen)
