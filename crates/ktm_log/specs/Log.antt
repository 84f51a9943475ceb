-- A log area: frames with open gates, and behind them a closed gate.
use Rattle.std.specs.Prelude.{◌≡◌, ◌≢◌, ◌⊎◌, ℕ, zero, suc, ◌+◌, ◌<◌, ◌≤◌, ◌==◌, ◌&&◌, nat_le, if◌then◌else◌, Option, None, Some, List, [], ◌∷◌, ◌++◌, length, take, drop, slice_index}
use Rattle.std.specs.Int.{from_le_bytes, w32}
use Rattle.ktm_base.specs.Bytes.{SameOutside}
use Rattle.ktm_base.specs.Disk.{DiskState, MayLeave, IsSafe}
use Rattle.ktm_log.specs.declared.area.Area.{Area}

-- the payload length behind a gate, its least byte first; a byte that is missing counts as 0
abbrev pub size_at : List ℕ → ℕ
size_at bytes = from_le_bytes w32 (take 4 (drop 1 bytes))

-- an open gate, the length, the payload, and at least one more byte
pub record IsFrame (payload bytes : List ℕ) : Type 0 where
  pub open_gate : slice_index bytes 0 ≡ 1
  pub size : size_at bytes ≡ length payload
  pub fits : length payload + 6 ≤ length bytes
  pub payload_is : take (length payload) (drop 5 bytes) ≡ payload

-- the bytes begin with these frames
abbrev pub BeginsWith : List (List ℕ) → List ℕ → Type 0
BeginsWith [] bytes = Unit {0}
BeginsWith (p ∷ ps) bytes = IsFrame p bytes × BeginsWith ps (drop (length p + 5) bytes)

-- how many bytes the frames take
abbrev pub end_of : List (List ℕ) → ℕ
end_of [] = 0
end_of (p ∷ ps) = length p + 5 + end_of ps

-- the payload of the frame that the bytes begin with, if they begin with one
abbrev pub first_payload : List ℕ → Option (List ℕ)
first_payload bytes =
    if (slice_index bytes 0 == 1) && nat_le (size_at bytes + 6) (length bytes) then Some (take (size_at bytes) (drop 5 bytes)) else None

-- a payload, if there is one, and what follows it
abbrev pub followed : Option (List ℕ) → (List ℕ → List (List ℕ)) → List (List ℕ)
followed None rest = []
followed (Some payload) rest = payload ∷ rest payload

-- the payloads of the frames that the bytes begin with, up to so many
abbrev pub payloads_up_to : ℕ → List ℕ → List (List ℕ)
payloads_up_to zero bytes = []
payloads_up_to (suc most) bytes = followed (first_payload bytes) (λ payload. payloads_up_to most (drop (length payload + 5) bytes))

-- the payloads of the frames that the bytes begin with; there are no more of them than bytes
unfoldable pub payloads_in : List ℕ → List (List ℕ)
payloads_in bytes = payloads_up_to (length bytes) bytes

-- there is a gate, and it is not open
pub record IsClosed (bytes : List ℕ) : Type 0 where
  pub there : 0 < length bytes
  pub closed : slice_index bytes 0 ≢ 1

-- the gate is open, and its frame and one more byte do not lie in the bytes
pub record IsTorn (bytes : List ℕ) : Type 0 where
  pub open_gate : slice_index bytes 0 ≡ 1
  pub short : length bytes < size_at bytes + 6

-- frames with these payloads, and then a closed gate
pub record IsLog (payloads : List (List ℕ)) (bytes : List ℕ) : Type 0 where
  pub frames : BeginsWith payloads bytes
  pub gate : IsClosed (drop (end_of payloads) bytes)

-- frames with these payloads, and then an open gate whose frame is cut short
pub record IsBadLog (payloads : List (List ℕ)) (bytes : List ℕ) : Type 0 where
  pub frames : BeginsWith payloads bytes
  pub gate : IsTorn (drop (end_of payloads) bytes)

-- the bytes of the area
abbrev pub area_bytes : Area → List ℕ → List ℕ
area_bytes area image = take area.len (drop area.at image)

-- the length is as it was, and so are the bytes outside of the area
abbrev pub SameElsewhere : Area → List ℕ → List ℕ → Type 0
SameElsewhere area old new = SameOutside ((area.at, area.len) ∷ []) old new

-- all of it is safe, and the area's closed gate is at this offset of the area
pub record Rests (area : Area) (payloads : List (List ℕ)) (end : ℕ) (s : DiskState) : Type 0 where
  pub safe : IsSafe s
  pub within : area.at + area.len ≤ length s.seen
  pub log : IsLog payloads (area_bytes area s.seen)
  pub gate_at : end ≡ end_of payloads

-- each image that a loss of power may leave holds the payloads, with this one more or without, and elsewhere the same
abbrev pub LeavesEither : Area → List (List ℕ) → List ℕ → List ℕ → DiskState → Type 0
LeavesEither area payloads payload before s =
    (image : List ℕ) → MayLeave s image → (IsLog payloads (area_bytes area image) ⊎ IsLog (payloads ++ payload ∷ []) (area_bytes area image)) × SameElsewhere area before image

-- what is known of a log: where it is, and where in it the closed gate is
pub record LogState : Type 0 where
  pub area : Area
  pub end : ℕ
