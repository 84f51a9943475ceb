-- Bytes that are written and then made safe.
use Rattle.std.specs.Prelude.{◌≡◌, ℕ, ◌^◌, ◌<◌, List, [], ◌∷◌, ◌++◌, length}
use Rattle.std.specs.Int.{to_le_bytes, w32}
use Rattle.ktm_base.specs.Bytes.{written, SameOutside}
use Rattle.ktm_base.specs.Disk.{DiskState, MayLeave, IsSafe}

-- written and safe
pub record Settled (at : ℕ) (bytes : List ℕ) (old new : DiskState) : Type 0 where
  pub seen : new.seen ≡ written old.seen at bytes
  pub safe : IsSafe new

-- a write to a safe disk that was cut short: only its range may hold anything
pub record Tore (at len : ℕ) (old new : DiskState) : Type 0 where
  pub leaves : IsSafe old → (image : List ℕ) → MayLeave new image → SameOutside ((at, len) ∷ []) old.seen image

-- what stands behind the gate of a frame that is the last: the length, the payload, and a closed gate
abbrev pub behind_gate : List ℕ → List ℕ
behind_gate payload = to_le_bytes w32 (length payload) ++ (payload ++ 0 ∷ [])

-- the bytes are what stands behind the gate of a frame with this payload, whose length has four bytes
pub record IsBodyOf (payload body : List ℕ) : Type 0 where
  pub small : length payload < 2 ^ 32
  pub is : body ≡ behind_gate payload
