-- Bytes.
use Rattle.std.proofs.Common.{ℕ, ◌<◌, List, [], ◌∷◌, get_or, suc}
use Rattle.ktm_base.specs.Bytes.{AreBytes}

-- a list whose items fit a byte
pub bytes_fit : (bytes : List ℕ) → ((i : ℕ) → get_or bytes i 0 < 256) → AreBytes bytes
bytes_fit [] fit = tt
bytes_fit (b ∷ bs) fit = (fit 0, bytes_fit bs (λ i. fit (suc i)))
