-- A call that was answered found the power on.
use Rattle.std.proofs.Common.{◌≡◌, Bool, true, false, ◌||◌, IsTrue}

pub not_off : (off due : Bool) → false ≡ off || due → IsTrue off → ⊥
not_off true due answered is_off = cc
not_off false due answered is_off = cc
