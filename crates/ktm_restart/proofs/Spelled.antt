-- What was read as bytes spells the groups that it holds.
use Rattle.std.proofs.Common.{ℕ, zero, suc, ◌+◌, ◌-◌, Bool, true, false, if◌then◌else◌, length, take, drop, None, Some, List, [], ◌∷◌}
use Rattle.std.specs.List.{AllByRecursion, slice_range}
use Rattle.ktm_base.specs.Bytes.{AreBytes}
use Rattle.ktm_log.specs.Log.{followed, payloads_in, payloads_up_to, size_at}
use Rattle.ktm_world.specs.Logs.{Group}
use Rattle.ktm_journal.specs.Image.{HoldGroups}
use Rattle.ktm_restart.specs.Logs.{AreSpelled}

bytes_taken : (n : ℕ) (bytes : List ℕ) → AreBytes bytes → AreBytes (take n bytes)
bytes_taken zero bytes all = tt
bytes_taken (suc n) [] all = tt
bytes_taken (suc n) (b ∷ bytes) all = (all.0, bytes_taken n bytes all.1)

bytes_left : (n : ℕ) (bytes : List ℕ) → AreBytes bytes → AreBytes (drop n bytes)
bytes_left zero bytes all = all
bytes_left (suc n) [] all = tt
bytes_left (suc n) (b ∷ bytes) all = bytes_left n bytes all.1

pub slice_bytes : (bytes : List ℕ) (at end : ℕ) → AreBytes bytes → AreBytes (slice_range bytes at end)
slice_bytes bytes at end all = bytes_taken (end - at) (drop at bytes) (bytes_left at bytes all)

-- a payload that is there if the test holds, and those that follow it
followed_bytes : (is : Bool) (payload : List ℕ) (rest : List ℕ → List (List ℕ)) → AreBytes payload → ((p : List ℕ) → AllByRecursion AreBytes (rest p))
    → AllByRecursion AreBytes (followed (if is then Some payload else None) rest)
followed_bytes true payload rest all more = (all, more payload)
followed_bytes false payload rest all more = tt

bytes_up_to : (most : ℕ) (bytes : List ℕ) → AreBytes bytes → AllByRecursion AreBytes (payloads_up_to most bytes)
bytes_up_to zero bytes all = tt
bytes_up_to (suc most) bytes all =
    followed_bytes _ (take (size_at bytes) (drop 5 bytes)) _ (bytes_taken (size_at bytes) (drop 5 bytes) (bytes_left 5 bytes all))
    (λ p. bytes_up_to most (drop (length p + 5) bytes) (bytes_left (length p + 5) bytes all))

-- the payloads in bytes are bytes
pub payload_bytes : (bytes : List ℕ) → AreBytes bytes → AllByRecursion AreBytes (payloads_in bytes)
unfolding payloads_in
payload_bytes bytes all = bytes_up_to (length bytes) bytes all

pub groups_spelled : (log : List Group) (payloads : List (List ℕ)) → HoldGroups log payloads → AllByRecursion AreBytes payloads → AreSpelled log
groups_spelled [] payloads hold all = tt
groups_spelled (group ∷ log) [] hold all = absurd hold
groups_spelled (group ∷ log) (p ∷ ps) hold all = ((p, all.0, hold.0), groups_spelled log ps hold.1 all.1)
