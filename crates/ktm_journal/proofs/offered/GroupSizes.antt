-- How many bytes of the log groups take.
use Rattle.std.proofs.Common.{◌≡◌, ℕ, List, [], ◌∷◌, arith}
use Rattle.std.proofs.lemmas.List.Sums.{sum_by-cons}
use Rattle.ktm_log.specs.Log.{end_of}
use Rattle.ktm_world.specs.Groups.{Group}
use Rattle.ktm_world.specs.Sizes.{frame_size, log_size}
use Rattle.ktm_event.proofs.GroupSizes.{length-group}
use Rattle.ktm_journal.specs.Image.{HoldGroups}

-- the frames of groups are as long as is counted for them
pub groups_size : (log : List Group) (payloads : List (List ℕ)) → HoldGroups log payloads → end_of payloads ≡ log_size log
groups_size [] [] hold = omega arith
groups_size [] (p ∷ ps) hold = absurd hold
groups_size (group ∷ log) [] hold = absurd hold
groups_size (group ∷ log) (p ∷ ps) hold = omega (arith, length-group group p hold.0, groups_size log ps hold.1, sum_by-cons frame_size group log)
