-- For how many lines the machine's count of events lasts.
use Rattle.std.specs.Prelude.{ℕ, ◌+◌, ◌*◌, ◌^◌, ◌<◌, ◌≤◌}
use Rattle.ktm_kernel.specs.Stands.{KernelState}
use Rattle.ktm_records.specs.Spelling.{most_at_once}

-- it does not end in so many lines, with restarts among them that begin from states that are not worn
pub record LastsForLines (lines : ℕ) (kernel : KernelState) : Type 0 where
  pub now : kernel.now.recorded.events + most_at_once * lines < 2 ^ 63
  pub restarted : 2 ^ 62 + most_at_once * (lines + 1) ≤ 2 ^ 63

-- once so many lines were executed, it lasts for as many fewer
abbrev pub LastsAfter : ℕ → KernelState → KernelState → Type 0
LastsAfter lines old new = (left : ℕ) → LastsForLines (lines + left) old → LastsForLines left new
