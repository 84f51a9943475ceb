-- Which calls of an object fail, and how its calls and its faults are counted.
use Rattle.std.specs.Prelude.{ℕ, ◌==◌, Bool, List, Result, Ok, Err}
use Rattle.std.specs.List.{list_any}
use Rattle.ktm_base.specs.Count.{raised}
use Rattle.ktm_base.specs.declared.fault.Failed.{Failed}
use Rattle.ktm_mem.specs.declared.schedule.Schedule.{Schedule}

-- is this call, counted from 1, one of those that fail
abbrev pub is_among : List ℕ → ℕ → Bool
is_among fails call = list_any (λ number. number == call) fails

-- does the next call fail
abbrev pub fails_next : Schedule → Bool
fails_next s = is_among s.fails (raised s.calls)

-- the schedule after a call
abbrev pub after_call : Schedule → Schedule
after_call s = record s { calls = raised s.calls }

-- the count of faults after a call: one more exactly where it failed
abbrev pub faults_after : {T : Type 0} → Result T Failed → ℕ → ℕ
faults_after (Ok value) faults = faults
faults_after (Err failed) faults = raised faults
