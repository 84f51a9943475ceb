-- How the failures of the system are counted.
use Rattle.std.specs.Prelude.{◌≡◌, ℕ, Result, Ok, Err}
use Rattle.ktm_base.specs.declared.fault.Failed.{Failed}
use Rattle.ktm_base.specs.Count.{raised}

-- what the system answered, without the reason why it failed
abbrev pub answer_of : {T E : Type 0} → Result T E → Result T Failed
answer_of (Ok value) = Ok value
answer_of (Err error) = Err (record {})

-- the count of faults after a call: one more exactly where it failed
abbrev pub counted : {T : Type 0} → Result T Failed → ℕ → ℕ
counted (Ok value) faults = faults
counted (Err failed) faults = raised faults

-- one failure more
abbrev pub IsOneMore : ℕ → ℕ → Type 0
IsOneMore before now = now ≡ raised before
