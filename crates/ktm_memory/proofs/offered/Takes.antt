-- Which calls may take memory: from a call to what is made of it.
use Rattle.std.proofs.Common.{◌≡◌, ◌||◌, not, Bool, true, false, [], ◌∷◌, Option, is_none, refl, sym, ◌∙◌, ap}
use Rattle.ktm_base.specs.declared.id.Id.{Id}
use Rattle.ktm_base.specs.declared.refusal.Refusal.{Refusal}
use Rattle.ktm_world.specs.FileOutcome.{FileOutcome}
use Rattle.ktm_world.specs.Outcome.{first_refusal}
use Rattle.ktm_world.specs.Present.{Present}
use Rattle.ktm_world.specs.Uses.{file_room}
use Rattle.txf_calls.specs.Calls.{file_outcome, takes_memory as decision_takes_memory}
use Rattle.txf_calls.specs.declared.call.FileCall.{FileCall}
use Rattle.ktm_memory.specs.Takes.{files_take_memory, is_quiet}

-- ---- calls that are not refused

-- one test that does not hold refuses nothing
pub not_refused : (b : Bool) (refusal : Refusal) → b ≡ false → is_none (first_refusal ((b, refusal) ∷ [])) ≡ false → ⊥
not_refused true refusal passes none = absurd (cc)
not_refused false refusal passes none = absurd (cc)

-- ---- from a call on files to what is made of it

-- a call that has memory enough does not give up
pub gave_up : {A : Type 0} → false ≡ true → A
gave_up wrong = absurd (cc)

neither : (a b : Bool) → (a || b) ≡ false → (a ≡ false) × (b ≡ false)
neither true b none = absurd (cc)
neither false b none = (refl, none)

pub from_not : (b : Bool) → not b ≡ false → b ≡ true
from_not true is = refl
from_not false is = absurd (cc)

module _ (x : Present) (who : Option Id) (call : FileCall) (none : files_take_memory x who call ≡ false) where
  both_none : (decision_takes_memory call ≡ false) × (not (is_quiet (file_outcome x.files (file_room x) who call)) ≡ false)
  both_none = neither (decision_takes_memory call) (not (is_quiet (file_outcome x.files (file_room x) who call))) none

  pub quick_decision : decision_takes_memory call ≡ false
  quick_decision = both_none.0

  -- a call that takes none to be made only answers
  pub only_answers : (o : FileOutcome) → o ≡ file_outcome x.files (file_room x) who call → is_quiet o ≡ false → ⊥
  only_answers o planned changes = let answers = sym (ap (λ quiet. not quiet) changes) ∙ ap (λ (p : FileOutcome). not (is_quiet p)) planned ∙ both_none.1 in absurd (cc)
