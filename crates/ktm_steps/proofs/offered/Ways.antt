-- How a transaction goes on that is not decided: what holds of each list where it is chosen holds of each row.
use Rattle.std.specs.Prelude.{if◌then◌else◌}
use Rattle.std.proofs.Common.{◌≡◌, ℕ, zero, suc, ◌==◌, Bool, true, false, List, [], ◌∷◌, refl}
use Rattle.ktm_base.specs.declared.notify.Notify.{Notify}
use Rattle.ktm_world.specs.declared.input.PhaseInput.{PhaseInput}
use Rattle.ktm_world.specs.declared.input.Seen.{Seen}
use Rattle.ktm_world.specs.declared.object.Phase.{Phase}
use Rattle.ktm_world.specs.declared.object.Phase.TheVariants.{PrePreparing, Preparing, SinglePhase}
use Rattle.ktm_world.specs.declared.object.TransactionOutcome.TheVariants.{Committed}
use Rattle.ktm_world.specs.declared.step.Fact.{Fact}
use Rattle.ktm_world.specs.declared.step.Owed.{Owed}
use Rattle.ktm_world.specs.declared.step.Step.{Step}
use Rattle.ktm_world.specs.declared.step.Step.TheVariants.{Record, Tell, Ask, Enter, End}
use Rattle.ktm_world.specs.declared.step.Who.{Who}
use Rattle.ktm_world.specs.Phases.{Course}
use Rattle.ktm_world.specs.Rows.{all_readies, commits_one, participants, pre_prepares, prepares, prepares_all, prepares_alone, proceeds, requests}
use Rattle.ktm_world.specs.Steps.{led, run, seen}

-- what is so of each list, where it is chosen by what is seen
pub record Ways (P : List Step → Type 0) (s : Seen) : Type 0 where
  -- its superior is told
  pub requested : s.has_superior ≡ true → P (Tell Who.Superior Notify.CommitRequest ∷ Enter Phase.Requested ∷ [])
  pub pre_prepared : s.has_superior ≡ true → P (Tell Who.Superior Notify.PrePrepareComplete ∷ Enter Phase.PrePrepared ∷ [])
  -- enlistments are asked
  pub pre_preparing : (s.asking == 0) ≡ false → P (Ask Who.Asking Notify.PrePrepare Owed.PrePrepare ∷ Enter PrePreparing ∷ [])
  pub preparing : (s.enlistments == 0) ≡ false → P (Ask Who.Parts Notify.Prepare Owed.Prepare ∷ Enter Preparing ∷ [])
  pub one_phase : s.has_superior ≡ false → participants s ≡ 1 → s.has_files ≡ false → s.has_keys ≡ false → (s.in_one_phase == 0) ≡ false → P (Ask Who.Parts Notify.SinglePhaseCommit Owed.Commit ∷ Enter SinglePhase ∷ [])
  -- the files or the keys commit alone
  pub files : participants s ≡ 1 → s.has_files ≡ true → P (Record Fact.SingleFiles ∷ Step.Commit ∷ End Committed ∷ [])
  pub keys : participants s ≡ 1 → s.has_files ≡ false → s.has_keys ≡ true → P (Record Fact.SingleKeys ∷ Step.Commit ∷ End Committed ∷ [])
  -- nobody takes part
  pub nobody : participants s ≡ 0 → P (End Committed ∷ [])
  -- no enlistment takes part
  pub ready : (s.enlistments == 0) ≡ true → P (all_readies s)

-- one of two is so, each where it is chosen
pub if_cases : {X : Type 0} (P : X → Type 0) (b : Bool) (x y : X) → (b ≡ true → P x) → (b ≡ false → P y) → P (if b then x else y)
if_cases P true x y on off = on refl
if_cases P false x y on off = off refl

module _ (P : List Step → Type 0) (s : Seen) (ways : Ways P s) where
  all-by : P (prepares_all s)
  all-by = if_cases P (s.enlistments == 0) _ _ ways.ready ways.preparing

  one-by : s.has_superior ≡ false → participants s ≡ 1 → P (commits_one s)
  one-by alone one =
      if_cases P s.has_files _ _ (ways.files one)
      (λ no_files. if_cases P s.has_keys _ _ (ways.keys one no_files) (λ no_keys. if_cases P (s.in_one_phase == 0) _ _ (λ none. all-by) (ways.one_phase alone one no_files no_keys)))

  alone-by : (n : ℕ) → s.has_superior ≡ false → participants s ≡ n → P (prepares_alone s n)
  alone-by zero alone none = ways.nobody none
  alone-by (suc zero) alone one = one-by alone one
  alone-by (suc (suc more)) alone several = all-by

  pub prepares-by : P (prepares s)
  prepares-by = if_cases P s.has_superior _ _ (λ above. all-by) (λ alone. alone-by _ alone refl)

  pub proceeds-by : P (proceeds s)
  proceeds-by = if_cases P s.has_superior _ _ ways.pre_prepared (λ alone. prepares-by)

  pub pre_prepares-by : P (pre_prepares s)
  pre_prepares-by = if_cases P (s.asking == 0) _ _ (λ none. proceeds-by) ways.pre_preparing

  pub requests-by : P (requests s)
  requests-by = if_cases P s.has_superior _ _ ways.requested (λ alone. pre_prepares-by)

-- where the row of what begins leads to
module _ (P : Course → Type 0) (c : Course) (ways : Ways (λ steps. P (run steps c)) (seen c)) where
  pub commit-by : P (led PhaseInput.CommitTransaction c)
  unfolding led
  commit-by = requests-by (λ steps. P (run steps c)) (seen c) ways

  pub pre_prepare-by : P (led PhaseInput.PrePrepare c)
  unfolding led
  pre_prepare-by = pre_prepares-by (λ steps. P (run steps c)) (seen c) ways

  pub prepare-by : P (led PhaseInput.Prepare c)
  unfolding led
  prepare-by = prepares-by (λ steps. P (run steps c)) (seen c) ways

  pub proceed-by : P (run (proceeds (seen c)) c)
  proceed-by = proceeds-by (λ steps. P (run steps c)) (seen c) ways
