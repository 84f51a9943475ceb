-- What is proved of the phase table: what its rows for answers come to once the answer counts, and that what steps record is known ahead.
use Rattle.std.specs.Prelude.{◌≡◌, ◌&&◌, Bool, true, false, List, [], ◌∷◌, ◌++◌, Some, is_some, if◌then◌else◌}
use Rattle.std.specs.List.{AllByRecursion, list_any}
use Rattle.ktm_world.specs.declared.input.PhaseInput.{PhaseInput}
use Rattle.ktm_world.specs.declared.step.Answered.{Answered}
use Rattle.ktm_world.specs.declared.step.Fact.{Fact}
use Rattle.ktm_world.specs.declared.step.Step.{Step}
use Rattle.ktm_world.specs.declared.step.Who.{Who}
use Rattle.ktm_world.specs.Enlistments.{Enlistment, has_id, takes_part}
use Rattle.ktm_world.specs.Phases.{Course}
use Rattle.ktm_world.specs.Rows.{all_readies, proceeds, proceeds_without}
use Rattle.ktm_world.specs.Steps.{basis, events_ahead, is_meant, led, run, seen, share_of}

-- the enlistment takes part, and is the only one with its Id
pub record IsPart (c : Course) (e : Enlistment) : Type 0 where
  pub before : List Enlistment
  pub after : List Enlistment
  pub is : c.enlistments ≡ before ++ (e ∷ after)
  pub none_before : list_any (has_id e.id) before ≡ false
  pub none_after : list_any (has_id e.id) after ≡ false
  pub part : takes_part c.transaction.id e ≡ true

-- the course where this enlistment makes the call
abbrev pub by : Course → Enlistment → Course
by c e = record c { caller = Some e }

-- does some enlistment that takes part owe an answer
abbrev pub someone_owes : Course → Bool
someone_owes c = list_any (λ e. takes_part c.transaction.id e && is_some e.owes) c.enlistments

-- it goes on by these steps where nobody owes an answer
abbrev pub when_none_owes : Course → List Step → Course
when_none_owes c steps = if someone_owes c then c else run steps c

-- the superior is told of a rollback as if no enlistment had asked for it
abbrev pub TellsSuperior : Course → Type 0
TellsSuperior c = AllByRecursion (λ e. is_meant Who.OtherSuperior c e ≡ is_meant Who.Superior c e) c.enlistments

-- an answer counts first, and then, where nobody owes one, the transaction goes on by what is seen of it then
pub record RowsLaw : Type 0 where
  pub pre_prepare_completes : (c : Course) (e : Enlistment) → IsPart c e → is_some e.owes ≡ true → let d = run (Step.Change Answered.PrePrepared ∷ []) (by c e) in led PhaseInput.PrePrepareComplete (by c e) ≡ when_none_owes d (proceeds (seen d))
  pub prepare_completes : (c : Course) (e : Enlistment) → IsPart c e → is_some e.owes ≡ true
      → let d = run (Step.Change Answered.Prepared ∷ Step.Record Fact.Ready ∷ []) (by c e) in led PhaseInput.PrepareComplete (by c e) ≡ when_none_owes d (all_readies (seen d))
  pub read_onlies : (c : Course) (e : Enlistment) → IsPart c e
      → let d = run (Step.Change Answered.ReadOnly ∷ []) (by c e) in led (PhaseInput.ReadOnly (share_of e)) (by c e) ≡ (if is_some e.owes then when_none_owes d (proceeds_without c.transaction.phase (seen d)) else d)
  -- an enlistment that takes part is not the superior, which is told where that one rolls back
  pub tells_superior : (c : Course) (e : Enlistment) → IsPart c e → TellsSuperior (by c e)

-- what steps record is known before anything is carried out
abbrev pub EventsAheadLaw : Type 0
EventsAheadLaw = (steps : List Step) (c : Course) → (run steps c).events ≡ c.events ++ events_ahead steps (basis c)
