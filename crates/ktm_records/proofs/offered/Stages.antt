-- What the phases of a transaction tell of what the log has of it.
use Rattle.std.proofs.Common.{◌≡◌, Bool, true, false, List, Some, refl, sym}
use Rattle.std.proofs.lemmas.Bool.{not-true, true≢false}
use Rattle.ktm_base.specs.declared.id.Id.{Id}
use Rattle.ktm_world.specs.declared.object.Phase.{Phase}
use Rattle.ktm_world.specs.declared.object.Phase.TheVariants.{Active, Requested, PrePreparing, PrePrepared, Preparing, SinglePhase, Held, InDoubt, Committing, Aborting, Ended}
use Rattle.ktm_world.specs.declared.recorded.Stage.{Stage}
use Rattle.ktm_world.specs.Enlistments.{Enlistment, Manager}
use Rattle.ktm_world.specs.Lawful.{stage_in}
use Rattle.ktm_world.specs.TransactionCalls.{before_pre_prepare, before_prepare, is_voting, waits_for_superior}
use Rattle.ktm_courses.specs.SoundCourse.{is_recorded_as}

-- nothing but readiness is recorded while enlistments vote
pub voting-stage : (phase : Phase) → is_voting phase ≡ true → stage_in phase ≡ Some Stage.Ready
voting-stage Held voting = absurd (true≢false (sym voting))
voting-stage InDoubt voting = absurd (true≢false (sym voting))
voting-stage Committing voting = absurd (true≢false (sym voting))
voting-stage Aborting voting = absurd (true≢false (sym voting))
voting-stage Ended voting = absurd (true≢false (sym voting))
voting-stage _ voting = refl

-- do enlistments vote, and were not asked to prepare
abbrev pub is_early : Phase → Bool
is_early Preparing = false
is_early phase = is_voting phase

pub early-voting : (phase : Phase) → is_early phase ≡ true → is_voting phase ≡ true
early-voting Preparing early = absurd (true≢false (sym early))
early-voting _ early = early

-- where enlistments vote, and were not asked to prepare, nothing at all is recorded
pub early-unrecorded : (phase : Phase) (ms : List Manager) (es : List Enlistment) (id : Id) (r : Bool) → is_early phase ≡ true → is_recorded_as phase ms es id r ≡ true → r ≡ false
early-unrecorded Active ms es id r early right = not-true r right
early-unrecorded Requested ms es id r early right = not-true r right
early-unrecorded PrePreparing ms es id r early right = not-true r right
early-unrecorded PrePrepared ms es id r early right = not-true r right
early-unrecorded SinglePhase ms es id r early right = not-true r right
early-unrecorded _ ms es id r early right = absurd (true≢false (sym early))

-- enlistments were not asked to prepare where a superior may ask that its transaction prepares, or pre-prepares
pub early-prepare : (phase : Phase) → before_prepare phase ≡ true → is_early phase ≡ true
early-prepare Active is = refl
early-prepare Requested is = refl
early-prepare PrePrepared is = refl
early-prepare _ is = absurd (true≢false (sym is))

pub early-pre_prepare : (phase : Phase) → before_pre_prepare phase ≡ true → is_early phase ≡ true
early-pre_prepare Active is = refl
early-pre_prepare Requested is = refl
early-pre_prepare _ is = absurd (true≢false (sym is))

-- one that waits for its superior is in the log, which has a Held of it
pub waiting-held : (phase : Phase) → waits_for_superior phase ≡ true → stage_in phase ≡ Some Stage.Held
waiting-held Held waits = refl
waiting-held InDoubt waits = refl
waiting-held _ waits = absurd (true≢false (sym waits))

pub waiting-recorded : (phase : Phase) (ms : List Manager) (es : List Enlistment) (id : Id) (r : Bool) → waits_for_superior phase ≡ true → is_recorded_as phase ms es id r ≡ true → r ≡ true
waiting-recorded Held ms es id r waits recorded = recorded
waiting-recorded InDoubt ms es id r waits recorded = recorded
waiting-recorded _ ms es id r waits recorded = absurd (true≢false (sym waits))
