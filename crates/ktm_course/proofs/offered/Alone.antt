-- What steps make of a course without enlistments.
use Rattle.std.proofs.Common.{◌≡◌, Bool, true, false, cond, List, [], ◌∷◌, ◌++◌, Option, Some, None, append-nil, filter, map, refl, ◌∙◌, ap}
use Rattle.std.specs.List.{list_any}
use Rattle.ktm_world.specs.declared.object.TransactionOutcome.{TransactionOutcome}
use Rattle.ktm_world.specs.Enlistments.{Enlistment, has_id, is_unfinished, tell, with_enlistments}
use Rattle.ktm_base.specs.declared.notify.Notify.{Notify}
use Rattle.ktm_world.specs.Phases.{Course, end_notice, ended, is_its_superior, telling, unchanged}
use Rattle.ktm_world.specs.declared.step.Step.{Step}
use Rattle.ktm_world.specs.declared.step.Step.TheVariants.{Record, Tell, Ask, Enter, Decide, End, EndWhereFinished}
use Rattle.ktm_world.specs.Steps.{answered, carried, changing, is_meant, run}
use Rattle.ktm_world.specs.Phases.{owing}

-- a course goes on without enlistments: nobody is told anything, and it stays the same transaction's
pub record GoesOn (c d : Course) : Type 0 where
  pub enlistments : d.enlistments ≡ []
  pub sent : d.sent ≡ c.sent
  pub id : d.transaction.id ≡ c.transaction.id

tells_none : (c : Course) (test : Enlistment → Bool) (kind : Notify) (f : Enlistment → Enlistment) → c.enlistments ≡ [] → GoesOn c (telling c test kind f)
tells_none c test kind f none = record {
  enlistments = ap (with_enlistments test f) none;
  sent = ap (λ (es : List Enlistment). c.sent ++ map (tell kind) (filter test es)) none ∙ append-nil c.sent;
  id = refl;
}

ends : (c : Course) (outcome : TransactionOutcome) → c.enlistments ≡ [] → GoesOn c (ended c outcome)
unfolding ended
ends c outcome none = record {
  enlistments = ap (with_enlistments (is_its_superior c) unchanged) none;
  sent = ap (λ (es : List Enlistment). c.sent ++ map (tell (end_notice outcome)) (filter (is_its_superior c) es)) none ∙ append-nil c.sent;
  id = refl;
}

stays : (c : Course) → c.enlistments ≡ [] → GoesOn c c
stays c none = record { enlistments = none; sent = refl; id = refl }

changes_none : (c : Course) (caller : Option Enlistment) (f : Enlistment → Enlistment) → c.enlistments ≡ [] → GoesOn c (changing c caller f)
changes_none c None f none = stays c none
changes_none c (Some e) f none = record { enlistments = ap (with_enlistments (has_id e.id) f) none; sent = refl; id = refl }

either : (b : Bool) (c d e : Course) → GoesOn c d → GoesOn c e → GoesOn c (cond b d e)
either true c d e first second = first
either false c d e first second = second

step_goes_on : (step : Step) (c : Course) → c.enlistments ≡ [] → GoesOn c (carried step c)
step_goes_on (Record fact) c none = record { enlistments = none; sent = refl; id = refl }
step_goes_on Step.Commit c none = record { enlistments = none; sent = refl; id = refl }
step_goes_on (Tell who kind) c none = tells_none c (is_meant who c) kind unchanged none
step_goes_on (Ask who kind owed) c none = tells_none c (is_meant who c) kind (owing owed) none
step_goes_on (Step.Change answer) c none = changes_none c c.caller (answered answer) none
step_goes_on (Enter phase) c none = record { enlistments = none; sent = refl; id = refl }
step_goes_on (Decide outcome) c none = record { enlistments = none; sent = refl; id = refl }
step_goes_on (End outcome) c none = ends c outcome none
step_goes_on (EndWhereFinished outcome) c none = either (list_any (is_unfinished c.transaction.id) c.enlistments) c c (ended c outcome) (stays c none) (ends c outcome none)

-- carried out without enlistments, steps tell nobody
pub goes_on : (steps : List Step) (c : Course) → c.enlistments ≡ [] → GoesOn c (run steps c)
goes_on [] c none = stays c none
goes_on (step ∷ steps) c none =
    let d = carried step c in
    let first = step_goes_on step c none in
    let rest = goes_on steps d first.enlistments in
    record {
      enlistments = rest.enlistments;
      sent = rest.sent ∙ first.sent;
      id = rest.id ∙ first.id;
    }
