-- What the steps of a transaction make of it and of the enlistments, and what they send.
use Rattle.std.specs.Prelude.{◌≡◌, ℕ, ◌+◌, ◌||◌, Bool, true, List, [], ◌∷◌, ◌++◌, length, map, filter, is_some, Option, Some, None, if◌then◌else◌}
use Rattle.std.specs.List.{list_all, list_any}
use Rattle.ktm_base.specs.declared.id.Id.{Id}
use Rattle.ktm_base.specs.declared.notify.Notify.{Notify}
use Rattle.ktm_world.specs.declared.object.Phase.{Phase}
use Rattle.ktm_world.specs.declared.object.Phase.TheVariants.{Ended}
use Rattle.ktm_world.specs.declared.object.Transaction.{Transaction}
use Rattle.ktm_world.specs.declared.object.TransactionOutcome.{TransactionOutcome}
use Rattle.ktm_world.specs.declared.step.Answered.{Answered}
use Rattle.ktm_world.specs.declared.step.Fact.{Fact}
use Rattle.ktm_world.specs.declared.step.Owed.{Owed}
use Rattle.ktm_world.specs.declared.step.Step.{Step}
use Rattle.ktm_world.specs.declared.step.Who.{Who}
use Rattle.ktm_world.specs.Enlistments.{Enlistment, Sent, has_id, id_of, is_unfinished, superior_of, tell, with_enlistments}
use Rattle.ktm_world.specs.Outcome.{served}
use Rattle.ktm_world.specs.Phases.{Course, end_notice, until_ended}
use Rattle.ktm_world.specs.Steps.{answered, carried, is_one_of}
use Rattle.ktm_enlist.specs.Enlistments.{EnlistmentsState}
use Rattle.ktm_enlist.specs.Telling.{asked, has_manager, visited}
use Rattle.ktm_manager.specs.Managers.{ManagersState}
use Rattle.ktm_tm.specs.declared.steps.Going.{Going}

-- what is so after steps, and what they have sent
pub record After : Type 0 where
  pub transaction : Transaction
  pub enlistments : List Enlistment
  pub sent : List Sent

-- nothing is sent, and the enlistments are as they were
abbrev pub only : Transaction → List Enlistment → After
only t es = record { transaction = t; enlistments = es; sent = [] }

-- those enlistments are told, and owe an answer from then on, if there is one to owe
abbrev pub told_those : Going → Who → Notify → Option Owed → Transaction → List Enlistment → After
told_those g who kind owed t es = record {
  transaction = t;
  enlistments = with_enlistments (is_one_of t.id g.caller who) (asked owed) es;
  sent = map (tell kind) (filter (is_one_of t.id g.caller who) es);
}

-- has the log a Ready or a Held once this is recorded
abbrev pub records : Going → Fact → Transaction → List Enlistment → Bool
records g Fact.ReadyFiles t es = t.is_recorded || g.has_files
records g Fact.ReadyKeys t es = t.is_recorded || g.has_keys
records g Fact.Ready t es = g.is_durable || t.is_recorded
records g Fact.Held t es = is_some (superior_of es t.id) || t.is_recorded
records g _ t es = t.is_recorded

-- the transaction is in this phase from now on; once it has ended, its timeout and when it was made are forgotten
abbrev pub entered : Phase → Transaction → Transaction
entered phase t = record t { phase = phase; timeout = until_ended phase t.timeout; created = until_ended phase t.created }

-- the transaction has ended with this outcome, and its superior is told
abbrev pub ends : Going → TransactionOutcome → Transaction → List Enlistment → After
ends g outcome t es = told_those g Who.Superior (end_notice outcome) None (entered Ended (record t { outcome = outcome })) es

-- the enlistments, where the one with this Id has answered so, if one calls
abbrev pub with_answer : Option Id → Answered → List Enlistment → List Enlistment
with_answer None answer es = es
with_answer (Some id) answer es = with_enlistments (has_id id) (answered answer) es

-- what is so after a step
abbrev pub after : Going → Step → Transaction → List Enlistment → After
after g (Step.Record fact) t es = only (record t { is_recorded = records g fact t es }) es
after g Step.Commit t es = only t es
after g (Step.Tell who kind) t es = told_those g who kind None t es
after g (Step.Ask who kind owed) t es = told_those g who kind (Some owed) t es
after g (Step.Change answer) t es = only t (with_answer g.caller answer es)
after g (Step.Enter phase) t es = only (entered phase t) es
after g (Step.Decide outcome) t es = only (record t { outcome = outcome }) es
after g (Step.End outcome) t es = ends g outcome t es
after g (Step.EndWhereFinished outcome) t es = if list_any (is_unfinished t.id) es then only t es else ends g outcome t es

-- what was sent before, and what was sent then
abbrev pub sent_before : List Sent → After → After
sent_before sent a = record a { sent = sent ++ a.sent }

-- what is so after steps, one after another
abbrev pub after_all : Going → List Step → Transaction → List Enlistment → After
after_all g [] t es = only t es
after_all g (step ∷ steps) t es = sent_before (after g step t es).sent (after_all g steps (after g step t es).transaction (after g step t es).enlistments)

-- how many enlistments of the transaction a step visits to tell those that it tells, where this one calls
abbrev pub visits_of : Step → Id → Option Id → List Enlistment → ℕ
visits_of (Step.Tell who kind) id caller es = visited id caller who es
visits_of (Step.Ask who kind owed) id caller es = visited id caller who es
visits_of (Step.End outcome) id caller es = visited id caller Who.Superior es
visits_of (Step.EndWhereFinished outcome) id caller es = if list_any (is_unfinished id) es then 0 else visited id caller Who.Superior es
visits_of _ id caller es = 0

-- how many the steps visit, one after another
abbrev pub visits_all : Going → List Step → Transaction → List Enlistment → ℕ
visits_all g [] t es = 0
visits_all g (step ∷ steps) t es = visits_of step t.id g.caller es + visits_all g steps (after g step t es).transaction (after g step t es).enlistments

-- how many the steps of a course visit
abbrev pub visits_on : List Step → Course → ℕ
visits_on [] c = 0
visits_on (step ∷ steps) c = visits_of step c.transaction.id (id_of c.caller) c.enlistments + visits_on steps (carried step c)

-- this has been carried out on the enlistments and the resource managers, and this is the transaction then
pub record Carries (a : After) (t : Transaction) (es es' : EnlistmentsState) (ms ms' : ManagersState) : Type 0 where
  pub transaction : t ≡ a.transaction
  pub enlistments : es'.enlistments ≡ a.enlistments
  pub managers : ms'.managers ≡ map (served None a.sent) ms.managers
  pub spare : ms'.spare + length a.sent ≡ ms.spare
  pub enlistment_room : es'.room ≡ es.room
  pub manager_room : ms'.room ≡ ms.room

-- carrying out the rest of the steps leaves what carrying out all of them does, of managers that were these, with so much room before
pub record Leaves (g : Going) (rest : List Step) (t : Transaction) (es : EnlistmentsState) (ms : ManagersState) (all : After) (was : EnlistmentsState) (base : ManagersState) : Type 0 where
  pub there : list_all (has_manager ms.managers) es.enlistments ≡ true
  pub transaction : (after_all g rest t es.enlistments).transaction ≡ all.transaction
  pub enlistments : (after_all g rest t es.enlistments).enlistments ≡ all.enlistments
  pub managers : map (served None (after_all g rest t es.enlistments).sent) ms.managers ≡ map (served None all.sent) base.managers
  pub spare : ms.spare + length all.sent ≡ base.spare + length (after_all g rest t es.enlistments).sent
  pub enlistment_room : es.room ≡ was.room
  pub manager_room : ms.room ≡ base.room
