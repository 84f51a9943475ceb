-- How enlistments are told and asked.
use Rattle.std.specs.Prelude.{◌≡◌, ◌+◌, ◌≤◌, ℕ, zero, suc, Bool, true, false, List, [], ◌∷◌, filter, length, map, Option, Some, None, is_some, if◌then◌else◌}
use Rattle.std.specs.List.{list_all}
use Rattle.ktm_base.specs.declared.id.Id.{Id}
use Rattle.ktm_base.specs.declared.notify.Notify.{Notify}
use Rattle.ktm_world.specs.declared.step.Owed.{Owed}
use Rattle.ktm_world.specs.declared.step.Who.{Who}
use Rattle.ktm_world.specs.Enlistments.{Enlistment, Manager, Sent, is_given, manager_at, tell, with_enlistments}
use Rattle.ktm_world.specs.Outcome.{served}
use Rattle.ktm_world.specs.Steps.{is_one_of}
use Rattle.ktm_manager.specs.Managers.{ManagersState}
use Rattle.ktm_enlist.specs.declared.telling.Told.{Told}
use Rattle.ktm_enlist.specs.Enlistments.{EnlistmentsState}
use Rattle.ktm_enlist.specs.Places.{is_own}
use Rattle.ktm_world.specs.Phases.{owing}

-- it owes an answer to this from now on, where there is something
abbrev pub asked : Option Owed → Enlistment → Enlistment
asked None e = e
asked (Some what) e = owing what e

-- an enlistment that passes the test owes an answer to this from now on, where there is something
abbrev pub asked_if : (Enlistment → Bool) → Option Owed → Enlistment → Enlistment
asked_if test owed e = if test e then asked owed e else e

-- what is sent to an enlistment's manager, where it passes the test
abbrev pub told : (Enlistment → Bool) → Notify → Enlistment → List Sent
told test kind e = if test e then tell kind e ∷ [] else []

-- is the enlistment's manager there
abbrev pub has_manager : List Manager → Enlistment → Bool
has_manager ms e = is_some (manager_at ms e.manager)

-- the enlistments, of which the first so many that pass the test are changed
abbrev pub with_first : (Enlistment → Bool) → (Enlistment → Enlistment) → ℕ → List Enlistment → List Enlistment
with_first test f zero es = es
with_first test f (suc i) [] = []
with_first test f (suc i) (e ∷ es) = (if test e then f e else e) ∷ with_first test f i es

-- are all of those enlistments of the transaction
abbrev pub is_of_transaction : Who → Bool
is_of_transaction Who.Caller = false
is_of_transaction _ = true

-- how many enlistments are visited to tell those: the one that calls, if it is that one alone, else all of the transaction
abbrev pub visited : Id → Option Id → Who → List Enlistment → ℕ
visited id caller Who.Caller es = length (filter (is_given caller) es)
visited id caller _ es = length (filter (is_own id) es)

-- the manager of each enlistment is there, and has room for what is sent
pub record MayTell (t : Told) (es : List Enlistment) (managers : ManagersState) : Type 0 where
  pub there : list_all (has_manager managers.managers) es ≡ true
  pub fits : length (filter (is_one_of t.transaction t.caller t.who) es) ≤ managers.spare

-- each of those enlistments was told, and owes an answer from then on, if there is one to owe
pub record HasTold (t : Told) (old new : EnlistmentsState) (before after : ManagersState) : Type 0 where
  pub enlistments : new.enlistments ≡ with_enlistments (is_one_of t.transaction t.caller t.who) (asked t.owed) old.enlistments
  pub room : new.room ≡ old.room
  pub managers : after.managers ≡ map (served None (map (tell t.kind) (filter (is_one_of t.transaction t.caller t.who) old.enlistments))) before.managers
  pub spare : after.spare + length (filter (is_one_of t.transaction t.caller t.who) old.enlistments) ≡ before.spare
  pub room_for_managers : after.room ≡ before.room
