-- From what a transaction with its parts records.
use Rattle.std.proofs.Common.{◌≡◌, ◌&&◌, ◌||◌, Bool, true, false, List, [], ◌∷◌, Option, Some, None, refl, eq-eqb}
use Rattle.std.proofs.lemmas.Bool.{and_from}
use Rattle.ktm_base.specs.declared.id.Id.{Id}
use Rattle.ktm_event.specs.Work.{FinalFile, changes_of}
use Rattle.ktm_world.specs.declared.options.EnlistmentKind.{EnlistmentKind}
use Rattle.ktm_world.specs.Enlistments.{Enlistment, Manager}
use Rattle.ktm_world.specs.Steps.{Basis}
use Rattle.ktm_world.specs.Transactions.{same_id}
use Rattle.ktm_course.specs.Recorded.{IsBasis, IsCaller, IsSuperior}
use Rattle.ktm_course.specs.declared.parts.Enlisted.{Enlisted}
use Rattle.ktm_course.specs.declared.parts.Parts.{Parts}

-- ---- one basis of them

-- an enlistment of which this is recorded
enlistment_for : Id → Enlisted → Enlistment
enlistment_for transaction enlisted = record {
  id = enlisted.enlistment;
  manager = enlisted.manager;
  transaction = transaction;
  kind = EnlistmentKind.Plain;
  owes = None;
  is_read_only = false;
  is_prepared = false;
  is_finished = false;
  is_recovered = true;
  information = enlisted.information.now;
}

enlistment_of : Id → Option Enlisted → Option Enlistment
enlistment_of transaction None = None
enlistment_of transaction (Some enlisted) = Some (enlistment_for transaction enlisted)

-- its resource manager
managers_of : Option Enlisted → List Manager
managers_of None = []
managers_of (Some enlisted) = record { id = enlisted.manager; is_durable = enlisted.is_durable; queue = [] } ∷ []

-- the parts are those of this basis
basis_for : {F : Type 0} → (F → List FinalFile) → Id → Bool → Parts F → Basis
basis_for files_of id is_recorded parts = record {
  id = id;
  is_recorded = is_recorded;
  changes = changes_of parts.names.now (files_of parts.files.now);
  settings = parts.settings.now;
  managers = managers_of parts.caller;
  superior = enlistment_of id parts.superior;
  caller = enlistment_of id parts.caller;
}

same_id-self : (a : Id) → same_id a a ≡ true
same_id-self a = and_from _ _ (eq-eqb a.boot a.boot refl) (eq-eqb a.number a.number refl)

durable_alone : (same is_durable : Bool) → same ≡ true → (same && is_durable || false) ≡ is_durable
durable_alone true true is = refl
durable_alone true false is = refl
durable_alone false is_durable is = absurd (cc)

is_caller_for : (id : Id) (enlisted : Option Enlisted) → IsCaller (managers_of enlisted) (enlistment_of id enlisted) enlisted
unfolding managers_of enlistment_of enlistment_for
is_caller_for id None = tt
is_caller_for id (Some enlisted) =
    (record { id = refl; manager = refl; information = refl }, durable_alone (same_id enlisted.manager enlisted.manager) enlisted.is_durable (same_id-self enlisted.manager))

is_superior_for : (id : Id) (enlisted : Option Enlisted) → IsSuperior (enlistment_of id enlisted) enlisted
unfolding enlistment_of enlistment_for
is_superior_for id None = tt
is_superior_for id (Some enlisted) = record { id = refl; manager = refl; information = refl }

pub some_basis : {F : Type 0} (files_of : F → List FinalFile) (id : Id) (is_recorded : Bool) (parts : Parts F) → (b : Basis) × IsBasis files_of b id is_recorded parts
unfolding basis_for
some_basis files_of id is_recorded parts =
    (basis_for files_of id is_recorded parts, record { id = refl; recorded = refl; changes = refl; settings = refl; caller = is_caller_for id parts.caller; superior = is_superior_for id parts.superior })

-- ---- once the log has a Ready or a Held of it, or has none

pub recorded_basis : {F : Type 0} {files_of : F → List FinalFile} (b : Basis) (id : Id) (before after : Bool) (parts : Parts F) → IsBasis files_of b id before parts → IsBasis files_of (record b { is_recorded = after }) id after parts
recorded_basis b id before after parts is = record { id = is.id; recorded = refl; changes = is.changes; settings = is.settings; caller = is.caller; superior = is.superior }
