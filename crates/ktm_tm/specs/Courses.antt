-- The courses of the model on which a transaction stands.
use Rattle.std.specs.Prelude.{◌≡◌, Bool, List, [], Option, Some, None}
use Rattle.ktm_base.specs.declared.id.Id.{Id}
use Rattle.ktm_world.specs.declared.object.Transaction.{Transaction}
use Rattle.ktm_world.specs.Changes.{has_changes}
use Rattle.ktm_world.specs.Enlistments.{Enlistment, enlistment_at, id_of}
use Rattle.ktm_world.specs.Phases.{Course, has_settings}
use Rattle.ktm_world.specs.Steps.{is_of_durable}
use Rattle.ktm_tm.specs.declared.steps.Going.{Going}
use Rattle.ktm_tm.specs.TmState.{TmState}

-- the enlistment with this Id, if one calls
abbrev pub caller_of : List Enlistment → Option Id → Option Enlistment
caller_of es None = None
caller_of es (Some id) = enlistment_at es id

-- the course is the transaction's, where this enlistment calls, and the files and the keys take part or not
pub record IsCourseIn (tm : TmState) (t : Transaction) (caller : Option Id) (has_files has_keys : Bool) (c : Course) : Type 0 where
  pub transaction : c.transaction ≡ t
  pub enlistments : c.enlistments ≡ tm.now.enlistments
  pub managers : c.managers ≡ tm.managers
  pub calls : c.caller ≡ caller_of tm.now.enlistments caller
  pub files : has_changes c.changes ≡ has_files
  pub keys : has_settings c.settings ≡ has_keys
  pub nothing_sent : c.sent ≡ []

-- the steps of the transaction go by this, where this enlistment calls
pub record GoesBy (tm : TmState) (caller : Option Id) (has_files has_keys : Bool) (g : Going) : Type 0 where
  pub calls : id_of (caller_of tm.now.enlistments caller) ≡ g.caller
  pub durable : is_of_durable tm.managers (caller_of tm.now.enlistments caller) ≡ g.is_durable
  pub files : has_files ≡ g.has_files
  pub keys : has_keys ≡ g.has_keys
