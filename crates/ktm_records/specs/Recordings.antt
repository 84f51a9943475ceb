-- What undecided transactions own, and what a plain call changes, applies to what was recorded.
use Rattle.std.specs.Prelude.{◌≡◌, true, [], ◌∷◌, Some, None}
use Rattle.ktm_world.specs.declared.change.Change.{Change}
use Rattle.ktm_world.specs.declared.object.Transaction.{Transaction}
use Rattle.ktm_world.specs.Durable.{are_recorded_changes, recorded_changes_apply, settings_apply}
use Rattle.ktm_world.specs.Files.{own_changes}
use Rattle.ktm_world.specs.Keys.{are_good_settings, own_settings}
use Rattle.ktm_world.specs.Lawful.{Agrees, undecided}
use Rattle.ktm_world.specs.Present.{Present}
use Rattle.ktm_world.specs.World.{has_own_settings}
use Rattle.ktm_world.specs.Changes.{has_changes}
use Rattle.txf_laws.specs.Elements.{IsIn}
use Rattle.txf_laws.specs.PlainChange.{Lands}
use Rattle.txf_laws.specs.SoundFiles.{IsSoundKeys, IsSoundFiles}

-- where what was recorded agrees with what is so now, and this is sound, it applies, and has the form in which it is recorded
pub record RecordingsLaw : Type 0 where
  -- the changes of an undecided transaction, if it has any
  pub changes : (x : Present) (t : Transaction) → IsSoundFiles x → Agrees x → IsIn t (undecided x) → has_changes (own_changes x.files.table.own t.id) ≡ true
      → (are_recorded_changes (own_changes x.files.table.own t.id) ≡ true) × (recorded_changes_apply x.recorded (Some t.id) (own_changes x.files.table.own t.id) ≡ true)
  -- its settings, if it has any
  pub settings : (x : Present) (t : Transaction) → IsSoundKeys x → Agrees x → has_own_settings (record { transaction = t.id; settings = own_settings x.keys.own t.id }) ≡ true
      → (are_good_settings (own_settings x.keys.own t.id) ≡ true) × (settings_apply x.recorded (Some t.id) (own_settings x.keys.own t.id) ≡ true)
  -- what a plain call commits
  pub plain : (x : Present) (change : Change) → IsSoundFiles x → Agrees x → Lands x change → recorded_changes_apply x.recorded None (change ∷ []) ≡ true
