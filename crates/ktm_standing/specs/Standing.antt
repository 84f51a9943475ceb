-- Worlds that stand, and what is so in the world that a restart opens.
use Rattle.std.specs.Prelude.{◌≡◌, ℕ, ◌*◌, ◌≤◌, true, List, [], filter, map}
use Rattle.std.specs.List.{flat_map}
use Rattle.ktm_base.specs.declared.limits.TheConstants.{MOST_UNITS}
use Rattle.ktm_world.specs.Committed.{version_of}
use Rattle.ktm_world.specs.Durable.{Durable, after_events, changes_of, settings_of}
use Rattle.ktm_world.specs.Files.{OwnChanges}
use Rattle.ktm_world.specs.Keys.{Own}
use Rattle.ktm_world.specs.Present.{Present}
use Rattle.ktm_world.specs.World.{World, back, by_rising_id, enlistments_back, has_own_changes, has_own_settings, in_doubt, own_group, present, transaction_back}
use Rattle.ktm_laws.specs.Running.{IsRunning}
use Rattle.ktm_records.specs.Spelling.{AreTexts}

-- what the transactions in doubt changed, of which each changed something
abbrev pub own_changes_back : Durable → List OwnChanges
own_changes_back s = filter has_own_changes (map (λ t. record { transaction = t.id; changes = changes_of t }) (in_doubt s))

-- what they set, of which each set something
abbrev pub own_settings_back : Durable → List Own
own_settings_back s = filter has_own_settings (map (λ t. record { transaction = t.id; settings = settings_of t }) (in_doubt s))

-- what is so once a machine started from this state and recorded its own group
abbrev pub fresh : Durable → Present
fresh s = record {
  machine = record { is_up = true };
  recorded = after_events s (own_group s);
  transactions = record {
    clock = 0;
    last_transaction = 0;
    last_manager = 0;
    last_enlistment = 0;
    items = map transaction_back (back s);
    enlistments = by_rising_id (flat_map enlistments_back (back s));
  };
  managers = map (λ id. record { id = id; is_durable = true; queue = [] }) s.managers;
  files = record {
    tree = s.tree;
    versions = [];
    first_opens = [];
    table = record { own = own_changes_back s; opens = []; last_open = 0; next_node = s.next_node };
  };
  keys = record { store = s.keys; own = own_settings_back s };
  handles = [];
}

-- ---- all that the machine keeps

-- what the machine keeps of a world: it is one of a run
pub record IsStanding (w : World) : Type 0 where
  pub running : IsRunning w
  -- the committed keys are texts, and so are those that transactions have set
  pub texts : AreTexts (present w)
  -- the image has a size that there is
  pub small : w.base.units ≤ MOST_UNITS
  -- no file has more versions than twice the events, for a work cuts a file and puts its bytes once at most, and records an event
  pub counted : (file : ℕ) → version_of (present w).files.versions file ≤ 2 * w.recorded.events

-- what is so now is so in a world that stands, whatever the disk tells
pub record IsStandingNow (x : Present) : Type 0 where
  pub world : World
  pub stands : IsStanding world
  pub is : present world ≡ x
