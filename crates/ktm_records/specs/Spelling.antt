-- What a machine records has bytes.
use Rattle.std.specs.Prelude.{ℕ, ◌≤◌, ◌^◌, List, [], length, Option, All}
use Rattle.ktm_base.specs.declared.limits.TheConstants.{MOST_UNITS}
use Rattle.ktm_base.specs.declared.id.Pid.{Pid}
use Rattle.ktm_event.specs.Spelling.{IsSpellableEvent}
use Rattle.ktm_keyed.specs.declared.keyed.Keyed.{Keyed}
use Rattle.ktm_world.specs.declared.command.Command.{Command}
use Rattle.ktm_world.specs.declared.event.Event.{Event}
use Rattle.ktm_world.specs.declared.event.Event.TheVariants.{Ready, Single}
use Rattle.ktm_world.specs.EventGrammar.{IsEventOf, IsGroupOf}
use Rattle.ktm_world.specs.Values.{IsGiven, IsText}
use Rattle.ktm_world.specs.Decide.{decide}
use Rattle.ktm_world.specs.Durable.{Durable, Recorded, after_event, after_events, settings_in, settings_of, stand}
use Rattle.ktm_world.specs.Keys.{Own, OwnSettings, Store}
use Rattle.ktm_world.specs.Logs.{Group}
use Rattle.ktm_world.specs.Outcome.{apply}
use Rattle.ktm_world.specs.Present.{Present}
use Rattle.ktm_world.specs.World.{present, opened, own_group, decide_tick}
use Rattle.txf_laws.specs.GoodState.{IsGoodState}
use Rattle.ktm_records.specs.Kept.{IsKept}

-- the keys of settings are texts
abbrev pub HaveTextKeys : OwnSettings → Type 0
HaveTextKeys settings = All (λ (s : Keyed (Option (List ℕ))). IsText s.key) settings

-- the committed keys are texts
abbrev pub AreTextKeys : Store → Type 0
AreTextKeys store = All (λ (entry : Keyed (List ℕ)). IsText entry.key) store

-- the committed keys are texts, and so are those that transactions have set
pub record AreTexts (x : Present) : Type 0 where
  pub store : AreTextKeys x.keys.store
  pub own : All (λ (o : Own). HaveTextKeys o.settings) x.keys.own

-- the committed keys are texts, and so are those that transactions set by their parts
pub record AreRecordedTexts (s : Durable) : Type 0 where
  pub keys : AreTextKeys s.keys
  pub settings : All (λ (t : Recorded). HaveTextKeys (settings_of t)) s.transactions

-- the settings that an event records of a transaction
abbrev pub settings_of_event : Event → OwnSettings
settings_of_event (Ready transaction part) = settings_in part
settings_of_event (Single transaction part) = settings_in part
settings_of_event _ = []

-- the most events that are recorded at once
abbrev pub most_at_once : ℕ
most_at_once = 2 ^ 20

-- each event has bytes, and there are few enough for one group
abbrev pub AreSpelled : List Event → Type 0
AreSpelled events = All IsSpellableEvent events × (length events ≤ most_at_once)

-- what a kept machine of a size that there is records has bytes, where its keys are texts; these stay texts, and are so again after a
-- restart, for each event that stands in bytes leaves those of a log texts
pub record SpellingLaw : Type 0 where
  -- by a command
  pub commands : (x : Present) (process : Pid) (command : Command) → IsKept x → AreTexts x → x.recorded.units ≤ MOST_UNITS → IsGiven command → AreSpelled (decide x process command).events
  -- by the passing of time
  pub ticks : (x : Present) (ms : ℕ) → IsKept x → AreTexts x → x.recorded.units ≤ MOST_UNITS → AreSpelled (decide_tick x ms).events
  -- whatever its keys are, a command records few events
  pub few : (x : Present) (process : Pid) (command : Command) → IsKept x → length (decide x process command).events ≤ most_at_once
  -- the passing of time records few events
  pub few_later : (x : Present) (ms : ℕ) → IsKept x → length (decide_tick x ms).events ≤ most_at_once
  -- the keys stay texts by a command
  pub stay : (x : Present) (process : Pid) (command : Command) → IsGiven command → AreTexts x → AreTexts (apply x (decide x process command))
  -- the keys stay texts by the passing of time
  pub stay_later : (x : Present) (ms : ℕ) → AreTexts x → AreTexts (apply x (decide_tick x ms))
  -- the keys are texts after a restart
  pub restarts : (base : Durable) (log : List Group) → AreRecordedTexts (stand base log) → AreTexts (present (opened base log))
  -- the keys that are recorded stay texts by each event that records texts
  pub events : (s : Durable) (event : Event) → AreRecordedTexts s → HaveTextKeys (settings_of_event event) → AreRecordedTexts (after_event s event)
  -- each event that stands in bytes records texts
  pub grammar : (event : Event) (bytes : List ℕ) → IsEventOf event bytes → HaveTextKeys (settings_of_event event)
  -- the keys that are recorded stay texts by each group that stands in bytes
  pub groups : (s : Durable) (group : Group) (bytes : List ℕ) → AreRecordedTexts s → IsGroupOf group bytes → AreRecordedTexts (after_events s group)
  -- what a restart of a good state records by itself has bytes
  pub own_groups : (s : Durable) → IsGoodState s → AreSpelled (own_group s)
