-- Settings that are made where they lie in bytes. No public clause of another crate cites this module but for what a transaction commits alone.
use Rattle.std.specs.Prelude.{◌≡◌, ℕ, ◌&&◌, true, false, List, length, Option, Some, None}
use Rattle.std.specs.List.{list_all}
use Rattle.ktm_base.specs.declared.id.Id.{Id}
use Rattle.ktm_base.specs.Grammar.{IsRow}
use Rattle.ktm_codec.specs.Spans.{Spans}
use Rattle.ktm_keyed.specs.Keyed.{is_rising}
use Rattle.ktm_world.specs.declared.event.Event.{Event}
use Rattle.ktm_world.specs.declared.event.Event.TheVariants.{Single}
use Rattle.ktm_world.specs.declared.event.Part.TheVariants.{Settings}
use Rattle.ktm_world.specs.Durable.{Durable, after_event, event_applies, fact_applies, fact_of}
use Rattle.ktm_world.specs.EventGrammar.{AreSettingsOf, IsEventOf, IsSettingOf}
use Rattle.ktm_world.specs.Keys.{OwnSettings, Store, is_good_setting, stored_all}

-- the event at a place is that this transaction commits the settings alone which are spelled from a second place on
pub record IsSingleAt (bytes : List ℕ) (at : ℕ) (transaction : Id) (start : ℕ) : Type 0 where
  pub spelled : (settings : OwnSettings) (end : ℕ) → Spans (AreSettingsOf settings) bytes start end → Spans (IsEventOf (Single transaction (Settings settings))) bytes at end
  pub only : (event : Event) (end : ℕ) → Spans (IsEventOf event) bytes at end → (settings : OwnSettings) × (event ≡ Single transaction (Settings settings)) × Spans (AreSettingsOf settings) bytes start end

-- so many settings are spelled between these places, by rising key and within the limits, and they were made in the store
pub record AreMade (bytes : List ℕ) (start end count : ℕ) (old new : Store) : Type 0 where
  pub settings : OwnSettings
  pub row : Spans (IsRow IsSettingOf settings) bytes start end
  pub counted : length settings ≡ count
  pub rising : is_rising settings ≡ true
  pub good : list_all is_good_setting settings ≡ true
  pub made : new ≡ stored_all old settings

-- so many settings that are spelled from the place on are not by rising key, or not within the limits
abbrev pub AreBadFrom : List ℕ → ℕ → ℕ → Type 0
AreBadFrom bytes start count = (settings : OwnSettings) (end : ℕ) → Spans (IsRow IsSettingOf settings) bytes start end → length settings ≡ count → (is_rising settings && list_all is_good_setting settings) ≡ false

-- the settings up to the place that is answered were made, or there are none that may be
abbrev pub MadeUpTo : List ℕ → ℕ → ℕ → Store → Store → Option ℕ → Type 0
MadeUpTo bytes start count old new None = AreBadFrom bytes start count
MadeUpTo bytes start count old new (Some end) = AreMade bytes start end count old new

-- a transaction takes alone the settings that are spelled between these places, before the event is counted and the limits are tested
pub record AreTaken (bytes : List ℕ) (at end : ℕ) (transaction : Id) (old new : Durable) : Type 0 where
  pub settings : OwnSettings
  pub spelled : Spans (AreSettingsOf settings) bytes at end
  pub fact : fact_applies old (Single transaction (Settings settings)) ≡ true
  pub after : new ≡ fact_of old (Single transaction (Settings settings))

-- it takes those up to the place that is answered, or there are none that it may take
abbrev pub TakenUpTo : List ℕ → ℕ → Id → Durable → Durable → Option ℕ → Type 0
TakenUpTo bytes at transaction old new None = (settings : OwnSettings) (end : ℕ) → Spans (AreSettingsOf settings) bytes at end → fact_applies old (Single transaction (Settings settings)) ≡ false
TakenUpTo bytes at transaction old new (Some end) = AreTaken bytes at end transaction old new

-- a transaction has committed alone the settings that are spelled between these places
pub record AreCommitted (bytes : List ℕ) (at end : ℕ) (transaction : Id) (old new : Durable) : Type 0 where
  pub settings : OwnSettings
  pub spelled : Spans (AreSettingsOf settings) bytes at end
  pub applies : event_applies old (Single transaction (Settings settings)) ≡ true
  pub after : new ≡ after_event old (Single transaction (Settings settings))

-- the settings that it commits alone are spelled up to the place that is answered, or it may commit none that are spelled from here on
abbrev pub CommittedUpTo : List ℕ → ℕ → Id → Durable → Durable → Option ℕ → Type 0
CommittedUpTo bytes at transaction old new None = (settings : OwnSettings) (end : ℕ) → Spans (AreSettingsOf settings) bytes at end → event_applies old (Single transaction (Settings settings)) ≡ false
CommittedUpTo bytes at transaction old new (Some end) = AreCommitted bytes at end transaction old new
