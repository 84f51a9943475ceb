-- Bytes that are no image that stands for a state, and where it shows.
use Rattle.std.specs.Prelude.{◌≡◌, ◌⊎◌, ℕ, ◌+◌, List, drop}
use Rattle.ktm_log.specs.Log.{IsFrame, IsTorn, BeginsWith, area_bytes, end_of}
use Rattle.ktm_world.specs.Logs.{Group}
use Rattle.ktm_world.specs.Durable.{Durable}
use Rattle.ktm_world.specs.EventGrammar.{IsGroupOf}
use Rattle.ktm_world.specs.Sizes.{log_size}
use Rattle.ktm_snapshot.specs.StateGrammar.{IsStateOf}
use Rattle.txf_laws.specs.GoodState.{IsGoodState}
use Rattle.ktm_journal.specs.Image.{HasSnapshot, HoldGroups, IsFormatted, IsHeaded, half_of, log_area, snapshot_area}
use Rattle.ktm_journal.specs.Bad.{HasNoHeader}
use Rattle.ktm_paged.specs.Paged.{paged_stand}
use Rattle.ktm_restart.specs.Logs.{AllApplyTo, AppliesTo, IsOnPages}

-- a payload that is no group that applies to the state over the places of bytes, on the pages of its image
abbrev pub IsBadPayload : Durable → List ℕ → Type 0
IsBadPayload state payload = (events : Group) → IsGroupOf events payload → ¬ AppliesTo state events

-- a snapshot of an image of this size and number that is that of no good state on pages
abbrev pub IsBadSnapshot : ℕ → ℕ → List ℕ → Type 0
IsBadSnapshot units image snapshot = (state : Durable) → state.units ≡ units → state.image ≡ image → IsStateOf state snapshot → IsGoodState state → ¬ IsOnPages state

-- behind a header the half that counts has a bad snapshot, or none
pub record IsBadStart (units image selector : ℕ) (bytes : List ℕ) : Type 0 where
  pub headed : IsHeaded units image selector bytes
  pub bad : (snapshot : List ℕ) → HasSnapshot units (half_of selector) snapshot bytes → IsBadSnapshot units image snapshot

-- an image of this size and number begins with the snapshot of this good state on pages
pub record BeginsAs (units image selector : ℕ) (state : Durable) (bytes : List ℕ) : Type 0 where
  pub units_are : state.units ≡ units
  pub number : state.image ≡ image
  pub snapshot : List ℕ
  pub formatted : IsFormatted units image selector snapshot bytes
  pub spelled : IsStateOf state snapshot
  pub good : IsGoodState state
  pub on_pages : IsOnPages state

-- behind the snapshot of this state and these groups, which apply, stands an open gate whose frame is cut short, or whose payload is bad
pub record IsBadFrame (units image selector : ℕ) (first : Durable) (log : List Group) (bytes : List ℕ) : Type 0 where
  pub begins : BeginsAs units image selector first bytes
  pub payloads : List (List ℕ)
  pub groups : HoldGroups log payloads
  pub applies : AllApplyTo first log
  pub frames : BeginsWith payloads (area_bytes (log_area units (half_of selector)) bytes)
  pub bad : IsTorn (drop (end_of payloads) (area_bytes (log_area units (half_of selector)) bytes))
      ⊎ ((payload : List ℕ) × IsFrame payload (drop (end_of payloads) (area_bytes (log_area units (half_of selector)) bytes)) × IsBadPayload (paged_stand first log) payload)

-- the bytes are bad at this offset: at 0 without a header, at the area of a bad snapshot, or else at the gate of the first bad frame
abbrev pub IsBadAt : List ℕ → ℕ → Type 0
IsBadAt bytes offset =
    (HasNoHeader bytes × (offset ≡ 0))
    ⊎ ((units : ℕ) × (image : ℕ) × (selector : ℕ) × IsBadStart units image selector bytes × (offset ≡ (snapshot_area units (half_of selector)).at))
    ⊎ ((units : ℕ) × (image : ℕ) × (selector : ℕ) × (first : Durable) × (log : List Group) × IsBadFrame units image selector first log bytes × (offset ≡ (log_area units (half_of selector)).at + log_size log))
