-- Lists of events that are kept as their spellings, in room that is reserved.
use Rattle.std.specs.Prelude.{◌≡◌, ℕ, ◌+◌, ◌-◌, ◌*◌, ◌^◌, ◌<◌, ◌≤◌, List, length, take, drop, sum_by}
use Rattle.ktm_base.specs.Grammar.{IsU32, Then, IsListOf}
use Rattle.ktm_log.specs.Settle.{IsBodyOf}
use Rattle.ktm_world.specs.declared.event.Event.{Event}
use Rattle.ktm_world.specs.EventGrammar.{IsEventOf}
use Rattle.ktm_world.specs.Sizes.{event_size}

-- what such a list tells
pub record EventsState : Type 0 where
  -- the count of the events in four bytes, and the events
  pub payload : List ℕ
  -- how many events there are
  pub count : ℕ
  -- how many bytes the events have room for
  pub room : ℕ
  -- how many of these are left
  pub spare : ℕ
  -- how many bytes its buffer has memory for
  pub capacity : ℕ

-- these are the events of the list, which take up the room that is not left
pub record Holds (state : EventsState) (events : List Event) : Type 0 where
  pub counted : length events ≡ state.count
  pub spelled : IsListOf IsEventOf events state.payload
  pub sizes : sum_by event_size events + state.spare ≡ state.room

-- the payload in a frame's body, between its length and the closed gate
abbrev pub payload_of : List ℕ → List ℕ
payload_of body = take (length body - 5) (drop 4 body)

-- the bytes are the body of a frame, the count is at the front of the payload, each event has five bytes at least, and the
-- room is reserved
pub record IsBodyKept (bytes : List ℕ) (count room capacity : ℕ) : Type 0 where
  pub body : IsBodyOf (payload_of bytes) bytes
  pub counted : Then (IsU32 count) (λ events. 5 * count ≤ length events) (payload_of bytes)
  pub within : length bytes ≤ room + 9
  pub reserved : room + 9 ≤ capacity
  pub few : room + 4 < 2 ^ 32
