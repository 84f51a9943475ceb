-- How many transactions the log has, and how many parts they have.
use Rattle.std.specs.Prelude.{ℕ, ◌+◌, ◌<◌, ◌≤◌, List, length, sum_by}
use Rattle.ktm_base.specs.declared.limits.TheConstants.{MOST_LIVE}
use Rattle.ktm_world.specs.Durable.{Durable}
use Rattle.txf_laws.specs.GoodState.{IsGoodState}
use Rattle.ktm_trace.specs.declared.room.TheConstants.{MOST_HEADS, MOST_LIVE_PARTS, MOST_MARKS}
use Rattle.ktm_trace.specs.Traces.{Traced, traces_of}

-- how many parts they have
abbrev pub parts_in : List Traced → ℕ
parts_in ts = sum_by (λ t. length t.parts) ts

-- no more than are live, with no more parts than these may have
pub record AreFew (ts : List Traced) : Type 0 where
  pub transactions : length ts ≤ MOST_LIVE
  pub parts : parts_in ts ≤ MOST_LIVE_PARTS

-- so few are there of what was recorded, where that is good
abbrev pub FewLaw : Type 0
FewLaw = (s : Durable) → IsGoodState s → AreFew (traces_of s)

-- ---- the room for them. No public clause cites what follows.

-- the room for so many transactions and so many parts is enough for all that may come
pub record IsEnough (heads marks : ℕ) : Type 0 where
  pub transactions : MOST_HEADS ≤ heads
  pub parts : MOST_MARKS ≤ marks

-- there is room for one more, and for one part more
pub record HasRoom (ts : List Traced) : Type 0 where
  pub transactions : length ts < MOST_HEADS
  pub parts : parts_in ts < MOST_MARKS

-- there are at most so many more, and at most so many parts more
pub record HasMore (many : ℕ) (old new : List Traced) : Type 0 where
  pub transactions : length new ≤ length old + many
  pub parts : parts_in new ≤ parts_in old + many
