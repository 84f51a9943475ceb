-- Logs of groups of events, and what a loss of power may leave of one.
use Rattle.std.specs.Prelude.{ℕ, ◌+◌, Bool, true, false, List, [], ◌∷◌, length, map, drop}
use Rattle.ktm_world.specs.declared.event.Event.{Event}
pub use Rattle.ktm_world.specs.Groups.{Group}

-- the machine is up, or it is down and one of these logs is on its disk
pub data Power : Type 0 where
  up : Power
  down : List (List Group) → Power

-- is the machine up
abbrev pub is_up : Power → Bool
is_up up = true
is_up (down may) = false

-- the group of a command, which is none where nothing was recorded
abbrev pub as_groups : List Event → List Group
as_groups [] = []
as_groups (event ∷ events) = (event ∷ events) ∷ []

-- once a group is recorded and answered, all groups are kept
abbrev pub kept_after : ℕ → List Group → List Event → ℕ
kept_after kept log [] = kept
kept_after kept log (event ∷ events) = length log + 1

-- the first groups of a log, for each number of them, from none to all
abbrev pub prefixes : List Group → List (List Group)
prefixes [] = [] ∷ []
prefixes (group ∷ groups) = [] ∷ map (λ l. group ∷ l) (prefixes groups)

-- what a loss of power may leave of a log of which so many groups are kept
abbrev pub prefixes_from : ℕ → List Group → List (List Group)
prefixes_from kept log = drop kept (prefixes log)

-- the logs that may be found on the disk
abbrev pub possible_by : Power → ℕ → List Group → List (List Group)
possible_by up kept log = prefixes_from kept log
possible_by (down may) kept log = may
