-- What a contract sees of the enlistments.
use Rattle.std.specs.Prelude.{◌≡◌, ℕ, ◌<◌, ◌^◌, true, List, length}
use Rattle.ktm_manager.specs.Rising.{are_rising}
use Rattle.ktm_world.specs.Enlistments.{Enlistment}

-- the enlistments in order, and how many can be added with no more memory, or before their counts could pass 32 bits
pub record EnlistmentsState : Type 0 where
  pub enlistments : List Enlistment
  pub room : ℕ

-- the enlistments stand by rising Id, and what counts of them fits 32 bits
pub record AreEnlisted (es : List Enlistment) : Type 0 where
  pub rising : are_rising (λ e. e.id) es ≡ true
  pub few : length es < 2 ^ 32
