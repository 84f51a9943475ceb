-- What the payloads of a log come to.
use Rattle.std.specs.Prelude.{◌≡◌, ℕ, ◌+◌, List, ◌∷◌, ◌++◌}
use Rattle.ktm_log.specs.Log.{end_of}
use Rattle.ktm_world.specs.Logs.{Group}
use Rattle.ktm_world.specs.Durable.{Durable}
use Rattle.ktm_journal.specs.Image.{HoldGroups}
use Rattle.ktm_paged.specs.Paged.{paged_stand}
use Rattle.ktm_restart.specs.Bad.{IsBadPayload}
use Rattle.ktm_restart.specs.Logs.{AllApplyTo}

-- the payloads are groups that apply one after another to the first state, and they come to this one
pub record ComesTo (first : Durable) (payloads : List (List ℕ)) (state : Durable) : Type 0 where
  pub log : List Group
  pub groups : HoldGroups log payloads
  pub applies : AllApplyTo first log
  pub is : state ≡ paged_stand first log

-- of the payloads of a log that begins here the first bad one is that of the frame at this offset of the image
pub record IsFirstBad (first : Durable) (begin : ℕ) (payloads : List (List ℕ)) (offset : ℕ) : Type 0 where
  pub before : List (List ℕ)
  pub payload : List ℕ
  pub rest : List (List ℕ)
  pub split : payloads ≡ before ++ payload ∷ rest
  pub state : Durable
  pub good : ComesTo first before state
  pub bad : IsBadPayload state payload
  pub at : offset ≡ begin + end_of before
