-- A machine that starts from a good state stands.
use Rattle.std.proofs.Common.{◌≡◌, ◌≤◌, false, [], refl}
use Rattle.ktm_base.specs.declared.limits.TheConstants.{MOST_UNITS}
use Rattle.ktm_world.specs.Durable.{Durable, is_worn}
use Rattle.ktm_world.specs.World.{opened}
use Rattle.ktm_records.specs.Agreement.{AgreeingLaw}
use Rattle.txf_laws.specs.GoodState.{IsGoodState}
use Rattle.txf_laws.specs.GoodStates.{GoodStatesLaw}
use Rattle.ktm_laws.specs.LimitsKept.{LimitsLaw}
use Rattle.ktm_laws.specs.Notes.{NotesLaw}
use Rattle.txf_laws.specs.OwnGroup.{OwnGroupLaw}
use Rattle.ktm_records.specs.SoundWorlds.{SoundWorldsLaw}
use Rattle.ktm_records.specs.Spelling.{AreRecordedTexts, SpellingLaw}
use Rattle.ktm_laws.proofs.offered.Starts.{running-opened}
use Rattle.ktm_standing.specs.Laws.{FreshLaw}
use Rattle.ktm_standing.specs.Standing.{IsStandingNow, fresh}
use Rattle.ktm_standing.proofs.Opened.{opened_is, stands_opened}

module _ (states : GoodStatesLaw) (own_groups : OwnGroupLaw) (worlds : SoundWorldsLaw) (agrees : AgreeingLaw) (limits : LimitsLaw) (notes : NotesLaw) (spelling : SpellingLaw) where
  -- the world has no log
  fresh_stands : (s : Durable) → IsGoodState s → AreRecordedTexts s → s.units ≤ MOST_UNITS → is_worn s ≡ false → IsStandingNow (fresh s)
  fresh_stands s good texts small unworn = record {
    world = opened s [];
    stands = stands_opened s [] small (spelling.restarts s [] texts) (running-opened states own_groups spelling worlds agrees limits notes s [] good refl unworn);
    is = opened_is s [];
  }

  pub fresh_law : FreshLaw
  fresh_law = record { opens = opened_is; stands = fresh_stands }
