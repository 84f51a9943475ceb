-- No command, no passing of time and no restart passes a limit.
use Rattle.ktm_records.specs.Agreement.{AgreeingLaw}
use Rattle.ktm_owned.specs.FilesKept.{FilesKeptLaw}
use Rattle.txf_laws.specs.Footprint.{ListsLaw}
use Rattle.txf_laws.specs.Formed.{FormedLaw}
use Rattle.ktm_limits.specs.LimitsKept.{LimitsLaw}
use Rattle.ktm_limits.proofs.LimitsEvents.{decided-holds, later-holds}
use Rattle.ktm_limits.proofs.LimitsKept.{decided-stays, later-stays}
use Rattle.ktm_limits.proofs.LimitsRestarts.{opened-within}
use Rattle.ktm_records.proofs.offered.NoMore.{fits-within, within-fits}

pub limits_law : AgreeingLaw → FilesKeptLaw → ListsLaw → FormedLaw → LimitsLaw
limits_law agreeing keeping lists formed = record {
  commands = λ x process command kept fixed. within-fits _ (decided-stays lists formed x kept.sound (fits-within x kept.within) fixed.same process command).fits;
  ticks = λ x ms kept fixed. within-fits _ (later-stays lists formed x kept.sound (fits-within x kept.within) fixed.same ms).fits;
  recorded = λ x process command kept. decided-holds agreeing keeping lists formed x kept process command;
  later = λ x ms kept. later-holds agreeing keeping lists formed x kept ms;
  versions = λ x process command kept fixed. record { same = (decided-stays lists formed x kept.sound (fits-within x kept.within) fixed.same process command).fixed fixed.same };
  later_versions = λ x ms kept fixed. record { same = (later-stays lists formed x kept.sound (fits-within x kept.within) fixed.same ms).fixed fixed.same };
  restarts = opened-within;
  first_versions = λ base log. record { same = λ a b there. absurd there };
}
