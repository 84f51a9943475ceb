use Rattle.std.proofs.Common.{drop, sum_by}
use Rattle.ktm_store.proofs.offered.HoldingContents.{HoldsUpTo}
use Rattle.ktm_world.specs.Tree.{units_of}
use Rattle.txf_volume.specs.Pages.{all_written}
use Rattle.txf_volume.proofs.own.Overlays.hold_pages.Given as goal

-- the pages of those that are not left are held
abbrev pub invariant-loop-own : goal.invariant-loop-own
invariant-loop-own l = HoldsUpTo (all_written l.self) (all_written (drop l.own-index l.own-items)) (sum_by units_of (all_written l.self)) l.fn.store l.store
