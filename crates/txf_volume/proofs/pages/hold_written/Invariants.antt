use Rattle.std.proofs.Common.{length, sum_by}
use Rattle.std.specs.Option.{option_copied}
use Rattle.ktm_store.proofs.offered.HoldingContents.{HoldsUpTo}
use Rattle.ktm_world.specs.Tree.{units_of}
use Rattle.txf_volume.specs.Pages.{written_contents}
use Rattle.txf_volume.proofs.Walked.{files_left}
use Rattle.txf_volume.proofs.pages.hold_written.Given as goal

-- the pages of the files that are not left are held
abbrev pub invariant-files : goal.invariant-files
invariant-files l =
    HoldsUpTo (written_contents l.overlay.written) (written_contents (files_left l.overlay.written (option_copied l.next))) (sum_by units_of (written_contents l.overlay.written)) l.fn.store l.store

abbrev pub decreases-files : goal.decreases-files
decreases-files l = length (files_left l.overlay.written (option_copied l.next))
