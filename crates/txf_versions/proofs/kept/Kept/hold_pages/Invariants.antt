use Rattle.std.proofs.Common.{length, sum_by}
use Rattle.ktm_content.specs.Contents.{units_of}
use Rattle.ktm_store.proofs.offered.HoldingContents.{HoldsUpTo}
use Rattle.txf_versions.specs.Parts.{older_of}
use Rattle.txf_versions.specs.VersionsState.{older_contents}
use Rattle.txf_versions.proofs.kept.Kept.hold_pages.Given as goal

-- the pages of those that are not left are held
abbrev pub invariant-pages : goal.invariant-pages
invariant-pages l = HoldsUpTo (older_contents l.self.older) (older_contents (older_of l.left)) (sum_by units_of (older_contents l.self.older)) l.fn.store l.store

abbrev pub decreases-pages : goal.decreases-pages
decreases-pages l = length l.left
