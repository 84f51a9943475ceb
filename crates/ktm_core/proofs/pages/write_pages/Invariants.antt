use Rattle.std.proofs.Common.{◌≡◌, ◌⊎◌, ℕ, ◌%◌, ◌-◌, ◌≤◌, List, length, take}
use Rattle.ktm_store.specs.Pool.{Shows}
use Rattle.ktm_core.specs.Pages.{ArePagesWritten}
use Rattle.ktm_core.proofs.pages.write_pages.Given as goal

abbrev pub invariant-loop-at : goal.invariant-loop-at
invariant-loop-at g l = record {
  within : l.at ≤ length l.pages;
  aligned : (l.at % 64 ≡ 0) ⊎ (l.at ≡ length l.pages);
  written : (row : List ℕ) → Shows l.store row → ArePagesWritten l.journal (take l.at l.pages) row (g.D.Disk.told l.initial.disk) (g.D.Disk.told l.disk) (g.D.Disk.status l.initial.disk) (g.D.Disk.status l.disk);
}

abbrev pub decreases-loop-at : goal.decreases-loop-at
decreases-loop-at g l = length l.pages - l.at
