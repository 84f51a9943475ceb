use Rattle.std.proofs.Common.{ℕ, List, take}
use Rattle.ktm_store.specs.Pool.{Shows}
use Rattle.ktm_core.proofs.Writing.{AreBeingWritten}
use Rattle.ktm_core.proofs.pages.write_some.Given as goal

abbrev pub invariant-loop-page : goal.invariant-loop-page
invariant-loop-page g l = (row : List ℕ) → Shows l.store row → AreBeingWritten l.journal (take l.page-index l.pages) row (g.D.Disk.told l.initial.disk) (g.D.Disk.told l.disk) (g.D.Disk.status l.initial.disk) (g.D.Disk.status l.disk)
