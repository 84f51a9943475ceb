use Rattle.std.proofs.Common.{take}
use Rattle.ktm_store.specs.Marks.{Holds}
use Rattle.ktm_store.proofs.marks.Marks.hold_all.Given as goal

abbrev pub invariant-loop-page : goal.invariant-loop-page
invariant-loop-page l = Holds (take l.page-index l.pages) l.initial.self l.self
