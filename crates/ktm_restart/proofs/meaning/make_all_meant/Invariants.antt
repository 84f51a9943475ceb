use Rattle.ktm_paged.specs.Meaning.{has_work_pages, meant}
use Rattle.ktm_restart.proofs.Meant.{ChangedSoFar}
use Rattle.ktm_restart.proofs.meaning.make_all_meant.Given as goal

abbrev pub invariant-loop-change : goal.invariant-loop-change
invariant-loop-change l = ChangedSoFar has_work_pages (meant 0) l.initial.changes l.change-index l.changes
