use Rattle.std.proofs.Common.{◌≡◌}
use Rattle.ktm_answers.specs.declared.pages.TheConstants.{PAGES}
use Rattle.ktm_answers.proofs.pages.steps.Given as goal

abbrev pub invariant-loop-next : goal.invariant-loop-next
invariant-loop-next g l =
    (g.P.PageIo.count l.io ≡ PAGES) ×
    (goal.iterator-loop-next g).can_next l.next-iterator ×
    (goal.iterator-loop-next g).is_finite l.next-iterator
