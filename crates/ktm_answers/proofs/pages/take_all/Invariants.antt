use Rattle.std.proofs.Common.{◌<◌, IfSome}
use Rattle.ktm_pages.specs.Pages.{count_of, holders_of}
use Rattle.ktm_answers.proofs.pages.take_all.Given as goal

-- the page that was taken last is out
abbrev pub invariant-loop : goal.invariant-loop
invariant-loop l = IfSome l.last (λ page. (page < count_of l.pages) × (0 < holders_of l.pages page))
