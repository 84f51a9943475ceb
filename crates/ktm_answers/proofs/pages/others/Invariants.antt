use Rattle.std.proofs.Common.{◌<◌, ◌≤◌, All, length}
use Rattle.ktm_answers.specs.declared.pages.TheConstants.{ALL_PAGES}
use Rattle.ktm_answers.proofs.pages.others.Given as goal

-- the pages are numbers of pages, and no more than were seen
abbrev pub invariant-loop-page : goal.invariant-loop-page
invariant-loop-page l = All (λ page. page < ALL_PAGES) l.pages.items × length l.pages.items ≤ l.page-counter
