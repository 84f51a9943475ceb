use Rattle.std.proofs.Common.{◌≡◌, ℕ, take, get_or}
use Rattle.ktm_pages.specs.Pages.{places_of}
use Rattle.ktm_pages.proofs.pages.count_places.Given as goal

abbrev pub invariant-loop-page : goal.invariant-loop-page
invariant-loop-page l = (page : ℕ) → get_or l.holders page 0 ≡ places_of (take l.page-index l.out) page
