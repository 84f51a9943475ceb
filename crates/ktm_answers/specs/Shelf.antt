-- Contents and a copy of them that have all pages that are out.
use Rattle.std.specs.Prelude.{◌≡◌, ℕ, ◌+◌}
use Rattle.ktm_pages.specs.Pages.{PagesState, holders_of}
use Rattle.ktm_extent.specs.Extent.{ExtentState, uses}

-- each page has as many holders as it has places in both
abbrev pub HaveAll : PagesState → ExtentState → ExtentState → Type 0
HaveAll pages file copy = (page : ℕ) → holders_of pages page ≡ uses file page + uses copy page
