-- The pages of contents are pages of the image.
use Rattle.std.proofs.Common.{inl, inr, arith}
use Rattle.std.proofs.lemmas.Bool.{cases_lt}
use Rattle.std.proofs.lemmas.List.{get_or_past}
use Rattle.ktm_pages.specs.Pages.{PagesState, count_of}
use Rattle.ktm_extent.specs.Extent.{AreBelow, ExtentState}
use Rattle.ktm_extent.proofs.Uses.{contains-uses}
use Rattle.ktm_answers.specs.Shelf.{HaveAll}

pub file-below : (pages : PagesState) (file copy : ExtentState) → HaveAll pages file copy → AreBelow (count_of pages) file
file-below pages file copy held page there =
    elim (cases_lt page (count_of pages)) [
      | inl below ↦ below
      | inr past ↦ absurd (omega (arith, held page, contains-uses file.pages page there, get_or_past pages.each page 0 past))
    ]
