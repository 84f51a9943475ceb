-- The images that a loss of power may leave of a machine that is up.
use Rattle.std.proofs.Common.{◌≡◌, ℕ, true, List, [], sym, ◌∙◌, ap, arith}
use Rattle.std.specs.Prelude.{Contains}
use Rattle.ktm_base.specs.Disk.{DiskState, MayLeave}
use Rattle.ktm_content.specs.Places.{byte_at}
use Rattle.ktm_core.specs.Core.{CoreState, HoldsPlaces, LeftPlaces}
use Rattle.ktm_core.proofs.offered.Places.{durable-weaker}
use Rattle.ktm_journal.specs.Image.{row_of}
use Rattle.ktm_journal.specs.Pages.{PagesLaw}
use Rattle.ktm_mapped.specs.Mapped.{mapped_durable}
use Rattle.ktm_page.specs.Row.{page_of}
use Rattle.ktm_paged.specs.Laws.{RowsSeen}
use Rattle.ktm_core.specs.Logs.{StandsFor}
use Rattle.ktm_core.specs.Journals.{left}
use Rattle.ktm_store.specs.Store.{IsStoredAt, page_at}
use Rattle.ktm_store.specs.Stored.{is_stored}
use Rattle.ktm_store.proofs.offered.Holding.{byte-same}
use Rattle.ktm_world.specs.Durable.{Durable}

-- an image with the bytes of a row stands for the state of these bytes
pub left-stands : RowsSeen → (row : List ℕ) (state : Durable) (image : List ℕ) → LeftPlaces row state image → StandsFor (mapped_durable (byte_at row) state) image
left-stands seen row state image is = record { places = state; paged = is.paged; is = sym (seen (row_of state.units image) row state is.same) }

none-in : (page : ℕ) → Contains [] page → ⊥
none-in page (k, within, is) = absurd (omega arith)

-- so does each image that may be left of a disk that has all that a machine recorded
pub holds-left : RowsSeen → PagesLaw → (c : CoreState) (s : DiskState) (image : List ℕ) → HoldsPlaces c s → MayLeave s image → StandsFor (mapped_durable (byte_at c.store.seen) c.now.recorded) image
holds-left seen pages c s image holds may = left-stands seen c.store.seen c.now.recorded image (record {
  paged = left c.journal c.now.recorded s image holds.journal may;
  same = durable-weaker (λ file index place. IsStoredAt c.store.stored place) (λ file index place. byte_at (row_of c.now.recorded.units image) place ≡ byte_at c.store.seen place)
      (λ file index place stored. byte-same (row_of c.now.recorded.units image) c.store.seen place (λ some. same (page_at place) (stored some))) c.now.recorded holds.stored;
})
  where
    same : (page : ℕ) → is_stored c.store.stored page ≡ true → page_of (row_of c.now.recorded.units image) page ≡ page_of c.store.seen page
    same page stored =
        let (is, others) = pages.left [] c.journal holds.journal.snapshot holds.journal.log s image (pages.none c.journal holds.journal.snapshot holds.journal.log s holds.journal.at) may in
        ap (λ u. page_of (row_of u image) page) holds.journal.units ∙ others.others page (none-in page) ∙ holds.pages page stored
