-- Steps of a disk, where it tells, as steps of the row that stands on it.
use Rattle.std.proofs.Common.{◌≡◌, ℕ, ◌+◌, ◌*◌, ◌<◌, List, [], ◌∷◌, length, Option, None, Some, IfSome, sym, ◌∙◌, ap, subst, inl, inr}
use Rattle.std.specs.Prelude.{slice_index, slice_range}
use Rattle.ktm_base.specs.declared.limits.TheConstants.{UNIT_BYTES}
use Rattle.ktm_base.specs.Bytes.{SameOutside, written}
use Rattle.ktm_base.specs.Disk.{DiskState, Wrote}
use Rattle.ktm_base.specs.Told.{Goes}
use Rattle.ktm_base.proofs.offered.ToldSteps.{Goes-map, IfSome-step}
use Rattle.ktm_page.specs.Row.{LostPage, RowState, WrotePage, page_of}
use Rattle.ktm_row.specs.Places.{Rested, Stands, StaysBehind, Touched, row_of, row_told}
use Rattle.ktm_row.proofs.Bytes.{page-place}
use Rattle.ktm_row.proofs.Placed.{touched-behind, touched-lost, touched-stands, wrote-page}

-- the range is that of a page
pub page-touched : (old new : Option DiskState) (begin page at len : ℕ) → at ≡ begin + page * UNIT_BYTES → len ≡ UNIT_BYTES → Goes (Touched at len) old new → Goes (Touched (begin + page * UNIT_BYTES) UNIT_BYTES) old new
page-touched old new begin page at len place long touched = subst (λ (n : ℕ). Goes (Touched (begin + page * UNIT_BYTES) n) old new) long (subst (λ (n : ℕ). Goes (Touched n len) old new) place touched)

-- ---- the row

lift : {R : DiskState → DiskState → Type 0} (Q : RowState → RowState → Type 0) (begin pages : ℕ) (old new : Option DiskState) → IfSome old (Stands begin pages) → Goes R old new
    → ((s t : DiskState) → Stands begin pages s → R s t → Q (row_of begin pages s) (row_of begin pages t)) → Goes Q (row_told begin pages old) (row_told begin pages new)
lift Q begin pages None None stands r f = tt
lift Q begin pages None (Some t) stands r f = absurd r
lift Q begin pages (Some s) None stands r f = absurd r
lift Q begin pages (Some s) (Some t) stands r f = f s t stands r

module _ (begin pages : ℕ) (old new : Option DiskState) (stands : IfSome old (Stands begin pages)) where
  module _ (page : ℕ) (within : page < pages) where
    pub stands-touched : Goes (Touched (begin + page * UNIT_BYTES) UNIT_BYTES) old new → IfSome new (Stands begin pages)
    stands-touched touched = IfSome-step old new (Stands begin pages) (Stands begin pages) stands touched (λ s t is r. touched-stands begin pages page within s t is r)

    pub behind-touched : Goes (Touched (begin + page * UNIT_BYTES) UNIT_BYTES) old new → Goes (StaysBehind begin pages) old new
    behind-touched touched = Goes-map old new (Stands begin pages) stands touched (λ s t is r. touched-behind begin pages page within s t is r)

    pub lost-touched : Goes (Touched (begin + page * UNIT_BYTES) UNIT_BYTES) old new → Goes (LostPage page) (row_told begin pages old) (row_told begin pages new)
    lost-touched touched = lift (LostPage page) begin pages old new stands touched (λ s t is r. touched-lost begin pages page within s t is r)

pub row-wrote : (begin pages : ℕ) (old new : Option DiskState) → IfSome old (Stands begin pages) → (page : ℕ) → page < pages → (bytes : List ℕ) → length bytes ≡ UNIT_BYTES
    → Goes (Touched (begin + page * UNIT_BYTES) UNIT_BYTES) old new → Goes (Wrote (begin + page * UNIT_BYTES) bytes) old new → Goes (WrotePage page bytes) (row_told begin pages old) (row_told begin pages new)
row-wrote begin pages None None stands page within bytes long touched wrote = tt
row-wrote begin pages None (Some t) stands page within bytes long touched wrote = absurd wrote
row-wrote begin pages (Some s) None stands page within bytes long touched wrote = absurd wrote
row-wrote begin pages (Some s) (Some t) stands page within bytes long touched wrote = wrote-page begin pages page within s t stands bytes long touched wrote

-- what a read of the range gives
pub page-read : (begin pages : ℕ) (told : Option DiskState) → IfSome told (Stands begin pages) → (page : ℕ) → page < pages → (at long : ℕ) (bytes : List ℕ) → at ≡ begin + page * UNIT_BYTES → long ≡ UNIT_BYTES
    → IfSome told (λ s. bytes ≡ slice_range s.seen at (at + long)) → IfSome (row_told begin pages told) (λ r. bytes ≡ page_of r.seen page)
page-read begin pages None stands page within at long bytes place all read = tt
page-read begin pages (Some s) stands page within at long bytes place all read =
    read ∙ ap (λ (n : ℕ). slice_range s.seen n (n + long)) place ∙ ap (λ (n : ℕ). slice_range s.seen (begin + page * UNIT_BYTES) (begin + page * UNIT_BYTES + n)) all ∙ sym (page-place begin pages s.seen page within stands.fits)

-- ---- one step behind another

pub lost-rested : (page : ℕ) (old new : Option RowState) → Goes Rested old new → Goes (LostPage page) old new
lost-rested page None None r = tt
lost-rested page None (Some b) r = absurd r
lost-rested page (Some a) None r = absurd r
lost-rested page (Some a) (Some b) r = record { seen = record { same_length = ap length r.seen; others = λ place out. ap (λ (l : List ℕ). slice_index l place) r.seen }; dirty = λ p is. inr (r.dirty p is); front = r.front }

pub wrote-after : (page : ℕ) (bytes : List ℕ) (a b c : Option RowState) → Goes Rested a b → Goes (WrotePage page bytes) b c → Goes (WrotePage page bytes) a c
wrote-after page bytes None None None x y = tt
wrote-after page bytes None None (Some c) x y = absurd y
wrote-after page bytes None (Some b) c x y = absurd x
wrote-after page bytes (Some a) None c x y = absurd x
wrote-after page bytes (Some a) (Some b) None x y = absurd y
wrote-after page bytes (Some a) (Some b) (Some c) x y = record {
  seen = y.seen ∙ ap (λ (l : List ℕ). written l (page * UNIT_BYTES) bytes) x.seen;
  dirty = λ p is. elim (y.dirty p is) [ inl here ↦ inl here | inr before ↦ inr (x.dirty p before) ];
  front = y.front ∙ x.front;
}

pub lost-after : (page : ℕ) (a b c : Option RowState) → Goes Rested a b → Goes (LostPage page) b c → Goes (LostPage page) a c
lost-after page None None None x y = tt
lost-after page None None (Some c) x y = absurd y
lost-after page None (Some b) c x y = absurd x
lost-after page (Some a) None c x y = absurd x
lost-after page (Some a) (Some b) None x y = absurd y
lost-after page (Some a) (Some b) (Some c) x y = record {
  seen = subst (λ (l : List ℕ). SameOutside ((page * UNIT_BYTES, UNIT_BYTES) ∷ []) l c.seen) x.seen y.seen;
  dirty = λ p is. elim (y.dirty p is) [ inl here ↦ inl here | inr before ↦ inr (x.dirty p before) ];
  front = y.front ∙ x.front;
}
