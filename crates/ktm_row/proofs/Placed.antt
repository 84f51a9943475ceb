-- The pages that are dirty, and where the row stands, as its disk changes.
use Rattle.std.proofs.Common.{◌≡◌, ◌⊎◌, ℕ, zero, ◌+◌, ◌-◌, ◌*◌, ◌/◌, ◌<◌, List, [], ◌∷◌, ◌++◌, length, Contains, sym, ◌∙◌, ap, subst, inl, inr, arith}
use Rattle.std.specs.Prelude.{slice_range}
use Rattle.std.proofs.Math.Nat.{mul-div_cancel}
use Rattle.std.proofs.lemmas.List.{map-append}
use Rattle.std.proofs.lemmas.List.Elements.{Contains-push_cases}
use Rattle.ktm_base.specs.declared.limits.TheConstants.{UNIT_BYTES}
use Rattle.ktm_base.specs.Disk.{DiskState, Wrote}
use Rattle.ktm_page.specs.Row.{DirtiesOne, LostPage, WrotePage}
use Rattle.ktm_row.specs.Places.{Stands, StaysBehind, Touched, end_of, pages_of, ranges_of, row_of}
use Rattle.ktm_row.proofs.Bytes.{row-outside, row-written, same-behind, same-front}

module _ (begin : ℕ) where
  page-of_range : (page : ℕ) → (begin + page * UNIT_BYTES - begin) / UNIT_BYTES ≡ page
  page-of_range page =
      let place : begin + page * UNIT_BYTES - begin ≡ page * UNIT_BYTES = omega arith in
      let some : zero < UNIT_BYTES = omega arith in
      ap (λ (n : ℕ). n / UNIT_BYTES) place ∙ mul-div_cancel page some

  pages-push : (page : ℕ) (ranges : List (ℕ × ℕ)) → pages_of begin (ranges ++ (begin + page * UNIT_BYTES, UNIT_BYTES) ∷ []) ≡ pages_of begin ranges ++ page ∷ []
  pages-push page ranges =
      map-append (λ (r : ℕ × ℕ). (r.0 - begin) / UNIT_BYTES) ranges ((begin + page * UNIT_BYTES, UNIT_BYTES) ∷ [])
      ∙ ap (λ (p : ℕ). pages_of begin ranges ++ p ∷ []) (page-of_range page)

  ranges-push : (page : ℕ) (pages : List ℕ) → ranges_of begin (pages ++ page ∷ []) ≡ ranges_of begin pages ++ (begin + page * UNIT_BYTES, UNIT_BYTES) ∷ []
  ranges-push page pages = map-append (λ (p : ℕ). (begin + p * UNIT_BYTES, UNIT_BYTES)) pages (page ∷ [])

  -- what is dirty after a page was
  dirties-one : (page : ℕ) (old new : List (ℕ × ℕ)) → (new ≡ old) ⊎ (new ≡ old ++ (begin + page * UNIT_BYTES, UNIT_BYTES) ∷ []) → DirtiesOne page (pages_of begin old) (pages_of begin new)
  dirties-one page old new (inl same) p is = inr (subst (λ (l : List (ℕ × ℕ)). Contains (pages_of begin l) p) same is)
  dirties-one page old new (inr more) p is =
      let pushed = ap (pages_of begin) more ∙ pages-push page old in
      elim (Contains-push_cases (pages_of begin old) page p (subst (λ (l : List ℕ). Contains l p) pushed is)) [ inl before ↦ inr before | inr here ↦ inl (sym here) ]

  still-ranges : (page : ℕ) (old new : List (ℕ × ℕ)) → old ≡ ranges_of begin (pages_of begin old) → (new ≡ old) ⊎ (new ≡ old ++ (begin + page * UNIT_BYTES, UNIT_BYTES) ∷ []) → new ≡ ranges_of begin (pages_of begin new)
  still-ranges page old new are (inl same) = same ∙ are ∙ ap (λ (l : List (ℕ × ℕ)). ranges_of begin (pages_of begin l)) (sym same)
  still-ranges page old new are (inr more) =
      let pushed = ap (pages_of begin) more ∙ pages-push page old in
      more ∙ ap (λ (l : List (ℕ × ℕ)). l ++ (begin + page * UNIT_BYTES, UNIT_BYTES) ∷ []) are ∙ sym (ranges-push page (pages_of begin old)) ∙ ap (ranges_of begin) (sym pushed)

module _ (begin pages : ℕ) where
  module _ (page : ℕ) (within : page < pages) (s t : DiskState) (stands : Stands begin pages s) where
    pub touched-stands : Touched (begin + page * UNIT_BYTES) UNIT_BYTES s t → Stands begin pages t
    touched-stands touched = record {
      fits = omega (arith, stands.fits, touched.seen.same_length);
      ranges = still-ranges begin page s.dirty t.dirty stands.ranges touched.dirty;
      below = λ p is. elim (dirties-one begin page s.dirty t.dirty touched.dirty p is) [ inl here ↦ omega (arith, here, within) | inr before ↦ stands.below p before ];
      shortest = touched.shortest ∙ stands.shortest ∙ sym touched.seen.same_length;
      longest = touched.longest ∙ stands.longest ∙ sym touched.seen.same_length;
    }

    pub touched-behind : Touched (begin + page * UNIT_BYTES) UNIT_BYTES s t → StaysBehind begin pages s t
    touched-behind touched = record {
      behind = same-behind s.seen t.seen (begin + page * UNIT_BYTES) UNIT_BYTES (end_of begin pages) touched.seen (omega (arith, within));
      length = touched.seen.same_length;
    }

    pub touched-lost : Touched (begin + page * UNIT_BYTES) UNIT_BYTES s t → LostPage page (row_of begin pages s) (row_of begin pages t)
    touched-lost touched = record {
      seen = row-outside begin pages page s.seen t.seen stands.fits touched.seen;
      dirty = dirties-one begin page s.dirty t.dirty touched.dirty;
      front = same-front s.seen t.seen (begin + page * UNIT_BYTES) UNIT_BYTES begin touched.seen (omega arith);
    }

    pub wrote-page : (bytes : List ℕ) → length bytes ≡ UNIT_BYTES → Touched (begin + page * UNIT_BYTES) UNIT_BYTES s t → Wrote (begin + page * UNIT_BYTES) bytes s t → WrotePage page bytes (row_of begin pages s) (row_of begin pages t)
    wrote-page bytes long touched wrote =
        let lost = touched-lost touched in
        record {
          seen = ap (λ (l : List ℕ). slice_range l begin (end_of begin pages)) wrote.seen ∙ row-written begin pages page s.seen bytes within stands.fits long;
          dirty = lost.dirty;
          front = lost.front;
        }
