-- What is kept is as the row has it, as pages are read and written.
use Rattle.std.proofs.Common.{◌≡◌, ◌≢◌, ◌⊎◌, ℕ, ◌+◌, ◌-◌, ◌*◌, ◌<◌, ◌≤◌, false, List, [], ◌∷◌, ◌++◌, length, get_or, take, drop, Contains, Option, None, Some, IfSome, refl, sym, ◌∙◌, ap, subst, inl, inr, arith, append_assoc, length-take, length-drop}
use Rattle.std.proofs.lemmas.Bool.{cases_order}
use Rattle.std.proofs.lemmas.Bool.Decides.{nat_tests}
use Rattle.std.proofs.lemmas.Grind.{same_number_lists}
use Rattle.std.proofs.lemmas.List.{take_at, drop_at, length-take-le, get_or-take, get_or-drop}
use Rattle.lru.proofs.CallerLemmas.{Contains-take}
use Rattle.lru.proofs.Splits.{Contains-cons, Contains-head}
use Rattle.ktm_base.proofs.offered.Images.{same_written}
use Rattle.ktm_base.proofs.offered.ToldSteps.{IfSome-map, IfSome-step}
use Rattle.ktm_base.specs.declared.limits.TheConstants.{UNIT_BYTES}
use Rattle.ktm_base.specs.Bytes.{SameOutside, covers, written}
use Rattle.ktm_base.specs.Told.{Goes}
use Rattle.ktm_page.specs.Row.{LostPage, RowState, WrotePage, page_of}
use Rattle.ktm_pages.specs.Cache.{Agrees, CacheState, Keeps, most_kept, used, without}
use Rattle.ktm_pages.proofs.Numbered.{Contains-without}

-- ---- the bytes of a page

not-covered : (at len place : ℕ) → (place < at) ⊎ (at + len ≤ place) → covers ((at, len) ∷ []) place ≡ false
not-covered at len place out = grind (arith, nat_tests)

same-part : (old new : List ℕ) (from n : ℕ) → length new ≡ length old → ((place : ℕ) → from ≤ place → place < from + n → get_or new place 0 ≡ get_or old place 0) → take n (drop from new) ≡ take n (drop from old)
same-part old new from n long same = same_number_lists _ _ (omega (arith, long, length-take n (drop from new), length-take n (drop from old), length-drop from new, length-drop from old))
    (λ k under.
    let within : k < n = omega (arith, under, length-take n (drop from new)) in
    get_or-take n (drop from new) k 0 within ∙ get_or-drop from new k 0 ∙ same (from + k) (omega arith) (omega (arith, within)) ∙ sym (get_or-drop from old k 0) ∙ sym (get_or-take n (drop from old) k 0 within))

-- another page stays
page-other : (old new : List ℕ) (page other : ℕ) → SameOutside ((page * UNIT_BYTES, UNIT_BYTES) ∷ []) old new → other ≢ page → page_of new other ≡ page_of old other
page-other old new page other same differs = same-part old new (other * UNIT_BYTES) (other * UNIT_BYTES + UNIT_BYTES - other * UNIT_BYTES) same.same_length
    (λ place low high. same.others place (not-covered (page * UNIT_BYTES) UNIT_BYTES place (elim (cases_order other page) [
      | inl is ↦ absurd (differs is)
      | inr (inl less) ↦ inl (omega (arith, less, high))
      | inr (inr more) ↦ inr (omega (arith, more, low))
    ])))

-- the page that is written has the bytes
page-written : (old bytes : List ℕ) (page : ℕ) → length bytes ≡ UNIT_BYTES → page * UNIT_BYTES ≤ length old → page_of (written old (page * UNIT_BYTES) bytes) page ≡ bytes
page-written old bytes page long fits =
    let at = page * UNIT_BYTES in
    ap (λ (l : List ℕ). take (at + UNIT_BYTES - at) (drop at l)) (append_assoc (take at old) bytes (drop (at + length bytes) old))
    ∙ ap (λ (l : List ℕ). take (at + UNIT_BYTES - at) l) (drop_at (take at old) (bytes ++ drop (at + length bytes) old) at (length-take-le at old fits))
    ∙ take_at bytes (drop (at + length bytes) old) (at + UNIT_BYTES - at) (omega (arith, long))

-- ---- what is kept

-- after a page was used it is kept, and what else is kept was kept before, and is another page
used-cases : (page : ℕ) (bytes : List ℕ) (kept : List (ℕ × List ℕ)) (e : ℕ × List ℕ) → Contains (used page bytes kept) e → ((page, bytes) ≡ e) ⊎ ((e.0 ≢ page) × Contains kept e)
used-cases page bytes kept e is = elim (Contains-cons (page, bytes) (take (most_kept - 1) (without page kept)) e is) [
  | inl first ↦ inl first
  | inr later ↦ inr (Contains-without page kept e (Contains-take (most_kept - 1) (without page kept) e later))
]

module _ (old new : CacheState) (page : ℕ) where
  -- the page is kept
  pub keeps-used : (bytes : List ℕ) → new.kept ≡ used page bytes old.kept → Keeps new page
  keeps-used bytes is = (bytes, rw is (Contains-head (page, bytes) (take (most_kept - 1) (without page old.kept))))

  -- what is kept of it is what the row has
  pub value-kept : (told : Option RowState) (bytes : List ℕ) → Agrees old told → Contains old.kept (page, bytes) → IfSome told (λ r. bytes ≡ page_of r.seen page)
  value-kept told bytes agrees kept = IfSome-map told (λ (r : RowState). (p : ℕ) (b : List ℕ) → Contains old.kept (p, b) → page_of r.seen p ≡ b) (λ (r : RowState). bytes ≡ page_of r.seen page) agrees (λ r agree. sym (agree page bytes kept))

  agrees-entry : (r s : RowState) (bytes : List ℕ) → new.kept ≡ used page bytes old.kept → page_of s.seen page ≡ bytes → ((other : ℕ) → other ≢ page → page_of s.seen other ≡ page_of r.seen other)
      → ((p : ℕ) (b : List ℕ) → Contains old.kept (p, b) → page_of r.seen p ≡ b) → (p : ℕ) (b : List ℕ) → Contains new.kept (p, b) → page_of s.seen p ≡ b
  agrees-entry r s bytes is here others agree p b kept = elim (used-cases page bytes old.kept (p, b) (rw is at kept)) [
    | inl first ↦ ap (λ (e : ℕ × List ℕ). page_of s.seen e.0) (sym first) ∙ here ∙ ap (λ (e : ℕ × List ℕ). e.1) first
    | inr later ↦ others p later.0 ∙ agree p b later.1
  ]

  -- it was used with the bytes that the row has
  pub agrees-used : (told : Option RowState) (bytes : List ℕ) → Agrees old told → new.kept ≡ used page bytes old.kept → IfSome told (λ r. bytes ≡ page_of r.seen page) → Agrees new told
  agrees-used None bytes agrees is value = tt
  agrees-used (Some r) bytes agrees is value = agrees-entry r r bytes is (sym value) (λ other differs. refl) agrees

  -- it was written, and used with the bytes that were written
  pub agrees-written : (was now : Option RowState) (bytes : List ℕ) (count : ℕ) → length bytes ≡ UNIT_BYTES → page < count → IfSome was (λ r. length r.seen ≡ count * UNIT_BYTES)
      → Agrees old was → new.kept ≡ used page bytes old.kept → Goes (WrotePage page bytes) was now → Agrees new now
  agrees-written None None bytes count long below lengths agrees is wrote = tt
  agrees-written None (Some s) bytes count long below lengths agrees is wrote = absurd wrote
  agrees-written (Some r) None bytes count long below lengths agrees is wrote = absurd wrote
  agrees-written (Some r) (Some s) bytes count long below lengths agrees is wrote =
      let fits : page * UNIT_BYTES + length bytes ≤ length r.seen = omega (arith, long, below, lengths) in
      let same = subst (λ n. SameOutside ((page * UNIT_BYTES, n) ∷ []) r.seen (written r.seen (page * UNIT_BYTES) bytes)) long (same_written r.seen (page * UNIT_BYTES) bytes fits) in
      agrees-entry r s bytes is
      (ap (λ seen. page_of seen page) wrote.seen ∙ page-written r.seen bytes page long (omega (arith, fits)))
      (λ other differs. ap (λ seen. page_of seen other) wrote.seen ∙ page-other r.seen (written r.seen (page * UNIT_BYTES) bytes) page other same differs)
      agrees

  -- it was lost, and forgotten
  pub agrees-lost : (was now : Option RowState) → Agrees old was → new.kept ≡ without page old.kept → Goes (LostPage page) was now → Agrees new now
  agrees-lost was now agrees is lost = IfSome-step was now (λ (r : RowState). (p : ℕ) (b : List ℕ) → Contains old.kept (p, b) → page_of r.seen p ≡ b) (λ (s : RowState). (p : ℕ) (b : List ℕ) → Contains new.kept (p, b) → page_of s.seen p ≡ b) agrees lost
      (λ r s agree gone p b kept.
      let other = Contains-without page old.kept (p, b) (rw is at kept) in
      page-other r.seen s.seen page p gone.seen other.0 ∙ agree p b other.1)
