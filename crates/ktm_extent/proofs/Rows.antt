-- A row of pages in which free ones are written.
use Rattle.std.proofs.Common.{◌≡◌, ◌≢◌, ◌⊎◌, ℕ, ◌+◌, ◌-◌, ◌*◌, ◌<◌, ◌≤◌, false, List, [], ◌∷◌, ◌++◌, length, get_or, take, drop, refl, sym, ◌∙◌, ap, subst, arith, inl, inr, length-take, length-drop, length-append, append_assoc}
use Rattle.std.proofs.lemmas.Bool.{cases_lt}
use Rattle.std.proofs.lemmas.Bool.Decides.{nat_tests}
use Rattle.std.proofs.lemmas.Grind.{same_number_lists}
use Rattle.std.proofs.lemmas.List.{drop_at, get_or_append_left, get_or_at, take_at}
use Rattle.ktm_base.specs.Bytes.{SameOutside, covers, written}
use Rattle.ktm_base.proofs.offered.Images.{same_written}
use Rattle.ktm_page.specs.Row.{LostPage, RowState, WrotePage, page_of}
use Rattle.ktm_world.specs.Tree.{put_over}
use Rattle.ktm_extent.specs.Extent.{AreBelow, AreOut, ExtentState, uses_in}
use Rattle.ktm_extent.specs.Calls.{OnlyFree}
use Rattle.ktm_extent.specs.Units.{AreWritten, IsUnit, WroteUnit, target}
use Rattle.ktm_extent.proofs.offered.Contents.{contents-kept, get_or-page}
use Rattle.ktm_extent.proofs.Uses.{uses-at}

-- ---- one page

not-covered : (at len k : ℕ) → (k < at) ⊎ (at + len ≤ k) → covers ((at, len) ∷ []) k ≡ false
not-covered at len k out = grind (arith, nat_tests)

length-page_of : (seen : List ℕ) (page : ℕ) → (length (page_of seen page) ≤ 4096) × ((other : List ℕ) → length other ≡ length seen → length (page_of other page) ≡ length (page_of seen page))
length-page_of seen page = (
  omega (arith, length-take (page * 4096 + 4096 - page * 4096) (drop (page * 4096) seen)),
  λ other same. omega (arith, same, length-take (page * 4096 + 4096 - page * 4096) (drop (page * 4096) seen), length-take (page * 4096 + 4096 - page * 4096) (drop (page * 4096) other), length-drop (page * 4096) seen, length-drop (page * 4096) other),
)

pub short-page : (seen : List ℕ) (page : ℕ) → length (page_of seen page) ≤ 4096
short-page seen page = (length-page_of seen page).0

-- another page is as it was
pub other-page : (page other : ℕ) (old new : List ℕ) → SameOutside ((page * 4096, 4096) ∷ []) old new → other ≢ page → page_of new other ≡ page_of old other
other-page page other old new same differs =
    same_number_lists (page_of new other) (page_of old other) ((length-page_of old other).1 new same.same_length) (λ i low.
    let below : i < 4096 = omega (arith, low, (length-page_of new other).0) in
    let out : covers ((page * 4096, 4096) ∷ []) (other * 4096 + i) ≡ false = not-covered (page * 4096) 4096 (other * 4096 + i) (away i below) in
    get_or-page new other i below ∙ same.others (other * 4096 + i) out ∙ sym (get_or-page old other i below))
  where
    away : (i : ℕ) → i < 4096 → (other * 4096 + i < page * 4096) ⊎ (page * 4096 + 4096 ≤ other * 4096 + i)
    away i below = elim (cases_lt other page) [
      | inl before ↦ inl (omega (arith, before, below))
      | inr from ↦ elim (cases_lt page other) [ inl behind ↦ inr (omega (arith, behind)) | inr upto ↦ absurd (differs (omega (arith, from, upto))) ]
    ]

-- a page that was written has those bytes
written-page : (page : ℕ) (old bytes : List ℕ) → length bytes ≡ 4096 → page * 4096 + 4096 ≤ length old → page_of (written old (page * 4096) bytes) page ≡ bytes
written-page page old bytes full fits =
    ap (λ (l : List ℕ). take (page * 4096 + 4096 - page * 4096) (drop (page * 4096) l)) (append_assoc (take (page * 4096) old) bytes (drop (page * 4096 + length bytes) old))
    ∙ ap (λ (l : List ℕ). take (page * 4096 + 4096 - page * 4096) l) (drop_at (take (page * 4096) old) (bytes ++ drop (page * 4096 + length bytes) old) (page * 4096) (omega (arith, length-take (page * 4096) old)))
    ∙ take_at bytes (drop (page * 4096 + length bytes) old) (page * 4096 + 4096 - page * 4096) (omega (arith, full))

-- a unit was written with a page
pub wrote-unit : (f : List ℕ → List ℕ) (unit page count : ℕ) (bytes : List ℕ) (r s : RowState) → count * 4096 ≤ length r.seen → page < count → length bytes ≡ 4096 → IsUnit (f r.seen) unit bytes → WrotePage page bytes r s → WroteUnit f unit page r s
wrote-unit f unit page count bytes r s long below full is wrote = record {
  lost = record {
    seen = subst (λ n. SameOutside ((page * 4096, n) ∷ []) r.seen s.seen) full (subst (λ l. SameOutside ((page * 4096, length bytes) ∷ []) r.seen l) (sym wrote.seen) (same_written r.seen (page * 4096) bytes (omega (arith, long, below, full))));
    dirty = wrote.dirty;
    front = wrote.front;
  };
  holds = subst (λ l. IsUnit (f r.seen) unit l) (sym (ap (λ l. page_of l page) wrote.seen ∙ written-page page r.seen bytes full (omega (arith, long, below)))) is;
}

-- ---- pages that were free

pub only-none : (count : ℕ) (held : ℕ → ℕ) (r : RowState) → OnlyFree count held r r
only-none count held r = record { kept = λ page below out. refl; dirty = λ page there. inr there; front = refl }

pub only-lost : (count page : ℕ) (held : ℕ → ℕ) (r s t : RowState) → held page ≡ 0 → OnlyFree count held r s → LostPage page s t → OnlyFree count held r t
only-lost count page held r s t free only lost = record {
  kept = λ other below out. other-page page other s.seen t.seen lost.seen (λ is. absurd (omega (arith, out, ap held is, free))) ∙ only.kept other below out;
  dirty = λ dirty there. elim (lost.dirty dirty there) [ inl is ↦ inl (ap held is ∙ free) | inr was ↦ only.dirty dirty was ];
  front = lost.front ∙ only.front;
}

-- one unit more is written
pub written-more : (e : ExtentState) (at first unit page count : ℕ) (bytes pages : List ℕ) (held : ℕ → ℕ) (r s t : RowState) → AreBelow count e → AreOut held e → held page ≡ 0 → uses_in pages page ≡ 0 → unit ≡ first + length pages
    → AreWritten (target e at bytes) first pages count held r s → WroteUnit (target e at bytes) unit page s t → AreWritten (target e at bytes) first (pages ++ page ∷ []) count held r t
written-more e at first unit page count bytes pages held r s t below out free none is so wrote = record {
  only = only-lost count page held r s t free so.only wrote.lost;
  units = record {
    each = λ k low. elim (cases_lt k (length pages)) [
      | inl earlier ↦ (
          let p = get_or pages k 0 in
          let at_k : get_or (pages ++ page ∷ []) k 0 ≡ p = get_or_append_left pages (page ∷ []) 0 k earlier in
          let differs : p ≢ page = λ same. absurd (omega (arith, none, subst (λ q. 0 < uses_in pages q) same (uses-at pages k earlier))) in
          let kept : page_of s.seen p ≡ page_of t.seen (get_or (pages ++ page ∷ []) k 0) = sym (other-page page p s.seen t.seen wrote.lost.seen differs) ∙ ap (λ q. page_of t.seen q) (sym at_k) in
          subst (λ l. IsUnit (target e at bytes r.seen) (first + k) l) kept (so.units.each k earlier))
      | inr last ↦ (
          let k_is : length pages ≡ k = omega (arith, low, last, length-append pages (page ∷ [])) in
          let at_k : get_or (pages ++ page ∷ []) k 0 ≡ page = get_or_at pages page [] 0 k k_is in
          let same : target e at bytes s.seen ≡ target e at bytes r.seen = ap (λ old. put_over old at bytes) (contents-kept count held e r s below out so.only) in
          subst (λ q. IsUnit (target e at bytes r.seen) (first + k) (page_of t.seen q)) (sym at_k)
          (subst (λ u. IsUnit (target e at bytes r.seen) u (page_of t.seen page)) (omega (arith, is, k_is)) (subst (λ l. IsUnit l unit (page_of t.seen page)) same wrote.holds)))
    ];
  };
}
