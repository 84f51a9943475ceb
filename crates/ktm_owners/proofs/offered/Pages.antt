-- The pages of contents, and tests of them.
use Rattle.std.specs.Prelude.{nat_lt}
use Rattle.std.proofs.Common.{◌≡◌, ℕ, ◌+◌, ◌*◌, ◌<◌, ◌==◌, ◌&&◌, true, List, [], ◌∷◌, All, length, get_or, refl, sym, ◌∙◌, ap, subst, arith, inl, inr}
use Rattle.std.specs.List.{list_all}
use Rattle.std.proofs.lemmas.Bool.{and_from, and_parts, cases_Bool, eq-eqb, eqb-false, eqb-true, lt-ltb, ltb-true, ne_eqb}
use Rattle.std.proofs.lemmas.List.Elements.{All-cons, All-head, All-nil, All-tail}
use Rattle.ktm_content.specs.Places.{LieOn}
use Rattle.ktm_content.proofs.offered.Bytes.{one-list, place-lie}
use Rattle.ktm_owners.specs.Owners.{has_unit}
use Rattle.ktm_paged.specs.Paged.{LiesBelow}

pub pages-below : (count : ℕ) (pages : List ℕ) → list_all (λ page. nat_lt page count) pages ≡ true → All (λ page. page < count) pages
pages-below count [] is = All-nil (λ page. page < count)
pages-below count (page ∷ pages) is =
    let both = and_parts (nat_lt page count) (list_all (λ p. nat_lt p count) pages) is in
    All-cons (λ p. p < count) page pages (ltb-true page count both.0) (pages-below count pages both.1)

pub below-pages : (count : ℕ) (pages : List ℕ) → All (λ page. page < count) pages → list_all (λ page. nat_lt page count) pages ≡ true
below-pages count [] all = refl
below-pages count (page ∷ pages) all =
    and_from (nat_lt page count) (list_all (λ p. nat_lt p count) pages) (lt-ltb page count (All-head (λ p. p < count) page pages all)) (below-pages count pages (All-tail (λ p. p < count) page pages all))

module _ (pages contents : List ℕ) (lie : LieOn pages contents) where
  -- the contents lie below exactly where these pages do
  pub lies-tested : (count : ℕ) → list_all (λ page. nat_lt page count) pages ≡ true → LiesBelow count contents
  lies-tested count is = record { pages = pages; lie = lie; below = pages-below count pages is }

  pub tested-lies : (count : ℕ) → LiesBelow count contents → list_all (λ page. nat_lt page count) pages ≡ true
  tested-lies count lies = below-pages count pages (subst (All (λ page. page < count)) (one-list lies.pages pages contents lies.lie lie) lies.below)

  -- a unit lies on the page that stands at its place
  pub unit-tested : (unit page : ℕ) → unit < length pages → (get_or pages unit 0 == page) ≡ has_unit contents unit page
  unit-tested unit page there = elim (cases_Bool (get_or pages unit 0 == page)) [
    | inl same ↦ same ∙ sym (and_from _ _ small (eq-eqb _ _ (first ∙ ap (λ n. n * 4096 + 1) (eqb-true _ _ same))))
    | inr other ↦ other ∙ sym (ap (λ b. b && (get_or contents (unit * 4096) 0 == page * 4096 + 1)) small ∙ ne_eqb _ _ (λ e. eqb-false _ _ other (let is = sym first ∙ e in omega (arith, is))))
  ]
    where
      low : unit * 4096 < length contents
      low = omega (arith, there, lie.units)

      small : nat_lt (unit * 4096) (length contents) ≡ true
      small = lt-ltb (unit * 4096) (length contents) low

      first : get_or contents (unit * 4096) 0 ≡ get_or pages unit 0 * 4096 + 1
      first = let back : unit * 4096 ≡ unit * 4096 + 0 = omega arith in ap (λ k. get_or contents k 0) back ∙ place-lie pages contents unit 0 lie (omega arith) (omega (arith, low)) ∙ omega arith
