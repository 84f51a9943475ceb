-- What holds of the places of contents, and of the pages that they lie on.
use Rattle.std.proofs.Common.{◌≡◌, ◌≢◌, ℕ, zero, suc, ◌+◌, ◌*◌, ◌/◌, ◌%◌, ◌<◌, ◌≤◌, List, [], ◌∷◌, length, get_or, All, subst, sym, arith}
use Rattle.std.proofs.lemmas.List.Elements.{All-from_get_or, All-get_or}
use Rattle.ktm_content.specs.Places.{LieOn}
use Rattle.ktm_content.proofs.offered.Bytes.{place-lie}
use Rattle.ktm_each.specs.Each.{EachFrom}
use Rattle.ktm_paged.specs.Paged.{page_at}

-- ---- bytes by their index

module _ (q : ℕ → ℕ → Type 0) where
  pub EachFrom-at : (from : ℕ) (bytes : List ℕ) (k : ℕ) → EachFrom q from bytes → k < length bytes → q (from + k) (get_or bytes k 0)
  EachFrom-at from [] k each low = absurd (omega (arith, low))
  EachFrom-at from (b ∷ bs) zero each low = subst (λ n. q n b) (omega arith) each.0
  EachFrom-at from (b ∷ bs) (suc k) each low = subst (λ n. q n (get_or bs k 0)) (omega arith) (EachFrom-at (suc from) bs k each.1 (omega (arith, low)))

  pub EachFrom-from : (from : ℕ) (bytes : List ℕ) → ((k : ℕ) → k < length bytes → q (from + k) (get_or bytes k 0)) → EachFrom q from bytes
  EachFrom-from from [] at = tt
  EachFrom-from from (b ∷ bs) at = (
    subst (λ n. q n b) (omega arith) (at zero (omega arith)),
    EachFrom-from (suc from) bs (λ k low. subst (λ n. q n (get_or bs k 0)) (omega arith) (at (suc k) (omega (arith, low)))),
  )

-- ---- contents on pages

-- a page that has a unit has the place of its first byte
first-place : (page : ℕ) → page_at (page * 4096 + 0 + 1) ≡ page
first-place page = omega arith

-- what is so of the page of each place is so of the pages
pub pages-each : (P : ℕ → Type 0) (pages contents : List ℕ) → LieOn pages contents → ((k : ℕ) → k < length contents → 1 ≤ get_or contents k 0 → P (page_at (get_or contents k 0))) → All P pages
pages-each P pages contents lie at = All-from_get_or P pages 0 (λ unit low.
    let there : unit * 4096 + 0 < length contents = omega (arith, low, lie.units) in
    let place = place-lie pages contents unit 0 lie (omega arith) there in
    subst P (first-place (get_or pages unit 0)) (subst (λ place. P (page_at place)) place (at (unit * 4096 + 0) there (omega (arith, place)))))

-- each place is on a page, of which it is so
pub places-each : (P : ℕ → Type 0) (pages contents : List ℕ) → LieOn pages contents → All P pages → (k : ℕ) → k < length contents → P (page_at (get_or contents k 0))
places-each P pages contents lie all k low = subst P is (All-get_or P pages (k / 4096) 0 unit all)
  where
    unit : k / 4096 < length pages
    unit = omega (arith, low, lie.units)

    index : k / 4096 * 4096 + k % 4096 ≡ k
    index = omega arith

    place : get_or contents k 0 ≡ get_or pages (k / 4096) 0 * 4096 + k % 4096 + 1
    place = subst (λ n. get_or contents n 0 ≡ get_or pages (k / 4096) 0 * 4096 + k % 4096 + 1) index (place-lie pages contents (k / 4096) (k % 4096) lie (omega arith) (omega (arith, index, low)))

    is : get_or pages (k / 4096) 0 ≡ page_at (get_or contents k 0)
    is = omega (arith, place)
