-- The owners of places on pages that are new.
use Rattle.std.proofs.Common.{◌≡◌, ℕ, zero, suc, ◌+◌, ◌-◌, ◌*◌, ◌/◌, ◌%◌, ◌<◌, ◌≤◌, List, [], ◌∷◌, All, get_or, length, refl, sym, ◌∙◌, ap, subst, arith, inr}
use Rattle.std.specs.Prelude.{◌≢◌}
use Rattle.std.proofs.lemmas.Bool.{eq-eqb, ne_eqb}
use Rattle.std.proofs.lemmas.List.Elements.{All-head, All-tail}
use Rattle.ktm_content.specs.Places.{places_on}
use Rattle.ktm_content.proofs.offered.Placing.{get_or-places_on, length-places_on}
use Rattle.ktm_each.specs.Each.{EachFrom}
use Rattle.ktm_paged.specs.Paged.{Differ, IsOwned, owners_with, page_at}

-- what holds of each byte by its index holds of all
EachFrom-by : (p : ℕ → ℕ → Type 0) (from : ℕ) (bytes : List ℕ) → ((k : ℕ) → k < length bytes → p (from + k) (get_or bytes k 0)) → EachFrom p from bytes
EachFrom-by p from [] each = tt
EachFrom-by p from (b ∷ bs) each =
    let at : from + 0 ≡ from = omega arith in (
      subst (λ n. p n b) at (each 0 (omega arith)),
      EachFrom-by p (suc from) bs (λ k low. let next : from + suc k ≡ suc from + k = omega arith in subst (λ n. p n (get_or bs k 0)) next (each (suc k) (omega (arith, low)))),
    )

module _ (owner : ℕ → ℕ × ℕ) (file : ℕ) where
  -- the owner of a place on one of the pages
  owner-at : (unit : ℕ) (pages : List ℕ) (n i : ℕ) → Differ pages → n < length pages → i < 4096 → owners_with owner file unit pages (get_or pages n 0 * 4096 + i + 1) ≡ (file, (unit + n) * 4096 + i)
  owner-at unit [] n i differ there low = absurd (omega (arith, there))
  owner-at unit (page ∷ pages) zero i differ there low =
      let here : page_at (page * 4096 + i + 1) ≡ page = omega (arith, low) in
      let index : unit * 4096 + (page * 4096 + i + 1 - 1) % 4096 ≡ (unit + 0) * 4096 + i = omega (arith, low) in
      rw (eq-eqb (page_at (page * 4096 + i + 1)) page here) (ap (λ k. (file, k)) index)
  owner-at unit (page ∷ pages) (suc n) i differ there low =
      let on : page_at (get_or pages n 0 * 4096 + i + 1) ≡ get_or pages n 0 = omega (arith, low) in
      let index : (unit + 1 + n) * 4096 + i ≡ (unit + suc n) * 4096 + i = omega arith in
      rw (ne_eqb (page_at (get_or pages n 0 * 4096 + i + 1)) page (λ e. differ.0 n 0 (omega (arith, there)) (sym on ∙ e)))
      (owner-at (unit + 1) pages n i differ.1 (omega (arith, there)) low ∙ ap (λ k. (file, k)) index)

  pub new-owned : (unit : ℕ) (pages : List ℕ) (size : ℕ) → Differ pages → size ≤ length pages * 4096 → EachFrom (IsOwned (owners_with owner file unit pages) file) (unit * 4096) (places_on pages size)
  new-owned unit pages size differ fits = EachFrom-by (IsOwned (owners_with owner file unit pages) file) (unit * 4096) (places_on pages size) each
    where
      each : (k : ℕ) → k < length (places_on pages size) → IsOwned (owners_with owner file unit pages) file (unit * 4096 + k) (get_or (places_on pages size) k 0)
      each k short = inr (
          ap (owners_with owner file unit pages) (ap (λ (n : ℕ). get_or (places_on pages size) n 0) is ∙ get_or-places_on pages size (k / 4096) (k % 4096) (omega (arith, low, fits)) (omega arith) (omega (arith, low, is)))
          ∙ owner-at unit pages (k / 4096) (k % 4096) differ (omega (arith, low, fits)) (omega arith)
          ∙ ap (λ n. (file, n)) index)
        where
          low : k < size
          low = omega (arith, short, length-places_on pages size fits)

          is : k ≡ k / 4096 * 4096 + k % 4096
          is = omega arith

          index : (unit + k / 4096) * 4096 + k % 4096 ≡ unit * 4096 + k
          index = omega arith

  pub others-owned : (unit : ℕ) (pages : List ℕ) (place : ℕ) → All (λ page. page_at place ≢ page) pages → owners_with owner file unit pages place ≡ owner place
  others-owned unit [] place apart = refl
  others-owned unit (page ∷ pages) place apart =
      rw (ne_eqb (page_at place) page (All-head (λ page. page_at place ≢ page) page pages apart)) (others-owned (unit + 1) pages place (All-tail (λ page. page_at place ≢ page) page pages apart))
