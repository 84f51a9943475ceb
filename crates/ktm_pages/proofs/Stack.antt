-- The stack of free pages, as it is filled from the last page down, and as holders come and go.
use Rattle.std.proofs.Common.{◌≡◌, ◌≢◌, ℕ, zero, suc, ◌+◌, ◌<◌, ◌≤◌, List, [], ◌∷◌, ◌++◌, length, get_or, set, subst, arith, length-append, length-set, get_or-set_same, get_or-set_other}
use Rattle.std.proofs.lemmas.Grind.{common_steps, elements}
use Rattle.ktm_page.specs.Space.{free_below}
use Rattle.ktm_page.proofs.offered.FreePages.{free-changed}
use Rattle.ktm_pages.specs.Pages.{HasFree}

-- how many of the pages below a number are free
abbrev free_to : List ℕ → ℕ → ℕ
free_to each n = free_below (λ page. get_or each page 0) n

-- no more are free than there are
pub free-few : (holders : ℕ → ℕ) (n : ℕ) → free_below holders n ≤ n
free-few holders zero = omega arith
free-few holders (suc n) = let few = free-few holders n in grind (arith, few)

-- where one has a holder, fewer are free than there are
pub free-fewer : (each : List ℕ) (page : ℕ) → page < length each → 0 < get_or each page 0 → free_to each (length each) < length each
free-fewer each page within held =
    let now = set each page 0 in
    let few = free-few (λ p. get_or now p 0) (length each) in
    let gone : get_or now page 0 ≡ 0 = get_or-set_same each page 0 0 within in
    let more = free-changed (λ p. get_or each p 0) (λ p. get_or now p 0) (length each) page within (λ other differs. get_or-set_other each page other 0 0 differs) in
    grind (arith, few, gone, more, held)

-- the pages from this one on that are free are on the stack, the first on top
pub record StackedFrom (from : ℕ) (each stack : List ℕ) : Type 0 where
  pub below : from ≤ length each
  pub within : (k : ℕ) → k < length stack → get_or stack k 0 < length each
  pub above : (k : ℕ) → k < length stack → from ≤ get_or stack k 0
  pub unheld : (k : ℕ) → k < length stack → get_or each (get_or stack k 0) 0 ≡ 0
  pub once : (j k : ℕ) → j < k → k < length stack → get_or stack j 0 ≢ get_or stack k 0
  pub all : length stack + free_to each from ≡ free_to each (length each)

-- there is room for it then
pub stacked-room : (each stack : List ℕ) (page : ℕ) → StackedFrom (suc page) each stack → get_or each page 0 ≡ 0 → length stack < length each
stacked-room each stack page h free =
    let a = h.all in
    let few = free-few (λ p. get_or each p 0) (length each) in
    grind (arith, a, few, free)

-- where a page has no holder any more, it goes onto the stack
pub free-given : (each stack : List ℕ) (page : ℕ) → HasFree each stack → page < length each → 0 < get_or each page 0 → HasFree (set each page 0) (stack ++ page ∷ [])
free-given each stack page h within held = record {
  within = grind (arith, elements, h.within, within);
  unheld = grind (arith, elements, h.unheld, within);
  once = grind (arith, elements, h.once, h.unheld, held);
  all = let now = get_or-set_same each page 0 0 within in
      let changed = free-changed (λ p. get_or each p 0) (λ p. get_or (set each page 0) p 0) (length each) page within (λ other differs. get_or-set_other each page other 0 0 differs) in
      let a = h.all in
      rw length-set (grind (arith, length-append, now, changed, a, held));
}

-- where the page on top gets a holder, it leaves the stack
pub free-taken : (each rest : List ℕ) (page : ℕ) → HasFree each (rest ++ page ∷ []) → HasFree (set each page 1) rest
free-taken each rest page h =
    let long = length-append rest (page ∷ []) in
    let top : get_or (rest ++ page ∷ []) (length rest) 0 ≡ page = grind (arith, common_steps) in
    let within : page < length each = subst (λ p. p < length each) top (h.within (length rest) (omega (arith, long))) in
    let unheld : get_or each page 0 ≡ 0 = subst (λ p. get_or each p 0 ≡ 0) top (h.unheld (length rest) (omega (arith, long))) in
    record {
      within = grind (arith, elements, h.within);
      unheld = grind (arith, elements, h.unheld, h.once, top);
      once = grind (arith, elements, h.once);
      all = let now = get_or-set_same each page 1 0 within in
          let changed = free-changed (λ p. get_or each p 0) (λ p. get_or (set each page 1) p 0) (length each) page within (λ other differs. get_or-set_other each page other 1 0 differs) in
          let a = h.all in
          rw length-set (grind (arith, long, now, changed, a, unheld));
    }
