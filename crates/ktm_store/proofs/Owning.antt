-- Frames of pages.
use Rattle.std.proofs.Common.{◌≡◌, ℕ, ◌<◌, ◌^◌, List, [], ◌∷◌, ◌++◌, length, get_or, set, Option, Some, None, sym, ◌∙◌, arith, length-append}
use Rattle.std.proofs.lemmas.Grind.{common_steps}
use Rattle.std.proofs.lemmas.List.{get_or_append_left, get_or_read}
use Rattle.std.specs.Prelude.{◌≢◌}
use Rattle.ktm_store.specs.Frames.{AreOwned, at_in}

-- no other page has a page's own frame
pub alone : (at owner : List (Option ℕ)) (spare : List ℕ) (page frame : ℕ) → AreOwned at owner spare → at_in at page ≡ Some frame → frame ≢ 0 → (other : ℕ) → other ≢ page → at_in at other ≡ Some frame → ⊥
alone at owner spare page frame are is own other apart same =
    let one = are.owned page frame is own in
    let two = are.owned other frame same own in
    let both : other ≡ page = cc in
    apart both

-- a frame more, which is spare
pub owned-add : (at owner : List (Option ℕ)) (spare : List ℕ) → AreOwned at owner spare → length owner < 2 ^ 32 → AreOwned at (owner ++ None ∷ []) (spare ++ length owner ∷ [])
owned-add at owner spare are few = record {
  some = omega (arith, length-append owner (None ∷ []));
  few = omega (arith, few, length-append owner (None ∷ []));
  blank = get_or_append_left owner (None ∷ []) None 0 are.some ∙ are.blank;
  within = λ page frame is. omega (arith, are.within page frame is, length-append owner (None ∷ []));
  owned = λ page frame is own. get_or_append_left owner (None ∷ []) None frame (are.within page frame is) ∙ are.owned page frame is own;
  pages = λ frame page is. grind (arith, common_steps, are.pages frame page);
  free = λ n low. grind (arith, common_steps, are.free n, are.there n);
  own = λ n low. grind (arith, common_steps, are.own n, are.some);
  there = λ n low. grind (arith, common_steps, are.there n);
  once = λ i j a b same. grind (arith, common_steps, are.once i j, are.there i, are.there j);
}

-- a page's own frame is given up
pub owned-less : (at owner : List (Option ℕ)) (spare : List ℕ) (page frame : ℕ) → AreOwned at owner spare → at_in owner frame ≡ Some page → frame < length owner → AreOwned (set at page None) (set owner frame None) (spare ++ frame ∷ [])
owned-less at owner spare page frame are is low = record {
  some = grind (arith, common_steps, are.some);
  few = grind (arith, common_steps, are.few);
  blank = grind (arith, common_steps, are.blank);
  within = λ other its so. grind (arith, common_steps, are.within other its);
  owned = λ other its so own. grind (arith, common_steps, are.owned other its);
  pages = λ other its so. grind (arith, common_steps, are.pages other its);
  free = λ n there. grind (arith, common_steps, are.free n);
  own = λ n there. grind (arith, common_steps, are.own n, are.blank);
  there = λ n there. grind (arith, common_steps, are.there n);
  once = λ i j a b same. grind (arith, common_steps, are.once i j, are.free i, are.free j);
}

-- what was read of a list of frames or pages
pub read-at : (numbers : List (Option ℕ)) (n : ℕ) (found : Option ℕ) (number : ℕ) → n < length numbers → found ≡ get_or numbers n found → found ≡ Some number → at_in numbers n ≡ Some number
read-at numbers n found number low read is = sym (get_or_read numbers n found low read None) ∙ is
