-- Transactions by their Ids: those that were brought back, and those of this boot by their numbers.
use Rattle.std.proofs.Common.{◌≡◌, ℕ, ◌+◌, ◌-◌, ◌<◌, ◌≤◌, ◌==◌, ◌&&◌, zero, suc, true, false, List, [], ◌∷◌, ◌++◌, length, get_or, set, nat_le, refl, sym, ◌∙◌, ap, subst, arith, eq-eqb, ne_eqb, length-append, length-set}
use Rattle.std.proofs.lemmas.Bool.{and_from, and_right, and_parts, leb-true, le-leb, lt-ltb, or_left, or_right}
use Rattle.std.specs.List.{list_all}
use Rattle.std.specs.Prelude.{Bool, MatchOption, Option, Some, None, find}
use Rattle.ktm_base.specs.declared.id.Id.{Id}
use Rattle.ktm_world.specs.declared.object.Transaction.{Transaction}
use Rattle.txf_laws.proofs.offered.Tables.{same_id-equal, same_id-from}
use Rattle.ktm_world.specs.Durable.{is_before}
use Rattle.ktm_world.specs.Transactions.{change_at, is_live, same_id, transaction_at}
use Rattle.ktm_manager.specs.Rising.{are_rising, IsAt, IsNowhere}
use Rattle.ktm_manager.proofs.offered.Places.{at_id, rising_push, rising_set, within}
use Rattle.ktm_tm.specs.Listed.{AreListed, AreNumbered, AreSplit, IsAbsent, IsPlace, is_number}
use Rattle.ktm_tm.specs.TmState.{if_live}

abbrev pub id_of : Transaction → Id
id_of t = t.id

-- ---- one by its Id

pub others_live : (ts : List Transaction) (id : Id) → IsNowhere id_of ts id → find (λ t. is_live t && same_id t.id id) ts ≡ None
others_live [] id nowhere = refl
others_live (t ∷ ts) id nowhere = rw (nowhere.0, and_right (is_live t) false refl) (others_live ts id nowhere.1)

pub live_head : (b : Bool) (t : Transaction) (ts : List Transaction) (id : Id) → same_id t.id id ≡ true → is_live t ≡ b → IsNowhere id_of ts id → find (λ t. is_live t && same_id t.id id) (t ∷ ts) ≡ if_live t
live_head true t ts id same is others = rw (same, is) refl
live_head false t ts id same is others = rw (same, is) (others_live ts id others)

-- the first live transaction with an Id is the transaction with it, where that is live
pub found_live : (ts : List Transaction) (id : Id) (i : ℕ) (d : Transaction) → IsAt id_of ts id i → find (λ t. is_live t && same_id t.id id) ts ≡ if_live (get_or ts i d)
found_live [] id i d at = absurd at
found_live (t ∷ ts) id zero d at = live_head (is_live t) t ts id at.0 refl at.1
found_live (t ∷ ts) id (suc i) d at = rw (at.0, and_right (is_live t) false refl) (found_live ts id i d at.1)

named_at : (ts : List Transaction) (id : Id) (i : ℕ) (d : Transaction) → IsAt id_of ts id i → (get_or ts i d).id ≡ id
named_at [] id i d at = absurd at
named_at (t ∷ ts) id zero d at = same_id-equal t.id id at.0
named_at (t ∷ ts) id (suc i) d at = named_at ts id i d at.1

transaction_there : (ts : List Transaction) (id : Id) (i : ℕ) (d : Transaction) → IsAt id_of ts id i → transaction_at ts id ≡ Some (get_or ts i d)
transaction_there [] id i d at = absurd at
transaction_there (t ∷ ts) id zero d at = rw at.0 refl
transaction_there (t ∷ ts) id (suc i) d at = rw at.0 (transaction_there ts id i d at.1)

changed_there : (ts : List Transaction) (id : Id) (i : ℕ) (f : Transaction → Transaction) (d : Transaction) → IsAt id_of ts id i → change_at ts id f ≡ set ts i (f (get_or ts i d))
changed_there [] id i f d at = absurd at
changed_there (t ∷ ts) id zero f d at = rw at.0 refl
changed_there (t ∷ ts) id (suc i) f d at = rw at.0 (ap (λ (l : List Transaction). t ∷ l) (changed_there ts id i f d at.1))

pub at_place : (ts : List Transaction) (id : Id) (i : ℕ) → IsAt id_of ts id i → IsPlace ts id i
at_place ts id i at = record {
  within = within id_of ts id i at;
  named = λ d. named_at ts id i d at;
  found = λ d. transaction_there ts id i d at;
  live = λ d. found_live ts id i d at;
  changes = λ f d. changed_there ts id i f d at;
}

absent_there : (ts : List Transaction) (id : Id) → IsNowhere id_of ts id → transaction_at ts id ≡ None
absent_there [] id nowhere = refl
absent_there (t ∷ ts) id nowhere = rw nowhere.0 (absent_there ts id nowhere.1)

kept_there : (ts : List Transaction) (id : Id) (f : Transaction → Transaction) → IsNowhere id_of ts id → change_at ts id f ≡ ts
kept_there [] id f nowhere = refl
kept_there (t ∷ ts) id f nowhere = rw nowhere.0 (ap (λ (l : List Transaction). t ∷ l) (kept_there ts id f nowhere.1))

pub nowhere_absent : (ts : List Transaction) (id : Id) → IsNowhere id_of ts id → IsAbsent ts id
nowhere_absent ts id nowhere = record {
  absent = absent_there ts id nowhere;
  none_live = others_live ts id nowhere;
  keeps = λ f. kept_there ts id f nowhere;
}

-- ---- one by its number

numbered : (ts : List Transaction) (boot before k : ℕ) (d : Transaction) → AreNumbered boot before ts → k < length ts → (get_or ts k d).id ≡ record { boot = boot; number = before + 1 + k }
numbered [] boot before k d are within = absurd (omega (arith, within))
numbered (t ∷ ts) boot before zero d are within = are.0 ∙ ap (λ (n : ℕ). record { boot = boot; number = n }) (omega arith)
numbered (t ∷ ts) boot before (suc k) d are within = numbered ts boot (before + 1) k d are.1 (omega (arith, within)) ∙ ap (λ (n : ℕ). record { boot = boot; number = n }) (omega arith)

split_at : (ts : List Transaction) (boot : ℕ) (back : List Id) (i k : ℕ) (d : Transaction) → AreSplit boot back ts → i ≡ length back + k → i < length ts → (get_or ts i d).id ≡ record { boot = boot; number = k + 1 }
split_at ts boot [] i k d split is within =
    numbered ts boot 0 i d split within ∙ ap (λ (n : ℕ). record { boot = boot; number = n }) (omega (arith, is))
split_at [] boot (b ∷ back) i k d split is within = absurd split
split_at (t ∷ ts) boot (b ∷ back) zero k d split is within = absurd (omega (arith, is))
split_at (t ∷ ts) boot (b ∷ back) (suc i) k d split is within = split_at ts boot back i k d split.2 (omega (arith, is)) (omega (arith, within))

-- the transaction with a number that was given stands at the place before it, behind those that were brought back
pub place_of : (ts : List Transaction) (boot : ℕ) (back : List Id) (id : Id) (place : ℕ) → AreListed boot back ts → id.boot ≡ boot → is_number (length ts - length back) id.number ≡ true → place + 1 ≡ length back + id.number → IsPlace ts id place
place_of ts boot back id place listed same given is =
    let parts = and_parts (nat_le 1 id.number) (nat_le id.number (length ts - length back)) given in
    let least : 1 ≤ id.number = leb-true _ _ parts.0 in
    let most : id.number ≤ length ts - length back = leb-true _ _ parts.1 in
    let behind = listed.within in
    let within : place < length ts = omega (arith, least, most, is, behind) in
    let named : record { boot = boot; number = id.number - 1 + 1 } ≡ id = ap (λ (n : ℕ). record { boot = boot; number = n }) (omega (arith, least)) ∙ ap (λ (b : ℕ). record { boot = b; number = id.number }) (sym same) in
    at_place ts id place (at_id id_of ts id place listed.rising within (λ d. same_id-from _ _ (split_at ts boot back place (id.number - 1) d listed.split (omega (arith, is, least)) within ∙ named)))

-- a number that was not given names none
not_numbered : (ts : List Transaction) (boot before : ℕ) (id : Id) → AreNumbered boot before ts → ((k : ℕ) → before < k → k ≤ before + length ts → k ≡ id.number → ⊥) → IsNowhere id_of ts id
not_numbered [] boot before id are others = tt
not_numbered (t ∷ ts) boot before id are others = (
  ap (λ i. same_id i id) are.0 ∙ and_right _ _ (ne_eqb (before + 1) id.number (others (before + 1) (omega arith) (omega arith))),
  not_numbered ts boot (before + 1) id are.1 (λ k from to. others k (omega (arith, from)) (omega (arith, to))),
)

not_given : (ts : List Transaction) (boot : ℕ) (back : List Id) (id : Id) → AreSplit boot back ts → id.boot ≡ boot → ((k : ℕ) → 0 < k → k + length back ≤ length ts → k ≡ id.number → ⊥) → IsNowhere id_of ts id
not_given ts boot [] id split same others = not_numbered ts boot 0 id split (λ k from to. others k from (omega (arith, to)))
not_given [] boot (b ∷ back) id split same others = absurd split
not_given (t ∷ ts) boot (b ∷ back) id split same others =
    let number = ap (λ (i : Id). i.boot) split.0 in (
      ap (λ b. b && (t.id.number == id.number)) (ne_eqb t.id.boot id.boot (λ e. omega (arith, e, same, split.1, number))),
      not_given ts boot back id split.2 same (λ k from to. others k from (omega (arith, to))),
    )

pub absent_of : (ts : List Transaction) (boot : ℕ) (back : List Id) (id : Id) → AreListed boot back ts → id.boot ≡ boot → is_number (length ts - length back) id.number ≡ false → IsAbsent ts id
absent_of ts boot back id listed same missing = nowhere_absent ts id (not_given ts boot back id listed.split same (λ k from to is.
    let given : is_number (length ts - length back) id.number ≡ true = and_from _ _ (le-leb 1 id.number (omega (arith, is, from))) (le-leb id.number (length ts - length back) (omega (arith, is, to))) in
    absurd (cc)))

-- ---- one that was brought back

-- one stands where its Id does
back_named : (ts : List Transaction) (boot : ℕ) (back : List Id) (id : Id) (i : ℕ) (d : Transaction) → AreSplit boot back ts → IsAt (λ i. i) back id i → same_id (get_or ts i d).id id ≡ true
back_named ts boot [] id i d split at = absurd at
back_named [] boot (b ∷ back) id i d split at = absurd split
back_named (t ∷ ts) boot (b ∷ back) id zero d split at = subst (λ (x : Id). same_id x id ≡ true) (sym split.0) at.0
back_named (t ∷ ts) boot (b ∷ back) id (suc i) d split at = back_named ts boot back id i d split.2 at.1

back_place : (ts : List Transaction) (boot : ℕ) (back : List Id) (id : Id) (i : ℕ) → AreListed boot back ts → IsAt (λ i. i) back id i → IsPlace ts id i
back_place ts boot back id i listed at =
    let behind = within (λ (i : Id). i) back id i at in
    at_place ts id i (at_id id_of ts id i listed.rising (omega (arith, behind, listed.within)) (λ d. back_named ts boot back id i d listed.split at))

-- none of this boot has an Id of another
not_of_boot : (ts : List Transaction) (boot before : ℕ) (id : Id) → AreNumbered boot before ts → (id.boot ≡ boot → ⊥) → IsNowhere id_of ts id
not_of_boot [] boot before id are other = tt
not_of_boot (t ∷ ts) boot before id are other = (
  ap (λ i. same_id i id) are.0 ∙ ap (λ b. b && (before + 1 == id.number)) (ne_eqb boot id.boot (λ e. other (sym e))),
  not_of_boot ts boot (before + 1) id are.1 other,
)

not_back : (ts : List Transaction) (boot : ℕ) (back : List Id) (id : Id) → AreSplit boot back ts → (id.boot ≡ boot → ⊥) → IsNowhere (λ i. i) back id → IsNowhere id_of ts id
not_back ts boot [] id split other nowhere = not_of_boot ts boot 0 id split other
not_back [] boot (b ∷ back) id split other nowhere = absurd split
not_back (t ∷ ts) boot (b ∷ back) id split other nowhere = (subst (λ (x : Id). same_id x id ≡ false) (sym split.0) nowhere.0, not_back ts boot back id split.2 other nowhere.1)

back_absent : (ts : List Transaction) (boot : ℕ) (back : List Id) (id : Id) → AreListed boot back ts → (id.boot ≡ boot → ⊥) → IsNowhere (λ i. i) back id → IsAbsent ts id
back_absent ts boot back id listed other nowhere = nowhere_absent ts id (not_back ts boot back id listed.split other nowhere)

-- where a search among the Ids ends
pub back_matched : (ts : List Transaction) (boot : ℕ) (back : List Id) (id : Id) (found : Option ℕ) → AreListed boot back ts → (id.boot ≡ boot → ⊥) → MatchOption found (IsNowhere (λ i. i) back id) (IsAt (λ i. i) back id)
    → MatchOption found (IsAbsent ts id) (IsPlace ts id)
back_matched ts boot back id None listed other nowhere = back_absent ts boot back id listed other nowhere
back_matched ts boot back id (Some i) listed other at = back_place ts boot back id i listed at

-- the Ids of those that were brought back rise
back_behind : (ts : List Transaction) (boot : ℕ) (back : List Id) (id : Id) → AreSplit boot back ts → list_all (λ (t : Transaction). is_before id t.id) ts ≡ true → list_all (is_before id) back ≡ true
back_behind ts boot [] id split behind = refl
back_behind [] boot (b ∷ back) id split behind = absurd split
back_behind (t ∷ ts) boot (b ∷ back) id split behind =
    let parts = and_parts (is_before id t.id) (list_all (λ (u : Transaction). is_before id u.id) ts) behind in
    and_from _ _ (subst (λ (x : Id). is_before id x ≡ true) split.0 parts.0) (back_behind ts boot back id split.2 parts.1)

pub back_rising : (ts : List Transaction) (boot : ℕ) (back : List Id) → AreSplit boot back ts → are_rising id_of ts ≡ true → are_rising (λ i. i) back ≡ true
back_rising ts boot [] split rises = refl
back_rising [] boot (b ∷ back) split rises = absurd split
back_rising (t ∷ ts) boot (b ∷ back) split rises =
    let parts = and_parts (list_all (λ (u : Transaction). is_before t.id u.id) ts) (are_rising id_of ts) rises in
    and_from _ _ (subst (λ (x : Id). list_all (is_before x) back ≡ true) split.0 (back_behind ts boot back t.id split.2 parts.0)) (back_rising ts boot back split.2 parts.1)

-- ---- one more

before_by_boot : (a b : Id) → a.boot < b.boot → is_before a b ≡ true
before_by_boot a b low = or_left _ _ (lt-ltb a.boot b.boot low)

before_by_number : (a b : Id) → a.boot ≡ b.boot → a.number < b.number → is_before a b ≡ true
before_by_number a b same low = or_right _ _ (and_from _ _ (eq-eqb a.boot b.boot same) (lt-ltb a.number b.number low))

numbers_before : (ts : List Transaction) (boot before : ℕ) (id : Id) → AreNumbered boot before ts → id.boot ≡ boot → before + length ts < id.number → list_all (λ (t : Transaction). is_before t.id id) ts ≡ true
numbers_before [] boot before id are same behind = refl
numbers_before (t ∷ ts) boot before id are same behind =
    and_from _ _ (before_by_number t.id id (ap (λ i. i.boot) are.0 ∙ sym same) (omega (arith, behind, ap (λ i. i.number) are.0)))
    (numbers_before ts boot (before + 1) id are.1 same (omega (arith, behind)))

split_before : (ts : List Transaction) (boot : ℕ) (back : List Id) (id : Id) → AreSplit boot back ts → id.boot ≡ boot → length ts < length back + id.number → list_all (λ (t : Transaction). is_before t.id id) ts ≡ true
split_before ts boot [] id split same behind = numbers_before ts boot 0 id split same (omega (arith, behind))
split_before [] boot (b ∷ back) id split same behind = absurd split
split_before (t ∷ ts) boot (b ∷ back) id split same behind =
    let number = ap (λ (i : Id). i.boot) split.0 in
    and_from _ _ (before_by_boot t.id id (omega (arith, split.1, same, number))) (split_before ts boot back id split.2 same (omega (arith, behind)))

numbered_push : (ts : List Transaction) (boot before : ℕ) (t : Transaction) → AreNumbered boot before ts → t.id ≡ record { boot = boot; number = before + length ts + 1 } → AreNumbered boot before (ts ++ t ∷ [])
numbered_push [] boot before t are is = (is ∙ ap (λ (n : ℕ). record { boot = boot; number = n }) (omega arith), tt)
numbered_push (x ∷ xs) boot before t are is = (are.0, numbered_push xs boot (before + 1) t are.1 (is ∙ ap (λ (n : ℕ). record { boot = boot; number = n }) (omega arith)))

split_push : (ts : List Transaction) (boot : ℕ) (back : List Id) (t : Transaction) → AreSplit boot back ts → t.id ≡ record { boot = boot; number = length ts - length back + 1 } → AreSplit boot back (ts ++ t ∷ [])
split_push ts boot [] t split is = numbered_push ts boot 0 t split (is ∙ ap (λ (n : ℕ). record { boot = boot; number = n }) (omega arith))
split_push [] boot (b ∷ back) t split is = absurd split
split_push (x ∷ xs) boot (b ∷ back) t split is = (split.0, split.1, split_push xs boot back t split.2 (is ∙ ap (λ (n : ℕ). record { boot = boot; number = n }) (omega arith)))

-- the next one of this boot
pub listed_push : (ts : List Transaction) (boot : ℕ) (back : List Id) (t : Transaction) → AreListed boot back ts → t.id ≡ record { boot = boot; number = length ts - length back + 1 } → AreListed boot back (ts ++ t ∷ [])
listed_push ts boot back t listed is =
    let behind = listed.within in
    record {
      rising = rising_push id_of ts t listed.rising (split_before ts boot back t.id listed.split (ap (λ i. i.boot) is) (omega (arith, behind, ap (λ i. i.number) is)));
      within = omega (arith, length-append ts (t ∷ []), behind);
      split = split_push ts boot back t listed.split is;
    }

split_back : (ts : List Transaction) (boot : ℕ) (back : List Id) (t : Transaction) → AreSplit boot back ts → length ts ≡ length back → t.id.boot < boot → AreSplit boot (back ++ t.id ∷ []) (ts ++ t ∷ [])
split_back [] boot [] t split same earlier = (refl, earlier, tt)
split_back (x ∷ xs) boot [] t split same earlier = absurd (omega (arith, same))
split_back [] boot (b ∷ back) t split same earlier = absurd split
split_back (x ∷ xs) boot (b ∷ back) t split same earlier = (split.0, split.1, split_back xs boot back t split.2 (omega (arith, same)) earlier)

-- one more that is brought back, while there are none of this boot
pub listed_back : (ts : List Transaction) (boot : ℕ) (back : List Id) (t : Transaction) → AreListed boot back ts → length ts ≡ length back → t.id.boot < boot → list_all (λ (u : Transaction). is_before u.id t.id) ts ≡ true → AreListed boot (back ++ t.id ∷ []) (ts ++ t ∷ [])
listed_back ts boot back t listed same earlier behind = record {
  rising = rising_push id_of ts t listed.rising behind;
  within = omega (arith, length-append ts (t ∷ []), length-append back (t.id ∷ []), same);
  split = split_back ts boot back t listed.split same earlier;
}

-- ---- one that changes

numbered_set : (ts : List Transaction) (boot before i : ℕ) (t : Transaction) → AreNumbered boot before ts → i < length ts → (get_or ts i t).id ≡ t.id → AreNumbered boot before (set ts i t)
numbered_set [] boot before i t are within is = absurd (omega (arith, within))
numbered_set (x ∷ xs) boot before zero t are within is = (sym is ∙ are.0, are.1)
numbered_set (x ∷ xs) boot before (suc i) t are within is = (are.0, numbered_set xs boot (before + 1) i t are.1 (omega (arith, within)) is)

split_set : (ts : List Transaction) (boot : ℕ) (back : List Id) (i : ℕ) (t : Transaction) → AreSplit boot back ts → i < length ts → (get_or ts i t).id ≡ t.id → AreSplit boot back (set ts i t)
split_set ts boot [] i t split within is = numbered_set ts boot 0 i t split within is
split_set [] boot (b ∷ back) i t split within is = absurd split
split_set (x ∷ xs) boot (b ∷ back) zero t split within is = (sym is ∙ split.0, split.1, split.2)
split_set (x ∷ xs) boot (b ∷ back) (suc i) t split within is = (split.0, split.1, split_set xs boot back i t split.2 (omega (arith, within)) is)

-- a change that keeps the Id keeps the order
pub listed_set : (ts : List Transaction) (boot : ℕ) (back : List Id) (i : ℕ) (t : Transaction) → AreListed boot back ts → i < length ts → (get_or ts i t).id ≡ t.id → AreListed boot back (set ts i t)
listed_set ts boot back i t listed within is = record {
  rising = rising_set id_of ts i t within is ∙ listed.rising;
  within = omega (arith, length-set ts i t, listed.within);
  split = split_set ts boot back i t listed.split within is;
}
