-- The slots of a cache, as a page is found, put and forgotten.
use Rattle.std.proofs.Common.{◌≡◌, ◌≢◌, ℕ, zero, suc, ◌+◌, ◌-◌, ◌<◌, ◌≤◌, nat_eq, Bool, List, [], ◌∷◌, ◌++◌, length, get_or, set, take, Contains, Option, None, Some, refl, sym, ◌∙◌, ap, subst, inl, inr, eq-eqb, arith, add-one, get_or-set_other}
use Rattle.std.proofs.lemmas.Bool.{cases_Bool, cases_eq, ne_eqb}
use Rattle.std.specs.Map.{lookup_entry, remove_entry}
use Rattle.lru.specs.LruCache.{LruCache, lru_cache, put_entries}
use Rattle.lru.proofs.Splits.{Contains-head, Contains-tail}
use Rattle.ktm_pages.specs.Cache.{most_kept, without}
use Rattle.ktm_pages.specs.Slots.{AreApart, AreBelow, AreFree, ArePacked, AreSlots, IsAway, Slots, free_slots, kept_in, last_slot, slot_for, slot_of}
use Rattle.ktm_pages.proofs.Numbered.{away-lookup, last-removed, length-removed, without-same}

-- ---- what is kept in some of the slots

-- none, where they are free
kept-free : (bytes : List (List ℕ)) (slots : Slots) → AreFree slots → kept_in bytes slots ≡ []
kept-free bytes [] free = refl
kept-free bytes (s ∷ slots) free = rw free.0 (kept-free bytes slots free.1)

free-removed : (test : ℕ → Bool) (slots : Slots) → AreFree slots → AreFree (remove_entry test slots)
free-removed test [] free = free
free-removed test (s ∷ slots) free = elim (cases_Bool (test s.0)) [
  | inl passes ↦ rw passes free.1
  | inr fails ↦ rw fails (free.0, free-removed test slots free.1)
]

free-take : (n : ℕ) (slots : Slots) → AreFree slots → AreFree (take n slots)
free-take zero slots free = tt
free-take (suc n) [] free = tt
free-take (suc n) (s ∷ slots) free = (free.0, free-take n slots free.1)

free-behind : (slot : ℕ) (slots : Slots) → AreFree slots → AreFree (slots ++ (slot, None) ∷ [])
free-behind slot [] free = (refl, tt)
free-behind slot (s ∷ slots) free = (free.0, free-behind slot slots free.1)

free-packed : (slots : Slots) → AreFree slots → ArePacked slots
free-packed [] free = tt
free-packed (s ∷ slots) free = rw free.0 free.1

packed-removed-at : (test : ℕ → Bool) (slot : ℕ) (page : Option ℕ) (slots : Slots) → ArePacked ((slot, page) ∷ slots) → (ArePacked slots → ArePacked (remove_entry test slots)) → ArePacked (remove_entry test ((slot, page) ∷ slots))
packed-removed-at test slot None slots packed rest = elim (cases_Bool (test slot)) [
  | inl passes ↦ rw passes (free-packed slots packed)
  | inr fails ↦ rw fails (free-removed test slots packed)
]
packed-removed-at test slot (Some page) slots packed rest = elim (cases_Bool (test slot)) [
  | inl passes ↦ rw passes packed
  | inr fails ↦ rw fails (rest packed)
]

pub packed-removed : (test : ℕ → Bool) (slots : Slots) → ArePacked slots → ArePacked (remove_entry test slots)
packed-removed test [] packed = packed
packed-removed test (s ∷ slots) packed = packed-removed-at test s.0 s.1 slots packed (packed-removed test slots)

packed-behind-at : (last slot : ℕ) (page : Option ℕ) (slots : Slots) → ArePacked ((slot, page) ∷ slots) → (ArePacked slots → ArePacked (slots ++ (last, None) ∷ [])) → ArePacked ((slot, page) ∷ slots ++ (last, None) ∷ [])
packed-behind-at last slot None slots packed rest = free-behind last slots packed
packed-behind-at last slot (Some page) slots packed rest = rest packed

pub packed-behind : (last : ℕ) (slots : Slots) → ArePacked slots → ArePacked (slots ++ (last, None) ∷ [])
packed-behind last [] packed = tt
packed-behind last (s ∷ slots) packed = packed-behind-at last s.0 s.1 slots packed (packed-behind last slots)

-- a slot behind them that is free keeps nothing
kept-behind-at : (bytes : List (List ℕ)) (last slot : ℕ) (page : Option ℕ) (slots : Slots) → kept_in bytes (slots ++ (last, None) ∷ []) ≡ kept_in bytes slots → kept_in bytes ((slot, page) ∷ slots ++ (last, None) ∷ []) ≡ kept_in bytes ((slot, page) ∷ slots)
kept-behind-at bytes last slot None slots rest = rest
kept-behind-at bytes last slot (Some page) slots rest = ap (λ es. (page, get_or bytes slot []) ∷ es) rest

pub kept-behind : (bytes : List (List ℕ)) (last : ℕ) (slots : Slots) → kept_in bytes (slots ++ (last, None) ∷ []) ≡ kept_in bytes slots
kept-behind bytes last [] = refl
kept-behind bytes last (s ∷ slots) = kept-behind-at bytes last s.0 s.1 slots (kept-behind bytes last slots)

-- the bytes of a slot that is not among them count for nothing
kept-set-at : (bytes : List (List ℕ)) (slot : ℕ) (b : List ℕ) (other : ℕ) (page : Option ℕ) (slots : Slots) → other ≢ slot → kept_in (set bytes slot b) slots ≡ kept_in bytes slots → kept_in (set bytes slot b) ((other, page) ∷ slots) ≡ kept_in bytes ((other, page) ∷ slots)
kept-set-at bytes slot b other None slots differs rest = rest
kept-set-at bytes slot b other (Some page) slots differs rest = rw (get_or-set_other bytes slot other b [] differs) (ap (λ es. (page, get_or bytes other []) ∷ es) rest)

pub kept-set : (bytes : List (List ℕ)) (slot : ℕ) (b : List ℕ) (slots : Slots) → IsAway slot slots → kept_in (set bytes slot b) slots ≡ kept_in bytes slots
kept-set bytes slot b [] away = refl
kept-set bytes slot b (s ∷ slots) away = kept-set-at bytes slot b s.0 s.1 slots away.0 (kept-set bytes slot b slots away.1)

-- where the free ones are last, the first pages are in the first slots
kept-take-at : (bytes : List (List ℕ)) (n slot : ℕ) (page : Option ℕ) (slots : Slots) → ArePacked ((slot, page) ∷ slots) → (ArePacked slots → take n (kept_in bytes slots) ≡ kept_in bytes (take n slots)) → take (suc n) (kept_in bytes ((slot, page) ∷ slots)) ≡ kept_in bytes ((slot, page) ∷ take n slots)
kept-take-at bytes n slot None slots packed rest = rw (kept-free bytes slots packed, kept-free bytes (take n slots) (free-take n slots packed)) refl
kept-take-at bytes n slot (Some page) slots packed rest = ap (λ es. (page, get_or bytes slot []) ∷ es) (rest packed)

kept-take : (bytes : List (List ℕ)) (n : ℕ) (slots : Slots) → ArePacked slots → take n (kept_in bytes slots) ≡ kept_in bytes (take n slots)
kept-take bytes zero slots packed = refl
kept-take bytes (suc n) [] packed = refl
kept-take bytes (suc n) (s ∷ slots) packed = kept-take-at bytes n s.0 s.1 slots packed (kept-take bytes n slots)

-- ---- a page that is kept

-- a slot has the page
pub record Has (page slot : ℕ) (bytes : List (List ℕ)) (slots : Slots) : Type 0 where
  pub there : lookup_entry (nat_eq slot) slots ≡ Some (slot, Some page)
  pub rest : without page (kept_in bytes slots) ≡ kept_in bytes (remove_entry (nat_eq slot) slots)
  pub kept : Contains (kept_in bytes slots) (page, get_or bytes slot [])

-- what is found is another one than one that is away
found-other : (slot other : ℕ) (slots : Slots) (s : ℕ × Option ℕ) → IsAway other slots → lookup_entry (nat_eq slot) slots ≡ Some s → slot ≢ other
found-other slot other slots s away there same = let none = away-lookup other slots away in let found = subst (λ n. lookup_entry (nat_eq n) slots ≡ Some s) same there in cc

has-behind-free : (page slot : ℕ) (bytes : List (List ℕ)) (other : ℕ) (slots : Slots) → IsAway other slots → Has page slot bytes slots → Has page slot bytes ((other, None) ∷ slots)
has-behind-free page slot bytes other slots away h =
    let differs = ne_eqb slot other (found-other slot other slots (slot, Some page) away h.there) in
    record { there = rw differs h.there; rest = rw differs h.rest; kept = h.kept }

has-behind : (page slot : ℕ) (bytes : List (List ℕ)) (other p : ℕ) (slots : Slots) → IsAway other slots → p ≢ page → Has page slot bytes slots → Has page slot bytes ((other, Some p) ∷ slots)
has-behind page slot bytes other p slots away unlike h =
    let differs = ne_eqb slot other (found-other slot other slots (slot, Some page) away h.there) in
    record {
      there = rw differs h.there;
      rest = rw (ne_eqb p page unlike, differs) (ap (λ es. (p, get_or bytes other []) ∷ es) h.rest);
      kept = Contains-tail (p, get_or bytes other []) (kept_in bytes slots) (page, get_or bytes slot []) h.kept;
    }

has-first : (page slot : ℕ) (bytes : List (List ℕ)) (slots : Slots) → IsAway page (kept_in bytes slots) → Has page slot bytes ((slot, Some page) ∷ slots)
has-first page slot bytes slots away =
    let here = eq-eqb slot slot refl in
    record {
      there = rw here refl;
      rest = rw (eq-eqb page page refl, here) (without-same page (kept_in bytes slots) away);
      kept = Contains-head (page, get_or bytes slot []) (kept_in bytes slots);
    }

has-at : (page slot : ℕ) (bytes : List (List ℕ)) (other : ℕ) (p : Option ℕ) (slots : Slots) → IsAway other slots → AreApart (kept_in bytes ((other, p) ∷ slots)) → slot_of page ((other, p) ∷ slots) ≡ Some slot
    → (AreApart (kept_in bytes slots) → slot_of page slots ≡ Some slot → Has page slot bytes slots) → Has page slot bytes ((other, p) ∷ slots)
has-at page slot bytes other None slots away pages is rest = has-behind-free page slot bytes other slots away (rest pages is)
has-at page slot bytes other (Some p) slots away pages is rest = elim (cases_eq p page) [
  | inl same ↦ (let here : Some other ≡ Some slot = rw (eq-eqb p page same) at is in
      let at : other ≡ slot = cc in
      subst (λ n. Has page slot bytes ((n, Some p) ∷ slots)) (sym at) (subst (λ q. Has page slot bytes ((slot, Some q) ∷ slots)) (sym same) (has-first page slot bytes slots (subst (λ q. IsAway q (kept_in bytes slots)) same pages.0))))
  | inr unlike ↦ has-behind page slot bytes other p slots away unlike (rest pages.1 (rw (ne_eqb p page unlike) at is))
]

pub has : (page slot : ℕ) (bytes : List (List ℕ)) (slots : Slots) → AreApart slots → AreApart (kept_in bytes slots) → slot_of page slots ≡ Some slot → Has page slot bytes slots
has page slot bytes [] apart pages is = cc
has page slot bytes (s ∷ slots) apart pages is = has-at page slot bytes s.0 s.1 slots apart.0 pages is (has page slot bytes slots apart.1)

-- a page that no slot has is not kept
kept-away-at : (page : ℕ) (bytes : List (List ℕ)) (slot : ℕ) (p : Option ℕ) (slots : Slots) → slot_of page ((slot, p) ∷ slots) ≡ None → (slot_of page slots ≡ None → IsAway page (kept_in bytes slots)) → IsAway page (kept_in bytes ((slot, p) ∷ slots))
kept-away-at page bytes slot None slots none rest = rest none
kept-away-at page bytes slot (Some p) slots none rest = elim (cases_eq p page) [
  | inl same ↦ (let here : Some slot ≡ None = rw (eq-eqb p page same) at none in cc)
  | inr unlike ↦ (unlike, rest (rw (ne_eqb p page unlike) at none))
]

pub kept-away : (page : ℕ) (bytes : List (List ℕ)) (slots : Slots) → slot_of page slots ≡ None → IsAway page (kept_in bytes slots)
kept-away page bytes [] none = tt
kept-away page bytes (s ∷ slots) none = kept-away-at page bytes s.0 s.1 slots none (kept-away page bytes slots)

-- ---- the slot for a page

-- the slot for a page is there, and the others have the other pages, and all but the one that was used longest ago where there are too many
pub record Serves (page slot : ℕ) (bytes : List (List ℕ)) (slots : Slots) : Type 0 where
  pub has : Option ℕ
  pub there : lookup_entry (nat_eq slot) slots ≡ Some (slot, has)
  pub rest : take (most_kept - 1) (without page (kept_in bytes slots)) ≡ kept_in bytes (remove_entry (nat_eq slot) slots)

take-all : {X : Type 0} (n : ℕ) (xs : List X) → length xs ≤ n → take n xs ≡ xs
take-all zero [] few = refl
take-all zero (x ∷ xs) few = absurd (omega (arith, few))
take-all (suc n) [] few = refl
take-all (suc n) (x ∷ xs) few = ap (λ ys. x ∷ ys) (take-all n xs (omega (arith, few)))

pub serves-has : (page slot : ℕ) (bytes : List (List ℕ)) (slots : Slots) → AreSlots bytes slots → Has page slot bytes slots → Serves page slot bytes slots
serves-has page slot bytes slots h hit =
    let short = length-removed (nat_eq slot) slots (slot, Some page) hit.there in
    let all = h.all in
    let packed = packed-removed (nat_eq slot) slots h.packed in
    record {
      has = Some page;
      there = hit.there;
      rest = ap (take (most_kept - 1)) hit.rest ∙ kept-take bytes (most_kept - 1) (remove_entry (nat_eq slot) slots) packed ∙ ap (kept_in bytes) (take-all (most_kept - 1) (remove_entry (nat_eq slot) slots) (omega (arith, short, all)));
    }

serves-last : (page : ℕ) (bytes : List (List ℕ)) (slots : Slots) → AreSlots bytes slots → slot_of page slots ≡ None → Serves page (last_slot slots) bytes slots
serves-last page bytes slots h none =
    let all = h.all in
    let last = last-removed slots (most_kept - 1) (0, None) all h.apart in
    let at : length slots - 1 ≡ most_kept - 1 = omega (arith, all) in
    subst (λ n. Serves page (get_or slots n (0, None)).0 bytes slots) (sym at) (record {
      has = (get_or slots (most_kept - 1) (0, None)).1;
      there = last.0;
      rest = ap (take (most_kept - 1)) (without-same page (kept_in bytes slots) (kept-away page bytes slots none)) ∙ kept-take bytes (most_kept - 1) slots h.packed ∙ sym (ap (kept_in bytes) last.1);
    })

serves-at : (page : ℕ) (bytes : List (List ℕ)) (slots : Slots) → AreSlots bytes slots → (o : Option ℕ) → slot_of page slots ≡ o → Serves page (slot_for page slots) bytes slots
serves-at page bytes slots h None is = rw is (serves-last page bytes slots h is)
serves-at page bytes slots h (Some slot) is = rw is (serves-has page slot bytes slots h (has page slot bytes slots h.apart h.pages is))

pub serves : (page : ℕ) (bytes : List (List ℕ)) (slots : Slots) → AreSlots bytes slots → Serves page (slot_for page slots) bytes slots
serves page bytes slots h = serves-at page bytes slots h (slot_of page slots) refl

-- ---- at first

free-away : (number n : ℕ) → n ≤ number → IsAway number (free_slots n)
free-away number zero few = tt
free-away number (suc n) few = ((λ same. omega (arith, same, few)), free-away number n (omega (arith, few)))

free-apart : (n : ℕ) → AreApart (free_slots n)
free-apart zero = tt
free-apart (suc n) = (free-away n n (omega arith), free-apart n)

free-below : (end n : ℕ) → n ≤ end → AreBelow end (free_slots n)
free-below end zero few = tt
free-below end (suc n) few = (omega (arith, few), free-below end n (omega (arith, few)))

free-all : (n : ℕ) → AreFree (free_slots n)
free-all zero = tt
free-all (suc n) = (refl, free-all n)

free-long : (n : ℕ) → length (free_slots n) ≡ n
free-long zero = refl
free-long (suc n) = let rest = free-long n in omega (arith, rest)

pub slots-free : (bytes : List (List ℕ)) → length bytes ≡ most_kept → AreSlots bytes (free_slots most_kept)
slots-free bytes long = record {
  apart = free-apart most_kept;
  pages = subst (λ (es : List (ℕ × List ℕ)). AreApart es) (sym (kept-free bytes (free_slots most_kept) (free-all most_kept))) tt;
  packed = free-packed (free_slots most_kept) (free-all most_kept);
  below = free-below most_kept most_kept (omega arith);
  all = free-long most_kept;
  places = long;
}

-- one slot more
pub put-free : (c : LruCache ℕ (Option ℕ)) (n : ℕ) → n < most_kept → c ≡ lru_cache (free_slots n) most_kept → lru_cache (put_entries nat_eq c n None) c.cap ≡ lru_cache (free_slots (n + 1)) most_kept
put-free c n few is =
    let none = away-lookup n (free_slots n) (free-away n n (omega arith)) in
    let long = free-long n in
    let all = take-all (most_kept - 1) (free_slots n) (omega (arith, long, few)) in
    rw (is, none, all, add-one) refl
