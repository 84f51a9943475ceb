-- Lemmas on the open files in order, each with its key.
use Rattle.std.proofs.Common.{◌≡◌, ◌+◌, Bool, true, false, cond, not, List, [], ◌∷◌, count_by, filter, Some, None, refl, sym, ap, ◌∙◌, inl, inr, arith}
use Rattle.std.specs.List.{list_any, find}
use Rattle.std.proofs.lemmas.Bool.{cases_Bool, or_cases, or_left, or_right, or_parts}
use Rattle.std.proofs.lemmas.List.Sums.{sum_by-cons}
use Rattle.std.proofs.lemmas.Option.{same_Some}
use Rattle.ktm_world.specs.Files.{OpenFile}
use Rattle.ktm_links.specs.declared.list.Key.{Key}
use Rattle.ktm_links.specs.Items.{Item, same_key, value_at, without}
use Rattle.ktm_links.specs.Indexed.{AreDistinct}
use Rattle.ktm_links.proofs.offered.Keys.{same_key-true, same_key-self}
use Rattle.txf_opens.specs.declared.file.OpenFile.{OpenFile as Kept}
use Rattle.txf_opens.specs.Indexed.{opens_of}
use Rattle.txf_opens.specs.Acts.{open_of}

-- the first one is there under its key
pub value_at-here : (x : Item Kept) (xs : List (Item Kept)) → value_at (x ∷ xs) x.key ≡ Some x.value
value_at-here x xs = rw (same_key-self x.key x.key refl) refl

-- each one behind the first is there under its own key
pub value_at-behind : (x : Item Kept) (xs : List (Item Kept)) (key : Key) (e : Kept) → AreDistinct (x ∷ xs) → value_at xs key ≡ Some e → value_at (x ∷ xs) key ≡ Some e
value_at-behind x xs key e distinct there =
    elim (cases_Bool (same_key x.key key)) [
      | inl same ↦ absurd (let none = ap (value_at xs) (sym (same_key-true x.key key same)) ∙ distinct.0 in cc)
      | inr differs ↦ rw differs there
    ]

-- ---- whether one passes a test
-- an open file that passes
pub record IsListed (p : OpenFile → Bool) (items : List (Item Kept)) : Type 0 where
  pub key : Key
  pub file : Kept
  pub there : value_at items key ≡ Some file
  pub so : p (open_of file) ≡ true

pub any_from : (p : OpenFile → Bool) (items : List (Item Kept)) (key : Key) (e : Kept) → value_at items key ≡ Some e → p (open_of e) ≡ true → list_any p (opens_of items) ≡ true
any_from p [] key e there so = absurd (cc)
any_from p (x ∷ xs) key e there so =
    elim (cases_Bool (same_key x.key key)) [
      | inl same ↦
          let value : x.value ≡ e = same_Some x.value e (rw same at there) in
          or_left (p (open_of x.value)) (list_any p (opens_of xs)) (ap (λ (k : Kept). p (open_of k)) value ∙ so)
      | inr differs ↦ or_right (p (open_of x.value)) (list_any p (opens_of xs)) (any_from p xs key e (rw differs at there) so)
    ]

pub any_to : (p : OpenFile → Bool) (items : List (Item Kept)) → AreDistinct items → list_any p (opens_of items) ≡ true → IsListed p items
any_to p [] distinct any = absurd (cc)
any_to p (x ∷ xs) distinct any =
    elim (or_cases (p (open_of x.value)) (list_any p (opens_of xs)) any) [
      | inl here ↦ record { key = x.key; file = x.value; there = value_at-here x xs; so = here }
      | inr behind ↦
          let rest = any_to p xs distinct.1 behind in
          record { key = rest.key; file = rest.file; there = value_at-behind x xs rest.key rest.file distinct rest.there; so = rest.so }
    ]

-- none passes where none that is there does
pub none_passes : (p : OpenFile → Bool) (items : List (Item Kept)) → AreDistinct items → ((key : Key) (e : Kept) → value_at items key ≡ Some e → p (open_of e) ≡ true → ⊥)
    → list_any p (opens_of items) ≡ false
none_passes p items distinct none =
    elim (cases_Bool (list_any p (opens_of items))) [
      | inl some ↦ let one = any_to p items distinct some in absurd (none one.key one.file one.there one.so)
      | inr not_any ↦ not_any
    ]

-- ---- the one that passes
-- no other open file than that of the key passes
abbrev pub IsOnly : (OpenFile → Bool) → List (Item Kept) → Key → Type 0
IsOnly p items key = (k : Key) (e : Kept) → value_at items k ≡ Some e → p (open_of e) ≡ true → k ≡ key

IsOnly-behind : (p : OpenFile → Bool) (x : Item Kept) (xs : List (Item Kept)) (key : Key) → AreDistinct (x ∷ xs) → IsOnly p (x ∷ xs) key → IsOnly p xs key
IsOnly-behind p x xs key distinct only = λ k e there so. only k e (value_at-behind x xs k e distinct there) so

other_passes_not : (p : OpenFile → Bool) (x : Item Kept) (xs : List (Item Kept)) (key : Key) → IsOnly p (x ∷ xs) key → same_key x.key key ≡ false → p (open_of x.value) ≡ false
other_passes_not p x xs key only other =
    elim (cases_Bool (p (open_of x.value))) [
      | inl so ↦ absurd (let same = same_key-self x.key key (only x.key x.value (value_at-here x xs) so) in cc)
      | inr not_so ↦ not_so
    ]

-- where the first one has the key, none behind it passes
none_behind : (p : OpenFile → Bool) (x : Item Kept) (xs : List (Item Kept)) (key : Key) → AreDistinct (x ∷ xs) → IsOnly p (x ∷ xs) key → same_key x.key key ≡ true → list_any p (opens_of xs) ≡ false
none_behind p x xs key distinct only same =
    none_passes p xs distinct.1 (λ k v is yes.
    let here = only k v (value_at-behind x xs k v distinct is) yes in
    let gone : value_at xs k ≡ None = ap (value_at xs) (here ∙ sym (same_key-true x.key key same)) ∙ distinct.0 in
    absurd (cc))

pub find-there : (p : OpenFile → Bool) (items : List (Item Kept)) (key : Key) (e : Kept) → AreDistinct items → IsOnly p items key → value_at items key ≡ Some e → p (open_of e) ≡ true
    → find p (opens_of items) ≡ Some (open_of e)
find-there p [] key e distinct only there so = absurd (cc)
find-there p (x ∷ xs) key e distinct only there so =
    elim (cases_Bool (same_key x.key key)) [
      | inl same ↦
          let value : x.value ≡ e = same_Some x.value e (rw same at there) in
          let passes : p (open_of x.value) ≡ true = ap (λ (k : Kept). p (open_of k)) value ∙ so in
          rw passes (ap (λ (k : Kept). Some (open_of k)) value)
      | inr other ↦
          rw (other_passes_not p x xs key only other)
          (find-there p xs key e distinct.1 (IsOnly-behind p x xs key distinct only) (rw other at there) so)
    ]

pub find-none : (p : OpenFile → Bool) (os : List OpenFile) → list_any p os ≡ false → find p os ≡ None
find-none p [] none = refl
find-none p (o ∷ os) none =
    let parts = or_parts (p o) (list_any p os) none in
    rw parts.0 (find-none p os parts.1)

-- ---- without those that pass
pub filter-none : (p : OpenFile → Bool) (os : List OpenFile) → list_any p os ≡ false → filter (λ o. not (p o)) os ≡ os
filter-none p [] none = refl
filter-none p (o ∷ os) none =
    let parts = or_parts (p o) (list_any p os) none in
    rw parts.0 (ap (λ l. o ∷ l) (filter-none p os parts.1))

pub filter-without : (p : OpenFile → Bool) (items : List (Item Kept)) (key : Key) (e : Kept) → AreDistinct items → IsOnly p items key → value_at items key ≡ Some e → p (open_of e) ≡ true
    → opens_of (without items key) ≡ filter (λ o. not (p o)) (opens_of items)
filter-without p [] key e distinct only there so = absurd (cc)
filter-without p (x ∷ xs) key e distinct only there so =
    elim (cases_Bool (same_key x.key key)) [
      | inl same ↦
          let value : x.value ≡ e = same_Some x.value e (rw same at there) in
          let passes : p (open_of x.value) ≡ true = ap (λ (k : Kept). p (open_of k)) value ∙ so in
          rw (same, passes) (sym (filter-none p (opens_of xs) (none_behind p x xs key distinct only same)))
      | inr other ↦
          rw (other, other_passes_not p x xs key only other)
          (ap (λ l. open_of x.value ∷ l)
          (filter-without p xs key e distinct.1 (IsOnly-behind p x xs key distinct only) (rw other at there) so))
    ]

-- ---- how many pass
pub count_cons : (p : OpenFile → Bool) (o : OpenFile) (os : List OpenFile) → count_by p (o ∷ os) ≡ cond (p o) 1 0 + count_by p os
count_cons p o os = sum_by-cons (λ x. cond (p x) 1 0) o os

pub count_yes : (p : OpenFile → Bool) (o : OpenFile) (os : List OpenFile) → p o ≡ true → count_by p (o ∷ os) ≡ 1 + count_by p os
count_yes p o os so = count_cons p o os ∙ ap (λ b. cond b 1 0 + count_by p os) so

pub count_no : (p : OpenFile → Bool) (o : OpenFile) (os : List OpenFile) → p o ≡ false → count_by p (o ∷ os) ≡ count_by p os
count_no p o os not_so = count_cons p o os ∙ ap (λ b. cond b 1 0 + count_by p os) not_so ∙ omega arith

pub count-none : (p : OpenFile → Bool) (os : List OpenFile) → list_any p os ≡ false → count_by p os ≡ 0
count-none p [] none = refl
count-none p (o ∷ os) none =
    let parts = or_parts (p o) (list_any p os) none in
    count_no p o os parts.0 ∙ count-none p os parts.1

-- one alone passes
pub count-there : (p : OpenFile → Bool) (items : List (Item Kept)) (key : Key) (e : Kept) → AreDistinct items → IsOnly p items key → value_at items key ≡ Some e → p (open_of e) ≡ true
    → count_by p (opens_of items) ≡ 1
count-there p [] key e distinct only there so = absurd (cc)
count-there p (x ∷ xs) key e distinct only there so =
    elim (cases_Bool (same_key x.key key)) [
      | inl same ↦
          let value : x.value ≡ e = same_Some x.value e (rw same at there) in
          let passes : p (open_of x.value) ≡ true = ap (λ (k : Kept). p (open_of k)) value ∙ so in
          count_yes p (open_of x.value) (opens_of xs) passes ∙ ap (λ n. 1 + n) (count-none p (opens_of xs) (none_behind p x xs key distinct only same))
      | inr other ↦
          count_no p (open_of x.value) (opens_of xs) (other_passes_not p x xs key only other)
          ∙ count-there p xs key e distinct.1 (IsOnly-behind p x xs key distinct only) (rw other at there) so
    ]
