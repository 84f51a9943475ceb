-- The counts of buckets, and what they tell of a transaction.
use Rattle.std.proofs.Common.{◌≡◌, ℕ, ◌+◌, ◌<◌, ◌≤◌, ◌==◌, ◌⊎◌, Bool, true, false, cond, not, List, [], ◌∷◌, ◌++◌, map, length, get_or, slice_get, position, count_by, Option, Some, None, refl, ap, arith, inl, inr}
use Rattle.std.specs.List.{list_any, remove}
use Rattle.std.specs.Option.{option_map, option_map_or}
use Rattle.std.proofs.lemmas.Bool.{cases_Bool, and_parts, eqb-true}
use Rattle.std.proofs.lemmas.Bool.Decides.{Decides-eqb}
use Rattle.std.proofs.lemmas.List.Sums.{sum_by-cons, sum_by_push, sum_by-remove}
use Rattle.ktm_base.specs.declared.id.Id.{Id}
use Rattle.ktm_places.specs.declared.places.Places.{Places}
use Rattle.ktm_places.specs.Places.{bucket_of, is_in, is_its, no_entries, AreCounted}
use Rattle.ktm_places.proofs.FirstOf.{position_none, position_one, position_other}

-- ---- whose an entry is

its-equal : (transaction id : Id) → is_its transaction id ≡ true → id ≡ transaction
its-equal transaction id is =
    let parts = and_parts (id.boot == transaction.boot) (id.number == transaction.number) is in
    let boot : id.boot ≡ transaction.boot = eqb-true _ _ parts.0 in
    let number : id.number ≡ transaction.number = eqb-true _ _ parts.1 in
    λ i. record { boot = boot i; number = number i }

-- it is in its transaction's bucket
in_bucket : (transaction id : Id) → is_its transaction id ≡ true → is_in (bucket_of transaction) id ≡ true
in_bucket transaction id is = rw (its-equal transaction id is) ((Decides-eqb (bucket_of transaction) (bucket_of transaction)).1 refl)

-- ---- the counts

module _ (transaction : Id) where
  counted-cons : (test : Id → Bool) (id : Id) (ids : List Id) → count_by test (id ∷ ids) ≡ cond (test id) 1 0 + count_by test ids
  counted-cons test id ids = sum_by-cons (λ other. cond (test other) 1 0) id ids

  pub none_its : (ids : List Id) → list_any (is_its transaction) ids ≡ false → count_by (is_its transaction) ids ≡ 0
  none_its [] none = refl
  none_its (id ∷ ids) none = elim (cases_Bool (is_its transaction id)) [
    | inl is ↦ absurd (let no = rw is at none in cc)
    | inr other ↦
        let rest = none_its ids (rw other at none) in
        let its = counted-cons (is_its transaction) id ids in
        let first = ap {B = ℕ} (λ b. cond b 1 0) other in
        omega (arith, rest, its, first)
  ]

  -- none has two once it has one more, which is its first
  pub once_more : (ids : List Id) → ((other : Id) → count_by (is_its other) ids ≤ 1) → count_by (is_its transaction) ids ≡ 0 → (other : Id) → count_by (is_its other) (ids ++ transaction ∷ []) ≤ 1
  once_more ids once none other =
      let more = sum_by_push (λ id. cond (is_its other id) 1 0) ids transaction in
      let before = once other in
      elim (cases_Bool (is_its other transaction)) [
        | inl is ↦
            let same : count_by (is_its other) ids ≡ 0 = rw (← its-equal other transaction is) none in
            let one = ap {B = ℕ} (λ b. cond b 1 0) is in
            omega (arith, more, same, one)
        | inr not ↦ let zero = ap {B = ℕ} (λ b. cond b 1 0) not in omega (arith, more, before, zero)
      ]

-- none has two once one entry is gone
pub once_less : (ids : List Id) (i : ℕ) (d : Id) → i < length ids → ((other : Id) → count_by (is_its other) ids ≤ 1) → (other : Id) → count_by (is_its other) (remove ids i) ≤ 1
once_less ids i d within once other =
    let less = sum_by-remove (λ id. cond (is_its other id) 1 0) ids i d within in
    let before = once other in
    omega (arith, less, before)

-- ---- what the counts tell

module _ {X : Type 0} (owner : X → Id) (entries : List X) (transaction : Id) (places : Places) (are : AreCounted (map owner entries) places) where
  -- how many entries its bucket has
  abbrev in_its : ℕ
  in_its = (get_or places.buckets.items (bucket_of transaction) no_entries).count

  pub none_there : in_its ≡ 0 → position (λ entry. is_its transaction (owner entry)) entries ≡ None
  none_there none =
      let all = are.buckets.counted (bucket_of transaction) in
      position_none owner (λ entry. is_its transaction (owner entry)) (is_in (bucket_of transaction)) (λ entry. in_bucket transaction (owner entry)) entries (omega (arith, all, none))

  module _ (i : ℕ) (id : Id) (seen : option_map owner (slice_get entries i) ≡ Some id) where
    tested : (test : Id → Bool) (d : Bool) → option_map_or (λ entry. test (owner entry)) (slice_get entries i) d ≡ test id
    tested test d = at (slice_get entries i) seen
      where
        at : (entry : Option X) → option_map owner entry ≡ Some id → option_map_or (λ entry. test (owner entry)) entry d ≡ test id
        at None is = cc
        at (Some entry) is = let same : owner entry ≡ id = cc in ap test same

    -- its entry is the only one in its bucket, or its only one
    pub one_there : is_its transaction id ≡ true → (in_its ≡ 1) ⊎ (places.is_once ≡ true) → position (λ entry. is_its transaction (owner entry)) entries ≡ Some i
    one_there is (inl one) =
        let all = are.buckets.counted (bucket_of transaction) in
        position_one owner (λ entry. is_its transaction (owner entry)) (is_in (bucket_of transaction)) (λ entry. in_bucket transaction (owner entry)) entries i
        (rw (tested (is_its transaction) false) is) (omega (arith, all, one))
    one_there is (inr once) =
        position_one owner (λ entry. is_its transaction (owner entry)) (is_its transaction) (λ entry its. its) entries i
        (rw (tested (is_its transaction) false) is) (are.once once transaction)

    -- the only entry in its bucket is another's
    pub other_there : is_its transaction id ≡ false → in_its ≡ 1 → bucket_of id ≡ bucket_of transaction → position (λ entry. is_its transaction (owner entry)) entries ≡ None
    other_there other one bucket =
        let all = are.buckets.counted (bucket_of transaction) in
        position_other owner (λ entry. is_its transaction (owner entry)) (is_in (bucket_of transaction)) (λ entry. in_bucket transaction (owner entry)) entries i
        (rw (tested (is_its transaction) true) other) (rw (tested (is_in (bucket_of transaction)) false) ((Decides-eqb (bucket_of id) (bucket_of transaction)).1 bucket)) (omega (arith, all, one))
