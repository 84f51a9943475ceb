-- How settings change the counts by the hashes of their keys, and what the counts tell of a key.
use Rattle.std.proofs.Common.{◌≡◌, ℕ, ◌+◌, ◌-◌, ◌/◌, ◌^◌, ◌<◌, ◌≤◌, ◌&&◌, ◌||◌, not, true, false, cond, List, [], ◌∷◌, ◌++◌, length, get_or, take, drop, replicate, Option, None, Some, is_some, is_none, count_by, bytes_eq, nat_lt, refl, sym, ◌∙◌, ap, arith, add-one, drop-cons, length-set, inl, inr}
use Rattle.std.proofs.lemmas.Bool.{cases_Bool, cases_lt, ltb-false, and_parts, or_cases}
use Rattle.std.proofs.Math.ListN.{get_or-append}
use Rattle.std.proofs.Math.Seq.{get_or-append_right}
use Rattle.std.proofs.lemmas.Bool.Decides.{Decides-eqb}
use Rattle.std.proofs.lemmas.List.{drop_all, take_all, get_or-replicate, get_or_past, length-replicate}
use Rattle.std.proofs.lemmas.List.Sums.{count_by-le-length, sum_by-cons, sum_by-insert}
use Rattle.std.specs.Option.{option_map}
use Rattle.std.proofs.lemmas.Slice.Eq.{bytes_eq-Decides}
use Rattle.ktm_base.specs.declared.id.Id.{Id}
use Rattle.ktm_keyed.specs.declared.keyed.Keyed.{Keyed}
use Rattle.ktm_keyed.specs.declared.keyed.Slot.{Slot}
use Rattle.ktm_keyed.specs.declared.keyed.Slot.TheVariants.{Here, Free}
use Rattle.ktm_keyed.specs.Keyed.{comes_before, put, value_at}
use Rattle.ktm_keyed.specs.Slot.{IsSlot}
use Rattle.ktm_keyed.proofs.KeyedLemmas.{count_by-cons}
use Rattle.ktm_world.specs.KeyCalls.{with_setting}
use Rattle.ktm_world.specs.Keys.{Own, OwnSettings, own_settings, without_own, is_held_by_other}
use Rattle.ktm_world.specs.Transactions.{same_id}
use Rattle.ktm_world.proofs.offered.KeyLemmas.{counted-without_own, length-counts}
use Rattle.kv_rm.specs.Count.{kind_of, is_of_kind, own_count, AreCounts, AreFew}
use Rattle.kv_rm.specs.Held.{mixed, mixed_all, hash_of, has_hash, hash_count, count_at, one_at, AreHeld}
use Rattle.kv_rm.specs.Place.{IsSeat, IsSeatOf, one_more}
use Rattle.kv_rm.specs.declared.count.Counts.{Counts}
use Rattle.kv_rm.specs.declared.count.Kind.TheVariants.{Value, Unset}
use Rattle.kv_rm.specs.declared.own.Seat.{Seat}
use Rattle.kv_rm.proofs.Counted.{counted-with_own}

-- ---- the hash of a key

-- one byte more of the key is mixed in
pub mixed_more : (key : List ℕ) (i hash : ℕ) → i < length key → mixed_all hash (drop i key) ≡ mixed_all 0 key
    → mixed_all (mixed hash (get_or key i 0)) (drop (i + 1) key) ≡ mixed_all 0 key
mixed_more key i hash within is = rw (add-one i) (sym (ap (mixed_all hash) (drop-cons key i 0 within)) ∙ is)

-- all bytes are mixed in
pub hash_is : (key : List ℕ) (i hash : ℕ) → length key ≤ i → mixed_all hash (drop i key) ≡ mixed_all 0 key → hash / 2 ^ 22 ≡ hash_of key
unfolding hash_of
hash_is key i hash past is = ap (λ h. h / 2 ^ 22) (sym (ap (mixed_all hash) (drop_all i key past)) ∙ is)

-- ---- more counts

-- those that are added count nothing
none_more : (counts : List ℕ) (n hash : ℕ) → count_at (counts ++ replicate n 0) hash ≡ count_at counts hash
none_more counts n hash = elim (cases_lt hash (length counts)) [
  | inl within ↦ get_or-append counts (replicate n 0) 0 hash within
  | inr past ↦ get_or-append_right counts (replicate n 0) hash 0 past ∙ none_counted n (hash - length counts) ∙ sym (get_or_past counts hash 0 past)
]
  where
    none_counted : (n hash : ℕ) → count_at (replicate n 0) hash ≡ 0
    none_counted n hash = elim (cases_lt hash n) [
      | inl within ↦ get_or-replicate n hash 0 0 within
      | inr past ↦ get_or_past (replicate n 0) hash 0 (omega (arith, past, length-replicate {A = ℕ} n 0))
    ]

pub are_held-resized : (counts : List ℕ) (n m : ℕ) (own : List Own) → length counts ≤ n → AreHeld own counts → AreHeld own (take n counts ++ replicate m 0)
are_held-resized counts n m own short are = record {
  counted = λ hash. ap (λ l. count_at (l ++ replicate m 0) hash) (take_all n counts short) ∙ none_more counts m hash ∙ are.counted hash;
}

-- ---- one setting more

module _ (key : List ℕ) (value : Option (List ℕ)) (hash : ℕ) where
  -- a setting that takes the place of one has its hash
  count_by-replaced : (xs : OwnSettings) → length (put xs key value) ≡ length xs → count_by (has_hash hash) (put xs key value) ≡ count_by (has_hash hash) xs
  count_by-replaced [] same = absurd (omega (arith, same))
  count_by-replaced (x ∷ xs) same =
      let old = count_by-cons (has_hash hash) x xs in
      elim (cases_Bool (bytes_eq x.key key)) [
        | inl is ↦
            let new = count_by-cons (has_hash hash) (record { key = key; value = value }) xs in
            let one = ap (λ k. one_at (hash_of k) hash) ((bytes_eq-Decides x.key key).0 is) in
            rw is (omega (arith, old, new, one))
        | inr other ↦ elim (cases_Bool (comes_before key x.key)) [
          | inl first ↦ absurd (let longer = rw (other, first) at same in omega (arith, longer))
          | inr later ↦
              let new = count_by-cons (has_hash hash) x (put xs key value) in
              let rest = count_by-replaced xs (let shorter = rw (other, later) at same in omega (arith, shorter)) in
              rw (other, later) (omega (arith, old, new, rest))
        ]
      ]

  -- one under a key that was not set is one more of its hash
  count_by-put : (xs : OwnSettings) (slot : Slot) → IsSlot xs key slot
      → count_by (has_hash hash) (put xs key value) ≡ count_by (has_hash hash) xs + cond (is_none (value_at xs key)) (one_at (hash_of key) hash) 0
  count_by-put xs (Here i) here =
      let y : Keyed (Option (List ℕ)) = record { key = key; value = value } in
      let same = count_by-replaced xs (ap length (here.replaces value) ∙ length-set xs i y) in
      rw (here.value y) (omega (arith, same))
  count_by-put xs (Free i) free =
      let y : Keyed (Option (List ℕ)) = record { key = key; value = value } in
      rw (free.value, free.adds value) (sum_by-insert (λ s. cond (has_hash hash s) 1 0) xs i y)

was_none : (was : Option (Option (List ℕ))) → is_none (option_map kind_of was) ≡ is_none was
was_none None = refl
was_none (Some value) = refl

-- the counts once a setting is made in its seat
pub are_held-with : (own : List Own) (who : Option Id) (key : List ℕ) (value : Option (List ℕ)) (seat : Option Seat) (counts new : List ℕ)
    → IsSeatOf own who key seat → AreHeld own counts → ((hash : ℕ) → count_at new hash ≡ count_at counts hash + one_more seat hash)
    → AreHeld (with_setting own who key value) new
are_held-with own None key value None counts new is are more = record { counted = λ hash. let old = are.counted hash in let same = more hash in omega (arith, old, same) }
are_held-with own (Some id) key value (Some seat) counts new is are more = record {
  counted = λ hash.
      let one = count_by-put key value hash (own_settings own id) seat.slot is.slot in
      let all = counted-with_own (has_hash hash) own id key seat.place is.place value 0 (one_more (Some seat) hash) (rw (is.was, is.hash, was_none (value_at (own_settings own id) key)) (omega (arith, one))) in
      let old = are.counted hash in
      let same = more hash in
      omega (arith, all, old, same);
}
are_held-with own None key value (Some seat) counts new is are more = absurd is
are_held-with own (Some id) key value None counts new is are more = absurd is

-- ---- what the counts tell

module _ (key : List ℕ) where
  -- settings that have the key have its hash
  hash_counted : (xs : OwnSettings) → cond (is_some (value_at xs key)) 1 0 ≤ count_by (has_hash (hash_of key)) xs
  hash_counted [] = omega arith
  hash_counted (x ∷ xs) =
      let first = count_by-cons (has_hash (hash_of key)) x xs in
      elim (cases_Bool (bytes_eq x.key key)) [
        | inl is ↦
            let same : one_at (hash_of x.key) (hash_of key) ≡ 1 = rw ((bytes_eq-Decides x.key key).0 is, (Decides-eqb (hash_of key) (hash_of key)).1 refl) refl in
            rw is (omega (arith, first, same))
        | inr other ↦ let rest = hash_counted xs in rw other (omega (arith, first, rest))
      ]

  held_counted : (own : List Own) (id : Id) → is_held_by_other own id key ≡ true → 0 < hash_count (hash_of key) own
  held_counted [] id held = cc
  held_counted (o ∷ os) id held =
      let first = sum_by-cons (λ o. count_by (has_hash (hash_of key)) o.settings) o os in
      elim (or_cases (not (same_id o.transaction id) && is_some (value_at o.settings key)) (is_held_by_other os id key) held) [
        | inl here ↦
            let has = (and_parts (not (same_id o.transaction id)) (is_some (value_at o.settings key)) here).1 in
            let one = rw has at (hash_counted o.settings) in
            omega (arith, first, one)
        | inr later ↦ let rest = held_counted os id later in omega (arith, first, rest)
      ]

  -- a transaction's own settings do not keep it from a key
  held-without_own : (own : List Own) (id : Id) → is_held_by_other (without_own own id) id key ≡ is_held_by_other own id key
  held-without_own [] id = refl
  held-without_own (o ∷ os) id = elim (cases_Bool (same_id o.transaction id)) [
    | inl same ↦ rw same refl
    | inr other ↦ rw other (rw other (ap (λ held. is_some (value_at o.settings key) || held) (held-without_own os id)))
  ]

  -- where no more settings have the key's hash than the transaction's own one, no other holds the key
  not_held : (own : List Own) (id : Id) → hash_count (hash_of key) own ≤ cond (is_some (value_at (own_settings own id) key)) 1 0 → is_held_by_other own id key ≡ false
  not_held own id few = elim (cases_Bool (is_held_by_other own id key)) [
    | inl held ↦
        absurd
        (let others = held_counted (without_own own id) id (held-without_own own id ∙ held) in
        let its = hash_counted (own_settings own id) in
        let all = counted-without_own (has_hash (hash_of key)) id own in
        omega (arith, others, its, all, few))
    | inr free ↦ free
  ]

some_was : (was : Option (Option (List ℕ))) → is_some (option_map kind_of was) ≡ is_some was
some_was None = refl
some_was (Some value) = refl

pub not_held-as_counted : (own : List Own) (id : Id) (key : List ℕ) (seat : Seat) (counts : List ℕ) → IsSeat own id key seat → AreHeld own counts
    → nat_lt (cond (is_some seat.was) 1 0) (count_at counts seat.hash) ≡ false → is_held_by_other own id key ≡ false
not_held-as_counted own id key seat counts is are no_others =
    let few = rw (is.was, some_was (value_at (own_settings own id) key), is.hash, are.counted (hash_of key)) at no_others in
    not_held key own id (ltb-false _ _ few)

-- ---- how great the counts are

hash_count-le : (hash : ℕ) (own : List Own) → hash_count hash own ≤ own_count Value own + own_count Unset own
hash_count-le hash [] = omega arith
hash_count-le hash (o ∷ os) =
    let rest = hash_count-le hash os in
    let all = sum_by-cons (λ o. count_by (has_hash hash) o.settings) o os in
    let values = sum_by-cons (λ o. count_by (is_of_kind Value) o.settings) o os in
    let unsets = sum_by-cons (λ o. count_by (is_of_kind Unset) o.settings) o os in
    let few = count_by-le-length (has_hash hash) o.settings in
    let both = length-counts o.settings in
    omega (arith, rest, all, values, unsets, few, both)

pub few_held : (own : List Own) (counts : Counts) → AreCounts own counts → AreFew counts → (hash : ℕ) → hash_count hash own < 2 ^ 33
few_held own counts are few hash = let most = hash_count-le hash own in omega (arith, most, are.values, are.unsets, few.values, few.unsets)

-- ---- settings of a transaction that go

pub are_held-without : (own : List Own) (id : Id) (counts new : List ℕ) → AreHeld own counts
    → ((hash : ℕ) → count_at new hash + count_by (has_hash hash) (own_settings own id) ≡ count_at counts hash)
    → AreHeld (without_own own id) new
are_held-without own id counts new are less = record {
  counted = λ hash.
      let all = counted-without_own (has_hash hash) id own in
      let old = are.counted hash in
      let gone = less hash in
      omega (arith, all, old, gone);
}
