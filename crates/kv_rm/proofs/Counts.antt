-- How one setting more changes the counts.
use Rattle.std.proofs.Common.{◌≡◌, ℕ, ◌+◌, ◌≤◌, cond, List, [], Option, None, Some, get_or, set, refl, sym, ◌∙◌, ap, arith}
use Rattle.std.proofs.lemmas.List.Sums.{sum_by-set, sum_by-insert}
use Rattle.std.specs.Prelude.{count_by}
use Rattle.std.specs.List.{insert}
use Rattle.std.specs.Option.{option_map}
use Rattle.ktm_base.specs.declared.id.Id.{Id}
use Rattle.ktm_keyed.specs.declared.keyed.Keyed.{Keyed}
use Rattle.ktm_keyed.specs.declared.keyed.Slot.{Slot}
use Rattle.ktm_keyed.specs.declared.keyed.Slot.TheVariants.{Here, Free}
use Rattle.ktm_keyed.specs.Keyed.{put, value_at}
use Rattle.ktm_world.specs.Keys.{Own, OwnSettings, own_settings, with_own, without_own}
use Rattle.ktm_world.proofs.offered.KeyLemmas.{counted-without_own}
use Rattle.ktm_keyed.specs.Slot.{IsSlot}
use Rattle.kv_rm.specs.Count.{kind_of, is_of_kind, one_of, own_count, AreCounts}
use Rattle.kv_rm.specs.declared.count.Counts.{Counts}
use Rattle.kv_rm.specs.Place.{IsSeat}
use Rattle.kv_rm.specs.declared.count.Kind.{Kind}
use Rattle.kv_rm.specs.declared.count.Kind.TheVariants.{Value, Unset}
use Rattle.kv_rm.specs.declared.own.Seat.{Seat}
use Rattle.kv_rm.proofs.Counted.{counted-with_own}

one_is : (kind : Kind) (key : List ℕ) (value : Option (List ℕ)) → cond (is_of_kind kind (record { key = key; value = value })) 1 0 ≡ one_of kind (Some (kind_of value))
one_is Value key None = refl
one_is Value key (Some value) = refl
one_is Unset key None = refl
one_is Unset key (Some value) = refl

one_of-none : (kind : Kind) → one_of kind None ≡ 0
one_of-none Value = refl
one_of-none Unset = refl

module _ (kind : Kind) where
  -- what one setting adds to the count
  abbrev weight : Keyed (Option (List ℕ)) → ℕ
  weight setting = cond (is_of_kind kind setting) 1 0

  -- a setting takes the place of what was there
  count_by-put : (xs : OwnSettings) (key : List ℕ) (slot : Slot) (value : Option (List ℕ)) → IsSlot xs key slot
      → count_by (is_of_kind kind) (put xs key value) + one_of kind (option_map kind_of (value_at xs key)) ≡ count_by (is_of_kind kind) xs + one_of kind (Some (kind_of value))
  count_by-put xs key (Here i) value here =
      let y : Keyed (Option (List ℕ)) = record { key = key; value = value } in
      let x : Keyed (Option (List ℕ)) = get_or xs i y in
      let counted : count_by (is_of_kind kind) (put xs key value) ≡ count_by (is_of_kind kind) (set xs i y) = ap (count_by (is_of_kind kind)) (here.replaces value) in
      let changed : count_by (is_of_kind kind) (set xs i y) + weight x ≡ count_by (is_of_kind kind) xs + weight y = sum_by-set weight xs i y y here.within in
      let before : one_of kind (option_map kind_of (value_at xs key)) ≡ weight x = ap (λ v. one_of kind (option_map kind_of v)) (here.value y) ∙ sym (one_is kind x.key x.value) in
      let after = one_is kind key value in
      omega (arith, counted, changed, before, after)
  count_by-put xs key (Free i) value free =
      let y : Keyed (Option (List ℕ)) = record { key = key; value = value } in
      let counted : count_by (is_of_kind kind) (put xs key value) ≡ count_by (is_of_kind kind) (insert xs i y) = ap (count_by (is_of_kind kind)) (free.adds value) in
      let changed : count_by (is_of_kind kind) (insert xs i y) ≡ count_by (is_of_kind kind) xs + weight y = sum_by-insert weight xs i y in
      let before : one_of kind (option_map kind_of (value_at xs key)) ≡ 0 = ap (λ v. one_of kind (option_map kind_of v)) free.value ∙ one_of-none kind in
      let after = one_is kind key value in
      omega (arith, counted, changed, before, after)

  -- a setting of a transaction's takes the place of what was there
  pub own_count-with : (own : List Own) (id : Id) (key : List ℕ) (seat : Seat) → IsSeat own id key seat → (value : Option (List ℕ))
      → own_count kind (with_own own id key value) + one_of kind seat.was ≡ own_count kind own + one_of kind (Some (kind_of value))
  own_count-with own id key seat is value =
      counted-with_own (is_of_kind kind) own id key seat.place is.place value _ _
      (ap (λ o. count_by (is_of_kind kind) (put (own_settings own id) key value) + one_of kind o) is.was ∙ count_by-put (own_settings own id) key seat.slot value is.slot)

-- what was there is among those that are counted
pub was_counted : (kind : Kind) (own : List Own) (id : Id) (key : List ℕ) (seat : Seat) → IsSeat own id key seat → one_of kind seat.was ≤ own_count kind own
was_counted Value own id key seat is = let without = own_count-with Value own id key seat is None in omega (arith, without)
was_counted Unset own id key seat is = let without = own_count-with Unset own id key seat is (Some []) in omega (arith, without)

-- the counts without a transaction's settings, and of its settings
pub own_count-without : (kind : Kind) (own : List Own) (id : Id) → own_count kind (without_own own id) + count_by (is_of_kind kind) (own_settings own id) ≡ own_count kind own
own_count-without kind own id = counted-without_own (is_of_kind kind) id own

-- what is counted once a setting of this kind is made in place of what was there
pub are_counts-with : (own : List Own) (id : Id) (key : List ℕ) (seat : Seat) (counts new : Counts) (kind : Kind) (value : Option (List ℕ))
    → IsSeat own id key seat → AreCounts own counts → kind_of value ≡ kind
    → new.values + one_of Value seat.was ≡ counts.values + one_of Value (Some kind)
    → new.unsets + one_of Unset seat.was ≡ counts.unsets + one_of Unset (Some kind)
    → AreCounts (with_own own id key value) new
are_counts-with own id key seat counts new kind value is are same values unsets = record {
  values =
      let made = own_count-with Value own id key seat is value in
      let one : one_of Value (Some (kind_of value)) ≡ one_of Value (Some kind) = ap (λ k. one_of Value (Some k)) same in
      let before = are.values in
      omega (arith, made, one, before, values);
  unsets =
      let made = own_count-with Unset own id key seat is value in
      let one : one_of Unset (Some (kind_of value)) ≡ one_of Unset (Some kind) = ap (λ k. one_of Unset (Some k)) same in
      let before = are.unsets in
      omega (arith, made, one, before, unsets);
}

-- what is counted once a transaction's settings are gone
pub are_counts-without : (own : List Own) (id : Id) (counts new : Counts) → AreCounts own counts
    → new.values + count_by (is_of_kind Value) (own_settings own id) ≡ counts.values
    → new.unsets + count_by (is_of_kind Unset) (own_settings own id) ≡ counts.unsets
    → AreCounts (without_own own id) new
are_counts-without own id counts new are values unsets = record {
  values = let gone = own_count-without Value own id in let before = are.values in omega (arith, gone, before, values);
  unsets = let gone = own_count-without Unset own id in let before = are.unsets in omega (arith, gone, before, unsets);
}
