-- How many bytes the settings of a transaction take in a log, by how many keys they set and unset.
use Rattle.std.proofs.Common.{◌≡◌, ℕ, ◌+◌, ◌*◌, ◌≤◌, ◌==◌, not, true, false, is_some, is_none, nat_lt, count_by, List, [], ◌∷◌, length, sum_by, Option, Some, None, arith}
use Rattle.std.proofs.lemmas.Bool.{and_parts, ltb-false, not-true, or_parts}
use Rattle.std.proofs.lemmas.List.Sums.{sum_by-cons}
use Rattle.std.specs.List.{list_all}
use Rattle.ktm_keyed.specs.declared.keyed.Keyed.{Keyed}
use Rattle.ktm_world.specs.Sizes.{set_to_size, setting_size}
use Rattle.ktm_world.specs.Keys.{OwnSettings, is_bad_key, is_bad_set_to, is_good_setting}
use Rattle.txf_laws.proofs.offered.Sums.{count-cons, one_where}

-- what a key is set to, by whether that is a value or none
set-size : (value : Option (List ℕ)) → is_bad_set_to value ≡ false → 65 + set_to_size value ≤ 1028 * one_where is_some value + 66 * one_where is_none value
set-size None good = omega arith
set-size (Some value) good = let few = ltb-false 960 (length value) good in omega (arith, few)

one-size : (s : Keyed (Option (List ℕ))) → is_good_setting s ≡ true → setting_size s ≤ 1028 * one_where is_some s.value + 66 * one_where is_none s.value
one-size s good =
    let parts = and_parts (not (is_bad_key s.key)) (not (is_bad_set_to s.value)) good in
    let key = or_parts (length s.key == 0) (nat_lt 64 (length s.key)) (not-true (is_bad_key s.key) parts.0) in
    let few = ltb-false 64 (length s.key) key.1 in
    let set = set-size s.value (not-true (is_bad_set_to s.value) parts.1) in
    omega (arith, few, set)

-- settings within the limits
pub settings-size : (ss : OwnSettings) → list_all is_good_setting ss ≡ true → sum_by setting_size ss ≤ 1028 * count_by (λ s. is_some s.value) ss + 66 * count_by (λ s. is_none s.value) ss
settings-size [] good = omega arith
settings-size (s ∷ ss) good =
    let parts = and_parts (is_good_setting s) (list_all is_good_setting ss) good in
    let both = sum_by-cons setting_size s ss in
    let sets = count-cons (λ (s : Keyed (Option (List ℕ))). is_some s.value) s ss in
    let unsets = count-cons (λ (s : Keyed (Option (List ℕ))). is_none s.value) s ss in
    let one = one-size s parts.0 in
    let rest = settings-size ss parts.1 in
    omega (arith, both, sets, unsets, one, rest)
