-- Settings by rising key are made in a store entry after entry, from one of their keys to the next.
use Rattle.std.proofs.Common.{◌≡◌, ℕ, suc, ◌+◌, ◌<◌, true, List, [], ◌∷◌, ◌++◌, length, get_or, drop, Option, None, Some, refl, sym, ◌∙◌, ap, add-one, append_assoc}
use Rattle.std.proofs.lemmas.Bool.{and_parts}
use Rattle.ktm_keyed.specs.declared.keyed.Keyed.{Keyed}
use Rattle.ktm_keyed.specs.Keyed.{comes_before, comes_first, is_rising}
use Rattle.ktm_world.specs.Keys.{Store, OwnSettings, stored, stored_all, keys_of}
use Rattle.ktm_keyed.proofs.KeyedLemmas.{comes_before-differs, comes_before-after, comes_before-trans, comes_first-trans, is_rising-put}
use Rattle.ktm_keyed.proofs.Slots.{rest_is}
use Rattle.kv_rm.specs.Split.{IsSplit}

-- ---- behind the entries whose keys come before all settings

stored-behind : (x : Keyed (List ℕ)) (xs : Store) (key : List ℕ) (value : Option (List ℕ)) → comes_before x.key key ≡ true
    → stored (x ∷ xs) (record { key = key; value = value }) ≡ x ∷ stored xs (record { key = key; value = value })
stored-behind x xs key None before = rw (comes_before-differs x.key key before) refl
stored-behind x xs key (Some value) before = rw (comes_before-differs x.key key before, comes_before-after x.key key before) refl

stored_all-behind_one : (x : Keyed (List ℕ)) (xs : Store) (ss : OwnSettings) → comes_first x.key ss ≡ true → is_rising ss ≡ true → stored_all (x ∷ xs) ss ≡ x ∷ stored_all xs ss
stored_all-behind_one x xs [] first rises = refl
stored_all-behind_one x xs (s ∷ ss) first rises =
    let parts = and_parts (comes_first s.key ss) (is_rising ss) rises in
    ap (λ store. stored_all store ss) (stored-behind x xs s.key s.value first)
    ∙ stored_all-behind_one x (stored xs s) ss (comes_first-trans x.key s.key ss first parts.0) parts.1

-- a key that comes before the first one comes before each later one
before_it : {V : Type 0} (y : Keyed V) (after : List (Keyed V)) (a : List ℕ) (before : List (Keyed V)) → comes_first a (before ++ y ∷ after) ≡ true → is_rising (before ++ y ∷ after) ≡ true → comes_before a y.key ≡ true
before_it y after a [] first rises = first
before_it y after a (x ∷ before) first rises =
    let parts = and_parts (comes_first x.key (before ++ y ∷ after)) (is_rising (before ++ y ∷ after)) rises in
    comes_before-trans a x.key y.key first (before_it y after x.key before parts.0 parts.1)

module _ (y : Keyed (List ℕ)) (after : Store) where
  rising_after : (before : Store) → is_rising (before ++ y ∷ after) ≡ true → is_rising after ≡ true
  rising_after [] rises = (and_parts (comes_first y.key after) (is_rising after) rises).1
  rising_after (x ∷ before) rises = rising_after before (and_parts (comes_first x.key (before ++ y ∷ after)) (is_rising (before ++ y ∷ after)) rises).1

  stored_all-behind : (before rest : Store) (ss : OwnSettings) → is_rising (before ++ y ∷ after) ≡ true → comes_first y.key ss ≡ true → is_rising ss ≡ true
      → stored_all (before ++ rest) ss ≡ before ++ stored_all rest ss
  stored_all-behind [] rest ss rises first rising = refl
  stored_all-behind (x ∷ before) rest ss rises first rising =
      let parts = and_parts (comes_first x.key (before ++ y ∷ after)) (is_rising (before ++ y ∷ after)) rises in
      stored_all-behind_one x (before ++ rest) ss (comes_first-trans x.key y.key ss (before_it y after x.key before parts.0 parts.1) first) rising
      ∙ ap (λ store. x ∷ store) (stored_all-behind before rest ss parts.1 first rising)

-- ---- one setting

keys_of-append : (a b : Store) → keys_of (a ++ b) ≡ keys_of a ++ keys_of b
keys_of-append [] b = refl
keys_of-append (x ∷ a) b = ap (λ (keys : List (List ℕ)). x.key ∷ keys) (keys_of-append a b)

stored-split : (store before after : Store) (key : List ℕ) (value : Option (List ℕ)) → IsSplit store key before after
    → stored store (record { key = key; value = value }) ≡ before ++ (stored [] (record { key = key; value = value }) ++ after)
stored-split store before after key None split = split.removes
stored-split store before after key (Some value) split = split.puts value

stored_all-set : (key : List ℕ) (value : Option (List ℕ)) (after : Store) (ss : OwnSettings) → comes_first key ss ≡ true → is_rising ss ≡ true
    → stored_all (stored [] (record { key = key; value = value }) ++ after) ss ≡ stored [] (record { key = key; value = value }) ++ stored_all after ss
stored_all-set key None after ss first rises = refl
stored_all-set key (Some value) after ss first rises = stored_all-behind_one (record { key = key; value = value }) after ss first rises

module _ (store before after : Store) (s : Keyed (Option (List ℕ))) (ss : OwnSettings) (rises : is_rising store ≡ true) (rising : is_rising (s ∷ ss) ≡ true) (split : IsSplit store s.key before after) where
  around : is_rising (before ++ record { key = s.key; value = [] } ∷ after) ≡ true
  around = rw (← split.puts []) (is_rising-put s.key [] store rises)

  pub rest_rises : is_rising after ≡ true
  rest_rises = rising_after (record { key = s.key; value = [] }) after before around

  pub settings_rise : is_rising ss ≡ true
  settings_rise = (and_parts (comes_first s.key ss) (is_rising ss) rising).1

  -- the keys before the setting's, its own if it has a value, and those that the rest of the settings make of the rest
  pub keys_of-split : keys_of (stored_all store (s ∷ ss)) ≡ keys_of before ++ (keys_of (stored [] s) ++ keys_of (stored_all after ss))
  keys_of-split =
      let first = (and_parts (comes_first s.key ss) (is_rising ss) rising).0 in
      ap (λ l. keys_of (stored_all l ss)) (stored-split store before after s.key s.value split)
      ∙ ap keys_of (stored_all-behind (record { key = s.key; value = [] }) after before (stored [] s ++ after) ss around first settings_rise)
      ∙ keys_of-append before (stored_all (stored [] s ++ after) ss)
      ∙ ap (λ l. keys_of before ++ keys_of l) (stored_all-set s.key s.value after ss first settings_rise)
      ∙ ap (λ keys. keys_of before ++ keys) (keys_of-append (stored [] s) (stored_all after ss))

-- what a step of the merge keeps: the keys so far, and then those that the rest of the settings make of the rest of the store
pub record Merged (ss : OwnSettings) (all done : List (List ℕ)) (store : Store) (i : ℕ) : Type 0 where
  pub keys : done ++ keys_of (stored_all store (drop i ss)) ≡ all
  pub rest : is_rising store ≡ true
  pub settings : is_rising (drop i ss) ≡ true

pub merged_more : (settings : OwnSettings) (all keys : List (List ℕ)) (store before after : Store) (i : ℕ) (s : Keyed (Option (List ℕ)))
    → i < length settings → s ≡ get_or settings i s → Merged settings all keys store i → IsSplit store s.key before after
    → Merged settings all ((keys ++ keys_of before) ++ keys_of (stored [] s)) after (i + 1)
merged_more settings all keys store before after i s within is merged split =
    let ss = drop (suc i) settings in
    let rest = rest_is settings i s within is in
    let rising : is_rising (s ∷ ss) ≡ true = ap is_rising (sym rest) ∙ merged.settings in
    record {
      keys =
          rw (add-one i)
          (append_assoc (keys ++ keys_of before) (keys_of (stored [] s)) (keys_of (stored_all after ss))
          ∙ append_assoc keys (keys_of before) (keys_of (stored [] s) ++ keys_of (stored_all after ss))
          ∙ ap (λ l. keys ++ l) (sym (keys_of-split store before after s ss merged.rest rising split))
          ∙ ap (λ l. keys ++ keys_of (stored_all store l)) (sym rest)
          ∙ merged.keys);
      rest = rest_rises store before after s ss merged.rest rising split;
      settings = rw (add-one i) (settings_rise store before after s ss merged.rest rising split);
    }
