-- Lemmas on one pair more, and one less.
use Rattle.std.proofs.Common.{◌≡◌, ℕ, ◌≤◌, ◌+◌, ◌-◌, take, drop, ◌||◌, ◌&&◌, Bool, true, false, not, List, [], length, Option, Some, None, is_some, refl, sym, ap, ◌∙◌, inl, inr, arith}
use Rattle.std.specs.Option.{option_map}
use Rattle.std.proofs.Math.Bool.{or-false, and-true, and-false}
use Rattle.std.proofs.lemmas.Bool.{cases_Bool, or_right, false_from_ne_true}
use Rattle.std.proofs.lemmas.Option.{some_pair_parts}
use Rattle.std.proofs.lemmas.Slice.{between_to_end}
use Rattle.ktm_base.specs.declared.id.Id.{Id}
use Rattle.ktm_world.specs.Transactions.{same_id}
use Rattle.ktm_links.specs.declared.list.Key.{Key}
use Rattle.ktm_links.specs.Mapped.{NamedItem, at, key_at, Begins}
use Rattle.ktm_links.proofs.offered.Entries.{key_at-at}
use Rattle.ktm_links.proofs.offered.Keys.{none_of}
use Rattle.ktm_links.proofs.offered.Comparing.{cases_name}
use Rattle.txf_reserve.specs.HeldPairs.{has_pair, id_bytes, is_pair, key_name, owner_name, pairs_of, ArePairs, IsOwnerName}
use Rattle.txf_reserve.proofs.PairNames.{id_tells, key_name-tells, other_ids, owner_begins}
use Rattle.txf_reserve.proofs.Present.{has-at, is_pair-self, is_pair-true, pair}

key_at-none : {V : Type 0} (entries : List (NamedItem V)) (q : List ℕ) → is_some (at entries q) ≡ false → key_at entries q ≡ None
key_at-none entries q none = key_at-at entries q ∙ ap (option_map (λ e. e.0)) (none_of (at entries q) none)

-- a name is found exactly where it is there
pub key_at-some : {V : Type 0} (entries : List (NamedItem V)) (q : List ℕ) → is_some (key_at entries q) ≡ is_some (at entries q)
key_at-some {V} entries q = ap is_some (key_at-at entries q) ∙ by_cases (at entries q)
  where
    by_cases : (o : Option (Key × V)) → is_some (option_map (λ (e : Key × V). e.0) o) ≡ is_some o
    by_cases None = refl
    by_cases (Some e) = refl

module _ (room : ℕ) (keys : List (NamedItem Id)) (owners : List (NamedItem (Unit {0}))) (are : ArePairs room keys owners) where
  -- ---- a pair that is not there
  pub owner_free : (key : List ℕ) (id : Id) → has_pair (pairs_of owners) key id ≡ false → key_at owners (owner_name id key) ≡ None
  owner_free key id none = key_at-none owners (owner_name id key) (sym (has-at room owners are.by_owner key id) ∙ none)

  pub key_free : (key : List ℕ) (id : Id) → length key ≤ 263 → has_pair (pairs_of owners) key id ≡ false → key_at keys (key_name key id) ≡ None
  key_free key id short none =
      key_at-none keys (key_name key id) (are.same key id short ∙ sym (has-at room owners are.by_owner key id) ∙ none)

  -- names of one pair differ together
  owner_differs : (key other : List ℕ) (id i : Id) → (key_name key id ≡ key_name other i → ⊥) → owner_name id key ≡ owner_name i other → ⊥
  owner_differs key other id i differs same =
      let parts = id_tells id i key other same in
      differs (ap (λ x. key_name key x) parts.0 ∙ ap (λ k. key_name k i) parts.1)

  owner_is : (key other : List ℕ) (id i : Id) → key_name key id ≡ key_name other i → owner_name id key ≡ owner_name i other
  owner_is key other id i same =
      let parts = key_name-tells key other id i same in
      ap (λ x. owner_name x key) parts.1 ∙ ap (owner_name i) parts.0

  -- ---- one more
  module _ (key : List ℕ) (t : Id) (more_keys : List (NamedItem Id)) (more_owners : List (NamedItem (Unit {0}))) (k : Key) (short : length key ≤ 263) (fits : length key + 11 ≤ room)
      (under_key : at more_keys (key_name key t) ≡ Some (k, t)) (other_keys : (q : List ℕ) → (q ≡ key_name key t → ⊥) → at more_keys q ≡ at keys q)
      (under_owner : is_some (at more_owners (owner_name t key)) ≡ true) (other_owners : (q : List ℕ) → (q ≡ owner_name t key → ⊥) → at more_owners q ≡ at owners q) where
    pub ArePairs-more : ArePairs room more_keys more_owners
    ArePairs-more = record {
      by_key = λ q own id found. elim (cases_name q (key_name key t)) [
        | inl same ↦
            let both = some_pair_parts k own t id (sym under_key ∙ ap (at more_keys) (sym same) ∙ found) in
            record { key = key; is = same ∙ ap (key_name key) both.1; short = short; fits = fits }
        | inr differs ↦ are.by_key q own id (sym (other_keys q differs) ∙ found)
      ];
      by_owner = λ q found. elim (cases_name q (owner_name t key)) [
        | inl same ↦ record { key = key; transaction = t; is = same; short = short; fits = fits }
        | inr differs ↦ are.by_owner q (ap is_some (sym (other_owners q differs)) ∙ found)
      ];
      same = λ other id other_short. elim (cases_name (key_name other id) (key_name key t)) [
        | inl same ↦
            ap (λ q. is_some (at more_keys q)) same
            ∙ ap is_some under_key
            ∙ sym (ap (λ q. is_some (at more_owners q)) (owner_is other key id t same) ∙ under_owner)
        | inr differs ↦
            ap is_some (other_keys (key_name other id) differs)
            ∙ are.same other id other_short
            ∙ sym (ap is_some (other_owners (owner_name id other) (owner_differs other key id t differs)))
      ];
    }

    pub has-more : (other : List ℕ) (id : Id) → has_pair (pairs_of more_owners) other id ≡ (has_pair (pairs_of owners) other id || is_pair other id (pair key t))
    has-more other id =
        has-at room more_owners ArePairs-more.by_owner other id
        ∙ elim (cases_name (owner_name id other) (owner_name t key)) [
          | inl same ↦
              let parts = id_tells id t other key same in
              let is : is_pair other id (pair key t) ≡ true =
              ap (λ o. is_pair o id (pair key t)) parts.1 ∙ ap (λ i. is_pair key i (pair key t)) parts.0 ∙ is_pair-self key t in
              ap (λ q. is_some (at more_owners q)) same
              ∙ under_owner
              ∙ sym (or_right (has_pair (pairs_of owners) other id) (is_pair other id (pair key t)) is)
          | inr differs ↦
              let not_this : is_pair other id (pair key t) ≡ false =
              false_from_ne_true (is_pair other id (pair key t)) (λ is.
              let parts = is_pair-true other id (pair key t) is in
              differs (ap (λ i. owner_name i other) (sym parts.1) ∙ ap (owner_name t) (sym parts.0))) in
              ap is_some (other_owners (owner_name id other) differs)
              ∙ sym (has-at room owners are.by_owner other id)
              ∙ sym (ap (λ b. has_pair (pairs_of owners) other id || b) not_this ∙ or-false (has_pair (pairs_of owners) other id))
        ]

  -- ---- one less
  module _ (key : List ℕ) (t : Id) (less_keys : List (NamedItem Id)) (less_owners : List (NamedItem (Unit {0})))
      (gone_key : at less_keys (key_name key t) ≡ None) (other_keys : (q : List ℕ) → (q ≡ key_name key t → ⊥) → at less_keys q ≡ at keys q)
      (gone_owner : at less_owners (owner_name t key) ≡ None) (other_owners : (q : List ℕ) → (q ≡ owner_name t key → ⊥) → at less_owners q ≡ at owners q) where
    pub ArePairs-less : ArePairs room less_keys less_owners
    ArePairs-less = record {
      by_key = λ q own id found. elim (cases_name q (key_name key t)) [
        | inl same ↦ absurd (let none = ap (at less_keys) same ∙ gone_key in cc)
        | inr differs ↦ are.by_key q own id (sym (other_keys q differs) ∙ found)
      ];
      by_owner = λ q found. elim (cases_name q (owner_name t key)) [
        | inl same ↦ absurd (let none : is_some (at less_owners q) ≡ false = ap is_some (ap (at less_owners) same ∙ gone_owner) in cc)
        | inr differs ↦ are.by_owner q (ap is_some (sym (other_owners q differs)) ∙ found)
      ];
      same = λ other id other_short. elim (cases_name (key_name other id) (key_name key t)) [
        | inl same ↦
            ap is_some (ap (at less_keys) same ∙ gone_key)
            ∙ sym (ap is_some (ap (at less_owners) (owner_is other key id t same) ∙ gone_owner))
        | inr differs ↦
            ap is_some (other_keys (key_name other id) differs)
            ∙ are.same other id other_short
            ∙ sym (ap is_some (other_owners (owner_name id other) (owner_differs other key id t differs)))
      ];
    }

    pub has-less : (other : List ℕ) (id : Id) → same_id id t ≡ false → has_pair (pairs_of less_owners) other id ≡ has_pair (pairs_of owners) other id
    has-less other id differs =
        has-at room less_owners ArePairs-less.by_owner other id
        ∙ ap is_some (other_owners (owner_name id other) (λ same. other_ids id t differs (id_tells id t other key same).0))
        ∙ sym (has-at room owners are.by_owner other id)

  -- ---- the keys of one transaction
  -- the key of a name that begins with the transaction
  pub own_key : (t : Id) (q : List ℕ) → Begins (id_bytes t []) q → is_some (at owners q) ≡ true → (named : IsOwnerName room q) × (q ≡ owner_name t named.key)
  own_key t q begins there =
      let named = are.by_owner q there in
      let P : List ℕ → Type 0 = Begins (id_bytes t []) in
      let same : named.transaction ≡ t = owner_begins t named.transaction named.key (rw named.is at begins) in
      (named, named.is ∙ ap (λ i. owner_name i named.key) same)

  -- where no name begins with it, it holds nothing
  pub has-none : (t : Id) → ((q : List ℕ) → Begins (id_bytes t []) q → at owners q ≡ None) → (key : List ℕ) → has_pair (pairs_of owners) key t ≡ false
  has-none t none key =
      has-at room owners are.by_owner key t ∙ ap is_some (none (owner_name t key) (record { after = key; is = refl }))

-- all of a transaction is gone, and the rest as it was
pub without_own : (old new : Bool) (id t : Id) → (same_id id t ≡ true → new ≡ false) → (same_id id t ≡ false → new ≡ old) → new ≡ (old && not (same_id id t))
without_own old new id t own other =
    elim (cases_Bool (same_id id t)) [
      | inl same ↦ own same ∙ sym (ap (λ b. old && not b) same ∙ and-false old)
      | inr differs ↦ other differs ∙ sym (ap (λ b. old && not b) differs ∙ and-true old)
    ]

-- the key is what comes behind the transaction in the name
pub own_slice : (t : Id) (key q : List ℕ) → q ≡ owner_name t key → take (length q - 8) (drop 8 q) ≡ key
own_slice t key q is = rw is (between_to_end (owner_name t key) 8 (length (owner_name t key)) (omega arith))
