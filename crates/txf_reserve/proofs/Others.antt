-- Lemmas on a key that another transaction holds.
use Rattle.std.proofs.Common.{◌≡◌, ℕ, ◌≤◌, true, false, not, List, [], ◌∷◌, ◌++◌, length, bytes_eq, Option, Some, None, is_some, IfSome, IfNone, refl, sym, ap, ◌∙◌, subst, inl, inr, drop, nat_eq}
use Rattle.std.specs.List.{list_any, starts_with}
use Rattle.std.proofs.lemmas.Bool.{cases_Bool, and_parts, and_from, not-true, false_from_ne_true}
use Rattle.std.proofs.lemmas.Bool.Decides.{Decides-eqb}
use Rattle.std.proofs.lemmas.Slice.Eq.{bytes_eq-Decides, starts_is}
use Rattle.ktm_base.specs.declared.id.Id.{Id}
use Rattle.ktm_world.specs.Transactions.{same_id, is_of}
use Rattle.ktm_links.specs.declared.list.Key.{Key}
use Rattle.ktm_links.specs.Mapped.{NamedItem, at, Begins, IsFirstOf, IsNotBelow}
use Rattle.ktm_links.proofs.offered.Keys.{none_of}
use Rattle.ktm_links.proofs.offered.Names.{begins_between, begins_not_below}
use Rattle.ktm_links.proofs.offered.Comparing.{not_below_upto, above_next}
use Rattle.txf_reserve.specs.HeldPairs.{has_pair, id_bytes, is_of_other, is_pair, key_bytes, key_name, pairs_of, ArePairs, HasNoHolder, IsHolder, Pair}
use Rattle.txf_opens.proofs.Lists.{some_of}
use Rattle.txf_reserve.proofs.PairNames.{begins_key, id_self, key_begins, key_name-tells, not_behind, own_is, same_ids}
use Rattle.txf_reserve.proofs.Present.{has-at, is_pair-true}

-- ---- the first name from one on
module _ (prefix from : List ℕ) (keys : List (NamedItem Id)) (own : Key) (first : IsFirstOf (λ q. IsNotBelow q from) keys own) (behind : Begins prefix from) (name : List ℕ) (is : name ≡ first.name) where
  -- if it does not begin so, none does
  pub no_holder : starts_with nat_eq name prefix ≡ false → HasNoHolder prefix from keys
  no_holder starts q begins high =
      elim (cases_Bool (is_some (at keys q))) [
        | inr none ↦ none_of (at keys q) none
        | inl some ↦
            let P : List ℕ → Type 0 = λ l. IsNotBelow l first.name in
            let low = not_below_upto first.name from prefix first.so (subst (λ (l : List ℕ). IsNotBelow l prefix) (sym behind.is) (begins_not_below prefix behind.after)) in
            let between = begins_between prefix begins.after first.name low (subst P begins.is (first.first q high some)) in
            absurd (let yes = (starts_is Decides-eqb name prefix _ refl).1 between.after (is ∙ between.is) in cc)
      ]

  pub holder : starts_with nat_eq name prefix ≡ true → (o : Option Id) → o ≡ Some first.value → IfSome o (IsHolder prefix from keys)
  holder starts o there =
      rw there
      (record {
        name = first.name;
        key = own;
        there = first.there;
        begins = record { after = drop (length prefix) name; is = sym is ∙ (starts_is Decides-eqb name prefix _ refl).0 starts };
        high = first.so;
        first = first.first;
      })

-- ---- pairs of another
other_any : (pairs : List Pair) (key : List ℕ) (who : Option Id) (id : Id) → has_pair pairs key id ≡ true → is_of id who ≡ false → list_any (is_of_other key who) pairs ≡ true
other_any pairs key who id has other =
    let some = some_of (is_pair key id) pairs has in
    let parts = is_pair-true key id some.one some.so in
    some.among (is_of_other key who)
    (and_from (bytes_eq some.one.key key) (not (is_of some.one.transaction who)) ((bytes_eq-Decides some.one.key key).1 parts.0)
    (ap (λ i. not (is_of i who)) parts.1 ∙ ap not other))

-- another that holds the key
record IsHeld (pairs : List Pair) (key : List ℕ) (who : Option Id) : Type 0 where
  id : Id
  has : has_pair pairs key id ≡ true
  other : is_of id who ≡ false

any_other : (pairs : List Pair) (key : List ℕ) (who : Option Id) → list_any (is_of_other key who) pairs ≡ true → IsHeld pairs key who
any_other pairs key who any =
    let some = some_of (is_of_other key who) pairs any in
    let parts = and_parts (bytes_eq some.one.key key) (not (is_of some.one.transaction who)) some.so in
    record {
      id = some.one.transaction;
      has = some.among (is_pair key some.one.transaction) (and_from (bytes_eq some.one.key key) (same_id some.one.transaction some.one.transaction) parts.0 (id_self some.one.transaction));
      other = not-true (is_of some.one.transaction who) parts.1;
    }

module _ (room : ℕ) (keys : List (NamedItem Id)) (owners : List (NamedItem (Unit {0}))) (are : ArePairs room keys owners) (key : List ℕ) (short : length key ≤ 263) (who : Option Id) where
  there_by_key : (id : Id) → has_pair (pairs_of owners) key id ≡ true → is_some (at keys (key_name key id)) ≡ true
  there_by_key id has = are.same key id short ∙ sym (has-at room owners are.by_owner key id) ∙ has

  there_by_owner : (id : Id) → is_some (at keys (key_name key id)) ≡ true → has_pair (pairs_of owners) key id ≡ true
  there_by_owner id there = has-at room owners are.by_owner key id ∙ sym (are.same key id short) ∙ there

  from_start : (id : Id) → IsNotBelow (key_name key id) (key_bytes key)
  from_start id = begins_not_below (key_bytes key) (id_bytes id [])

  -- the name under which a transaction holds the key
  name_of : (from : List ℕ) (id : Id) → (h : IsHolder (key_bytes key) from keys id) → h.name ≡ key_name key id
  name_of from id h =
      let named = are.by_key h.name h.key id h.there in
      let same = key_begins key named.key id (rw named.is at h.begins) in
      named.is ∙ ap (λ k. key_name k id) same

  holds : (from : List ℕ) (id : Id) → IsHolder (key_bytes key) from keys id → has_pair (pairs_of owners) key id ≡ true
  holds from id h = there_by_owner id (ap (λ q. is_some (at keys q)) (sym (name_of from id h)) ∙ ap is_some h.there)

  -- none holds the key
  pub none_holds : HasNoHolder (key_bytes key) (key_bytes key) keys → false ≡ list_any (is_of_other key who) (pairs_of owners)
  none_holds none =
      sym (false_from_ne_true (list_any (is_of_other key who) (pairs_of owners)) (λ any.
      let one = any_other (pairs_of owners) key who any in
      let some = there_by_key one.id one.has in
      let nothing = ap is_some (none (key_name key one.id) (begins_key key one.id) (from_start one.id)) in
      absurd (cc)))

  -- a transaction other than the caller's does
  pub other_holds : (from : List ℕ) (id : Id) → IsHolder (key_bytes key) from keys id → is_of id who ≡ false → true ≡ list_any (is_of_other key who) (pairs_of owners)
  other_holds from id h other = sym (other_any (pairs_of owners) key who id (holds from id h) other)

  module _ (first : Id) (is : IsHolder (key_bytes key) (key_bytes key) keys first) (own : is_of first who ≡ true) where
    -- whoever holds it under a later name is another
    later_other : (id : Id) → IsHolder (key_bytes key) (key_name key first ++ 0 ∷ []) keys id → is_of id who ≡ false
    later_other id h =
        false_from_ne_true (is_of id who) (λ same.
        let who_is = own_is first who own in
        let id_is : id ≡ first = same_ids id first (ap (is_of id) (sym who_is) ∙ same) in
        let P : List ℕ → Type 0 = λ q. IsNotBelow q (key_name key first ++ 0 ∷ []) in
        not_behind (key_name key first) (subst P (name_of (key_name key first ++ 0 ∷ []) id h ∙ ap (key_name key) id_is) h.high))

    -- another that holds it has a later name
    other_later : (id : Id) → has_pair (pairs_of owners) key id ≡ true → is_of id who ≡ false → IsNotBelow (key_name key id) (key_name key first ++ 0 ∷ [])
    other_later id has other =
        let high = is.first (key_name key id) (from_start id) (there_by_key id has) in
        let P : List ℕ → Type 0 = λ q. IsNotBelow (key_name key id) q in
        above_next (key_name key id) (key_name key first) (subst P (name_of (key_bytes key) first is) high) (λ same.
        let id_is = (key_name-tells key key id first same).1 in
        let yes : is_of id who ≡ true = ap (λ i. is_of i who) id_is ∙ own in
        absurd (cc))

    -- the next name tells whether another transaction holds the key
    pub next_tells : (o : Option Id) → IfSome o (IsHolder (key_bytes key) (key_name key first ++ 0 ∷ []) keys) → IfNone o (HasNoHolder (key_bytes key) (key_name key first ++ 0 ∷ []) keys)
        → is_some o ≡ list_any (is_of_other key who) (pairs_of owners)
    next_tells (Some id) some none = other_holds (key_name key first ++ 0 ∷ []) id some (later_other id some)
    next_tells None some none =
        sym (false_from_ne_true (list_any (is_of_other key who) (pairs_of owners)) (λ any.
        let one = any_other (pairs_of owners) key who any in
        let there = there_by_key one.id one.has in
        let nothing = ap is_some (none (key_name key one.id) (begins_key key one.id) (other_later one.id one.has one.other)) in
        absurd (cc)))
