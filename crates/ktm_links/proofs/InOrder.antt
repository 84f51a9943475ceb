-- Lemmas on keys in order of their values' names.
use Rattle.std.proofs.Common.{◌≡◌, ◌⊎◌, ℕ, zero, suc, ◌<◌, ◌≤◌, ◌-◌, true, false, List, [], ◌∷◌, ◌++◌, length, get_or, take, drop, Option, Some, None, is_some, refl, sym, ap, subst, ◌∙◌, inl, inr, arith}
use Rattle.std.specs.Prelude.{Ok, Err, OnSome, IfSome, IfNone}
use Rattle.std.specs.List.{slice_get}
use Rattle.std.specs.Option.{option_map}
use Rattle.std.specs.Ordering.{is_eq, is_lt, ordering_index}
use Rattle.std.specs.declared.cmp.Ordering.{Ordering}
use Rattle.std.specs.declared.cmp.Ordering.TheVariants.{Less, Equal, Greater}
use Rattle.std.specs.List.Sorted.{IsBinarySearchResult, IsNonDecreasingBy, IsPartitionPoint}
use Rattle.std.proofs.lemmas.Bool.{cases_lt, cases_Bool}
use Rattle.std.proofs.lemmas.Option.{get_or_from_slice_get, same_Some, slice_get-get_or, slice_get_within}
use Rattle.ktm_links.specs.declared.list.Key.{Key}
use Rattle.ktm_links.specs.Items.{Listed, IsSpent as IsSpentKey, Item, item, same_key, value_at, with_value, without}
use Rattle.ktm_links.specs.Mapped.{Mapped, IsSpent, NameAndValue, NamedItem, name_cmp, at, first_from, key_at, put, with_value as with_named, without_name, value_of, AreAbove, IsFirstOf, IsNoneOf, IsNotBelow, IsRising, entries_from}
use Rattle.ktm_links.specs.Order.{order_in, order_at, entries_of, revalued, ArePresent, HasKey, IsInOrder, IsFirstNotBelow}
use Rattle.ktm_links.proofs.Blocks.{no_key}
use Rattle.ktm_links.proofs.offered.Names.{less_equal, index_rises, name_equal, name_same, from_is_eq}
use Rattle.ktm_links.proofs.offered.Keys.{cases_key, on_some, same_key-true, same_key-self, some_of, none_of, value_at-kept, value_at-last, value_at-others, value_at-with_same, value_at-with_other, value_at-append}
use Rattle.ktm_links.proofs.offered.Entries.{key_at-at, key_at-same, key_at-less, key_at-differs, put-lower, put-higher, rising_put, without_name-same, without_name-less, at-same, at-less, rising_without, value_of-same, value_of-other, first_from-least, first_from-nothing}

HasKey-inserted : (ks : List Key) (i : ℕ) (key other : Key) → (key ≡ other) ⊎ HasKey other ks → HasKey other (take i ks ++ key ∷ drop i ks)
HasKey-inserted ks zero key other has = has
HasKey-inserted [] (suc i) key other has = has
HasKey-inserted (k ∷ ks) (suc i) key other has =
    elim has [
      | inl same ↦ inr (HasKey-inserted ks i key other (inl same))
      | inr there ↦ elim there [ inl here ↦ inl here | inr rest ↦ inr (HasKey-inserted ks i key other (inr rest)) ]
    ]

HasKey-removed : (ks : List Key) (i : ℕ) (d other : Key) → (get_or ks i d ≡ other → ⊥) → HasKey other ks → HasKey other (take i ks ++ drop (suc i) ks)
HasKey-removed [] i d other differs has = absurd has
HasKey-removed (k ∷ ks) zero d other differs has = elim has [ inl same ↦ absurd (differs same) | inr rest ↦ rest ]
HasKey-removed (k ∷ ks) (suc i) d other differs has =
    elim has [ inl same ↦ inl same | inr rest ↦ inr (HasKey-removed ks i d other differs rest) ]

-- a list in order is told by what stands on both sides of a place
pub point_between : {A : Type 0} (f : A → Ordering) (xs : List A) (i : ℕ) → IsNonDecreasingBy (λ x. ordering_index (f x)) xs → i ≤ length xs
    → ((d : A) → 0 < i → f (get_or xs (i - 1) d) ≡ Less) → ((d : A) → i < length xs → f (get_or xs i d) ≡ Greater)
    → IsPartitionPoint (λ x. f x ≡ Less) (λ x. f x ≡ Greater) xs i
point_between f xs i rises bound below above = (
  λ k d from within.
      least (f (get_or xs k d))
      (subst (λ o. ordering_index (f (get_or xs k d)) ≤ ordering_index o) (below d (omega (arith, within)))
      (rises k (i - 1) d (omega (arith, within)) (omega (arith, within, bound)))),
  λ k d from within.
      most (f (get_or xs k d))
      (subst (λ o. ordering_index o ≤ ordering_index (f (get_or xs k d))) (above d (omega (arith, from, within))) (rises i k d from within)),
)
  where
    least : (o : Ordering) → ordering_index o ≤ ordering_index Less → o ≡ Less
    least Less small = refl
    least Equal small = absurd (omega (arith, small))
    least Greater small = absurd (omega (arith, small))

    most : (o : Ordering) → ordering_index Greater ≤ ordering_index o → o ≡ Greater
    most Less great = absurd (omega (arith, great))
    most Equal great = absurd (omega (arith, great))
    most Greater great = refl

module _ {T : Type 0} where
  abbrev entry : Key → NameAndValue T → NamedItem T
  entry key n = record { name = n.name; key = key; value = n.value }

  entries_of-cons : (items : List (Item (NameAndValue T))) (k : Key) (ks : List Key) (n : NameAndValue T) → value_at items k ≡ Some n
      → entries_of items (k ∷ ks) ≡ record { name = n.name; key = k; value = n.value } ∷ entries_of items ks
  entries_of-cons items k ks n is = rw is refl

  -- the value of a later key has a higher name
  above_at : (items : List (Item (NameAndValue T))) (a : List ℕ) (ks : List Key) (i : ℕ) (d : Key) → ArePresent items ks → AreAbove a (entries_of items ks)
      → i < length ks → (m : NameAndValue T) × (value_at items (get_or ks i d) ≡ Some m) × (name_cmp a m.name ≡ Less)
  above_at items a [] i d present above within = absurd (omega arith)
  above_at items a (k ∷ ks) zero d present above within =
      let s = some_of (value_at items k) present.0 in
      let above' = rw (entries_of-cons items k ks s.0 s.1) at above in
      (s.0, s.1, above'.0)
  above_at items a (k ∷ ks) (suc i) d present above within =
      let s = some_of (value_at items k) present.0 in
      let above' = rw (entries_of-cons items k ks s.0 s.1) at above in
      above_at items a ks i d present.1 above'.1 (omega arith)

  -- the keys are in order of what a search compares
  pub searchable : (items : List (Item (NameAndValue T))) (name : List ℕ) (ks : List Key) → ArePresent items ks → IsRising (entries_of items ks)
      → IsNonDecreasingBy (λ k. ordering_index (order_at items name k)) ks
  searchable items name [] present rising i j d below within = absurd (omega arith)
  searchable items name (k ∷ ks) present rising zero zero d below within = omega arith
  searchable items name (k ∷ ks) present rising (suc i) zero d below within = absurd (omega arith)
  searchable items name (k ∷ ks) present rising zero (suc j) d below within =
      let s = some_of (value_at items k) present.0 in
      let rising' = rw (entries_of-cons items k ks s.0 s.1) at rising in
      let m = above_at items s.0.name ks j d present.1 rising'.0 (omega arith) in
      rw (s.1, m.1) (index_rises s.0.name m.0.name name (name_cmp m.0.name name) m.2 refl)
  searchable items name (k ∷ ks) present rising (suc i) (suc j) d below within =
      let s = some_of (value_at items k) present.0 in
      let rising' = rw (entries_of-cons items k ks s.0 s.1) at rising in
      searchable items name ks present.1 rising'.1 i j d (omega arith) (omega arith)

  -- a key whose value has the name is what the look-up by recursion finds
  key_at-found : (items : List (Item (NameAndValue T))) (name : List ℕ) (ks : List Key) (i : ℕ) (d : Key) → ArePresent items ks → IsRising (entries_of items ks)
      → i < length ks → order_at items name (get_or ks i d) ≡ Equal → Some (get_or ks i d) ≡ key_at (entries_of items ks) name
  key_at-found items name [] i d present rising within equal = absurd (omega arith)
  key_at-found items name (k ∷ ks) zero d present rising within equal =
      let s = some_of (value_at items k) present.0 in
      let equal' : name_cmp s.0.name name ≡ Equal = ap (λ o. order_in o name) (sym s.1) ∙ equal in
      rw (entries_of-cons items k ks s.0 s.1) (sym (key_at-same (entry k s.0) (entries_of items ks) name equal'))
  key_at-found items name (k ∷ ks) (suc i) d present rising within equal =
      let s = some_of (value_at items k) present.0 in
      let rising' = rw (entries_of-cons items k ks s.0 s.1) at rising in
      let m = above_at items s.0.name ks i d present.1 rising'.0 (omega arith) in
      let equal' : name_cmp m.0.name name ≡ Equal = ap (λ o. order_in o name) (sym m.1) ∙ equal in
      rw (entries_of-cons items k ks s.0 s.1)
      (key_at-found items name ks i d present.1 rising'.1 (omega arith) equal
      ∙ sym (key_at-less (entry k s.0) (entries_of items ks) name (less_equal s.0.name m.0.name name m.2 equal')))

  pub key_at-absent : (items : List (Item (NameAndValue T))) (name : List ℕ) (ks : List Key) → ArePresent items ks
      → ((i : ℕ) (d : Key) → i < length ks → order_at items name (get_or ks i d) ≡ Equal → ⊥)
      → None ≡ key_at (entries_of items ks) name
  key_at-absent items name [] present none = refl
  key_at-absent items name (k ∷ ks) present none =
      let s = some_of (value_at items k) present.0 in
      rw (entries_of-cons items k ks s.0 s.1)
      (key_at-absent items name ks present.1 (λ i d within. none (suc i) d (omega arith))
      ∙ sym (key_at-differs (entry k s.0) (entries_of items ks) name (name_cmp s.0.name name) refl
      (λ equal. none zero k (omega arith) (ap (λ o. order_in o name) s.1 ∙ equal))))

  pub found : (items : List (Item (NameAndValue T))) (name : List ℕ) (ks : List Key) (i : ℕ) (d : Key) → IsInOrder items ks → i < length ks
      → IsBinarySearchResult (order_at items name) ks (Ok i) → Some (get_or ks i d) ≡ key_at (entries_of items ks) name
  found items name ks i d ordered within result = key_at-found items name ks i d ordered.present ordered.rising within (result d)

  pub absent : (items : List (Item (NameAndValue T))) (name : List ℕ) (ks : List Key) (i : ℕ) → IsInOrder items ks
      → IsBinarySearchResult (order_at items name) ks (Err i) → None ≡ key_at (entries_of items ks) name
  absent items name ks i ordered result =
      let point = result (searchable items name ks ordered.present ordered.rising) in
      key_at-absent items name ks ordered.present (λ k d within equal.
      elim (cases_lt k i) [
        | inl lower ↦ let less = point.0 k d (omega arith) lower in cc
        | inr upper ↦ let more = point.1 k d upper within in cc
      ])

  -- ---- one more
  entries_of-kept : (items more : List (Item (NameAndValue T))) (ks : List Key) → ArePresent items ks → entries_of (items ++ more) ks ≡ entries_of items ks
  entries_of-kept items more [] present = refl
  entries_of-kept items more (k ∷ ks) present =
      let s = some_of (value_at items k) present.0 in
      rw (s.1, value_at-kept items more k s.0 s.1) (ap (λ l. entry k s.0 ∷ l) (entries_of-kept items more ks present.1))

  present_kept : (items more : List (Item (NameAndValue T))) (ks : List Key) → ArePresent items ks → ArePresent (items ++ more) ks
  present_kept items more [] present = tt
  present_kept items more (k ∷ ks) present =
      let s = some_of (value_at items k) present.0 in
      (rw (value_at-kept items more k s.0 s.1) refl, present_kept items more ks present.1)

  present_inserted : (items : List (Item (NameAndValue T))) (ks : List Key) (i : ℕ) (key : Key) → ArePresent items ks → is_some (value_at items key) ≡ true
      → ArePresent items (take i ks ++ key ∷ drop i ks)
  present_inserted items ks zero key present some = (some, present)
  present_inserted items [] (suc i) key present some = (some, present)
  present_inserted items (k ∷ ks) (suc i) key present some = (present.0, present_inserted items ks i key present.1 some)

  entries_of-inserted : (items more : List (Item (NameAndValue T))) (ks : List Key) (i : ℕ) (key : Key) (n : NameAndValue T) → ArePresent items ks
      → value_at (items ++ more) key ≡ Some n → i ≤ length ks
      → ((j : ℕ) (d : Key) → j < i → order_at items n.name (get_or ks j d) ≡ Less)
      → ((j : ℕ) (d : Key) → i ≤ j → j < length ks → order_at items n.name (get_or ks j d) ≡ Greater)
      → entries_of (items ++ more) (take i ks ++ key ∷ drop i ks) ≡ put (entries_of items ks) (entry key n)
  entries_of-inserted items more [] zero key n present is within lower higher = entries_of-cons (items ++ more) key [] n is
  entries_of-inserted items more [] (suc i) key n present is within lower higher = absurd (omega arith)
  entries_of-inserted items more (k ∷ ks) zero key n present is within lower higher =
      let s = some_of (value_at items k) present.0 in
      let greater : name_cmp s.0.name n.name ≡ Greater = ap (λ o. order_in o n.name) (sym s.1) ∙ higher zero k (omega arith) (omega arith) in
      entries_of-cons (items ++ more) key (k ∷ ks) n is
      ∙ ap (λ l. entry key n ∷ l) (entries_of-kept items more (k ∷ ks) present ∙ entries_of-cons items k ks s.0 s.1)
      ∙ sym (ap (λ l. put l (entry key n)) (entries_of-cons items k ks s.0 s.1) ∙ put-higher (entry k s.0) (entries_of items ks) (entry key n) greater)
  entries_of-inserted items more (k ∷ ks) (suc i) key n present is within lower higher =
      let s = some_of (value_at items k) present.0 in
      let less : name_cmp s.0.name n.name ≡ Less = ap (λ o. order_in o n.name) (sym s.1) ∙ lower zero k (omega arith) in
      entries_of-cons (items ++ more) k (take i ks ++ key ∷ drop i ks) s.0 (value_at-kept items more k s.0 s.1)
      ∙ ap (λ l. entry k s.0 ∷ l)
      (entries_of-inserted items more ks i key n present.1 is (omega arith) (λ j d below. lower (suc j) d (omega arith))
      (λ j d from below. higher (suc j) d (omega arith) (omega arith)))
      ∙ sym (ap (λ l. put l (entry key n)) (entries_of-cons items k ks s.0 s.1) ∙ put-lower (entry k s.0) (entries_of items ks) (entry key n) less)

  pub inserted : (items : List (Item (NameAndValue T))) (ks : List Key) (i : ℕ) (key : Key) (n : NameAndValue T) → IsInOrder items ks → value_at items key ≡ None → i ≤ length ks
      → IsPartitionPoint (λ k. order_at items n.name k ≡ Less) (λ k. order_at items n.name k ≡ Greater) ks i
      → entries_of (items ++ item key n ∷ []) (take i ks ++ key ∷ drop i ks) ≡ put (entries_of items ks) (record { name = n.name; key = key; value = n.value })
  inserted items ks i key n ordered none within point =
      entries_of-inserted items (item key n ∷ []) ks i key n ordered.present (value_at-last items key n none) within
      (λ j d below. point.0 j d (omega arith) below) (λ j d from below. point.1 j d from below)

  pub in_order : (items : List (Item (NameAndValue T))) (ks : List Key) (i : ℕ) (key : Key) (n : NameAndValue T) → IsInOrder items ks → value_at items key ≡ None → i ≤ length ks
      → IsPartitionPoint (λ k. order_at items n.name k ≡ Less) (λ k. order_at items n.name k ≡ Greater) ks i
      → key_at (entries_of items ks) n.name ≡ None
      → IsInOrder (items ++ item key n ∷ []) (take i ks ++ key ∷ drop i ks)
  in_order items ks i key n ordered none within point free =
      record {
        present = present_inserted (items ++ item key n ∷ []) ks i key (present_kept items (item key n ∷ []) ks ordered.present) (rw (value_at-last items key n none) refl);
        rising = rw (inserted items ks i key n ordered none within point) (rising_put (entries_of items ks) (entry key n) ordered.rising free);
        complete = λ other some.
            HasKey-inserted ks i key other
            (elim (value_at-append items key n other some) [ inl last ↦ inl last | inr rest ↦ inr (ordered.complete other rest) ]);
      }

  -- ---- one less
  -- a key is not among those whose values have higher names
  not_above : (items : List (Item (NameAndValue T))) (key k : Key) (n : NameAndValue T) → value_at items key ≡ Some n → (m : NameAndValue T) → value_at items k ≡ Some m
      → name_cmp n.name m.name ≡ Less → key ≡ k → ⊥
  not_above items key k n is m at_k less same =
      let both : Some n ≡ Some m = sym is ∙ ap (λ x. value_at items x) same ∙ at_k in
      let equal = name_same m.name in
      let less' : name_cmp m.name m.name ≡ Less = ap (λ (x : NameAndValue T). name_cmp x.name m.name) (sym (same_Some n m both)) ∙ less in
      absurd (cc)

  -- keys of higher names name what they named, where other keys than this do
  entries_of-others : (items new : List (Item (NameAndValue T))) (key : Key) (n : NameAndValue T) (ks : List Key)
      → ((other : Key) → (key ≡ other → ⊥) → value_at new other ≡ value_at items other) → value_at items key ≡ Some n → ArePresent items ks
      → AreAbove n.name (entries_of items ks) → (entries_of new ks ≡ entries_of items ks) × ArePresent new ks
  entries_of-others items new key n [] others is present above = (refl, tt)
  entries_of-others items new key n (k ∷ ks) others is present above =
      let s = some_of (value_at items k) present.0 in
      let above' = rw (entries_of-cons items k ks s.0 s.1) at above in
      let rest = entries_of-others items new key n ks others is present.1 above'.1 in
      let stays : value_at new k ≡ Some s.0 = others k (not_above items key k n is s.0 s.1 above'.0) ∙ s.1 in (
        entries_of-cons new k ks s.0 stays ∙ ap (λ l. entry k s.0 ∷ l) rest.0 ∙ sym (entries_of-cons items k ks s.0 s.1),
        (rw stays refl, rest.1),
      )

  -- what a removal of the key at this place leaves
  pub record IsTaken (items : List (Item (NameAndValue T))) (ks : List Key) (i : ℕ) (key : Key) (name : List ℕ) : Type 0 where
    pub named : NameAndValue T
    pub stood : value_at items key ≡ Some named
    pub found : at (entries_of items ks) name ≡ Some (key, named.value)
    pub entries : entries_of (without items key) (take i ks ++ drop (suc i) ks) ≡ without_name (entries_of items ks) name
    pub present : ArePresent (without items key) (take i ks ++ drop (suc i) ks)

  taken_at : (items : List (Item (NameAndValue T))) (name : List ℕ) (ks : List Key) (i : ℕ) (d : Key) → ArePresent items ks → IsRising (entries_of items ks) → i < length ks
      → order_at items name (get_or ks i d) ≡ Equal → IsTaken items ks i (get_or ks i d) name
  taken_at items name [] i d present rising within equal = absurd (omega arith)
  taken_at items name (k ∷ ks) zero d present rising within equal =
      let s = some_of (value_at items k) present.0 in
      let equal' : name_cmp s.0.name name ≡ Equal = ap (λ o. order_in o name) (sym s.1) ∙ equal in
      let cons = entries_of-cons items k ks s.0 s.1 in
      let rising' = rw cons at rising in
      let rest = entries_of-others items (without items k) k s.0 ks (λ other differs. value_at-others items k other differs) s.1 present.1 rising'.0 in
      record {
        named = s.0;
        stood = s.1;
        found = ap (λ es. at es name) cons ∙ at-same (entry k s.0) (entries_of items ks) name equal';
        entries = rest.0 ∙ sym (ap (λ es. without_name es name) cons ∙ without_name-same (entry k s.0) (entries_of items ks) name equal');
        present = rest.1;
      }
  taken_at items name (k ∷ ks) (suc i) d present rising within equal =
      let s = some_of (value_at items k) present.0 in
      let cons = entries_of-cons items k ks s.0 s.1 in
      let rising' = rw cons at rising in
      let m = above_at items s.0.name ks i d present.1 rising'.0 (omega arith) in
      let equal' : name_cmp m.0.name name ≡ Equal = ap (λ o. order_in o name) (sym m.1) ∙ equal in
      let less = less_equal s.0.name m.0.name name m.2 equal' in
      let key = get_or ks i d in
      let inner = taken_at items name ks i d present.1 rising'.1 (omega arith) equal in
      let stays : value_at (without items (get_or ks i d)) k ≡ Some s.0 =
      value_at-others items (get_or ks i d) k (λ same. not_above items k (get_or ks i d) s.0 s.1 m.0 m.1 m.2 (sym same)) ∙ s.1 in
      record {
        named = inner.named;
        stood = inner.stood;
        found = ap (λ es. at es name) cons ∙ at-less (entry k s.0) (entries_of items ks) name less ∙ inner.found;
        entries =
            entries_of-cons (without items (get_or ks i d)) k (take i ks ++ drop (suc i) ks) s.0 stays
            ∙ ap (λ l. entry k s.0 ∷ l) inner.entries
            ∙ sym (ap (λ es. without_name es name) cons ∙ without_name-less (entry k s.0) (entries_of items ks) name less);
        present = (rw stays refl, inner.present);
      }

  pub taken : (items : List (Item (NameAndValue T))) (name : List ℕ) (ks : List Key) (i : ℕ) (key : Key) → IsInOrder items ks → i < length ks
      → IsBinarySearchResult (order_at items name) ks (Ok i) → key ≡ get_or ks i key → IsTaken items ks i key name
  taken items name ks i key ordered within result is =
      rw (sym is) at (taken_at items name ks i key ordered.present ordered.rising within (result key))

  pub order_taken : (items : List (Item (NameAndValue T))) (name : List ℕ) (ks : List Key) (i : ℕ) (key : Key) → IsInOrder items ks → IsTaken items ks i key name
      → key ≡ get_or ks i key → value_at (without items key) key ≡ None → IsInOrder (without items key) (take i ks ++ drop (suc i) ks)
  order_taken items name ks i key ordered taken is gone =
      record {
        present = taken.present;
        rising = rw taken.entries (rising_without (entries_of items ks) name ordered.rising);
        complete = λ other some.
            let differs : get_or ks i key ≡ other → ⊥ = λ same.
            let none : value_at (without items key) other ≡ None = ap (λ x. value_at (without items key) x) (sym (is ∙ same)) ∙ gone in
            absurd (cc)
            in
            HasKey-removed ks i key other differs
            (ordered.complete other (rw (← value_at-others items key other (λ same. differs (sym is ∙ same))) some));
      }

  -- ---- what a key names
  value_of-present : (items : List (Item (NameAndValue T))) (ks : List Key) (key : Key) → ArePresent items ks → HasKey key ks
      → value_of (entries_of items ks) key ≡ option_map (λ n. n.value) (value_at items key)
  value_of-present items [] key present has = absurd has
  value_of-present items (k ∷ ks) key present has =
      let s = some_of (value_at items k) present.0 in
      let cons = entries_of-cons items k ks s.0 s.1 in
      ap (λ es. value_of es key) cons
      ∙ elim (cases_Bool (same_key k key)) [
        | inl same ↦
            value_of-same (entry k s.0) (entries_of items ks) key same
            ∙ sym (ap (λ o. option_map (λ (n : NameAndValue T). n.value) o) (ap (λ x. value_at items x) (sym (same_key-true k key same)) ∙ s.1))
        | inr differs ↦
            value_of-other (entry k s.0) (entries_of items ks) key differs
            ∙ value_of-present items ks key present.1 (elim has [ inl same ↦ absurd (let equal = same_key-self k key same in cc) | inr rest ↦ rest ])
      ]

  pub value_of-absent : (items : List (Item (NameAndValue T))) (ks : List Key) (key : Key) → ArePresent items ks → value_at items key ≡ None
      → value_of (entries_of items ks) key ≡ None
  value_of-absent items [] key present none = refl
  value_of-absent items (k ∷ ks) key present none =
      let s = some_of (value_at items k) present.0 in
      let cons = entries_of-cons items k ks s.0 s.1 in
      ap (λ es. value_of es key) cons
      ∙ elim (cases_Bool (same_key k key)) [
        | inl same ↦ absurd (let found : value_at items key ≡ Some s.0 = ap (λ x. value_at items x) (sym (same_key-true k key same)) ∙ s.1 in cc)
        | inr differs ↦ value_of-other (entry k s.0) (entries_of items ks) key differs ∙ value_of-absent items ks key present.1 none
      ]

  pub keyed : (items : List (Item (NameAndValue T))) (ks : List Key) (key : Key) → IsInOrder items ks
      → option_map (λ n. n.value) (value_at items key) ≡ value_of (entries_of items ks) key
  keyed items ks key ordered =
      elim (cases_Bool (is_some (value_at items key))) [
        | inl some ↦ sym (value_of-present items ks key ordered.present (ordered.complete key some))
        | inr none ↦
            let gone = none_of (value_at items key) none in
            ap (λ o. option_map (λ (n : NameAndValue T). n.value) o) gone ∙ sym (value_of-absent items ks key ordered.present gone)
      ]

  -- what stands under a name is a value with that name
  at-stands_present : (items : List (Item (NameAndValue T))) (ks : List Key) (q : List ℕ) (key : Key) (v : T) → ArePresent items ks
      → at (entries_of items ks) q ≡ Some (key, v) → (n : NameAndValue T) × (value_at items key ≡ Some n) × (n.name ≡ q) × (n.value ≡ v)
  at-stands_present items [] q key v present found = absurd (cc)
  at-stands_present items (k ∷ ks) q key v present found =
      let s = some_of (value_at items k) present.0 in
      let found' = rw (entries_of-cons items k ks s.0 s.1) at found in
      elim (cases_Bool (is_eq (name_cmp s.0.name q))) [
        | inl this ↦
            let same = same_Some (k, s.0.value) (key, v) (rw this at found') in
            let key_is : k ≡ key = ap (λ p. p.0) same in
            (s.0, ap (λ x. value_at items x) (sym key_is) ∙ s.1, name_equal s.0.name q (from_is_eq (name_cmp s.0.name q) this), ap (λ p. p.1) same)
        | inr other ↦ at-stands_present items ks q key v present.1 (rw other at found')
      ]

  -- among keys in order, what stands under a name is a value with that name
  pub at-stands : (items : List (Item (NameAndValue T))) (ks : List Key) (q : List ℕ) (key : Key) (v : T) → IsInOrder items ks
      → at (entries_of items ks) q ≡ Some (key, v) → (n : NameAndValue T) × (value_at items key ≡ Some n) × (n.name ≡ q) × (n.value ≡ v)
  at-stands items ks q key v ordered found = at-stands_present items ks q key v ordered.present found

  -- ---- another value
  valued_at : (items : List (Item (NameAndValue T))) (key : Key) (n : NameAndValue T) (w : T) (ks : List Key) → value_at items key ≡ Some n → ArePresent items ks
      → IsRising (entries_of items ks) → key_at (entries_of items ks) n.name ≡ Some key
      → (entries_of (with_value items key (record n { value = w })) ks ≡ with_named (entries_of items ks) n.name w)
      × ArePresent (with_value items key (record n { value = w })) ks
  valued_at items key n w [] is present rising here = absurd (cc)
  valued_at items key n w (k ∷ ks) is present rising here =
      let s = some_of (value_at items k) present.0 in
      let x : NameAndValue T = record n { value = w } in
      let new = with_value items key x in
      let cons = entries_of-cons items k ks s.0 s.1 in
      let rising' = rw cons at rising in
      let here' = rw cons at here in
      let others : (other : Key) → (key ≡ other → ⊥) → value_at new other ≡ value_at items other = λ other differs. value_at-with_other items key other x (λ same. differs (sym same)) in
      elim (cases_Bool (is_eq (name_cmp s.0.name n.name))) [
        | inl this ↦
            let key_is : k ≡ key = same_Some k key (rw this at here') in
            let same : s.0 ≡ n = same_Some s.0 n (sym s.1 ∙ ap (value_at items) key_is ∙ is) in
            let rest = entries_of-others items new key n ks others is present.1 (rw same at rising'.0) in
            let there : value_at new k ≡ Some x = ap (value_at new) key_is ∙ value_at-with_same items key x (ap is_some is) in (
              entries_of-cons new k ks x there ∙ ap (λ l. entry k x ∷ l) rest.0
                  ∙ ap (λ (m : NameAndValue T). record { name = m.name; key = k; value = w } ∷ entries_of items ks) (sym same)
                  ∙ sym (ap (λ es. with_named es n.name w) cons ∙ rw this refl),
              (rw there refl, rest.1),
            )
        | inr other ↦
            let differs : key ≡ k → ⊥ = λ same. absurd (
            let one : n ≡ s.0 = same_Some n s.0 (sym is ∙ ap (value_at items) same ∙ s.1) in
            let equal = name_same s.0.name in
            let not_equal : is_eq (name_cmp s.0.name s.0.name) ≡ false = ap (λ (m : NameAndValue T). is_eq (name_cmp s.0.name m.name)) (sym one) ∙ other in
            cc) in
            let stays : value_at new k ≡ Some s.0 = others k differs ∙ s.1 in
            let inner = valued_at items key n w ks is present.1 rising'.1 (rw other at here') in (
              entries_of-cons new k ks s.0 stays ∙ ap (λ l. entry k s.0 ∷ l) inner.0
                  ∙ sym (ap (λ es. with_named es n.name w) cons ∙ rw other refl),
              (rw stays refl, inner.1),
            )
      ]

  AreAbove-valued : (a name : List ℕ) (w : T) (es : List (NamedItem T)) → AreAbove a es → AreAbove a (with_named es name w)
  AreAbove-valued a name w [] above = tt
  AreAbove-valued a name w (e ∷ es) above =
      elim (cases_Bool (is_eq (name_cmp e.name name))) [
        | inl this ↦ rw this above
        | inr other ↦ rw other ((above.0, AreAbove-valued a name w es above.1))
      ]

  IsRising-valued : (name : List ℕ) (w : T) (es : List (NamedItem T)) → IsRising es → IsRising (with_named es name w)
  IsRising-valued name w [] rising = tt
  IsRising-valued name w (e ∷ es) rising =
      elim (cases_Bool (is_eq (name_cmp e.name name))) [
        | inl this ↦ rw this rising
        | inr other ↦ rw other ((AreAbove-valued e.name name w es rising.0, IsRising-valued name w es rising.1))
      ]

  some_revalued : (items : List (Item (NameAndValue T))) (key other : Key) (x : NameAndValue T) → is_some (value_at items key) ≡ true
      → is_some (value_at (with_value items key x) other) ≡ true → is_some (value_at items other) ≡ true
  some_revalued items key other x here some =
      elim (cases_key other key) [
        | inl same ↦ ap (λ k. is_some (value_at items k)) same ∙ here
        | inr differs ↦ rw (value_at-with_other items key other x differs) at some
      ]

  -- the entries once another value stands under the name that has this key
  pub order_revalued : (items : List (Item (NameAndValue T))) (ks : List Key) (name : List ℕ) (key : Key) (w : T) → IsInOrder items ks
      → Some key ≡ key_at (entries_of items ks) name
      → IsInOrder (revalued items key w) ks × (entries_of (revalued items key w) ks ≡ with_named (entries_of items ks) name w)
  order_revalued items ks name key w ordered found = by_cases (at (entries_of items ks) name) refl (found ∙ key_at-at (entries_of items ks) name)
    where
      by_cases : (o : Option (Key × T)) → at (entries_of items ks) name ≡ o → Some key ≡ option_map (λ e. e.0) o
          → IsInOrder (revalued items key w) ks × (entries_of (revalued items key w) ks ≡ with_named (entries_of items ks) name w)
      by_cases None is none = absurd (cc)
      by_cases (Some e) is some =
          let this : e.0 ≡ key = same_Some e.0 key (sym some) in
          let n = at-stands items ks name key e.1 ordered (is ∙ ap (λ k. Some (k, e.1)) this) in
          let valued = valued_at items key n.0 w ks n.1 ordered.present ordered.rising (sym (found ∙ ap (key_at (entries_of items ks)) (sym n.2))) in
          let entries : entries_of (with_value items key (record n.0 { value = w })) ks ≡ with_named (entries_of items ks) name w =
          valued.0 ∙ ap (λ q. with_named (entries_of items ks) q w) n.2 in
          rw n.1
          ((
            record {
              present = valued.1;
              rising = rw entries (IsRising-valued name w (entries_of items ks) ordered.rising);
              complete = λ other some. ordered.complete other (some_revalued items key other (record n.0 { value = w }) (ap is_some n.1) some);
            },
            entries,
          ))

  -- the key of what was removed is spent
  pub taken_spent : (items : List (Item (NameAndValue T))) (name : List ℕ) (ks : List Key) (i : ℕ) (key : Key) (unlinked : Listed (NameAndValue T)) (new : Mapped T)
      (o : Option (NameAndValue T)) → IsTaken items ks i key name → OnSome o (IsSpentKey unlinked key) → o ≡ value_at items key
      → unlinked.items ≡ without items key → new.entries ≡ entries_of (without items key) (take i ks ++ drop (suc i) ks) → new.next ≡ unlinked.next
      → (k : Key) → key_at (entries_of items ks) name ≡ Some k → IsSpent new k
  taken_spent items name ks i key unlinked new o t spent value kept entries next k is =
      let listed = on_some (IsSpentKey unlinked key) o t.named (value ∙ t.stood) spent in
      let same : key ≡ k = same_Some key k (sym (key_at-at (entries_of items ks) name ∙ ap (λ o. option_map (λ e. e.0) o) t.found) ∙ is) in
      let absent : value_at (without items key) key ≡ None = ap (λ xs. value_at xs key) (sym kept) ∙ listed.gone in
      rw (← same)
      (record {
        before = rw next listed.before;
        gone = rw entries (value_of-absent (without items key) (take i ks ++ drop (suc i) ks) key t.present absent);
      })

  -- ---- the first name that is not below one
  below_equal : (items : List (Item (NameAndValue T))) (name : List ℕ) (ks : List Key) (i j : ℕ) (d e : Key) → ArePresent items ks → IsRising (entries_of items ks)
      → i < length ks → order_at items name (get_or ks i d) ≡ Equal → j < i → order_at items name (get_or ks j e) ≡ Less
  below_equal items name [] i j d e present rising within equal below = absurd (omega arith)
  below_equal items name (k ∷ ks) zero j d e present rising within equal below = absurd (omega arith)
  below_equal items name (k ∷ ks) (suc i) zero d e present rising within equal below =
      let s = some_of (value_at items k) present.0 in
      let rising' = rw (entries_of-cons items k ks s.0 s.1) at rising in
      let m = above_at items s.0.name ks i d present.1 rising'.0 (omega arith) in
      let equal' : name_cmp m.0.name name ≡ Equal = ap (λ o. order_in o name) (sym m.1) ∙ equal in
      ap (λ o. order_in o name) s.1 ∙ less_equal s.0.name m.0.name name m.2 equal'
  below_equal items name (k ∷ ks) (suc i) (suc j) d e present rising within equal below =
      let s = some_of (value_at items k) present.0 in
      let rising' = rw (entries_of-cons items k ks s.0 s.1) at rising in
      below_equal items name ks i j d e present.1 rising'.1 (omega arith) equal (omega arith)

  pub first_at_equal : (items : List (Item (NameAndValue T))) (name : List ℕ) (ks : List Key) (i : ℕ) → IsInOrder items ks → i < length ks
      → IsBinarySearchResult (order_at items name) ks (Ok i) → IsFirstNotBelow items name ks i
  first_at_equal items name ks i ordered within result =
      record {
        below = λ j d lower. below_equal items name ks i j d d ordered.present ordered.rising within (result d) lower;
        not_below = λ d within. ap is_lt (result d);
      }

  pub first_at_gap : (items : List (Item (NameAndValue T))) (name : List ℕ) (ks : List Key) (i : ℕ) → IsInOrder items ks → i ≤ length ks
      → IsBinarySearchResult (order_at items name) ks (Err i) → IsFirstNotBelow items name ks i
  first_at_gap items name ks i ordered bound result =
      let point = result (searchable items name ks ordered.present ordered.rising) in
      record {
        below = λ j d lower. point.0 j d (omega (arith, bound, lower)) lower;
        not_below = λ d within. ap is_lt (point.1 i d (omega arith) within);
      }

  first_from-below : (items : List (Item (NameAndValue T))) (name : List ℕ) (k : Key) (ks : List Key) (n : NameAndValue T) → value_at items k ≡ Some n
      → order_at items name k ≡ Less → first_from (entries_of items (k ∷ ks)) name ≡ first_from (entries_of items ks) name
  first_from-below items name k ks n is less =
      let less' : name_cmp n.name name ≡ Less = ap (λ o. order_in o name) (sym is) ∙ less in
      ap (λ es. first_from es name) (entries_of-cons items k ks n is) ∙ rw less' refl

  first_from-later : (items : List (Item (NameAndValue T))) (name : List ℕ) (k : Key) (ks : List Key) (i : ℕ)
      → IsFirstNotBelow items name (k ∷ ks) (suc i) → IsFirstNotBelow items name ks i
  first_from-later items name k ks i first =
      record {
        below = λ j d lower. first.below (suc j) d (omega arith);
        not_below = λ d within. first.not_below d (omega arith);
      }

  pub first_from-at : (items : List (Item (NameAndValue T))) (name : List ℕ) (ks : List Key) (i : ℕ) (d : Key) → ArePresent items ks
      → IsFirstNotBelow items name ks i → i < length ks
      → (n : NameAndValue T) × (value_at items (get_or ks i d) ≡ Some n) × (first_from (entries_of items ks) name ≡ Some (get_or ks i d, n.value))
  first_from-at items name [] i d present first within = absurd (omega arith)
  first_from-at items name (k ∷ ks) zero d present first within =
      let s = some_of (value_at items k) present.0 in
      let not_below : is_lt (name_cmp s.0.name name) ≡ false = ap (λ o. is_lt (order_in o name)) (sym s.1) ∙ first.not_below k within in
      (s.0, s.1, ap (λ es. first_from es name) (entries_of-cons items k ks s.0 s.1) ∙ rw not_below refl)
  first_from-at items name (k ∷ ks) (suc i) d present first within =
      let s = some_of (value_at items k) present.0 in
      let inner = first_from-at items name ks i d present.1 (first_from-later items name k ks i first) (omega arith) in
      (inner.0, inner.1, first_from-below items name k ks s.0 s.1 (first.below zero k (omega arith)) ∙ inner.2)

  pub first_from-none : (items : List (Item (NameAndValue T))) (name : List ℕ) (ks : List Key) (i : ℕ) → ArePresent items ks
      → IsFirstNotBelow items name ks i → length ks ≤ i → first_from (entries_of items ks) name ≡ None
  first_from-none items name [] i present first past = refl
  first_from-none items name (k ∷ ks) zero present first past = absurd (omega (arith, past))
  first_from-none items name (k ∷ ks) (suc i) present first past =
      let s = some_of (value_at items k) present.0 in
      first_from-below items name k ks s.0 s.1 (first.below zero k (omega arith))
      ∙ first_from-none items name ks i present.1 (first_from-later items name k ks i first) (omega (arith, past))

  -- ---- the keys from one on
  pub present_from : (items : List (Item (NameAndValue T))) (ks : List Key) (i : ℕ) → ArePresent items ks → ArePresent items (drop i ks)
  present_from items ks zero present = present
  present_from items [] (suc i) present = tt
  present_from items (k ∷ ks) (suc i) present = present_from items ks i present.1

  -- the keys from the first name on that is not below are those of the entries from it on
  pub entries_from-at : (items : List (Item (NameAndValue T))) (name : List ℕ) (ks : List Key) (i : ℕ) → ArePresent items ks
      → IsFirstNotBelow items name ks i → entries_of items (drop i ks) ≡ entries_from (entries_of items ks) name
  entries_from-at items name [] zero present first = refl
  entries_from-at items name [] (suc i) present first = refl
  entries_from-at items name (k ∷ ks) zero present first =
      let s = some_of (value_at items k) present.0 in
      let not_below : is_lt (name_cmp s.0.name name) ≡ false = ap (λ o. is_lt (order_in o name)) (sym s.1) ∙ first.not_below k (omega arith) in
      rw (entries_of-cons items k ks s.0 s.1, not_below) refl
  entries_from-at items name (k ∷ ks) (suc i) present first =
      let s = some_of (value_at items k) present.0 in
      let below : name_cmp s.0.name name ≡ Less = ap (λ o. order_in o name) (sym s.1) ∙ first.below zero k (omega arith) in
      rw (entries_of-cons items k ks s.0 s.1, below) (entries_from-at items name ks i present.1 (first_from-later items name k ks i first))

  -- ---- what a key that was found stands for
  -- what is known of a key that was read where a search found the name
  pub record IsFoundKey (items : List (Item (NameAndValue T))) (ks : List Key) (name : List ℕ) (o : Option Key) : Type 0 where
    pub key : o ≡ key_at (entries_of items ks) name
    pub value : IfSome o (λ key. value_of (entries_of items ks) key ≡ option_map (λ e. e.1) (at (entries_of items ks) name))
    pub absent : IfNone o (at (entries_of items ks) name ≡ None)

  -- a key that was read there
  pub found_key : (items : List (Item (NameAndValue T))) (name : List ℕ) (ks : List Key) (i : ℕ) (o : Option Key) → IsInOrder items ks → i < length ks
      → IsBinarySearchResult (order_at items name) ks (Ok i) → o ≡ slice_get ks i → IsFoundKey items ks name o
  found_key items name ks i None ordered within result is =
      absurd (let some = is ∙ slice_get-get_or ks i no_key within in cc)
  found_key items name ks i (Some key) ordered within result is =
      let here : key ≡ get_or ks i key = sym (get_or_from_slice_get ks i key key (sym is)) in
      let t = taken items name ks i key ordered within result here in
      record {
        key = ap Some here ∙ found items name ks i key ordered within result;
        value =
            sym (keyed items ks key ordered)
            ∙ ap (λ o. option_map (λ (n : NameAndValue T). n.value) o) t.stood
            ∙ sym (ap (λ o. option_map (λ e. e.1) o) t.found);
        absent = tt;
      }

  -- what is known of a key that was read where the first name not below stands
  pub record IsFirstKey (items : List (Item (NameAndValue T))) (ks : List Key) (name : List ℕ) (o : Option Key) : Type 0 where
    pub key : o ≡ option_map (λ e. e.0) (first_from (entries_of items ks) name)
    pub value : IfSome o (λ key. value_of (entries_of items ks) key ≡ option_map (λ e. e.1) (first_from (entries_of items ks) name))
    pub first : IfSome o (λ key. IsFirstOf (λ q. IsNotBelow q name) (entries_of items ks) key)
    pub none : IfNone o (IsNoneOf (λ q. IsNotBelow q name) (entries_of items ks))

  -- a key that was read there, or none
  pub first_key : (items : List (Item (NameAndValue T))) (name : List ℕ) (ks : List Key) (i : ℕ) (o : Option Key) → IsInOrder items ks
      → IsFirstNotBelow items name ks i → o ≡ slice_get ks i → IsFirstKey items ks name o
  first_key items name ks i None ordered first is =
      let past : length ks ≤ i =
      elim (cases_lt i (length ks)) [
        | inl within ↦ absurd (let some = is ∙ slice_get-get_or ks i no_key within in cc)
        | inr past ↦ past
      ] in
      let nothing = first_from-none items name ks i ordered.present first past in
      record {
        key = sym (ap (λ o. option_map (λ e. e.0) o) nothing);
        value = tt;
        first = tt;
        none = first_from-nothing (entries_of items ks) name nothing;
      }
  first_key items name ks i (Some key) ordered first is =
      let here : get_or ks i key ≡ key = get_or_from_slice_get ks i key key (sym is) in
      let this = first_from-at items name ks i key ordered.present first (slice_get_within ks i key (sym is)) in
      let stood : value_at items key ≡ Some this.0 = ap (λ k. value_at items k) (sym here) ∙ this.1 in
      let gives : first_from (entries_of items ks) name ≡ Some (key, this.0.value) = this.2 ∙ ap (λ k. Some (k, this.0.value)) here in
      record {
        key = sym (ap (λ o. option_map (λ e. e.0) o) gives);
        value =
            sym (keyed items ks key ordered)
            ∙ ap (λ o. option_map (λ (n : NameAndValue T). n.value) o) stood
            ∙ sym (ap (λ o. option_map (λ e. e.1) o) gives);
        first = first_from-least (entries_of items ks) name key this.0.value ordered.rising gives;
        none = tt;
      }
