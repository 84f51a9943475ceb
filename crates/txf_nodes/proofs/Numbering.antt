-- Lemmas on nodes by their numbers.
use Rattle.std.proofs.Common.{◌≡◌, ◌⊎◌, ℕ, suc, ◌<◌, ◌≤◌, true, false, eqb, List, [], ◌∷◌, ◌++◌, length, Option, Some, None, option_and_then, refl, sym, ap, ◌∙◌, inl, inr, arith, length-append, is_some}
use Rattle.std.specs.Option.{option_map}
use Rattle.std.specs.Ordering.{is_eq, is_lt}
use Rattle.std.proofs.lemmas.Bool.{cases_Bool, cases_lt, eqb-true, eqb-false, ne_eqb, lt-ltb, le-ltb}
use Rattle.std.proofs.lemmas.Option.{same_Some}
use Rattle.ktm_links.specs.declared.list.Key.{Key}
use Rattle.ktm_links.specs.Items.{Item, item, same_key, value_at, with_value, without}
use Rattle.ktm_links.specs.Mapped.{NamedItem, at, key_at, name_cmp, put, without_name}
use Rattle.ktm_links.proofs.offered.Entries.{at-put_other, at-without_other, key_at-at}
use Rattle.ktm_links.proofs.offered.Keys.{cases_key, value_at-others, value_at-with_same, value_at-with_other}
use Rattle.ktm_links.proofs.offered.Names.{is_eq-other, name_same, not_lower}
use Rattle.txf_nodes.specs.Indexes.{AreNumbered, has_number, IsIndexed, IsNumberedAt, nodes_of, refilled, replaced, under, with_content, with_now, without_now}
use Rattle.txf_nodes.specs.Lends.{refilled_item}
use Rattle.txf_nodes.specs.Places.{number_bytes}
use Rattle.txf_nodes.specs.NodesState.{NodeOf, now_at}
use Rattle.txf_nodes.proofs.Digits.{number_bytes-less, number_bytes-one}

number_found : (m n : ℕ) → eqb m n ≡ true → is_eq (name_cmp (number_bytes m) (number_bytes n)) ≡ true
number_found m n same = rw (eqb-true m n same, name_same (number_bytes n)) refl

number_other : (m n : ℕ) → eqb m n ≡ false → is_eq (name_cmp (number_bytes m) (number_bytes n)) ≡ false
number_other m n differs = is_eq-other (number_bytes m) (number_bytes n) (λ same. eqb-false m n differs (number_bytes-one m n same))

pub none_there : {A : Type 0} (o : Option A) → is_some o ≡ true → o ≡ None → ⊥
none_there None some none = absurd (cc)
none_there (Some x) some none = absurd (cc)

at-other : (e : NamedItem Key) (es : List (NamedItem Key)) (m n : ℕ) → e.name ≡ number_bytes m → eqb m n ≡ false → at (e ∷ es) (number_bytes n) ≡ at es (number_bytes n)
at-other e es m n name differs = rw (name, number_other m n differs) refl

at-found : (e : NamedItem Key) (es : List (NamedItem Key)) (m n : ℕ) → e.name ≡ number_bytes m → eqb m n ≡ true → at (e ∷ es) (number_bytes n) ≡ Some (e.key, e.value)
at-found e es m n name same = rw (name, number_found m n same) refl

length-put : (es : List (NamedItem Key)) (e : NamedItem Key) → length (put es e) ≡ suc (length es)
length-put [] e = refl
length-put (x ∷ xs) e =
    elim (cases_Bool (is_lt (name_cmp x.name e.name))) [ inl lower ↦ rw lower (ap suc (length-put xs e)) | inr higher ↦ rw higher refl ]

module _ {V : Type 0} where
  -- the node that a number finds
  pub now_at-under : (items : List (Item (NodeOf V))) (es : List (NamedItem Key)) (n : ℕ) → AreNumbered items es
      → now_at (nodes_of items es) n ≡ option_and_then (value_at items) (under es (number_bytes n))
  now_at-under items [] n all = refl
  now_at-under items (e ∷ es) n all =
      let at = all.0 in
      elim (cases_Bool (eqb at.node.number n)) [
        | inl same ↦ rw (at.name, number_found at.node.number n same, at.there, same) refl
        | inr differs ↦ rw (at.name, number_other at.node.number n differs, at.there, differs) (now_at-under items es n all.1)
      ]

  pub length-nodes_of : (items : List (Item (NodeOf V))) (es : List (NamedItem Key)) → AreNumbered items es → length (nodes_of items es) ≡ length es
  length-nodes_of items [] all = refl
  length-nodes_of items (e ∷ es) all = rw all.0.there (ap suc (length-nodes_of items es all.1))

  -- ---- values that stay
  -- each key names what it named
  AreSame : List (Item (NodeOf V)) → List (Item (NodeOf V)) → List (NamedItem Key) → Type 0
  AreSame items new [] = Unit {0}
  AreSame items new (e ∷ es) = (value_at new e.value ≡ value_at items e.value) × AreSame items new es

  AreNumbered-same : (items new : List (Item (NodeOf V))) (es : List (NamedItem Key)) → AreNumbered items es → AreSame items new es → AreNumbered new es
  unfolding AreSame
  AreNumbered-same items new [] all same = tt
  AreNumbered-same items new (e ∷ es) all same = (
    record { node = all.0.node; there = same.0 ∙ all.0.there; name = all.0.name; alone = all.0.alone },
    AreNumbered-same items new es all.1 same.1,
  )

  nodes_of-same : (items new : List (Item (NodeOf V))) (es : List (NamedItem Key)) → AreSame items new es → nodes_of new es ≡ nodes_of items es
  unfolding AreSame
  nodes_of-same items new [] same = refl
  nodes_of-same items new (e ∷ es) same = rw (same.0, nodes_of-same items new es same.1) refl

  same_from_absent : (items new : List (Item (NodeOf V))) (es : List (NamedItem Key)) (key : Key) → AreNumbered items es → value_at items key ≡ None
      → ((k : Key) → (k ≡ key → ⊥) → value_at new k ≡ value_at items k) → AreSame items new es
  unfolding AreSame
  same_from_absent items new [] key all absent others = tt
  same_from_absent items new (e ∷ es) key all absent others = (
    others e.value (λ is. absurd (let some = all.0.there in let none = rw (← is) at absent in cc)),
    same_from_absent items new es key all.1 absent others,
  )

  keys_apart : (items : List (Item (NodeOf V))) (e : NamedItem Key) (es : List (NamedItem Key)) (k : Key) (s : NodeOf V) (at : IsNumberedAt items e es) → value_at items k ≡ Some s
      → eqb at.node.number s.number ≡ false → e.value ≡ k → ⊥
  keys_apart items e es k s at found differs is =
      let two : at.node ≡ s = same_Some at.node s (sym at.there ∙ ap (value_at items) is ∙ found) in
      eqb-false at.node.number s.number differs (ap (λ (n : NodeOf V). n.number) two)

  same_from_gone : (items new : List (Item (NodeOf V))) (es : List (NamedItem Key)) (k : Key) (s : NodeOf V) → AreNumbered items es → value_at items k ≡ Some s
      → at es (number_bytes s.number) ≡ None → ((key : Key) → (key ≡ k → ⊥) → value_at new key ≡ value_at items key) → AreSame items new es
  unfolding AreSame
  same_from_gone items new [] k s all found none others = tt
  same_from_gone items new (e ∷ es) k s all found none others =
      let at = all.0 in
      elim (cases_Bool (eqb at.node.number s.number)) [
        | inl same ↦ absurd (let some = at-found e es at.node.number s.number at.name same in cc)
        | inr differs ↦ (
          others e.value (keys_apart items e es k s at found differs),
          same_from_gone items new es k s all.1 found (sym (at-other e es at.node.number s.number at.name differs) ∙ none) others,
        )
      ]

  -- ---- one node more
  AreNumbered-put : (items : List (Item (NodeOf V))) (es : List (NamedItem Key)) (e : NamedItem Key) (node : NodeOf V) → AreNumbered items es → value_at items e.value ≡ Some node
      → e.name ≡ number_bytes node.number → at es e.name ≡ None → AreNumbered items (put es e)
  AreNumbered-put items [] e node all there name none = (record { node = node; there = there; name = name; alone = refl }, tt)
  AreNumbered-put items (x ∷ xs) e node all there name none =
      elim (cases_Bool (is_eq (name_cmp x.name e.name))) [
        | inl this ↦ absurd (let some = rw this at none in cc)
        | inr other ↦
            let rest : at xs e.name ≡ None = rw other at none in
            elim (cases_Bool (is_lt (name_cmp x.name e.name))) [
              | inl lower ↦ rw lower ((
                record {
                  node = all.0.node;
                  there = all.0.there;
                  name = all.0.name;
                  alone = at-put_other xs e x.name (λ same. absurd (let equal = rw same at other in let is = rw (name_same e.name) at equal in cc)) ∙ all.0.alone;
                },
                AreNumbered-put items xs e node all.1 there name rest,
              ))
              | inr higher ↦ rw higher ((record { node = node; there = there; name = name; alone = none }, all))
            ]
      ]

  nodes_of-put : (items : List (Item (NodeOf V))) (es : List (NamedItem Key)) (e : NamedItem Key) (node : NodeOf V) → AreNumbered items es → value_at items e.value ≡ Some node
      → e.name ≡ number_bytes node.number → at es e.name ≡ None → nodes_of items (put es e) ≡ with_now (nodes_of items es) node
  nodes_of-put items [] e node all there name none = rw there refl
  nodes_of-put items (x ∷ xs) e node all there name none =
      let at = all.0 in
      let m = at.node.number in
      let n = node.number in
      elim (cases_lt m n) [
        | inl less ↦
            let lower : is_lt (name_cmp x.name e.name) ≡ true = rw (at.name, name, number_bytes-less m n less) refl in
            let apart : eqb m n ≡ false = ne_eqb m n (λ same. absurd (omega arith)) in
            let rest = rw name at none in
            rw (lower, at.there, le-ltb n m (omega arith))
            (ap (λ l. at.node ∷ l)
            (nodes_of-put items xs e node all.1 there name (rw name (sym (at-other x xs m n at.name apart) ∙ rest))))
        | inr more ↦ elim (cases_Bool (eqb m n)) [
          | inl same ↦ absurd (let some = at-found x xs m n at.name same in let none' = rw name at none in cc)
          | inr differs ↦
              let above : n < m = let apart = eqb-false m n differs in omega arith in
              let higher : is_lt (name_cmp x.name e.name) ≡ false = rw (at.name, name) (not_lower (number_bytes n) (number_bytes m) (number_bytes-less n m above)) in
              rw (higher, there, at.there, lt-ltb n m above) refl
        ]
      ]

  pub free_number : (items : List (Item (NodeOf V))) (es : List (NamedItem Key)) (n : ℕ) → AreNumbered items es → now_at (nodes_of items es) n ≡ None → at es (number_bytes n) ≡ None
  free_number items [] n all free = refl
  free_number items (e ∷ es) n all free =
      let at = all.0 in
      elim (cases_Bool (eqb at.node.number n)) [
        | inl same ↦ absurd (let some = rw (at.there, same) at free in cc)
        | inr differs ↦ at-other e es at.node.number n at.name differs ∙ free_number items es n all.1 (rw (at.there, differs) at free)
      ]

  pub free_key : (items : List (Item (NodeOf V))) (es : List (NamedItem Key)) (n : ℕ) → AreNumbered items es → now_at (nodes_of items es) n ≡ None → key_at es (number_bytes n) ≡ None
  free_key items es n all free = key_at-at es (number_bytes n) ∙ ap (λ o. option_map (λ (e : Key × Key). e.0) o) (free_number items es n all free)

  pub IsIndexed-put : (items new : List (Item (NodeOf V))) (es more : List (NamedItem Key)) (key own : Key) (node : NodeOf V) (name : List ℕ) → IsIndexed items es
      → now_at (nodes_of items es) node.number ≡ None → name ≡ number_bytes node.number
      → new ≡ items ++ item key node ∷ [] → value_at items key ≡ None → value_at new key ≡ Some node
      → ((k : Key) → (k ≡ key → ⊥) → value_at new k ≡ value_at items k)
      → more ≡ put es (record { name = name; key = own; value = key })
      → IsIndexed new more × (nodes_of new more ≡ with_now (nodes_of items es) node)
  IsIndexed-put items new es more key own node name index free is new_is absent there others more_is =
      let same = same_from_absent items new es key index.all absent others in
      let all = AreNumbered-same items new es index.all same in
      let e : NamedItem Key = record { name = name; key = own; value = key } in
      let none : at es name ≡ None = rw is (free_number items es node.number index.all free) in (
        record {
          all = rw more_is (AreNumbered-put new es e node all there is none);
          count = rw (more_is, new_is) (omega (arith, length-append items (item key node ∷ []), length-put es e, index.count));
        },
        rw more_is (nodes_of-put new es e node all there is none ∙ ap (λ l. with_now l node) (nodes_of-same items new es same)),
      )

  -- ---- another node
  replaced-gone : (items : List (Item (NodeOf V))) (es : List (NamedItem Key)) (n : ℕ) (v : NodeOf V) → AreNumbered items es → at es (number_bytes n) ≡ None
      → nodes_of items es ≡ replaced (nodes_of items es) n v
  replaced-gone items [] n v all none = refl
  replaced-gone items (e ∷ es) n v all none =
      let at = all.0 in
      elim (cases_Bool (eqb at.node.number n)) [
        | inl same ↦ absurd (let some = at-found e es at.node.number n at.name same in cc)
        | inr differs ↦
            rw (at.there, differs)
            (ap (λ l. at.node ∷ l) (replaced-gone items es n v all.1 (sym (at-other e es at.node.number n at.name differs) ∙ none)))
      ]

  AreNumbered-replaced : (items new : List (Item (NodeOf V))) (es : List (NamedItem Key)) (k : Key) (s v : NodeOf V) → AreNumbered items es → value_at items k ≡ Some s
      → under es (number_bytes s.number) ≡ Some k → value_at new k ≡ Some v → v.number ≡ s.number
      → ((key : Key) → (key ≡ k → ⊥) → value_at new key ≡ value_at items key)
      → AreNumbered new es × (nodes_of new es ≡ replaced (nodes_of items es) s.number v)
  AreNumbered-replaced items new [] k s v all found here there number others = absurd (cc)
  AreNumbered-replaced items new (e ∷ es) k s v all found here there number others =
      let at = all.0 in
      let n = s.number in
      elim (cases_Bool (eqb at.node.number n)) [
        | inl same ↦
            let key : e.value ≡ k = same_Some e.value k (sym (ap (λ o. option_map (λ (e : Key × Key). e.1) o) (at-found e es at.node.number n at.name same)) ∙ here) in
            let name : e.name ≡ number_bytes n = at.name ∙ ap number_bytes (eqb-true at.node.number n same) in
            let none = rw name at at.alone in
            let rest = same_from_gone items new es k s all.1 found none others in
            let value : value_at new e.value ≡ Some v = ap (value_at new) key ∙ there in (
              (record { node = v; there = value; name = name ∙ ap number_bytes (sym number); alone = at.alone }, AreNumbered-same items new es all.1 rest),
              rw (value, at.there, same) (ap (λ l. v ∷ l) (nodes_of-same items new es rest ∙ replaced-gone items es n v all.1 none)),
            )
        | inr differs ↦
            let value = others e.value (keys_apart items e es k s at found differs) in
            let rest =
            AreNumbered-replaced items new es k s v all.1 found
            (sym (ap (λ o. option_map (λ (e : Key × Key). e.1) o) (at-other e es at.node.number n at.name differs)) ∙ here) there number others in (
              (record { node = at.node; there = value ∙ at.there; name = at.name; alone = at.alone }, rest.0),
              rw (value, at.there, differs) (ap (λ l. at.node ∷ l) rest.1),
            )
      ]

  length-with_value : (items : List (Item (NodeOf V))) (k : Key) (v : NodeOf V) → length (with_value items k v) ≡ length items
  length-with_value [] k v = refl
  length-with_value (x ∷ xs) k v =
      elim (cases_Bool (same_key x.key k)) [ inl same ↦ rw same refl | inr differs ↦ rw differs (ap suc (length-with_value xs k v)) ]

  pub IsIndexed-replaced : (items new : List (Item (NodeOf V))) (es : List (NamedItem Key)) (k : Key) (s v : NodeOf V) → IsIndexed items es → value_at items k ≡ Some s
      → under es (number_bytes v.number) ≡ Some k → v.number ≡ s.number → new ≡ with_value items k v → value_at new k ≡ Some v
      → ((key : Key) → (key ≡ k → ⊥) → value_at new key ≡ value_at items key)
      → IsIndexed new es × (nodes_of new es ≡ replaced (nodes_of items es) v.number v)
  IsIndexed-replaced items new es k s v index found here number new_is there others =
      let both = AreNumbered-replaced items new es k s v index.all found (ap (λ n. under es (number_bytes n)) (sym number) ∙ here) there number others in (
        record { all = both.0; count = rw new_is (length-with_value items k v ∙ index.count) },
        both.1 ∙ ap (λ n. replaced (nodes_of items es) n v) (sym number),
      )

  -- the node that a key under a number names has that number
  pub numbered : (items : List (Item (NodeOf V))) (es : List (NamedItem Key)) (n : ℕ) (k : Key) → AreNumbered items es → under es (number_bytes n) ≡ Some k
      → (s : NodeOf V) × (value_at items k ≡ Some s) × (s.number ≡ n)
  numbered items [] n k all here = absurd (cc)
  numbered items (e ∷ es) n k all here =
      let at = all.0 in
      elim (cases_Bool (eqb at.node.number n)) [
        | inl same ↦
            let key : e.value ≡ k = same_Some e.value k (sym (ap (λ o. option_map (λ (e : Key × Key). e.1) o) (at-found e es at.node.number n at.name same)) ∙ here) in
            (at.node, ap (value_at items) (sym key) ∙ at.there, eqb-true at.node.number n same)
        | inr differs ↦
            numbered items es n k all.1 (sym (ap (λ o. option_map (λ (e : Key × Key). e.1) o) (at-other e es at.node.number n at.name differs)) ∙ here)
      ]

  -- another node with the number of that of the key
  pub IsIndexed-renewed : (items : List (Item (NodeOf V))) (es : List (NamedItem Key)) (n : ℕ) (k : Key) (s v : NodeOf V) → IsIndexed items es → under es (number_bytes n) ≡ Some k
      → value_at items k ≡ Some s → v.number ≡ s.number
      → IsIndexed (with_value items k v) es × (nodes_of (with_value items k v) es ≡ replaced (nodes_of items es) n v)
  IsIndexed-renewed items es n k s v index here found same =
      let at = numbered items es n k index.all here in
      let number : v.number ≡ n = same ∙ ap (λ (x : NodeOf V). x.number) (same_Some s at.0 (sym found ∙ at.1)) ∙ at.2 in
      let both =
      IsIndexed-replaced items (with_value items k v) es k s v index found (ap (λ n. under es (number_bytes n)) number ∙ here) same refl
      (value_at-with_same items k v (ap is_some found)) (λ key differs. value_at-with_other items k key v differs) in
      (both.0, both.1 ∙ ap (λ m. replaced (nodes_of items es) m v) number)

  -- ---- another content
  pub now_at-key : (items : List (Item (NodeOf V))) (es : List (NamedItem Key)) (n : ℕ) (k : Key) → AreNumbered items es → under es (number_bytes n) ≡ Some k
      → now_at (nodes_of items es) n ≡ value_at items k
  now_at-key items es n k all here = now_at-under items es n all ∙ ap (option_and_then (value_at items)) here

  pub IsIndexed-refilled : (items : List (Item (NodeOf V))) (es : List (NamedItem Key)) (n : ℕ) (k : Key) (changes : ℕ) (w : V) → IsIndexed items es → under es (number_bytes n) ≡ Some k
      → IsIndexed (refilled_item items k (value_at items k) changes w) es × (nodes_of (refilled_item items k (value_at items k) changes w) es ≡ refilled (nodes_of items es) n changes w)
  IsIndexed-refilled items es n k changes w index here =
      let at = numbered items es n k index.all here in
      let x = with_content at.0 changes w in
      let both =
      IsIndexed-replaced items (with_value items k x) es k at.0 x index at.1 (ap (λ n. under es (number_bytes n)) at.2 ∙ here) refl refl
      (value_at-with_same items k x (ap is_some at.1)) (λ key differs. value_at-with_other items k key x differs) in
      rw (now_at-key items es n k index.all here, at.1) both

  -- ---- one node less
  without_now-gone : (items : List (Item (NodeOf V))) (es : List (NamedItem Key)) (n : ℕ) → AreNumbered items es → at es (number_bytes n) ≡ None
      → nodes_of items es ≡ without_now (nodes_of items es) n
  without_now-gone items [] n all none = refl
  without_now-gone items (e ∷ es) n all none =
      let at = all.0 in
      elim (cases_Bool (eqb at.node.number n)) [
        | inl same ↦ absurd (let some = at-found e es at.node.number n at.name same in cc)
        | inr differs ↦
            rw (at.there, differs)
            (ap (λ l. at.node ∷ l) (without_now-gone items es n all.1 (sym (at-other e es at.node.number n at.name differs) ∙ none)))
      ]

  pub unnumbered : (items : List (Item (NodeOf V))) (es : List (NamedItem Key)) (n : ℕ) → AreNumbered items es → under es (number_bytes n) ≡ None
      → (now_at (nodes_of items es) n ≡ None) × (nodes_of items es ≡ without_now (nodes_of items es) n)
  unnumbered items es n all none = (now_at-under items es n all ∙ ap (option_and_then (value_at items)) none, without_now-gone items es n all (by_cases (at es (number_bytes n)) none))
    where
      by_cases : (o : Option (Key × Key)) → option_map (λ (e : Key × Key). e.1) o ≡ None → o ≡ None
      by_cases None none = refl
      by_cases (Some e) none = absurd (cc)

  AreNumbered-without : (items new : List (Item (NodeOf V))) (es : List (NamedItem Key)) (k : Key) (s : NodeOf V) → AreNumbered items es → value_at items k ≡ Some s
      → under es (number_bytes s.number) ≡ Some k → ((key : Key) → (key ≡ k → ⊥) → value_at new key ≡ value_at items key)
      → AreNumbered new (without_name es (number_bytes s.number))
      × (nodes_of new (without_name es (number_bytes s.number)) ≡ without_now (nodes_of items es) s.number)
      × (suc (length (without_name es (number_bytes s.number))) ≡ length es)
  AreNumbered-without items new [] k s all found here others = absurd (cc)
  AreNumbered-without items new (e ∷ es) k s all found here others =
      let at = all.0 in
      let n = s.number in
      elim (cases_Bool (eqb at.node.number n)) [
        | inl same ↦
            let none = rw (at.name ∙ ap number_bytes (eqb-true at.node.number n same)) at at.alone in
            let rest = same_from_gone items new es k s all.1 found none others in
            rw (at.name, number_found at.node.number n same, at.there, same)
            ((AreNumbered-same items new es all.1 rest, nodes_of-same items new es rest ∙ without_now-gone items es n all.1 none, refl))
        | inr differs ↦
            let value = others e.value (keys_apart items e es k s at found differs) in
            let rest =
            AreNumbered-without items new es k s all.1 found
            (sym (ap (λ o. option_map (λ (e : Key × Key). e.1) o) (at-other e es at.node.number n at.name differs)) ∙ here) others in
            let apart : e.name ≡ number_bytes n → ⊥ = λ is. eqb-false at.node.number n differs (number_bytes-one at.node.number n (sym at.name ∙ is)) in
            let other : is_eq (name_cmp e.name (number_bytes n)) ≡ false = is_eq-other e.name (number_bytes n) apart in
            rw other
            ((
              (
                record { node = at.node; there = value ∙ at.there; name = at.name; alone = at-without_other es (number_bytes n) e.name apart ∙ at.alone },
                rest.0,
              ),
              rw (value, at.there, differs) (ap (λ l. at.node ∷ l) rest.1),
              ap suc rest.2,
            ))
      ]

  length-without : (items : List (Item (NodeOf V))) (k : Key) (s : NodeOf V) → value_at items k ≡ Some s → suc (length (without items k)) ≡ length items
  length-without [] k s found = absurd (cc)
  length-without (x ∷ xs) k s found =
      elim (cases_Bool (same_key x.key k)) [ inl same ↦ rw same refl | inr differs ↦ rw differs (ap suc (length-without xs k s (rw differs at found))) ]

  pub IsIndexed-without : (items new : List (Item (NodeOf V))) (es less : List (NamedItem Key)) (k : Key) (n : ℕ) → IsIndexed items es → under es (number_bytes n) ≡ Some k
      → new ≡ without items k → ((key : Key) → (key ≡ k → ⊥) → value_at new key ≡ value_at items key) → less ≡ without_name es (number_bytes n)
      → IsIndexed new less × (nodes_of new less ≡ without_now (nodes_of items es) n)
  IsIndexed-without items new es less k n index here new_is others less_is =
      let at = numbered items es n k index.all here in
      let all = AreNumbered-without items new es k at.0 index.all at.1 (ap (λ n. under es (number_bytes n)) at.2 ∙ here) others in
      let named : less ≡ without_name es (number_bytes at.0.number) = less_is ∙ ap (λ n. without_name es (number_bytes n)) (sym at.2) in (
        record {
          all = rw named all.0;
          count = rw (named, new_is) (omega (arith, all.2, length-without items k at.0 at.1, index.count));
        },
        rw named all.1 ∙ ap (without_now (nodes_of items es)) at.2,
      )

  -- ---- a key that a hint gives
  -- there are no more numbers than items
  numbers-few : (items : List (Item (NodeOf V))) (es : List (NamedItem Key)) → AreNumbered items es → length es ≤ length items
  numbers-few items [] all = omega arith
  numbers-few items (e ∷ es) all =
      let at = all.0 in
      let same =
      same_from_gone items (without items e.value) es e.value at.node all.1 at.there (rw at.name at at.alone)
      (λ key differs. value_at-others items e.value key (λ same. differs (sym same))) in
      let fewer = numbers-few (without items e.value) es (AreNumbered-same items (without items e.value) es all.1 same) in
      omega (arith, fewer, length-without items e.value at.node at.there)

  -- a key of a node stands under its number, or else all keys of the map name the same without it
  under-or : (items : List (Item (NodeOf V))) (es : List (NamedItem Key)) (k : Key) (s : NodeOf V) → AreNumbered items es → value_at items k ≡ Some s
      → (under es (number_bytes s.number) ≡ Some k) ⊎ AreSame items (without items k) es
  unfolding AreSame
  under-or items [] k s all found = inr tt
  under-or items (e ∷ es) k s all found =
      let first = all.0 in
      let n = s.number in
      let away : (e.value ≡ k → ⊥) → AreSame items (without items k) es → AreSame items (without items k) (e ∷ es) =
      λ differs rest. (value_at-others items k e.value (λ same. differs (sym same)), rest) in
      elim (cases_Bool (eqb first.node.number n)) [
        | inl same ↦
            let here : under (e ∷ es) (number_bytes n) ≡ Some e.value = ap (λ o. option_map (λ (e : Key × Key). e.1) o) (at-found e es first.node.number n first.name same) in
            elim (cases_key e.value k) [
              | inl is ↦ inl (here ∙ ap Some is)
              | inr differs ↦ elim (under-or items es k s all.1 found) [
                | inl again ↦
                    let none : at es (number_bytes n) ≡ None = rw (first.name ∙ ap number_bytes (eqb-true first.node.number n same)) at first.alone in
                    absurd (let some = rw none at again in cc)
                | inr rest ↦ inr (away differs rest)
              ]
            ]
        | inr differs ↦ elim (under-or items es k s all.1 found) [
          | inl here ↦ inl (ap (λ o. option_map (λ (e : Key × Key). e.1) o) (at-other e es first.node.number n first.name differs) ∙ here)
          | inr rest ↦ inr (away (keys_apart items e es k s first found differs) rest)
        ]
      ]

  -- the key of a node stands under its number
  pub under-number : (items : List (Item (NodeOf V))) (es : List (NamedItem Key)) (k : Key) (s : NodeOf V) → IsIndexed items es → value_at items k ≡ Some s
      → under es (number_bytes s.number) ≡ Some k
  under-number items es k s index found =
      elim (under-or items es k s index.all found) [
        | inl here ↦ here
        | inr same ↦
            let fewer = numbers-few (without items k) es (AreNumbered-same items (without items k) es index.all same) in
            absurd (omega (arith, fewer, length-without items k s found, index.count))
      ]

  -- the key of a node with this number stands under it
  pub under-hinted : (items : List (Item (NodeOf V))) (es : List (NamedItem Key)) (k : Key) (n : ℕ) → IsIndexed items es → has_number n (value_at items k) ≡ true
      → under es (number_bytes n) ≡ Some k
  under-hinted items es k n index has = by_cases (value_at items k) refl has
    where
      by_cases : (o : Option (NodeOf V)) → value_at items k ≡ o → has_number n o ≡ true → under es (number_bytes n) ≡ Some k
      by_cases None none has = absurd (cc)
      by_cases (Some s) found has = ap (λ m. under es (number_bytes m)) (sym (eqb-true s.number n has)) ∙ under-number items es k s index found
