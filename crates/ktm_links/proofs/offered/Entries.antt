-- Lemmas on the entries of a map.
use Rattle.std.proofs.Common.{◌≡◌, ℕ, ◌+◌, true, false, List, [], ◌∷◌, ◌++◌, Some, None, is_some, cond, drop, length, nat_eq, refl, sym, ap, subst, ◌∙◌, inl, inr, arith}
use Rattle.std.specs.declared.cmp.Ordering.{Ordering}
use Rattle.std.specs.Ordering.{is_eq, is_lt}
use Rattle.std.specs.declared.cmp.Ordering.TheVariants.{Less, Equal, Greater}
use Rattle.std.proofs.lemmas.Cmp.{nat_list_cmp_total}
use Rattle.std.proofs.lemmas.Bool.{cases_Bool}
use Rattle.std.proofs.lemmas.Option.{same_Some}
use Rattle.ktm_links.specs.declared.list.Key.{Key}
use Rattle.std.specs.List.{starts_with}
use Rattle.std.specs.Option.{option_map}
use Rattle.std.proofs.lemmas.Bool.Decides.{Decides-eqb}
use Rattle.std.proofs.lemmas.Slice.Eq.{starts_is}
use Rattle.ktm_links.specs.Items.{same_key}
use Rattle.ktm_links.specs.Mapped.{Mapped, KeepsSpent, NamedItem, name_cmp, at, first_from, key_at, put, value_of, without_name, AreAbove, Begins, IsFirstOf, IsNoneOf, IsNotBelow, IsRising, entries_from}
use Rattle.ktm_links.proofs.offered.Comparing.{above_next, below_next, below_upto, not_below_upto}
use Rattle.ktm_links.proofs.offered.Keys.{none_of, same_key-true, same_key-self, other_generation}
use Rattle.ktm_links.proofs.offered.Names.{begins_not_below, begins_between, not_lower, lower_differs, turned, name_same, name_equal, from_is_eq, is_eq-other}

from_prefix : (prefix q : List ℕ) → Begins prefix q → IsNotBelow q prefix
from_prefix prefix q begins = rw begins.is (begins_not_below prefix begins.after)

module _ {T : Type 0} where
  pub key_at-same : (e : NamedItem T) (es : List (NamedItem T)) (name : List ℕ) → name_cmp e.name name ≡ Equal → key_at (e ∷ es) name ≡ Some e.key
  key_at-same e es name equal = rw equal refl

  pub key_at-less : (e : NamedItem T) (es : List (NamedItem T)) (name : List ℕ) → name_cmp e.name name ≡ Less → key_at (e ∷ es) name ≡ key_at es name
  key_at-less e es name less = rw less refl

  pub key_at-greater : (e : NamedItem T) (es : List (NamedItem T)) (name : List ℕ) → name_cmp e.name name ≡ Greater → key_at (e ∷ es) name ≡ key_at es name
  key_at-greater e es name greater = rw greater refl

  pub key_at-differs : (e : NamedItem T) (es : List (NamedItem T)) (name : List ℕ) (o : Ordering) → name_cmp e.name name ≡ o → (o ≡ Equal → ⊥) → key_at (e ∷ es) name ≡ key_at es name
  key_at-differs e es name Less is differs = key_at-less e es name is
  key_at-differs e es name Equal is differs = absurd (differs refl)
  key_at-differs e es name Greater is differs = key_at-greater e es name is

  pub put-lower : (x : NamedItem T) (xs : List (NamedItem T)) (e : NamedItem T) → name_cmp x.name e.name ≡ Less → put (x ∷ xs) e ≡ x ∷ put xs e
  put-lower x xs e less = rw less refl

  pub put-higher : (x : NamedItem T) (xs : List (NamedItem T)) (e : NamedItem T) → name_cmp x.name e.name ≡ Greater → put (x ∷ xs) e ≡ e ∷ (x ∷ xs)
  put-higher x xs e greater = rw greater refl

  -- ---- one more
  pub AreAbove-put : (a : List ℕ) (es : List (NamedItem T)) (e : NamedItem T) → AreAbove a es → name_cmp a e.name ≡ Less → AreAbove a (put es e)
  AreAbove-put a [] e above less = (less, tt)
  AreAbove-put a (x ∷ xs) e above less =
      elim (cases_Bool (is_lt (name_cmp x.name e.name))) [
        | inl lower ↦ rw lower ((above.0, AreAbove-put a xs e above.1 less))
        | inr higher ↦ rw higher ((less, above))
      ]

  pub AreAbove-lower : (a b : List ℕ) (es : List (NamedItem T)) → name_cmp a b ≡ Less → AreAbove b es → AreAbove a es
  AreAbove-lower a b [] less above = tt
  AreAbove-lower a b (x ∷ xs) less above = (nat_list_cmp_total.trans a b x.name less above.0, AreAbove-lower a b xs less above.1)

  pub rising_put-by : (x : NamedItem T) (xs : List (NamedItem T)) (e : NamedItem T) (o : Ordering) → name_cmp x.name e.name ≡ o
      → (key_at xs e.name ≡ None → IsRising (put xs e)) → IsRising (x ∷ xs) → key_at (x ∷ xs) e.name ≡ None → IsRising (put (x ∷ xs) e)
  rising_put-by x xs e Less is later rising none =
      rw (put-lower x xs e is) ((AreAbove-put x.name xs e rising.0 is, later (sym (key_at-less x xs e.name is) ∙ none)))
  rising_put-by x xs e Equal is later rising none = absurd (let some = key_at-same x xs e.name is in cc)
  rising_put-by x xs e Greater is later rising none =
      let less = turned x.name e.name is in
      rw (put-higher x xs e is) (((less, AreAbove-lower e.name x.name xs less rising.0), rising))

  pub rising_put : (es : List (NamedItem T)) (e : NamedItem T) → IsRising es → key_at es e.name ≡ None → IsRising (put es e)
  rising_put [] e rising none = (tt, tt)
  rising_put (x ∷ xs) e rising none = rising_put-by x xs e (name_cmp x.name e.name) refl (rising_put xs e rising.1) rising none

  pub at-put_same-by : (x : NamedItem T) (xs : List (NamedItem T)) (e : NamedItem T) (o : Ordering) → name_cmp x.name e.name ≡ o
      → (key_at xs e.name ≡ None → at (put xs e) e.name ≡ Some (e.key, e.value)) → key_at (x ∷ xs) e.name ≡ None
      → at (put (x ∷ xs) e) e.name ≡ Some (e.key, e.value)
  at-put_same-by x xs e Less is later none = rw (put-lower x xs e is, is) (later (sym (key_at-less x xs e.name is) ∙ none))
  at-put_same-by x xs e Equal is later none = absurd (let some = key_at-same x xs e.name is in cc)
  at-put_same-by x xs e Greater is later none = rw (put-higher x xs e is, name_same e.name) refl

  pub at-put_same : (es : List (NamedItem T)) (e : NamedItem T) → key_at es e.name ≡ None → at (put es e) e.name ≡ Some (e.key, e.value)
  at-put_same [] e none = rw (name_same e.name) refl
  at-put_same (x ∷ xs) e none = at-put_same-by x xs e (name_cmp x.name e.name) refl (at-put_same xs e) none

  pub at-put_other : (es : List (NamedItem T)) (e : NamedItem T) (q : List ℕ) → (q ≡ e.name → ⊥) → at (put es e) q ≡ at es q
  at-put_other [] e q differs = rw (is_eq-other e.name q (λ same. differs (sym same))) refl
  at-put_other (x ∷ xs) e q differs =
      elim (cases_Bool (is_lt (name_cmp x.name e.name))) [
        | inl lower ↦ rw lower (ap (λ o. cond (is_eq (name_cmp x.name q)) (Some (x.key, x.value)) o) (at-put_other xs e q differs))
        | inr higher ↦ rw (higher, is_eq-other e.name q (λ same. differs (sym same))) refl
      ]

  -- ---- the first name from one on
  above-at : (a : List ℕ) (es : List (NamedItem T)) (q : List ℕ) → AreAbove a es → is_some (at es q) ≡ true → name_cmp a q ≡ Less
  above-at a [] q above some = absurd (cc)
  above-at a (e ∷ es) q above some =
      elim (cases_Bool (is_eq (name_cmp e.name q))) [
        | inl this ↦ rw (← name_equal e.name q (from_is_eq (name_cmp e.name q) this)) above.0
        | inr other ↦ above-at a es q above.1 (rw other at some)
      ]

  pub first_from-least : (es : List (NamedItem T)) (name : List ℕ) (key : Key) (value : T) → IsRising es → first_from es name ≡ Some (key, value)
      → IsFirstOf (λ q. IsNotBelow q name) es key
  first_from-least [] name key value rising found = absurd (cc)
  first_from-least (e ∷ es) name key value rising found =
      elim (cases_Bool (is_lt (name_cmp e.name name))) [
        | inl lower ↦
            let rest = first_from-least es name key value rising.1 (rw lower at found) in
            record {
              name = rest.name;
              value = rest.value;
              there = rw (lower_differs e.name rest.name name lower rest.so) rest.there;
              so = rest.so;
              first = λ q so some. rest.first q so (rw (lower_differs e.name q name lower so) at some);
            }
        | inr not_below ↦
            record {
              name = e.name;
              value = e.value;
              there = rw (name_same e.name) (ap (λ k. Some (k, e.value)) (ap (λ p. p.0) (same_Some (e.key, e.value) (key, value) (rw not_below at found))));
              so = not_below;
              first = λ q so some. elim (cases_Bool (is_eq (name_cmp e.name q))) [
                | inl this ↦ rw (← name_equal e.name q (from_is_eq (name_cmp e.name q) this), name_same e.name) refl
                | inr other ↦ not_lower e.name q (above-at e.name es q rising.0 (rw other at some))
              ];
            }
      ]

  pub first_from-nothing : (es : List (NamedItem T)) (name : List ℕ) → first_from es name ≡ None → IsNoneOf (λ q. IsNotBelow q name) es
  first_from-nothing [] name none q not_below = refl
  first_from-nothing (e ∷ es) name none q not_below =
      elim (cases_Bool (is_lt (name_cmp e.name name))) [
        | inl lower ↦ rw (lower_differs e.name q name lower not_below) (first_from-nothing es name (rw lower at none) q not_below)
        | inr higher ↦ absurd (let some = rw higher at none in cc)
      ]

  -- ---- the entries from a name on
  -- the entry is the first of those from the name on, and these are those behind it
  pub record IsNext (es : List (NamedItem T)) (name : List ℕ) (e : NamedItem T) (behind : List (NamedItem T)) : Type 0 where
    pub there : at es e.name ≡ Some (e.key, e.value)
    pub so : IsNotBelow e.name name
    pub first : (q : List ℕ) → IsNotBelow q name → is_some (at es q) ≡ true → IsNotBelow q e.name
    pub rest : entries_from es (e.name ++ 0 ∷ []) ≡ behind

  -- all of them, where the first is not below
  from-above : (name : List ℕ) (es : List (NamedItem T)) → AreAbove name es → entries_from es (name ++ 0 ∷ []) ≡ es
  from-above name [] above = refl
  from-above name (e ∷ es) above =
      rw (above_next e.name name (not_lower name e.name above.0) (λ same. let less = rw same at above.0 in let equal = name_same name in cc)) refl

  pub from-next : (es : List (NamedItem T)) (name : List ℕ) (e : NamedItem T) (behind : List (NamedItem T)) → IsRising es → entries_from es name ≡ e ∷ behind
      → IsNext es name e behind
  from-next [] name e behind rising is = absurd (cc)
  from-next (x ∷ xs) name e behind rising is =
      elim (cases_Bool (is_lt (name_cmp x.name name))) [
        | inl lower ↦
            let rest = from-next xs name e behind rising.1 (rw lower at is) in
            record {
              there = rw (lower_differs x.name e.name name lower rest.so) rest.there;
              so = rest.so;
              first = λ q so some. rest.first q so (rw (lower_differs x.name q name lower so) at some);
              rest =
                  rw (below_upto x.name name (e.name ++ 0 ∷ []) lower (not_below_upto (e.name ++ 0 ∷ []) e.name name (not_lower e.name (e.name ++ 0 ∷ []) (below_next e.name)) rest.so))
                  rest.rest;
            }
        | inr high ↦ here x e xs behind high rising (rw high at is)
      ]
    where
      here : (x e : NamedItem T) (xs behind : List (NamedItem T)) → IsNotBelow x.name name → IsRising (x ∷ xs) → x ∷ xs ≡ e ∷ behind → IsNext (x ∷ xs) name e behind
      here x e xs behind high rising is =
          let this : x ≡ e = cc in
          let same : xs ≡ behind = cc in
          subst (λ e. IsNext (x ∷ xs) name e behind) this
          (record {
            there = rw (name_same x.name) refl;
            so = high;
            first = λ q so some. elim (cases_Bool (is_eq (name_cmp x.name q))) [
              | inl this ↦ rw (← name_equal x.name q (from_is_eq (name_cmp x.name q) this), name_same x.name) refl
              | inr other ↦ not_lower x.name q (above-at x.name xs q rising.0 (rw other at some))
            ];
            rest = rw (below_next x.name) (from-above x.name xs rising.0 ∙ same);
          })

  -- where there is none, nothing stands under such a name
  pub from-none : (es : List (NamedItem T)) (name : List ℕ) → entries_from es name ≡ [] → IsNoneOf (λ q. IsNotBelow q name) es
  from-none [] name none q not_below = refl
  from-none (e ∷ es) name none q not_below =
      elim (cases_Bool (is_lt (name_cmp e.name name))) [
        | inl lower ↦ rw (lower_differs e.name q name lower not_below) (from-none es name (rw lower at none) q not_below)
        | inr higher ↦ absurd (let some = rw higher at none in cc)
      ]

  -- ---- the first name that begins with these bytes
  pub first_with-here : (es : List (NamedItem T)) (prefix name : List ℕ) (key : Key) → (f : IsFirstOf (λ q. IsNotBelow q prefix) es key) → name ≡ f.name
      → starts_with nat_eq name prefix ≡ true → IsFirstOf (Begins prefix) es key
  first_with-here es prefix name key f is starts =
      record {
        name = f.name;
        value = f.value;
        there = f.there;
        so = rw (← is) (record { after = drop (length prefix) name; is = (starts_is Decides-eqb name prefix _ refl).0 starts });
        first = λ q begins some. f.first q (from_prefix prefix q begins) some;
      }

  pub first_with-nowhere : (es : List (NamedItem T)) (prefix name : List ℕ) (key : Key) → (f : IsFirstOf (λ q. IsNotBelow q prefix) es key) → name ≡ f.name
      → starts_with nat_eq name prefix ≡ false → IsNoneOf (Begins prefix) es
  first_with-nowhere es prefix name key f is starts q begins =
      elim (cases_Bool (is_some (at es q))) [
        | inl some ↦
            let high = rw begins.is at (f.first q (from_prefix prefix q begins) some) in
            let between = begins_between prefix begins.after f.name f.so high in
            absurd (let yes = (starts_is Decides-eqb name prefix _ refl).1 between.after (is ∙ between.is) in cc)
        | inr none ↦ none_of (at es q) none
      ]

  pub first_with-nothing : (es : List (NamedItem T)) (prefix : List ℕ) → IsNoneOf (λ q. IsNotBelow q prefix) es → IsNoneOf (Begins prefix) es
  first_with-nothing es prefix none q begins = none q (from_prefix prefix q begins)

  -- ---- one less
  pub without_name-same : (e : NamedItem T) (es : List (NamedItem T)) (name : List ℕ) → name_cmp e.name name ≡ Equal → without_name (e ∷ es) name ≡ es
  without_name-same e es name equal = rw equal refl

  pub without_name-less : (e : NamedItem T) (es : List (NamedItem T)) (name : List ℕ) → name_cmp e.name name ≡ Less → without_name (e ∷ es) name ≡ e ∷ without_name es name
  without_name-less e es name less = rw less refl

  pub at-same : (e : NamedItem T) (es : List (NamedItem T)) (name : List ℕ) → name_cmp e.name name ≡ Equal → at (e ∷ es) name ≡ Some (e.key, e.value)
  at-same e es name equal = rw equal refl

  pub at-less : (e : NamedItem T) (es : List (NamedItem T)) (name : List ℕ) → name_cmp e.name name ≡ Less → at (e ∷ es) name ≡ at es name
  at-less e es name less = rw less refl

  pub AreAbove-without : (a : List ℕ) (es : List (NamedItem T)) (name : List ℕ) → AreAbove a es → AreAbove a (without_name es name)
  AreAbove-without a [] name above = tt
  AreAbove-without a (e ∷ es) name above =
      elim (cases_Bool (is_eq (name_cmp e.name name))) [
        | inl this ↦ rw this above.1
        | inr other ↦ rw other ((above.0, AreAbove-without a es name above.1))
      ]

  pub rising_without : (es : List (NamedItem T)) (name : List ℕ) → IsRising es → IsRising (without_name es name)
  rising_without [] name rising = tt
  rising_without (e ∷ es) name rising =
      elim (cases_Bool (is_eq (name_cmp e.name name))) [
        | inl this ↦ rw this rising.1
        | inr other ↦ rw other ((AreAbove-without e.name es name rising.0, rising_without es name rising.1))
      ]

  pub above_absent : (a : List ℕ) (es : List (NamedItem T)) (name : List ℕ) → a ≡ name → AreAbove a es → at es name ≡ None
  above_absent a [] name same above = refl
  above_absent a (e ∷ es) name same above =
      rw (is_eq-other e.name name (λ e_same. absurd (let less : name_cmp name name ≡ Less = rw (same, e_same) at above.0 in let equal = name_same name in cc)))
      (above_absent a es name same above.1)

  pub at-without_same : (es : List (NamedItem T)) (name : List ℕ) → IsRising es → at (without_name es name) name ≡ None
  at-without_same [] name rising = refl
  at-without_same (e ∷ es) name rising =
      elim (cases_Bool (is_eq (name_cmp e.name name))) [
        | inl this ↦ rw this (above_absent e.name es name (name_equal e.name name (from_is_eq (name_cmp e.name name) this)) rising.0)
        | inr other ↦ rw (other, other) (at-without_same es name rising.1)
      ]

  pub at-without_other : (es : List (NamedItem T)) (name q : List ℕ) → (q ≡ name → ⊥) → at (without_name es name) q ≡ at es q
  at-without_other [] name q differs = refl
  at-without_other (e ∷ es) name q differs =
      elim (cases_Bool (is_eq (name_cmp e.name name))) [
        | inl this ↦
            let same = name_equal e.name name (from_is_eq (name_cmp e.name name) this) in
            rw (this, is_eq-other e.name q (λ e_q. differs (sym e_q ∙ same))) refl
        | inr other ↦ rw other (ap (λ o. cond (is_eq (name_cmp e.name q)) (Some (e.key, e.value)) o) (at-without_other es name q differs))
      ]

  pub none_at : (es : List (NamedItem T)) (name : List ℕ) → None ≡ key_at es name → (None ≡ at es name) × (es ≡ without_name es name)
  none_at [] name none = (refl, refl)
  none_at (e ∷ es) name none =
      elim (cases_Bool (is_eq (name_cmp e.name name))) [
        | inl this ↦ absurd (let some = rw this at none in cc)
        | inr other ↦
            let rest = none_at es name (rw other at none) in
            (rw other rest.0, rw other (ap (λ l. e ∷ l) rest.1))
      ]

  -- ---- what a key names
  pub value_of-same : (e : NamedItem T) (es : List (NamedItem T)) (key : Key) → same_key e.key key ≡ true → value_of (e ∷ es) key ≡ Some e.value
  value_of-same e es key same = rw same refl

  pub value_of-other : (e : NamedItem T) (es : List (NamedItem T)) (key : Key) → same_key e.key key ≡ false → value_of (e ∷ es) key ≡ value_of es key
  value_of-other e es key differs = rw differs refl

  pub value_of-put_other : (es : List (NamedItem T)) (e : NamedItem T) (key : Key) → same_key e.key key ≡ false → value_of (put es e) key ≡ value_of es key
  value_of-put_other [] e key differs = value_of-other e [] key differs
  value_of-put_other (x ∷ xs) e key differs =
      elim (cases_Bool (is_lt (name_cmp x.name e.name))) [
        | inl lower ↦ rw lower (ap (λ o. cond (same_key x.key key) (Some x.value) o) (value_of-put_other xs e key differs))
        | inr higher ↦ rw higher (value_of-other e (x ∷ xs) key differs)
      ]

  pub value_of-put_same : (es : List (NamedItem T)) (e : NamedItem T) → value_of es e.key ≡ None → value_of (put es e) e.key ≡ Some e.value
  value_of-put_same [] e none = value_of-same e [] e.key (same_key-self e.key e.key refl)
  value_of-put_same (x ∷ xs) e none =
      elim (cases_Bool (is_lt (name_cmp x.name e.name))) [
        | inl lower ↦
            elim (cases_Bool (same_key x.key e.key)) [
              | inl same ↦ absurd (let some = rw (value_of-same x xs e.key same) at none in cc)
              | inr other ↦ rw (lower, other) (value_of-put_same xs e (rw (value_of-other x xs e.key other) at none))
            ]
        | inr higher ↦ rw higher (value_of-same e (x ∷ xs) e.key (same_key-self e.key e.key refl))
      ]

  pub value_of-without_other : (es : List (NamedItem T)) (name : List ℕ) (key : Key) → (key_at es name ≡ Some key → ⊥)
      → value_of (without_name es name) key ≡ value_of es key
  value_of-without_other [] name key differs = refl
  value_of-without_other (e ∷ es) name key differs =
      elim (cases_Bool (is_eq (name_cmp e.name name))) [
        | inl this ↦
            elim (cases_Bool (same_key e.key key)) [
              | inl same ↦ absurd (differs (rw this (ap Some (same_key-true e.key key same))))
              | inr other ↦ rw (this, other) refl
            ]
        | inr apart ↦ rw apart (ap (λ o. cond (same_key e.key key) (Some e.value) o) (value_of-without_other es name key (λ is. differs (rw apart is))))
      ]

  value_of-without_none : (es : List (NamedItem T)) (name : List ℕ) (key : Key) → value_of es key ≡ None → value_of (without_name es name) key ≡ None
  value_of-without_none [] name key none = refl
  value_of-without_none (e ∷ es) name key none =
      elim (cases_Bool (same_key e.key key)) [
        | inl same ↦ absurd (let some = rw (value_of-same e es key same) at none in cc)
        | inr other ↦
            let inner = rw (value_of-other e es key other) at none in
            elim (cases_Bool (is_eq (name_cmp e.name name))) [
              | inl this ↦ rw this inner
              | inr apart ↦ rw (apart, other) (value_of-without_none es name key inner)
            ]
      ]

  pub key_at-at : (es : List (NamedItem T)) (name : List ℕ) → key_at es name ≡ option_map (λ e. e.0) (at es name)
  key_at-at [] name = refl
  key_at-at (e ∷ es) name =
      elim (cases_Bool (is_eq (name_cmp e.name name))) [ inl this ↦ rw this refl | inr apart ↦ rw apart (key_at-at es name) ]

  -- ---- keys that are spent
  pub KeepsSpent-put : (old new : Mapped T) (e : NamedItem T) → e.key.generation ≡ old.next → new.entries ≡ put old.entries e
      → new.next ≡ old.next + 1 → KeepsSpent old new
  KeepsSpent-put old new e fresh entries next = λ other spent.
      record {
        before = omega (arith, spent.before);
        gone =
            rw entries
            (value_of-put_other old.entries e other (other_generation e.key other (λ same. absurd (omega (arith, spent.before)))) ∙ spent.gone);
      }

  pub KeepsSpent-without_name : (old new : Mapped T) (name : List ℕ) → new.entries ≡ without_name old.entries name → new.next ≡ old.next → KeepsSpent old new
  KeepsSpent-without_name old new name entries next = λ other spent.
      record {
        before = rw next spent.before;
        gone = rw entries (value_of-without_none old.entries name other spent.gone);
      }
