-- Lemmas on the values of a list that pass a test of which their names tell.
use Rattle.std.proofs.Common.{◌≡◌, ℕ, Bool, true, false, List, [], ◌∷◌, ◌++◌, Option, Some, None, is_some, IfSome, IfNone, find, refl, sym, ap, ◌∙◌, inl, inr}
use Rattle.std.specs.List.{list_any}
use Rattle.std.proofs.lemmas.Bool.{cases_Bool, or_right}
use Rattle.std.proofs.lemmas.List.{map-append}
use Rattle.std.proofs.lemmas.Option.{same_Some}
use Rattle.ktm_links.specs.declared.list.Key.{Key}
use Rattle.ktm_links.specs.Items.{Item, item, same_key, value_at, without}
use Rattle.ktm_links.specs.Mapped.{NamedItem, key_at, key_under}
use Rattle.ktm_links.specs.Indexed.{value_in, values_of, AreNamed, IsIndex, IsFirstUnder, IsNoneUnder}
use Rattle.ktm_links.proofs.offered.Indexes.{key_at-free, option_cases}
use Rattle.ktm_links.proofs.offered.Keys.{same_key-self, split}
use Rattle.txf_versions.specs.declared.opened.Opened.{Opened}
use Rattle.txf_versions.specs.Parts.{IsTaken}

module _ {T : Type 0} where
  -- a value that passes a test is found
  find-passes : (items : List (Item T)) (key : Key) (v : T) (test : T → Bool) → value_at items key ≡ Some v → test v ≡ true
      → is_some (find test (values_of items)) ≡ true
  find-passes [] key v test there passes = absurd (cc)
  find-passes (x ∷ xs) key v test there passes =
      elim (cases_Bool (test x.value)) [
        | inl this ↦ rw this refl
        | inr other ↦
            elim (cases_Bool (same_key x.key key)) [
              | inl same ↦
                  let value : x.value ≡ v = same_Some x.value v (rw same at there) in
                  absurd (let yes = ap test value ∙ passes in cc)
              | inr differs ↦ rw other (find-passes xs key v test (rw differs at there) passes)
            ]
      ]

  find-at : (items : List (Item T)) (named : List (NamedItem Key)) (name : T → List ℕ) (q : List ℕ) (test : T → Bool) (key : Key) (v : T)
      → ((x : T) → name x ≡ q → test x ≡ true) → ((x : T) → test x ≡ true → name x ≡ q) → AreNamed name named items
      → key_under named q ≡ Some key → value_at items key ≡ Some v → name v ≡ q → find test (values_of items) ≡ Some v
  find-at [] named name q test key v from to all under there is = absurd (cc)
  find-at (x ∷ xs) named name q test key v from to all under there is =
      elim (cases_Bool (test x.value)) [
        | inl this ↦
            let x_under : key_under named q ≡ Some x.key = rw (to x.value this) at all.0 in
            let same : same_key x.key key ≡ true = same_key-self x.key key (same_Some x.key key (sym x_under ∙ under)) in
            rw this (rw same at there)
        | inr other ↦
            elim (cases_Bool (same_key x.key key)) [
              | inl same ↦
                  let value : x.value ≡ v = same_Some x.value v (rw same at there) in
                  absurd (let yes = from x.value (ap name value ∙ is) in cc)
              | inr differs ↦ rw other (find-at xs named name q test key v from to all.1 under (rw differs at there) is)
            ]
      ]

  -- the key under a name is that of the first value that passes the test that the name stands for
  pub found : (items : List (Item T)) (named : List (NamedItem Key)) (name : T → List ℕ) (q : List ℕ) (test : T → Bool) (key : Key)
      → ((x : T) → name x ≡ q → test x ≡ true) → ((x : T) → test x ≡ true → name x ≡ q) → IsIndex name items named
      → Some key ≡ key_under named q → value_at items key ≡ find test (values_of items)
  found items named name q test key from to index under =
      let at = index.only q key (sym under) in
      at.1 ∙ sym (find-at items named name q test key at.0 from to index.all (sym under) at.1 at.2)

  pub find-none : (items : List (Item T)) (named : List (NamedItem Key)) (name : T → List ℕ) (q : List ℕ) (test : T → Bool)
      → ((x : T) → test x ≡ true → name x ≡ q) → AreNamed name named items → None ≡ key_under named q → None ≡ find test (values_of items)
  find-none [] named name q test to all none = refl
  find-none (x ∷ xs) named name q test to all none =
      elim (cases_Bool (test x.value)) [
        | inl this ↦ absurd (let some : key_under named q ≡ Some x.key = rw (to x.value this) at all.0 in cc)
        | inr other ↦ rw other (find-none xs named name q test to all.1 none)
      ]

  -- no name stands for a test that no value passes
  pub free : (items : List (Item T)) (named : List (NamedItem Key)) (name : T → List ℕ) (q p : List ℕ) (test : T → Bool)
      → ((x : T) → name x ≡ q → test x ≡ true) → p ≡ q → IsIndex name items named → find test (values_of items) ≡ None → key_under named p ≡ None
  free items named name q p test from is index none =
      elim (option_cases (key_under named p)) [
        | inl nothing ↦ nothing
        | inr some ↦
            let at = index.only p some.0 some.1 in
            absurd (let there = find-passes items some.0 at.0 test at.1 (from at.0 (at.2 ∙ is)) in let is = rw none at there in cc)
      ]

  pub key_free : (items : List (Item T)) (named : List (NamedItem Key)) (name : T → List ℕ) (q p : List ℕ) (test : T → Bool)
      → ((x : T) → name x ≡ q → test x ≡ true) → p ≡ q → IsIndex name items named → find test (values_of items) ≡ None → key_at named p ≡ None
  key_free items named name q p test from is index none = key_at-free named p (free items named name q p test from is index none)

  any-passes : (items : List (Item T)) (key : Key) (v : T) (test : T → Bool) → value_at items key ≡ Some v → test v ≡ true
      → list_any test (values_of items) ≡ true
  any-passes [] key v test there passes = absurd (cc)
  any-passes (x ∷ xs) key v test there passes =
      elim (cases_Bool (same_key x.key key)) [
        | inl same ↦
            let value : x.value ≡ v = same_Some x.value v (rw same at there) in
            let this : test x.value ≡ true = ap test value ∙ passes in
            rw this refl
        | inr differs ↦ or_right (test x.value) (list_any test (values_of xs)) (any-passes xs key v test (rw differs at there) passes)
      ]

  -- no value passes a test of which no name tells
  pub any-none : (P : List ℕ → Type 0) (named : List (NamedItem Key)) (name : T → List ℕ) (test : T → Bool) (items : List (Item T))
      → ((x : T) → test x ≡ true → P (name x)) → AreNamed name named items → IsNoneUnder P named → list_any test (values_of items) ≡ false
  any-none P named name test [] to all none = refl
  any-none P named name test (x ∷ xs) to all none =
      elim (cases_Bool (test x.value)) [
        | inl this ↦ absurd (let nothing = none (name x.value) (to x.value this) in let some = all.0 in cc)
        | inr other ↦ rw other (any-none P named name test xs to all.1 none)
      ]

  -- what is so of the first name is so of that of its value
  pub first_is : (P : List ℕ → Type 0) (items : List (Item T)) (named : List (NamedItem Key)) (name : T → List ℕ) (key : Key) (v : T) → IsIndex name items named
      → IsFirstUnder P named key → Some v ≡ value_at items key → P (name v)
  first_is P items named name key v index f there =
      let at = index.only f.name key f.there in
      let value : at.0 ≡ v = same_Some at.0 v (sym at.1 ∙ sym there) in
      rw (← value, at.2) f.so

  -- a name tells whether a value passes the test
  pub any_told : (P : List ℕ → Type 0) (items : List (Item T)) (named : List (NamedItem Key)) (name : T → List ℕ) (test : T → Bool) (first : Option Key)
      → ((x : T) → P (name x) → test x ≡ true) → ((x : T) → test x ≡ true → P (name x)) → IsIndex name items named
      → IfSome first (λ key. IsFirstUnder P named key) → IfNone first (IsNoneUnder P named) → is_some first ≡ list_any test (values_of items)
  any_told P items named name test None from to index some none = sym (any-none P named name test items to index.all none)
  any_told P items named name test (Some key) from to index some none =
      let at = index.only some.name key some.there in
      let so : P (name at.0) = rw at.2 some.so in
      sym (any-passes items key at.0 test at.1 (from at.0 so))

-- the first open of an item that is taken out
pub taken : (items new : List (Item Opened)) (key : Key) (o : Opened) → Some o ≡ value_at items key → new ≡ without items key
    → IsTaken (values_of items) o (values_of new)
taken items new key o there is =
    let s = split items key (rw (← there) refl) in
    let value : s.value ≡ o = same_Some s.value o (sym s.found ∙ sym there) in
    record {
      left = values_of s.left;
      right = values_of s.right;
      was =
          ap values_of s.is ∙ map-append value_in s.left (item key s.value ∷ s.right)
          ∙ ap (λ v. values_of s.left ++ v ∷ values_of s.right) value;
      is = ap values_of (is ∙ s.rest) ∙ map-append value_in s.left s.right;
    }
