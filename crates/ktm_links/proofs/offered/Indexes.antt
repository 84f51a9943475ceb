-- Lemmas on a map from names to the keys of a list's values.
use Rattle.std.proofs.Common.{◌≡◌, ℕ, ◌⊎◌, List, [], ◌∷◌, ◌++◌, Option, Some, None, refl, sym, ap, ◌∙◌, inl, inr}
use Rattle.std.specs.Option.{option_map}
use Rattle.std.proofs.lemmas.Bool.{cases_Bool}
use Rattle.std.proofs.lemmas.Option.{same_Some}
use Rattle.ktm_links.specs.declared.list.Key.{Key}
use Rattle.ktm_links.specs.Items.{Item, item, same_key, value_at, without}
use Rattle.ktm_links.specs.Mapped.{NamedItem, at, key_at, key_under}
use Rattle.ktm_links.specs.Indexed.{AreDistinct, AreNamed, IsIndex}
use Rattle.ktm_links.proofs.offered.Comparing.{cases_name}
use Rattle.ktm_links.proofs.offered.Entries.{key_at-at}
use Rattle.ktm_links.proofs.offered.Keys.{same_key-true, same_key-self, value_at-others, value_at-push_other}

-- a name that a key is under, or none
pub option_cases : (o : Option Key) → (o ≡ None) ⊎ ((key : Key) × (o ≡ Some key))
option_cases None = inl refl
option_cases (Some key) = inr (key, refl)

-- a name that no key is under is free
pub key_at-free : (named : List (NamedItem Key)) (q : List ℕ) → key_under named q ≡ None → key_at named q ≡ None
key_at-free named q none = key_at-at named q ∙ by_cases (at named q) none
  where
    by_cases : (o : Option (Key × Key)) → option_map (λ (e : Key × Key). e.1) o ≡ None → option_map (λ (e : Key × Key). e.0) o ≡ None
    by_cases None none = refl
    by_cases (Some e) none = absurd (cc)

-- the key under a name, by what the map has there
pub key_under-at : (named : List (NamedItem Key)) (q : List ℕ) (own key : Key) → at named q ≡ Some (own, key) → key_under named q ≡ Some key
key_under-at named q own key is = ap (λ o. option_map (λ (e : Key × Key). e.1) o) is

pub key_under-same : (named more : List (NamedItem Key)) (q : List ℕ) → at more q ≡ at named q → key_under more q ≡ key_under named q
key_under-same named more q is = ap (λ o. option_map (λ (e : Key × Key). e.1) o) is

module _ {T : Type 0} where
  -- a value that is there is named
  pub named_at : (name : T → List ℕ) (named : List (NamedItem Key)) (items : List (Item T)) (key : Key) (v : T) → AreNamed name named items
      → value_at items key ≡ Some v → key_under named (name v) ≡ Some key
  named_at name named [] key v all is = absurd (cc)
  named_at name named (x ∷ xs) key v all is =
      elim (cases_Bool (same_key x.key key)) [
        | inl same ↦
            let value : x.value ≡ v = same_Some x.value v (rw same at is) in
            ap (λ v. key_under named (name v)) (sym value) ∙ all.0 ∙ ap Some (same_key-true x.key key same)
        | inr differs ↦ named_at name named xs key v all.1 (rw differs at is)
      ]

  -- ---- one more
  AreNamed-other : (name : T → List ℕ) (named new : List (NamedItem Key)) (items : List (Item T)) (q : List ℕ) → AreNamed name named items
      → key_under named q ≡ None → ((p : List ℕ) → (p ≡ q → ⊥) → key_under new p ≡ key_under named p) → AreNamed name new items
  AreNamed-other name named new [] q all none others = tt
  AreNamed-other name named new (x ∷ xs) q all none others = (
    others (name x.value) (λ same. absurd (let some = rw same at all.0 in cc)) ∙ all.0,
    AreNamed-other name named new xs q all.1 none others,
  )

  AreNamed-push : (name : T → List ℕ) (named : List (NamedItem Key)) (items : List (Item T)) (key : Key) (v : T) → AreNamed name named items
      → key_under named (name v) ≡ Some key → AreNamed name named (items ++ item key v ∷ [])
  AreNamed-push name named [] key v all under = (under, tt)
  AreNamed-push name named (x ∷ xs) key v all under = (all.0, AreNamed-push name named xs key v all.1 under)

  -- a value that comes under a free name
  pub IsIndex-push : (name : T → List ℕ) (items new : List (Item T)) (named more : List (NamedItem Key)) (key own : Key) (v : T) (q : List ℕ)
      → IsIndex name items named → q ≡ name v → key_under named q ≡ None
      → new ≡ items ++ item key v ∷ [] → value_at items key ≡ None → value_at new key ≡ Some v
      → ((k : Key) → (k ≡ key → ⊥) → value_at new k ≡ value_at items k)
      → at more q ≡ Some (own, key) → ((p : List ℕ) → (p ≡ q → ⊥) → at more p ≡ at named p)
      → IsIndex name new more
  IsIndex-push name items new named more key own v q index is free items_are absent there kept at_q at_others =
      let under = key_under-at more q own key at_q in
      let others : (p : List ℕ) → (p ≡ q → ⊥) → key_under more p ≡ key_under named p = λ p differs. key_under-same named more p (at_others p differs) in
      record {
        all = rw items_are (AreNamed-push name more items key v (AreNamed-other name named more items q index.all free others) (rw is at under));
        only = λ p k found. elim (cases_name p q) [
          | inl same ↦
              let key_is : key ≡ k = same_Some key k (sym under ∙ ap (key_under more) (sym same) ∙ found) in
              (v, rw (← key_is) there, sym is ∙ sym same)
          | inr differs ↦
              let at = index.only p k (sym (others p differs) ∙ found) in
              (at.0, kept k (λ same. absurd (let none = rw (← same) at absent in let some = at.1 in cc)) ∙ at.1, at.2)
        ];
      }

  -- ---- one less
  AreNamed-without : (name : T → List ℕ) (named : List (NamedItem Key)) (xs : List (Item T)) (key : Key) → AreNamed name named xs → AreNamed name named (without xs key)
  AreNamed-without name named [] key all = tt
  AreNamed-without name named (x ∷ xs) key all =
      elim (cases_Bool (same_key x.key key)) [
        | inl same ↦ rw same all.1
        | inr other ↦ rw other ((all.0, AreNamed-without name named xs key all.1))
      ]

  AreNamed-kept : (name : T → List ℕ) (named less : List (NamedItem Key)) (xs : List (Item T)) (key : Key) (q : List ℕ) → AreNamed name named xs
      → value_at xs key ≡ None → key_under named q ≡ Some key → ((p : List ℕ) → (p ≡ q → ⊥) → key_under less p ≡ key_under named p) → AreNamed name less xs
  AreNamed-kept name named less [] key q all none under others = tt
  AreNamed-kept name named less (x ∷ xs) key q all none under others =
      elim (cases_Bool (same_key x.key key)) [
        | inl same ↦ absurd (let some = rw same at none in cc)
        | inr other ↦ (
          others (name x.value)
              (λ is. absurd (let same = same_key-self x.key key (same_Some x.key key (sym all.0 ∙ ap (key_under named) is ∙ under)) in cc))
              ∙ all.0,
          AreNamed-kept name named less xs key q all.1 (rw other at none) under others,
        )
      ]

  -- a value that goes with its name
  pub IsIndex-without : (name : T → List ℕ) (items new : List (Item T)) (named less : List (NamedItem Key)) (key : Key) (v : T) (q : List ℕ)
      → IsIndex name items named → q ≡ name v → value_at items key ≡ Some v
      → new ≡ without items key → value_at new key ≡ None → ((k : Key) → (k ≡ key → ⊥) → value_at new k ≡ value_at items k)
      → at less q ≡ None → ((p : List ℕ) → (p ≡ q → ⊥) → at less p ≡ at named p)
      → IsIndex name new less
  IsIndex-without name items new named less key v q index is there items_are gone kept at_q at_others =
      let under : key_under named q ≡ Some key = ap (key_under named) is ∙ named_at name named items key v index.all there in
      let others : (p : List ℕ) → (p ≡ q → ⊥) → key_under less p ≡ key_under named p = λ p differs. key_under-same named less p (at_others p differs) in
      record {
        all =
            rw items_are
            (AreNamed-kept name named less (without items key) key q (AreNamed-without name named items key index.all)
            (ap (λ xs. value_at xs key) (sym items_are) ∙ gone) under others);
        only = λ p k found. elim (cases_name p q) [
          | inl same ↦
              absurd (let none : key_under less p ≡ None = ap (λ o. option_map (λ (e : Key × Key). e.1) o) (ap (at less) same ∙ at_q) in cc)
          | inr differs ↦
              let at = index.only p k (sym (others p differs) ∙ found) in (
                at.0,
                kept k (λ same. differs (sym at.2 ∙ ap name (same_Some at.0 v (sym at.1 ∙ ap (value_at items) same ∙ there)) ∙ sym is)) ∙ at.1,
                at.2,
              )
        ];
      }

  -- ---- distinct keys
  pub AreDistinct-push : (xs : List (Item T)) (key : Key) (v : T) → AreDistinct xs → value_at xs key ≡ None → AreDistinct (xs ++ item key v ∷ [])
  AreDistinct-push [] key v distinct none = (refl, tt)
  AreDistinct-push (x ∷ xs) key v distinct none =
      elim (cases_Bool (same_key x.key key)) [
        | inl same ↦ absurd (let some = rw same at none in cc)
        | inr differs ↦ (
          value_at-push_other xs (item key v) x.key (λ same. absurd (let is = same_key-self x.key key same in cc)) ∙ distinct.0,
          AreDistinct-push xs key v distinct.1 (rw differs at none),
        )
      ]

  pub AreDistinct-without : (xs : List (Item T)) (key : Key) → AreDistinct xs → AreDistinct (without xs key)
  AreDistinct-without [] key distinct = tt
  AreDistinct-without (x ∷ xs) key distinct =
      elim (cases_Bool (same_key x.key key)) [
        | inl same ↦ rw same distinct.1
        | inr differs ↦
            rw differs
            ((
              value_at-others xs key x.key (λ same. absurd (let is = same_key-self x.key key (sym same) in cc)) ∙ distinct.0,
              AreDistinct-without xs key distinct.1,
            ))
      ]

  pub value_at-gone : (xs : List (Item T)) (key : Key) → AreDistinct xs → value_at (without xs key) key ≡ None
  value_at-gone [] key distinct = refl
  value_at-gone (x ∷ xs) key distinct =
      elim (cases_Bool (same_key x.key key)) [
        | inl same ↦ rw same (ap (value_at xs) (sym (same_key-true x.key key same)) ∙ distinct.0)
        | inr differs ↦ rw (differs, differs) (value_at-gone xs key distinct.1)
      ]
