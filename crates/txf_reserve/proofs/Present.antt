-- Lemmas on the pairs that a map by transaction has.
use Rattle.std.proofs.Common.{◌≡◌, ℕ, ◌<◌, ◌||◌, true, false, List, [], ◌∷◌, length, bytes_eq, is_some, refl, sym, ap, ◌∙◌, inl, inr, arith}
use Rattle.std.specs.Ordering.{is_eq}
use Rattle.std.proofs.lemmas.Bool.{cases_Bool, and_parts, and_from, or_left, false_from_ne_true}
use Rattle.std.proofs.lemmas.Slice.Eq.{bytes_eq-Decides}
use Rattle.ktm_base.specs.declared.id.Id.{Id}
use Rattle.ktm_world.specs.Transactions.{same_id}
use Rattle.ktm_links.specs.Mapped.{NamedItem, at, name_cmp, without_name}
use Rattle.ktm_links.proofs.offered.Names.{from_is_eq, name_equal, name_same}
use Rattle.txf_reserve.specs.HeldPairs.{has_pair, is_pair, owner_name, pair_of, pairs_of, IsOwnerName, Pair}
use Rattle.txf_reserve.proofs.PairNames.{id_self, number_from-bytes, same_ids}

-- a pair
abbrev pub pair : List ℕ → Id → Pair
pair key id = record { key = key; transaction = id }

pub pair_of-owner : (id : Id) (key : List ℕ) → pair_of (owner_name id key) ≡ pair key id
pair_of-owner id key = rw (number_from-bytes id.boot, number_from-bytes id.number) refl

pub is_pair-self : (key : List ℕ) (id : Id) → is_pair key id (pair key id) ≡ true
is_pair-self key id = and_from (bytes_eq key key) (same_id id id) ((bytes_eq-Decides key key).1 refl) (id_self id)

pub is_pair-true : (key : List ℕ) (id : Id) (p : Pair) → is_pair key id p ≡ true → (p.key ≡ key) × (p.transaction ≡ id)
is_pair-true key id p is =
    let parts = and_parts (bytes_eq p.key key) (same_id p.transaction id) is in
    ((bytes_eq-Decides p.key key).0 parts.0, same_ids p.transaction id parts.1)

is_eq-self : (a : List ℕ) → is_eq (name_cmp a a) ≡ true
is_eq-self a = rw (name_same a) refl

module _ {V : Type 0} (room : ℕ) where
  -- what is behind is there
  later : (e : NamedItem V) (es : List (NamedItem V)) (q : List ℕ) → is_some (at es q) ≡ true → is_some (at (e ∷ es) q) ≡ true
  later e es q some =
      elim (cases_Bool (is_eq (name_cmp e.name q))) [ inl same ↦ rw same refl | inr differs ↦ rw differs some ]

  here : (e : NamedItem V) (es : List (NamedItem V)) → is_some (at (e ∷ es) e.name) ≡ true
  here e es = rw (is_eq-self e.name) refl

  -- the entry is not the pair where it has another name
  apart : (e : NamedItem V) (key : List ℕ) (id : Id) → IsOwnerName room e.name → is_eq (name_cmp e.name (owner_name id key)) ≡ false → is_pair key id (pair_of e.name) ≡ false
  apart e key id named differs =
      false_from_ne_true (is_pair key id (pair_of e.name)) (λ is.
      let same : pair_of e.name ≡ pair named.key named.transaction = ap pair_of named.is ∙ pair_of-owner named.transaction named.key in
      let parts = is_pair-true key id (pair named.key named.transaction) (ap (is_pair key id) (sym same) ∙ is) in
      let name : e.name ≡ owner_name id key = named.is ∙ ap (λ i. owner_name i named.key) parts.1 ∙ ap (owner_name id) parts.0 in
      let yes : is_eq (name_cmp e.name (owner_name id key)) ≡ true = ap (λ q. is_eq (name_cmp q (owner_name id key))) name ∙ is_eq-self (owner_name id key) in
      absurd (cc))

  -- a pair is there exactly where its name is
  pub has-at : (entries : List (NamedItem V)) → ((q : List ℕ) → is_some (at entries q) ≡ true → IsOwnerName room q) → (key : List ℕ) (id : Id)
      → has_pair (pairs_of entries) key id ≡ is_some (at entries (owner_name id key))
  has-at [] owners key id = refl
  has-at (e ∷ es) owners key id =
      let rest = has-at es (λ q some. owners q (later e es q some)) key id in
      elim (cases_Bool (is_eq (name_cmp e.name (owner_name id key)))) [
        | inl same ↦
            let name = name_equal e.name (owner_name id key) (from_is_eq (name_cmp e.name (owner_name id key)) same) in
            let passes : is_pair key id (pair_of e.name) ≡ true =
            ap (λ q. is_pair key id (pair_of q)) name ∙ ap (is_pair key id) (pair_of-owner id key) ∙ is_pair-self key id in
            rw same (or_left (is_pair key id (pair_of e.name)) (has_pair (pairs_of es) key id) passes)
        | inr differs ↦
            let not_this = apart e key id (owners e.name (here e es)) differs in
            rw differs (ap (λ b. b || has_pair (pairs_of es) key id) not_this ∙ rest)
      ]

  -- one name less is one pair less
  pub fewer_pairs : (entries : List (NamedItem V)) (q : List ℕ) → is_some (at entries q) ≡ true → length (pairs_of (without_name entries q)) < length (pairs_of entries)
  fewer_pairs [] q some = absurd (cc)
  fewer_pairs (e ∷ es) q some =
      elim (cases_Bool (is_eq (name_cmp e.name q))) [
        | inl same ↦ rw same (omega arith)
        | inr differs ↦ rw differs (let rest = fewer_pairs es q (rw differs at some) in omega (arith, rest))
      ]
