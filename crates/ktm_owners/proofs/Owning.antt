-- Pages that are given to units: each byte goes on to be the one that the owner of its page tells, where no other unit lay on the page still.
use Rattle.std.specs.Prelude.{◌⊎◌}
use Rattle.std.proofs.Common.{◌≡◌, ℕ, suc, ◌+◌, ◌-◌, ◌*◌, ◌/◌, ◌%◌, ◌<◌, ◌==◌, ◌||◌, not, Bool, true, false, List, [], ◌∷◌, Some, None, All, length, get_or, slice_set, refl, sym, ◌∙◌, ap, subst, arith, inl, inr}
use Rattle.std.proofs.lemmas.Bool.{and_from, and_parts, cases_Bool, eq-eqb, eqb-true, eqb-false, lt-ltb, true≢false}
use Rattle.std.proofs.lemmas.List.{get_or-set_same, get_or-set_other, length-set}
use Rattle.std.proofs.lemmas.List.Elements.{All-head, All-tail}
use Rattle.ktm_content.specs.Places.{LieOn}
use Rattle.ktm_content.proofs.offered.Bytes.{place-lie}
use Rattle.ktm_each.specs.Each.{EachFrom}
use Rattle.ktm_paged.specs.Paged.{IsOwned, page_at}
use Rattle.ktm_owners.specs.declared.owners.Named.{Named}
use Rattle.ktm_owners.specs.declared.owners.Owner.{Owner}
use Rattle.ktm_owners.specs.Owners.{all_given, byte_with, has_unit, is_same_unit, is_still_on, may_give, no_owner, owner_at}
use Rattle.ktm_world.specs.Durable.{Durable}

-- ---- bytes that are named

-- the byte at the place is that of the named page's unit
abbrev pub IsNamedAs : Named → ℕ → ℕ → ℕ → Type 0
IsNamedAs name file index place = (page_at place ≡ name.page) × (name.owner.node ≡ file) × (name.owner.unit * 4096 + (place - 1) % 4096 ≡ index)

-- it is that of one of them
abbrev pub IsAmong : List Named → ℕ → ℕ → ℕ → Type 0
IsAmong [] file index place = ⊥
IsAmong (name ∷ names) file index place = IsNamedAs name file index place ⊎ IsAmong names file index place

-- it is known by the owner of its page, or is still to be given
abbrev pub IsKnownOrNamed : List Owner → List Named → ℕ → ℕ → ℕ → Type 0
IsKnownOrNamed owners names file index place = IsOwned (byte_with owners) file index place ⊎ IsAmong names file index place

-- ---- each byte of a content

each-step : (p q : ℕ → ℕ → Type 0) (from : ℕ) (bytes : List ℕ) → ((k : ℕ) → k < length bytes → p (from + k) (get_or bytes k 0) → q (from + k) (get_or bytes k 0)) → EachFrom p from bytes → EachFrom q from bytes
each-step p q from [] step each = tt
each-step p q from (b ∷ bs) step each =
    let at : from + 0 ≡ from = omega arith in (
      subst (λ n. q n b) at (step 0 (omega arith) (subst (λ n. p n b) (sym at) each.0)),
      each-step p q (suc from) bs
          (λ k low here.
          let next : from + suc k ≡ suc from + k = omega arith in
          subst (λ n. q n (get_or bs k 0)) next (step (suc k) (omega (arith, low)) (subst (λ n. p n (get_or bs k 0)) (sym next) here))) each.1,
    )

-- the same of bytes from the begin of a file on
each-of : (p q : ℕ → ℕ → Type 0) (bytes : List ℕ) → ((k : ℕ) → k < length bytes → p k (get_or bytes k 0) → q k (get_or bytes k 0)) → EachFrom p 0 bytes → EachFrom q 0 bytes
each-of p q bytes step each =
    each-step p q 0 bytes
    (λ k low here. let at : 0 + k ≡ k = omega arith in subst (λ n. q n (get_or bytes k 0)) (sym at) (step k low (subst (λ n. p n (get_or bytes k 0)) at here))) each

-- ---- a content of the state

-- if a unit of it lies on its page still, no other is given that page
module _ (s : Durable) (file : ℕ) (contents pages : List ℕ) (lie : LieOn pages contents) (still : (owner : Owner) (page : ℕ) → owner.node ≡ file → has_unit contents owner.unit page ≡ true → is_still_on s owner page ≡ true) where
  abbrev place : ℕ → ℕ
  place k = get_or contents k 0

  place-at : (unit i : ℕ) → i < 4096 → unit * 4096 + i < length contents → get_or contents (unit * 4096 + i) 0 ≡ get_or pages unit 0 * 4096 + i + 1
  place-at unit i small low = place-lie pages contents unit i lie small low

  place-is : (k : ℕ) → k < length contents → place k ≡ get_or pages (k / 4096) 0 * 4096 + k % 4096 + 1
  place-is k low =
      let is : k / 4096 * 4096 + k % 4096 ≡ k = omega arith in
      ap (λ n. get_or contents n 0) (sym is) ∙ place-at (k / 4096) (k % 4096) (omega arith) (omega (arith, low, is))

  page-is : (k : ℕ) → k < length contents → page_at (place k) ≡ get_or pages (k / 4096) 0
  page-is k low = let is = place-is k low in omega (arith, is)

  rest-is : (k : ℕ) → k < length contents → (place k - 1) % 4096 ≡ k % 4096
  rest-is k low = let is = place-is k low in omega (arith, is)

  unit-there : (k : ℕ) → k < length contents → has_unit contents (k / 4096) (page_at (place k)) ≡ true
  unit-there k low =
      let begin : k / 4096 * 4096 + 0 ≡ k / 4096 * 4096 = omega arith in
      let first : get_or contents (k / 4096 * 4096) 0 ≡ page_at (place k) * 4096 + 1 =
      ap (λ n. get_or contents n 0) (sym begin) ∙ place-at (k / 4096) 0 (omega arith) (omega (arith, low)) ∙ omega (arith, page-is k low) in
      and_from _ _ (lt-ltb (k / 4096 * 4096) (length contents) (omega (arith, low))) (eq-eqb _ _ first)

  -- the page is given
  module _ (old : List Owner) (name : Named) (there : name.page < length old) (may : may_give s old name ≡ true) where
    abbrev new : List Owner
    new = slice_set old name.page name.owner

    owner-new : (page : ℕ) → page ≡ name.page → owner_at new page ≡ name.owner
    owner-new page is = ap (λ n. get_or new n no_owner) is ∙ get_or-set_same old name.page name.owner no_owner there

    owner-kept : (page : ℕ) → (page ≡ name.page → ⊥) → owner_at new page ≡ owner_at old page
    owner-kept page other = get_or-set_other old name.page page name.owner no_owner other

    named-known : (k : ℕ) → IsNamedAs name file k (place k) → byte_with new (place k) ≡ (file, k)
    named-known k (page, node, index) =
        ap (λ (o : Owner). (o.node, o.unit * 4096 + (place k - 1) % 4096)) (owner-new (page_at (place k)) page)
        ∙ ap (λ n. (n, name.owner.unit * 4096 + (place k - 1) % 4096)) node
        ∙ ap (λ n. (file, n)) index

    -- where another unit lay on the page before, it is the same unit
    same-unit : (k : ℕ) → k < length contents → page_at (place k) ≡ name.page → byte_with old (place k) ≡ (file, k) → IsNamedAs name file k (place k)
    same-unit k low page known =
        let owner = owner_at old name.page in
        let known_here : (owner.node, owner.unit * 4096 + (place k - 1) % 4096) ≡ (file, k) = ap (λ n. ((owner_at old n).node, (owner_at old n).unit * 4096 + (place k - 1) % 4096)) (sym page) ∙ known in
        let node : owner.node ≡ file = ap (λ (p : ℕ × ℕ). p.0) known_here in
        let index : owner.unit * 4096 + (place k - 1) % 4096 ≡ k = ap (λ (p : ℕ × ℕ). p.1) known_here in
        let unit : k / 4096 ≡ owner.unit = omega (arith, index) in
        let on = still owner name.page node (subst (λ n. has_unit contents owner.unit n ≡ true) page (subst (λ n. has_unit contents n (page_at (place k)) ≡ true) unit (unit-there k low))) in
        let same = must-same (is_same_unit owner name.owner) (is_still_on s owner name.page) may on in
        let both = and_parts (owner.node == name.owner.node) (owner.unit == name.owner.unit) same in (
          page,
          sym (eqb-true owner.node name.owner.node both.0) ∙ node,
          ap (λ n. n * 4096 + (place k - 1) % 4096) (sym (eqb-true owner.unit name.owner.unit both.1)) ∙ index,
        )
      where
        must-same : (a b : Bool) → (a || not b) ≡ true → b ≡ true → a ≡ true
        must-same true b either on = refl
        must-same false b either on = absurd (true≢false (sym either ∙ ap not on))

    known-still : (k : ℕ) → k < length contents → byte_with old (place k) ≡ (file, k) → byte_with new (place k) ≡ (file, k)
    known-still k low known = elim (cases_Bool (page_at (place k) == name.page)) [
      | inl same ↦ named-known k (same-unit k low (eqb-true (page_at (place k)) name.page same) known)
      | inr other ↦
          ap (λ (o : Owner). (o.node, o.unit * 4096 + (place k - 1) % 4096)) (owner-kept (page_at (place k)) (eqb-false (page_at (place k)) name.page other)) ∙ known
    ]

    step : (names : List Named) (k : ℕ) → k < length contents → IsKnownOrNamed old (name ∷ names) file k (place k) → IsKnownOrNamed new names file k (place k)
    step names k low (inl (inl none)) = inl (inl none)
    step names k low (inl (inr known)) = inl (inr (known-still k low known))
    step names k low (inr (inl named)) = inl (inr (named-known k named))
    step names k low (inr (inr rest)) = inr rest

    pub contents-given : (names : List Named) → EachFrom (IsKnownOrNamed old (name ∷ names) file) 0 contents → EachFrom (IsKnownOrNamed new names file) 0 contents
    contents-given names each = each-of (IsKnownOrNamed old (name ∷ names) file) (IsKnownOrNamed new names file) contents (step names) each

  -- once all that are named have their pages
  given-parts : (old : List Owner) (name : Named) (names : List Named) (owners : List Owner) → all_given s old (name ∷ names) ≡ Some owners → (may_give s old name ≡ true) × (all_given s (slice_set old name.page name.owner) names ≡ Some owners)
  given-parts old name names owners given = elim (cases_Bool (may_give s old name)) [
    | inl may ↦ (may, rw may at given)
    | inr not_so ↦ absurd (none-some owners (rw not_so at given))
  ]
    where
      none-some : (o : List Owner) → None ≡ Some o → ⊥
      none-some o is = cc

  pub contents-all-given : (old : List Owner) (names : List Named) (owners : List Owner) → All (λ (name : Named). name.page < length old) names → all_given s old names ≡ Some owners
      → EachFrom (IsKnownOrNamed old names file) 0 contents → EachFrom (IsOwned (byte_with owners) file) 0 contents
  contents-all-given old [] owners there given each =
      let same : old ≡ owners = cc in
      each-of (IsKnownOrNamed old [] file) (IsOwned (byte_with owners) file) contents (λ k low here. known-only same k here) each
    where
      known-only : old ≡ owners → (k : ℕ) → IsKnownOrNamed old [] file k (place k) → IsOwned (byte_with owners) file k (place k)
      known-only same k (inl known) = subst (λ (l : List Owner). IsOwned (byte_with l) file k (place k)) same known
      known-only same k (inr none) = absurd none
  contents-all-given old (name ∷ names) owners there given each =
      let parts = given-parts old name names owners given in
      contents-all-given (slice_set old name.page name.owner) names owners
      (subst (λ n. All (λ (x : Named). x.page < n) names) (sym (length-set old name.page name.owner)) (All-tail (λ (x : Named). x.page < length old) name names there)) parts.1
      (contents-given old name (All-head (λ (x : Named). x.page < length old) name names there) parts.0 names each)
