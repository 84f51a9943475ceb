-- Where pages are not given a page has two units of the state.
use Rattle.std.specs.Prelude.{nat_lt}
use Rattle.std.proofs.Common.{◌≡◌, ℕ, zero, suc, ◌+◌, ◌*◌, ◌<◌, ◌==◌, ◌&&◌, ◌||◌, not, Bool, true, false, List, [], ◌∷◌, None, All, length, get_or, slice_set, refl, sym, ◌∙◌, ap, subst, arith, inl, inr}
use Rattle.std.specs.List.{list_any}
use Rattle.std.proofs.lemmas.Bool.{and_parts, cases_Bool, eq-eqb, eqb-true, ltb-true, and_from, true≢false}
use Rattle.std.proofs.lemmas.List.Elements.{All-head, All-tail}
use Rattle.ktm_each.specs.Each.{EachFrom, EachOfChange, EachOfDurable, EachOfPart, EachOfRecorded}
use Rattle.ktm_each.proofs.offered.Trees.{bytes_of-each}
use Rattle.ktm_paged.specs.Paged.{IsApart, IsOwned}
use Rattle.ktm_owners.specs.declared.owners.Named.{Named}
use Rattle.ktm_owners.specs.declared.owners.Owner.{Owner}
use Rattle.ktm_owners.specs.Owners.{all_given, has_unit, is_same_unit, is_still_on, may_give, owner_at, parts_put, puts_unit}
use Rattle.ktm_world.specs.declared.change.Change.{Change}
use Rattle.ktm_world.specs.declared.change.Change.TheVariants.{Make, Put, Cut, Move, Drop}
use Rattle.ktm_world.specs.declared.recorded.RecordedPart.{RecordedPart}
use Rattle.ktm_world.specs.Changes.{bytes_in}
use Rattle.ktm_world.specs.Durable.{Durable, changes_in}
use Rattle.ktm_world.specs.Tree.{bytes_of}
use Rattle.txf_laws.proofs.offered.CommitsOfOthers.{All-in}
use Rattle.txf_laws.proofs.offered.Elements.{list_any-at}

each-at : (p : ℕ → ℕ → Type 0) (from : ℕ) (bytes : List ℕ) (k : ℕ) → EachFrom p from bytes → k < length bytes → p (from + k) (get_or bytes k 0)
each-at p from [] k each low = absurd (omega (arith, low))
each-at p from (b ∷ bs) zero each low = let at : from ≡ from + 0 = omega arith in subst (λ n. p n b) at each.0
each-at p from (b ∷ bs) (suc k) each low = let at : suc from + k ≡ from + suc k = omega arith in subst (λ n. p n (get_or bs k 0)) at (each-at p (suc from) bs k each.1 (omega (arith, low)))

-- the unit of contents that lies on a page has its first place
unit-owned : (owner : ℕ → ℕ × ℕ) (file unit page : ℕ) (contents : List ℕ) → EachFrom (IsOwned owner file) 0 contents → has_unit contents unit page ≡ true → owner (page * 4096 + 1) ≡ (file, unit * 4096)
unit-owned owner file unit page contents each on =
    let both = and_parts (nat_lt (unit * 4096) (length contents)) (get_or contents (unit * 4096) 0 == page * 4096 + 1) on in
    let first = eqb-true (get_or contents (unit * 4096) 0) (page * 4096 + 1) both.1 in
    let at : 0 + unit * 4096 ≡ unit * 4096 = omega arith in
    some-place (subst (λ place. IsOwned owner file (unit * 4096) place) first
    (subst (λ n. IsOwned owner file n (get_or contents (unit * 4096) 0)) at (each-at (IsOwned owner file) 0 contents (unit * 4096) each (ltb-true (unit * 4096) (length contents) both.0))))
  where
    some-place : IsOwned owner file (unit * 4096) (page * 4096 + 1) → owner (page * 4096 + 1) ≡ (file, unit * 4096)
    some-place (inl none) = absurd (omega (arith, none))
    some-place (inr owned) = owned

module _ (s : Durable) (owner : ℕ → ℕ × ℕ) (each : EachOfDurable (IsOwned owner) s) where
  put-owned : (o : Owner) (page : ℕ) (c : Change) → EachOfChange (IsOwned owner) c → puts_unit o page c ≡ true → owner (page * 4096 + 1) ≡ (o.node, o.unit * 4096)
  put-owned o page (Make node parent kind name) owned puts = absurd (true≢false (sym puts))
  put-owned o page (Put node offset contents) owned puts =
      let parts = and_parts (node == o.node && offset == 0) (has_unit (bytes_in contents) o.unit page) puts in
      let ends = and_parts (node == o.node) (offset == 0) parts.0 in
      unit-owned owner o.node o.unit page (bytes_in contents)
      (subst (λ n. EachFrom (IsOwned owner n) 0 (bytes_in contents)) (eqb-true node o.node ends.0) (subst (λ n. EachFrom (IsOwned owner node) n (bytes_in contents)) (eqb-true offset 0 ends.1) owned)) parts.1
  put-owned o page (Cut node size pages) owned puts = absurd (true≢false (sym puts))
  put-owned o page (Move node parent name) owned puts = absurd (true≢false (sym puts))
  put-owned o page (Drop node) owned puts = absurd (true≢false (sym puts))

  waiting-owned : (o : Owner) (page : ℕ) → list_any (parts_put o page) s.transactions ≡ true → owner (page * 4096 + 1) ≡ (o.node, o.unit * 4096)
  waiting-owned o page some =
      let (t, t_in, puts) = list_any-at (parts_put o page) s.transactions some in
      let (part, part_in, of_t) = list_any-at (λ (p : RecordedPart). list_any (puts_unit o page) (changes_in p.part)) t.parts puts in
      let (c, c_in, put) = list_any-at (puts_unit o page) (changes_in part.part) of_t in
      let recorded = All-in (EachOfRecorded (IsOwned owner)) s.transactions each.transactions t t_in in
      let of_part = All-in (λ (p : RecordedPart). EachOfPart (IsOwned owner) p.part) t.parts recorded part part_in in
      put-owned o page c (All-in (EachOfChange (IsOwned owner)) (changes_in part.part) of_part c c_in) put

  still-owned : (o : Owner) (page : ℕ) → is_still_on s o page ≡ true → owner (page * 4096 + 1) ≡ (o.node, o.unit * 4096)
  still-owned o page on = elim (cases_Bool (has_unit (bytes_of s.tree o.node) o.unit page)) [
    | inl committed ↦ unit-owned owner o.node o.unit page (bytes_of s.tree o.node) (bytes_of-each (IsOwned owner) s.tree o.node each.tree) committed
    | inr other ↦ waiting-owned o page (rw other at on)
  ]

  -- two units on one page are one
  one-unit : (a b : Owner) (page : ℕ) → is_still_on s a page ≡ true → is_still_on s b page ≡ true → is_same_unit a b ≡ true
  one-unit a b page first second =
      let same : (a.node, a.unit * 4096) ≡ (b.node, b.unit * 4096) = sym (still-owned a page first) ∙ still-owned b page second in
      let node : a.node ≡ b.node = ap (λ (p : ℕ × ℕ). p.0) same in
      let index : a.unit * 4096 ≡ b.unit * 4096 = ap (λ (p : ℕ × ℕ). p.1) same in
      let unit : a.unit ≡ b.unit = omega (arith, index) in
      and_from (a.node == b.node) (a.unit == b.unit) (eq-eqb a.node b.node node) (eq-eqb a.unit b.unit unit)

  may : (old : List Owner) (name : Named) → is_still_on s name.owner name.page ≡ true → may_give s old name ≡ true
  may old name there = elim (cases_Bool (is_still_on s (owner_at old name.page) name.page)) [
    | inl still ↦ rw (one-unit (owner_at old name.page) name.owner name.page still there) refl
    | inr free ↦ rw free (either (is_same_unit (owner_at old name.page) name.owner))
  ]
    where
      either : (b : Bool) → (b || not false) ≡ true
      either true = refl
      either false = refl

  not-refused : (old : List Owner) (names : List Named) → All (λ (name : Named). is_still_on s name.owner name.page ≡ true) names → all_given s old names ≡ None → ⊥
  not-refused old [] there none = cc
  not-refused old (name ∷ names) there none =
      not-refused (slice_set old name.page name.owner) names (All-tail (λ (x : Named). is_still_on s x.owner x.page ≡ true) name names there)
      (rw (may old name (All-head (λ (x : Named). is_still_on s x.owner x.page ≡ true) name names there)) at none)

-- where all that are named have their units on their pages, and these are not given, places are not apart
pub refused-shared : (s : Durable) (old : List Owner) (names : List Named) → All (λ (name : Named). is_still_on s name.owner name.page ≡ true) names → all_given s old names ≡ None → ¬ IsApart s
refused-shared s old names there none (owner, each) = not-refused s owner each old names there none
