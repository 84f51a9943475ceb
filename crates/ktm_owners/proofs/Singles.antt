-- The units that a transaction names, which commits alone, lie on their pages after it; and what is recorded puts from the begin of files on.
use Rattle.std.proofs.Common.{◌≡◌, ℕ, ◌+◌, ◌*◌, ◌/◌, ◌<◌, ◌==◌, ◌&&◌, true, List, [], ◌∷◌, Option, Some, None, All, length, get_or, refl, sym, ◌∙◌, ap, subst, arith, inl, inr}
use Rattle.std.specs.Prelude.{nat_le}
use Rattle.std.proofs.lemmas.Bool.{and_from, and_parts, eq-eqb, eqb-true, lt-ltb, or_left, true≢false}
use Rattle.std.proofs.lemmas.List.Elements.{All-append, All-cons, All-head, All-nil, All-tail}
use Rattle.ktm_content.specs.Places.{LieOn}
use Rattle.ktm_content.proofs.offered.Bytes.{place-lie}
use Rattle.ktm_owners.specs.declared.owners.Named.{Named}
use Rattle.ktm_owners.specs.Owners.{AreAllNamedBy, AreNamedBy, has_unit}
use Rattle.ktm_owners.proofs.Committing.{final-there}
use Rattle.ktm_owners.proofs.OwningStates.{StartsAtBegin}
use Rattle.ktm_owners.proofs.Present.{IsPresent, from-units}
use Rattle.ktm_world.specs.declared.change.Change.{Change}
use Rattle.ktm_world.specs.declared.change.Change.TheVariants.{Make, Put, Cut, Move, Drop}
use Rattle.ktm_world.specs.declared.change.Contents.{Contents}
use Rattle.ktm_world.specs.Changes.{applies, bytes_in, changed, changed_all, changes_apply}
use Rattle.ktm_world.specs.Durable.{Durable, are_final_bytes, ends_in_bytes, was_cut}
use Rattle.ktm_world.specs.Tree.{Tree, bytes_of}
use Rattle.txf_laws.specs.Elements.{IsIn}

-- ---- from the begin on

final-begins : (least : ℕ) (cut : Option ℕ) (bs : List Change) → are_final_bytes least cut bs ≡ true → All StartsAtBegin bs
final-begins least cut [] final = All-nil StartsAtBegin
final-begins least cut (Cut node size pages ∷ cs) final =
    All-cons StartsAtBegin (Cut node size pages) cs tt (final-begins (node + 1) (Some node) cs (and_parts (nat_le least node && size == 0) (are_final_bytes (node + 1) (Some node) cs) final).1)
final-begins least cut (Put node offset contents ∷ cs) final =
    let parts = and_parts (was_cut cut node && offset == 0) (are_final_bytes least None cs) final in
    All-cons StartsAtBegin (Put node offset contents) cs (eqb-true offset 0 (and_parts (was_cut cut node) (offset == 0) parts.0).1) (final-begins least None cs parts.1)
final-begins least cut (Make node parent kind name ∷ cs) final = absurd (true≢false (sym final))
final-begins least cut (Move node parent name ∷ cs) final = absurd (true≢false (sym final))
final-begins least cut (Drop node ∷ cs) final = absurd (true≢false (sym final))

pub ends-begin : (cs : List Change) → ends_in_bytes cs ≡ true → All StartsAtBegin cs
ends-begin [] ends = All-nil StartsAtBegin
ends-begin (Make node parent kind name ∷ cs) ends = All-cons StartsAtBegin (Make node parent kind name) cs tt (ends-begin cs ends)
ends-begin (Put node offset contents ∷ cs) ends = final-begins 0 None (Put node offset contents ∷ cs) ends
ends-begin (Cut node size pages ∷ cs) ends = final-begins 0 None (Cut node size pages ∷ cs) ends
ends-begin (Move node parent name ∷ cs) ends = All-cons StartsAtBegin (Move node parent name) cs tt (ends-begin cs ends)
ends-begin (Drop node ∷ cs) ends = All-cons StartsAtBegin (Drop node) cs tt (ends-begin cs ends)

-- ---- files that are committed

ends-there : (tree : Tree) (cs : List Change) → ends_in_bytes cs ≡ true → changes_apply tree cs ≡ true → (node offset : ℕ) (contents : Contents) → IsIn (Put node offset contents) cs → bytes_of (changed_all tree cs) node ≡ bytes_in contents
ends-there tree [] ends all node offset contents there = absurd there
ends-there tree (Put file at bytes ∷ cs) ends all node offset contents there = final-there tree 0 None (Put file at bytes ∷ cs) ends all tt node offset contents there
ends-there tree (Cut file size pages ∷ cs) ends all node offset contents there = final-there tree 0 None (Cut file size pages ∷ cs) ends all tt node offset contents there
ends-there tree (Make file parent kind name ∷ cs) ends all node offset contents (inl is) = absurd (cc)
ends-there tree (Make file parent kind name ∷ cs) ends all node offset contents (inr later) =
    let c = Make file parent kind name in
    ends-there (changed tree c) cs ends (and_parts (applies tree c) (changes_apply (changed tree c) cs) all).1 node offset contents later
ends-there tree (Move file parent name ∷ cs) ends all node offset contents (inl is) = absurd (cc)
ends-there tree (Move file parent name ∷ cs) ends all node offset contents (inr later) =
    let c = Move file parent name in
    ends-there (changed tree c) cs ends (and_parts (applies tree c) (changes_apply (changed tree c) cs) all).1 node offset contents later
ends-there tree (Drop file ∷ cs) ends all node offset contents (inl is) = absurd (cc)
ends-there tree (Drop file ∷ cs) ends all node offset contents (inr later) =
    let c = Drop file in
    ends-there (changed tree c) cs ends (and_parts (applies tree c) (changes_apply (changed tree c) cs) all).1 node offset contents later

pub unit-first : (new pages : List ℕ) (n : ℕ) → LieOn pages new → n < length pages → has_unit new n (get_or pages n 0) ≡ true
unit-first new pages n lie there =
    let small : n * 4096 < length new = omega (arith, there, lie.units) in
    let back : n * 4096 ≡ n * 4096 + 0 = omega arith in
    let first : get_or new (n * 4096) 0 ≡ get_or pages n 0 * 4096 + 1 = ap (λ k. get_or new k 0) back ∙ place-lie pages new n 0 lie (omega arith) (omega (arith, small)) ∙ omega arith in
    and_from _ _ (lt-ltb (n * 4096) (length new) small) (eq-eqb _ _ first)

-- a change puts all that its file has
abbrev PutsAll : Durable → Change → Type 0
PutsAll t (Put node offset contents) = bytes_of t.tree node ≡ bytes_in contents
PutsAll t change = Unit {0}

one-present : (t : Durable) (c : Change) (names : List Named) → StartsAtBegin c → PutsAll t c → AreNamedBy c names → All (IsPresent t) names
one-present t (Put node offset contents) names begin has (pages, lie, is) =
    subst (All (IsPresent t)) (sym is)
    (from-units t node (offset / 4096) pages
    (λ n there.
    let unit : offset / 4096 + n ≡ n = omega (arith, begin) in
    or_left _ _ (subst (λ k. has_unit (bytes_of t.tree node) k (get_or pages n 0) ≡ true) (sym unit) (subst (λ (bytes : List ℕ). has_unit bytes n (get_or pages n 0) ≡ true) (sym has) (unit-first (bytes_in contents) pages n lie there)))))
one-present t (Make node parent kind name) names begin has none = subst (All (IsPresent t)) (sym none) (All-nil (IsPresent t))
one-present t (Cut node size pages) names begin has none = subst (All (IsPresent t)) (sym none) (All-nil (IsPresent t))
one-present t (Move node parent name) names begin has none = subst (All (IsPresent t)) (sym none) (All-nil (IsPresent t))
one-present t (Drop node) names begin has none = subst (All (IsPresent t)) (sym none) (All-nil (IsPresent t))

all-present : (t : Durable) (cs : List Change) (names : List Named) → All StartsAtBegin cs → ((c : Change) → IsIn c cs → PutsAll t c) → AreAllNamedBy cs names → All (IsPresent t) names
all-present t [] names begin has none = subst (All (IsPresent t)) (sym none) (All-nil (IsPresent t))
all-present t (c ∷ cs) names begin has (front, back, first, rest, is) =
    subst (All (IsPresent t)) (sym is)
    (All-append (IsPresent t) front back (one-present t c front (All-head StartsAtBegin c cs begin) (has c (inl refl)) first)
    (all-present t cs back (All-tail StartsAtBegin c cs begin) (λ d there. has d (inr there)) rest))

-- what recorded changes put that are committed
pub committed-present : (s t : Durable) (cs : List Change) (names : List Named) → t.tree ≡ changed_all s.tree cs → ends_in_bytes cs ≡ true → changes_apply s.tree cs ≡ true → AreAllNamedBy cs names → All (IsPresent t) names
committed-present s t cs names tree ends all named = all-present t cs names (ends-begin cs ends) has named
  where
    has : (c : Change) → IsIn c cs → PutsAll t c
    has (Put node offset contents) there = ap (λ (x : Tree). bytes_of x node) tree ∙ ends-there s.tree cs ends all node offset contents there
    has (Make node parent kind name) there = tt
    has (Cut node size pages) there = tt
    has (Move node parent name) there = tt
    has (Drop node) there = tt
