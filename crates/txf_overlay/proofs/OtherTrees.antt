-- Lemmas on the places that the same changes hold in two trees.
use Rattle.std.proofs.Common.{◌≡◌, ℕ, true, List, [], ◌∷◌, ◌++◌, map, take, drop, length, Option, Some, None, refl, sym, ap, ◌∙◌, arith}
use Rattle.std.proofs.lemmas.Bool.{and_parts}
use Rattle.std.proofs.lemmas.List.{take_at, drop_at}
use Rattle.ktm_world.specs.declared.change.Change.{Change}
use Rattle.ktm_world.specs.declared.change.Change.TheVariants.{Make, Put, Cut, Move, Drop}
use Rattle.ktm_world.specs.declared.recorded.Node.{Node}
use Rattle.ktm_world.specs.Changes.{applies, changes_apply, changed}
use Rattle.ktm_world.specs.Holds.{Place, place, each_change, place_of, places_of}
use Rattle.ktm_world.specs.Tree.{Tree, node_at}
use Rattle.txf_overlay.specs.Laws.{OtherTreeLaw}
use Rattle.txf_overlay.specs.OverlayState.{Seat}
use Rattle.txf_overlay.specs.Views.{last_seat, left_by, seat, seats_of}
use Rattle.txf_overlay.proofs.Trees.{Applies-from, is_there-some}

-- how many places a change holds
abbrev many : Change → ℕ
many (Make node parent kind name) = 1
many (Put node offset contents) = 0
many (Cut node size pages) = 0
many (Move node parent name) = 2
many (Drop node) = 1

held-many : (t : Tree) (c : Change) → applies t c ≡ true → length (places_of t c) ≡ many c
held-many t (Make node parent kind name) is = refl
held-many t (Put node offset contents) is = refl
held-many t (Cut node size pages) is = refl
held-many t (Move node parent name) is =
    let parts = Applies-from t (Move node parent name) is in
    let there = is_there-some t node parts.0 parts.1 in
    rw there.1 refl
held-many t (Drop node) is =
    let parts = Applies-from t (Drop node) is in
    let there = is_there-some t node parts.0 parts.1 in
    rw there.1 refl

-- the seat that is left at a place
abbrev leaving : Place → Seat
leaving p = seat p None

left-places : (o : Option Node) → left_by o ≡ map leaving (place_of o)
left-places None = refl
left-places (Some n) = refl

first-place : (o : Option Node) (p : Place) → length (place_of o ++ p ∷ []) ≡ 2 → take 1 (place_of o ++ p ∷ []) ≡ place_of o
first-place None p two = absurd (omega arith)
first-place (Some n) p two = refl

seats-same : (t u : Tree) (c : Change) → applies t c ≡ true → applies u c ≡ true → places_of u c ≡ places_of t c → seats_of u c ≡ seats_of t c
seats-same t u (Make node parent kind name) is is' same = refl
seats-same t u (Put node offset contents) is is' same = refl
seats-same t u (Cut node size pages) is is' same = refl
seats-same t u (Move node parent name) is is' same =
    let p = place parent name in
    let from : place_of (node_at u node) ≡ place_of (node_at t node) =
    sym (first-place (node_at u node) p (held-many u (Move node parent name) is')) ∙ ap (take 1) same
    ∙ first-place (node_at t node) p (held-many t (Move node parent name) is) in
    ap (λ ss. ss ++ seat p (Some node) ∷ []) (left-places (node_at u node) ∙ ap (map leaving) from ∙ sym (left-places (node_at t node)))
seats-same t u (Drop node) is is' same = left-places (node_at u node) ∙ ap (map leaving) same ∙ sym (left-places (node_at t node))

pub all-seats-same : (cs : List Change) (t u : Tree) → changes_apply t cs ≡ true → changes_apply u cs ≡ true → each_change places_of u cs ≡ each_change places_of t cs
    → each_change seats_of u cs ≡ each_change seats_of t cs
all-seats-same [] t u all all' same = refl
all-seats-same (c ∷ cs) t u all all' same =
    let here = and_parts (applies t c) (changes_apply (changed t c) cs) all in
    let here' = and_parts (applies u c) (changes_apply (changed u c) cs) all' in
    let t_many = held-many t c here.0 in
    let u_many = held-many u c here'.0 in
    let first : places_of u c ≡ places_of t c =
    sym (take_at (places_of u c) (each_change places_of (changed u c) cs) (many c) u_many) ∙ ap (take (many c)) same
    ∙ take_at (places_of t c) (each_change places_of (changed t c) cs) (many c) t_many in
    let rest : each_change places_of (changed u c) cs ≡ each_change places_of (changed t c) cs =
    sym (drop_at (places_of u c) (each_change places_of (changed u c) cs) (many c) u_many) ∙ ap (drop (many c)) same
    ∙ drop_at (places_of t c) (each_change places_of (changed t c) cs) (many c) t_many in
    let seats = seats-same t u c here.0 here'.0 first in
    let later = all-seats-same cs (changed t c) (changed u c) here.1 here'.1 rest in
    λ i. seats i ++ later i

pub other_tree_law : OtherTreeLaw
other_tree_law o tree other stands before after applies places = record {
  before = before;
  after = after;
  applies = applies;
  held = λ name. stands.held name ∙ ap (λ ss. last_seat ss name) (sym (all-seats-same o.names tree other stands.applies applies places));
}
