-- Lemmas on one change of names more.
use Rattle.std.proofs.Common.{◌≡◌, ℕ, ◌+◌, ◌≤◌, ◌==◌, ◌&&◌, not, Bool, true, false, is_some, List, [], ◌∷◌, ◌++◌, length, Option, Some, None, refl, sym, ap, ◌∙◌, subst, arith, inl, inr}
use Rattle.std.specs.Prelude.{bytes_eq, nat_le}
use Rattle.std.specs.List.{list_all}
use Rattle.std.specs.Option.{option_map}
use Rattle.std.specs.Ordering.{is_eq}
use Rattle.std.proofs.lemmas.Bool.{cases_Bool, and_parts, and_from, or_parts, leb-true, eq-eqb, eqb-true, cases_eq, not-true, true≢false}
use Rattle.std.proofs.lemmas.List.{append_assoc, append-nil, length-append, length-map}
use Rattle.std.proofs.lemmas.List.Sums.{fold-append}
use Rattle.std.proofs.lemmas.Map.Text.{is_eq-slice_cmp}
use Rattle.std.proofs.lemmas.Option.{none-some, same_Some}
use Rattle.std.proofs.lemmas.Slice.Eq.{bytes_eq-Decides}
use Rattle.ktm_base.specs.declared.limits.TheConstants.{MOST_NAME_BYTES}
use Rattle.ktm_base.specs.Names.{IsName, folded, folded_byte, is_name_byte, last_byte}
use Rattle.ktm_links.specs.Mapped.{NamedItem, name_cmp}
use Rattle.ktm_world.specs.declared.change.Change.{Change}
use Rattle.ktm_world.specs.declared.change.Change.TheVariants.{Make, Put, Cut, Move, Drop}
use Rattle.ktm_world.specs.declared.change.NodeKind.{NodeKind}
use Rattle.ktm_world.specs.declared.recorded.Node.{Node}
use Rattle.ktm_world.specs.Changes.{applies, changes_apply, changed, changed_all, is_drop, is_make, node_of, nodes_made}
use Rattle.ktm_world.specs.Holds.{each_change, place}
use Rattle.ktm_world.specs.Paths.{is_name}
use Rattle.ktm_world.specs.Tree.{Tree, IsWellFormed, node_at}
use Rattle.txf_overlay.specs.declared.node.NodeSeen.{NodeSeen}
use Rattle.txf_overlay.specs.Kept.{seats_in, AreNamesKept}
use Rattle.txf_overlay.specs.OverlayState.{is_of_names, OverlayState, seen}
use Rattle.txf_overlay.specs.Maps.{under}
use Rattle.txf_tree.specs.Places.{number_bytes}
use Rattle.txf_tree.proofs.Digits.{length-number_bytes}
use Rattle.txf_overlay.specs.Names.{place_bytes, place_in}
use Rattle.txf_overlay.specs.Nodes.{drop_it, given, one_if, times_made, was_counted, IsShort, WasSeen}
use Rattle.txf_overlay.specs.Views.{if_at, last_seat, left_by, or_before, seat_at, seats_of, StandsOver}
use Rattle.txf_overlay.proofs.NodesSeen.{made-push, made-drop, was-counted, drops, lasts, AreSeen-push, IsNext}
use Rattle.txf_overlay.proofs.Options.{or_some, or-assoc}
use Rattle.txf_overlay.proofs.Views.{come_to, come-some, last_seat-append, left-some, puts, seats-are}
use Rattle.ktm_world.proofs.offered.Lookups.{remade}
use Rattle.txf_overlay.proofs.Trees.{Applies-from, at-All, node_at-elsewhere, node_at-there}

-- ---- lists of changes
pub only-push : (cs : List Change) (c : Change) → list_all is_of_names cs ≡ true → is_of_names c ≡ true → list_all is_of_names (cs ++ c ∷ []) ≡ true
only-push [] c only is = and_from (is_of_names c) true is refl
only-push (d ∷ cs) c only is =
    let parts = and_parts (is_of_names d) (list_all is_of_names cs) only in
    and_from (is_of_names d) (list_all is_of_names (cs ++ c ∷ [])) parts.0 (only-push cs c parts.1 is)

each_change-append : {X : Type 0} (f : Tree → Change → List X) (tree : Tree) (cs ds : List Change) → each_change f tree (cs ++ ds) ≡ each_change f tree cs ++ each_change f (changed_all tree cs) ds
each_change-append f tree [] ds = refl
each_change-append f tree (c ∷ cs) ds =
    ap (λ xs. f tree c ++ xs) (each_change-append f (changed tree c) cs ds)
    ∙ sym (append_assoc (f tree c) (each_change f (changed tree c) cs) (each_change f (changed_all (changed tree c) cs) ds))

changes_apply-push : (tree : Tree) (cs : List Change) (c : Change) → changes_apply tree cs ≡ true → applies (changed_all tree cs) c ≡ true → changes_apply tree (cs ++ c ∷ []) ≡ true
changes_apply-push tree [] c all is = and_from (applies tree c) true is refl
changes_apply-push tree (d ∷ cs) c all is =
    let parts = and_parts (applies tree d) (changes_apply (changed tree d) cs) all in
    and_from (applies tree d) (changes_apply (changed tree d) (cs ++ c ∷ [])) parts.0 (changes_apply-push (changed tree d) cs c parts.1 is)

-- ---- seats
pub seat_at-under : (es : List (NamedItem (Option ℕ))) (name : List ℕ) → seat_at (seats_in es) name ≡ under es name
seat_at-under [] name = refl
seat_at-under (e ∷ es) name =
    let test : is_eq (name_cmp e.name name) ≡ bytes_eq e.name name = is_eq-slice_cmp e.name name in
    elim (cases_Bool (bytes_eq e.name name)) [
      | inl same ↦ rw (test, same) refl
      | inr other ↦ rw (test, other) (seat_at-under es name)
    ]

pub set-seat : (old new : List (NamedItem (Option ℕ))) (q : List ℕ) (who : Option ℕ) → under new q ≡ Some who → ((p : List ℕ) → (p ≡ q → ⊥) → under new p ≡ under old p)
    → (p : List ℕ) → under new p ≡ or_before (if_at p (record { place = q; node = who })) (under old p)
set-seat old new q who here others p = elim (cases_Bool (bytes_eq q p)) [
  | inl same ↦
      let at : q ≡ p = (bytes_eq-Decides q p).0 same in
      rw same (ap (under new) (sym at) ∙ here)
  | inr other ↦ rw other (others p (λ at. true≢false (sym ((bytes_eq-Decides q p).1 (sym at)) ∙ other)))
]

pub set-seats : (es es' es'' : List (NamedItem (Option ℕ))) (from to : List ℕ) (node node' : Option ℕ) → under es' from ≡ Some node
    → ((p : List ℕ) → (p ≡ from → ⊥) → under es' p ≡ under es p) → under es'' to ≡ Some node' → ((p : List ℕ) → (p ≡ to → ⊥) → under es'' p ≡ under es' p)
    → (p : List ℕ) → under es'' p ≡ or_before (last_seat (record { place = from; node = node } ∷ record { place = to; node = node' } ∷ []) p) (under es p)
set-seats es es' es'' from to node node' here others here' others' p =
    set-seat es' es'' to node' here' others' p
    ∙ ap (or_before (if_at p (record { place = to; node = node' }))) (set-seat es es' from node here others p)
    ∙ or-assoc (if_at p (record { place = to; node = node' })) (if_at p (record { place = from; node = node })) (under es p)

pub left-is : (o : Option Node) (from : List ℕ) → Some from ≡ option_map place_in o → left_by o ≡ record { place = from; node = None } ∷ []
left-is None from is = absurd (cc)
left-is (Some x) from is = let at : place_in x ≡ from = sym (same_Some from (place_in x) is) in λ i. record { place = at i; node = None } ∷ []

-- ---- a tree stands after one change more
pub stands-after : (tree : Tree) (o o' : OverlayState) (c : Change) → StandsOver tree o → applies (seen tree o) c ≡ true → IsWellFormed (changed (seen tree o) c)
    → o'.names ≡ o.names ++ c ∷ [] → ((p : List ℕ) → seat_at o'.held p ≡ or_before (last_seat (seats_of (seen tree o) c) p) (seat_at o.held p)) → StandsOver tree o'
stands-after tree o o' c stands is formed names held =
    let after : seen tree o' ≡ changed (seen tree o) c = ap (changed_all tree) names ∙ fold-append changed tree o.names (c ∷ []) in
    record {
      before = stands.before;
      after = rw after formed;
      applies = rw names (changes_apply-push tree o.names c stands.applies is);
      held = λ p.
          let seats : each_change seats_of tree o'.names ≡ each_change seats_of tree o.names ++ (seats_of (seen tree o) c ++ []) =
          ap (each_change seats_of tree) names ∙ each_change-append seats_of tree o.names (c ∷ []) in
          held p ∙ ap (or_before (last_seat (seats_of (seen tree o) c) p)) (stands.held p)
          ∙ sym
          (ap (λ ss. last_seat ss p) seats ∙ last_seat-append (each_change seats_of tree o.names) (seats_of (seen tree o) c ++ []) p
          ∙ ap (λ ss. or_before (last_seat ss p) (last_seat (each_change seats_of tree o.names) p)) (append-nil (seats_of (seen tree o) c)));
    }

-- ---- names that are short
is_name-short : (name : List ℕ) → is_name name ≡ true → length name ≤ MOST_NAME_BYTES
unfolding is_name
is_name-short name is =
    let e = and_parts (nat_le 1 (length name) && nat_le (length name) MOST_NAME_BYTES && list_all is_name_byte name && not (last_byte name == 0x20)) (not (last_byte name == 0x2E)) is in
    let d = and_parts (nat_le 1 (length name) && nat_le (length name) MOST_NAME_BYTES && list_all is_name_byte name) (not (last_byte name == 0x20)) e.0 in
    let c = and_parts (nat_le 1 (length name) && nat_le (length name) MOST_NAME_BYTES) (list_all is_name_byte name) d.0 in
    let b = and_parts (nat_le 1 (length name)) (nat_le (length name) MOST_NAME_BYTES) c.0 in
    leb-true (length name) MOST_NAME_BYTES b.1

pub short-from : (t : Tree) (c : Change) → applies t c ≡ true → IsShort c
short-from t (Make node parent kind name) is = is_name-short name (Applies-from t (Make node parent kind name) is).1
short-from t (Put node offset contents) is = tt
short-from t (Cut node size pages) is = tt
short-from t (Move node parent name) is = is_name-short name (Applies-from t (Move node parent name) is).2
short-from t (Drop node) is = tt

place-short : (directory : ℕ) (name : List ℕ) → length name ≤ MOST_NAME_BYTES → length (place_bytes (place directory name)) ≤ 263
place-short directory name short =
    omega (arith, short, length-append (number_bytes directory) (folded name), length-number_bytes directory, length-map name folded_byte)

-- a place that a change gives is as long as a short name makes it
given-short : (c : Change) (p : List ℕ) → IsShort c → given c ≡ Some p → length p ≤ 263
given-short (Make node parent kind name) p short is = subst (λ p. length p ≤ 263) (same_Some _ p is) (place-short parent name short)
given-short (Put node offset contents) p short is = absurd (none-some p is)
given-short (Cut node size pages) p short is = absurd (none-some p is)
given-short (Move node parent name) p short is = subst (λ p. length p ≤ 263) (same_Some _ p is) (place-short parent name short)
given-short (Drop node) p short is = absurd (none-some p is)

-- the places of the nodes are short
abbrev pub AreShort : Tree → Type 0
AreShort t = (m : ℕ) (x : Node) → node_at t m ≡ Some x → length (place_in x) ≤ 263

short-after : (t : Tree) (c : Change) → is_of_names c ≡ true → applies t c ≡ true → AreShort t → AreShort (changed t c)
short-after t c names is short m x found = elim (cases_eq (node_of c) m) [
  | inl same ↦ given-short c (place_in x) (short-from t c is) ((puts t c names is).here x (ap (node_at (changed t c)) same ∙ found))
  | inr other ↦ short m x (sym (node_at-elsewhere t c is m other) ∙ found)
]

-- the places that changes of names hold are short, where those of the tree's nodes are
short-seats : (cs : List Change) (t : Tree) (p : List ℕ) (v : Option ℕ) → AreShort t → list_all is_of_names cs ≡ true → changes_apply t cs ≡ true
    → last_seat (each_change seats_of t cs) p ≡ Some v → length p ≤ 263
short-seats [] t p v short names all seat = absurd (none-some v seat)
short-seats (c ∷ cs) t p v short names all seat =
    let names' = and_parts (is_of_names c) (list_all is_of_names cs) names in
    let all' = and_parts (applies t c) (changes_apply (changed t c) cs) all in
    elim (or_some _ _ v (sym (last_seat-append (seats_of t c) (each_change seats_of (changed t c) cs) p) ∙ seat)) [
      | inl later ↦ short-seats cs (changed t c) p v (short-after t c names'.0 all'.0 short) names'.1 all'.1 later
      | inr earlier ↦
          let here : last_seat (left_by (node_at t (node_of c)) ++ come_to (node_of c) (given c)) p ≡ Some v =
          ap (λ ss. last_seat ss p) (sym (seats-are t c names'.0 all'.0)) ∙ earlier.1 in
          elim (or_some _ _ v (sym (last_seat-append (left_by (node_at t (node_of c))) (come_to (node_of c) (given c)) p) ∙ here)) [
            | inl come ↦ given-short c p (short-from t c all'.0) (come-some (node_of c) (given c) p v come).1
            | inr left ↦
                let was = (left-some (node_at t (node_of c)) p v left.1).1 in
                subst (λ p. length p ≤ 263) was.2 (short (node_of c) was.0 was.1)
          ]
    ]

pub short-place : (t : Tree) (o : OverlayState) (p : List ℕ) (v : Option ℕ) → list_all is_of_names o.names ≡ true → StandsOver t o → seat_at o.held p ≡ Some v
    → length p ≤ 263
short-place t o p v only stands seat =
    short-seats o.names t p v (λ m x found. place-short x.parent x.name (at-All (λ n. IsName n.name) t stands.before.names m x found).few) only stands.applies
    (sym (stands.held p) ∙ seat)

-- ---- the parts stay together
pub few-made : (cs : List Change) → nodes_made cs ≤ length cs
few-made [] = omega arith
few-made (c ∷ cs) = omega (arith, few-made cs, small (lasts c cs))
  where
    small : (b : Bool) → one_if b ≤ 1
    small true = omega arith
    small false = omega arith

made-there : (t : Tree) (c : Change) → is_make c ≡ true → applies t c ≡ true → is_some (node_at (changed t c) (node_of c)) ≡ true
made-there t (Make node parent kind name) make is = ap is_some (node_at-there t (Make node parent kind name) is node refl)
made-there t (Put node offset contents) make is = absurd (cc)
made-there t (Cut node size pages) make is = absurd (cc)
made-there t (Move node parent name) make is = absurd (cc)
made-there t (Drop node) make is = absurd (cc)

remade-there : (c : Change) (o : Option Node) → is_drop c ≡ false → is_some o ≡ true → is_some (remade c o) ≡ true
remade-there (Make node parent kind name) o kept there = refl
remade-there (Put node offset contents) None kept there = absurd (cc)
remade-there (Put node offset contents) (Some x) kept there = refl
remade-there (Cut node size pages) None kept there = absurd (cc)
remade-there (Cut node size pages) (Some x) kept there = refl
remade-there (Move node parent name) None kept there = absurd (cc)
remade-there (Move node parent name) (Some x) kept there = refl
remade-there (Drop node) o kept there = absurd (cc)

-- a node that is not dropped stays there
stays-there : (cs : List Change) (t : Tree) (node : ℕ) → changes_apply t cs ≡ true → drop_it cs node ≡ false → is_some (node_at t node) ≡ true
    → is_some (node_at (changed_all t cs) node) ≡ true
stays-there [] t node all kept there = there
stays-there (c ∷ cs) t node all kept there =
    let parts = and_parts (applies t c) (changes_apply (changed t c) cs) all in
    let both = or_parts (drops c node) (drop_it cs node) kept in
    stays-there cs (changed t c) node parts.1 both.1 (elim (cases_eq (node_of c) node) [
      | inl same ↦
          let no_drop : is_drop c ≡ false = elim (cases_Bool (is_drop c)) [
            | inl is ↦ absurd (true≢false (sym (and_from (is_drop c) (node_of c == node) is (eq-eqb (node_of c) node same)) ∙ both.0))
            | inr is ↦ is
          ] in
          ap is_some (node_at-there t c parts.0 node same) ∙ remade-there c (node_at t node) no_drop there
      | inr other ↦ ap is_some (node_at-elsewhere t c parts.0 node other) ∙ there
    ])

-- a node that is not there is not among those that were made and not dropped
pub times-absent : (cs : List Change) (t : Tree) (node : ℕ) → changes_apply t cs ≡ true → node_at (changed_all t cs) node ≡ None → times_made cs node ≡ 0
times-absent [] t node all none = refl
times-absent (c ∷ cs) t node all none =
    let parts = and_parts (applies t c) (changes_apply (changed t c) cs) all in
    let rest = times-absent cs (changed t c) node parts.1 none in
    elim (cases_Bool (is_make c && node_of c == node && not (drop_it cs node))) [
      | inl is ↦
          let both = and_parts (is_make c && node_of c == node) (not (drop_it cs node)) is in
          let make = and_parts (is_make c) (node_of c == node) both.0 in
          let there : is_some (node_at (changed t c) node) ≡ true =
          subst (λ n. is_some (node_at (changed t c) n) ≡ true) (eqb-true (node_of c) node make.1) (made-there t c make.0 parts.0) in
          absurd (true≢false (sym (stays-there cs (changed t c) node parts.1 (not-true (drop_it cs node) both.1) there) ∙ ap is_some none))
      | inr isnt ↦ rw isnt (omega (arith, rest))
    ]

-- with one change more the parts still stand to each other
pub kept-next : (names names' : List Change) (es es' : List (NamedItem NodeSeen)) (made made' : ℕ) (c : Change) (name : List ℕ) (s : NodeSeen)
    → AreNamesKept names es made → names' ≡ names ++ c ∷ [] → is_of_names c ≡ true → name ≡ number_bytes (node_of c)
    → under es' name ≡ Some s → ((q : List ℕ) → (q ≡ name → ⊥) → under es' q ≡ under es q) → IsNext names c s
    → made' ≡ nodes_made (names ++ c ∷ []) → AreNamesKept names' es' made'
kept-next names names' es es' made made' c name s is names'_is of_names name_is here others next count = record {
  only = rw names'_is (only-push names c is.only of_names);
  nodes = rw names'_is (AreSeen-push names c es es' name s is.nodes name_is here others next);
  count = count ∙ ap nodes_made (sym names'_is);
}

pub count-make : (names : List Change) (made made' node parent : ℕ) (kind : NodeKind) (name : List ℕ) → made ≡ nodes_made names → made' ≡ made + 1
    → made' ≡ nodes_made (names ++ Make node parent kind name ∷ [])
count-make names made made' node parent kind name is one = omega (arith, is, one, made-push names (Make node parent kind name) refl)

pub count-move : (names : List Change) (made node parent : ℕ) (name : List ℕ) → made ≡ nodes_made names → made ≡ nodes_made (names ++ Move node parent name ∷ [])
count-move names made node parent name is = omega (arith, is, made-push names (Move node parent name) refl)

pub count-drop : (names : List Change) (made made' node : ℕ) (o : Option NodeSeen) → WasSeen names node o → made ≡ nodes_made names → made' + one_if (was_counted o) ≡ made
    → made' ≡ nodes_made (names ++ Drop node ∷ [])
count-drop names made made' node o was is less = omega (arith, is, less, made-drop names node, was-counted names node o was)

pub counted-few : (names : List Change) (made node : ℕ) (o : Option NodeSeen) → WasSeen names node o → made ≡ nodes_made names → one_if (was_counted o) ≤ made
counted-few names made node o was is = omega (arith, is, made-drop names node, was-counted names node o was)
