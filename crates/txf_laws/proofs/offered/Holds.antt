-- Changes that meet no hold of others are apart from them.
use Rattle.std.proofs.Common.{◌≡◌, ℕ, ◌==◌, ◌&&◌, ◌||◌, not, Bool, true, false, cond, is_some, if◌then◌else◌, List, [], ◌∷◌, ◌++◌, map, Some, refl, sym, ◌∙◌, ap, subst, inl, inr, ◌⊎◌}
use Rattle.std.proofs.lemmas.Bool.{cases_Bool, cases_eq, eq-eqb, ne_eqb, eqb-false, and_parts, and_from, or_parts, or_from, or_right, not-true, not_from_false, true≢false, false_from_ne_true}
use Rattle.std.specs.List.{list_any}
use Rattle.ktm_world.specs.declared.change.Change.{Change}
use Rattle.ktm_world.specs.declared.change.Change.TheVariants.{Make, Put, Cut, Move, Drop}
use Rattle.ktm_world.specs.declared.recorded.Node.{Node}
use Rattle.ktm_world.specs.Changes.{changed, applies, changes_apply, node_of, is_make, has_made}
use Rattle.ktm_world.specs.Durable.{act_of_node, acts_of, acts_of_all}
use Rattle.ktm_world.specs.Holds.{Place, Holds, holds_by, place, place_of, places_of, each_change, dropped_directory, moved_directory, directories_of, is_in, meet_in, is_place_in, same_place, Act, opens, deletes, moves_file, makes, drops_directory, moves_directory, nodes_changed, places_changed, directory_dropped, is_move_of_directory, changes_held, enters_dropped, drops_used, moves_too, meets}
use Rattle.ktm_world.specs.Lawful.{are_apart}
use Rattle.ktm_world.specs.Tree.{Tree, node_at, is_there, is_file, is_directory, content_of}
use Rattle.txf_laws.specs.Elements.{IsIn}
use Rattle.txf_laws.specs.Footprint.{footprint, AreFootprintsApart, MeetingLaw}
use Rattle.txf_laws.specs.OwnChange.{HoldsNothing}
use Rattle.ktm_world.proofs.offered.Lookups.{node_at-elsewhere}
use Rattle.txf_laws.proofs.offered.ChangeTests.{Applies, Applies-from, Fits-from, is_there-none}
use Rattle.txf_laws.proofs.offered.Formed.{found-from, content-found}
use Rattle.txf_laws.proofs.offered.Diamonds.{IsIn-right, IsIn-map, no_test, none-from, meets-not, same_place-sym}
use Rattle.txf_laws.proofs.offered.Lists.{IsIn-left, IsIn-cases, IsIn-unmap, IsIn-first}
use Rattle.txf_laws.proofs.offered.Elements.{list_any-from}

-- ---- what a change holds is in its acts

record Shown (tree : Tree) (c : Change) (acts : List Act) : Type 0 where
  places : (p : Place) → IsIn p (places_of tree c) → (a : Act) × IsIn a acts × IsIn p (places_changed a)
  dropped : (n : ℕ) → IsIn n (dropped_directory tree c) → (a : Act) × IsIn a acts × IsIn n (directory_dropped a)
  moved : (n : ℕ) → IsIn n (moved_directory tree c) → (a : Act) × IsIn a acts × (is_move_of_directory a ≡ true)
  node : is_make c ≡ false → (a : Act) × IsIn a acts × IsIn (node_of c) (nodes_changed a)

-- the node of a change that makes none is there
there-from : (tree : Tree) (c : Change) → Applies tree c → is_make c ≡ false → (n : Node) × (node_at tree (node_of c) ≡ Some n)
there-from tree (Make node parent kind name) is made = absurd (true≢false made)
there-from tree (Put node offset contents) is made = found-from tree node (content-found _ is.0)
there-from tree (Cut node size pages) is made = found-from tree node (content-found _ is.0)
there-from tree (Move node parent name) is made = found-from tree node (rw is.0 at is.1)
there-from tree (Drop node) is made = found-from tree node (rw is.0 at is.1)

no_directory : (tree : Tree) (node : ℕ) (n : Node) → node_at tree node ≡ Some n → is_some n.content ≡ true → is_directory tree node ≡ false
no_directory tree node n found file = false_from_ne_true _ (λ dir.
    true≢false (sym (ap (λ o. is_some (content_of o)) found ∙ file) ∙ not-true _ (and_parts (is_there tree node) (not (is_file tree node)) dir).1))

shown-move : (tree : Tree) (node parent : ℕ) (name : List ℕ) (n : Node) → node_at tree node ≡ Some n → Shown tree (Move node parent name) (act_of_node tree (Some n) (Move node parent name))
shown-move tree node parent name n found = elim (cases_Bool (is_some n.content)) [
  | inl file ↦
      let a = moves_file node (place n.parent n.name) (place parent name) in
      rw file record {
        places = λ p there. (a, inl refl, rw found at there);
        dropped = λ m none. absurd none;
        moved = λ m there. absurd (rw (no_directory tree node n found file) at there);
        node = λ e. (a, inl refl, inl refl);
      }
  | inr dir ↦
      let a = moves_directory node (place n.parent n.name) (place parent name) in
      rw dir record {
        places = λ p there. (a, inl refl, rw found at there);
        dropped = λ m none. absurd none;
        moved = λ m there. (a, inl refl, refl);
        node = λ e. (a, inl refl, inl refl);
      }
]

shown-drop : (tree : Tree) (node : ℕ) (n : Node) → node_at tree node ≡ Some n → Shown tree (Drop node) (act_of_node tree (Some n) (Drop node))
shown-drop tree node n found = elim (cases_Bool (is_some n.content)) [
  | inl file ↦
      let a = deletes node (place n.parent n.name) in
      rw file record {
        places = λ p there. (a, inl refl, rw found at there);
        dropped = λ m there. absurd (rw (no_directory tree node n found file) at there);
        moved = λ m none. absurd none;
        node = λ e. (a, inl refl, inl refl);
      }
  | inr dir ↦
      let a = drops_directory node (place n.parent n.name) in
      rw dir record {
        places = λ p there. (a, inl refl, rw found at there);
        dropped = λ m there. (a, inl refl, one (is_directory tree node) m there);
        moved = λ m none. absurd none;
        node = λ e. (a, inl refl, inl refl);
      }
]
  where
    one : (b : Bool) (m : ℕ) → IsIn m (cond b (node ∷ []) []) → IsIn m (node ∷ [])
    one true m there = there
    one false m none = absurd none

shown : (tree : Tree) (c : Change) → Applies tree c → Shown tree c (acts_of tree c)
shown tree (Make node parent kind name) is = record {
  places = λ p there. (makes (place parent name), inl refl, there);
  dropped = λ n none. absurd none;
  moved = λ n none. absurd none;
  node = λ e. absurd (true≢false e);
}
shown tree (Put node offset contents) is = let found = there-from tree (Put node offset contents) is refl in rw found.1 record {
  places = λ p none. absurd none;
  dropped = λ n none. absurd none;
  moved = λ n none. absurd none;
  node = λ e. (opens node true, inl refl, inl refl);
}
shown tree (Cut node size pages) is = let found = there-from tree (Cut node size pages) is refl in rw found.1 record {
  places = λ p none. absurd none;
  dropped = λ n none. absurd none;
  moved = λ n none. absurd none;
  node = λ e. (opens node true, inl refl, inl refl);
}
shown tree (Move node parent name) is =
    let found = there-from tree (Move node parent name) is refl in
    subst (λ o. Shown tree (Move node parent name) (act_of_node tree o (Move node parent name))) (sym found.1) (shown-move tree node parent name found.0 found.1)
shown tree (Drop node) is =
    let found = there-from tree (Drop node) is refl in
    subst (λ o. Shown tree (Drop node) (act_of_node tree o (Drop node))) (sym found.1) (shown-drop tree node found.0 found.1)

-- what each change of a list shows, an act of the list shows
in_acts : {X : Type 0} (f : Tree → Change → List X) (P : X → Act → Type 0) → ((tree : Tree) (c : Change) → Applies tree c → (x : X) → IsIn x (f tree c) → (a : Act) × IsIn a (acts_of tree c) × P x a)
    → (tree : Tree) (cs : List Change) → changes_apply tree cs ≡ true → (x : X) → IsIn x (each_change f tree cs) → (a : Act) × IsIn a (acts_of_all tree cs) × P x a
in_acts f P each tree [] all x there = absurd there
in_acts f P each tree (c ∷ cs) all x there =
    let parts = and_parts (applies tree c) (changes_apply (changed tree c) cs) all in
    elim (IsIn-cases x (f tree c) (each_change f (changed tree c) cs) there) [
      | inl here ↦ let act = each tree c (Applies-from tree c parts.0) x here in (act.0, IsIn-left act.0 (acts_of tree c) _ act.1, act.2)
      | inr later ↦ let act = in_acts f P each (changed tree c) cs parts.1 x later in (act.0, IsIn-right act.0 (acts_of tree c) _ act.1, act.2)
    ]

-- the node that a change finds
abbrev node_found : Tree → Change → List ℕ
node_found tree c = cond (is_make c) [] (node_of c ∷ [])

node_found-shown : (tree : Tree) (c : Change) → Applies tree c → (n : ℕ) → IsIn n (node_found tree c) → (a : Act) × IsIn a (acts_of tree c) × IsIn n (nodes_changed a)
node_found-shown tree c is n there = elim (cases_Bool (is_make c)) [
  | inl made ↦ absurd (rw made at there)
  | inr other ↦ elim (rw other at there) [ inl e ↦ let act = (shown tree c is).node other in (act.0, act.1, subst (λ m. IsIn m (nodes_changed act.0)) e act.2) | inr none ↦ absurd none ]
]

found-in : (tree : Tree) (cs : List Change) (c : Change) → IsIn c cs → is_make c ≡ false → IsIn (node_of c) (each_change node_found tree cs)
found-in tree [] c there other = absurd there
found-in tree (b ∷ bs) c (inl e) other = IsIn-left (node_of c) (node_found tree b) _ (subst (λ d. IsIn (node_of c) (node_found tree d)) (sym e) (rw other (inl refl)))
found-in tree (b ∷ bs) c (inr there) other = IsIn-right (node_of c) (node_found tree b) _ (found-in (changed tree b) bs c there other)

-- ---- a node that is found is there before, and one that is made is not

-- each change of the node makes it, or none does
abbrev AllMake : Bool → ℕ → List Change → Type 0
AllMake make n cs = (c : Change) → IsIn c cs → node_of c ≡ n → is_make c ≡ make

there-one : (tree : Tree) (c : Change) (make : Bool) → Applies tree c → is_make c ≡ make → is_some (node_at tree (node_of c)) ≡ not make
there-one tree (Make node parent kind name) make is e = subst (λ b. is_some (node_at tree node) ≡ not b) e (ap is_some (is_there-none tree node is.1))
there-one tree (Put node offset contents) make is e = subst (λ b. is_some (node_at tree node) ≡ not b) e (ap is_some (there-from tree (Put node offset contents) is refl).1)
there-one tree (Cut node size pages) make is e = subst (λ b. is_some (node_at tree node) ≡ not b) e (ap is_some (there-from tree (Cut node size pages) is refl).1)
there-one tree (Move node parent name) make is e = subst (λ b. is_some (node_at tree node) ≡ not b) e (ap is_some (there-from tree (Move node parent name) is refl).1)
there-one tree (Drop node) make is e = subst (λ b. is_some (node_at tree node) ≡ not b) e (ap is_some (there-from tree (Drop node) is refl).1)

there-before : (make : Bool) (tree : Tree) (cs : List Change) (n : ℕ) → changes_apply tree cs ≡ true → AllMake make n cs → IsIn n (map node_of cs) → is_some (node_at tree n) ≡ not make
there-before make tree [] n all only there = absurd there
there-before make tree (c ∷ cs) n all only there =
    let parts = and_parts (applies tree c) (changes_apply (changed tree c) cs) all in
    let is = Applies-from tree c parts.0 in
    elim (cases_eq (node_of c) n) [
      | inl at ↦ subst (λ m. is_some (node_at tree m) ≡ not make) at (there-one tree c make is (only c (inl refl) at))
      | inr other ↦
          let later : IsIn n (map node_of cs) = elim there [ inl e ↦ absurd (other e) | inr later ↦ later ] in
          ap is_some (sym (node_at-elsewhere tree c (Fits-from tree c is) n other)) ∙ there-before make (changed tree c) cs n parts.1 (λ d there. only d (inr there)) later
    ]

-- ---- acts that meet nothing

record Misses (h : Holds) (a : Act) : Type 0 where
  nodes : meet_in (nodes_changed a) h.nodes ≡ false
  places : list_any (is_place_in h.places) (places_changed a) ≡ false
  dropped : meet_in (directories_of (places_changed a)) h.dropped ≡ false
  uses : meet_in (directory_dropped a) h.uses ≡ false
  moves : (is_move_of_directory a && h.moves) ≡ false

Misses-from : (h : Holds) (a : Act) → meets h a ≡ false → Misses h a
unfolding meets
Misses-from h a misses =
    let d = or_parts (changes_held h a || enters_dropped h a || drops_used h a) (moves_too h a) misses in
    let c = or_parts (changes_held h a || enters_dropped h a) (drops_used h a) d.0 in
    let b = or_parts (changes_held h a) (enters_dropped h a) c.0 in
    let held = or_parts (meet_in (nodes_changed a) h.nodes) (list_any (is_place_in h.places) (places_changed a)) b.0 in
    record { nodes = held.0; places = held.1; dropped = b.1; uses = c.1; moves = d.1 }

-- a node that a change finds is not held, where the change meets nothing
pub found-missed : (tree : Tree) (c : Change) (h : Holds) → applies tree c ≡ true → list_any (meets h) (acts_of tree c) ≡ false → is_make c ≡ false → is_in h.nodes (node_of c) ≡ false
found-missed tree c h is misses other =
    let act = (shown tree c (Applies-from tree c is)).node other in
    no_test (is_in h.nodes) (node_of c) (nodes_changed act.0) (Misses-from h act.0 (no_test (meets h) act.0 (acts_of tree c) misses act.1)).nodes act.2

-- a change that meets nothing that others hold, and makes no node that they hold, holds nothing of theirs
pub misses-nothing : (tree : Tree) (c : Change) (h : Holds) → applies tree c ≡ true → list_any (meets h) (acts_of tree c) ≡ false → (is_make c ≡ true → IsIn (node_of c) h.nodes → ⊥) → HoldsNothing h tree c
misses-nothing tree c h is misses new = record {
  nodes = λ there. elim (cases_Bool (is_make c)) [
    | inl make ↦ new make there
    | inr other ↦ eqb-false (node_of c) (node_of c) (no_test (λ m. m == node_of c) (node_of c) h.nodes (found-missed tree c h is misses other) there) refl
  ];
  places = λ p q mine theirs. let act = of.places p mine in no_test (same_place p) q h.places (no_test (is_place_in h.places) p (places_changed act.0) (missed act.0 act.1).places act.2) theirs;
  enters = λ p mine theirs. let act = of.places p mine in
      meets-not (directories_of (places_changed act.0)) h.dropped (missed act.0 act.1).dropped p.directory (IsIn-map (λ (p : Place). p.directory) p (places_changed act.0) act.2) theirs;
  drops = λ n mine theirs. let act = of.dropped n mine in meets-not (directory_dropped act.0) h.uses (missed act.0 act.1).uses n act.2 theirs;
  moves = λ n mine. let act = of.moved n mine in rw act.2 at (missed act.0 act.1).moves;
}
  where
    of : Shown tree c (acts_of tree c)
    of = shown tree c (Applies-from tree c is)

    missed : (a : Act) → IsIn a (acts_of tree c) → Misses h a
    missed a there = Misses-from h a (no_test (meets h) a (acts_of tree c) misses there)

-- the nodes of changes are there before them, or they make them
pub found-or-made : (cs : List Change) (tree : Tree) → changes_apply tree cs ≡ true → (n : ℕ) → IsIn n (map node_of cs) → (is_some (node_at tree n) ≡ true) ⊎ ((c : Change) × IsIn c cs × (is_make c ≡ true) × (node_of c ≡ n))
found-or-made [] tree all n there = absurd there
found-or-made (c ∷ cs) tree all n there =
    let parts = and_parts (applies tree c) (changes_apply (changed tree c) cs) all in
    let is = Applies-from tree c parts.0 in
    elim (cases_eq (node_of c) n) [
      | inl at ↦ elim (cases_Bool (is_make c)) [
        | inl make ↦ inr (c, inl refl, make, at)
        | inr other ↦ inl (subst (λ m. is_some (node_at tree m) ≡ true) at (there-one tree c false is other))
      ]
      | inr other ↦ elim (found-or-made cs (changed tree c) parts.1 n (elim there [ inl e ↦ absurd (other e) | inr later ↦ later ])) [
        | inl found ↦ inl (ap is_some (sym (node_at-elsewhere tree c (Fits-from tree c is) n other)) ∙ found)
        | inr (d, in_cs, make, at) ↦ inr (d, inr in_cs, make, at)
      ]
    ]

module _ (tree : Tree) (ds cs : List Change) (writes : List ℕ) (all : changes_apply tree ds ≡ true) (all' : changes_apply tree cs ≡ true)
    (misses : list_any (meets (holds_by tree ds writes)) (acts_of_all tree cs) ≡ false)
    (makes_apart : list_any (λ (c : Change). is_make c && has_made ds (node_of c)) cs ≡ false) where
  act_misses : (a : Act) → IsIn a (acts_of_all tree cs) → Misses (holds_by tree ds writes) a
  act_misses a there = Misses-from (holds_by tree ds writes) a (no_test (meets (holds_by tree ds writes)) a (acts_of_all tree cs) misses there)

  -- a node of others that the changes find
  not_found : (n : ℕ) → IsIn n (map node_of ds) → (c : Change) → IsIn c cs → node_of c ≡ n → is_make c ≡ true
  not_found n held c there at = elim (cases_Bool (is_make c)) [
    | inl made ↦ made
    | inr other ↦
        let act = in_acts node_found (λ n a. IsIn n (nodes_changed a)) node_found-shown tree cs all' (node_of c) (found-in tree cs c there other) in
        absurd (meets-not (nodes_changed act.0) (map node_of ds ++ writes) (act_misses act.0 act.1).nodes (node_of c) act.2 (IsIn-left (node_of c) (map node_of ds) writes (subst (λ m. IsIn m (map node_of ds)) (sym at) held)))
  ]

  -- the changes of others do not make what the changes make
  not_made : (n : ℕ) → IsIn n (map node_of cs) → IsIn n (map node_of ds) → (d : Change) → IsIn d ds → node_of d ≡ n → is_make d ≡ false
  not_made n here held d there at = false_from_ne_true (is_make d) (λ made.
      let mine = IsIn-unmap node_of n cs here in
      let make = not_found n held mine.0 mine.2 mine.1 in
      let theirs : has_made ds (node_of mine.0) ≡ true =
      list_any-from (λ (c : Change). is_make c && node_of c == node_of mine.0) ds d there (and_from _ _ made (eq-eqb _ _ (at ∙ sym mine.1))) in
      true≢false (sym (and_from _ _ make theirs) ∙ no_test (λ (c : Change). is_make c && has_made ds (node_of c)) mine.0 cs makes_apart mine.2))

  nodes_apart : (n : ℕ) → IsIn n (map node_of ds) → IsIn n (map node_of cs) → ⊥
  nodes_apart n held here =
      true≢false (sym (there-before false tree ds n all (not_made n here held) held) ∙ there-before true tree cs n all' (not_found n held) here)

  places-act : (p : Place) → IsIn p (each_change places_of tree cs) → (a : Act) × IsIn a (acts_of_all tree cs) × IsIn p (places_changed a)
  places-act = in_acts places_of (λ p a. IsIn p (places_changed a)) (λ t c is. (shown t c is).places) tree cs all'

  dropped-act : (n : ℕ) → IsIn n (each_change dropped_directory tree cs) → (a : Act) × IsIn a (acts_of_all tree cs) × IsIn n (directory_dropped a)
  dropped-act = in_acts dropped_directory (λ n a. IsIn n (directory_dropped a)) (λ t c is. (shown t c is).dropped) tree cs all'

  moved-act : (n : ℕ) → IsIn n (each_change moved_directory tree cs) → (a : Act) × IsIn a (acts_of_all tree cs) × (is_move_of_directory a ≡ true)
  moved-act = in_acts moved_directory (λ n a. is_move_of_directory a ≡ true) (λ t c is. (shown t c is).moved) tree cs all'

  apart-from-misses : AreFootprintsApart (footprint tree ds) (footprint tree cs)
  apart-from-misses = record {
    nodes = nodes_apart;
    places = λ p q held here.
        let act = places-act q here in
        same_place-sym q p (no_test (same_place q) p (each_change places_of tree ds) (no_test (is_place_in (each_change places_of tree ds)) q (places_changed act.0) (act_misses act.0 act.1).places act.2) held);
    left_stays = λ n p held here e.
        let act = places-act p here in
        meets-not (directories_of (places_changed act.0)) (each_change dropped_directory tree ds) (act_misses act.0 act.1).dropped p.directory (IsIn-map (λ (p : Place). p.directory) p (places_changed act.0) act.2)
        (subst (λ m. IsIn m (each_change dropped_directory tree ds)) e held);
    right_stays = λ n p here held e.
        let act = dropped-act n here in
        meets-not (directory_dropped act.0) (directories_of (each_change places_of tree ds)) (act_misses act.0 act.1).uses n act.2
        (subst (λ m. IsIn m (directories_of (each_change places_of tree ds))) (sym e) (IsIn-map (λ (p : Place). p.directory) p (each_change places_of tree ds) held));
    moves = λ n m held here.
        let act = moved-act m here in
        true≢false (sym (and_from _ _ act.2 (list_any-from (λ (n : ℕ). true) (each_change moved_directory tree ds) n held refl)) ∙ (act_misses act.0 act.1).moves);
  }

pub meeting_law : MeetingLaw
meeting_law = apart-from-misses

-- ---- what the acts of changes show

-- what the acts of a change show it holds
record Holding (tree : Tree) (c : Change) (a : Act) : Type 0 where
  nodes : (n : ℕ) → IsIn n (nodes_changed a) → node_of c ≡ n
  places : (p : Place) → IsIn p (places_changed a) → IsIn p (places_of tree c)
  dropped : (n : ℕ) → IsIn n (directory_dropped a) → IsIn n (dropped_directory tree c)
  moved : is_move_of_directory a ≡ true → IsIn (node_of c) (moved_directory tree c)

-- a node that is there with no content is a directory
pub is-directory : (tree : Tree) (node : ℕ) (n : Node) → node_at tree node ≡ Some n → is_some n.content ≡ false → is_directory tree node ≡ true
is-directory tree node n found dir = and_from _ _ (or_right _ _ (ap is_some found)) (not_from_false _ (ap (λ o. is_some (content_of o)) found ∙ dir))

holding : (tree : Tree) (c : Change) → Applies tree c → (a : Act) → IsIn a (acts_of tree c) → Holding tree c a
holding tree (Make node parent kind name) is a (inl e) = subst (Holding tree (Make node parent kind name)) e record { nodes = λ n none. absurd none; places = λ p there. there; dropped = λ n none. absurd none; moved = λ none. absurd (true≢false (sym none)) }
holding tree (Make node parent kind name) is a (inr none) = absurd none
holding tree (Put node offset contents) is a there = let found = there-from tree (Put node offset contents) is refl in
    elim (subst (λ o. IsIn a (act_of_node tree o (Put node offset contents))) found.1 there) [
      | inl e ↦ subst (Holding tree (Put node offset contents)) e record { nodes = λ n here. elim here [ inl at ↦ at | inr none ↦ absurd none ]; places = λ p none. absurd none; dropped = λ n none. absurd none; moved = λ none. absurd (true≢false (sym none)) }
      | inr none ↦ absurd none
    ]
holding tree (Cut node size pages) is a there = let found = there-from tree (Cut node size pages) is refl in
    elim (subst (λ o. IsIn a (act_of_node tree o (Cut node size pages))) found.1 there) [
      | inl e ↦ subst (Holding tree (Cut node size pages)) e record { nodes = λ n here. elim here [ inl at ↦ at | inr none ↦ absurd none ]; places = λ p none. absurd none; dropped = λ n none. absurd none; moved = λ none. absurd (true≢false (sym none)) }
      | inr none ↦ absurd none
    ]
holding tree (Move node parent name) is a there = let found = there-from tree (Move node parent name) is refl in moved found.0 found.1 (is_some (found.0).content) refl (subst (λ o. IsIn a (act_of_node tree o (Move node parent name))) found.1 there)
  where
    moved : (n : Node) → node_at tree node ≡ Some n → (b : Bool) → is_some n.content ≡ b
        → IsIn a ((if is_some n.content then moves_file node (place n.parent n.name) (place parent name) else moves_directory node (place n.parent n.name) (place parent name)) ∷ []) → Holding tree (Move node parent name) a
    moved n found true file (inl e) = subst (Holding tree (Move node parent name)) (ap (λ b. if b then moves_file node (place n.parent n.name) (place parent name) else moves_directory node (place n.parent n.name) (place parent name)) (sym file) ∙ e) record {
      nodes = λ m here. elim here [ inl at ↦ at | inr none ↦ absurd none ];
      places = λ p here. subst (λ o. IsIn p (place_of o ++ place parent name ∷ [])) (sym found) here;
      dropped = λ m none. absurd none;
      moved = λ none. absurd (true≢false (sym none));
    }
    moved n found false dir (inl e) = subst (Holding tree (Move node parent name)) (ap (λ b. if b then moves_file node (place n.parent n.name) (place parent name) else moves_directory node (place n.parent n.name) (place parent name)) (sym dir) ∙ e) record {
      nodes = λ m here. elim here [ inl at ↦ at | inr none ↦ absurd none ];
      places = λ p here. subst (λ o. IsIn p (place_of o ++ place parent name ∷ [])) (sym found) here;
      dropped = λ m none. absurd none;
      moved = λ yes'. rw (is-directory tree node n found dir) (inl refl);
    }
    moved n found b is (inr none) = absurd none
holding tree (Drop node) is a there = let found = there-from tree (Drop node) is refl in dropped found.0 found.1 (is_some (found.0).content) refl (subst (λ o. IsIn a (act_of_node tree o (Drop node))) found.1 there)
  where
    dropped : (n : Node) → node_at tree node ≡ Some n → (b : Bool) → is_some n.content ≡ b
        → IsIn a ((if is_some n.content then deletes node (place n.parent n.name) else drops_directory node (place n.parent n.name)) ∷ []) → Holding tree (Drop node) a
    dropped n found true file (inl e) = subst (Holding tree (Drop node)) (ap (λ b. if b then deletes node (place n.parent n.name) else drops_directory node (place n.parent n.name)) (sym file) ∙ e) record {
      nodes = λ m here. elim here [ inl at ↦ at | inr none ↦ absurd none ];
      places = λ p here. subst (λ o. IsIn p (place_of o)) (sym found) here;
      dropped = λ m none. absurd none;
      moved = λ none. absurd (true≢false (sym none));
    }
    dropped n found false dir (inl e) = subst (Holding tree (Drop node)) (ap (λ b. if b then deletes node (place n.parent n.name) else drops_directory node (place n.parent n.name)) (sym dir) ∙ e) record {
      nodes = λ m here. elim here [ inl at ↦ at | inr none ↦ absurd none ];
      places = λ p here. subst (λ o. IsIn p (place_of o)) (sym found) here;
      dropped = λ m here. rw (is-directory tree node n found dir) here;
      moved = λ none. absurd (true≢false (sym none));
    }
    dropped n found b is (inr none) = absurd none

-- what the acts of changes in order show that these hold
record HoldingAll (tree : Tree) (cs : List Change) (a : Act) : Type 0 where
  nodes : (n : ℕ) → IsIn n (nodes_changed a) → IsIn n (map node_of cs)
  places : (p : Place) → IsIn p (places_changed a) → IsIn p (each_change places_of tree cs)
  dropped : (n : ℕ) → IsIn n (directory_dropped a) → IsIn n (each_change dropped_directory tree cs)
  moved : is_move_of_directory a ≡ true → (n : ℕ) × IsIn n (each_change moved_directory tree cs)

holding-all : (cs : List Change) (tree : Tree) → changes_apply tree cs ≡ true → (a : Act) → IsIn a (acts_of_all tree cs) → HoldingAll tree cs a
holding-all [] tree all a there = absurd there
holding-all (c ∷ cs) tree all a there =
    let parts = and_parts (applies tree c) (changes_apply (changed tree c) cs) all in
    elim (IsIn-cases a (acts_of tree c) (acts_of_all (changed tree c) cs) there) [
      | inl here ↦ let h = holding tree c (Applies-from tree c parts.0) a here in record {
        nodes = λ n is. inl (h.nodes n is);
        places = λ p is. IsIn-left p (places_of tree c) _ (h.places p is);
        dropped = λ n is. IsIn-left n (dropped_directory tree c) _ (h.dropped n is);
        moved = λ is. (node_of c, IsIn-left (node_of c) (moved_directory tree c) _ (h.moved is));
      }
      | inr later ↦ let h = holding-all cs (changed tree c) parts.1 a later in record {
        nodes = λ n is. inr (h.nodes n is);
        places = λ p is. IsIn-right p (places_of tree c) _ (h.places p is);
        dropped = λ n is. IsIn-right n (dropped_directory tree c) _ (h.dropped n is);
        moved = λ is. let m = h.moved is in (m.0, IsIn-right m.0 (moved_directory tree c) _ m.1);
      }
    ]

-- changes that are apart from others meet nothing that those hold
pub apart-missed : (tree : Tree) (bs cs : List Change) → changes_apply tree cs ≡ true → AreFootprintsApart (footprint tree cs) (footprint tree bs) → list_any (meets (holds_by tree bs [])) (acts_of_all tree cs) ≡ false
unfolding meets
apart-missed tree bs cs all apart = none-from (meets (holds_by tree bs [])) (acts_of_all tree cs) (λ a there. let h = holding-all cs tree all a there in
    or_from _ _ (or_from _ _ (or_from _ _ (or_from _ _
    (none-from (is_in (map node_of bs ++ [])) (nodes_changed a) (λ n here. none-from (λ m. m == n) (map node_of bs ++ []) (λ m theirs. ne_eqb m n (λ e. apart.nodes n (h.nodes n here) (subst (λ k. IsIn k (map node_of bs)) e (bare (map node_of bs) m theirs))))))
    (none-from (is_place_in (each_change places_of tree bs)) (places_changed a) (λ p here. none-from (same_place p) (each_change places_of tree bs) (λ q theirs. apart.places p q (h.places p here) theirs))))
    (none-from (is_in (each_change dropped_directory tree bs)) (directories_of (places_changed a)) (λ n here. none-from (λ m. m == n) (each_change dropped_directory tree bs) (λ m theirs.
    let p = IsIn-unmap (λ (p : Place). p.directory) n (places_changed a) here in ne_eqb m n (λ e. apart.right_stays m p.0 theirs (h.places p.0 p.2) (e ∙ sym p.1))))))
    (none-from (is_in (directories_of (each_change places_of tree bs))) (directory_dropped a) (λ n here. none-from (λ m. m == n) (directories_of (each_change places_of tree bs)) (λ m theirs.
    let p = IsIn-unmap (λ (p : Place). p.directory) m (each_change places_of tree bs) theirs in ne_eqb m n (λ e. apart.left_stays n p.0 (h.dropped n here) p.2 (sym e ∙ sym p.1))))))
    (false_from_ne_true _ (λ both.
    let parts = and_parts (is_move_of_directory a) (list_any (λ (n : ℕ). true) (each_change moved_directory tree bs)) both in
    let mine = h.moved parts.0 in
    let theirs = IsIn-first (each_change moved_directory tree bs) parts.1 in
    apart.moves mine.0 theirs.0 mine.1 theirs.1)))
  where
    bare : (ns : List ℕ) (n : ℕ) → IsIn n (ns ++ []) → IsIn n ns
    bare ns n there = elim (IsIn-cases n ns [] there) [ inl here ↦ here | inr none ↦ absurd none ]

-- ---- holds that are apart, as tests and as facts

pub are_apart-from : (tree : Tree) (bs cs : List Change) → AreFootprintsApart (footprint tree bs) (footprint tree cs) → are_apart (holds_by tree bs []) (holds_by tree cs []) ≡ true
are_apart-from tree bs cs apart =
    and_from _ _ (and_from _ _ (and_from _ _
    (not_from_false _ (none-from (is_in (map node_of cs ++ [])) (map node_of bs ++ []) (λ n there. none-from (λ m. m == n) (map node_of cs ++ []) (λ m there'. ne_eqb m n (λ e.
    apart.nodes n (plain (map node_of bs) n there) (subst (λ k. IsIn k (map node_of cs)) e (plain (map node_of cs) m there')))))))
    (not_from_false _ (none-from (is_place_in (each_change places_of tree cs)) (each_change places_of tree bs) (λ p there. none-from (same_place p) (each_change places_of tree cs) (λ q there'. apart.places p q there there')))))
    (not_from_false _ (none-from (is_in (directories_of (each_change places_of tree cs))) (each_change dropped_directory tree bs) (λ n there. none-from (λ m. m == n) (directories_of (each_change places_of tree cs)) (λ m there'.
    let from = IsIn-unmap (λ (p : Place). p.directory) m (each_change places_of tree cs) there' in ne_eqb m n (λ e. apart.left_stays n from.0 there from.2 (sym e ∙ sym from.1)))))))
    (not_from_false _ (false_from_ne_true _ (λ both.
    let parts = and_parts (list_any (λ (n : ℕ). true) (each_change moved_directory tree bs)) (list_any (λ (n : ℕ). true) (each_change moved_directory tree cs)) both in
    let n = IsIn-first (each_change moved_directory tree bs) parts.0 in
    let m = IsIn-first (each_change moved_directory tree cs) parts.1 in
    apart.moves n.0 m.0 n.1 m.1)))
  where
    plain : (ns : List ℕ) (n : ℕ) → IsIn n (ns ++ []) → IsIn n ns
    plain ns n there = elim (IsIn-cases n ns [] there) [ inl here ↦ here | inr none ↦ absurd none ]

pub are_apart-to : (tree : Tree) (bs cs : List Change) → are_apart (holds_by tree bs []) (holds_by tree cs []) ≡ true → are_apart (holds_by tree cs []) (holds_by tree bs []) ≡ true
    → AreFootprintsApart (footprint tree bs) (footprint tree cs)
are_apart-to tree bs cs apart apart' =
    let d = and_parts _ (not (list_any (λ (n : ℕ). true) (each_change moved_directory tree bs) && list_any (λ (n : ℕ). true) (each_change moved_directory tree cs))) apart in
    let c = and_parts _ (not (meet_in (each_change dropped_directory tree bs) (directories_of (each_change places_of tree cs)))) d.0 in
    let b = and_parts (not (meet_in (map node_of bs ++ []) (map node_of cs ++ []))) (not (list_any (is_place_in (each_change places_of tree cs)) (each_change places_of tree bs))) c.0 in
    let d' = and_parts _ (not (list_any (λ (n : ℕ). true) (each_change moved_directory tree cs) && list_any (λ (n : ℕ). true) (each_change moved_directory tree bs))) apart' in
    let c' = and_parts _ (not (meet_in (each_change dropped_directory tree cs) (directories_of (each_change places_of tree bs)))) d'.0 in
    record {
      nodes = λ n there there'. meets-not (map node_of bs ++ []) (map node_of cs ++ []) (not-true _ b.0) n (IsIn-left n _ [] there) (IsIn-left n _ [] there');
      places = λ p q there there'. no_test (same_place p) q (each_change places_of tree cs) (no_test (is_place_in (each_change places_of tree cs)) p (each_change places_of tree bs) (not-true _ b.1) there) there';
      left_stays = λ n p there there' e.
          meets-not (each_change dropped_directory tree bs) (directories_of (each_change places_of tree cs)) (not-true _ c.1) n there
          (subst (λ m. IsIn m (directories_of (each_change places_of tree cs))) (sym e) (IsIn-map (λ (p : Place). p.directory) p _ there'));
      right_stays = λ n p there' there e.
          meets-not (each_change dropped_directory tree cs) (directories_of (each_change places_of tree bs)) (not-true _ c'.1) n there'
          (subst (λ m. IsIn m (directories_of (each_change places_of tree bs))) (sym e) (IsIn-map (λ (p : Place). p.directory) p _ there));
      moves = λ n m there there'.
          true≢false (sym (and_from _ _ (list_any-from (λ (n : ℕ). true) (each_change moved_directory tree bs) n there refl) (list_any-from (λ (n : ℕ). true) (each_change moved_directory tree cs) m there' refl)) ∙ not-true _ d.1);
    }
