-- Lemmas on which node stands at which place, as a transaction sees it.
use Rattle.std.proofs.Common.{◌≡◌, ℕ, ◌<◌, ◌==◌, ◌&&◌, Bool, true, is_some, is_none, find, List, [], ◌∷◌, ◌++◌, take, drop, length, Option, Some, None, refl, sym, ap, ◌∙◌, arith, inl, inr}
use Rattle.std.specs.Prelude.{bytes_eq}
use Rattle.std.specs.List.{list_all}
use Rattle.std.specs.Option.{option_map}
use Rattle.std.proofs.lemmas.Bool.{cases_Bool, cases_eq, eq-eqb, ne_eqb, eqb-true, and_parts, and_from, true≢false}
use Rattle.std.proofs.lemmas.List.{append-nil, length-map, take_at, drop_at}
use Rattle.std.proofs.lemmas.Option.{none-some, same_Some}
use Rattle.std.proofs.lemmas.Slice.Eq.{bytes_eq-Decides}
use Rattle.ktm_base.specs.declared.limits.TheConstants.{MOST_NAME_BYTES}
use Rattle.ktm_base.specs.Names.{IsName, folded, folded_byte}
use Rattle.ktm_world.specs.declared.change.Change.{Change}
use Rattle.ktm_world.specs.declared.change.Change.TheVariants.{Make, Put, Cut, Move, Drop}
use Rattle.ktm_world.specs.declared.change.NodeKind.{NodeKind}
use Rattle.ktm_world.specs.declared.recorded.Node.{Node}
use Rattle.ktm_world.specs.Changes.{applies, changes_apply, changed, changed_all, new_content, node_of}
use Rattle.ktm_world.specs.Holds.{Place, place, each_change}
use Rattle.ktm_world.specs.Tree.{Tree, IsWellFormed, child_of, content_of, is_file, node_at, same_name}
use Rattle.txf_overlay.specs.OverlayState.{is_of_names, Seat}
use Rattle.txf_tree.specs.Places.{number_bytes}
use Rattle.txf_overlay.specs.Names.{place_bytes, place_in}
use Rattle.txf_overlay.specs.Nodes.{given, given_name, given_parent, kind_if, kind_in, last_of, if_of, made_kind}
use Rattle.txf_overlay.specs.Sight.{sight_of}
use Rattle.txf_overlay.specs.Views.{or_before, if_at, last_seat, left_by, seat, seats_of}
use Rattle.txf_tree.proofs.Digits.{length-number_bytes, number_bytes-one}
use Rattle.txf_overlay.proofs.Options.{or_none, or_some, or-assoc, or-nothing}
use Rattle.ktm_world.proofs.offered.Lookups.{Rises-from, remade}
use Rattle.txf_overlay.proofs.Trees.{Applies-from, at-All, fails-all, found-at, is_there-none, is_there-some, node_at-elsewhere, node_at-there, number-at}

-- ---- places by name

place-apart : (p q : Place) → place_bytes p ≡ place_bytes q → (p.directory ≡ q.directory) × (p.name ≡ q.name)
place-apart p q same =
    let p_8 = length-number_bytes p.directory in
    let q_8 = length-number_bytes q.directory in (
      number_bytes-one p.directory q.directory
          (sym (take_at (number_bytes p.directory) p.name 8 p_8) ∙ ap (take 8) same ∙ take_at (number_bytes q.directory) q.name 8 q_8),
      sym (drop_at (number_bytes p.directory) p.name 8 p_8) ∙ ap (drop 8) same ∙ drop_at (number_bytes q.directory) q.name 8 q_8,
    )

-- is the node that of the name in the directory
is_child : ℕ → List ℕ → Node → Bool
is_child directory name node = node.parent == directory && same_name node.name name

child-place : (directory : ℕ) (name : List ℕ) (n : Node) → is_child directory name n ≡ true → place_in n ≡ place_bytes (place directory name)
unfolding is_child
child-place directory name n is =
    let parts = and_parts (n.parent == directory) (same_name n.name name) is in
    let parent : n.parent ≡ directory = eqb-true n.parent directory parts.0 in
    let same : folded n.name ≡ folded name = (bytes_eq-Decides (folded n.name) (folded name)).0 parts.1 in
    λ i. number_bytes (parent i) ++ same i

place-child : (directory : ℕ) (name : List ℕ) (n : Node) → place_in n ≡ place_bytes (place directory name) → is_child directory name n ≡ true
unfolding is_child
place-child directory name n same =
    let parts = place-apart (place n.parent n.name) (place directory name) same in
    and_from (n.parent == directory) (same_name n.name name) (eq-eqb n.parent directory parts.0) ((bytes_eq-Decides (folded n.name) (folded name)).1 parts.1)

-- the first node at a place, which is under the folded name
child_at : Tree → ℕ → List ℕ → Option Node
child_at tree parent name = find (λ node. node.parent == parent && bytes_eq (folded node.name) name) tree

child-moved : (tree : Tree) (d e : ℕ) (a b : List ℕ) → place_bytes (place d a) ≡ place_bytes (place e b) → child_of tree d a ≡ child_of tree e b
unfolding child_at
child-moved tree d e a b same =
    let parts = place-apart (place d a) (place e b) same in
    let parent : d ≡ e = parts.0 in
    let name : folded a ≡ folded b = parts.1 in
    let moved : child_at tree d (folded a) ≡ child_at tree e (folded b) = λ i. child_at tree (parent i) (name i) in
    moved

-- ---- what stands at a place in a well-formed tree
pub there-child : (tree : Tree) (directory : ℕ) (name : List ℕ) (m : ℕ) (n : Node) → IsWellFormed tree → node_at tree m ≡ Some n
    → place_in n ≡ place_bytes (place directory name) → child_of tree directory name ≡ Some n
there-child tree directory name m n formed found at =
    child-moved tree directory n.parent name n.name (sym at) ∙ at-All (λ n. child_of tree n.parent n.name ≡ Some n) tree formed.one_each m n found

pub child-there : (tree : Tree) (directory : ℕ) (name : List ℕ) (n : Node) → IsWellFormed tree → child_of tree directory name ≡ Some n
    → (node_at tree n.number ≡ Some n) × (place_in n ≡ place_bytes (place directory name))
unfolding is_child
child-there tree directory name n formed found =
    let at = found-at (is_child directory name) tree n (Rises-from tree formed.rise) found in
    (at.1, child-place directory name n at.0)

pub child-nowhere : (tree : Tree) (directory : ℕ) (name : List ℕ) → child_of tree directory name ≡ None → (m : ℕ) (n : Node) → node_at tree m ≡ Some n
    → place_in n ≡ place_bytes (place directory name) → ⊥
unfolding is_child
child-nowhere tree directory name none m n found at =
    true≢false (sym (place-child directory name n at) ∙ fails-all (is_child directory name) tree none m n found)

-- no two nodes are at one place
pub record IsOneEach (tree : Tree) : Type 0 where
  pub one : (m m' : ℕ) (n n' : Node) → node_at tree m ≡ Some n → node_at tree m' ≡ Some n' → place_in n ≡ place_in n' → m ≡ m'

pub IsOneEach-from : (tree : Tree) → IsWellFormed tree → IsOneEach tree
IsOneEach-from tree formed = record {
  one = λ m m' n n' found found' same.
      let first = there-child tree n'.parent n'.name m n formed found same in
      let second = there-child tree n'.parent n'.name m' n' formed found' refl in
      let e : n ≡ n' = same_Some n n' (sym first ∙ second) in
      sym (number-at tree m n found) ∙ ap (λ (n : Node). n.number) e ∙ number-at tree m' n' found';
}

-- ---- one change

-- a change puts the node m, which it changes alone, where it gives, and from where it was
pub record Puts (t t' : Tree) (m : ℕ) (g : Option (List ℕ)) : Type 0 where
  pub here : (x : Node) → node_at t' m ≡ Some x → g ≡ Some (place_in x)
  pub made : (p : List ℕ) → g ≡ Some p → (x : Node) × (node_at t' m ≡ Some x) × (place_in x ≡ p)
  pub free : (p : List ℕ) → g ≡ Some p → (n : ℕ) (x : Node) → node_at t n ≡ Some x → place_in x ≡ p → ⊥
  pub elsewhere : (n : ℕ) → (m ≡ n → ⊥) → node_at t' n ≡ node_at t n

is_none-none : {X : Type 0} (o : Option X) → is_none o ≡ true → o ≡ None
is_none-none None is = refl
is_none-none (Some x) is = absurd (cc)

puts-make : (t : Tree) (node parent : ℕ) (kind : NodeKind) (name : List ℕ) → applies t (Make node parent kind name) ≡ true
    → Puts t (changed t (Make node parent kind name)) node (given (Make node parent kind name))
puts-make t node parent kind name is =
    let parts = Applies-from t (Make node parent kind name) is in
    let there = node_at-there t (Make node parent kind name) is node refl in
    record {
      here = λ x found. ap (λ (o : Option Node). option_map place_in o) (sym there ∙ found);
      made = λ p is. (record { number = node; parent = parent; name = name; content = new_content kind }, there, same_Some _ p is);
      free = λ p is n x found at. child-nowhere t parent name (is_none-none (child_of t parent name) parts.2) n x found (at ∙ sym (same_Some _ p is));
      elsewhere = λ n other. node_at-elsewhere t (Make node parent kind name) is n other;
    }

puts-move : (t : Tree) (node parent : ℕ) (name : List ℕ) → applies t (Move node parent name) ≡ true
    → Puts t (changed t (Move node parent name)) node (given (Move node parent name))
puts-move t node parent name is =
    let parts = Applies-from t (Move node parent name) is in
    let before = is_there-some t node parts.0 parts.1 in
    let there : node_at (changed t (Move node parent name)) node ≡ Some (record before.0 { parent = parent; name = name }) =
    node_at-there t (Move node parent name) is node refl ∙ ap (remade (Move node parent name)) before.1 in
    record {
      here = λ x found. ap (λ (o : Option Node). option_map place_in o) (sym there ∙ found);
      made = λ p is. (record before.0 { parent = parent; name = name }, there, same_Some _ p is);
      free = λ p is n x found at. child-nowhere t parent name (is_none-none (child_of t parent name) parts.3) n x found (at ∙ sym (same_Some _ p is));
      elsewhere = λ n other. node_at-elsewhere t (Move node parent name) is n other;
    }

puts-drop : (t : Tree) (node : ℕ) → applies t (Drop node) ≡ true → Puts t (changed t (Drop node)) node (given (Drop node))
puts-drop t node is = record {
  here = λ x found. absurd (none-some x (sym (node_at-there t (Drop node) is node refl) ∙ found));
  made = λ p is. absurd (none-some p is);
  free = λ p is n x found at. absurd (none-some p is);
  elsewhere = λ n other. node_at-elsewhere t (Drop node) is n other;
}

pub puts : (t : Tree) (c : Change) → is_of_names c ≡ true → applies t c ≡ true → Puts t (changed t c) (node_of c) (given c)
puts t (Make node parent kind name) names is = puts-make t node parent kind name is
puts t (Put node offset contents) names is = absurd (cc)
puts t (Cut node size pages) names is = absurd (cc)
puts t (Move node parent name) names is = puts-move t node parent name is
puts t (Drop node) names is = puts-drop t node is

-- the seat to which a node comes
abbrev pub come_to : ℕ → Option (List ℕ) → List Seat
come_to node None = []
come_to node (Some p) = record { place = p; node = Some node } ∷ []

pub seats-are : (t : Tree) (c : Change) → is_of_names c ≡ true → applies t c ≡ true → seats_of t c ≡ left_by (node_at t (node_of c)) ++ come_to (node_of c) (given c)
seats-are t (Make node parent kind name) names is =
    let parts = Applies-from t (Make node parent kind name) is in
    rw (is_there-none t node parts.0) refl
seats-are t (Put node offset contents) names is = absurd (cc)
seats-are t (Cut node size pages) names is = absurd (cc)
seats-are t (Move node parent name) names is = refl
seats-are t (Drop node) names is = sym (append-nil (left_by (node_at t node)))

-- ---- what the seats tell
pub last_seat-append : (ss ts : List Seat) (p : List ℕ) → last_seat (ss ++ ts) p ≡ or_before (last_seat ts p) (last_seat ss p)
last_seat-append [] ts p = sym (or-nothing (last_seat ts p))
last_seat-append (s ∷ ss) ts p =
    ap (λ o. or_before o (if_at p s)) (last_seat-append ss ts p) ∙ sym (or-assoc (last_seat ts p) (last_seat ss p) (if_at p s))

at-if : (p : List ℕ) (s : Seat) (o : Option ℕ) → if_at p s ≡ Some o → (s.place ≡ p) × (s.node ≡ o)
at-if p s o is = elim (cases_Bool (bytes_eq s.place p)) [
  | inl same ↦ ((bytes_eq-Decides s.place p).0 same, same_Some s.node o (rw same at is))
  | inr other ↦ absurd (none-some o (rw other at is))
]

not-if : (p : List ℕ) (s : Seat) → if_at p s ≡ None → s.place ≡ p → ⊥
not-if p s none at = none-some s.node (sym none ∙ rw ((bytes_eq-Decides s.place p).1 at) refl)

pub come-some : (m : ℕ) (g : Option (List ℕ)) (p : List ℕ) (o : Option ℕ) → last_seat (come_to m g) p ≡ Some o → (Some m ≡ o) × (g ≡ Some p)
come-some m None p o is = absurd (none-some o is)
come-some m (Some q) p o is = let at = at-if p (record { place = q; node = Some m }) o is in (at.1, ap Some at.0)

come-none : (m : ℕ) (g : Option (List ℕ)) (p : List ℕ) → last_seat (come_to m g) p ≡ None → g ≡ Some p → ⊥
come-none m None p none is = none-some p is
come-none m (Some q) p none is = not-if p (record { place = q; node = Some m }) none (same_Some q p is)

pub left-some : (w : Option Node) (p : List ℕ) (o : Option ℕ) → last_seat (left_by w) p ≡ Some o → (None ≡ o) × ((y : Node) × (w ≡ Some y) × (place_in y ≡ p))
left-some None p o is = absurd (none-some o is)
left-some (Some y) p o is = let at = at-if p (seat (place y.parent y.name) None) o is in (at.1, (y, refl, at.0))

left-none : (w : Option Node) (p : List ℕ) → last_seat (left_by w) p ≡ None → (y : Node) → w ≡ Some y → place_in y ≡ p → ⊥
left-none None p none y is at = none-some y is
left-none (Some z) p none y is at = not-if p (seat (place z.parent z.name) None) none (ap place_in (same_Some z y is) ∙ at)

-- the node stands at the place
pub record IsAt (t : Tree) (p : List ℕ) (n : ℕ) : Type 0 where
  pub node : Node
  pub found : node_at t n ≡ Some node
  pub at : place_in node ≡ p

-- which nodes stand at the places of the seats in the second tree; at any other place stand those that stood there in the first one
pub record Seated (t t' : Tree) (ss : List Seat) : Type 0 where
  pub some : (p : List ℕ) (n : ℕ) → last_seat ss p ≡ Some (Some n) → IsAt t' p n
  pub none : (p : List ℕ) → last_seat ss p ≡ Some None → (n : ℕ) → IsAt t' p n → ⊥
  pub kept : (p : List ℕ) → last_seat ss p ≡ None → (n : ℕ) (x : Node) → node_at t' n ≡ Some x → place_in x ≡ p → node_at t n ≡ Some x
  pub back : (p : List ℕ) → last_seat ss p ≡ None → (n : ℕ) (x : Node) → node_at t n ≡ Some x → place_in x ≡ p → node_at t' n ≡ Some x

seated-one : (t t' : Tree) (m : ℕ) (g : Option (List ℕ)) → Puts t t' m g → IsOneEach t → Seated t t' (left_by (node_at t m) ++ come_to m g)
seated-one t t' m g puts one = record {
  some = λ p n last. elim (or_some _ _ (Some n) (split p last)) [
    | inl come ↦
        let is = come-some m g p (Some n) come in
        let made = puts.made p is.1 in
        let same : m ≡ n = same_Some m n is.0 in
        record { node = made.0; found = ap (node_at t') (sym same) ∙ made.1; at = made.2 }
    | inr left ↦ absurd (none-some n (left-some (node_at t m) p (Some n) left.1).0)
  ];
  none = λ p last n at. elim (or_some _ _ None (split p last)) [
    | inl come ↦ none-some m (sym (come-some m g p None come).0)
    | inr left ↦
        let was = (left-some (node_at t m) p None left.1).1 in
        elim (cases_eq m n) [
          | inl same ↦ come-none m g p left.0 (puts.here at.node (ap (node_at t') same ∙ at.found) ∙ ap Some at.at)
          | inr other ↦ other (one.one m n was.0 at.node was.1 (sym (puts.elsewhere n other) ∙ at.found) (was.2 ∙ sym at.at))
        ]
  ];
  kept = λ p last n x found at. let both = or_none _ _ (split p last) in
      elim (cases_eq m n) [
        | inl same ↦ absurd (come-none m g p both.0 (puts.here x (ap (node_at t') same ∙ found) ∙ ap Some at))
        | inr other ↦ sym (puts.elsewhere n other) ∙ found
      ];
  back = λ p last n x found at. let both = or_none _ _ (split p last) in
      elim (cases_eq m n) [
        | inl same ↦ absurd (left-none (node_at t m) p both.1 x (ap (node_at t) same ∙ found) at)
        | inr other ↦ puts.elsewhere n other ∙ found
      ];
}
  where
    split : {s : Option (Option ℕ)} (p : List ℕ) → last_seat (left_by (node_at t m) ++ come_to m g) p ≡ s
        → or_before (last_seat (come_to m g) p) (last_seat (left_by (node_at t m)) p) ≡ s
    split p last = sym (last_seat-append (left_by (node_at t m)) (come_to m g) p) ∙ last

one-after : (t t' : Tree) (m : ℕ) (g : Option (List ℕ)) → Puts t t' m g → IsOneEach t → IsOneEach t'
one-after t t' m g puts one = record {
  one = λ a b n n' found found' same. elim (cases_eq m a) [
    | inl at_a ↦ elim (cases_eq m b) [
      | inl at_b ↦ sym at_a ∙ at_b
      | inr other ↦
          absurd (puts.free (place_in n) (puts.here n (ap (node_at t') at_a ∙ found)) b n' (sym (puts.elsewhere b other) ∙ found') (sym same))
    ]
    | inr other ↦ elim (cases_eq m b) [
      | inl at_b ↦
          absurd (puts.free (place_in n') (puts.here n' (ap (node_at t') at_b ∙ found')) a n (sym (puts.elsewhere a other) ∙ found) same)
      | inr other' ↦ one.one a b n n' (sym (puts.elsewhere a other) ∙ found) (sym (puts.elsewhere b other') ∙ found') same
    ]
  ];
}

seated-then : (t t' t'' : Tree) (ss ts : List Seat) → Seated t t' ss → Seated t' t'' ts → Seated t t'' (ss ++ ts)
seated-then t t' t'' ss ts first second = record {
  some = λ p n last. elim (or_some _ _ (Some n) (split p last)) [
    | inl later ↦ second.some p n later
    | inr earlier ↦
        let at = first.some p n earlier.1 in
        record { node = at.node; found = second.back p earlier.0 n at.node at.found at.at; at = at.at }
  ];
  none = λ p last n at. elim (or_some _ _ None (split p last)) [
    | inl later ↦ second.none p later n at
    | inr earlier ↦ first.none p earlier.1 n (record { node = at.node; found = second.kept p earlier.0 n at.node at.found at.at; at = at.at })
  ];
  kept = λ p last n x found at. let both = or_none _ _ (split p last) in first.kept p both.1 n x (second.kept p both.0 n x found at) at;
  back = λ p last n x found at. let both = or_none _ _ (split p last) in second.back p both.0 n x (first.back p both.1 n x found at) at;
}
  where
    split : {s : Option (Option ℕ)} (p : List ℕ) → last_seat (ss ++ ts) p ≡ s → or_before (last_seat ts p) (last_seat ss p) ≡ s
    split p last = sym (last_seat-append ss ts p) ∙ last

-- changes of names tell by their seats where nodes stand then
pub seated : (cs : List Change) (t : Tree) → list_all is_of_names cs ≡ true → changes_apply t cs ≡ true → IsOneEach t → Seated t (changed_all t cs) (each_change seats_of t cs)
seated [] t names all one = record {
  some = λ p n last. absurd (none-some (Some n) last);
  none = λ p last n at. none-some None last;
  kept = λ p last n x found at. found;
  back = λ p last n x found at. found;
}
seated (c ∷ cs) t names all one =
    let names' = and_parts (is_of_names c) (list_all is_of_names cs) names in
    let all' = and_parts (applies t c) (changes_apply (changed t c) cs) all in
    let puts_c = puts t c names'.0 all'.0 in
    let first : Seated t (changed t c) (seats_of t c) =
    rw (seats-are t c names'.0 all'.0) (seated-one t (changed t c) (node_of c) (given c) puts_c one) in
    seated-then t (changed t c) (changed_all (changed t c) cs) (seats_of t c) (each_change seats_of (changed t c) cs) first
    (seated cs (changed t c) names'.1 all'.1 (one-after t (changed t c) (node_of c) (given c) puts_c one))

-- ---- the child that is seen
abbrev number_of : Node → ℕ
number_of n = n.number

number_in : Option Node → Option ℕ
number_in o = option_map number_of o

at-child : (t : Tree) (directory : ℕ) (name : List ℕ) (n : ℕ) → IsWellFormed t → IsAt t (place_bytes (place directory name)) n → Some n ≡ number_in (child_of t directory name)
unfolding number_in
at-child t directory name n formed at =
    ap Some (sym (number-at t n at.node at.found)) ∙ sym (ap (option_map number_of) (there-child t directory name n at.node formed at.found at.at))

no-child : (t : Tree) (directory : ℕ) (name : List ℕ) → IsWellFormed t → ((n : ℕ) → IsAt t (place_bytes (place directory name)) n → ⊥) → None ≡ number_in (child_of t directory name)
unfolding number_in
no-child t directory name formed nowhere = go (child_of t directory name) refl
  where
    go : (o : Option Node) → child_of t directory name ≡ o → None ≡ option_map number_of o
    go None is = refl
    go (Some n) is =
        let at = child-there t directory name n formed is in
        absurd (nowhere n.number (record { node = n; found = at.0; at = at.1 }))

same-child : (t t' : Tree) (directory : ℕ) (name : List ℕ) → IsWellFormed t → IsWellFormed t'
    → ((n : ℕ) → IsAt t' (place_bytes (place directory name)) n → IsAt t (place_bytes (place directory name)) n)
    → ((n : ℕ) → IsAt t (place_bytes (place directory name)) n → IsAt t' (place_bytes (place directory name)) n)
    → number_in (child_of t directory name) ≡ number_in (child_of t' directory name)
unfolding number_in
same-child t t' directory name formed formed' kept back = go (child_of t directory name) refl
  where
    go : (o : Option Node) → child_of t directory name ≡ o → option_map number_of o ≡ number_in (child_of t' directory name)
    go None is = no-child t' directory name formed' (λ n at. let was = kept n at in child-nowhere t directory name is n was.node was.found was.at)
    go (Some n) is =
        let at = child-there t directory name n formed is in
        at-child t' directory name n.number formed' (back n.number (record { node = n; found = at.0; at = at.1 }))

-- the child at a place, by the seats
pub record ChildIs (t t' : Tree) (directory : ℕ) (name : List ℕ) (ss : List Seat) : Type 0 where
  pub some : (n : ℕ) → last_seat ss (place_bytes (place directory name)) ≡ Some (Some n) → Some n ≡ option_map number_of (child_of t' directory name)
  pub none : last_seat ss (place_bytes (place directory name)) ≡ Some None → None ≡ option_map number_of (child_of t' directory name)
  pub kept : last_seat ss (place_bytes (place directory name)) ≡ None
      → option_map number_of (child_of t directory name) ≡ option_map number_of (child_of t' directory name)

pub child-is : (t t' : Tree) (directory : ℕ) (name : List ℕ) (ss : List Seat) → IsWellFormed t → IsWellFormed t' → Seated t t' ss → ChildIs t t' directory name ss
unfolding number_in
child-is t t' directory name ss formed formed' seats = record {
  some = λ n last. at-child t' directory name n formed' (seats.some _ n last);
  none = λ last. no-child t' directory name formed' (λ n at. seats.none _ last n at);
  kept = λ last. same-child t t' directory name formed formed' (λ n at. record { node = at.node; found = seats.kept _ last n at.node at.found at.at; at = at.at })
      (λ n at. record { node = at.node; found = seats.back _ last n at.node at.found at.at; at = at.at });
}

-- ---- the last change of a node

-- the node is as this change left it, which applied to a tree
pub record LastIs (t' : Tree) (node : ℕ) (c : Change) : Type 0 where
  pub tree : Tree
  pub names : is_of_names c ≡ true
  pub applies : applies tree c ≡ true
  pub of : node_of c ≡ node
  pub left : node_at t' node ≡ node_at (changed tree c) node

if-of : (node : ℕ) (c d : Change) → if_of node c ≡ Some d → (c ≡ d) × (node_of c ≡ node)
if-of node c d is = elim (cases_Bool (node_of c == node)) [
  | inl same ↦ (same_Some c d (rw same at is), eqb-true (node_of c) node same)
  | inr other ↦ absurd (none-some d (rw other at is))
]

not-of : (node : ℕ) (c : Change) → if_of node c ≡ None → node_of c ≡ node → ⊥
not-of node c none same = none-some c (sym none ∙ rw (eq-eqb (node_of c) node same) refl)

-- a node that no change is of is as it was
pub untouched : (cs : List Change) (t : Tree) (node : ℕ) → changes_apply t cs ≡ true → last_of cs node ≡ None → node_at (changed_all t cs) node ≡ node_at t node
untouched [] t node all none = refl
untouched (c ∷ cs) t node all none =
    let all' = and_parts (applies t c) (changes_apply (changed t c) cs) all in
    let both = or_none (last_of cs node) (if_of node c) none in
    untouched cs (changed t c) node all'.1 both.0 ∙ node_at-elsewhere t c all'.0 node (not-of node c both.1)

pub last-is : (cs : List Change) (t : Tree) (node : ℕ) (c : Change) → list_all is_of_names cs ≡ true → changes_apply t cs ≡ true → last_of cs node ≡ Some c
    → LastIs (changed_all t cs) node c
last-is [] t node c names all last = absurd (none-some c last)
last-is (d ∷ cs) t node c names all last =
    let names' = and_parts (is_of_names d) (list_all is_of_names cs) names in
    let all' = and_parts (applies t d) (changes_apply (changed t d) cs) all in
    elim (or_some (last_of cs node) (if_of node d) c last) [
      | inl later ↦ last-is cs (changed t d) node c names'.1 all'.1 later
      | inr earlier ↦
          let is = if-of node d c earlier.1 in
          record {
            tree = t;
            names = ap is_of_names (sym is.0) ∙ names'.0;
            applies = ap (applies t) (sym is.0) ∙ all'.0;
            of = ap node_of (sym is.0) ∙ is.1;
            left = untouched cs (changed t d) node all'.1 earlier.0 ∙ ap (λ c. node_at (changed t c) node) is.0;
          }
    ]

-- where it is, by its last change
pub given-place : (t' : Tree) (node : ℕ) (c : Change) → LastIs t' node c → option_map place_in (node_at t' node) ≡ given c
given-place t' node c last = ap (option_map place_in) last.left ∙ go (node_at (changed last.tree c) node) refl
  where
    p : Puts last.tree (changed last.tree c) (node_of c) (given c)
    p = puts last.tree c last.names last.applies

    go : (o : Option Node) → node_at (changed last.tree c) node ≡ o → option_map place_in o ≡ given c
    go None is = no (given c) refl
      where
        no : (g : Option (List ℕ)) → given c ≡ g → None ≡ g
        no None none = refl
        no (Some q) some = absurd (let made = p.made q some in none-some made.0 (sym is ∙ ap (node_at (changed last.tree c)) (sym last.of) ∙ made.1))
    go (Some x) is = sym (p.here x (ap (node_at (changed last.tree c)) last.of ∙ is))

parent_of-given : (c : Change) (t : Tree) (x : Node) → is_of_names c ≡ true → applies t c ≡ true → node_at (changed t c) (node_of c) ≡ Some x → given_parent c ≡ Some x.parent
parent_of-given (Make node parent kind name) t x names is found =
    ap (λ (o : Option Node). option_map (λ n. n.parent) o) (sym (node_at-there t (Make node parent kind name) is node refl) ∙ found)
parent_of-given (Put node offset contents) t x names is found = absurd (cc)
parent_of-given (Cut node size pages) t x names is found = absurd (cc)
parent_of-given (Move node parent name) t x names is found =
    let parts = Applies-from t (Move node parent name) is in
    let before = is_there-some t node parts.0 parts.1 in
    ap (λ (o : Option Node). option_map (λ n. n.parent) o)
    (sym (node_at-there t (Move node parent name) is node refl ∙ ap (remade (Move node parent name)) before.1) ∙ found)
parent_of-given (Drop node) t x names is found = absurd (none-some x (sym (node_at-there t (Drop node) is node refl) ∙ found))

name_of-given : (c : Change) (t : Tree) (x : Node) → is_of_names c ≡ true → applies t c ≡ true → node_at (changed t c) (node_of c) ≡ Some x → given_name c ≡ Some x.name
name_of-given (Make node parent kind name) t x names is found =
    ap (λ (o : Option Node). option_map (λ n. n.name) o) (sym (node_at-there t (Make node parent kind name) is node refl) ∙ found)
name_of-given (Put node offset contents) t x names is found = absurd (cc)
name_of-given (Cut node size pages) t x names is found = absurd (cc)
name_of-given (Move node parent name) t x names is found =
    let parts = Applies-from t (Move node parent name) is in
    let before = is_there-some t node parts.0 parts.1 in
    ap (λ (o : Option Node). option_map (λ n. n.name) o)
    (sym (node_at-there t (Move node parent name) is node refl ∙ ap (remade (Move node parent name)) before.1) ∙ found)
name_of-given (Drop node) t x names is found = absurd (none-some x (sym (node_at-there t (Drop node) is node refl) ∙ found))

both-given : (c : Change) → given c ≡ None → given_parent c ≡ None
both-given (Make node parent kind name) none = absurd (cc)
both-given (Put node offset contents) none = refl
both-given (Cut node size pages) none = refl
both-given (Move node parent name) none = absurd (cc)
both-given (Drop node) none = refl

-- in which directory it is, by its last change
pub given-parent : (t' : Tree) (node : ℕ) (c : Change) → LastIs t' node c → given_parent c ≡ option_map (λ n. n.parent) (node_at t' node)
given-parent t' node c last = go (node_at t' node) refl
  where
    go : (o : Option Node) → node_at t' node ≡ o → given_parent c ≡ option_map (λ n. n.parent) o
    go None is = both-given c (sym (given-place t' node c last) ∙ ap (option_map place_in) is)
    go (Some x) is =
        parent_of-given c last.tree x last.names last.applies (ap (node_at (changed last.tree c)) last.of ∙ sym last.left ∙ is)

-- ---- the child that is found
pub child-held : (t t' : Tree) (directory : ℕ) (name : List ℕ) (ss : List Seat) (o : Option ℕ) → ChildIs t t' directory name ss
    → last_seat ss (place_bytes (place directory name)) ≡ Some o → o ≡ option_map (λ n. n.number) (child_of t' directory name)
child-held t t' directory name ss None is last = is.none last
child-held t t' directory name ss (Some n) is last = is.some n last

pub child-long : (t : Tree) (directory : ℕ) (name : List ℕ) → IsWellFormed t → MOST_NAME_BYTES < length name → None ≡ option_map (λ n. n.number) (child_of t directory name)
child-long t directory name formed long = go (child_of t directory name) refl
  where
    go : (o : Option Node) → child_of t directory name ≡ o → None ≡ option_map (λ (n : Node). n.number) o
    go None is = refl
    go (Some n) is =
        let at = child-there t directory name n formed is in
        let same : folded n.name ≡ folded name = (place-apart (place n.parent n.name) (place directory name) at.1).1 in
        let few = (at-All (λ n. IsName n.name) t formed.names n.number n at.0).few in
        absurd (omega (arith, long, few, sym (length-map n.name folded_byte) ∙ ap length same ∙ length-map name folded_byte))

-- ---- of which kind a node is

-- is it a file, by the kind as which it was made, or else as it was
abbrev pub file_or : Option NodeKind → Bool → Bool
file_or None was = was
file_or (Some kind) was = is_some (new_content kind)

gone-stays : (cs : List Change) (t : Tree) (node : ℕ) → list_all is_of_names cs ≡ true → changes_apply t cs ≡ true → made_kind cs node ≡ None → node_at t node ≡ None
    → node_at (changed_all t cs) node ≡ None
gone-stays [] t node names all none gone = gone
gone-stays (c ∷ cs) t node names all none gone =
    let names' = and_parts (is_of_names c) (list_all is_of_names cs) names in
    let all' = and_parts (applies t c) (changes_apply (changed t c) cs) all in
    let both = or_none (made_kind cs node) (kind_if node c) none in
    gone-stays cs (changed t c) node names'.1 all'.1 both.0 (elim (cases_eq (node_of c) node) [
      | inl same ↦ node_at-there t c all'.0 node same ∙ ap (remade c) gone ∙ still c same both.1
      | inr other ↦ node_at-elsewhere t c all'.0 node other ∙ gone
    ])
  where
    still : (c : Change) → node_of c ≡ node → kind_if node c ≡ None → remade c None ≡ None
    still (Make n parent kind name) same no_kind = absurd (none-some kind (sym no_kind ∙ rw (eq-eqb n node same) refl))
    still (Put n offset contents) same no_kind = refl
    still (Cut n size pages) same no_kind = refl
    still (Move n parent name) same no_kind = refl
    still (Drop n) same no_kind = refl

moved-kept : (t : Tree) (node : ℕ) (parent : ℕ) (name : List ℕ) → applies t (Move node parent name) ≡ true
    → is_some (content_of (node_at (changed t (Move node parent name)) node)) ≡ is_some (content_of (node_at t node))
moved-kept t node parent name is = ap (λ o. is_some (content_of o)) (node_at-there t (Move node parent name) is node refl) ∙ go (node_at t node)
  where
    go : (o : Option Node) → is_some (content_of (remade (Move node parent name) o)) ≡ is_some (content_of o)
    go None = refl
    go (Some x) = refl

one-kind : (c : Change) (t : Tree) → is_of_names c ≡ true → applies t c ≡ true → (is_some (node_at (changed t c) (node_of c)) ≡ true)
    → is_some (content_of (node_at (changed t c) (node_of c))) ≡ file_or (kind_in c) (is_file t (node_of c))
one-kind (Make node parent kind name) t names is there =
    ap (λ o. is_some (content_of o)) (node_at-there t (Make node parent kind name) is node refl)
one-kind (Put node offset contents) t names is there = absurd (cc)
one-kind (Cut node size pages) t names is there = absurd (cc)
one-kind (Move node parent name) t names is there = moved-kept t node parent name is
one-kind (Drop node) t names is there = absurd (true≢false (sym there ∙ ap is_some (node_at-there t (Drop node) is node refl)))

pub kind-is : (cs : List Change) (t : Tree) (node : ℕ) (x : Node) → list_all is_of_names cs ≡ true → changes_apply t cs ≡ true → node_at (changed_all t cs) node ≡ Some x
    → is_some x.content ≡ file_or (made_kind cs node) (is_file t node)
kind-is [] t node x names all found = sym (ap (λ o. is_some (content_of o)) found)
kind-is (c ∷ cs) t node x names all found =
    let names' = and_parts (is_of_names c) (list_all is_of_names cs) names in
    let all' = and_parts (applies t c) (changes_apply (changed t c) cs) all in
    kind-is cs (changed t c) node x names'.1 all'.1 found ∙ go names'.0 all'.0 (made_kind cs node) refl
    (λ none gone. none-some x (sym (gone-stays cs (changed t c) node names'.1 all'.1 none gone) ∙ found))
  where
    go : is_of_names c ≡ true → applies t c ≡ true → (o : Option NodeKind) → made_kind cs node ≡ o → (made_kind cs node ≡ None → node_at (changed t c) node ≡ None → ⊥)
        → file_or o (is_file (changed t c) node) ≡ file_or (or_before o (kind_if node c)) (is_file t node)
    go of_names is (Some kind) later there = refl
    go of_names is None later there = elim (cases_eq (node_of c) node) [
      | inl same ↦
          let some : is_some (node_at (changed t c) node) ≡ true = not_none (node_at (changed t c) node) (there later) in
          let one = one-kind c t of_names is (ap (λ n. is_some (node_at (changed t c) n)) same ∙ some) in
          sym (ap (λ n. is_some (content_of (node_at (changed t c) n))) same) ∙ one ∙ ap (λ n. file_or (kind_in c) (is_file t n)) same
          ∙ rw (eq-eqb (node_of c) node same) refl
      | inr other ↦ ap (λ o. is_some (content_of o)) (node_at-elsewhere t c is node other) ∙ rw (ne_eqb (node_of c) node other) refl
    ]
      where
        not_none : (o : Option Node) → (o ≡ None → ⊥) → is_some o ≡ true
        not_none None no_node = absurd (no_node refl)
        not_none (Some x) no_node = refl

-- ---- what is seen of a node
pub sight-some : (o : Option Node) (parent : ℕ) (file : Bool) → Some parent ≡ option_map (λ n. n.parent) o → ((n : Node) → o ≡ Some n → file ≡ is_some n.content)
    → Some (record { parent = parent; is_file = file }) ≡ option_map sight_of o
sight-some None parent file is kind = absurd (none-some parent (sym is))
sight-some (Some n) parent file is kind =
    let at : parent ≡ n.parent = same_Some parent n.parent is in
    let of : file ≡ is_some n.content = kind n refl in
    λ i. Some (record { parent = at i; is_file = of i })

pub sight-none : (o : Option Node) → None ≡ option_map (λ n. n.parent) o → None ≡ option_map sight_of o
sight-none None is = refl
sight-none (Some n) is = absurd (none-some n.parent is)

-- ---- nodes at held places

-- a node that stands at a held place was changed
pub seated-touched : (cs : List Change) (t : Tree) (p : List ℕ) (m : ℕ) → list_all is_of_names cs ≡ true → changes_apply t cs ≡ true
    → last_seat (each_change seats_of t cs) p ≡ Some (Some m) → last_of cs m ≡ None → ⊥
seated-touched [] t p m names all last none = none-some (Some m) last
seated-touched (c ∷ cs) t p m names all last none =
    let names' = and_parts (is_of_names c) (list_all is_of_names cs) names in
    let all' = and_parts (applies t c) (changes_apply (changed t c) cs) all in
    let both = or_none (last_of cs m) (if_of m c) none in
    elim (or_some _ _ (Some m) (sym (last_seat-append (seats_of t c) (each_change seats_of (changed t c) cs) p) ∙ last)) [
      | inl later ↦ seated-touched cs (changed t c) p m names'.1 all'.1 later both.0
      | inr earlier ↦
          let here : last_seat (left_by (node_at t (node_of c)) ++ come_to (node_of c) (given c)) p ≡ Some (Some m) =
          ap (λ ss. last_seat ss p) (sym (seats-are t c names'.0 all'.0)) ∙ earlier.1 in
          elim (or_some _ _ (Some m) (sym (last_seat-append (left_by (node_at t (node_of c))) (come_to (node_of c) (given c)) p) ∙ here)) [
            | inl come ↦
                let is = come-some (node_of c) (given c) p (Some m) come in
                not-of m c both.1 (same_Some (node_of c) m is.0)
            | inr left ↦ none-some m (left-some (node_at t (node_of c)) p (Some m) left.1).0
          ]
    ]

-- the node is seen, and its last change gave it its name
pub record IsOwnNode (cs : List Change) (t' : Tree) (m : ℕ) : Type 0 where
  pub node : Node
  pub found : node_at t' m ≡ Some node
  pub change : Change
  pub last : last_of cs m ≡ Some change
  pub name : given_name change ≡ Some node.name

pub own-node : (cs : List Change) (t : Tree) (p : List ℕ) (m : ℕ) → list_all is_of_names cs ≡ true → changes_apply t cs ≡ true → IsOneEach t
    → last_seat (each_change seats_of t cs) p ≡ Some (Some m) → IsOwnNode cs (changed_all t cs) m
own-node cs t p m names all one seat = go (last_of cs m) refl
  where
    here : IsAt (changed_all t cs) p m
    here = (seated cs t names all one).some p m seat

    go : (o : Option Change) → last_of cs m ≡ o → IsOwnNode cs (changed_all t cs) m
    go None none = absurd (seated-touched cs t p m names all seat none)
    go (Some c) is =
        let last = last-is cs t m c names all is in
        record {
          node = here.node;
          found = here.found;
          change = c;
          last = is;
          name = name_of-given c last.tree here.node last.names last.applies (ap (node_at (changed last.tree c)) last.of ∙ sym last.left ∙ here.found);
        }
