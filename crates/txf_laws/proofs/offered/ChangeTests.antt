-- What the tests of a change say, by lookups; and what of it stays when another node is changed.
use Rattle.std.proofs.Common.{◌≡◌, ℕ, ◌≤◌, ◌==◌, ◌&&◌, ◌||◌, not, Bool, true, false, is_none, is_some, List, [], ◌∷◌, map, length, find, Option, Some, None, refl, sym, ◌∙◌, ap, subst, arith, inl, inr, All}
use Rattle.std.proofs.lemmas.Bool.{cases_Bool, cases_eq, eq-eqb, eqb-true, eqb-false, and_parts, and_from, or_parts, not-true, not_from_false, true≢false, false_from_ne_true}
use Rattle.std.proofs.lemmas.List.Elements.{All-head, All-tail, All-cons, All-nil}
use Rattle.std.proofs.lemmas.Option.{none-some, same_Some}
use Rattle.std.specs.List.{list_any}
use Rattle.ktm_world.specs.declared.change.Change.{Change}
use Rattle.ktm_world.specs.declared.change.Change.TheVariants.{Make, Put, Cut, Move, Drop}
use Rattle.ktm_world.specs.declared.recorded.Node.{Node}
use Rattle.ktm_world.specs.Changes.{changed, changed_all, applies, changes_apply, node_of, is_drop, is_whole, is_empty_list, is_free, is_node_number}
use Rattle.ktm_world.specs.Paths.{is_name}
use Rattle.ktm_base.specs.Names.{IsName, folded}
use Rattle.std.specs.Bool.{⊤}
use Rattle.std.specs.Prelude.{bytes_eq}
use Rattle.std.proofs.lemmas.Slice.Eq.{bytes_eq-Decides}
use Rattle.std.proofs.lemmas.Cmp.{nat_list_eq_equiv}
use Rattle.txf_laws.specs.Elements.{IsIn}
use Rattle.txf_laws.proofs.Ways.{above, steps-from, is_at_or_below-from}
use Rattle.ktm_world.specs.Tree.{IsWellFormed, Tree, root, node_at, is_there, is_file, is_directory, is_at_or_below, child_of, has_entries, same_name, content_of}
use Rattle.ktm_world.proofs.offered.Lookups.{Rises, Fits, remade, node_at-elsewhere, node_at-there, node_at-below, Rises-from, numbers_rise-from}

-- ---- the tests of a change, one by one

abbrev pub Applies : Tree → Change → Type 0
Applies tree (Make node parent kind name) =
    (is_node_number node ≡ true) × (is_there tree node ≡ false) × (is_directory tree parent ≡ true) × (is_name name ≡ true) × (is_free tree parent name ≡ true)
Applies tree (Put node offset contents) = (is_file tree node ≡ true) × (is_whole contents ≡ true)
Applies tree (Cut node size pages) = (is_file tree node ≡ true) × (is_empty_list pages ≡ true)
Applies tree (Move node parent name) =
    ((node == root) ≡ false) × (is_there tree node ≡ true) × (is_directory tree parent ≡ true) × (is_at_or_below tree parent node ≡ false) × (is_name name ≡ true)
    × (is_free tree parent name ≡ true)
Applies tree (Drop node) = ((node == root) ≡ false) × (is_there tree node ≡ true) × (has_entries tree node ≡ false)

not-root : (number : ℕ) → not (number == root) ≡ true → (number == root) ≡ false
not-root number other = not-true _ other

pub Applies-from : (tree : Tree) (c : Change) → applies tree c ≡ true → Applies tree c
Applies-from tree (Make node parent kind name) is =
    let e = and_parts _ (is_free tree parent name) is in let d = and_parts _ (is_name name) e.0 in let c = and_parts _ (is_directory tree parent) d.0 in
    let b = and_parts (is_node_number node) (not (is_there tree node)) c.0 in
    (b.0, not-true _ b.1, c.1, d.1, e.1)
Applies-from tree (Put node offset contents) is = and_parts _ _ is
Applies-from tree (Cut node size pages) is = and_parts _ _ is
Applies-from tree (Move node parent name) is =
    let f = and_parts _ (is_free tree parent name) is in let e = and_parts _ (is_name name) f.0 in let d = and_parts _ (not (is_at_or_below tree parent node)) e.0 in
    let c = and_parts _ (is_directory tree parent) d.0 in let b = and_parts (not (node == root)) (is_there tree node) c.0 in
    (not-true _ b.0, b.1, c.1, not-true _ d.1, e.1, f.1)
Applies-from tree (Drop node) is =
    let c = and_parts _ (not (has_entries tree node)) is in let b = and_parts (not (node == root)) (is_there tree node) c.0 in
    (not-true _ b.0, b.1, not-true _ c.1)

pub applies-from : (tree : Tree) (c : Change) → Applies tree c → applies tree c ≡ true
applies-from tree (Make node parent kind name) is = and_from _ _ (and_from _ _ (and_from _ _ (and_from _ _ is.0 (not_from_false _ is.1)) is.2) is.3) is.4
applies-from tree (Put node offset contents) is = and_from _ _ is.0 is.1
applies-from tree (Cut node size pages) is = and_from _ _ is.0 is.1
applies-from tree (Move node parent name) is =
    and_from _ _ (and_from _ _ (and_from _ _ (and_from _ _ (and_from _ _ (not_from_false _ is.0) is.1) is.2) (not_from_false _ is.3)) is.4) is.5
applies-from tree (Drop node) is = and_from _ _ (and_from _ _ (not_from_false _ is.0) is.1) (not_from_false _ is.2)

-- a change that makes a node fits where it applies
pub is_there-none : (tree : Tree) (number : ℕ) → is_there tree number ≡ false → node_at tree number ≡ None
is_there-none tree number gone = go (node_at tree number) (or_parts (number == root) (is_some (node_at tree number)) gone).1
  where
    go : (o : Option Node) → is_some o ≡ false → o ≡ None
    go None e = refl
    go (Some node) e = absurd (cc)

pub Fits-from : (tree : Tree) (c : Change) → Applies tree c → Fits tree c
Fits-from tree (Make node parent kind name) is made = is_there-none tree node is.1
Fits-from tree (Put node offset contents) is made = absurd (cc)
Fits-from tree (Cut node size pages) is made = absurd (cc)
Fits-from tree (Move node parent name) is made = absurd (cc)
Fits-from tree (Drop node) is made = absurd (cc)

-- ---- what holds of each node, and of each lookup

pub at-All : (P : Node → Type 0) (tree : Tree) → All P tree → (m : ℕ) (node : Node) → node_at tree m ≡ Some node → P node
at-All P [] all m node found = absurd (none-some node found)
at-All P (x ∷ xs) all m node found = elim (cases_Bool (x.number == m)) [
  | inl is ↦ let e : x ≡ node = same_Some x node (rw is at found) in rw e at (All-head P x xs all)
  | inr other ↦ at-All P xs (All-tail P x xs all) m node (rw other at found)
]

pub number-at : (tree : Tree) (m : ℕ) (node : Node) → node_at tree m ≡ Some node → node.number ≡ m
number-at [] m node found = absurd (none-some node found)
number-at (x ∷ xs) m node found = elim (cases_Bool (x.number == m)) [
  | inl is ↦ let e : x ≡ node = same_Some x node (rw is at found) in rw e at (eqb-true _ _ is)
  | inr other ↦ number-at xs m node (rw other at found)
]

pub All-at : (P : Node → Type 0) (tree : Tree) → Rises tree → ((m : ℕ) (node : Node) → node_at tree m ≡ Some node → P node) → All P tree
All-at P [] rises each = All-nil P
All-at P (x ∷ xs) rises each =
    All-cons P x xs (each x.number x (rw (eq-eqb x.number x.number refl) refl))
    (All-at P xs rises.1 (λ m node found. elim (cases_Bool (x.number == m)) [
      | inl is ↦ absurd (none-some node (sym (node_at-below xs x.number m rises.0 (omega (arith, eqb-true _ _ is))) ∙ found))
      | inr other ↦ each m node (rw other found)
    ]))

-- ---- names and entries

pub NoneAt-from_find : (test : Node → Bool) (tree : Tree) → is_none (find test tree) ≡ true → All (λ node. test node ≡ false) tree
NoneAt-from_find test [] none = All-nil (λ node. test node ≡ false)
NoneAt-from_find test (x ∷ xs) none = elim (cases_Bool (test x)) [
  | inl is ↦ absurd (true≢false (sym none ∙ rw is refl))
  | inr not' ↦ All-cons (λ node. test node ≡ false) x xs not' (NoneAt-from_find test xs (rw not' at none))
]

pub find-from_NoneAt : (test : Node → Bool) (tree : Tree) → All (λ node. test node ≡ false) tree → is_none (find test tree) ≡ true
find-from_NoneAt test [] none = refl
find-from_NoneAt test (x ∷ xs) none = rw (All-head (λ node. test node ≡ false) x xs none) (find-from_NoneAt test xs (All-tail (λ node. test node ≡ false) x xs none))

pub NoneAt-from_any : (test : Node → Bool) (tree : Tree) → list_any test tree ≡ false → All (λ node. test node ≡ false) tree
NoneAt-from_any test [] none = All-nil (λ node. test node ≡ false)
NoneAt-from_any test (x ∷ xs) none =
    let parts = or_parts (test x) (list_any test xs) none in All-cons (λ node. test node ≡ false) x xs parts.0 (NoneAt-from_any test xs parts.1)

-- what holds of the parent and the name that a change gives its node
abbrev pub Gives : Change → (ℕ → List ℕ → Type 0) → Type 0
Gives (Make node parent kind name) P = P parent name
Gives (Put node offset contents) P = ⊤
Gives (Cut node size pages) P = ⊤
Gives (Move node parent name) P = P parent name
Gives (Drop node) P = ⊤

-- the node that a change leaves has the parent and name that it gives, or those that it had
pub remade-holds : (P : ℕ → List ℕ → Type 0) (c : Change) (old : Option Node) (n : Node) → remade c old ≡ Some n
    → Gives c P → ((o : Node) → old ≡ Some o → P o.parent o.name) → P n.parent n.name
remade-holds P (Make node parent kind name) old n is new kept = subst (λ (x : Node). P x.parent x.name) (same_Some _ n is) new
remade-holds P (Put node offset contents) None n is new kept = absurd (none-some n is)
remade-holds P (Put node offset contents) (Some o) n is new kept = subst (λ (x : Node). P x.parent x.name) (same_Some _ n is) (kept o refl)
remade-holds P (Cut node size pages) None n is new kept = absurd (none-some n is)
remade-holds P (Cut node size pages) (Some o) n is new kept = subst (λ (x : Node). P x.parent x.name) (same_Some _ n is) (kept o refl)
remade-holds P (Move node parent name) None n is new kept = absurd (none-some n is)
remade-holds P (Move node parent name) (Some o) n is new kept = subst (λ (x : Node). P x.parent x.name) (same_Some _ n is) new
remade-holds P (Drop node) old n is new kept = absurd (none-some n is)

-- what holds of each node's parent and name, and of those that the change gives, holds afterwards
pub holds-after : (P : ℕ → List ℕ → Type 0) (tree : Tree) (c : Change) → Fits tree c → Gives c P
    → ((m : ℕ) (n : Node) → node_at tree m ≡ Some n → P n.parent n.name) → (m : ℕ) (n : Node) → node_at (changed tree c) m ≡ Some n → P n.parent n.name
holds-after P tree c fits new old m n found = elim (cases_eq (node_of c) m) [
  | inl is ↦ remade-holds P c (node_at tree (node_of c)) n (sym (node_at-there tree c fits) ∙ ap (node_at (changed tree c)) is ∙ found) new (λ o there. old (node_of c) o there)
  | inr other ↦ old m n (sym (node_at-elsewhere tree c fits m other) ∙ found)
]

-- ---- trees by their lookups

pub record Good (tree : Tree) : Type 0 where
  pub rises : Rises tree
  pub numbers : (m : ℕ) (n : Node) → node_at tree m ≡ Some n → 2 ≤ m
  pub parents : (m : ℕ) (n : Node) → node_at tree m ≡ Some n → is_directory tree n.parent ≡ true
  pub reach : (m : ℕ) (n : Node) → node_at tree m ≡ Some n → (k : ℕ) × (k ≤ length tree) × (above tree m k ≡ root)
  pub names : (m : ℕ) (n : Node) → node_at tree m ≡ Some n → IsName n.name
  pub one_each : (m m' : ℕ) (n n' : Node) → node_at tree m ≡ Some n → node_at tree m' ≡ Some n' → (n'.parent == n.parent && same_name n'.name n.name) ≡ true → m' ≡ m

-- the first node at a place, which is under the folded name
child_at : Tree → ℕ → List ℕ → Option Node
child_at tree parent name = find (λ node. node.parent == parent && bytes_eq (folded node.name) name) tree

same_child : (tree : Tree) (n n' : Node) → (n'.parent == n.parent && same_name n'.name n.name) ≡ true → child_of tree n.parent n.name ≡ Some n → child_of tree n'.parent n'.name ≡ Some n' → n' ≡ n
unfolding child_at
same_child tree n n' at is is' =
    let parts = and_parts (n'.parent == n.parent) (same_name n'.name n.name) at in
    let parent : n'.parent ≡ n.parent = eqb-true _ _ parts.0 in
    let name : folded n'.name ≡ folded n.name = (bytes_eq-Decides (folded n'.name) (folded n.name)).0 parts.1 in
    let moved : child_at tree n'.parent (folded n'.name) ≡ child_at tree n.parent (folded n.name) = λ i. child_at tree (parent i) (name i) in
    same_Some n' n (sym is' ∙ moved ∙ is)

pub Good-from : (tree : Tree) → IsWellFormed tree → Good tree
Good-from tree formed = record {
  rises = Rises-from tree formed.rise;
  numbers = λ m n found. rw (number-at tree m n found) at (at-All (λ n. 2 ≤ n.number) tree formed.numbers m n found);
  parents = at-All (λ n. is_directory tree n.parent ≡ true) tree formed.parents;
  reach = λ m n found. steps-from tree m root (rw (number-at tree m n found) at (at-All (λ n. is_at_or_below tree n.number root ≡ true) tree formed.reach m n found));
  names = at-All (λ n. IsName n.name) tree formed.names;
  one_each = λ m m' n n' found found' at.
      let e : n' ≡ n = same_child tree n n' at (at-All (λ n. child_of tree n.parent n.name ≡ Some n) tree formed.one_each m n found) (at-All (λ n. child_of tree n.parent n.name ≡ Some n) tree formed.one_each m' n' found') in
      sym (number-at tree m' n' found') ∙ ap (λ (x : Node). x.number) e ∙ number-at tree m n found;
}

find-unique : (test : Node → Bool) (tree : Tree) → Rises tree → (m : ℕ) (n : Node) → node_at tree m ≡ Some n → test n ≡ true
    → ((m' : ℕ) (n' : Node) → node_at tree m' ≡ Some n' → test n' ≡ true → m' ≡ m) → find test tree ≡ Some n
find-unique test [] rises m n found pass only = absurd (none-some n found)
find-unique test (x ∷ xs) rises m n found pass only = elim (cases_Bool (x.number == m)) [
  | inl is ↦ let e : x ≡ n = same_Some x n (rw is at found) in rw e (rw pass refl)
  | inr other ↦
      let fails : test x ≡ false = false_from_ne_true (test x) (λ passes. eqb-false _ _ other (only x.number x (rw (eq-eqb x.number x.number refl) refl) passes)) in
      rw fails (find-unique test xs rises.1 m n (rw other at found) pass (λ m' n' found' passes. elim (cases_Bool (x.number == m')) [
        | inl is ↦ absurd (none-some n' (sym (node_at-below xs x.number m' rises.0 (omega (arith, eqb-true _ _ is))) ∙ found'))
        | inr differs ↦ only m' n' (rw differs found') passes
      ]))
]

pub IsWellFormed-from : (tree : Tree) → Good tree → IsWellFormed tree
IsWellFormed-from tree good = record {
  parents = All-at (λ n. is_directory tree n.parent ≡ true) tree good.rises good.parents;
  reach = All-at (λ n. is_at_or_below tree n.number root ≡ true) tree good.rises (λ m n found.
      let way = good.reach m n found in rw (number-at tree m n found) (is_at_or_below-from tree m root way.0 way.2 way.1));
  names = All-at (λ n. IsName n.name) tree good.rises good.names;
  one_each = All-at (λ n. child_of tree n.parent n.name ≡ Some n) tree good.rises (λ m n found.
      find-unique (λ node. node.parent == n.parent && same_name node.name n.name) tree good.rises m n found
      (and_from _ _ (eq-eqb n.parent n.parent refl) (nat_list_eq_equiv.refl (folded n.name)))
      (λ m' n' found' at. good.one_each m m' n n' found found' at));
  numbers = All-at (λ n. 2 ≤ n.number) tree good.rises (λ m n found. rw (number-at tree m n found) (good.numbers m n found));
  rise = numbers_rise-from tree good.rises;
}

pub no_root : (tree : Tree) → Good tree → node_at tree root ≡ None
no_root tree good = go (node_at tree root) (good.numbers root)
  where
    go : (o : Option Node) → ((n : Node) → o ≡ Some n → 2 ≤ root) → o ≡ None
    go None few = refl
    go (Some n) few = absurd (omega (arith, few n refl))

-- ---- what stays where a change applies

dir_there : (tree : Tree) (c : Change) → Applies tree c → is_directory tree (node_of c) ≡ true → is_drop c ≡ false → is_directory (changed tree c) (node_of c) ≡ true
dir_there tree (Make node parent kind name) is dir kept = absurd (true≢false (sym (and_parts (is_there tree node) (not (is_file tree node)) dir).0 ∙ is.1))
dir_there tree (Put node offset contents) is dir kept = absurd (true≢false (sym is.0 ∙ not-true _ (and_parts (is_there tree node) (not (is_file tree node)) dir).1))
dir_there tree (Cut node size pages) is dir kept = absurd (true≢false (sym is.0 ∙ not-true _ (and_parts (is_there tree node) (not (is_file tree node)) dir).1))
dir_there tree (Move node parent name) is dir kept = rw (node_at-there tree (Move node parent name) (λ e. absurd (cc))) (go (node_at tree node) dir)
  where
    go : (o : Option Node) → ((node == root || is_some o) && not (is_some (content_of o))) ≡ true
        → ((node == root || is_some (remade (Move node parent name) o)) && not (is_some (content_of (remade (Move node parent name) o)))) ≡ true
    go None e = e
    go (Some o) e = e
dir_there tree (Drop node) is dir kept = absurd (cc)

-- a directory stays one, if it is not dropped
pub dir_after : (tree : Tree) (c : Change) → Applies tree c → (d : ℕ) → is_directory tree d ≡ true → (is_drop c ≡ true → node_of c ≡ d → ⊥) → is_directory (changed tree c) d ≡ true
dir_after tree c is d dir stays = elim (cases_eq (node_of c) d) [
  | inr other ↦ rw (node_at-elsewhere tree c (Fits-from tree c is) d other) dir
  | inl at ↦ elim (cases_Bool (is_drop c)) [
    | inl drops ↦ absurd (stays drops at)
    | inr kept ↦ subst (λ m. is_directory (changed tree c) m ≡ true) at (dir_there tree c is (subst (λ m. is_directory tree m ≡ true) (sym at) dir) kept)
  ]
]

-- a directory with an entry is not dropped
pub no_entry : (tree : Tree) (c : Change) → Applies tree c → is_drop c ≡ true → (m : ℕ) (n : Node) → node_at tree m ≡ Some n → node_of c ≡ n.parent → ⊥
no_entry tree (Make node parent kind name) is drops m n found at = absurd (cc)
no_entry tree (Put node offset contents) is drops m n found at = absurd (cc)
no_entry tree (Cut node size pages) is drops m n found at = absurd (cc)
no_entry tree (Move node parent name) is drops m n found at = absurd (cc)
no_entry tree (Drop node) is drops m n found at =
    eqb-false n.parent node (at-All (λ n. (n.parent == node) ≡ false) tree (NoneAt-from_any (λ n. n.parent == node) tree is.2) m n found) (sym at)

Gives-directory : (tree : Tree) (c : Change) → Applies tree c → Gives c (λ parent name. is_directory (changed tree c) parent ≡ true)
Gives-directory tree (Make node parent kind name) is = dir_after tree (Make node parent kind name) is parent is.2 (λ e. absurd (cc))
Gives-directory tree (Put node offset contents) is = tt
Gives-directory tree (Cut node size pages) is = tt
Gives-directory tree (Move node parent name) is = dir_after tree (Move node parent name) is parent is.2 (λ e. absurd (cc))
Gives-directory tree (Drop node) is = tt

-- each parent is a directory afterwards
pub parents-after : (tree : Tree) (c : Change) → Good tree → Applies tree c → (m : ℕ) (n : Node) → node_at (changed tree c) m ≡ Some n → is_directory (changed tree c) n.parent ≡ true
parents-after tree c good is =
    holds-after (λ parent name. is_directory (changed tree c) parent ≡ true) tree c (Fits-from tree c is) (Gives-directory tree c is)
    (λ m n found. dir_after tree c is n.parent (good.parents m n found) (λ drops. no_entry tree c is drops m n found))

-- ---- a node that no change is of

-- it stays as it is
pub node-elsewhere : (cs : List Change) (tree : Tree) (number : ℕ) → changes_apply tree cs ≡ true → (IsIn number (map node_of cs) → ⊥) → node_at (changed_all tree cs) number ≡ node_at tree number
node-elsewhere [] tree number all other = refl
node-elsewhere (c ∷ cs) tree number all other =
    let parts = and_parts (applies tree c) (changes_apply (changed tree c) cs) all in
    node-elsewhere cs (changed tree c) number parts.1 (λ there. other (inr there)) ∙ node_at-elsewhere tree c (Fits-from tree c (Applies-from tree c parts.0)) number (λ e. other (inl e))
