-- Lemmas on nodes by their names.
use Rattle.std.proofs.Common.{◌≡◌, ℕ, ◌<◌, ◌&&◌, not, Bool, true, false, eqb, List, [], ◌∷◌, ◌++◌, length, Option, Some, None, is_some, refl, sym, ap, ◌∙◌, inl, inr, arith}
use Rattle.std.specs.Prelude.{IfSome, IfNone}
use Rattle.std.specs.Option.{option_map}
use Rattle.std.proofs.lemmas.Bool.{cases_Bool, and_parts, and_from, or_right, eqb-true, eq-eqb}
use Rattle.std.proofs.lemmas.List.{length-map}
use Rattle.std.proofs.lemmas.Map.Text.{is_eq-slice_cmp}
use Rattle.std.proofs.lemmas.Option.{same_Some}
use Rattle.ktm_base.specs.declared.limits.TheConstants.{MOST_NAME_BYTES}
use Rattle.ktm_base.specs.Names.{folded, folded_byte}
use Rattle.ktm_world.specs.declared.recorded.Node.{Node}
use Rattle.ktm_links.specs.declared.list.Key.{Key}
use Rattle.ktm_links.specs.Mapped.{NamedItem, name_cmp, Begins, IsFirstOf, IsNoneOf}
use Rattle.ktm_links.proofs.offered.Names.{from_is_eq, name_equal, name_same}
use Rattle.ktm_world.specs.Tree.{Tree, child_of, has_entries, is_directory, node_at, same_name}
use Rattle.txf_nodes.specs.Indexes.{AreNamed, IsNamedAt, IsTree, name_of, under}
use Rattle.txf_nodes.specs.Places.{child_name, number_bytes}
use Rattle.txf_nodes.specs.NodesState.{NodeOf, node_by, now_at, tree_in}
use Rattle.txf_nodes.proofs.Digits.{number_begins, number_bytes-same}

-- ---- names that are the same without case
pub same_name-true : (a b : List ℕ) → same_name a b ≡ true → folded a ≡ folded b
same_name-true a b same = name_equal (folded a) (folded b) (from_is_eq (name_cmp (folded a) (folded b)) (is_eq-slice_cmp (folded a) (folded b) ∙ same))

pub same_name-from : (a b : List ℕ) → folded a ≡ folded b → same_name a b ≡ true
same_name-from a b same = sym (is_eq-slice_cmp (folded a) (folded b)) ∙ rw (same, name_same (folded b)) refl

-- is the node a child of the directory with the name
is_child : ℕ → List ℕ → Node → Bool
is_child directory name node = eqb node.parent directory && same_name node.name name

is_child-true : (directory : ℕ) (name : List ℕ) (node : Node) → is_child directory name node ≡ true → child_name node.parent node.name ≡ child_name directory name
unfolding is_child
is_child-true directory name node child =
    let parts = and_parts (eqb node.parent directory) (same_name node.name name) child in
    ap (λ d. child_name d node.name) (eqb-true node.parent directory parts.0)
    ∙ ap (λ l. number_bytes directory ++ l) (same_name-true node.name name parts.1)

is_child-from : (directory : ℕ) (name : List ℕ) (node : Node) → child_name node.parent node.name ≡ child_name directory name → is_child directory name node ≡ true
unfolding is_child
is_child-from directory name node same =
    let parts = number_bytes-same node.parent directory (folded node.name) (folded name) same in
    and_from (eqb node.parent directory) (same_name node.name name) (eq-eqb node.parent directory parts.0) (same_name-from node.name name parts.1)

pub is_some-mapped : {X Y : Type 0} (f : X → Y) (o : Option X) → is_some (option_map f o) ≡ is_some o
is_some-mapped f None = refl
is_some-mapped f (Some x) = refl

module _ {V : Type 0} where
  -- ---- nodes
  pub node_at-now : (bytes : V → List ℕ) (nodes : List (NodeOf V)) (n : ℕ) → node_at (tree_in bytes nodes) n ≡ option_map (node_by bytes) (now_at nodes n)
  node_at-now bytes [] n = refl
  node_at-now bytes (x ∷ xs) n =
      elim (cases_Bool (eqb x.number n)) [ inl same ↦ rw same refl | inr differs ↦ rw differs (node_at-now bytes xs n) ]

  pub numbered_now : (nodes : List (NodeOf V)) (n : ℕ) (x : NodeOf V) → now_at nodes n ≡ Some x → x.number ≡ n
  numbered_now [] n x found = absurd (cc)
  numbered_now (y ∷ ys) n x found =
      elim (cases_Bool (eqb y.number n)) [
        | inl same ↦ ap (λ (x : NodeOf V). x.number) (sym (same_Some y x (rw same at found))) ∙ eqb-true y.number n same
        | inr differs ↦ numbered_now ys n x (rw differs at found)
      ]

  -- what is so of each node is so of the one that a number finds
  pub named_now : (names : List (NamedItem ℕ)) (nodes : List (NodeOf V)) (n : ℕ) (x : NodeOf V) → AreNamed names nodes → now_at nodes n ≡ Some x → IsNamedAt names x
  named_now names [] n x all found = absurd (cc)
  named_now names (y ∷ ys) n x all found =
      elim (cases_Bool (eqb y.number n)) [
        | inl same ↦
            let is = same_Some y x (rw same at found) in
            record {
              few = rw (← is) all.0.few;
              under = rw (← is) all.0.under;
            }
        | inr differs ↦ named_now names ys n x all.1 (rw differs at found)
      ]

  -- ---- children
  child_found : (bytes : V → List ℕ) (names : List (NamedItem ℕ)) (nodes : List (NodeOf V)) (directory : ℕ) (name : List ℕ) (n : ℕ) (x : NodeOf V) → AreNamed names nodes
      → under names (child_name directory name) ≡ Some n → now_at nodes n ≡ Some x → name_of x ≡ child_name directory name
      → child_of (tree_in bytes nodes) directory name ≡ Some (node_by bytes x)
  unfolding is_child
  child_found bytes names [] directory name n x all here found named = absurd (cc)
  child_found bytes names (y ∷ ys) directory name n x all here found named =
      elim (cases_Bool (is_child directory name (node_by bytes y))) [
        | inl child ↦
            let own : under names (child_name directory name) ≡ Some y.number = rw (is_child-true directory name (node_by bytes y) child) at all.0.under in
            let number : y.number ≡ n = same_Some y.number n (sym own ∙ here) in
            let is : y ≡ x = same_Some y x (rw (eq-eqb y.number n number) at found) in
            rw child (ap (λ (x : NodeOf V). Some (node_by bytes x)) is)
        | inr other ↦
            elim (cases_Bool (eqb y.number n)) [
              | inl same ↦
                  let is : y ≡ x = same_Some y x (rw same at found) in
                  absurd (let child = is_child-from directory name (node_by bytes y) (ap (λ (x : NodeOf V). name_of x) is ∙ named) in cc)
              | inr differs ↦ rw other (child_found bytes names ys directory name n x all.1 here (rw differs at found) named)
            ]
      ]

  child_none : (bytes : V → List ℕ) (names : List (NamedItem ℕ)) (nodes : List (NodeOf V)) (directory : ℕ) (name : List ℕ) → AreNamed names nodes
      → under names (child_name directory name) ≡ None → child_of (tree_in bytes nodes) directory name ≡ None
  unfolding is_child
  child_none bytes names [] directory name all none = refl
  child_none bytes names (y ∷ ys) directory name all none =
      elim (cases_Bool (is_child directory name (node_by bytes y))) [
        | inl child ↦ absurd (let some = rw (is_child-true directory name (node_by bytes y) child) at all.0.under in cc)
        | inr other ↦ rw other (child_none bytes names ys directory name all.1 none)
      ]

  -- the number that a name finds
  pub child_number : (bytes : V → List ℕ) (nodes : List (NodeOf V)) (names : List (NamedItem ℕ)) (directory : ℕ) (name : List ℕ) → IsTree nodes names
      → under names (child_name directory name) ≡ option_map (λ (node : Node). node.number) (child_of (tree_in bytes nodes) directory name)
  child_number bytes nodes names directory name tree = by_cases (under names (child_name directory name)) refl
    where
      by_cases : (o : Option ℕ) → under names (child_name directory name) ≡ o → o ≡ option_map (λ (node : Node). node.number) (child_of (tree_in bytes nodes) directory name)
      by_cases None is = rw (child_none bytes names nodes directory name tree.named is) refl
      by_cases (Some n) is =
          let at = tree.only (child_name directory name) n is in
          rw (child_found bytes names nodes directory name n at.0 tree.named is at.1 at.2) (ap Some (sym (numbered_now nodes n at.0 at.1)))

  -- a longer name has no node
  pub child_long : (bytes : V → List ℕ) (nodes : List (NodeOf V)) (names : List (NamedItem ℕ)) (directory : ℕ) (name : List ℕ) → AreNamed names nodes → MOST_NAME_BYTES < length name
      → None ≡ option_map (λ (node : Node). node.number) (child_of (tree_in bytes nodes) directory name)
  unfolding is_child
  child_long bytes [] names directory name all long = refl
  child_long bytes (y ∷ ys) names directory name all long =
      elim (cases_Bool (is_child directory name (node_by bytes y))) [
        | inl child ↦
            let same = same_name-true y.name name (and_parts (eqb y.parent directory) (same_name y.name name) child).1 in
            let few = all.0.few in
            absurd (omega (arith, ap length same, length-map y.name folded_byte, length-map name folded_byte, few))
        | inr other ↦ rw other (child_long bytes ys names directory name all.1 long)
      ]

  -- a name is free where no child of the directory has it
  pub name_free : (bytes : V → List ℕ) (nodes : List (NodeOf V)) (names : List (NamedItem ℕ)) (directory : ℕ) (name : List ℕ) → IsTree nodes names
      → child_of (tree_in bytes nodes) directory name ≡ None → under names (child_name directory name) ≡ None
  name_free bytes nodes names directory name tree free = child_number bytes nodes names directory name tree ∙ ap (λ o. option_map (λ (node : Node). node.number) o) free

  -- ---- entries of a directory
  entry_found : (bytes : V → List ℕ) (nodes : List (NodeOf V)) (n directory : ℕ) (x : NodeOf V) → now_at nodes n ≡ Some x → x.parent ≡ directory → has_entries (tree_in bytes nodes) directory ≡ true
  entry_found bytes [] n directory x found parent = absurd (cc)
  entry_found bytes (y ∷ ys) n directory x found parent =
      elim (cases_Bool (eqb y.number n)) [
        | inl same ↦
            let is : y ≡ x = same_Some y x (rw same at found) in
            let in_it : eqb y.parent directory ≡ true = eq-eqb y.parent directory (ap (λ (x : NodeOf V). x.parent) is ∙ parent) in
            rw in_it refl
        | inr differs ↦ or_right (eqb y.parent directory) (has_entries (tree_in bytes ys) directory) (entry_found bytes ys n directory x (rw differs at found) parent)
      ]

  entries_none : (bytes : V → List ℕ) (names : List (NamedItem ℕ)) (nodes : List (NodeOf V)) (directory : ℕ) → AreNamed names nodes → IsNoneOf (Begins (number_bytes directory)) names
      → has_entries (tree_in bytes nodes) directory ≡ false
  entries_none bytes names [] directory all none = refl
  entries_none bytes names (y ∷ ys) directory all none =
      elim (cases_Bool (eqb y.parent directory)) [
        | inl in_it ↦
            let nothing =
            none (name_of y) (record { after = folded y.name; is = ap (λ d. number_bytes d ++ folded y.name) (eqb-true y.parent directory in_it) }) in
            absurd (let some = rw nothing at all.0.under in cc)
        | inr other ↦ rw other (entries_none bytes names ys directory all.1 none)
      ]

  pub has_entries-told : (bytes : V → List ℕ) (nodes : List (NodeOf V)) (names : List (NamedItem ℕ)) (directory : ℕ) (first : Option Key) → IsTree nodes names
      → IfSome first (λ key. IsFirstOf (Begins (number_bytes directory)) names key) → IfNone first (IsNoneOf (Begins (number_bytes directory)) names)
      → is_some first ≡ has_entries (tree_in bytes nodes) directory
  has_entries-told bytes nodes names directory None tree some none = sym (entries_none bytes names nodes directory tree.named none)
  has_entries-told bytes nodes names directory (Some key) tree first none =
      let at = tree.only first.name first.value (ap (λ o. option_map (λ (e : Key × ℕ). e.1) o) first.there) in
      let begins : Begins (number_bytes directory) (name_of at.0) = rw at.2 first.so in
      sym (entry_found bytes nodes first.value directory at.0 at.1 (number_begins directory at.0.parent (folded at.0.name) begins))

-- ---- directories
pub directory_found : (tree : Tree) (n : ℕ) (node : Node) → Some node ≡ node_at tree n → not (is_some node.content) ≡ is_directory tree n
directory_found tree n node found =
    rw (← found) (elim (cases_Bool (eqb n 1)) [ inl root ↦ rw root refl | inr other ↦ rw other refl ])

pub directory_none : (tree : Tree) (n : ℕ) → None ≡ node_at tree n → eqb n 1 ≡ is_directory tree n
directory_none tree n found =
    rw (← found) (elim (cases_Bool (eqb n 1)) [ inl root ↦ rw root refl | inr other ↦ rw other refl ])
