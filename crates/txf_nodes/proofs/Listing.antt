-- Lemmas on the entries of a directory in their order.
use Rattle.std.proofs.Common.{◌≡◌, ◌⊎◌, ℕ, true, eqb, not, List, [], ◌∷◌, ◌++◌, map, Option, Some, append_assoc, is_some, refl, sym, ap, ◌∙◌, subst, inl, inr, arith}
use Rattle.std.specs.declared.cmp.Ordering.TheVariants.{Less}
use Rattle.std.specs.Option.{option_map}
use Rattle.std.proofs.lemmas.Bool.{cases_Bool, eqb-false, eqb-true, eq-eqb}
use Rattle.std.proofs.lemmas.Option.{same_Some}
use Rattle.ktm_base.specs.Names.{folded}
use Rattle.ktm_world.specs.declared.recorded.Node.{Node}
use Rattle.ktm_links.specs.declared.list.Key.{Key}
use Rattle.ktm_links.specs.Mapped.{NamedItem, at, name_cmp, Begins, IsNotBelow, IsRising, entries_from as names_from}
use Rattle.ktm_links.proofs.offered.Entries.{IsNext, from-next, from-none}
use Rattle.ktm_links.proofs.offered.Names.{begins_between, begins_not_below}
use Rattle.ktm_keyed.specs.Keyed.{comes_before}
use Rattle.ktm_world.specs.FileCalls.{in_order, with_entry}
use Rattle.txf_nodes.specs.Children.{Shown, children, entries_in, shown, shown_of}
use Rattle.txf_nodes.specs.Indexes.{AreAbove, AreNamed, AreRising, IsFirstUnder, IsNoneUnder, IsTree, name_of, under}
use Rattle.txf_nodes.specs.Places.{after_child, child_name, entries_from, number_bytes}
use Rattle.txf_nodes.specs.NodesState.{NodeOf, node_by, now_at, tree_in}
use Rattle.txf_nodes.specs.Left.{child_from, children_of}
use Rattle.txf_nodes.proofs.Digits.{number_begins}
use Rattle.txf_nodes.proofs.Naming.{is_some-mapped}
use Rattle.ktm_links.proofs.offered.Comparing.{less_from, not_below_upto}
use Rattle.txf_nodes.proofs.Ordered.{AreAscending, IsBefore, IsBefore-lower, IsIn, entries_from-first, entries_from-none, greater_from, in-map, of-map}

-- ---- which nodes are in the order
with_entry-in : (ns : List Node) (node other : Node) → (node ≡ other) ⊎ IsIn other ns → IsIn other (with_entry ns node)
with_entry-in [] node other there = elim there [ inl same ↦ inl same | inr rest ↦ absurd rest ]
with_entry-in (n ∷ ns) node other there =
    elim (cases_Bool (comes_before (folded node.name) (folded n.name))) [
      | inl first ↦ rw first there
      | inr later ↦
          rw later
          (elim there [
            | inl same ↦ inr (with_entry-in ns node other (inl same))
            | inr rest ↦ elim rest [ inl this ↦ inl this | inr further ↦ inr (with_entry-in ns node other (inr further)) ]
          ])
    ]

with_entry-from : (ns : List Node) (node other : Node) → IsIn other (with_entry ns node) → (node ≡ other) ⊎ IsIn other ns
with_entry-from [] node other there = there
with_entry-from (n ∷ ns) node other there =
    elim (cases_Bool (comes_before (folded node.name) (folded n.name))) [
      | inl first ↦ rw first at there
      | inr later ↦
          let back : (n ≡ other) ⊎ IsIn other (with_entry ns node) = rw later at there in
          elim back [
            | inl this ↦ inr (inl this)
            | inr rest ↦ elim (with_entry-from ns node other rest) [ inl same ↦ inl same | inr further ↦ inr (inr further) ]
          ]
    ]

pub in_order-in : (ns : List Node) (node : Node) → IsIn node ns → IsIn node (in_order ns)
in_order-in [] node there = absurd there
in_order-in (n ∷ ns) node there =
    with_entry-in (in_order ns) n node (elim there [ inl same ↦ inl same | inr rest ↦ inr (in_order-in ns node rest) ])

pub in_order-from : (ns : List Node) (node : Node) → IsIn node (in_order ns) → IsIn node ns
in_order-from [] node there = there
in_order-from (n ∷ ns) node there =
    elim (with_entry-from (in_order ns) n node there) [ inl same ↦ inl same | inr rest ↦ inr (in_order-from ns node rest) ]

-- ---- nodes in the order of their folded names
-- no other node has the name
abbrev pub IsOther : Node → List Node → Type 0
IsOther node ns = (m : Node) → IsIn m ns → folded node.name ≡ folded m.name → ⊥

abbrev pub AreDistinct : List Node → Type 0
AreDistinct [] = Unit {0}
AreDistinct (n ∷ ns) = IsOther n ns × AreDistinct ns

IsBefore-with : (name : List ℕ) (node : Node) (ns : List Node) → IsBefore name (map shown ns) → name_cmp (folded name) (folded node.name) ≡ Less
    → IsBefore name (map shown (with_entry ns node))
IsBefore-with name node [] before less = (less, tt)
IsBefore-with name node (n ∷ ns) before less =
    elim (cases_Bool (comes_before (folded node.name) (folded n.name))) [
      | inl first ↦ rw first ((less, before))
      | inr later ↦ rw later ((before.0, IsBefore-with name node ns before.1 less))
    ]

AreAscending-with : (ns : List Node) (node : Node) → AreAscending (map shown ns) → IsOther node ns → AreAscending (map shown (with_entry ns node))
AreAscending-with [] node ascending other = (tt, tt)
AreAscending-with (n ∷ ns) node ascending other =
    elim (cases_Bool (comes_before (folded node.name) (folded n.name))) [
      | inl first ↦
          let less = less_from (name_cmp (folded node.name) (folded n.name)) first in
          rw first (((less, IsBefore-lower node.name n.name (map shown ns) less ascending.0), ascending))
      | inr later ↦
          let less = greater_from (folded node.name) (folded n.name) later (other n (inl refl)) in
          rw later ((IsBefore-with n.name node ns ascending.0 less, AreAscending-with ns node ascending.1 (λ m there. other m (inr there))))
    ]

pub in_order-ascends : (ns : List Node) → AreDistinct ns → AreAscending (map shown (in_order ns))
in_order-ascends [] distinct = tt
in_order-ascends (n ∷ ns) distinct =
    AreAscending-with (in_order ns) n (in_order-ascends ns distinct.1) (λ m there. distinct.0 m (in_order-from ns m there))

module _ {V : Type 0} where
  -- whatever bytes a content has, the node shows one entry
  shown-by : (bytes : V → List ℕ) (n : NodeOf V) → shown (node_by bytes n) ≡ shown_of n
  shown-by bytes n = ap (λ file. record { name = n.name; is_directory = not file }) (is_some-mapped bytes n.content)

  -- ---- the nodes of a directory
  children-in : (bytes : V → List ℕ) (nodes : List (NodeOf V)) (directory number : ℕ) (x : NodeOf V) → now_at nodes number ≡ Some x → x.parent ≡ directory
      → IsIn (node_by bytes x) (children (tree_in bytes nodes) directory)
  children-in bytes [] directory number x found parent = absurd (cc)
  children-in bytes (y ∷ ys) directory number x found parent =
      elim (cases_Bool (eqb y.number number)) [
        | inl same ↦
            let is : y ≡ x = same_Some y x (rw same at found) in
            let in_it : eqb y.parent directory ≡ true = eq-eqb y.parent directory (ap (λ (x : NodeOf V). x.parent) is ∙ parent) in
            rw in_it (inl (ap (node_by bytes) is))
        | inr differs ↦
            let rest = children-in bytes ys directory number x (rw differs at found) parent in
            elim (cases_Bool (eqb y.parent directory)) [ inl in_it ↦ rw in_it (inr rest) | inr other ↦ rw other rest ]
      ]

  -- a number stands under the name of each node of the directory
  children-named : (bytes : V → List ℕ) (names : List (NamedItem ℕ)) (nodes : List (NodeOf V)) (directory : ℕ) (node : Node) → AreNamed names nodes
      → IsIn node (children (tree_in bytes nodes) directory) → is_some (under names (child_name directory node.name)) ≡ true
  children-named bytes names [] directory node all has = absurd has
  children-named bytes names (y ∷ ys) directory node all has =
      elim (cases_Bool (eqb y.parent directory)) [
        | inl in_it ↦
            let there : (node_by bytes y ≡ node) ⊎ IsIn node (children (tree_in bytes ys) directory) = rw in_it at has in
            elim there [
              | inl this ↦
                  let name : child_name directory node.name ≡ name_of y =
                  ap (λ d. child_name d node.name) (sym (eqb-true y.parent directory in_it)) ∙ ap (λ (n : Node). child_name y.parent n.name) (sym this) in
                  ap (λ q. is_some (under names q)) name ∙ ap is_some all.0.under
              | inr rest ↦ children-named bytes names ys directory node all.1 rest
            ]
        | inr other ↦ children-named bytes names ys directory node all.1 (rw other at has)
      ]

  children-other : (bytes : V → List ℕ) (names : List (NamedItem ℕ)) (nodes : List (NodeOf V)) (directory : ℕ) (x : NodeOf V) → under names (name_of x) ≡ Some x.number
      → x.parent ≡ directory → AreNamed names nodes → AreAbove x.number nodes → IsOther (node_by bytes x) (children (tree_in bytes nodes) directory)
  children-other bytes names [] directory x here parent all above m has same = absurd has
  children-other bytes names (y ∷ ys) directory x here parent all above m has same =
      elim (cases_Bool (eqb y.parent directory)) [
        | inl in_it ↦
            let there : (node_by bytes y ≡ m) ⊎ IsIn m (children (tree_in bytes ys) directory) = rw in_it at has in
            elim there [
              | inl this ↦
                  let parents : x.parent ≡ y.parent = parent ∙ sym (eqb-true y.parent directory in_it) in
                  let folds : folded x.name ≡ folded y.name = same ∙ ap (λ (n : Node). folded n.name) (sym this) in
                  let names_same : name_of x ≡ name_of y = ap (λ d. child_name d x.name) parents ∙ ap (λ l. number_bytes y.parent ++ l) folds in
                  let number : x.number ≡ y.number = same_Some x.number y.number (sym here ∙ ap (under names) names_same ∙ all.0.under) in
                  absurd (omega (arith, above.0))
              | inr rest ↦ children-other bytes names ys directory x here parent all.1 above.1 m rest same
            ]
        | inr other ↦ children-other bytes names ys directory x here parent all.1 above.1 m (rw other at has) same
      ]

  children-distinct : (bytes : V → List ℕ) (names : List (NamedItem ℕ)) (nodes : List (NodeOf V)) (directory : ℕ) → AreNamed names nodes → AreRising nodes
      → AreDistinct (children (tree_in bytes nodes) directory)
  children-distinct bytes names [] directory all rising = tt
  children-distinct bytes names (y ∷ ys) directory all rising =
      let rest = children-distinct bytes names ys directory all.1 rising.1 in
      elim (cases_Bool (eqb y.parent directory)) [
        | inl in_it ↦ rw in_it ((children-other bytes names ys directory y all.0.under (eqb-true y.parent directory in_it) all.1 rising.0, rest))
        | inr other ↦ rw other rest
      ]

  -- a number stands under the name of each entry
  entries-named : (bytes : V → List ℕ) (names : List (NamedItem ℕ)) (nodes : List (NodeOf V)) (directory : ℕ) (s : Shown) → AreNamed names nodes
      → IsIn s (entries_in (tree_in bytes nodes) directory) → is_some (under names (child_name directory s.name)) ≡ true
  entries-named bytes names nodes directory s all there =
      let n = of-map shown s (in_order (children (tree_in bytes nodes) directory)) there in
      subst (λ (s : Shown). is_some (under names (child_name directory s.name)) ≡ true) n.1
      (children-named bytes names nodes directory n.0 all (in_order-from (children (tree_in bytes nodes) directory) n.0 n.2))

  pub entries-ascend : (bytes : V → List ℕ) (names : List (NamedItem ℕ)) (nodes : List (NodeOf V)) (directory : ℕ) → IsTree nodes names → AreAscending (entries_in (tree_in bytes nodes) directory)
  entries-ascend bytes names nodes directory tree =
      in_order-ascends (children (tree_in bytes nodes) directory) (children-distinct bytes names nodes directory tree.named tree.rising)

  -- ---- what the map of names tells of the entries
  pub entries_found : (bytes : V → List ℕ) (nodes : List (NodeOf V)) (names : List (NamedItem ℕ)) (directory : ℕ) (from : List ℕ) (number : ℕ) (x : NodeOf V) → IsTree nodes names
      → (f : IsFirstUnder (λ q. IsNotBelow q from) names number) → now_at nodes number ≡ Some x → x.parent ≡ directory
      → entries_from directory from (entries_in (tree_in bytes nodes) directory) ≡ shown (node_by bytes x) ∷ entries_from directory (after_child directory x.name) (entries_in (tree_in bytes nodes) directory)
  entries_found bytes nodes names directory from number x tree f found parent =
      let at = tree.only f.name number f.there in
      let one : at.0 ≡ x = same_Some at.0 x (sym at.1 ∙ found) in
      let name : f.name ≡ child_name directory x.name =
      sym at.2 ∙ ap (λ (x : NodeOf V). name_of x) one ∙ ap (λ d. child_name d x.name) parent in
      entries_from-first directory from (shown (node_by bytes x)) (entries_in (tree_in bytes nodes) directory) (entries-ascend bytes names nodes directory tree)
      (in-map shown (node_by bytes x) (in_order (children (tree_in bytes nodes) directory))
      (in_order-in (children (tree_in bytes nodes) directory) (node_by bytes x) (children-in bytes nodes directory number x found parent)))
      (rw name at f.so)
      (λ s there high. rw name at (f.first (child_name directory s.name) high (entries-named bytes names nodes directory s tree.named there)))

  pub entries_ended : (bytes : V → List ℕ) (nodes : List (NodeOf V)) (names : List (NamedItem ℕ)) (directory : ℕ) (from : List ℕ) → IsTree nodes names
      → IsNoneUnder (λ q. IsNotBelow q from) names → entries_from directory from (entries_in (tree_in bytes nodes) directory) ≡ []
  entries_ended bytes nodes names directory from tree none =
      entries_from-none directory from (entries_in (tree_in bytes nodes) directory)
      (λ s there high.
      let some = entries-named bytes names nodes directory s tree.named there in
      let nothing = none (child_name directory s.name) high in
      absurd (let is = rw nothing at some in cc))

  -- the first name is that of another directory's entry
  pub entries_passed : (bytes : V → List ℕ) (nodes : List (NodeOf V)) (names : List (NamedItem ℕ)) (directory : ℕ) (from : List ℕ) (number : ℕ) (x : NodeOf V) → IsTree nodes names
      → (f : IsFirstUnder (λ q. IsNotBelow q from) names number) → Begins (number_bytes directory) from → now_at nodes number ≡ Some x → (x.parent ≡ directory → ⊥)
      → entries_from directory from (entries_in (tree_in bytes nodes) directory) ≡ []
  entries_passed bytes nodes names directory from number x tree f begins found other =
      let at = tree.only f.name number f.there in
      let one : at.0 ≡ x = same_Some at.0 x (sym at.1 ∙ found) in
      let name : f.name ≡ name_of x = sym at.2 ∙ ap (λ (x : NodeOf V). name_of x) one in
      let low : IsNotBelow from (number_bytes directory) = rw begins.is (begins_not_below (number_bytes directory) begins.after) in
      let high : IsNotBelow f.name (number_bytes directory) = not_below_upto f.name from (number_bytes directory) f.so low in
      entries_from-none directory from (entries_in (tree_in bytes nodes) directory)
      (λ s there so.
      let some = entries-named bytes names nodes directory s tree.named there in
      let above = f.first (child_name directory s.name) so some in
      let between = begins_between (number_bytes directory) (folded s.name) f.name high above in
      other (number_begins directory x.parent (folded x.name) (rw name at between)))

  -- ---- a walk over the names

  -- the entries that a walk has left are those from its place on
  pub children-listed : (bytes : V → List ℕ) (nodes : List (NodeOf V)) (names : List (NamedItem ℕ)) (directory : ℕ) (from : List ℕ) → IsTree nodes names → IsRising names
      → Begins (number_bytes directory) from → children_of nodes directory (names_from names from) ≡ entries_from directory from (entries_in (tree_in bytes nodes) directory)
  children-listed bytes nodes names directory from tree rising begins = go (names_from names from) from refl begins
    where
      beyond : (from : List ℕ) (e : NamedItem ℕ) (es : List (NamedItem ℕ)) → IsNext names from e es → IsFirstUnder (λ q. IsNotBelow q from) names e.value
      beyond from e es next = record {
        name = e.name;
        there = ap (λ (o : Option (Key × ℕ)). option_map (λ e. e.1) o) next.there;
        so = next.so;
        first = λ q high some. next.first q high (sym (is_some-mapped (λ (e : Key × ℕ). e.1) (at names q)) ∙ some);
      }

      go : (es : List (NamedItem ℕ)) (from : List ℕ) → names_from names from ≡ es → Begins (number_bytes directory) from
          → children_of nodes directory es ≡ entries_from directory from (entries_in (tree_in bytes nodes) directory)
      go [] from is begins =
          sym (entries_ended bytes nodes names directory from tree
          (λ q high. ap (λ (o : Option (Key × ℕ)). option_map (λ e. e.1) o) (from-none names from is q high)))
      go (e ∷ es) from is begins =
          let next = from-next names from e es rising is in
          let first = beyond from e es next in
          let node = tree.only e.name e.value first.there in
          ap (λ o. child_from directory o (children_of nodes directory es)) node.1
          ∙ elim (cases_Bool (eqb node.0.parent directory)) [
            | inl inside ↦
                let parent = eqb-true node.0.parent directory inside in
                let name : e.name ≡ child_name directory node.0.name = sym node.2 ∙ ap (λ d. child_name d node.0.name) parent in
                let low : Begins (number_bytes directory) (e.name ++ 0 ∷ []) = record {
                  after = folded node.0.name ++ 0 ∷ [];
                  is = ap (λ l. l ++ 0 ∷ []) name ∙ append_assoc (number_bytes directory) (folded node.0.name) (0 ∷ []);
                } in
                rw inside
                (ap (λ s. s ∷ children_of nodes directory es) (sym (shown-by bytes node.0))
                ∙ ap (λ l. shown (node_by bytes node.0) ∷ l)
                (go es (e.name ++ 0 ∷ []) next.rest low ∙ ap (λ p. entries_from directory (p ++ 0 ∷ []) (entries_in (tree_in bytes nodes) directory)) name)
                ∙ sym (entries_found bytes nodes names directory from e.value node.0 tree first node.1 parent))
            | inr outside ↦
                rw outside (sym (entries_passed bytes nodes names directory from e.value node.0 tree first begins node.1 (λ is. eqb-false node.0.parent directory outside is)))
          ]
