-- Lemmas on the entries of a directory as they are seen.
use Rattle.std.proofs.Common.{◌≡◌, ℕ, ◌<◌, ◌≤◌, ◌==◌, not, Bool, true, false, is_some, filter, suc, length, List, [], ◌∷◌, ◌++◌, Option, Some, None, IfSome, refl, sym, ap, ◌∙◌, subst, arith, length-drop, inl, inr, ◌⊎◌}
use Rattle.std.specs.Prelude.{bytes_eq, IfNone, option_to_list}
use Rattle.std.specs.Option.{option_map}
use Rattle.std.specs.Ordering.{is_eq, is_lt}
use Rattle.std.specs.List.{list_all}
use Rattle.std.specs.declared.cmp.Ordering.{Ordering}
use Rattle.std.specs.declared.cmp.Ordering.TheVariants.{Less, Equal, Greater}
use Rattle.std.proofs.lemmas.Bool.{cases_Bool, eqb-true, eq-eqb, ne_eqb, not-true, true≢false}
use Rattle.std.proofs.lemmas.Option.{none-some, same_Some}
use Rattle.std.proofs.lemmas.List.{length-map}
use Rattle.std.proofs.lemmas.Slice.Eq.{bytes_eq-Decides}
use Rattle.ktm_base.specs.Names.{folded}
use Rattle.ktm_keyed.specs.Keyed.{comes_before}
use Rattle.ktm_links.specs.Mapped.{name_cmp, Begins, IsNotBelow}
use Rattle.ktm_links.proofs.offered.Names.{name_equal, name_same, turned}
use Rattle.ktm_world.specs.declared.recorded.Node.{Node}
use Rattle.ktm_world.specs.FileCalls.{in_order, with_entry}
use Rattle.ktm_world.specs.Holds.{each_change}
use Rattle.ktm_world.specs.Tree.{IsWellFormed, Tree, has_entries, node_at}
use Rattle.txf_tree.specs.Children.{Shown, shown, children, entries_in, entry_seen}
use Rattle.txf_tree.specs.Entry.{Entry}
use Rattle.txf_tree.specs.Places.{after_child, child_name, entries_from, number_bytes}
use Rattle.txf_tree.proofs.Digits.{number_begins}
use Rattle.txf_tree.proofs.Listing.{AreDistinct, in_order-ascends, in_order-from, in_order-in}
use Rattle.ktm_links.proofs.offered.Comparing.{below_next, less_from, not_below_upto}
use Rattle.txf_tree.proofs.Ordered.{AreAscending, IsIn, above_next, before_in, entries_begun, entries_from-first, entries_from-none, greater_from, in-map, key_less, not_below, of-map}
use Rattle.txf_tree.proofs.Reaching.{AreAscending-filter}
use Rattle.txf_overlay.specs.declared.listing.SeatRef.{SeatRef}
use Rattle.txf_overlay.specs.OverlayState.{is_of_names, OverlayState, Seat, seen}
use Rattle.txf_overlay.specs.Listing.{first_order, is_left, passed, seats_left, IsNextSeat, IsNoSeat, IsReached, IsStepped}
use Rattle.txf_overlay.specs.Names.{place_in}
use Rattle.txf_overlay.specs.Views.{last_seat, seat_at, seats_of, StandsOver}
use Rattle.ktm_world.proofs.offered.Lookups.{Above, Rises, Rises-from}
use Rattle.txf_overlay.proofs.Views.{IsOneEach, IsOneEach-from, Seated, seated}

-- ---- members
in-filter : {X : Type 0} (test : X → Bool) (x : X) (xs : List X) → IsIn x xs → test x ≡ true → IsIn x (filter test xs)
in-filter test x [] there is = absurd there
in-filter test x (y ∷ ys) (inl same) is = rw (subst (λ z. test z ≡ true) (sym same) is) (inl same)
in-filter test x (y ∷ ys) (inr later) is = elim (cases_Bool (test y)) [
  | inl passes ↦ rw passes (inr (in-filter test x ys later is))
  | inr fails ↦ rw fails (in-filter test x ys later is)
]

of-filter : {X : Type 0} (test : X → Bool) (x : X) (xs : List X) → IsIn x (filter test xs) → IsIn x xs × (test x ≡ true)
of-filter test x [] there = absurd there
of-filter test x (y ∷ ys) there = elim (cases_Bool (test y)) [
  | inl passes ↦ both passes (of-filter test x ys) (rw passes at there)
  | inr fails ↦ let rest = of-filter test x ys (rw fails at there) in (inr rest.0, rest.1)
]
  where
    both : test y ≡ true → (IsIn x (filter test ys) → IsIn x ys × (test x ≡ true)) → IsIn x (y ∷ filter test ys) → IsIn x (y ∷ ys) × (test x ≡ true)
    both passes rest (inl same) = (inl same, subst (λ z. test z ≡ true) same passes)
    both passes rest (inr later) = let more = rest later in (inr more.0, more.1)

-- ---- the entries of a directory of a tree
at-in : (tree : Tree) (m : ℕ) (n : Node) → node_at tree m ≡ Some n → IsIn n tree
at-in [] m n found = absurd (none-some n found)
at-in (x ∷ xs) m n found = elim (cases_Bool (x.number == m)) [
  | inl is ↦ inl (same_Some x n (rw is at found))
  | inr other ↦ inr (at-in xs m n (rw other at found))
]

above-in : (k : ℕ) (tree : Tree) (n : Node) → Above k tree → IsIn n tree → k < n.number
above-in k [] n above there = absurd there
above-in k (x ∷ xs) n above (inl is) = subst (λ (y : Node). k < y.number) is above.0
above-in k (x ∷ xs) n above (inr later) = above-in k xs n above.1 later

in-at : (tree : Tree) (n : Node) → Rises tree → IsIn n tree → node_at tree n.number ≡ Some n
in-at [] n rises there = absurd there
in-at (x ∷ xs) n rises (inl is) = rw (eq-eqb x.number n.number (ap (λ (y : Node). y.number) is)) (ap Some is)
in-at (x ∷ xs) n rises (inr later) = elim (cases_Bool (x.number == n.number)) [
  | inl same ↦ absurd (let less = above-in x.number xs n rises.0 later in let e = eqb-true x.number n.number same in omega arith)
  | inr other ↦ rw other (in-at xs n rises.1 later)
]

place-name : (directory : ℕ) (n m : Node) → n.parent ≡ directory → m.parent ≡ directory → folded n.name ≡ folded m.name → place_in n ≡ place_in m
place-name directory n m n_in m_in same =
    let parent : n.parent ≡ m.parent = n_in ∙ sym m_in in
    λ i. number_bytes (parent i) ++ same i

distinct-children : (whole tree : Tree) (directory : ℕ) → IsOneEach whole → Rises whole → ((n : Node) → IsIn n tree → IsIn n whole) → Rises tree → AreDistinct (children tree directory)
distinct-children whole [] directory one rises within sorted = tt
distinct-children whole (x ∷ xs) directory one rises within sorted =
    let rest = distinct-children whole xs directory one rises (λ n there. within n (inr there)) sorted.1 in
    elim (cases_Bool (x.parent == directory)) [
      | inl in_it ↦ rw in_it (
        λ m there same.
            let is = of-filter (λ node. node.parent == directory) m xs there in
            let number : x.number ≡ m.number =
            one.one x.number m.number x m (in-at whole x rises (within x (inl refl))) (in-at whole m rises (within m (inr is.0)))
            (place-name directory x m (eqb-true x.parent directory in_it) (eqb-true m.parent directory is.1) same) in
            let less = above-in x.number xs m sorted.0 is.0 in
            absurd (omega arith),
        rest,
      )
      | inr other ↦ rw other rest
    ]

pub entries-ascend : (tree : Tree) (directory : ℕ) → IsWellFormed tree → AreAscending (entries_in tree directory)
entries-ascend tree directory formed =
    let rises = Rises-from tree formed.rise in
    in_order-ascends (children tree directory) (distinct-children tree tree directory (IsOneEach-from tree formed) rises (λ n there. there) rises)

-- the entry is that of a node in the directory
record IsEntry (tree : Tree) (directory : ℕ) (s : Shown) : Type 0 where
  number : ℕ
  node : Node
  found : node_at tree number ≡ Some node
  inside : node.parent ≡ directory
  is : shown node ≡ s

entry-of : (tree : Tree) (directory : ℕ) (s : Shown) → IsWellFormed tree → IsIn s (entries_in tree directory) → IsEntry tree directory s
entry-of tree directory s formed there =
    let n = of-map shown s (in_order (children tree directory)) there in
    let is = of-filter (λ node. node.parent == directory) n.0 tree (in_order-from (children tree directory) n.0 n.2) in
    record {
      number = n.0.number;
      node = n.0;
      found = in-at tree n.0 (Rises-from tree formed.rise) is.0;
      inside = eqb-true n.0.parent directory is.1;
      is = n.1;
    }

entry-in : (tree : Tree) (directory : ℕ) (s : Shown) → IsEntry tree directory s → IsIn s (entries_in tree directory)
entry-in tree directory s e =
    subst (λ s. IsIn s (entries_in tree directory)) e.is
    (in-map shown e.node (in_order (children tree directory))
    (in_order-in (children tree directory) e.node
    (in-filter (λ node. node.parent == directory) e.node tree (at-in tree e.number e.node e.found) (eq-eqb e.node.parent directory e.inside))))

entry-place : (tree : Tree) (directory : ℕ) (s : Shown) → (e : IsEntry tree directory s) → place_in e.node ≡ child_name directory s.name
entry-place tree directory s e = ap (λ d. child_name d e.node.name) e.inside ∙ ap (λ (s : Shown). child_name directory s.name) e.is

-- ---- the first entry from a place on
-- the entry is the first of these whose places are not below this one
record IsFirst (directory : ℕ) (from : List ℕ) (ss : List Shown) (s : Shown) : Type 0 where
  there : IsIn s ss
  high : IsNotBelow (child_name directory s.name) from
  first : (x : Shown) → IsIn x ss → IsNotBelow (child_name directory x.name) from → IsNotBelow (child_name directory x.name) (child_name directory s.name)

in-from : (directory : ℕ) (from : List ℕ) (ss : List Shown) (s : Shown) → IsIn s ss → IsNotBelow (child_name directory s.name) from → IsIn s (entries_from directory from ss)
in-from directory from ss s there high =
    in-filter (λ entry. not (is_lt (name_cmp (child_name directory entry.name) from))) s ss there (ap not high)

of-from : (directory : ℕ) (from : List ℕ) (ss : List Shown) (s : Shown) → IsIn s (entries_from directory from ss) → IsIn s ss × IsNotBelow (child_name directory s.name) from
of-from directory from ss s there =
    let is = of-filter (λ entry. not (is_lt (name_cmp (child_name directory entry.name) from))) s ss there in
    (is.0, not-true _ is.1)

not_below_itself : (a : List ℕ) → IsNotBelow a a
not_below_itself a = ap is_lt (name_same a)

not_below_next : (a : List ℕ) → IsNotBelow (a ++ 0 ∷ []) a
not_below_next a = not_below a (a ++ 0 ∷ []) (below_next a)

-- what the entries from a place on tell of the first one
first-told : (directory : ℕ) (from : List ℕ) (ss : List Shown) (s : Shown) (rest : List Shown) → AreAscending ss → s ∷ rest ≡ entries_from directory from ss
    → IsFirst directory from ss s × (rest ≡ entries_from directory (after_child directory s.name) ss)
first-told directory from ss s rest ascending is =
    let here = of-from directory from ss s (subst (IsIn s) is (inl refl)) in
    let rise : AreAscending (s ∷ rest) =
    subst AreAscending (sym is) (AreAscending-filter (λ entry. not (is_lt (name_cmp (child_name directory entry.name) from))) ss ascending) in
    let first : IsFirst directory from ss s = record {
      there = here.0;
      high = here.1;
      first = λ x there high.
          let at : (s ≡ x) ⊎ IsIn x rest = subst (IsIn x) (sym is) (in-from directory from ss x there high) in
          elim at [
            | inl same ↦ subst (λ (x : Shown). IsNotBelow (child_name directory x.name) (child_name directory s.name)) same (not_below_itself (child_name directory s.name))
            | inr later ↦
                not_below (child_name directory s.name) (child_name directory x.name) (key_less directory s.name x.name (before_in s.name x rest rise.0 later))
          ];
    } in
    let all = is ∙ entries_from-first directory from s ss ascending first.there first.high first.first in
    (first, cc)

-- where there is none from a place on
none-told : (directory : ℕ) (from : List ℕ) (ss : List Shown) → [] ≡ entries_from directory from ss
    → (s : Shown) → IsIn s ss → IsNotBelow (child_name directory s.name) from → ⊥
none-told directory from ss is s there high = subst (IsIn s) (sym is) (in-from directory from ss s there high)

first-tells : (directory : ℕ) (from : List ℕ) (ss : List Shown) (s : Shown) → AreAscending ss → IsFirst directory from ss s
    → entries_from directory from ss ≡ s ∷ entries_from directory (after_child directory s.name) ss
first-tells directory from ss s ascending is = entries_from-first directory from s ss ascending is.there is.high is.first

same-from : (directory : ℕ) (a b : List ℕ) (ss : List Shown) → ((s : Shown) → IsIn s ss → IsNotBelow (child_name directory s.name) a → IsNotBelow (child_name directory s.name) b)
    → ((s : Shown) → IsIn s ss → IsNotBelow (child_name directory s.name) b → IsNotBelow (child_name directory s.name) a) → entries_from directory a ss ≡ entries_from directory b ss
same-from directory a b [] to back = refl
same-from directory a b (x ∷ ss) to back =
    let rest = same-from directory a b ss (λ s there. to s (inr there)) (λ s there. back s (inr there)) in
    elim (cases_Bool (is_lt (name_cmp (child_name directory x.name) a))) [
      | inl below ↦ elim (cases_Bool (is_lt (name_cmp (child_name directory x.name) b))) [
        | inl below' ↦ rw (below, below') rest
        | inr high ↦ absurd (true≢false (sym below ∙ back x (inl refl) high))
      ]
      | inr high ↦ rw (high, to x (inl refl) high) (ap (λ l. x ∷ l) rest)
    ]

-- ---- what is seen of the tree and of the held places
-- where a walk begins
pub begun : (t : Tree) (o : OverlayState) (directory : ℕ) (from : List ℕ) (children : List Shown) (seat : Option SeatRef) → list_all is_of_names o.names ≡ true
    → children ≡ entries_from directory from (entries_in t directory) → IfSome seat (λ seat. IsNextSeat o.held directory from seat.place.now seat.node)
    → IfNone seat (IsNoSeat o.held directory from) → IsReached t o directory children seat (entries_from directory from (entries_in (seen t o) directory))
begun t o directory from children seat only is held free =
    record { only = only; reached = from; children_are = is; left_are = refl; held = held; free = free }

begins-child : (directory : ℕ) (name : List ℕ) → Begins (number_bytes directory) (child_name directory name)
begins-child directory name = record { after = folded name; is = refl }

module _ (t : Tree) (o : OverlayState) (directory : ℕ) (only : list_all is_of_names o.names ≡ true) (stands : StandsOver t o) where
  tells : Seated t (seen t o) (each_change seats_of t o.names)
  tells = seated o.names t only stands.applies (IsOneEach-from t stands.before)

  free-seat : (p q : List ℕ) → p ≡ q → seat_at o.held q ≡ None → last_seat (each_change seats_of t o.names) p ≡ None
  free-seat p q same free = ap (last_seat (each_change seats_of t o.names)) same ∙ sym (stands.held q) ∙ free

  -- at a place that is not held the same is seen as in the tree
  to-kept : (s : Shown) → IsIn s (entries_in (seen t o) directory) → seat_at o.held (child_name directory s.name) ≡ None → IsIn s (entries_in t directory)
  to-kept s there free =
      let e = entry-of (seen t o) directory s stands.after there in
      let last = free-seat (place_in e.node) (child_name directory s.name) (entry-place (seen t o) directory s e) free in
      entry-in t directory s
      (record { number = e.number; node = e.node; found = tells.kept (place_in e.node) last e.number e.node e.found refl; inside = e.inside; is = e.is })

  to-seen : (s : Shown) → IsIn s (entries_in t directory) → seat_at o.held (child_name directory s.name) ≡ None → IsIn s (entries_in (seen t o) directory)
  to-seen s there free =
      let e = entry-of t directory s stands.before there in
      let last = free-seat (place_in e.node) (child_name directory s.name) (entry-place t directory s e) free in
      entry-in (seen t o) directory s
      (record { number = e.number; node = e.node; found = tells.back (place_in e.node) last e.number e.node e.found refl; inside = e.inside; is = e.is })

  -- the node of a held place is seen there
  own-in : (p : List ℕ) (n : ℕ) (x : Node) → seat_at o.held p ≡ Some (Some n) → Begins (number_bytes directory) p → node_at (seen t o) n ≡ Some x
      → IsIn (shown x) (entries_in (seen t o) directory) × (child_name directory x.name ≡ p)
  own-in p n x there begins found =
      let at = tells.some p n (sym (stands.held p) ∙ there) in
      let node : at.node ≡ x = same_Some at.node x (sym at.found ∙ found) in
      let here : place_in x ≡ p = ap place_in (sym node) ∙ at.at in
      let parent : x.parent ≡ directory = number_begins directory x.parent (folded x.name) (subst (Begins (number_bytes directory)) (sym here) begins) in (
        entry-in (seen t o) directory (shown x) (record { number = n; node = x; found = found; inside = parent; is = refl }),
        ap (λ d. child_name d x.name) (sym parent) ∙ here,
      )

  -- nothing is seen at a held place at which no node stands
  gone-out : (s : Shown) → IsIn s (entries_in (seen t o) directory) → seat_at o.held (child_name directory s.name) ≡ Some None → ⊥
  gone-out s there gone =
      let e = entry-of (seen t o) directory s stands.after there in
      tells.none (child_name directory s.name) (sym (stands.held (child_name directory s.name)) ∙ gone) e.number
      (record { node = e.node; found = e.found; at = entry-place (seen t o) directory s e })

  ascending : AreAscending (entries_in (seen t o) directory)
  ascending = entries-ascend (seen t o) directory stands.after

  ascending-before : AreAscending (entries_in t directory)
  ascending-before = entries-ascend t directory stands.before

  abbrev these : List ℕ → List Shown
  these from = entries_from directory from (entries_in (seen t o) directory)

  -- ---- the first entry of the tree
  -- what is held behind an entry
  held-behind : (seat : Option SeatRef) (reached : List ℕ) (s : Shown) → IsNotBelow (child_name directory s.name) reached
      → IfSome seat (λ seat. IsNextSeat o.held directory reached seat.place.now seat.node)
      → IfSome seat (λ seat. name_cmp (child_name directory s.name) seat.place.now ≡ Less)
      → IfSome seat (λ seat. IsNextSeat o.held directory (after_child directory s.name) seat.place.now seat.node)
  held-behind None reached s high held less = tt
  held-behind (Some seat) reached s high held less = record {
    there = held.there;
    inside = held.inside;
    high = above_next (child_name directory s.name) seat.place.now less;
    first = λ q so some. held.first q (upto q so) some;
  }
    where
      upto : (q : List ℕ) → IsNotBelow q (after_child directory s.name) → IsNotBelow q reached
      upto q so =
          not_below_upto q (child_name directory s.name) reached
          (not_below_upto q (after_child directory s.name) (child_name directory s.name) so (not_below_next (child_name directory s.name))) high

  free-behind : (seat : Option SeatRef) (reached : List ℕ) (s : Shown) → IsNotBelow (child_name directory s.name) reached
      → IfNone seat (IsNoSeat o.held directory reached) → IfNone seat (IsNoSeat o.held directory (after_child directory s.name))
  free-behind None reached s high free = λ q begins so.
      free q begins
      (not_below_upto q (child_name directory s.name) reached
      (not_below_upto q (after_child directory s.name) (child_name directory s.name) so (not_below_next (child_name directory s.name))) high)
  free-behind (Some seat) reached s high free = tt

  -- where the first entry of the tree is told, the others are left
  told : (e : Entry) (rest left : List Shown) (seat : Option SeatRef) → (r : IsReached t o directory (entry_seen e ∷ rest) seat left)
      → these r.reached ≡ entry_seen e ∷ these (after_child directory e.name.now)
      → IfSome seat (λ seat. name_cmp (child_name directory e.name.now) seat.place.now ≡ Less)
      → IsStepped t o directory rest (record { entry = Some e; seat = seat }) left
  told e rest left seat r is less =
      let first = first-told directory r.reached (entries_in t directory) (entry_seen e) rest ascending-before r.children_are in
      record {
        rest = these (after_child directory e.name.now);
        first = r.left_are ∙ is;
        none = tt;
        reached = record {
          only = only;
          reached = after_child directory e.name.now;
          children_are = first.1;
          left_are = refl;
          held = held-behind seat r.reached (entry_seen e) first.0.high r.held less;
          free = free-behind seat r.reached (entry_seen e) first.0.high r.free;
        };
      }

  -- ---- where no place is held any more
  module _ (reached : List ℕ) (none : IsNoSeat o.held directory reached) where
    free-from : (s : Shown) → IsNotBelow (child_name directory s.name) reached → seat_at o.held (child_name directory s.name) ≡ None
    free-from s high = none (child_name directory s.name) (begins-child directory s.name) high

    last-first : (s : Shown) → IsFirst directory reached (entries_in t directory) s → IsFirst directory reached (entries_in (seen t o) directory) s
    last-first s first = record {
      there = to-seen s first.there (free-from s first.high);
      high = first.high;
      first = λ x there high. first.first x (to-kept x there (free-from x high)) high;
    }

    last-none : ((s : Shown) → IsIn s (entries_in t directory) → IsNotBelow (child_name directory s.name) reached → ⊥) → these reached ≡ []
    last-none all = entries_from-none directory reached (entries_in (seen t o) directory) (λ s there high. all s (to-kept s there (free-from s high)) high)

  -- the next entry of the tree is then the next that is seen
  pub last-step : (children rest left : List Shown) (e : Option Entry) → IsReached t o directory children None left
      → children ≡ option_to_list (option_map entry_seen e) ++ rest → IfNone e (children ≡ []) → IsStepped t o directory rest (record { entry = e; seat = None }) left
  last-step children rest left None r is none =
      let empty : left ≡ [] =
      r.left_are ∙ last-none r.reached r.free (none-told directory r.reached (entries_in t directory) (sym none ∙ r.children_are)) in
      record {
        rest = left;
        first = refl;
        none = empty;
        reached = record { only = only; reached = r.reached; children_are = sym is ∙ r.children_are; left_are = r.left_are; held = tt; free = r.free };
      }
  last-step children rest left (Some e) r is none =
      let r' : IsReached t o directory (entry_seen e ∷ rest) None left = subst (λ c. IsReached t o directory c None left) is r in
      let first = first-told directory r'.reached (entries_in t directory) (entry_seen e) rest ascending-before r'.children_are in
      told e rest left None r'
      (first-tells directory r'.reached (entries_in (seen t o) directory) (entry_seen e) ascending (last-first r'.reached r'.free (entry_seen e) first.0))
      tt

  -- ---- where a place is held
  module _ (place : List ℕ) (node : Option ℕ) (reached : List ℕ) (seat : IsNextSeat o.held directory reached place node) where
    -- what is seen at a place that is not held is seen in the tree, and a held one is not below the first
    where-seen : (s : Shown) → IsIn s (entries_in (seen t o) directory) → IsNotBelow (child_name directory s.name) reached
        → IsIn s (entries_in t directory) ⊎ IsNotBelow (child_name directory s.name) place
    where-seen s there high = go (seat_at o.held (child_name directory s.name)) refl
      where
        go : (v : Option (Option ℕ)) → seat_at o.held (child_name directory s.name) ≡ v → IsIn s (entries_in t directory) ⊎ IsNotBelow (child_name directory s.name) place
        go None is = inl (to-kept s there is)
        go (Some v) is = inr (seat.first (child_name directory s.name) high (ap is_some is))

    free-below : (q : List ℕ) → IsNotBelow q reached → name_cmp q place ≡ Less → seat_at o.held q ≡ None
    free-below q high less = go (seat_at o.held q) refl
      where
        go : (v : Option (Option ℕ)) → seat_at o.held q ≡ v → seat_at o.held q ≡ None
        go None is = is
        go (Some v) is = absurd (true≢false (sym (ap is_lt less) ∙ seat.first q high (ap is_some is)))

    -- an entry of the tree before it is the first
    kept-first : (s : Shown) → IsFirst directory reached (entries_in t directory) s → name_cmp (child_name directory s.name) place ≡ Less
        → these reached ≡ s ∷ these (after_child directory s.name)
    kept-first s first less =
        first-tells directory reached (entries_in (seen t o) directory) s ascending
        (record {
          there = to-seen s first.there (free-below (child_name directory s.name) first.high less);
          high = first.high;
          first = λ x there high. elim (where-seen x there high) [
            | inl in_tree ↦ first.first x in_tree high
            | inr behind ↦ not_below_upto (child_name directory x.name) place (child_name directory s.name) behind (not_below (child_name directory s.name) place less)
          ];
        })

    -- where no entry of the tree is before it, none that is seen is
    none-before : (children : List Shown) → children ≡ entries_from directory reached (entries_in t directory) → is_lt (first_order directory children place) ≡ false
        → (s : Shown) → IsIn s (entries_in (seen t o) directory) → IsNotBelow (child_name directory s.name) reached → IsNotBelow (child_name directory s.name) place
    none-before children is later s there high = elim (where-seen s there high) [
      | inl in_tree ↦ go children is later in_tree
      | inr behind ↦ behind
    ]
      where
        go : (children : List Shown) → children ≡ entries_from directory reached (entries_in t directory) → is_lt (first_order directory children place) ≡ false
            → IsIn s (entries_in t directory) → IsNotBelow (child_name directory s.name) place
        go [] is later in_tree = absurd (none-told directory reached (entries_in t directory) is s in_tree high)
        go (c ∷ cs) is later in_tree =
            let first = first-told directory reached (entries_in t directory) c cs ascending-before is in
            not_below_upto (child_name directory s.name) (child_name directory c.name) place (first.0.first s in_tree high) later

    -- the node that stands there is then the first
    own-first : (children : List Shown) → children ≡ entries_from directory reached (entries_in t directory) → is_lt (first_order directory children place) ≡ false
        → (n : ℕ) → node ≡ Some n → (e : Entry) → Some (entry_seen e) ≡ option_map shown (node_at (seen t o) n)
        → these reached ≡ entry_seen e ∷ these (place ++ 0 ∷ [])
    own-first children is later n node_is e entry = go (node_at (seen t o) n) refl entry
      where
        go : (x : Option Node) → node_at (seen t o) n ≡ x → Some (entry_seen e) ≡ option_map shown x → these reached ≡ entry_seen e ∷ these (place ++ 0 ∷ [])
        go None found entry = absurd (none-some (entry_seen e) (sym entry))
        go (Some x) found entry =
            let own = own-in place n x (seat.there ∙ ap Some node_is) seat.inside found in
            let same : entry_seen e ≡ shown x = same_Some (entry_seen e) (shown x) entry in
            let at : child_name directory e.name.now ≡ place = ap (λ (s : Shown). child_name directory s.name) same ∙ own.1 in
            first-tells directory reached (entries_in (seen t o) directory) (entry_seen e) ascending
            (record {
              there = subst (λ (s : Shown). IsIn s (entries_in (seen t o) directory)) (sym same) own.0;
              high = subst (λ p. IsNotBelow p reached) (sym at) seat.high;
              first = λ s there high. subst (λ p. IsNotBelow (child_name directory s.name) p) (sym at) (none-before children is later s there high);
            })
            ∙ ap (λ p. entry_seen e ∷ these (p ++ 0 ∷ [])) at

    -- from behind it on these are the entries of a tree, where all from the place before on are not below it
    from-behind : (ss : List Shown) → ((s : Shown) → IsIn s ss → IsNotBelow (child_name directory s.name) reached → IsNotBelow (child_name directory s.name) (place ++ 0 ∷ []))
        → entries_from directory reached ss ≡ entries_from directory (place ++ 0 ∷ []) ss
    from-behind ss above = same-from directory reached (place ++ 0 ∷ []) ss above
        (λ s there high.
        not_below_upto (child_name directory s.name) place reached
        (not_below_upto (child_name directory s.name) (place ++ 0 ∷ []) place high (not_below_next place)) seat.high)

    -- where no node stands there, the entries are those from behind it on
    gone-next : (children : List Shown) → children ≡ entries_from directory reached (entries_in t directory) → is_lt (first_order directory children place) ≡ false → node ≡ None
        → these reached ≡ these (place ++ 0 ∷ [])
    gone-next children is later node_is = from-behind (entries_in (seen t o) directory) (λ s there high.
        let low = none-before children is later s there high in
        above_next place (child_name directory s.name)
        (greater_from (child_name directory s.name) place low
        (λ at. gone-out s there (ap (seat_at o.held) at ∙ seat.there ∙ ap Some node_is))))

    -- the entries of the tree from behind it on
    pub passed-next : (children : List Shown) → children ≡ entries_from directory reached (entries_in t directory) → is_lt (first_order directory children place) ≡ false
        → passed (first_order directory children place) children ≡ entries_from directory (place ++ 0 ∷ []) (entries_in t directory)
    passed-next [] is later =
        is ∙ from-behind (entries_in t directory) (λ s there high. absurd (none-told directory reached (entries_in t directory) is s there high))
    passed-next (s ∷ rest) is later = go (name_cmp (child_name directory s.name) place) refl later
      where
        first : IsFirst directory reached (entries_in t directory) s × (rest ≡ entries_from directory (after_child directory s.name) (entries_in t directory))
        first = first-told directory reached (entries_in t directory) s rest ascending-before is

        go : (order : Ordering) → name_cmp (child_name directory s.name) place ≡ order → is_lt order ≡ false
            → passed order (s ∷ rest) ≡ entries_from directory (place ++ 0 ∷ []) (entries_in t directory)
        go Less at later = absurd (cc)
        go Equal at later =
            first.1 ∙ ap (λ p. entries_from directory (p ++ 0 ∷ []) (entries_in t directory)) (name_equal (child_name directory s.name) place at)
        go Greater at later = is ∙ from-behind (entries_in t directory) (λ x there high.
            not_below_upto (child_name directory x.name) (child_name directory s.name) (place ++ 0 ∷ []) (first.0.first x there high)
            (above_next place (child_name directory s.name) (turned (child_name directory s.name) place at)))

  -- ---- the steps
  -- to the entry of the tree before the held place
  pub kept-step : (children rest left : List Shown) (e : Option Entry) (held : SeatRef) → IsReached t o directory children (Some held) left
      → is_lt (first_order directory children held.place.now) ≡ true → children ≡ option_to_list (option_map entry_seen e) ++ rest → IfNone e (children ≡ [])
      → IsStepped t o directory rest (record { entry = e; seat = Some held }) left
  kept-step children rest left None held r less is none =
      absurd (let no = ap (λ c. is_lt (first_order directory c held.place.now)) (sym none) ∙ less in cc)
  kept-step children rest left (Some e) held r less is none =
      let r' : IsReached t o directory (entry_seen e ∷ rest) (Some held) left = subst (λ c. IsReached t o directory c (Some held) left) is r in
      let below = less_from (name_cmp (child_name directory e.name.now) held.place.now) (ap (λ c. is_lt (first_order directory c held.place.now)) (sym is) ∙ less) in
      let first = first-told directory r'.reached (entries_in t directory) (entry_seen e) rest ascending-before r'.children_are in
      told e rest left (Some held) r' (kept-first held.place.now held.node r'.reached r'.held (entry_seen e) first.0 below) below

  module _ (children left : List Shown) (held : SeatRef) (next : Option SeatRef) (r : IsReached t o directory children (Some held) left)
      (later : is_lt (first_order directory children held.place.now) ≡ false)
      (then_held : IfSome next (λ seat. IsNextSeat o.held directory (held.place.now ++ 0 ∷ []) seat.place.now seat.node))
      (then_free : IfNone next (IsNoSeat o.held directory (held.place.now ++ 0 ∷ []))) where
    -- to the node that stands at the held place
    pub own-step : (n : ℕ) (e : Entry) → held.node ≡ Some n → Some (entry_seen e) ≡ option_map shown (node_at (seen t o) n)
        → IsStepped t o directory (passed (first_order directory children held.place.now) children) (record { entry = Some e; seat = next }) left
    own-step n e node entry = record {
      rest = these (held.place.now ++ 0 ∷ []);
      first = r.left_are ∙ own-first held.place.now held.node r.reached r.held children r.children_are later n node e entry;
      none = tt;
      reached = record {
        only = only;
        reached = held.place.now ++ 0 ∷ [];
        children_are = passed-next held.place.now held.node r.reached r.held children r.children_are later;
        left_are = refl;
        held = then_held;
        free = then_free;
      };
    }

    -- beyond the held place, where no node stands there
    pub gone-step : held.node ≡ None → IsReached t o directory (passed (first_order directory children held.place.now) children) next left
    gone-step node = record {
      only = only;
      reached = held.place.now ++ 0 ∷ [];
      children_are = passed-next held.place.now held.node r.reached r.held children r.children_are later;
      left_are = r.left_are ∙ gone-next held.place.now held.node r.reached r.held children r.children_are later node;
      held = then_held;
      free = then_free;
    }

-- the entry of a node with this name, which is a file or is not
pub own-entry : (o : Option Node) (x : Node) (name : List ℕ) (file : Bool) → o ≡ Some x → name ≡ x.name → file ≡ is_some x.content
    → Some (record { name = name; is_directory = not file }) ≡ option_map shown o
own-entry o x name file found name_is kind = rw found (λ i. Some (record { name = name_is i; is_directory = not (kind i) }))

-- ---- the held places that are left
left-upto : (a b : List ℕ) (held : List Seat) → IsNotBelow b a → length (filter (is_left b) held) ≤ length (filter (is_left a) held)
left-upto a b [] high = omega arith
left-upto a b (s ∷ held) high = elim (cases_Bool (is_lt (name_cmp s.place b))) [
  | inl below ↦ elim (cases_Bool (is_lt (name_cmp s.place a))) [
    | inl below' ↦ rw (below, below') (left-upto a b held high)
    | inr high' ↦ rw (below, high') (omega (arith, left-upto a b held high))
  ]
  | inr over ↦ rw (over, not_below_upto s.place b a over high) (omega (arith, left-upto a b held high))
]

left-less : (a b : List ℕ) (held : List Seat) (v : Option ℕ) → seat_at held a ≡ Some v → name_cmp a b ≡ Less → length (filter (is_left b) held) < length (filter (is_left a) held)
left-less a b [] v there less = absurd (none-some v there)
left-less a b (s ∷ held) v there less = elim (cases_Bool (bytes_eq s.place a)) [
  | inl same ↦
      let at : s.place ≡ a = (bytes_eq-Decides s.place a).0 same in
      let below : is_lt (name_cmp s.place b) ≡ true = ap (λ p. is_lt (name_cmp p b)) at ∙ ap is_lt less in
      let high : is_lt (name_cmp s.place a) ≡ false = ap (λ p. is_lt (name_cmp p a)) at ∙ not_below_itself a in
      rw (below, high) (omega (arith, left-upto a b held (not_below a b less)))
  | inr other ↦
      let rest = left-less a b held v (rw other at there) less in
      elim (cases_Bool (is_lt (name_cmp s.place b))) [
        | inl below ↦ elim (cases_Bool (is_lt (name_cmp s.place a))) [
          | inl below' ↦ rw (below, below') rest
          | inr high' ↦ rw (below, high') (omega (arith, rest))
        ]
        | inr over ↦ rw (over, not_below_upto s.place b a over (not_below a b less)) (omega (arith, rest))
      ]
]

-- fewer are left behind a held place
pub seats-less : (held : List Seat) (directory : ℕ) (s : SeatRef) (next : Option SeatRef) → seat_at held s.place.now ≡ Some s.node
    → IfSome next (λ seat. IsNextSeat held directory (s.place.now ++ 0 ∷ []) seat.place.now seat.node) → seats_left held next < seats_left held (Some s)
seats-less held directory s None there is =
    let less = left-less s.place.now (s.place.now ++ 0 ∷ []) held s.node there (below_next s.place.now) in omega arith
seats-less held directory s (Some n) there is =
    let less = left-less s.place.now (s.place.now ++ 0 ∷ []) held s.node there (below_next s.place.now) in
    let after : IsNextSeat held directory (s.place.now ++ 0 ∷ []) n.place.now n.node = is in
    let upto = left-upto (s.place.now ++ 0 ∷ []) n.place.now held after.high in
    omega arith

-- what is passed is no longer left
pub passed-fewer : (order : Ordering) (ss : List Shown) → length (passed order ss) ≤ length ss
passed-fewer order ss = elim (cases_Bool (is_eq order)) [
  | inl is ↦ rw is (omega (arith, length-drop 1 ss))
  | inr other ↦ rw other (omega arith)
]

-- ---- is there any
with-some : (ns : List Node) (n : Node) → (length (with_entry ns n) == 0) ≡ false
with-some [] n = refl
with-some (x ∷ ns) n = elim (cases_Bool (comes_before (folded n.name) (folded x.name))) [
  | inl first ↦ rw first (ne_eqb (suc (suc (length ns))) 0 (λ same. omega arith))
  | inr later ↦ rw later (ne_eqb (suc (length (with_entry ns n))) 0 (λ same. omega arith))
]

any-entries : (tree : Tree) (directory : ℕ) → not (length (entries_in tree directory) == 0) ≡ has_entries tree directory
any-entries tree directory = ap (λ n. not (n == 0)) (length-map (in_order (children tree directory)) shown) ∙ go tree
  where
    go : (tree : Tree) → not (length (in_order (children tree directory)) == 0) ≡ has_entries tree directory
    go [] = refl
    go (x ∷ xs) = elim (cases_Bool (x.parent == directory)) [
      | inl inside ↦ rw inside (ap not (with-some (in_order (children xs directory)) x))
      | inr outside ↦ rw outside (go xs)
    ]

pub any-seen : (tree : Tree) (directory : ℕ) (r : Option Entry) (left rest : List Shown) → left ≡ entries_from directory (number_bytes directory) (entries_in tree directory)
    → left ≡ option_to_list (option_map entry_seen r) ++ rest → IfNone r (left ≡ []) → is_some r ≡ has_entries tree directory
any-seen tree directory r left rest all first none =
    go r first none ∙ ap (λ (ss : List Shown). not (length ss == 0)) (all ∙ entries_begun directory (entries_in tree directory)) ∙ any-entries tree directory
  where
    go : (r : Option Entry) → left ≡ option_to_list (option_map entry_seen r) ++ rest → IfNone r (left ≡ []) → is_some r ≡ not (length left == 0)
    go None first none = rw none refl
    go (Some e) first none = rw first (sym (ap not (ne_eqb (suc (length rest)) 0 (λ same. omega arith))))
