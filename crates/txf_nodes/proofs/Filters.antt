-- Lemmas on entries in order of which some are left out.
use Rattle.std.proofs.Common.{◌≡◌, ℕ, ◌&&◌, Bool, true, false, cond, eqb, List, [], ◌∷◌, map, filter, Some, is_some, refl, sym, ap, ◌∙◌, inl, inr}
use Rattle.std.specs.Cmp.Lexicographic.{slice_cmp}
use Rattle.std.specs.Ordering.{is_lt, nat_cmp, ordering_reverse}
use Rattle.std.specs.declared.cmp.Ordering.{Ordering}
use Rattle.std.specs.declared.cmp.Ordering.TheVariants.{Less, Equal, Greater}
use Rattle.std.proofs.lemmas.Bool.{cases_Bool, false_from_ne_true}
use Rattle.std.proofs.lemmas.Cmp.{alike_right, nat_list_cmp_total}
use Rattle.ktm_base.specs.Names.{folded, matches}
use Rattle.ktm_world.specs.declared.recorded.Node.{Node}
use Rattle.ktm_keyed.specs.Keyed.{comes_before}
use Rattle.ktm_world.specs.FileCalls.{entries as matching, in_order, listed, with_entry}
use Rattle.ktm_world.specs.Tree.{Tree}
use Rattle.txf_nodes.specs.Children.{children, entries_in, shown}
use Rattle.txf_nodes.specs.Found.{found, shown_text}
use Rattle.ktm_links.proofs.offered.Comparing.{less_from}

-- does the first name come before the second, both folded
abbrev before : Node → Node → Bool
before node other = comes_before (folded node.name) (folded other.name)

not_greater : (o : Ordering) → o ≡ Less → is_lt (ordering_reverse o) ≡ false
not_greater o is = rw is refl

before-trans : (a b c : Node) → before a b ≡ true → before b c ≡ true → before a c ≡ true
before-trans a b c first second =
    ap is_lt (nat_list_cmp_total.trans (folded a.name) (folded b.name) (folded c.name) (less_from _ first) (less_from _ second))

not_after : (a b : Node) → before a b ≡ true → before b a ≡ false
not_after a b first = ap is_lt (nat_list_cmp_total.antisymm (folded b.name) (folded a.name)) ∙ not_greater _ (less_from _ first)

-- what does not come before a node does not come before one that comes before that
before_least : (a b c : Node) → before a b ≡ true → before c b ≡ false → before c a ≡ false
before_least a b c first least = false_from_ne_true (before c a) (λ less. absurd (let yes = before-trans c a b less first in cc))

-- a node comes before what does not come before one that it comes before
first_least : (a b c : Node) → before a b ≡ true → before c b ≡ false → before a c ≡ true
first_least a b c first least = by_order (slice_cmp nat_cmp (folded c.name) (folded b.name)) refl least
  where
    by_order : (o : Ordering) → slice_cmp nat_cmp (folded c.name) (folded b.name) ≡ o → is_lt o ≡ false → before a c ≡ true
    by_order Less is not_less = absurd (cc)
    by_order Equal is not_less = ap is_lt (alike_right nat_list_cmp_total (folded c.name) (folded b.name) (folded a.name) is) ∙ first
    by_order Greater is not_less =
        let less : slice_cmp nat_cmp (folded b.name) (folded c.name) ≡ Less =
        nat_list_cmp_total.antisymm (folded b.name) (folded c.name) ∙ ap ordering_reverse is in
        before-trans a b c first (ap is_lt less)

-- ---- nodes in order
-- none of these comes before the node
IsLeast : Node → List Node → Type 0
IsLeast node [] = Unit {0}
IsLeast node (n ∷ ns) = (before n node ≡ false) × IsLeast node ns

AreSorted : List Node → Type 0
AreSorted [] = Unit {0}
AreSorted (n ∷ ns) = IsLeast n ns × AreSorted ns

IsLeast-lower : (a b : Node) (ns : List Node) → before a b ≡ true → IsLeast b ns → IsLeast a ns
unfolding IsLeast
IsLeast-lower a b [] first least = tt
IsLeast-lower a b (n ∷ ns) first least = (before_least a b n first least.0, IsLeast-lower a b ns first least.1)

IsLeast-with : (node other : Node) (ns : List Node) → IsLeast node ns → before other node ≡ false → IsLeast node (with_entry ns other)
unfolding IsLeast
IsLeast-with node other [] least not_before = (not_before, tt)
IsLeast-with node other (n ∷ ns) least not_before =
    elim (cases_Bool (before other n)) [
      | inl first ↦ rw first ((not_before, least))
      | inr later ↦ rw later ((least.0, IsLeast-with node other ns least.1 not_before))
    ]

AreSorted-with : (ns : List Node) (node : Node) → AreSorted ns → AreSorted (with_entry ns node)
unfolding AreSorted IsLeast
AreSorted-with [] node sorted = (tt, tt)
AreSorted-with (n ∷ ns) node sorted =
    elim (cases_Bool (before node n)) [
      | inl first ↦ rw first (((not_after node n first, IsLeast-lower node n ns first sorted.0), sorted))
      | inr later ↦ rw later ((IsLeast-with n node ns sorted.0 later, AreSorted-with ns node sorted.1))
    ]

in_order-sorts : (ns : List Node) → AreSorted (in_order ns)
unfolding AreSorted
in_order-sorts [] = tt
in_order-sorts (n ∷ ns) = AreSorted-with (in_order ns) n (in_order-sorts ns)

-- ---- nodes left out
-- a node that comes before all stays first, whatever is left out
with_entry-first : (p : Node → Bool) (ns : List Node) (node n : Node) → before node n ≡ true → IsLeast n ns → with_entry (filter p ns) node ≡ node ∷ filter p ns
unfolding IsLeast
with_entry-first p [] node n first least = refl
with_entry-first p (m ∷ ms) node n first least =
    elim (cases_Bool (p m)) [
      | inl kept ↦ rw (kept, first_least node n m first least.0) refl
      | inr left ↦ rw left (with_entry-first p ms node n first least.1)
    ]

filter-with_kept : (p : Node → Bool) (ns : List Node) (node : Node) → AreSorted ns → p node ≡ true → filter p (with_entry ns node) ≡ with_entry (filter p ns) node
unfolding AreSorted
filter-with_kept p [] node sorted kept = rw kept refl
filter-with_kept p (n ∷ ns) node sorted kept =
    elim (cases_Bool (before node n)) [
      | inl first ↦
          elim (cases_Bool (p n)) [
            | inl n_kept ↦ rw (first, kept, n_kept, first) refl
            | inr n_left ↦ rw (first, kept, n_left) (sym (with_entry-first p ns node n first sorted.0))
          ]
      | inr later ↦
          elim (cases_Bool (p n)) [
            | inl n_kept ↦ rw (later, n_kept, later) (ap (λ l. n ∷ l) (filter-with_kept p ns node sorted.1 kept))
            | inr n_left ↦ rw (later, n_left) (filter-with_kept p ns node sorted.1 kept)
          ]
    ]

filter-with_left : (p : Node → Bool) (ns : List Node) (node : Node) → p node ≡ false → filter p (with_entry ns node) ≡ filter p ns
filter-with_left p [] node left = rw left refl
filter-with_left p (n ∷ ns) node left =
    elim (cases_Bool (before node n)) [
      | inl first ↦ rw (first, left) refl
      | inr later ↦ rw later (ap (λ l. cond (p n) (n ∷ l) l) (filter-with_left p ns node left))
    ]

-- it is one whether nodes are left out before they are put in order, or afterwards
in_order-filter : (p : Node → Bool) (ns : List Node) → in_order (filter p ns) ≡ filter p (in_order ns)
in_order-filter p [] = refl
in_order-filter p (n ∷ ns) =
    elim (cases_Bool (p n)) [
      | inl kept ↦ rw kept (ap (λ l. with_entry l n) (in_order-filter p ns) ∙ sym (filter-with_kept p (in_order ns) n (in_order-sorts ns) kept))
      | inr left ↦ rw left (in_order-filter p ns ∙ sym (filter-with_left p (in_order ns) n left))
    ]

filter-both : (a b : Node → Bool) (ns : List Node) → filter (λ n. a n && b n) ns ≡ filter b (filter a ns)
filter-both a b [] = refl
filter-both a b (n ∷ ns) =
    elim (cases_Bool (a n)) [
      | inl kept ↦ rw kept (ap (λ l. cond (b n) (n ∷ l) l) (filter-both a b ns))
      | inr left ↦ rw left (filter-both a b ns)
    ]

-- ---- texts
text_listed : (node : Node) → shown_text (shown node) ≡ listed node
text_listed node = elim (cases_Bool (is_some node.content)) [ inl file ↦ rw file refl | inr directory ↦ rw directory refl ]

texts_listed : (last : List ℕ) (ns : List Node) → found (map shown ns) last ≡ map listed (filter (λ n. matches last n.name) ns)
texts_listed last [] = refl
texts_listed last (n ∷ ns) =
    elim (cases_Bool (matches last n.name)) [
      | inl kept ↦ rw (kept, text_listed n) (ap (λ l. listed n ∷ l) (texts_listed last ns))
      | inr left ↦ rw left (texts_listed last ns)
    ]

-- the entries that are found are those that the pattern asks for
pub found-listed : (tree : Tree) (directory : ℕ) (last : List ℕ) → found (entries_in tree directory) last ≡ map listed (matching tree (Some directory) last)
found-listed tree directory last =
    let in_it : Node → Bool = λ node. eqb node.parent directory in
    let does : Node → Bool = λ node. matches last node.name in
    texts_listed last (in_order (children tree directory))
    ∙ ap (map listed) (sym (in_order-filter does (children tree directory)))
    ∙ ap (λ ns. map listed (in_order ns)) (sym (filter-both in_it does tree))
