-- The numbers of nodes, and the next one, while changes are committed.
use Rattle.std.proofs.Common.{◌≡◌, ℕ, ◌+◌, ◌<◌, ◌≤◌, ◌^◌, Bool, true, max, List, [], ◌∷◌, nat_lt, nat_le, refl, sym, ◌∙◌, subst, arith, inl, inr}
use Rattle.std.proofs.lemmas.Bool.{cases_Bool, and_parts, and_from, or_cases, or_left, or_right, ltb-true, lt-ltb, not-true, not_from_false, true≢false}
use Rattle.std.specs.List.{list_all}
use Rattle.ktm_world.specs.declared.change.Change.{Change}
use Rattle.ktm_world.specs.declared.change.Change.TheVariants.{Make, Put, Cut, Move, Drop}
use Rattle.ktm_world.specs.declared.recorded.Node.{Node}
use Rattle.ktm_world.specs.Changes.{changed, changed_all, applies, changes_apply, node_of, is_make, next_after}
use Rattle.ktm_world.specs.Durable.{next_after_all}
use Rattle.ktm_world.specs.Tree.{Tree, has_number, with_node, with_changed, without_node}
use Rattle.txf_laws.specs.Contents.{is_made_below}
use Rattle.txf_laws.proofs.offered.ChangeTests.{Applies-from}
use Rattle.txf_laws.proofs.offered.Elements.{list_all-at, list_all-from}

next_after-rises : (next : ℕ) (c : Change) → next ≤ next_after next c
next_after-rises next (Make node parent kind name) = omega arith
next_after-rises next (Put node offset contents) = omega arith
next_after-rises next (Cut node size pages) = omega arith
next_after-rises next (Move node parent name) = omega arith
next_after-rises next (Drop node) = omega arith

pub next-rises : (cs : List Change) (next : ℕ) → next ≤ next_after_all next cs
next-rises [] next = omega arith
next-rises (c ∷ cs) next = omega (arith, next_after-rises next c, next-rises cs (next_after next c))

next_after-made : (next : ℕ) (c : Change) → is_make c ≡ true → node_of c < next_after next c
next_after-made next (Make node parent kind name) makes = omega arith
next_after-made next (Put node offset contents) makes = absurd (true≢false (sym makes))
next_after-made next (Cut node size pages) makes = absurd (true≢false (sym makes))
next_after-made next (Move node parent name) makes = absurd (true≢false (sym makes))
next_after-made next (Drop node) makes = absurd (true≢false (sym makes))

is_made_below-from : (next : ℕ) (c : Change) → (is_make c ≡ true → node_of c < next) → is_made_below next c ≡ true
is_made_below-from next c below = elim (cases_Bool (is_make c)) [
  | inl makes ↦ or_right _ _ (lt-ltb _ _ (below makes))
  | inr other ↦ or_left _ _ (not_from_false _ other)
]

is_made_below-more : (next next' : ℕ) (c : Change) → next ≤ next' → is_made_below next c ≡ true → is_made_below next' c ≡ true
is_made_below-more next next' c more below = is_made_below-from next' c (λ makes. elim (or_cases _ _ below) [
  | inl other ↦ absurd (true≢false (sym makes ∙ not-true _ other))
  | inr less ↦ omega (arith, ltb-true _ _ less)
])

pub all_made_below-more : (next next' : ℕ) (cs : List Change) → next ≤ next' → list_all (is_made_below next) cs ≡ true → list_all (is_made_below next') cs ≡ true
all_made_below-more next next' cs more below = list_all-from (is_made_below next') cs (λ c there. is_made_below-more next next' c more (list_all-at (is_made_below next) cs below c there))

-- what changes make is below the next number that they leave
pub next-made : (cs : List Change) (next : ℕ) → list_all (is_made_below (next_after_all next cs)) cs ≡ true
next-made [] next = refl
next-made (c ∷ cs) next =
    and_from _ _ (is_made_below-from (next_after_all next (c ∷ cs)) c (λ makes. omega (arith, next_after-made next c makes, next-rises cs (next_after next c)))) (next-made cs (next_after next c))

next_after-to : (tree : Tree) (c : Change) (next : ℕ) → applies tree c ≡ true → next ≤ 2 ^ 63 → next_after next c ≤ 2 ^ 63
next_after-to tree (Make node parent kind name) next is low =
    let number = ltb-true node (2 ^ 63) (and_parts (nat_le 2 node) (nat_lt node (2 ^ 63)) (Applies-from tree (Make node parent kind name) is).0).1 in omega arith
next_after-to tree (Put node offset contents) next is low = low
next_after-to tree (Cut node size pages) next is low = low
next_after-to tree (Move node parent name) next is low = low
next_after-to tree (Drop node) next is low = low

pub next-to : (tree : Tree) (cs : List Change) (next : ℕ) → changes_apply tree cs ≡ true → next ≤ 2 ^ 63 → next_after_all next cs ≤ 2 ^ 63
next-to tree [] next all low = low
next-to tree (c ∷ cs) next all low =
    let parts = and_parts (applies tree c) (changes_apply (changed tree c) cs) all in next-to (changed tree c) cs (next_after next c) parts.1 (next_after-to tree c next parts.0 low)

-- is the number of a node below the next one
abbrev pub is_below : ℕ → Node → Bool
is_below next node = nat_lt node.number next

pub below-more : (next next' : ℕ) (tree : Tree) → next ≤ next' → list_all (is_below next) tree ≡ true → list_all (is_below next') tree ≡ true
below-more next next' tree more below = list_all-from (is_below next') tree (λ n there. lt-ltb _ _ (omega (arith, ltb-true _ _ (list_all-at (is_below next) tree below n there))))

below-with_node : (next : ℕ) (tree : Tree) (node : Node) → node.number < next → list_all (is_below next) tree ≡ true → list_all (is_below next) (with_node tree node) ≡ true
below-with_node next [] node less below = and_from _ _ (lt-ltb _ _ less) refl
below-with_node next (n ∷ ns) node less below =
    let parts = and_parts (is_below next n) (list_all (is_below next) ns) below in
    elim (cases_Bool (nat_lt node.number n.number)) [
      | inl before ↦ rw before (and_from _ _ (lt-ltb _ _ less) below)
      | inr behind ↦ rw behind (and_from _ _ parts.0 (below-with_node next ns node less parts.1))
    ]

below-with_changed : (next : ℕ) (tree : Tree) (number : ℕ) (f : Node → Node) → ((n : Node) → (f n).number ≡ n.number) → list_all (is_below next) tree ≡ true → list_all (is_below next) (with_changed tree number f) ≡ true
below-with_changed next [] number f keeps below = refl
below-with_changed next (n ∷ ns) number f keeps below =
    let parts = and_parts (is_below next n) (list_all (is_below next) ns) below in
    elim (cases_Bool (has_number number n)) [
      | inl same ↦ rw same (and_from _ _ (subst (λ m. nat_lt m next ≡ true) (sym (keeps n)) parts.0) (below-with_changed next ns number f keeps parts.1))
      | inr other ↦ rw other (and_from _ _ parts.0 (below-with_changed next ns number f keeps parts.1))
    ]

below-without_node : (next : ℕ) (tree : Tree) (number : ℕ) → list_all (is_below next) tree ≡ true → list_all (is_below next) (without_node tree number) ≡ true
below-without_node next [] number below = refl
below-without_node next (n ∷ ns) number below =
    let parts = and_parts (is_below next n) (list_all (is_below next) ns) below in
    elim (cases_Bool (has_number number n)) [
      | inl same ↦ rw same (below-without_node next ns number parts.1)
      | inr other ↦ rw other (and_from _ _ parts.0 (below-without_node next ns number parts.1))
    ]

below-changed : (next : ℕ) (tree : Tree) (c : Change) → list_all (is_below next) tree ≡ true → list_all (is_below (next_after next c)) (changed tree c) ≡ true
below-changed next tree (Make node parent kind name) below = below-with_node (max next (node + 1)) tree _ (omega arith) (below-more next (max next (node + 1)) tree (omega arith) below)
below-changed next tree (Put node offset contents) below = below-with_changed next tree node _ (λ n. refl) below
below-changed next tree (Cut node size pages) below = below-with_changed next tree node _ (λ n. refl) below
below-changed next tree (Move node parent name) below = below-with_changed next tree node _ (λ n. refl) below
below-changed next tree (Drop node) below = below-without_node next tree node below

pub below-changed_all : (cs : List Change) (next : ℕ) (tree : Tree) → list_all (is_below next) tree ≡ true → list_all (is_below (next_after_all next cs)) (changed_all tree cs) ≡ true
below-changed_all [] next tree below = below
below-changed_all (c ∷ cs) next tree below = below-changed_all cs (next_after next c) (changed tree c) (below-changed next tree c below)
