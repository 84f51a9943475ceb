-- Files by their numbers: what changes of names leave of them, and that they are the only ones with their number.
use Rattle.std.proofs.Common.{◌≡◌, ◌∙◌, ◌≤◌, ◌==◌, ◌&&◌, ◌||◌, not, ℕ, Bool, true, false, List, [], ◌∷◌, filter, nat_lt, is_some, refl, sym, ap, arith, inl, inr}
use Rattle.std.proofs.lemmas.Bool.{cases_Bool, and_left, and_parts, both_ways, false≢true, true≢false, eqb-true, ltb-true, ne_eqb, or_cases, or_left, or_parts, or_right}
use Rattle.ktm_world.specs.declared.change.Change.{Change}
use Rattle.ktm_world.specs.declared.change.Change.TheVariants.{Make, Put, Cut, Move, Drop}
use Rattle.ktm_world.specs.declared.recorded.Node.{Node}
use Rattle.ktm_world.specs.Changes.{changed, changed_all, changes_bytes, has_made, is_make, new_content, node_of}
use Rattle.ktm_world.specs.Tree.{Tree, has_number, is_file, numbers_rise, with_changed, with_node, without_node}
use Rattle.txf_calls.specs.Found.{has_file}

-- ---- changes of names

-- is the node a file with this number
abbrev is_file_of : ℕ → Node → Bool
is_file_of n node = node.number == n && is_some node.content

made-other : (tree : Tree) (x : Node) (n : ℕ) → is_file_of n x ≡ false → has_file (with_node tree x) n ≡ has_file tree n
made-other [] x n other = rw other refl
made-other (y ∷ ys) x n other = elim (cases_Bool (nat_lt x.number y.number)) [
  | inl before ↦ rw before (rw other refl)
  | inr behind ↦ rw behind (ap (λ b. is_file_of n y || b) (made-other ys x n other))
]

moved-same : (tree : Tree) (moved n parent : ℕ) (name : List ℕ) → has_file (with_changed tree moved (λ node. record node { parent = parent; name = name })) n ≡ has_file tree n
moved-same [] moved n parent name = refl
moved-same (y ∷ ys) moved n parent name = elim (cases_Bool (has_number moved y)) [
  | inl is ↦ rw is (ap (λ b. is_file_of n y || b) (moved-same ys moved n parent name))
  | inr other ↦ rw other (ap (λ b. is_file_of n y || b) (moved-same ys moved n parent name))
]

left-had : (tree : Tree) (dropped n : ℕ) → has_file (without_node tree dropped) n ≡ true → has_file tree n ≡ true
left-had [] dropped n has = has
left-had (y ∷ ys) dropped n has = elim (cases_Bool (not (has_number dropped y))) [
  | inl stays ↦ elim (or_cases (is_file_of n y) (has_file (without_node ys dropped) n) (rw stays at has)) [
    | inl is ↦ or_left (is_file_of n y) (has_file ys n) is
    | inr later ↦ or_right (is_file_of n y) (has_file ys n) (left-had ys dropped n later)
  ]
  | inr goes ↦ or_right (is_file_of n y) (has_file ys n) (left-had ys dropped n (rw goes at has))
]

-- a file behind a change of names that does not make it was one before
changed-had : (change : Change) (tree : Tree) (n : ℕ) → changes_bytes change ≡ false → (is_make change && node_of change == n) ≡ false → has_file (changed tree change) n ≡ true → has_file tree n ≡ true
changed-had (Make node parent kind name) tree n names other has = sym (made-other tree (record { number = node; parent = parent; name = name; content = new_content kind }) n (and_left (node == n) (is_some (new_content kind)) other)) ∙ has
changed-had (Put node offset contents) tree n names other has = absurd (true≢false names)
changed-had (Cut node size pages) tree n names other has = absurd (true≢false names)
changed-had (Move node parent name) tree n names other has = sym (moved-same tree node n parent name) ∙ has
changed-had (Drop node) tree n names other has = left-had tree node n has

-- a file behind the changes of names of a transaction that does not make it was one before
pub had-before : (changes : List Change) (tree : Tree) (n : ℕ) → has_made changes n ≡ false → has_file (changed_all tree (filter (λ change. not (changes_bytes change)) changes)) n ≡ true → has_file tree n ≡ true
had-before [] tree n made has = has
had-before (c ∷ cs) tree n made has =
    let parts = or_parts (is_make c && node_of c == n) (has_made cs n) made in
    elim (cases_Bool (changes_bytes c)) [
      | inl bytes ↦ had-before cs tree n parts.1 (rw bytes at has)
      | inr names ↦ changed-had c tree n names parts.0 (had-before cs (changed tree c) n parts.1 (rw names at has))
    ]

-- ---- numbers that rise

none-above : (x : Node) (ys : Tree) (n : ℕ) → n ≤ x.number → numbers_rise (x ∷ ys) ≡ true → has_file ys n ≡ false
none-above x [] n most rise = refl
none-above x (y ∷ ys) n most rise =
    let parts = and_parts (nat_lt x.number y.number) (numbers_rise (y ∷ ys)) rise in
    let less = ltb-true x.number y.number parts.0 in
    rw (ne_eqb y.number n (λ e. omega (arith, less, most, e))) (none-above y ys n (omega (arith, less, most)) parts.1)

rest-rises : (x : Node) (ys : Tree) → numbers_rise (x ∷ ys) ≡ true → numbers_rise ys ≡ true
rest-rises x [] rise = refl
rest-rises x (y ∷ ys) rise = (and_parts (nat_lt x.number y.number) (numbers_rise (y ∷ ys)) rise).1

-- a file with this number is what is found by the number
pub only-file : (tree : Tree) (n : ℕ) → numbers_rise tree ≡ true → has_file tree n ≡ true → is_file tree n ≡ true
only-file [] n rise has = absurd (false≢true has)
only-file (x ∷ xs) n rise has = elim (cases_Bool (x.number == n)) [
  | inl here ↦ rw here (elim (or_cases (is_some x.content) (has_file xs n) (rw here at has)) [
    | inl is ↦ is
    | inr later ↦ absurd (both_ways (has_file xs n) (none-above x xs n (omega (arith, eqb-true x.number n here)) rise) later)
  ])
  | inr other ↦ rw other (only-file xs n (rest-rises x xs rise) (rw other at has))
]
