-- A way that comes to the root comes to it in no more steps than there are nodes.
use Rattle.std.proofs.Common.{◌≡◌, ℕ, ◌+◌, ◌-◌, ◌<◌, ◌≤◌, ◌==◌, true, is_some, [], ◌∷◌, length, None, sym, ◌∙◌, ap, subst, arith, inl, inr, ◌⊎◌, zero, suc}
use Rattle.std.proofs.lemmas.Bool.{cases_Bool, cases_eq, ne_eqb}
use Rattle.ktm_world.specs.Tree.{Tree, root, node_at, is_there, parent_of, without_node}
use Rattle.ktm_world.proofs.offered.Lookups.{node_at-without_node}
use Rattle.txf_laws.proofs.Ways.{above, above-add}

-- the first number at which a function has a value, if it has it up to a bound
first : (f : ℕ → ℕ) (value bound : ℕ) → ((i : ℕ) × (i ≤ bound) × (f i ≡ value) × ((j : ℕ) → j < i → f j ≡ value → ⊥)) ⊎ ((i : ℕ) → i ≤ bound → f i ≡ value → ⊥)
first f value zero = elim (cases_eq (f 0) value) [
  | inl is ↦ inl (0, omega arith, is, λ j less. absurd (omega (arith, less)))
  | inr other ↦ inr (λ i few is. let e : i ≡ 0 = omega (arith, few) in other (subst (λ i. f i ≡ value) e is))
]
first f value (suc bound) = elim (first f value bound) [
  | inl found ↦ inl (found.0, omega (arith, found.1), found.2, found.3)
  | inr none ↦ elim (cases_eq (f (suc bound)) value) [
    | inl is ↦ inl (suc bound, omega arith, is, λ j less. none j (omega (arith, less)))
    | inr other ↦ inr (λ i few is. elim (cases_eq i (suc bound)) [
      | inl e ↦ other (subst (λ i. f i ≡ value) e is)
      | inr less ↦ none i (omega (arith, few, less)) is
    ])
  ]
]

length-without-le : (tree : Tree) (m : ℕ) → length (without_node tree m) ≤ length tree
length-without-le [] m = omega arith
length-without-le (x ∷ xs) m = let ih = length-without-le xs m in elim (cases_Bool (x.number == m)) [
  | inl is ↦ rw is (omega (arith, ih))
  | inr other ↦ rw other (omega (arith, ih))
]

pub length-without : (tree : Tree) (m : ℕ) → is_some (node_at tree m) ≡ true → length (without_node tree m) < length tree
length-without [] m there = absurd (cc)
length-without (x ∷ xs) m there = elim (cases_Bool (x.number == m)) [
  | inl is ↦ rw is (let le = length-without-le xs m in omega (arith, le))
  | inr other ↦ let ih = length-without xs m (rw other at there) in rw other (omega (arith, ih))
]

-- as many different numbers as these have nodes
pigeons : (f : ℕ → ℕ) (count : ℕ) (tree : Tree) → ((i : ℕ) → i < count → is_some (node_at tree (f i)) ≡ true) → ((i j : ℕ) → i < j → j < count → f i ≡ f j → ⊥) → count ≤ length tree
pigeons f zero tree there differ = omega arith
pigeons f (suc count) tree there differ =
    let less = length-without tree (f count) (there count (omega arith)) in
    let ih = pigeons f count (without_node tree (f count))
    (λ i few. rw (node_at-without_node tree (f count) (f i), ne_eqb (f count) (f i) (λ e. differ i count few (omega arith) (sym e))) (there i (omega (arith, few))))
    (λ i j before few. differ i j before (omega (arith, few))) in
    omega (arith, less, ih)

-- ---- ways

module _ (tree : Tree) (none : node_at tree root ≡ None) (up : (d : ℕ) → is_there tree (parent_of (node_at tree d)) ≡ true) where
  all-there : (steps m : ℕ) → is_there tree m ≡ true → is_there tree (above tree m steps) ≡ true
  all-there zero m there = there
  all-there (suc steps) m there = all-there steps (parent_of (node_at tree m)) (up m)

  found-below : (m : ℕ) → is_there tree m ≡ true → (m ≡ root → ⊥) → is_some (node_at tree m) ≡ true
  found-below m there other = rw (ne_eqb m root other) at there

  pub short : (m steps : ℕ) → is_there tree m ≡ true → above tree m steps ≡ root → (k : ℕ) × (k ≤ length tree) × (above tree m k ≡ root)
  short m steps there met = elim (first (λ i. above tree m i) root steps) [
    | inr never ↦ absurd (never steps (omega arith) met)
    | inl found ↦ (
      found.0,
      pigeons (λ i. above tree m i) found.0 tree
          (λ i less. found-below (above tree m i) (all-there i m there) (found.3 i less))
          (λ i j before less same.
          let e : found.0 ≡ j + (found.0 - j) = omega (arith, less) in
          found.3 (i + (found.0 - j)) (omega (arith, before, less))
          (above-add tree i (found.0 - j) m ∙ ap (λ n. above tree n (found.0 - j)) same ∙ sym (above-add tree j (found.0 - j) m) ∙ ap (above tree m) (sym e) ∙ found.2)),
      found.2,
    )
  ]
