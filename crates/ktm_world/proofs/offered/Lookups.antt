-- Trees by their lookups: what a change does to each, and that a rising tree is known by them.
use Rattle.std.proofs.Common.{◌≡◌, ℕ, ◌<◌, ◌≤◌, ◌==◌, true, false, cond, [], ◌∷◌, Option, Some, None, refl, sym, ◌∙◌, arith, inl, inr}
use Rattle.std.proofs.lemmas.Bool.{cases_Bool, cases_order, eq-eqb, ne_eqb, eqb-true, eqb-false, ltb-true, ltb-false, lt-ltb, and_parts, and_from}
use Rattle.std.proofs.lemmas.Option.{none-some, same_Some}
use Rattle.std.specs.Bool.{⊤}
use Rattle.std.specs.Prelude.{nat_lt}
use Rattle.ktm_world.specs.declared.change.Change.{Change}
use Rattle.ktm_world.specs.declared.change.Change.TheVariants.{Make, Put, Cut, Move, Drop}
use Rattle.ktm_world.specs.declared.recorded.Node.{Node}
use Rattle.ktm_world.specs.Changes.{changed, bytes_in, new_content, node_of, is_make}
use Rattle.ktm_world.specs.Tree.{Tree, node_at, with_node, with_changed, without_node, numbers_rise, bytes_or_none, cut_to, put_over}

-- ---- lookups after a change

pub node_at-with_node : (tree : Tree) (node : Node) (m : ℕ) → node_at tree node.number ≡ None → node_at (with_node tree node) m ≡ cond (node.number == m) (Some node) (node_at tree m)
node_at-with_node [] node m new = refl
node_at-with_node (x ∷ xs) node m new = elim (cases_Bool (nat_lt node.number x.number)) [
  | inl before ↦ rw before refl
  | inr behind ↦ elim (cases_Bool (x.number == node.number)) [
    | inl same ↦ absurd (cc)
    | inr other ↦
        let ih : node_at (with_node xs node) m ≡ cond (node.number == m) (Some node) (node_at xs m) = node_at-with_node xs node m (rw other at new) in
        rw behind (grind (arith, ih, other))
  ]
]

-- what a change makes of a node that is there
abbrev pub map_node : (Node → Node) → Option Node → Option Node
map_node f None = None
map_node f (Some node) = Some (f node)

pub node_at-with_changed : (tree : Tree) (number : ℕ) (f : Node → Node) → ((n : Node) → (f n).number ≡ n.number) → (m : ℕ)
    → node_at (with_changed tree number f) m ≡ cond (number == m) (map_node f (node_at tree m)) (node_at tree m)
node_at-with_changed [] number f keeps m = elim (number == m) as (λ b. ◌≡◌ {A = Option Node} None (cond b None None)) [ true ↦ refl | false ↦ refl ]
node_at-with_changed (x ∷ xs) number f keeps m =
    let ih : node_at (with_changed xs number f) m ≡ cond (number == m) (map_node f (node_at xs m)) (node_at xs m) = node_at-with_changed xs number f keeps m in
    elim (cases_Bool (x.number == number)) [
      | inl same ↦ elim (cases_Bool (x.number == m)) [
        | inl is ↦ rw (same, is, eq-eqb (f x).number m (keeps x ∙ eqb-true _ _ is), eq-eqb number m (sym (eqb-true _ _ same) ∙ eqb-true _ _ is)) refl
        | inr other ↦ rw (same, other, ne_eqb (f x).number m (λ e. eqb-false _ _ other (sym (keeps x) ∙ e))) ih
      ]
      | inr differs ↦ elim (cases_Bool (x.number == m)) [
        | inl is ↦ rw (differs, is, ne_eqb number m (λ e. eqb-false _ _ differs (eqb-true _ _ is ∙ sym e))) refl
        | inr other ↦ rw (differs, other) ih
      ]
    ]

pub node_at-without_node : (tree : Tree) (number m : ℕ) → node_at (without_node tree number) m ≡ cond (number == m) None (node_at tree m)
node_at-without_node [] number m = elim (number == m) as (λ b. ◌≡◌ {A = Option Node} None (cond b None None)) [ true ↦ refl | false ↦ refl ]
node_at-without_node (x ∷ xs) number m =
    let ih : node_at (without_node xs number) m ≡ cond (number == m) None (node_at xs m) = node_at-without_node xs number m in
    elim (cases_Bool (x.number == number)) [
      | inl same ↦ elim (cases_Bool (x.number == m)) [
        | inl is ↦ rw (same, is) (ih ∙ rw (eq-eqb number m (sym (eqb-true _ _ same) ∙ eqb-true _ _ is)) refl)
        | inr other ↦ rw (same, other) ih
      ]
      | inr differs ↦ elim (cases_Bool (x.number == m)) [
        | inl is ↦ rw (differs, is, ne_eqb number m (λ e. eqb-false _ _ differs (eqb-true _ _ is ∙ sym e))) refl
        | inr other ↦ rw (differs, other) ih
      ]
    ]

-- what a change makes of the node that it finds at its number
abbrev pub remade : Change → Option Node → Option Node
remade (Make node parent kind name) old = Some (record { number = node; parent = parent; name = name; content = new_content kind })
remade (Put node offset contents) old = map_node (λ n. record n { content = Some (put_over (bytes_or_none n.content) offset (bytes_in contents)) }) old
remade (Cut node size pages) old = map_node (λ n. record n { content = Some (cut_to (bytes_or_none n.content) size) }) old
remade (Move node parent name) old = map_node (λ n. record n { parent = parent; name = name }) old
remade (Drop node) old = None

-- a node that is made is not there yet
abbrev pub Fits : Tree → Change → Type 0
Fits tree c = is_make c ≡ true → node_at tree (node_of c) ≡ None

pub node_at-changed : (tree : Tree) (c : Change) → Fits tree c → (m : ℕ) → node_at (changed tree c) m ≡ cond (node_of c == m) (remade c (node_at tree m)) (node_at tree m)
node_at-changed tree (Make node parent kind name) fits m = node_at-with_node tree _ m (fits refl)
node_at-changed tree (Put node offset contents) fits m = node_at-with_changed tree node _ (λ n. refl) m
node_at-changed tree (Cut node size pages) fits m = node_at-with_changed tree node _ (λ n. refl) m
node_at-changed tree (Move node parent name) fits m = node_at-with_changed tree node _ (λ n. refl) m
node_at-changed tree (Drop node) fits m = node_at-without_node tree node m

pub node_at-elsewhere : (tree : Tree) (c : Change) → Fits tree c → (m : ℕ) → (node_of c ≡ m → ⊥) → node_at (changed tree c) m ≡ node_at tree m
node_at-elsewhere tree c fits m other = node_at-changed tree c fits m ∙ rw (ne_eqb (node_of c) m other) refl

pub node_at-there : (tree : Tree) (c : Change) → Fits tree c → node_at (changed tree c) (node_of c) ≡ remade c (node_at tree (node_of c))
node_at-there tree c fits = node_at-changed tree c fits (node_of c) ∙ rw (eq-eqb (node_of c) (node_of c) refl) refl

-- ---- rising trees

-- each number of the tree is greater
abbrev pub Above : ℕ → Tree → Type 0
Above n [] = ⊤
Above n (x ∷ xs) = n < x.number × Above n xs

abbrev pub Rises : Tree → Type 0
Rises [] = ⊤
Rises (x ∷ xs) = Above x.number xs × Rises xs

pub Above-lower : (m n : ℕ) (tree : Tree) → m ≤ n → Above n tree → Above m tree
Above-lower m n [] low above = tt
Above-lower m n (x ∷ xs) low above = (omega (arith, above.0), Above-lower m n xs low above.1)

pub Rises-from : (tree : Tree) → numbers_rise tree ≡ true → Rises tree
Rises-from [] rise = tt
Rises-from (x ∷ []) rise = (tt, tt)
Rises-from (x ∷ y ∷ ys) rise =
    let parts = and_parts (nat_lt x.number y.number) (numbers_rise (y ∷ ys)) rise in
    let less = ltb-true x.number y.number parts.0 in
    let rest = Rises-from (y ∷ ys) parts.1 in
    ((less, Above-lower x.number y.number ys (omega arith) rest.0), rest)

pub numbers_rise-from : (tree : Tree) → Rises tree → numbers_rise tree ≡ true
numbers_rise-from [] rise = refl
numbers_rise-from (x ∷ []) rise = refl
numbers_rise-from (x ∷ y ∷ ys) rise = and_from _ _ (lt-ltb x.number y.number rise.0.0) (numbers_rise-from (y ∷ ys) rise.1)

pub node_at-below : (tree : Tree) (n m : ℕ) → Above n tree → m ≤ n → node_at tree m ≡ None
node_at-below [] n m above low = refl
node_at-below (x ∷ xs) n m above low = rw (ne_eqb x.number m (λ e. omega (arith, above.0))) (node_at-below xs n m above.1 low)

-- two rising trees with the same lookups are one
pub same_trees : (xs ys : Tree) → Rises xs → Rises ys → ((m : ℕ) → node_at xs m ≡ node_at ys m) → xs ≡ ys
same_trees [] [] rises rises' same = refl
same_trees [] (y ∷ ys) rises rises' same = absurd (none-some y (same y.number ∙ rw (eq-eqb y.number y.number refl) refl))
same_trees (x ∷ xs) [] rises rises' same = absurd (none-some x (sym (same x.number) ∙ rw (eq-eqb x.number x.number refl) refl))
same_trees (x ∷ xs) (y ∷ ys) rises rises' same = elim (cases_order x.number y.number) [
  | inl e ↦
      let head : x ≡ y = same_Some x y (sym (rw (eq-eqb x.number x.number refl) refl) ∙ same x.number ∙ rw (eq-eqb y.number x.number (sym e)) refl) in
      let tail : xs ≡ ys = same_trees xs ys rises.1 rises'.1 (λ m. elim (cases_Bool (x.number == m)) [
        | inl is ↦ node_at-below xs x.number m rises.0 (omega (arith, eqb-true _ _ is)) ∙ sym (node_at-below ys y.number m rises'.0 (omega (arith, eqb-true _ _ is)))
        | inr other ↦ rw (other, ne_eqb y.number m (λ e'. eqb-false _ _ other (e ∙ e'))) at (same m)
      ]) in
      λ i. head i ∷ tail i
  | inr (inl less) ↦
      absurd (none-some x (sym (rw (ne_eqb y.number x.number (λ e. omega (arith, less))) (node_at-below ys y.number x.number rises'.0 (omega (arith, less)))) ∙ sym (same x.number) ∙ rw (eq-eqb x.number x.number refl) refl))
  | inr (inr more) ↦
      absurd (none-some y (sym (rw (ne_eqb x.number y.number (λ e. omega (arith, more))) (node_at-below xs x.number y.number rises.0 (omega (arith, more)))) ∙ same y.number ∙ rw (eq-eqb y.number y.number refl) refl))
]

-- ---- a change keeps numbers rising

Above-with_node : (tree : Tree) (node : Node) (n : ℕ) → Above n tree → n < node.number → Above n (with_node tree node)
Above-with_node [] node n above less = (less, tt)
Above-with_node (x ∷ xs) node n above less = elim (cases_Bool (nat_lt node.number x.number)) [
  | inl before ↦ rw before (less, above)
  | inr behind ↦ rw behind (above.0, Above-with_node xs node n above.1 less)
]

Rises-with_node : (tree : Tree) (node : Node) → node_at tree node.number ≡ None → Rises tree → Rises (with_node tree node)
Rises-with_node [] node new rises = (tt, tt)
Rises-with_node (x ∷ xs) node new rises = elim (cases_Bool (nat_lt node.number x.number)) [
  | inl before ↦ rw before ((ltb-true _ _ before, Above-lower node.number x.number xs (omega (arith, ltb-true _ _ before)) rises.0), rises)
  | inr behind ↦ elim (cases_Bool (x.number == node.number)) [
    | inl same ↦ absurd (cc)
    | inr other ↦ rw behind (
      Above-with_node xs node x.number rises.0 (omega (arith, ltb-false _ _ behind, eqb-false _ _ other)),
      Rises-with_node xs node (rw other at new) rises.1,
    )
  ]
]

Above-with_changed : (tree : Tree) (number : ℕ) (f : Node → Node) → ((n : Node) → (f n).number ≡ n.number) → (n : ℕ) → Above n tree → Above n (with_changed tree number f)
Above-with_changed [] number f keeps n above = tt
Above-with_changed (x ∷ xs) number f keeps n above = elim (cases_Bool (x.number == number)) [
  | inl same ↦ rw same (omega (arith, keeps x, above.0), Above-with_changed xs number f keeps n above.1)
  | inr other ↦ rw other (above.0, Above-with_changed xs number f keeps n above.1)
]

Rises-with_changed : (tree : Tree) (number : ℕ) (f : Node → Node) → ((n : Node) → (f n).number ≡ n.number) → Rises tree → Rises (with_changed tree number f)
Rises-with_changed [] number f keeps rises = tt
Rises-with_changed (x ∷ xs) number f keeps rises = elim (cases_Bool (x.number == number)) [
  | inl same ↦ rw same (rw (keeps x) (Above-with_changed xs number f keeps x.number rises.0), Rises-with_changed xs number f keeps rises.1)
  | inr other ↦ rw other (Above-with_changed xs number f keeps x.number rises.0, Rises-with_changed xs number f keeps rises.1)
]

Above-without_node : (tree : Tree) (number n : ℕ) → Above n tree → Above n (without_node tree number)
Above-without_node [] number n above = tt
Above-without_node (x ∷ xs) number n above = elim (cases_Bool (x.number == number)) [
  | inl same ↦ rw same (Above-without_node xs number n above.1)
  | inr other ↦ rw other (above.0, Above-without_node xs number n above.1)
]

Rises-without_node : (tree : Tree) (number : ℕ) → Rises tree → Rises (without_node tree number)
Rises-without_node [] number rises = tt
Rises-without_node (x ∷ xs) number rises = elim (cases_Bool (x.number == number)) [
  | inl same ↦ rw same (Rises-without_node xs number rises.1)
  | inr other ↦ rw other (Above-without_node xs number x.number rises.0, Rises-without_node xs number rises.1)
]

pub Rises-changed : (tree : Tree) (c : Change) → Fits tree c → Rises tree → Rises (changed tree c)
Rises-changed tree (Make node parent kind name) fits rises = Rises-with_node tree _ (fits refl) rises
Rises-changed tree (Put node offset contents) fits rises = Rises-with_changed tree node _ (λ n. refl) rises
Rises-changed tree (Cut node size pages) fits rises = Rises-with_changed tree node _ (λ n. refl) rises
Rises-changed tree (Move node parent name) fits rises = Rises-with_changed tree node _ (λ n. refl) rises
Rises-changed tree (Drop node) fits rises = Rises-without_node tree node rises

-- ---- changes of different nodes commute

pub Fits-elsewhere : (tree : Tree) (b c : Change) → Fits tree b → Fits tree c → (node_of b ≡ node_of c → ⊥) → Fits (changed tree b) c
Fits-elsewhere tree b c fits fits' other make = node_at-elsewhere tree b fits (node_of c) other ∙ fits' make

pub changed-commute : (tree : Tree) (b c : Change) → Rises tree → Fits tree b → Fits tree c → (node_of b ≡ node_of c → ⊥) → changed (changed tree b) c ≡ changed (changed tree c) b
changed-commute tree b c rises fits fits' other =
    let fits_c = Fits-elsewhere tree b c fits fits' other in
    let fits_b = Fits-elsewhere tree c b fits' fits (λ e. other (sym e)) in
    same_trees _ _ (Rises-changed _ c fits_c (Rises-changed tree b fits rises)) (Rises-changed _ b fits_b (Rises-changed tree c fits' rises)) (λ m.
    elim (cases_Bool (node_of c == m)) [
      | inl at_c ↦
          let not_b : node_of b ≡ m → ⊥ = λ e. other (e ∙ sym (eqb-true _ _ at_c)) in
          node_at-changed _ c fits_c m ∙ rw (at_c, node_at-elsewhere tree b fits m not_b) (sym (node_at-elsewhere _ b fits_b m not_b ∙ node_at-changed tree c fits' m ∙ rw at_c refl))
      | inr not_c ↦
          let elsewhere = eqb-false _ _ not_c in
          node_at-elsewhere _ c fits_c m elsewhere ∙ node_at-changed tree b fits m ∙ sym (node_at-changed _ b fits_b m ∙ rw (node_at-elsewhere tree c fits' m elsewhere) refl)
    ])
