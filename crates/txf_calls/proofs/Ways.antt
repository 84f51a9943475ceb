-- The way along a path, name by name.
use Rattle.std.proofs.Common.{◌≡◌, ◌==◌, ◌&&◌, ◌+◌, Bor, subst, option_map, ℕ, zero, suc, ◌<◌, Bool, true, false, List, [], ◌∷◌, ◌++◌, Option, Some, None, refl, sym, ◌∙◌, ap, arith, drop, take, length, is_some, option_and_then, if◌then◌else◌}
use Rattle.std.specs.List.{slice_get}
use Rattle.std.proofs.lemmas.Slice.Eq.{bytes_eq-Decides}
use Rattle.ktm_base.specs.Names.{folded}
use Rattle.ktm_world.specs.declared.recorded.Node.{Node}
use Rattle.ktm_world.specs.FileCalls.{Whereabouts, no_way, directory_of, entered, reached, walk}
use Rattle.ktm_world.specs.Tree.{Tree, child_of, root, same_name}
use Rattle.txf_calls.specs.Leads.{Leads, seen_of, way}
use Rattle.txf_calls.specs.declared.along.Whereabouts.TheVariants.{Free, Node as At}
use Rattle.txf_calls.specs.declared.view.Seen.{Seen}

-- an option that is none has no value
none≢some : {A : Type 0} (a : A) → None ≡ Some a → ⊥
none≢some a is = cc

some≢none : {A : Type 0} (a : A) → Some a ≡ None → ⊥
some≢none a is = cc

-- an option has one value
same_Some : {A : Type 0} (a b : A) → Some a ≡ Some b → a ≡ b
same_Some a b is = cc

-- both parts of a test that passes
and_parts : (a b : Bool) → (a && b) ≡ true → (a ≡ true) × (b ≡ true)
and_parts true true is = (refl, refl)
and_parts true false is = cc
and_parts false b is = cc

-- the names from one on, of the first ones
pub rest-of : (n i : ℕ) (names : List (List ℕ)) (name : List ℕ) → i < n → slice_get names i ≡ Some name → drop i (take n names) ≡ name ∷ drop (suc i) (take n names)
rest-of zero i names name within is = absurd (omega (arith, within))
rest-of (suc n) i [] name within is = absurd cc
rest-of (suc n) zero (x ∷ names) name within is = ap (λ y. y ∷ take n names) (cc)
rest-of (suc n) (suc i) (x ∷ names) name within is = rest-of n i names name (omega (arith, within)) is

-- where a name leads behind a way
abbrev pub last-of : Tree → List ℕ → Option ℕ → Whereabouts
last-of tree name None = no_way
last-of tree name (Some directory) = reached (child_of tree directory name) directory name

pub walk-last : (tree : Tree) (d : ℕ) (names : List (List ℕ)) (name : List ℕ) → walk tree (Some d) (names ++ name ∷ []) ≡ last-of tree name (way tree d names)
walk-last tree d [] name = refl
walk-last tree d (n ∷ []) name = elim (entered (child_of tree d n)) as (λ e. walk tree e (name ∷ []) ≡ last-of tree name (option_and_then (λ next. way tree next []) e)) [
  | None ↦ refl
  | Some e ↦ refl
]
walk-last tree d (n ∷ m ∷ ms) name = elim (entered (child_of tree d n)) as (λ e. walk tree e ((m ∷ ms) ++ name ∷ []) ≡ last-of tree name (option_and_then (λ next. way tree next (m ∷ ms)) e)) [
  | None ↦ refl
  | Some e ↦ walk-last tree e (m ∷ ms) name
]

-- the directory behind some names
pub directory-behind : (tree : Tree) (d : ℕ) (n : List ℕ) (ns : List (List ℕ)) → directory_of (walk tree (Some d) (n ∷ ns)) ≡ way tree d (n ∷ ns)
directory-behind tree d n [] = elim (child_of tree d n) as (λ c. directory_of (reached c d n) ≡ option_and_then (λ next. Some next) (entered c)) [
  | None ↦ refl
  | Some node ↦ elim (is_some node.content) as (λ b. (if b then None else Some node.number) ≡ option_and_then (λ next. Some next) (if b then None else Some node.number)) [ true ↦ refl | false ↦ refl ]
]
directory-behind tree d n (m ∷ ms) = elim (entered (child_of tree d n)) as (λ e. directory_of (walk tree e (m ∷ ms)) ≡ option_and_then (λ next. way tree next (m ∷ ms)) e) [
  | None ↦ refl
  | Some e ↦ directory-behind tree e m ms
]

-- the way goes on by the name at hand
pub way-step : (tree : Tree) (d n i : ℕ) (names : List (List ℕ)) (name : List ℕ) (e : Option ℕ) → i < n → slice_get names i ≡ Some name → e ≡ entered (child_of tree d name)
    → way tree d (drop i (take n names)) ≡ option_and_then (λ next. way tree next (drop (i + 1) (take n names))) e
way-step tree d n i names name e within is enters =
    let next : suc i ≡ i + 1 = omega arith in
    ap (way tree d) (rest-of n i names name within is ∙ ap (λ k. name ∷ drop k (take n names)) next) ∙ ap (λ o. option_and_then (λ m. way tree m (drop (i + 1) (take n names))) o) (sym enters)

-- all names of a path, and the last one behind the others
pub names-last : (names : List (List ℕ)) (n : ℕ) (name : List ℕ) → slice_get names n ≡ Some name → length names ≡ suc n → names ≡ take n names ++ name ∷ []
names-last [] n name is many = absurd cc
names-last (x ∷ []) zero name is many = ap (λ y. y ∷ []) (cc)
names-last (x ∷ y ∷ names) zero name is many = absurd (omega (arith, many))
names-last (x ∷ names) (suc n) name is many = ap (λ xs. x ∷ xs) (names-last names n name is (omega (arith, many)))

-- all names
pub names-all : (names : List (List ℕ)) (n : ℕ) → n ≡ length names → take n names ≡ names
names-all [] n is = rw is refl
names-all (x ∷ names) zero is = absurd (omega (arith, is))
names-all (x ∷ names) (suc n) is = ap (λ xs. x ∷ xs) (names-all names n (omega (arith, is)))

-- the directory that a path leads to
pub directory-at : (tree : Tree) (names : List (List ℕ)) → directory_of (walk tree (Some root) names) ≡ way tree root names
directory-at tree [] = refl
directory-at tree (n ∷ ns) = directory-behind tree root n ns

-- where the last name leads
pub leads-last : (tree : Tree) (names : List (List ℕ)) (n : ℕ) (name : List ℕ) → slice_get names n ≡ Some name → length names ≡ suc n
    → walk tree (Some root) names ≡ last-of tree name (way tree root (take n names))
leads-last tree names n name is many = ap (walk tree (Some root)) (names-last names n name is many) ∙ walk-last tree root (take n names) name

-- the way ends before the last name
pub leads-none : (tree : Tree) (d n : ℕ) (names : List (List ℕ)) → n < length names → way tree d (take n names) ≡ None → walk tree (Some d) names ≡ no_way
leads-none tree d zero names within none = absurd (some≢none _ none)
leads-none tree d (suc n) [] within none = absurd (omega (arith, within))
leads-none tree d (suc n) (x ∷ []) within none = absurd (omega (arith, within))
leads-none tree d (suc n) (x ∷ y ∷ ys) within none = on (λ e. leads-none tree e n (y ∷ ys) (omega (arith, within))) (entered (child_of tree d x)) none
  where
    on : ((e : ℕ) → way tree e (take n (y ∷ ys)) ≡ None → walk tree (Some e) (y ∷ ys) ≡ no_way)
        → (e : Option ℕ) → option_and_then (λ next. way tree next (take n (y ∷ ys))) e ≡ None → walk tree e (y ∷ ys) ≡ no_way
    on further None is = refl
    on further (Some e) is = further e is

-- a node that is found has the name
found-named : (d : ℕ) (name : List ℕ) (tree : Tree) (node : Node) → child_of tree d name ≡ Some node → same_name node.name name ≡ true
found-named d name [] node is = absurd (none≢some _ is)
found-named d name (x ∷ xs) node is = on (found-named d name xs node) ((x.parent == d) && same_name x.name name) refl
  where
    on : (child_of xs d name ≡ Some node → same_name node.name name ≡ true) → (b : Bool) → ((x.parent == d) && same_name x.name name) ≡ b → same_name node.name name ≡ true
    on further true is-it = subst (λ n. same_name n.name name ≡ true) (same_Some _ _ (sym (ap (λ b. if b then Some x else child_of xs d name) is-it) ∙ is)) (and_parts (x.parent == d) (same_name x.name name) is-it).1
    on further false is-not = further (sym (ap (λ b. if b then Some x else child_of xs d name) is-not) ∙ is)

-- what is told where a name was looked up behind the way
module _ (tree : Tree) (names : List (List ℕ)) (n : ℕ) (name : Bor (List ℕ)) (d : ℕ) (found : Option Seen)
    (is : slice_get names n ≡ Some name.now) (many : length names ≡ suc n) (led : way tree root (take n names) ≡ Some d)
    (looked : found ≡ option_map seen_of (child_of tree d name.now)) where
  leads : walk tree (Some root) names ≡ reached (child_of tree d name.now) d name.now
  leads = leads-last tree names n name.now is many ∙ ap (last-of tree name.now) led

  on-node : (node : Seen) (c : Option Node) → child_of tree d name.now ≡ c → option_map seen_of c ≡ Some node → Leads (At node name) (reached c d name.now)
  on-node node None there is-it = absurd (none≢some _ is-it)
  on-node node (Some other) there is-it = (sym (same_Some _ _ is-it), (bytes_eq-Decides (folded other.name) (folded name.now)).0 (found-named d name.now tree other there))

  on-free : (c : Option Node) → option_map seen_of c ≡ None → Leads (Free d name) (reached c d name.now)
  on-free None is-it = (refl, refl)
  on-free (Some other) is-it = absurd (some≢none _ is-it)

  pub leads-node : (node : Seen) → found ≡ Some node → Leads (At node name) (walk tree (Some root) names)
  leads-node node is-it = subst (Leads (At node name)) (sym leads) (on-node node (child_of tree d name.now) refl (sym looked ∙ is-it))

  pub leads-free : found ≡ None → Leads (Free d name) (walk tree (Some root) names)
  leads-free is-it = subst (Leads (Free d name)) (sym leads) (on-free (child_of tree d name.now) (sym looked ∙ is-it))
