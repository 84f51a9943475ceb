-- Changes that are tried over the files.
use Rattle.std.proofs.Common.{◌≡◌, ℕ, ◌==◌, ◌&&◌, not, Bool, true, false, List, [], ◌∷◌, ◌++◌, Option, Some, None, cond, refl, sym, ◌∙◌, ap, inl, inr}
use Rattle.std.specs.Prelude.{is_none, is_some}
use Rattle.std.specs.List.{list_all}
use Rattle.std.proofs.lemmas.Bool.{and_parts, cases_Bool, eqb-true, true≢false}
use Rattle.ktm_world.specs.declared.change.Change.{Change}
use Rattle.ktm_world.specs.declared.change.Change.TheVariants.{Make, Put, Cut, Move, Drop}
use Rattle.ktm_world.specs.declared.recorded.Node.{Node}
use Rattle.ktm_world.specs.Changes.{applies, bytes_in, changed, changed_all, changes_apply, changes_bytes, is_empty_list, is_whole}
use Rattle.ktm_world.specs.Tree.{Tree, bytes_or_none, content_of, cut_to, is_file, node_at, put_over, with_changed}
use Rattle.ktm_world.proofs.offered.Lookups.{map_node, node_at-with_changed}
use Rattle.ktm_world.specs.Durable.{is_new_in}
use Rattle.txf_overlay.proofs.Trees.{Applies-from, is_there-none}
use Rattle.txf_durable.specs.Recorded.{are_names}

-- ---- bytes

-- other bytes leave a file a file
file-with : (tree : Tree) (node : ℕ) (f : List ℕ → List ℕ) (n : ℕ) → is_file tree node ≡ true
    → is_file (with_changed tree node (λ x. record x { content = Some (f (bytes_or_none x.content)) })) n ≡ is_file tree n
file-with tree node f n file =
    ap (λ (o : Option Node). is_some (content_of o)) (node_at-with_changed tree node step (λ x. refl) n)
    ∙ elim (cases_Bool (node == n)) as (λ z. is_some (content_of (cond (node == n) (map_node step (node_at tree n)) (node_at tree n))) ≡ is_file tree n) [
      | inl same ↦ rw same (go (node_at tree n) (ap (is_file tree) (sym (eqb-true node n same)) ∙ file))
      | inr other ↦ rw other refl
    ]
  where
    step : Node → Node
    step x = record x { content = Some (f (bytes_or_none x.content)) }

    go : (o : Option Node) → is_some (content_of o) ≡ true → is_some (content_of (map_node step o)) ≡ is_some (content_of o)
    go None is = absurd (true≢false (sym is))
    go (Some x) is = sym is

pub file-kept : (tree : Tree) (c : Change) (n : ℕ) → changes_bytes c ≡ true → applies tree c ≡ true → is_file (changed tree c) n ≡ is_file tree n
file-kept tree (Put node offset contents) n bytes is = file-with tree node (λ old. put_over old offset (bytes_in contents)) n (and_parts (is_file tree node) (is_whole contents) is).0
file-kept tree (Cut node size pages) n bytes is = file-with tree node (λ old. cut_to old size) n (and_parts (is_file tree node) (is_empty_list pages) is).0
file-kept tree (Make node parent kind name) n bytes is = absurd (true≢false (sym bytes))
file-kept tree (Move node parent name) n bytes is = absurd (true≢false (sym bytes))
file-kept tree (Drop node) n bytes is = absurd (true≢false (sym bytes))

-- a change of bytes applies behind another one as it does before it
bytes-kept : (tree : Tree) (c d : Change) → changes_bytes c ≡ true → applies tree c ≡ true → changes_bytes d ≡ true → applies (changed tree c) d ≡ applies tree d
bytes-kept tree c (Put node offset contents) bytes is too = ap (λ b. b && is_whole contents) (file-kept tree c node bytes is)
bytes-kept tree c (Cut node size pages) bytes is too = ap (λ b. b && is_empty_list pages) (file-kept tree c node bytes is)
bytes-kept tree c (Make node parent kind name) bytes is too = absurd (true≢false (sym too))
bytes-kept tree c (Move node parent name) bytes is too = absurd (true≢false (sym too))
bytes-kept tree c (Drop node) bytes is too = absurd (true≢false (sym too))

all-kept : (tree : Tree) (c : Change) (ds : List Change) → changes_bytes c ≡ true → applies tree c ≡ true → list_all changes_bytes ds ≡ true
    → list_all (applies (changed tree c)) ds ≡ list_all (applies tree) ds
all-kept tree c [] bytes is all = refl
all-kept tree c (d ∷ ds) bytes is all =
    let parts = and_parts (changes_bytes d) (list_all changes_bytes ds) all in
    let one = bytes-kept tree c d bytes is parts.0 in
    let rest = all-kept tree c ds bytes is parts.1 in
    λ i. one i && rest i

-- changes of bytes apply in order where each of them does
pub bytes-apply : (tree : Tree) (bs : List Change) → list_all changes_bytes bs ≡ true → list_all (applies tree) bs ≡ changes_apply tree bs
bytes-apply tree [] all = refl
bytes-apply tree (c ∷ cs) all =
    let parts = and_parts (changes_bytes c) (list_all changes_bytes cs) all in
    elim (cases_Bool (applies tree c)) [
      | inl is ↦ ap (λ b. applies tree c && b) (sym (all-kept tree c cs parts.0 is parts.1) ∙ bytes-apply (changed tree c) cs parts.1)
      | inr not' ↦ rw not' refl
    ]

-- ---- names, and bytes behind them

pub apply-split : (tree : Tree) (names bytes : List Change) → changes_apply tree (names ++ bytes) ≡ (changes_apply tree names && changes_apply (changed_all tree names) bytes)
apply-split tree [] bytes = refl
apply-split tree (c ∷ cs) bytes = ap (λ b. applies tree c && b) (apply-split (changed tree c) cs bytes) ∙ again (applies tree c) _ _
  where
    again : (a b d : Bool) → (a && (b && d)) ≡ ((a && b) && d)
    again true b d = refl
    again false b d = refl

-- both apply where all do
pub parts-apply : (tree : Tree) (cs names bytes : List Change) → names ++ bytes ≡ cs → changes_apply tree cs ≡ true → (changes_apply tree names ≡ true) × (changes_apply (changed_all tree names) bytes ≡ true)
parts-apply tree cs names bytes whole all = and_parts (changes_apply tree names) (changes_apply (changed_all tree names) bytes) (sym (apply-split tree names bytes) ∙ ap (changes_apply tree) whole ∙ all)

-- where all are changes of bytes there are none of names
pub no-names : (names bytes : List Change) → are_names names ≡ true → list_all changes_bytes (names ++ bytes) ≡ true → names ≡ []
no-names [] bytes are all = refl
no-names (c ∷ cs) bytes are all =
    absurd (not-both (changes_bytes c) (and_parts (not (changes_bytes c)) (are_names cs) are).0 (and_parts (changes_bytes c) (list_all changes_bytes (cs ++ bytes)) all).0)
  where
    not-both : (b : Bool) → not b ≡ true → b ≡ true → ⊥
    not-both true a b = true≢false (sym a)
    not-both false a b = true≢false (sym b)

-- ---- one change

-- one that applies makes no node that is there
new-where : (t : Tree) (c : Change) → applies t c ≡ true → is_new_in t c ≡ true
new-where t (Make node parent kind name) is = ap is_none (is_there-none t node (Applies-from t (Make node parent kind name) is).0)
new-where t (Put node offset contents) is = refl
new-where t (Cut node size pages) is = refl
new-where t (Move node parent name) is = refl
new-where t (Drop node) is = refl

pub alone : (t : Tree) (c : Change) → applies t c ≡ (changes_apply t (c ∷ []) && list_all (is_new_in t) (c ∷ []))
alone t c = elim (cases_Bool (applies t c)) [
  | inl is ↦ rw (is, new-where t c is) refl
  | inr not ↦ rw not refl
]
