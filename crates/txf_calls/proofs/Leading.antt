-- What a path leads to is there, and has a short name.
use Rattle.std.proofs.Common.{◌≡◌, ◌∙◌, ◌≤◌, ◌==◌, ◌&&◌, ℕ, Bool, true, List, [], ◌∷◌, All, find, is_some, length, Option, Some, None, refl, sym, ap, subst, inl, inr}
use Rattle.std.specs.List.{list_any}
use Rattle.std.proofs.lemmas.Bool.{cases_Bool, and_from, and_parts, both_ways, eq-eqb, or_right}
use Rattle.std.proofs.lemmas.List.{length-map}
use Rattle.std.proofs.lemmas.List.Elements.{All-head, All-tail}
use Rattle.std.proofs.lemmas.Option.{none-some, same_Some}
use Rattle.std.proofs.lemmas.Slice.Eq.{bytes_eq-Decides}
use Rattle.ktm_base.specs.declared.limits.TheConstants.{MOST_NAME_BYTES}
use Rattle.ktm_base.specs.Names.{IsName, folded, folded_byte}
use Rattle.ktm_world.specs.declared.recorded.Node.{Node}
use Rattle.ktm_world.specs.FileCalls.{no_way, at_root, entered, reached, walk}
use Rattle.ktm_world.specs.Holds.{place}
use Rattle.ktm_world.specs.Laws.{PathLaw}
use Rattle.ktm_world.specs.Paths.{path_of}
use Rattle.ktm_world.specs.Tree.{Tree, child_of, has_number, is_there, node_at, root, same_name}
use Rattle.txf_calls.specs.Found.{IsFound, has_file}
use Rattle.txf_calls.specs.Leads.{Leads}
use Rattle.txf_calls.specs.declared.along.Whereabouts.{Whereabouts}
use Rattle.txf_calls.specs.declared.along.Whereabouts.TheVariants.{NoWay, Free, Root, Node as At}
use Rattle.txf_calls.specs.declared.view.Seen.{Seen}

-- ---- what is found in a list

found-passes : {X : Type 0} (test : X → Bool) (xs : List X) (x : X) → find test xs ≡ Some x → test x ≡ true
found-passes test [] x found = absurd (none-some x found)
found-passes test (y ∷ ys) x found = elim (cases_Bool (test y)) [
  | inl is ↦ subst (λ z. test z ≡ true) (same_Some y x (rw is at found)) is
  | inr other ↦ found-passes test ys x (rw other at found)
]

found-any : {X : Type 0} (test also : X → Bool) (xs : List X) (x : X) → find test xs ≡ Some x → also x ≡ true → list_any also xs ≡ true
found-any test also [] x found is = absurd (none-some x found)
found-any test also (y ∷ ys) x found is = elim (cases_Bool (also y)) [
  | inl here ↦ rw here refl
  | inr other ↦ rw other (elim (cases_Bool (test y)) [
    | inl passes ↦ absurd (both_ways (also y) other (subst (λ z. also z ≡ true) (sym (same_Some y x (rw passes at found))) is))
    | inr fails ↦ found-any test also ys x (rw fails at found) is
  ])
]

any-found : {X : Type 0} (test : X → Bool) (xs : List X) → list_any test xs ≡ true → is_some (find test xs) ≡ true
any-found test [] any = any
any-found test (y ∷ ys) any = elim (cases_Bool (test y)) [ inl is ↦ rw is refl | inr other ↦ rw other (any-found test ys (rw other at any)) ]

-- ---- a child

-- is it the child with this name
abbrev is_child : ℕ → List ℕ → Node → Bool
is_child directory name node = node.parent == directory && same_name node.name name

module _ (tree : Tree) (directory : ℕ) (name : List ℕ) (node : Node) (found : child_of tree directory name ≡ Some node) where
  child-there : is_there tree node.number ≡ true
  child-there = or_right (node.number == root) (is_some (node_at tree node.number)) (any-found (has_number node.number) tree (found-any (is_child directory name) (has_number node.number) tree node found (eq-eqb node.number node.number refl)))

  child-file : is_some node.content ≡ true → has_file tree node.number ≡ true
  child-file file = found-any (is_child directory name) (λ other. other.number == node.number && is_some other.content) tree node found (and_from (node.number == node.number) (is_some node.content) (eq-eqb node.number node.number refl) file)

  child-named : folded node.name ≡ folded name
  child-named = (bytes_eq-Decides (folded node.name) (folded name)).0 (and_parts (node.parent == directory) (same_name node.name name) (found-passes (is_child directory name) tree node found)).1

length-folded : (name : List ℕ) → length (folded name) ≡ length name
length-folded name = length-map name folded_byte

-- names that are the same but for case are as long
same-length : (a b : List ℕ) → folded a ≡ folded b → length a ≡ length b
same-length a b same = sym (length-folded a) ∙ ap length same ∙ length-folded b

-- ---- where a path leads

lost : (tree : Tree) (t : Whereabouts) → Leads t no_way → IsFound tree t
lost tree NoWay led = tt
lost tree (Free d n) led = absurd led
lost tree Root led = tt
lost tree (At node n) led = absurd led

rooted : (tree : Tree) (t : Whereabouts) → Leads t at_root → IsFound tree t
rooted tree NoWay led = tt
rooted tree (Free d n) led = absurd led
rooted tree Root led = tt
rooted tree (At node n) led = absurd led

module _ (tree : Tree) (directory : ℕ) (name : List ℕ) (there : is_there tree directory ≡ true) (short : length name ≤ MOST_NAME_BYTES) where
  last : (c : Option Node) → child_of tree directory name ≡ c → (t : Whereabouts) → Leads t (reached c directory name) → IsFound tree t
  last None is NoWay led = tt
  last None is (Free d n) led = record { there = subst (λ d. is_there tree d ≡ true) (sym led.0) there; short = subst (λ n. length n ≤ MOST_NAME_BYTES) (sym led.1) short }
  last None is Root led = tt
  last None is (At node n) led = absurd led
  last (Some other) is NoWay led = tt
  last (Some other) is (Free d n) led = absurd led
  last (Some other) is Root led = tt
  last (Some other) is (At node n) led = record {
    file = subst (λ (s : Seen). s.is_file ≡ true → has_file tree s.number ≡ true) (sym led.0) (child-file tree directory name other is);
    short = subst (λ k. k ≤ 255) (sym (same-length n.now name (sym led.1 ∙ child-named tree directory name other is))) short;
  }

found-along : (tree : Tree) (directory : ℕ) (names : List (List ℕ)) → is_there tree directory ≡ true → All IsName names → (t : Whereabouts) → Leads t (walk tree (Some directory) names) → IsFound tree t
found-along tree directory [] there named t led = rooted tree t led
found-along tree directory (name ∷ []) there named t led = last tree directory name there (All-head IsName name [] named).few (child_of tree directory name) refl t led
found-along tree directory (name ∷ next ∷ names) there named t led = on (λ d is. found-along tree d (next ∷ names) is (All-tail IsName name (next ∷ names) named) t) (child_of tree directory name) refl led
  where
    on : ((d : ℕ) → is_there tree d ≡ true → Leads t (walk tree (Some d) (next ∷ names)) → IsFound tree t)
        → (c : Option Node) → child_of tree directory name ≡ c → Leads t (walk tree (entered c) (next ∷ names)) → IsFound tree t
    on further None is led = lost tree t led
    on further (Some node) is led = elim (cases_Bool (is_some node.content)) [
      | inl file ↦ lost tree t (rw file at led)
      | inr entered ↦ further node.number (child-there tree directory name node is) (rw entered at led)
    ]

pub found-there : PathLaw → (tree : Tree) (text : List ℕ) (names : List (List ℕ)) → path_of text ≡ Some names → (t : Whereabouts) → Leads t (walk tree (Some root) names) → IsFound tree t
found-there law tree text names is t led = found-along tree root names refl ((law.1 text names).0 is).each t led

-- ---- short names

short-place : (directory : ℕ) (name : List ℕ) → length name ≤ MOST_NAME_BYTES → length (place directory name).name ≤ MOST_NAME_BYTES
short-place directory name short = subst (λ k. k ≤ 255) (sym (length-folded name)) short
