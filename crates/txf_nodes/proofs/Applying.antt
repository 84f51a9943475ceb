-- Lemmas on changes of names that apply.
use Rattle.std.proofs.Common.{◌≡◌, ℕ, ◌≤◌, ◌&&◌, not, true, false, eqb, List, [], ◌∷◌, length, nat_le, nat_lt, ◌^◌, arith, Option, Some, None, is_some, is_none, refl, sym, ap, ◌∙◌, inl, inr}
use Rattle.std.specs.List.{list_all}
use Rattle.std.specs.Option.{option_map}
use Rattle.std.proofs.lemmas.Bool.{and_parts, cases_Bool, leb-true, not-true}
use Rattle.ktm_base.specs.declared.limits.TheConstants.{MOST_NAME_BYTES}
use Rattle.ktm_base.specs.Names.{is_name_byte, last_byte}
use Rattle.ktm_world.specs.declared.change.Change.TheVariants.{Make, Move}
use Rattle.ktm_world.specs.declared.change.NodeKind.{NodeKind}
use Rattle.ktm_world.specs.declared.recorded.Node.{Node}
use Rattle.ktm_links.specs.declared.list.Key.{Key}
use Rattle.ktm_links.specs.Mapped.{NamedItem, at, key_at}
use Rattle.ktm_links.proofs.offered.Entries.{key_at-at}
use Rattle.ktm_world.specs.Changes.{applies, is_free, is_node_number}
use Rattle.ktm_world.specs.Paths.{is_name}
use Rattle.ktm_world.specs.Tree.{Tree, child_of, is_at_or_below, is_directory, is_there, node_at, root}
use Rattle.txf_nodes.specs.Indexes.{IsTree, under, without_now}
use Rattle.txf_nodes.specs.NodesState.{NodeOf, node_by, now_at, tree_in}
use Rattle.txf_nodes.specs.Places.{child_name}
use Rattle.txf_nodes.proofs.Naming.{child_number, node_at-now}

-- a name has at most 255 characters
few_characters : (name : List ℕ) → is_name name ≡ true → length name ≤ MOST_NAME_BYTES
unfolding is_name
few_characters name is =
    let no_dot = and_parts ((((nat_le 1 (length name) && nat_le (length name) MOST_NAME_BYTES) && list_all is_name_byte name) && not (eqb (last_byte name) 0x20))) (not (eqb (last_byte name) 0x2E)) is in
    let no_space = and_parts (((nat_le 1 (length name) && nat_le (length name) MOST_NAME_BYTES) && list_all is_name_byte name)) (not (eqb (last_byte name) 0x20)) no_dot.0 in
    let all = and_parts (nat_le 1 (length name) && nat_le (length name) MOST_NAME_BYTES) (list_all is_name_byte name) no_space.0 in
    leb-true (length name) MOST_NAME_BYTES (and_parts (nat_le 1 (length name)) (nat_le (length name) MOST_NAME_BYTES) all.0).1

none_from : {A : Type 0} (o : Option A) → is_none o ≡ true → o ≡ None
none_from None none = refl
none_from (Some x) none = absurd (cc)

no_node : (tree : Tree) (n : ℕ) → not (is_there tree n) ≡ true → node_at tree n ≡ None
no_node tree n free = by_cases (node_at tree n) refl
  where
    by_cases : (o : Option Node) → node_at tree n ≡ o → o ≡ None
    by_cases None is = refl
    by_cases (Some node) is =
        absurd (
        let gone = rw is at free in elim (cases_Bool (eqb n 1)) as (λ _. ⊥) [ inl at_root ↦ (let no = rw at_root at gone in absurd (cc)) | inr other ↦ (let no = rw other at gone in absurd (cc)) ]
        )

-- what is so where a node can be made, if its name is free
pub record IsNewPlace (tree : Tree) (n : ℕ) (name : List ℕ) : Type 0 where
  pub number : node_at tree n ≡ None
  pub not_root : n ≡ root → ⊥
  pub few : length name ≤ MOST_NAME_BYTES

pub new_place : (tree : Tree) (n parent : ℕ) (name : List ℕ) → (((is_node_number n && not (is_there tree n)) && is_directory tree parent) && is_name name) ≡ true → IsNewPlace tree n name
new_place tree n parent name is =
    let named = and_parts ((is_node_number n && not (is_there tree n)) && is_directory tree parent) (is_name name) is in
    let parent_there = and_parts (is_node_number n && not (is_there tree n)) (is_directory tree parent) named.0 in
    let number = and_parts (is_node_number n) (not (is_there tree n)) parent_there.0 in
    record {
      number = no_node tree n number.1;
      not_root = λ same. absurd (let low : 2 ≤ n = leb-true 2 n (and_parts (nat_le 2 n) (nat_lt n (2 ^ 63)) number.0).0 in omega (arith, low, same));
      few = few_characters name named.1;
    }

-- what is so where a node can be made
pub record CanMake (tree : Tree) (n parent : ℕ) (name : List ℕ) : Type 0 where
  pub place : IsNewPlace tree n name
  pub free : child_of tree parent name ≡ None

pub can_make : (tree : Tree) (n parent : ℕ) (kind : NodeKind) (name : List ℕ) → applies tree (Make n parent kind name) ≡ true → CanMake tree n parent name
can_make tree n parent kind name is =
    let free = and_parts (((is_node_number n && not (is_there tree n)) && is_directory tree parent) && is_name name) (is_free tree parent name) is in
    record {
      place = new_place tree n parent name free.0;
      free = none_from (child_of tree parent name) free.1;
    }

-- ---- names that are free
is_some-map : {A B : Type 0} (f : A → B) (o : Option A) → is_some (option_map f o) ≡ is_some o
is_some-map f None = refl
is_some-map f (Some x) = refl

at_none : (names : List (NamedItem ℕ)) (name : List ℕ) → under names name ≡ None → at names name ≡ None
at_none names name none = by_cases (at names name) none
  where
    by_cases : (o : Option (Key × ℕ)) → option_map (λ (e : Key × ℕ). e.1) o ≡ None → o ≡ None
    by_cases None none = refl
    by_cases (Some e) none = absurd (cc)

key_none : (names : List (NamedItem ℕ)) (name : List ℕ) → at names name ≡ None → key_at names name ≡ None
key_none names name none = key_at-at names name ∙ ap (λ o. option_map (λ (e : Key × ℕ). e.0) o) none

pub name_key_free : (names : List (NamedItem ℕ)) (name : List ℕ) → under names name ≡ None → key_at names name ≡ None
name_key_free names name none = key_none names name (at_none names name none)

pub under_free : (names : List (NamedItem ℕ)) (name : List ℕ) → key_at names name ≡ None → under names name ≡ None
under_free names name free = by_cases (at names name) (sym (key_at-at names name) ∙ free)
  where
    by_cases : (o : Option (Key × ℕ)) → option_map (λ (e : Key × ℕ). e.0) o ≡ None → option_map (λ (e : Key × ℕ). e.1) o ≡ None
    by_cases None none = refl
    by_cases (Some e) none = absurd (cc)

pub under-same : (names new : List (NamedItem ℕ)) (q : List ℕ) → at new q ≡ at names q → under new q ≡ under names q
under-same names new q is = ap (λ o. option_map (λ (e : Key × ℕ). e.1) o) is

pub under-here : (new : List (NamedItem ℕ)) (q : List ℕ) (key : Key) (n : ℕ) → at new q ≡ Some (key, n) → under new q ≡ Some n
under-here new q key n is = ap (λ o. option_map (λ (e : Key × ℕ). e.1) o) is

pub under-gone : (new : List (NamedItem ℕ)) (q : List ℕ) → at new q ≡ None → under new q ≡ None
under-gone new q is = ap (λ o. option_map (λ (e : Key × ℕ). e.1) o) is

-- the number stands under another name
pub record IsRenamed (names less new : List (NamedItem ℕ)) (was name : List ℕ) (n : ℕ) : Type 0 where
  pub free : key_at less name ≡ None
  pub here : under new name ≡ Some n
  pub gone : under new was ≡ None
  pub others : (q : List ℕ) → (q ≡ was → ⊥) → (q ≡ name → ⊥) → under new q ≡ under names q

-- a name that is free before another one is taken away is free afterwards
pub still_free : (names less : List (NamedItem ℕ)) (was name : List ℕ) (n : ℕ) → under names was ≡ Some n → under names name ≡ None
    → ((q : List ℕ) → (q ≡ was → ⊥) → at less q ≡ at names q) → key_at less name ≡ None
still_free names less was name n old free others =
    key_none less name (others name (λ same. absurd (let none = rw same at free in cc)) ∙ at_none names name free)

pub IsRenamed-from : (names less new : List (NamedItem ℕ)) (was name : List ℕ) (key : Key) (n m : ℕ) → under names was ≡ Some m → under names name ≡ None
    → at less was ≡ None → ((q : List ℕ) → (q ≡ was → ⊥) → at less q ≡ at names q) → at new name ≡ Some (key, n)
    → ((q : List ℕ) → (q ≡ name → ⊥) → at new q ≡ at less q) → IsRenamed names less new was name n
IsRenamed-from names less new was name key n m old free gone less_others here new_others =
    let apart : was ≡ name → ⊥ = λ same. absurd (let none = rw (← same) at free in cc) in
    record {
      free = still_free names less was name m old free less_others;
      here = under-here new name key n here;
      gone = under-gone new was (new_others was apart ∙ gone);
      others = λ q not_was not_name. under-same names new q (new_others q not_name ∙ less_others q not_was);
    }

module _ {V : Type 0} where
  -- a name stands in the map where a node has it
  pub name_there : (bytes : V → List ℕ) (nodes : List (NodeOf V)) (names : List (NamedItem ℕ)) (directory : ℕ) (name : List ℕ) → IsTree nodes names
      → is_some (key_at names (child_name directory name)) ≡ is_some (child_of (tree_in bytes nodes) directory name)
  name_there bytes nodes names directory name tree =
      let here = at names (child_name directory name) in
      ap (λ o. is_some o) (key_at-at names (child_name directory name))
      ∙ is_some-map (λ (e : Key × ℕ). e.0) here
      ∙ sym (is_some-map (λ (e : Key × ℕ). e.1) here)
      ∙ ap (λ o. is_some o) (child_number bytes nodes names directory name tree)
      ∙ is_some-map (λ (node : Node). node.number) (child_of (tree_in bytes nodes) directory name)

  pub name_none : (bytes : V → List ℕ) (nodes : List (NodeOf V)) (names : List (NamedItem ℕ)) (directory : ℕ) (name : List ℕ) → IsTree nodes names
      → key_at names (child_name directory name) ≡ None → child_of (tree_in bytes nodes) directory name ≡ None
  name_none bytes nodes names directory name tree free =
      none_from (child_of (tree_in bytes nodes) directory name)
      (ap not (sym (name_there bytes nodes names directory name tree) ∙ ap (λ o. is_some o) free))

  -- ---- nodes
  pub now_none : (bytes : V → List ℕ) (nodes : List (NodeOf V)) (n : ℕ) → node_at (tree_in bytes nodes) n ≡ None → now_at nodes n ≡ None
  now_none bytes nodes n none = by_cases (now_at nodes n) (sym (node_at-now bytes nodes n) ∙ none)
    where
      by_cases : (o : Option (NodeOf V)) → option_map (node_by bytes) o ≡ None → o ≡ None
      by_cases None none = refl
      by_cases (Some x) none = absurd (cc)

  -- what is so where a node can move
  pub record CanMove (bytes : V → List ℕ) (nodes : List (NodeOf V)) (n parent : ℕ) (name : List ℕ) : Type 0 where
    pub there : is_some (now_at nodes n) ≡ true
    pub few : length name ≤ MOST_NAME_BYTES
    pub free : child_of (tree_in bytes nodes) parent name ≡ None

  there_now : (bytes : V → List ℕ) (nodes : List (NodeOf V)) (n : ℕ) → not (eqb n root) ≡ true → is_there (tree_in bytes nodes) n ≡ true → is_some (now_at nodes n) ≡ true
  there_now bytes nodes n not_root there =
      let other : eqb n root ≡ false = not-true (eqb n root) not_root in
      by_cases (now_at nodes n) (ap is_some (sym (node_at-now bytes nodes n)) ∙ (rw other at there))
    where
      by_cases : (o : Option (NodeOf V)) → is_some (option_map (node_by bytes) o) ≡ true → is_some o ≡ true
      by_cases None some = absurd (cc)
      by_cases (Some x) some = refl

  pub can_move : (bytes : V → List ℕ) (nodes : List (NodeOf V)) (n parent : ℕ) (name : List ℕ) → applies (tree_in bytes nodes) (Move n parent name) ≡ true → CanMove bytes nodes n parent name
  can_move bytes nodes n parent name is =
      let tree = tree_in bytes nodes in
      let free = and_parts ((((not (eqb n root) && is_there tree n) && is_directory tree parent) && not (is_at_or_below tree parent n)) && is_name name) (is_free tree parent name) is in
      let named = and_parts (((not (eqb n root) && is_there tree n) && is_directory tree parent) && not (is_at_or_below tree parent n)) (is_name name) free.0 in
      let above = and_parts ((not (eqb n root) && is_there tree n) && is_directory tree parent) (not (is_at_or_below tree parent n)) named.0 in
      let parent_there = and_parts (not (eqb n root) && is_there tree n) (is_directory tree parent) above.0 in
      let there = and_parts (not (eqb n root)) (is_there tree n) parent_there.0 in
      record {
        there = there_now bytes nodes n there.0 there.1;
        few = few_characters name named.1;
        free = none_from (child_of tree parent name) free.1;
      }

  -- ---- a node that is not there
  pub without_now-none : (nodes : List (NodeOf V)) (n : ℕ) → None ≡ now_at nodes n → without_now nodes n ≡ nodes
  without_now-none [] n none = refl
  without_now-none (y ∷ ys) n none =
      elim (cases_Bool (eqb y.number n)) [
        | inl same ↦ absurd (let some = rw same at none in cc)
        | inr differs ↦ rw differs (ap (λ l. y ∷ l) (without_now-none ys n (rw differs at none)))
      ]
