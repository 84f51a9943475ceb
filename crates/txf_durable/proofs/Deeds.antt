-- What changes do, as calls, and what they hold by that.
use Rattle.std.proofs.Common.{◌≡◌, ℕ, ◌==◌, ◌&&◌, not, Bool, true, false, is_some, if◌then◌else◌, List, [], ◌∷◌, ◌++◌, Option, Some, None, refl, sym, ◌∙◌, ap}
use Rattle.std.proofs.Math.Bool.{or-false}
use Rattle.std.proofs.lemmas.Bool.{and_parts, or_right, true≢false}
use Rattle.std.proofs.lemmas.List.{append-nil}
use Rattle.std.specs.List.{flat_map, list_any}
use Rattle.ktm_world.specs.declared.change.Change.{Change}
use Rattle.ktm_world.specs.declared.change.Change.TheVariants.{Make, Put, Cut, Move, Drop}
use Rattle.ktm_world.specs.declared.recorded.Node.{Node}
use Rattle.ktm_world.specs.Changes.{applies, changes_bytes, is_empty_list, is_whole, node_of}
use Rattle.ktm_world.specs.Durable.{act_of_node, acts_of}
use Rattle.ktm_world.specs.Holds.{Act, Place, deletes, directory_dropped, dropped_directory, drops_directory, is_move_of_directory, moved_directory, moves_directory, moves_file, opens, place, place_of, places_changed, places_of}
use Rattle.ktm_world.specs.Tree.{Tree, content_of, is_directory, is_file, node_at, root}
use Rattle.txf_overlay.proofs.Trees.{Applies-from, is_there-some}

-- ---- a node that is there

pub moved-there : (t : Tree) (node parent : ℕ) (name : List ℕ) → applies t (Move node parent name) ≡ true → (x : Node) × (node_at t node ≡ Some x)
moved-there t node parent name is = let parts = Applies-from t (Move node parent name) is in is_there-some t node parts.0 parts.1

pub dropped-there : (t : Tree) (node : ℕ) → applies t (Drop node) ≡ true → (x : Node) × (node_at t node ≡ Some x)
dropped-there t node is = let parts = Applies-from t (Drop node) is in is_there-some t node parts.0 parts.1

directory-is : (t : Tree) (node : ℕ) (x : Node) → node_at t node ≡ Some x → is_directory t node ≡ not (is_some x.content)
directory-is t node x found =
    let there = or_right (node == root) (is_some (node_at t node)) (ap is_some found) in
    let file = ap (λ o. is_some (content_of o)) found in
    λ i. there i && not (file i)

-- ---- what a change does

-- a change of bytes is an open for writing
pub bytes-act : (t : Tree) (c : Change) → changes_bytes c ≡ true → applies t c ≡ true → acts_of t c ≡ opens (node_of c) true ∷ []
bytes-act t (Make node parent kind name) bytes is = absurd (true≢false (sym bytes))
bytes-act t (Put node offset contents) bytes is = go (node_at t node) (and_parts (is_file t node) (is_whole contents) is).0
  where
    go : (found : Option Node) → is_some (content_of found) ≡ true → act_of_node t found (Put node offset contents) ≡ opens node true ∷ []
    go None file = absurd (true≢false (sym file))
    go (Some x) file = refl
bytes-act t (Cut node size pages) bytes is = go (node_at t node) (and_parts (is_file t node) (is_empty_list pages) is).0
  where
    go : (found : Option Node) → is_some (content_of found) ≡ true → act_of_node t found (Cut node size pages) ≡ opens node true ∷ []
    go None file = absurd (true≢false (sym file))
    go (Some x) file = refl
bytes-act t (Move node parent name) bytes is = absurd (true≢false (sym bytes))
bytes-act t (Drop node) bytes is = absurd (true≢false (sym bytes))

-- ---- what a change holds, by what it does

module _ (node : ℕ) (p q : Place) where
  move-places : (file : Bool) → p ∷ q ∷ [] ≡ flat_map places_changed ((if file then moves_file node p q else moves_directory node p q) ∷ [])
  move-places true = refl
  move-places false = refl

  move-drops : (file : Bool) → [] ≡ flat_map directory_dropped ((if file then moves_file node p q else moves_directory node p q) ∷ [])
  move-drops true = refl
  move-drops false = refl

  move-moves : (file : Bool) → list_any (λ n. true) (if not file then node ∷ [] else []) ≡ list_any is_move_of_directory ((if file then moves_file node p q else moves_directory node p q) ∷ [])
  move-moves true = refl
  move-moves false = refl

  drop-places : (file : Bool) → p ∷ [] ≡ flat_map places_changed ((if file then deletes node p else drops_directory node p) ∷ [])
  drop-places true = refl
  drop-places false = refl

  drop-drops : (file : Bool) → (if not file then node ∷ [] else []) ≡ flat_map directory_dropped ((if file then deletes node p else drops_directory node p) ∷ [])
  drop-drops true = refl
  drop-drops false = refl

  drop-moves : (file : Bool) → false ≡ list_any is_move_of_directory ((if file then deletes node p else drops_directory node p) ∷ [])
  drop-moves true = refl
  drop-moves false = refl

places-act : (t : Tree) (c : Change) → applies t c ≡ true → places_of t c ≡ flat_map places_changed (acts_of t c)
places-act t (Make node parent kind name) is = refl
places-act t (Put node offset contents) is = sym (ap (flat_map places_changed) (bytes-act t (Put node offset contents) refl is))
places-act t (Cut node size pages) is = sym (ap (flat_map places_changed) (bytes-act t (Cut node size pages) refl is))
places-act t (Move node parent name) is =
    let there = moved-there t node parent name is in
    let x = there.0 in
    ap (λ o. place_of o ++ place parent name ∷ []) there.1 ∙ move-places node (place x.parent x.name) (place parent name) (is_some x.content)
    ∙ sym (ap (λ o. flat_map places_changed (act_of_node t o (Move node parent name))) there.1)
places-act t (Drop node) is =
    let there = dropped-there t node is in
    let x = there.0 in
    ap place_of there.1 ∙ drop-places node (place x.parent x.name) (place x.parent x.name) (is_some x.content) ∙ sym (ap (λ o. flat_map places_changed (act_of_node t o (Drop node))) there.1)

drops-act : (t : Tree) (c : Change) → applies t c ≡ true → dropped_directory t c ≡ flat_map directory_dropped (acts_of t c)
drops-act t (Make node parent kind name) is = refl
drops-act t (Put node offset contents) is = sym (ap (flat_map directory_dropped) (bytes-act t (Put node offset contents) refl is))
drops-act t (Cut node size pages) is = sym (ap (flat_map directory_dropped) (bytes-act t (Cut node size pages) refl is))
drops-act t (Move node parent name) is =
    let there = moved-there t node parent name is in
    let x = there.0 in
    move-drops node (place x.parent x.name) (place parent name) (is_some x.content) ∙ sym (ap (λ o. flat_map directory_dropped (act_of_node t o (Move node parent name))) there.1)
drops-act t (Drop node) is =
    let there = dropped-there t node is in
    let x = there.0 in
    ap (λ b. if b then node ∷ [] else []) (directory-is t node x there.1) ∙ drop-drops node (place x.parent x.name) (place x.parent x.name) (is_some x.content)
    ∙ sym (ap (λ o. flat_map directory_dropped (act_of_node t o (Drop node))) there.1)

moves-act : (t : Tree) (c : Change) → applies t c ≡ true → list_any (λ n. true) (moved_directory t c) ≡ list_any is_move_of_directory (acts_of t c)
moves-act t (Make node parent kind name) is = refl
moves-act t (Put node offset contents) is = sym (ap (list_any is_move_of_directory) (bytes-act t (Put node offset contents) refl is))
moves-act t (Cut node size pages) is = sym (ap (list_any is_move_of_directory) (bytes-act t (Cut node size pages) refl is))
moves-act t (Move node parent name) is =
    let there = moved-there t node parent name is in
    let x = there.0 in
    ap (λ b. list_any (λ n. true) (if b then node ∷ [] else [])) (directory-is t node x there.1) ∙ move-moves node (place x.parent x.name) (place parent name) (is_some x.content)
    ∙ sym (ap (λ o. list_any is_move_of_directory (act_of_node t o (Move node parent name))) there.1)
moves-act t (Drop node) is =
    let there = dropped-there t node is in
    let x = there.0 in
    drop-moves node (place x.parent x.name) (place x.parent x.name) (is_some x.content) ∙ sym (ap (λ o. list_any is_move_of_directory (act_of_node t o (Drop node))) there.1)

-- of one that does one thing
module _ (t : Tree) (c : Change) (a : Act) (applies' : applies t c ≡ true) (does : acts_of t c ≡ a ∷ []) where
  pub one-places : places_changed a ≡ places_of t c ++ []
  one-places = sym (append-nil (places_changed a)) ∙ sym (ap (flat_map places_changed) does) ∙ sym (places-act t c applies') ∙ sym (append-nil (places_of t c))

  pub one-drops : directory_dropped a ≡ dropped_directory t c ++ []
  one-drops = sym (append-nil (directory_dropped a)) ∙ sym (ap (flat_map directory_dropped) does) ∙ sym (drops-act t c applies') ∙ sym (append-nil (dropped_directory t c))

  pub one-moves : is_move_of_directory a ≡ list_any (λ n. true) (moved_directory t c ++ [])
  one-moves =
      sym (or-false (is_move_of_directory a)) ∙ sym (ap (list_any is_move_of_directory) does) ∙ sym (moves-act t c applies') ∙ ap (list_any (λ n. true)) (sym (append-nil (moved_directory t c)))
