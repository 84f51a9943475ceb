-- Lemmas on a file whose content is another one, and on its room.
use Rattle.std.proofs.Common.{◌≡◌, ℕ, ◌+◌, ◌-◌, ◌≤◌, true, false, eqb, not, ◌||◌, nat_le, List, [], ◌∷◌, ◌++◌, length, drop, replicate, fold, Option, Some, None, Result, Ok, Err, OnOk, refl, sym, ap, ◌∙◌, inl, inr, arith}
use Rattle.std.specs.Prelude.{IfOk}
use Rattle.std.specs.Option.{option_map}
use Rattle.std.proofs.lemmas.Bool.{cases_Bool, cases_eq, eqb-false, leb-true, le-leb}
use Rattle.std.proofs.lemmas.List.{append-nil, drop_all}
use Rattle.ktm_content.specs.Places.{ContentState}
use Rattle.ktm_world.specs.declared.recorded.Node.{Node}
use Rattle.ktm_world.specs.Changes.{changed_all}
use Rattle.ktm_world.specs.Committed.{Version, final_bytes, versions_after}
use Rattle.ktm_world.specs.Tree.{Tree, bytes_or_none, cut_to, is_file, put_over, with_changed}
use Rattle.txf_nodes.specs.NodesState.{content_at, raised, IsInserted, IsRefilled, KeepsContents, SetsContent}
use Rattle.txf_nodes.proofs.Trees.{with_changed-same}
use Rattle.txf_tree.specs.TreeState.{TreeState, bytes_now, has_room, room_in, room_of, tree_of, KeepsRooms}

-- ---- the tree
-- the bytes of the file are what f makes of those that it had
pub tree-refilled : (old new : TreeState) (file changes : ℕ) (was content : ContentState) (f : List ℕ → List ℕ) → Some was ≡ content_at old file → IsRefilled old new file changes content
    → content.bytes ≡ f was.bytes → tree_of new ≡ with_changed (tree_of old) file (λ n. record n { content = Some (f (bytes_or_none n.content)) })
tree-refilled old new file changes was content f found refilled is =
    refilled.tree bytes_now (λ n. record n { content = Some (f (bytes_or_none n.content)) })
    (λ n had. ap (λ b. record n { content = Some b }) (ap (λ o. f (bytes_or_none o)) (had ∙ ap (option_map bytes_now) (sym found)) ∙ sym is))

-- a file whose room alone is another
pub tree-kept : (old new : TreeState) (file changes : ℕ) (was content : ContentState) → Some was ≡ content_at old file → IsRefilled old new file changes content
    → content.bytes ≡ was.bytes → tree_of new ≡ tree_of old
tree-kept old new file changes was content found refilled is =
    refilled.tree bytes_now (λ n. n)
    (λ n had. ap (λ o. record n { content = o }) (had ∙ ap (option_map bytes_now) (sym found) ∙ ap Some (sym is)))
    ∙ with_changed-same (tree_of old) file

-- ---- the bytes of a commit
with_changed-twice : (tree : Tree) (n : ℕ) (f g : Node → Node) → ((node : Node) → (f node).number ≡ node.number)
    → with_changed (with_changed tree n f) n g ≡ with_changed tree n (λ node. g (f node))
with_changed-twice [] n f g kept = refl
with_changed-twice (y ∷ ys) n f g kept =
    elim (cases_Bool (eqb y.number n)) [
      | inl same ↦
          let after : eqb (f y).number n ≡ true = ap (λ m. eqb m n) (kept y) ∙ same in
          rw (same, after) (ap (λ l. g (f y) ∷ l) (with_changed-twice ys n f g kept))
      | inr differs ↦ rw (differs, differs) (ap (λ l. y ∷ l) (with_changed-twice ys n f g kept))
    ]

cut_to-nothing : (bytes : List ℕ) → cut_to bytes 0 ≡ []
cut_to-nothing bytes = let none : 0 - length bytes ≡ 0 = omega arith in ap (λ m. replicate m 0) none

drop-nothing : (n : ℕ) → drop {A = ℕ} n [] ≡ []
drop-nothing n = drop_all n [] (omega arith)

put_over-nothing : (bytes : List ℕ) → put_over [] 0 bytes ≡ bytes
put_over-nothing bytes = ap (λ l. bytes ++ l) (drop-nothing (0 + length bytes)) ∙ append-nil bytes

-- a file has the bytes that a commit gives it
pub tree-final : (old new : TreeState) (file changes : ℕ) (content : ContentState) (bytes : List ℕ) → IsRefilled old new file changes content → content.bytes ≡ bytes
    → tree_of new ≡ changed_all (tree_of old) (final_bytes file bytes)
tree-final old new file changes content [] refilled is =
    refilled.tree bytes_now (λ n. record n { content = Some (cut_to (bytes_or_none n.content) 0) })
    (λ n had. ap (λ b. record n { content = Some b }) (cut_to-nothing (bytes_or_none n.content) ∙ sym is))
tree-final old new file changes content (b ∷ bs) refilled is =
    let cut : Node → Node = λ n. record n { content = Some (cut_to (bytes_or_none n.content) 0) } in
    let put : Node → Node = λ n. record n { content = Some (put_over (bytes_or_none n.content) 0 (b ∷ bs)) } in
    refilled.tree bytes_now (λ n. put (cut n))
    (λ n had. ap (λ b. record n { content = Some b })
    (ap (λ l. put_over l 0 (b ∷ bs)) (cut_to-nothing (bytes_or_none n.content)) ∙ put_over-nothing (b ∷ bs) ∙ sym is))
    ∙ sym (with_changed-twice (tree_of old) file cut put (λ n. refl))

-- and its version counts the changes that give them
pub versions-final : (versions : List Version) (file : ℕ) (bytes : List ℕ) → raised (length (final_bytes file bytes)) versions file ≡ fold versions_after versions (final_bytes file bytes)
versions-final versions file [] = refl
versions-final versions file (b ∷ bs) = refl

-- ---- room
pub rooms-set : (old new : TreeState) (file : ℕ) (was content : ContentState) → Some was ≡ content_at old file → SetsContent old new file (Some content) → was.room ≤ content.room → KeepsRooms old new
rooms-set old new file was content found sets more other =
    elim (cases_eq other file) [
      | inl same ↦
          let before : room_of old other ≡ was.room = ap room_in (ap (content_at old) same ∙ sym found) in
          let later : room_of new other ≡ content.room = ap room_in (ap (content_at new) same ∙ sets.here) in
          omega (arith, before, later)
      | inr differs ↦ let later : room_of new other ≡ room_of old other = ap room_in (sets.others other differs) in omega (arith, later)
    ]

pub rooms-kept : (old new : TreeState) → KeepsContents old new → KeepsRooms old new
rooms-kept old new keeps file = let later : room_of new file ≡ room_of old file = ap room_in (keeps file) in omega (arith, later)

pub rooms-inserted : (old new : TreeState) (number parent : ℕ) (name : List ℕ) (content : Option ContentState) → IsInserted old new number parent name content → KeepsRooms old new
rooms-inserted old new number parent name content inserted file =
    elim (cases_eq file number) [
      | inl same ↦ let before : room_of old file ≡ 0 = ap room_in (ap (content_at old) same ∙ inserted.was) in omega (arith, before)
      | inr differs ↦ let later : room_of new file ≡ room_of old file = ap room_in (inserted.contents.others file differs) in omega (arith, later)
    ]

pub rooms-without : (old new : TreeState) (number : ℕ) → SetsContent old new number None → (file : ℕ) → eqb number file ≡ false → room_of old file ≤ room_of new file
rooms-without old new number sets file differs =
    let later : room_of new file ≡ room_of old file = ap room_in (sets.others file (λ same. eqb-false number file differs (sym same))) in
    omega (arith, later)

pub other-rooms : (old new : TreeState) (file : ℕ) (content : Option ContentState) → SetsContent old new file content → (other : ℕ) → (other ≡ file → ⊥) → room_of new other ≡ room_of old other
other-rooms old new file content sets other differs = ap room_in (sets.others other differs)

-- a file that has room for so many bytes has it in its content
pub room-there : (s : TreeState) (file size : ℕ) (content : ContentState) → Some content ≡ content_at s file → is_file (tree_of s) file ≡ true → has_room s file size ≡ true
    → size ≤ content.room
room-there s file size content found is has =
    let room : nat_le size (room_of s file) ≡ true = rw is at has in
    leb-true size content.room (ap (λ o. nat_le size (room_in o)) found ∙ room)

pub room-none : (s : TreeState) (file size : ℕ) → is_file (tree_of s) file ≡ false → has_room s file size ≡ true
room-none s file size none = ap (λ is. not is || nat_le size (room_of s file)) none

pub room-made : {T E : Type 0} (s : TreeState) (file size : ℕ) (content : ContentState) (result : Result T E) → content_at s file ≡ Some content
    → OnOk result (size ≤ content.room) → OnOk result (has_room s file size ≡ true)
room-made s file size content (Err e) found room = tt
room-made s file size content (Ok v) found room =
    let there : nat_le size (room_of s file) ≡ true = ap (λ o. nat_le size (room_in o)) found ∙ le-leb size content.room room in
    elim (cases_Bool (is_file (tree_of s) file)) [
      | inl is ↦ ap (λ is. not is || nat_le size (room_of s file)) is ∙ there
      | inr none ↦ room-none s file size none
    ]

-- ---- results
pub if_ok-at : {T E X : Type 0} (P : X → T → Type 0) (x : X) (result : Result T E) → IfOk result (λ v. (x : X) → P x v) → IfOk result (P x)
if_ok-at P x (Ok v) so = so x
if_ok-at P x (Err e) so = tt
