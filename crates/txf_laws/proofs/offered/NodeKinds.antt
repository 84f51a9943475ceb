-- What changes leave of the kind of a node that they do not make.
use Rattle.std.proofs.Common.{◌≡◌, ℕ, ◌==◌, ◌&&◌, ◌||◌, not, Bool, true, false, is_some, List, [], ◌∷◌, Option, Some, None, refl, sym, ◌∙◌, ap, subst, inl, inr}
use Rattle.std.proofs.lemmas.Bool.{cases_Bool, eqb-true, eqb-false, and_parts, true≢false, false_from_ne_true}
use Rattle.ktm_world.specs.declared.change.Change.{Change}
use Rattle.ktm_world.specs.declared.change.Change.TheVariants.{Make, Put, Cut, Move, Drop}
use Rattle.ktm_world.specs.declared.recorded.Node.{Node}
use Rattle.ktm_world.specs.Changes.{changed, changed_all, applies, changes_apply, is_make, node_of}
use Rattle.ktm_world.specs.Tree.{Tree, root, node_at, content_of, is_file, is_directory, is_there}
use Rattle.txf_laws.specs.Elements.{IsIn}
use Rattle.txf_laws.proofs.offered.ChangeTests.{Applies-from, Fits-from}
use Rattle.ktm_world.proofs.offered.Lookups.{remade, node_at-elsewhere, node_at-there}

-- is a node that a lookup finds a file
abbrev pub is_file_at : Option Node → Bool
is_file_at o = is_some (content_of o)

-- is the node with this number, or the root, no file
abbrev pub is_directory_at : ℕ → Option Node → Bool
is_directory_at n o = (n == root || is_some o) && not (is_file_at o)

-- is a node there that a lookup finds, or is it the root's
abbrev pub is_there_at : ℕ → Option Node → Bool
is_there_at n o = n == root || is_some o

-- a change leaves a node that it does not make of its kind, or drops it
record Kept (c : Change) (o : Option Node) : Type 0 where
  file : is_file_at (remade c o) ≡ true → is_file_at o ≡ true
  directory : is_directory_at (node_of c) (remade c o) ≡ true → is_directory_at (node_of c) o ≡ true
  there : is_there_at (node_of c) (remade c o) ≡ true → is_there_at (node_of c) o ≡ true

kept-there : (tree : Tree) (c : Change) → applies tree c ≡ true → is_make c ≡ false → Kept c (node_at tree (node_of c))
kept-there tree (Make node parent kind name) is other = absurd (true≢false other)
kept-there tree (Put node offset contents) is other = written (node_at tree node) (Applies-from tree (Put node offset contents) is).0
  where
    written : (o : Option Node) → is_file_at o ≡ true → Kept (Put node offset contents) o
    written None file = absurd (true≢false (sym file))
    written (Some n) file = record { file = λ after. file; directory = λ after. absurd (true≢false (sym (and_parts _ false after).1)); there = λ after. after }
kept-there tree (Cut node size pages) is other = written (node_at tree node) (Applies-from tree (Cut node size pages) is).0
  where
    written : (o : Option Node) → is_file_at o ≡ true → Kept (Cut node size pages) o
    written None file = absurd (true≢false (sym file))
    written (Some n) file = record { file = λ after. file; directory = λ after. absurd (true≢false (sym (and_parts _ false after).1)); there = λ after. after }
kept-there tree (Move node parent name) is other = moved (node_at tree node)
  where
    moved : (o : Option Node) → Kept (Move node parent name) o
    moved None = record { file = λ after. after; directory = λ after. after; there = λ after. after }
    moved (Some n) = record { file = λ after. after; directory = λ after. after; there = λ after. after }
kept-there tree (Drop node) is other = record { file = λ after. absurd (true≢false (sym after)); directory = λ after. absurd (true≢false (sym (gone (and_parts (node == root || false) true after).0) ∙ (Applies-from tree (Drop node) is).0)); there = λ after. absurd (true≢false (sym (gone after) ∙ (Applies-from tree (Drop node) is).0)) }
  where
    gone : (node == root || false) ≡ true → (node == root) ≡ true
    gone = go (node == root)
      where
        go : (b : Bool) → (b || false) ≡ true → b ≡ true
        go true is = refl
        go false is = is

-- does the change not make the node
abbrev pub MakesNot : Change → ℕ → Type 0
MakesNot c n = is_make c ≡ true → node_of c ≡ n → ⊥

module _ (tree : Tree) (c : Change) (is : applies tree c ≡ true) (n : ℕ) (other : MakesNot c n) where
  -- what is so of the node then was so of it before
  was : (P : Option Node → Bool) → ((at : node_of c ≡ n) → P (remade c (node_at tree (node_of c))) ≡ true → P (node_at tree (node_of c)) ≡ true) → P (node_at (changed tree c) n) ≡ true → P (node_at tree n) ≡ true
  was P same after = elim (cases_Bool (node_of c == n)) [
    | inr elsewhere ↦ ap P (sym (node_at-elsewhere tree c (Fits-from tree c (Applies-from tree c is)) n (eqb-false _ _ elsewhere))) ∙ after
    | inl here ↦
        let at = eqb-true _ _ here in
        subst (λ m. P (node_at tree m) ≡ true) at (same at (ap P (sym (node_at-there tree c (Fits-from tree c (Applies-from tree c is)))) ∙ ap (λ m. P (node_at (changed tree c) m)) at ∙ after))
  ]

  not-made : node_of c ≡ n → is_make c ≡ false
  not-made at = false_from_ne_true _ (λ make. other make at)

  pub file-was : is_file (changed tree c) n ≡ true → is_file tree n ≡ true
  file-was = was is_file_at (λ at. (kept-there tree c is (not-made at)).file)

  pub directory-was : is_directory (changed tree c) n ≡ true → is_directory tree n ≡ true
  directory-was after = was (is_directory_at n) (λ at. subst (λ m. is_directory_at m (remade c (node_at tree (node_of c))) ≡ true → is_directory_at m (node_at tree (node_of c)) ≡ true) at (kept-there tree c is (not-made at)).directory) after

  pub there-was : is_there (changed tree c) n ≡ true → is_there tree n ≡ true
  there-was after = was (is_there_at n) (λ at. subst (λ m. is_there_at m (remade c (node_at tree (node_of c))) ≡ true → is_there_at m (node_at tree (node_of c)) ≡ true) at (kept-there tree c is (not-made at)).there) after

-- what is a file or a directory behind changes in order that do not make it was so before
pub files-were : (cs : List Change) (tree : Tree) → changes_apply tree cs ≡ true → (n : ℕ) → ((c : Change) → IsIn c cs → MakesNot c n) → is_file (changed_all tree cs) n ≡ true → is_file tree n ≡ true
files-were [] tree all n others after = after
files-were (c ∷ cs) tree all n others after =
    let parts = and_parts (applies tree c) (changes_apply (changed tree c) cs) all in
    file-was tree c parts.0 n (others c (inl refl)) (files-were cs (changed tree c) parts.1 n (λ d there. others d (inr there)) after)

pub directories-were : (cs : List Change) (tree : Tree) → changes_apply tree cs ≡ true → (n : ℕ) → ((c : Change) → IsIn c cs → MakesNot c n) → is_directory (changed_all tree cs) n ≡ true → is_directory tree n ≡ true
directories-were [] tree all n others after = after
directories-were (c ∷ cs) tree all n others after =
    let parts = and_parts (applies tree c) (changes_apply (changed tree c) cs) all in
    directory-was tree c parts.0 n (others c (inl refl)) (directories-were cs (changed tree c) parts.1 n (λ d there. others d (inr there)) after)
