-- Versions while changes are committed one after another: what was older stays older.
use Rattle.std.proofs.Common.{◌≡◌, ℕ, ◌+◌, ◌<◌, ◌≤◌, ◌==◌, ◌&&◌, not, Bool, true, false, cond, fold, is_some, List, [], ◌∷◌, Option, Some, None, refl, sym, ◌∙◌, ap, subst, arith, inl, inr}
use Rattle.std.proofs.lemmas.Bool.{cases_Bool, and_parts, eqb-false, eqb-true, false_from_ne_true, not_from_false, true≢false}
use Rattle.txf_laws.proofs.offered.ChangeTests.{Applies-from, Fits-from}
use Rattle.txf_laws.proofs.offered.CommittedUnits.{suits-applies, older-like, Fresh, is_older}
use Rattle.ktm_world.specs.declared.change.Change.{Change}
use Rattle.ktm_world.specs.declared.change.Change.TheVariants.{Make, Put, Cut, Move, Drop}
use Rattle.ktm_world.specs.declared.change.Contents.TheVariants.{Whole}
use Rattle.ktm_world.specs.declared.recorded.Node.{Node}
use Rattle.ktm_world.specs.Changes.{applies, changes_apply, changed, changed_all, is_make, node_of}
use Rattle.ktm_world.specs.Committed.{Version, final_bytes, version_of, versions_after}
use Rattle.ktm_world.specs.Files.{FirstOpen}
use Rattle.ktm_world.specs.FileUses.{same_version}
use Rattle.ktm_world.specs.Tree.{Tree, content_of, is_file, node_at}
use Rattle.txf_laws.specs.SoundFiles.{files_rise}
use Rattle.txf_laws.specs.Elements.{IsIn, each_pair}
use Rattle.ktm_world.proofs.offered.Lookups.{map_node, node_at-elsewhere, node_at-there}
use Rattle.txf_laws.proofs.offered.OlderVersions.{has_older, list_any-alike, older-cons, older_units, version_units}
use Rattle.txf_laws.proofs.offered.Versions.{version_of-raised, version-elsewhere}
use Rattle.txf_volume.proofs.Versions.{rises-after, version_of-twice}

-- ---- more of them are older

-- where each that was older still is, they have no fewer units
older-rises : (old new : FirstOpen → Bool) (os : List FirstOpen) → ((a b : FirstOpen) → same_version a b ≡ true → old a ≡ old b) → ((o : FirstOpen) → IsIn o os → old o ≡ true → new o ≡ true)
    → older_units old os ≤ older_units new os
older-rises old new [] like still = omega arith
older-rises old new (o ∷ os) like still =
    let rest = older-rises old new os like (λ p there. still p (inr there)) in
    let before = older-cons old o os in
    let after = older-cons new o os in
    elim (cases_Bool (old o)) [
      | inr young ↦ let none : cond (old o && not (has_older old os o)) (version_units o) 0 ≡ 0 = rw young refl in omega arith
      | inl was ↦
          let same : has_older old os o ≡ has_older new os o = list_any-alike (λ p. old p && same_version o p) (λ p. new p && same_version o p) os (λ p there. elim (cases_Bool (same_version o p)) [
            | inl it ↦
                let was' : old p ≡ true = sym (like o p it) ∙ was in
                rw (was', still p (inr there) was') refl
            | inr other ↦ rw other (none (old p) (new p))
          ]) in
          let one : cond (old o && not (has_older old os o)) (version_units o) 0 ≡ cond (new o && not (has_older new os o)) (version_units o) 0 = (λ i. cond (was i && not (same i)) (version_units o) 0) ∙ rw (still o (inl refl) was) refl in
          omega arith
    ]
  where
    none : (a b : Bool) → (a && false) ≡ (b && false)
    none true true = refl
    none true false = refl
    none false true = refl
    none false false = refl

-- ---- what is committed, and the versions that were first opened

-- versions rise by their files, and those that were first opened were there
pub record Rests (tree : Tree) (vs : List Version) (os : List FirstOpen) : Type 0 where
  pub rise : each_pair files_rise vs ≡ true
  pub was : (o : FirstOpen) → IsIn o os → is_file tree o.file ≡ true → o.version ≤ version_of vs o.file

-- a move leaves the content
pub moved : (f : Node → Node) → ((n : Node) → (f n).content ≡ n.content) → (n : Option Node) → content_of (map_node f n) ≡ content_of n
moved f same None = refl
moved f same (Some n) = same n

pub content-elsewhere : (tree : Tree) (c : Change) → applies tree c ≡ true → (m : ℕ) → (node_of c ≡ m → ⊥) → content_of (node_at (changed tree c) m) ≡ content_of (node_at tree m)
content-elsewhere tree c is m other = ap content_of (node_at-elsewhere tree c (Fits-from tree c (Applies-from tree c is)) m other)

pub content-moved : (tree : Tree) (node parent : ℕ) (name : List ℕ) → applies tree (Move node parent name) ≡ true → content_of (node_at (changed tree (Move node parent name)) node) ≡ content_of (node_at tree node)
content-moved tree node parent name is =
    ap content_of (node_at-there tree (Move node parent name) (Fits-from tree (Move node parent name) (Applies-from tree (Move node parent name) is))) ∙ moved _ (λ n. refl) (node_at tree node)

pub content-dropped : (tree : Tree) (node : ℕ) → applies tree (Drop node) ≡ true → content_of (node_at (changed tree (Drop node)) node) ≡ None
content-dropped tree node is = ap content_of (node_at-there tree (Drop node) (Fits-from tree (Drop node) (Applies-from tree (Drop node) is)))

pub file-dropped : (tree : Tree) (node : ℕ) → applies tree (Drop node) ≡ true → is_file (changed tree (Drop node)) node ≡ false
file-dropped tree node is = ap is_some (content-dropped tree node is)

-- what comes of one of them
record Goes (tree tree' : Tree) (vs vs' : List Version) (o : FirstOpen) : Type 0 where
  was : is_file tree' o.file ≡ true → o.version ≤ version_of vs' o.file
  older : is_older tree vs o ≡ true → is_older tree' vs' o ≡ true

module _ (tree tree' : Tree) (vs vs' : List Version) (o : FirstOpen) (was : is_file tree o.file ≡ true → o.version ≤ version_of vs o.file) where
  same-goes : content_of (node_at tree' o.file) ≡ content_of (node_at tree o.file) → version_of vs' o.file ≡ version_of vs o.file → Goes tree tree' vs vs' o
  same-goes content version = record {
    was = λ file. subst (λ v. o.version ≤ v) (sym version) (was (ap is_some (sym content) ∙ file));
    older = λ old. (λ i. not (is_some (content i) && o.version == version i)) ∙ old;
  }

  -- a version that there was is older than one more
  raised-goes : is_file tree o.file ≡ true → version_of vs' o.file ≡ version_of vs o.file + 1 → Goes tree tree' vs vs' o
  raised-goes file version =
      let before = was file in
      record {
        was = λ file'. omega (arith, before, version);
        older = λ old. not_from_false _ (false_from_ne_true _ (λ last.
            let parts = and_parts (is_file tree' o.file) (o.version == version_of vs' o.file) last in
            let at = eqb-true _ _ parts.1 in
            omega arith));
      }

  gone-goes : is_file tree' o.file ≡ false → Goes tree tree' vs vs' o
  gone-goes gone = record { was = λ file. absurd (true≢false (sym file ∙ gone)); older = λ old. rw gone refl }

goes-there : (tree : Tree) (vs : List Version) (c : Change) (o : FirstOpen) → applies tree c ≡ true → (is_make c ≡ true → node_of c ≡ o.file → ⊥) → each_pair files_rise vs ≡ true
    → (is_file tree o.file ≡ true → o.version ≤ version_of vs o.file) → node_of c ≡ o.file → Goes tree (changed tree c) vs (versions_after vs c) o
goes-there tree vs (Make node parent kind name) o is fresh rise was e = absurd (fresh refl e)
goes-there tree vs (Put node offset contents) o is fresh rise was e =
    raised-goes tree (changed tree (Put node offset contents)) vs (versions_after vs (Put node offset contents)) o was (subst (λ m. is_file tree m ≡ true) e ((suits-applies tree (Put node offset contents) is).file refl))
    (ap (version_of (versions_after vs (Put node offset contents))) (sym e) ∙ version_of-raised vs node rise ∙ ap (λ m. version_of vs m + 1) e)
goes-there tree vs (Cut node size pages) o is fresh rise was e =
    raised-goes tree (changed tree (Cut node size pages)) vs (versions_after vs (Cut node size pages)) o was (subst (λ m. is_file tree m ≡ true) e ((suits-applies tree (Cut node size pages) is).file refl))
    (ap (version_of (versions_after vs (Cut node size pages))) (sym e) ∙ version_of-raised vs node rise ∙ ap (λ m. version_of vs m + 1) e)
goes-there tree vs (Move node parent name) o is fresh rise was e =
    same-goes tree (changed tree (Move node parent name)) vs vs o was (subst (λ m. content_of (node_at (changed tree (Move node parent name)) m) ≡ content_of (node_at tree m)) e (content-moved tree node parent name is)) refl
goes-there tree vs (Drop node) o is fresh rise was e =
    gone-goes tree (changed tree (Drop node)) vs (versions_after vs (Drop node)) o was (subst (λ m. is_file (changed tree (Drop node)) m ≡ false) e (file-dropped tree node is))

goes : (tree : Tree) (vs : List Version) (c : Change) (o : FirstOpen) → applies tree c ≡ true → (is_make c ≡ true → node_of c ≡ o.file → ⊥) → each_pair files_rise vs ≡ true
    → (is_file tree o.file ≡ true → o.version ≤ version_of vs o.file) → Goes tree (changed tree c) vs (versions_after vs c) o
goes tree vs c o is fresh rise was = elim (cases_Bool (node_of c == o.file)) [
  | inl here ↦ goes-there tree vs c o is fresh rise was (eqb-true _ _ here)
  | inr other ↦ same-goes tree (changed tree c) vs (versions_after vs c) o was (content-elsewhere tree c is o.file (eqb-false _ _ other)) (version-elsewhere vs c o.file (eqb-false _ _ other))
]

module _ (tree : Tree) (vs : List Version) (c : Change) (os : List FirstOpen) (is : applies tree c ≡ true) (fresh : Fresh c os) (rests : Rests tree vs os) where
  rests-after : Rests (changed tree c) (versions_after vs c) os
  rests-after = record { rise = rises-after vs c rests.rise; was = λ o there. (goes tree vs c o is (fresh o there) rests.rise (rests.was o there)).was }

  units-rise : older_units (is_older tree vs) os ≤ older_units (is_older (changed tree c) (versions_after vs c)) os
  units-rise = older-rises (is_older tree vs) (is_older (changed tree c) (versions_after vs c)) os (older-like tree vs) (λ o there. (goes tree vs c o is (fresh o there) rests.rise (rests.was o there)).older)

-- ---- changes in order

-- none of the changes makes a file that was first opened
abbrev pub AllFresh : List Change → List FirstOpen → Type 0
AllFresh cs os = (c : Change) → IsIn c cs → Fresh c os

pub rests-all : (cs : List Change) (tree : Tree) (vs : List Version) (os : List FirstOpen) → changes_apply tree cs ≡ true → AllFresh cs os → Rests tree vs os → Rests (changed_all tree cs) (fold versions_after vs cs) os
rests-all [] tree vs os is fresh rests = rests
rests-all (c ∷ cs) tree vs os is fresh rests =
    let parts = and_parts (applies tree c) (changes_apply (changed tree c) cs) is in
    rests-all cs (changed tree c) (versions_after vs c) os parts.1 (λ d there. fresh d (inr there)) (rests-after tree vs c os parts.0 (fresh c (inl refl)) rests)

pub units-rise-all : (cs : List Change) (tree : Tree) (vs : List Version) (os : List FirstOpen) → changes_apply tree cs ≡ true → AllFresh cs os → Rests tree vs os
    → older_units (is_older tree vs) os ≤ older_units (is_older (changed_all tree cs) (fold versions_after vs cs)) os
units-rise-all [] tree vs os is fresh rests = omega arith
units-rise-all (c ∷ cs) tree vs os is fresh rests =
    let parts = and_parts (applies tree c) (changes_apply (changed tree c) cs) is in
    let first = units-rise tree vs c os parts.0 (fresh c (inl refl)) rests in
    let rest = units-rise-all cs (changed tree c) (versions_after vs c) os parts.1 (λ d there. fresh d (inr there)) (rests-after tree vs c os parts.0 (fresh c (inl refl)) rests) in
    omega arith

-- ---- all bytes of one file

pub version-final : (vs : List Version) (f : ℕ) (bs : List ℕ) → each_pair files_rise vs ≡ true → version_of vs f < version_of (fold versions_after vs (final_bytes f bs)) f
version-final vs f [] rises = let once = version_of-raised vs f rises in omega arith
version-final vs f (b ∷ bs) rises = let twice = version_of-twice vs f rises in omega arith

pub version-final-other : (vs : List Version) (f m : ℕ) (bs : List ℕ) → (f ≡ m → ⊥) → version_of (fold versions_after vs (final_bytes f bs)) m ≡ version_of vs m
version-final-other vs f m [] other = version-elsewhere vs (Cut f 0 []) m other
version-final-other vs f m (b ∷ bs) other = version-elsewhere (versions_after vs (Cut f 0 [])) (Put f 0 (Whole (b ∷ bs))) m other ∙ version-elsewhere vs (Cut f 0 []) m other

pub content-final-other : (tree : Tree) (f m : ℕ) (bs : List ℕ) → changes_apply tree (final_bytes f bs) ≡ true → (f ≡ m → ⊥) → content_of (node_at (changed_all tree (final_bytes f bs)) m) ≡ content_of (node_at tree m)
content-final-other tree f m [] is other = content-elsewhere tree (Cut f 0 []) (and_parts (applies tree (Cut f 0 [])) true is).0 m other
content-final-other tree f m (b ∷ bs) is other =
    let parts = and_parts (applies tree (Cut f 0 [])) (applies (changed tree (Cut f 0 [])) (Put f 0 (Whole (b ∷ bs))) && true) is in
    let put = and_parts (applies (changed tree (Cut f 0 [])) (Put f 0 (Whole (b ∷ bs)))) true parts.1 in
    content-elsewhere (changed tree (Cut f 0 [])) (Put f 0 (Whole (b ∷ bs))) put.0 m other ∙ content-elsewhere tree (Cut f 0 []) parts.0 m other
