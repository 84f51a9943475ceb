-- What a commit makes of the tree, the versions and the units, one change or one file after another.
use Rattle.std.proofs.Common.{◌≡◌, ℕ, ◌+◌, ◌-◌, ◌<◌, ◌≤◌, ◌^◌, ◌==◌, ◌&&◌, not, true, false, cond, find, fold, is_some, map, sum_by, List, [], ◌∷◌, ◌++◌, Some, None, All, refl, sym, ◌∙◌, ap, subst, arith, inl, inr}
use Rattle.std.proofs.lemmas.Bool.{cases_Bool, and_from, and_parts, eq-eqb, eqb-false, eqb-true, true≢false}
use Rattle.std.proofs.lemmas.Option.{none-some}
use Rattle.std.proofs.lemmas.List.{append-nil}
use Rattle.std.proofs.lemmas.List.Elements.{All-cons, All-head, All-nil, All-tail}
use Rattle.std.proofs.lemmas.List.Folds.{list_all-append}
use Rattle.std.proofs.lemmas.List.Sums.{fold-append, sum_by-append, sum_by-cons}
use Rattle.std.specs.List.{flat_map, list_all}
use Rattle.txf_laws.proofs.offered.ChangeTests.{Applies-from, Fits-from}
use Rattle.txf_laws.proofs.offered.CommittedUnits.{cut-empty, suits-applies}
use Rattle.ktm_world.proofs.offered.Lookups.{Rises-changed, Rises-from as Rises-of, numbers_rise-from}
use Rattle.txf_laws.proofs.offered.NormalForms.{changes_apply-second}
use Rattle.txf_laws.proofs.offered.CommitsOfOthers.{changes_apply-first, All-by, All-in}
use Rattle.ktm_world.specs.declared.change.Change.{Change}
use Rattle.ktm_world.specs.declared.change.Change.TheVariants.{Make, Put, Cut, Move, Drop}
use Rattle.ktm_world.specs.declared.change.Contents.TheVariants.{Whole}
use Rattle.ktm_world.specs.Changes.{applies, changes_apply, changed, changed_all, is_drop, is_make, node_of}
use Rattle.ktm_world.specs.Committed.{Version, final_bytes, version_of, versions_after, without_version}
use Rattle.ktm_world.specs.Files.{FirstOpen}
use Rattle.ktm_world.specs.Tree.{Tree, bytes_of, bytes_or_none, content_of, is_file, node_at, numbers_rise, units_of}
use Rattle.txf_overlay.specs.OverlayState.{OverlayState, Written, final_of, own_of, is_of_names}
use Rattle.txf_overlay.specs.Written.{AreOver, units_in}
use Rattle.txf_tree.specs.TreeState.{TreeState, dropped, takes, tree_of, versions_of}
use Rattle.txf_tree.specs.UnitChanges.{CanBeMade}
use Rattle.txf_versions.specs.VersionsState.{VersionsState, is_pinned, is_version, older_units as kept_units}
use Rattle.txf_versions.specs.declared.kept.Older.{Older}
use Rattle.txf_versions.specs.declared.opened.Opened.{Opened}
use Rattle.txf_volume.specs.Making.{Parts, firsts_of, is_fresh, parts, units_older, AreMade, AreRight, CanMake, CanName, CanReplace, CanTake, IsEnded}
use Rattle.txf_volume.specs.Held.{first_held, tree_units}
use Rattle.txf_volume.specs.Ties.{IsKeptOpen}
use Rattle.txf_volume.specs.Uses.{gain, loss}
use Rattle.txf_volume.proofs.CommitKept.{IsStill, absent, ended-firsts, ended-opened, ended-units, older-of, still-firsts, still-opened, still-units}
use Rattle.txf_volume.proofs.CommitVersions.{AllFresh, Rests, content-elsewhere, content-final-other, content-dropped, content-moved, file-dropped, rests-all, units-rise-all, version-final, version-final-other}
use Rattle.txf_laws.specs.Elements.{IsIn}
use Rattle.txf_laws.proofs.offered.Elements.{list_any-from}
use Rattle.txf_volume.proofs.Elements.{each-mapped}
use Rattle.txf_laws.proofs.offered.NormalForms.{cut-none, put-none}
use Rattle.ktm_world.proofs.offered.Lookups.{Rises-from}
use Rattle.txf_volume.proofs.OwnCounts.{takes-one}
use Rattle.txf_volume.proofs.Steady.{versions-rise}
use Rattle.txf_volume.proofs.TreeUnits.{units-changed}
use Rattle.txf_laws.proofs.offered.Versions.{version_of-without, version-elsewhere}

-- ---- what can be made

-- changes of names touch no unit
pub names-can : (tree : Tree) (c : Change) → is_of_names c ≡ true → CanBeMade tree c
names-can tree (Make node parent kind name) only = tt
names-can tree (Put node offset contents) only = absurd (true≢false (sym only))
names-can tree (Cut node size pages) only = absurd (true≢false (sym only))
names-can tree (Move node parent name) only = tt
names-can tree (Drop node) only = tt

fresh-one : (opens : List Opened) (c : Change) → is_fresh opens c ≡ true → (p : Opened) → IsIn p opens → is_make c ≡ true → node_of c ≡ p.file → ⊥
fresh-one opens c fresh p there make e =
    let any = list_any-from (λ (o : Opened). o.file == node_of c) opens p there (eq-eqb p.file (node_of c) (sym e)) in
    true≢false (sym fresh ∙ (λ i. not (make i && any i)))

fresh-all : (cs : List Change) (tree : Tree) (older : List Older) (opens : List Opened) → list_all (is_fresh opens) cs ≡ true → AllFresh cs (map (first_held tree older) opens)
fresh-all [] tree older opens fresh c there = absurd there
fresh-all (d ∷ ds) tree older opens fresh c (inl e) =
    let parts = and_parts (is_fresh opens d) (list_all (is_fresh opens) ds) fresh in
    each-mapped (λ (o : FirstOpen). is_make c ≡ true → node_of c ≡ o.file → ⊥) (first_held tree older) opens (λ p there. fresh-one opens c (subst (λ (b : Change). is_fresh opens b ≡ true) e parts.0) p there)
fresh-all (d ∷ ds) tree older opens fresh c (inr there) = fresh-all ds tree older opens (and_parts (is_fresh opens d) (list_all (is_fresh opens) ds) fresh).1 c there

rise-after : (tree : Tree) (c : Change) → applies tree c ≡ true → numbers_rise tree ≡ true → numbers_rise (changed tree c) ≡ true
rise-after tree c is rise = numbers_rise-from (changed tree c) (Rises-changed tree c (Fits-from tree c (Applies-from tree c is)) (Rises-of tree rise))

rise-all : (cs : List Change) (tree : Tree) → changes_apply tree cs ≡ true → numbers_rise tree ≡ true → numbers_rise (changed_all tree cs) ≡ true
rise-all [] tree is rise = rise
rise-all (c ∷ cs) tree is rise = let parts = and_parts (applies tree c) (changes_apply (changed tree c) cs) is in rise-all cs (changed tree c) parts.1 (rise-after tree c parts.0 rise)

rests-of : (p : Parts) → AreRight p → Rests (tree_of p.tree) (versions_of p.tree) (firsts_of p)
rests-of p right = record {
  rise = versions-rise p.tree.nodes (Rises-from (tree_of p.tree) right.rise);
  was = each-mapped (λ (o : FirstOpen). is_file (tree_of p.tree) o.file ≡ true → o.version ≤ version_of (versions_of p.tree) o.file) (first_held (tree_of p.tree) p.versions.older) p.versions.opens
      (λ o there. (All-in (IsKeptOpen p.tree p.versions.older) p.versions.opens right.opened o there).was);
}

-- the first of the changes can be made
can-first : (p : Parts) (cs ds : List Change) → CanMake p (cs ++ ds) → CanMake p cs
can-first p cs ds can = record {
  right = can.right;
  applies = first;
  fresh = (and_parts _ _ (sym (list_all-append (is_fresh p.versions.opens) cs ds) ∙ can.fresh)).0;
  few =
      let all : units_older (changed_all (changed_all t cs) ds) (fold versions_after (fold versions_after vs cs) ds) (firsts_of p) < 2 ^ 64 =
      subst (λ v. units_older (changed_all (changed_all t cs) ds) v (firsts_of p) < 2 ^ 64) (fold-append versions_after vs cs ds)
      (subst (λ u. units_older u (fold versions_after vs (cs ++ ds)) (firsts_of p) < 2 ^ 64) (fold-append changed t cs ds) can.few) in
      let rises = units-rise-all ds (changed_all t cs) (fold versions_after vs cs) (firsts_of p) (changes_apply-second t cs ds can.applies) (λ d there. fresh d (in-right cs d there)) (rests-all cs t vs (firsts_of p) first (λ c there. fresh c (in-left cs ds c there)) (rests-of p can.right)) in
      let here = older-of (changed_all t cs) (fold versions_after vs cs) (firsts_of p) in
      let then' = older-of (changed_all (changed_all t cs) ds) (fold versions_after (fold versions_after vs cs) ds) (firsts_of p) in
      omega arith;
}
  where
    t : Tree
    t = tree_of p.tree

    vs : List Version
    vs = versions_of p.tree

    first : changes_apply (tree_of p.tree) cs ≡ true
    first = changes_apply-first (tree_of p.tree) cs ds can.applies

    fresh : AllFresh (cs ++ ds) (firsts_of p)
    fresh = fresh-all (cs ++ ds) (tree_of p.tree) p.versions.older p.versions.opens can.fresh

    in-left : (xs ys : List Change) (x : Change) → IsIn x xs → IsIn x (xs ++ ys)
    in-left [] ys x there = absurd there
    in-left (y ∷ xs) ys x (inl e) = inl e
    in-left (y ∷ xs) ys x (inr there) = inr (in-left xs ys x there)

    in-right : (xs : List Change) (x : Change) → IsIn x ds → IsIn x (xs ++ ds)
    in-right [] x there = there
    in-right (y ∷ xs) x there = inr (in-right xs x there)

-- and then the others
can-rest : (p q : Parts) (cs ds : List Change) → CanMake p (cs ++ ds) → AreMade p q cs → CanMake q ds
can-rest p q cs ds can made = record {
  right = made.right;
  applies = subst (λ t. changes_apply t ds ≡ true) (sym made.tree) (changes_apply-second (tree_of p.tree) cs ds can.applies);
  fresh = subst (λ os. list_all (is_fresh os) ds ≡ true) (sym made.opens) (and_parts _ _ (sym (list_all-append (is_fresh p.versions.opens) cs ds) ∙ can.fresh)).1;
  few = subst (λ n. n < 2 ^ 64) (sym same) can.few;
}
  where
    same : units_older (changed_all (tree_of q.tree) ds) (fold versions_after (versions_of q.tree) ds) (firsts_of q) ≡ units_older (changed_all (tree_of p.tree) (cs ++ ds)) (fold versions_after (versions_of p.tree) (cs ++ ds)) (firsts_of p)
    same = λ i. units_older ((ap (λ t. changed_all t ds) made.tree ∙ sym (fold-append changed (tree_of p.tree) cs ds)) i)
        ((ap (λ v. fold versions_after v ds) made.versions ∙ sym (fold-append versions_after (versions_of p.tree) cs ds)) i) (made.firsts i)

-- ---- what is made

pub made-none : (p : Parts) → AreRight p → AreMade p p []
made-none p right = record { right = right; tree = refl; versions = refl; opens = refl; firsts = refl; spare = omega arith }

-- one after another
pub made-then : (p q r : Parts) (cs ds : List Change) → AreMade p q cs → AreMade q r ds → AreMade p r (cs ++ ds)
made-then p q r cs ds a b = record {
  right = b.right;
  tree = b.tree ∙ ap (λ t. changed_all t ds) a.tree ∙ sym (fold-append changed (tree_of p.tree) cs ds);
  versions = b.versions ∙ ap (λ v. fold versions_after v ds) a.versions ∙ sym (fold-append versions_after (versions_of p.tree) cs ds);
  opens = b.opens ∙ a.opens;
  firsts = b.firsts ∙ a.firsts;
  spare = let all = sum_by-append takes cs ds in let first = a.spare in let next = b.spare in omega arith;
}

-- the version of a file ends by these changes
record Ends (p : Parts) (tree' : TreeState) (cs : List Change) (n : ℕ) : Type 0 where
  tree : tree_of tree' ≡ changed_all (tree_of p.tree) cs
  versions : versions_of tree' ≡ fold versions_after (versions_of p.tree) cs
  rise : numbers_rise (tree_of tree') ≡ true
  file : is_file (tree_of p.tree) n ≡ true
  grown : is_file (tree_of tree') n ≡ true → version_of (versions_of p.tree) n < version_of (versions_of tree') n
  still : (o : Opened) → IsIn o p.versions.opens → (o.file ≡ n → ⊥) → IsStill p.tree tree' o.file
  spare : p.tree.spare ≤ tree'.spare + sum_by takes cs

module _ (p : Parts) (tree' : TreeState) (cs : List Change) (n : ℕ) (can : CanMake p cs) (ends : Ends p tree' cs n) where
  ends-absent : is_pinned p.versions.opens n (version_of (versions_of p.tree) n) ≡ true → find (is_version n (version_of (versions_of p.tree) n)) p.versions.older ≡ None
  ends-absent = absent p.tree tree' n p.versions.older p.versions.opens ends.file ends.grown ends.still can.right.opened

  units-then : units_older (tree_of tree') (versions_of tree') (firsts_of p) ≡ units_older (tree_of p.tree) (versions_of p.tree) (firsts_of p) + cond (is_pinned p.versions.opens n (version_of (versions_of p.tree) n)) (units_of (bytes_of (tree_of p.tree) n)) 0
  units-then = ended-units p.tree tree' n p.versions.older p.versions.opens ends.file ends.grown ends.still can.right.opened

  ends-few : is_pinned p.versions.opens n (version_of (versions_of p.tree) n) ≡ true → kept_units p.versions.older + units_of (bytes_of (tree_of p.tree) n) < 2 ^ 64
  ends-few pinned =
      let few : units_older (tree_of tree') (versions_of tree') (firsts_of p) < 2 ^ 64 =
      subst (λ v. units_older (tree_of tree') v (firsts_of p) < 2 ^ 64) (sym ends.versions) (subst (λ t. units_older t (fold versions_after (versions_of p.tree) cs) (firsts_of p) < 2 ^ 64) (sym ends.tree) can.few) in
      let all : units_older (tree_of tree') (versions_of tree') (firsts_of p) ≡ units_older (tree_of p.tree) (versions_of p.tree) (firsts_of p) + units_of (bytes_of (tree_of p.tree) n) =
      units-then ∙ ap (λ b. units_older (tree_of p.tree) (versions_of p.tree) (firsts_of p) + cond b (units_of (bytes_of (tree_of p.tree) n)) 0) pinned in
      let older = can.right.older in
      omega arith

  ends-made : (versions' : VersionsState) (units' : ℕ) → IsEnded p.versions versions' n (version_of (versions_of p.tree) n) (bytes_of (tree_of p.tree) n) → units' ≡ tree_units (tree_of tree') → AreMade p (parts tree' versions' units') cs
  ends-made versions' units' it units = record {
    right = record {
      rise = ends.rise;
      opened = ended-opened p.tree tree' n p.versions.older p.versions.opens ends.file ends.grown ends.still can.right.opened p.versions versions' refl refl it;
      older = it.units ∙ ap (λ k. k + cond (is_pinned p.versions.opens n (version_of (versions_of p.tree) n)) (units_of (bytes_of (tree_of p.tree) n)) 0) can.right.older ∙ sym units-then ∙ ap (units_older (tree_of tree') (versions_of tree')) (sym firsts);
      units = units;
    };
    tree = ends.tree;
    versions = ends.versions;
    opens = it.opens;
    firsts = firsts;
    spare = ends.spare;
  }
    where
      firsts : firsts_of (parts tree' versions' units') ≡ firsts_of p
      firsts = ended-firsts p.tree tree' n p.versions.older p.versions.opens ends.file ends.grown ends.still can.right.opened p.versions versions' refl refl it

-- what is asked where the version ends, and what it comes to; its file has so many units more then
pub record Follows (p : Parts) (tree' : TreeState) (cs : List Change) (more n v : ℕ) (bytes : List ℕ) : Type 0 where
  pub absent : is_pinned p.versions.opens n v ≡ true → find (is_version n v) p.versions.older ≡ None
  pub few : is_pinned p.versions.opens n v ≡ true → kept_units p.versions.older + units_of bytes < 2 ^ 64
  pub lost : units_of bytes ≤ p.units + more
  pub made : (versions' : VersionsState) (units' : ℕ) → IsEnded p.versions versions' n v bytes → units' + units_of bytes ≡ p.units + more → AreMade p (parts tree' versions' units') cs

follows : (p : Parts) (tree' : TreeState) (cs : List Change) (more n v : ℕ) (bytes : List ℕ) → CanMake p cs → Ends p tree' cs n → v ≡ version_of (versions_of p.tree) n → bytes ≡ bytes_of (tree_of p.tree) n
    → tree_units (tree_of tree') + units_of bytes ≡ tree_units (tree_of p.tree) + more → Follows p tree' cs more n v bytes
follows p tree' cs more n v bytes can ends v_is bytes_is units =
    subst (λ w. Follows p tree' cs more n w bytes) (sym v_is) (subst (Follows p tree' cs more n last) (sym bytes_is) (record {
      absent = ends-absent p tree' cs n can ends;
      few = ends-few p tree' cs n can ends;
      lost = let was = can.right.units in let same = ap units_of bytes_is in omega arith;
      made = λ versions' units' it all. ends-made p tree' cs n can ends versions' units' it (let was = can.right.units in let same = ap units_of bytes_is in omega arith);
    }))
  where
    last : ℕ
    last = version_of (versions_of p.tree) n

-- ---- one change of names

version-gone : (vs : List Version) (n : ℕ) → version_of (without_version vs n) n ≡ 0
version-gone [] n = refl
version-gone (v ∷ vs) n = elim (cases_Bool (v.file == n)) [
  | inl same ↦ rw same (version-gone vs n)
  | inr other ↦ rw (other, other) (version-gone vs n)
]

version-name : (vs : List Version) (c : Change) → is_of_names c ≡ true → (m : ℕ) → version_of (versions_after vs c) m ≤ version_of vs m
version-name vs (Make node parent kind name) is m = omega arith
version-name vs (Put node offset contents) is m = absurd (true≢false (sym is))
version-name vs (Cut node size pages) is m = absurd (true≢false (sym is))
version-name vs (Move node parent name) is m = omega arith
version-name vs (Drop node) is m = elim (cases_Bool (node == m)) [
  | inl here ↦ let none = (λ i. version_of (without_version vs (eqb-true node m here i)) m) ∙ version-gone vs m in omega arith
  | inr other ↦ let same = version_of-without vs node m (eqb-false node m other) in omega arith
]

module _ (p : Parts) (c : Change) (cs : List Change) (can : CanName p (c ∷ cs)) where
  pub name-first : CanName p (c ∷ [])
  name-first = record {
    can = can-first p (c ∷ []) cs can.can;
    only = and_from _ _ (and_parts (is_of_names c) (list_all is_of_names cs) can.only).0 refl;
    spare = let few = can.spare in omega arith;
    few = can.few;
  }

  pub name-rest : (q : Parts) → AreMade p q (c ∷ []) → CanName q cs
  name-rest q made =
      let parts = and_parts (is_of_names c) (list_all is_of_names cs) can.only in
      record {
        can = can-rest p q (c ∷ []) cs can.can made;
        only = parts.1;
        spare = let few = can.spare in let less = made.spare in let all = sum_by-cons takes c [] in let one = takes-one c in omega arith;
        few = λ file. let before = can.few file in let no_more = version-name (versions_of p.tree) c parts.0 file in let now = ap (λ v. version_of v file) made.versions in omega arith;
      }

-- a file that is dropped
record IsDropped (tree : Tree) (c : Change) (bytes : List ℕ) : Type 0 where
  drop : is_drop c ≡ true
  content : content_of (node_at tree (node_of c)) ≡ Some bytes

dropped-some : (tree : Tree) (c : Change) (bytes : List ℕ) → dropped tree c ≡ Some bytes → IsDropped tree c bytes
dropped-some tree (Make node parent kind name) bytes some = absurd (none-some bytes some)
dropped-some tree (Put node offset contents) bytes some = absurd (none-some bytes some)
dropped-some tree (Cut node size pages) bytes some = absurd (none-some bytes some)
dropped-some tree (Move node parent name) bytes some = absurd (none-some bytes some)
dropped-some tree (Drop node) bytes some = record { drop = refl; content = some }

gone-dropped : (tree : Tree) (c : Change) → applies tree c ≡ true → is_drop c ≡ true → is_file (changed tree c) (node_of c) ≡ false
gone-dropped tree (Make node parent kind name) is drop = absurd (true≢false (sym drop))
gone-dropped tree (Put node offset contents) is drop = absurd (true≢false (sym drop))
gone-dropped tree (Cut node size pages) is drop = absurd (true≢false (sym drop))
gone-dropped tree (Move node parent name) is drop = absurd (true≢false (sym drop))
gone-dropped tree (Drop node) is drop = file-dropped tree node is

-- the units of the file that it drops are gone, and no others
units-name : (tree : Tree) (c : Change) → applies tree c ≡ true → is_of_names c ≡ true → numbers_rise tree ≡ true → tree_units (changed tree c) + units_of (bytes_or_none (dropped tree c)) ≡ tree_units tree
units-name tree c is only rise = let all = units-changed tree c ((suits-applies tree c is).file) (Rises-from tree rise) in let lost = loses c only in let got = gains c only in omega arith
  where
    loses : (c : Change) → is_of_names c ≡ true → loss (bytes_of tree (node_of c)) c ≡ units_of (bytes_or_none (dropped tree c))
    loses (Make node parent kind name) only = refl
    loses (Put node offset contents) only = absurd (true≢false (sym only))
    loses (Cut node size pages) only = absurd (true≢false (sym only))
    loses (Move node parent name) only = refl
    loses (Drop node) only = refl

    gains : (c : Change) → is_of_names c ≡ true → gain (bytes_of tree (node_of c)) c ≡ 0
    gains (Make node parent kind name) only = refl
    gains (Put node offset contents) only = absurd (true≢false (sym only))
    gains (Cut node size pages) only = absurd (true≢false (sym only))
    gains (Move node parent name) only = refl
    gains (Drop node) only = refl

-- the node of a change of names that drops no file has the content that it had
content-kept : (tree : Tree) (vs : List Version) (c : Change) → applies tree c ≡ true → is_of_names c ≡ true → dropped tree c ≡ None → (is_make c ≡ true → ⊥)
    → (content_of (node_at (changed tree c) (node_of c)) ≡ content_of (node_at tree (node_of c))) × (is_file tree (node_of c) ≡ true → version_of (versions_after vs c) (node_of c) ≡ version_of vs (node_of c))
content-kept tree vs (Make node parent kind name) is only none old = absurd (old refl)
content-kept tree vs (Put node offset contents) is only none old = absurd (true≢false (sym only))
content-kept tree vs (Cut node size pages) is only none old = absurd (true≢false (sym only))
content-kept tree vs (Move node parent name) is only none old = (content-moved tree node parent name is, λ file. refl)
content-kept tree vs (Drop node) is only none old = (content-dropped tree node is ∙ sym none, λ file. absurd (true≢false (sym file ∙ ap is_some none)))

module _ (p : Parts) (c : Change) (can : CanName p (c ∷ [])) where
  abbrev t : Tree
  t = tree_of p.tree

  pub name-applies : applies t c ≡ true
  name-applies = (and_parts (applies t c) true can.can.applies).0

  name-only : is_of_names c ≡ true
  name-only = (and_parts (is_of_names c) true can.only).0

  name-fresh : is_fresh p.versions.opens c ≡ true
  name-fresh = (and_parts (is_fresh p.versions.opens c) true can.can.fresh).0

  -- what applying it comes to
  pub record IsApplied (tree' : TreeState) : Type 0 where
    pub tree : tree_of tree' ≡ changed t c
    pub versions : versions_of tree' ≡ versions_after (versions_of p.tree) c
    pub spare : p.tree.spare ≤ tree'.spare + takes c

  module _ (tree' : TreeState) (applied : IsApplied tree') where
    still-elsewhere : (o : Opened) → (node_of c ≡ o.file → ⊥) → IsStill p.tree tree' o.file
    still-elsewhere o other = record {
      content = ap (λ u. content_of (node_at u o.file)) applied.tree ∙ content-elsewhere t c name-applies o.file other;
      version = λ file. ap (λ v. version_of v o.file) applied.versions ∙ version-elsewhere (versions_of p.tree) c o.file other;
    }

    room : p.tree.spare ≤ tree'.spare + sum_by takes (c ∷ [])
    room = let less = applied.spare in let all = sum_by-cons takes c [] in omega arith

    rise' : numbers_rise (tree_of tree') ≡ true
    rise' = ap numbers_rise applied.tree ∙ rise-after t c name-applies can.can.right.rise

    -- where it drops a file
    name-ends : (bytes : List ℕ) → dropped t c ≡ Some bytes → Ends p tree' (c ∷ []) (node_of c)
    name-ends bytes some =
        let is = dropped-some t c bytes some in
        record {
          tree = applied.tree;
          versions = applied.versions;
          rise = rise';
          file = ap is_some is.content;
          grown = λ file. absurd (true≢false (sym file ∙ ap (λ u. is_file u (node_of c)) applied.tree ∙ gone-dropped t c name-applies is.drop));
          still = λ o there other. still-elsewhere o (λ e. other (sym e));
          spare = room;
        }

    name-units : tree_units (tree_of tree') + units_of (bytes_or_none (dropped t c)) ≡ tree_units t
    name-units = ap (λ u. tree_units u + units_of (bytes_or_none (dropped t c))) applied.tree ∙ units-name t c name-applies name-only can.can.right.rise

    pub name-follows : (n v : ℕ) (bytes : List ℕ) → n ≡ node_of c → v ≡ version_of (versions_of p.tree) n → Some bytes ≡ dropped t c → Follows p tree' (c ∷ []) 0 n v bytes
    name-follows n v bytes n_is v_is some =
        subst (λ m. Follows p tree' (c ∷ []) 0 m v bytes) (sym n_is) (follows p tree' (c ∷ []) 0 (node_of c) v bytes can.can (name-ends bytes (sym some)) (v_is ∙ ap (version_of (versions_of p.tree)) n_is)
        (sym (ap bytes_or_none (dropped-some t c bytes (sym some)).content))
        (let all = name-units in let lost = ap (λ d. units_of (bytes_or_none d)) some in omega arith))

    -- and where it does not
    pub name-kept : dropped t c ≡ None → AreMade p (parts tree' p.versions p.units) (c ∷ [])
    name-kept none = record {
      right = record {
        rise = rise';
        opened = still-opened p.tree tree' p.versions.older p.versions.opens still can.can.right.opened;
        older = can.can.right.older ∙ sym (still-units p.tree tree' p.versions.older p.versions.opens still) ∙ ap (units_older (tree_of tree') (versions_of tree')) (sym firsts);
        units = let all = name-units in let no = ap (λ d. units_of (bytes_or_none d)) none in let was = can.can.right.units in omega arith;
      };
      tree = applied.tree;
      versions = applied.versions;
      opens = refl;
      firsts = firsts;
      spare = room;
    }
      where
        still : (o : Opened) → IsIn o p.versions.opens → IsStill p.tree tree' o.file
        still o there = elim (cases_Bool (node_of c == o.file)) [
          | inl here ↦
              let e = eqb-true _ _ here in
              let kept = content-kept t (versions_of p.tree) c name-applies name-only none (λ make. fresh-one p.versions.opens c name-fresh o there make e) in
              subst (λ m. IsStill p.tree tree' m) e (record {
                content = ap (λ u. content_of (node_at u (node_of c))) applied.tree ∙ kept.0;
                version = λ file. ap (λ v. version_of v (node_of c)) applied.versions ∙ kept.1 file;
              })
          | inr other ↦ still-elsewhere o (eqb-false _ _ other)
        ]

        firsts : map (first_held (tree_of tree') p.versions.older) p.versions.opens ≡ firsts_of p
        firsts = still-firsts p.tree tree' p.versions.older p.versions.opens still

-- ---- all bytes of one file

-- a file that is not the first of rising ones
all-over : (n : ℕ) (P Q : Written → Type 0) (ws : List Written) → AreOver n ws → ((w : Written) → n < w.file → P w → Q w) → All P ws → All Q ws
all-over n P Q [] over step all = All-nil Q
all-over n P Q (w ∷ ws) over step all = All-cons Q w ws (step w over.0 (All-head P w ws all)) (all-over n P Q ws over.1 step (All-tail P w ws all))

units-final : (tree : Tree) (f : ℕ) (bs : List ℕ) → changes_apply tree (final_bytes f bs) ≡ true → numbers_rise tree ≡ true → tree_units (changed_all tree (final_bytes f bs)) + units_of (bytes_of tree f) ≡ tree_units tree + units_of bs
units-final tree f [] is rise =
    let cut = and_parts (applies tree (Cut f 0 [])) true is in
    let all = units-changed tree (Cut f 0 []) ((suits-applies tree (Cut f 0 []) cut.0).file) (Rises-from tree rise) in
    let none = ap units_of (cut-none (bytes_of tree f)) in
    omega arith
units-final tree f (b ∷ bs) is rise =
    let u = changed tree (Cut f 0 []) in
    let c = Put f 0 (Whole (b ∷ bs)) in
    let cut = and_parts (applies tree (Cut f 0 [])) (applies u c && true) is in
    let put = and_parts (applies u c) true cut.1 in
    let first = units-changed tree (Cut f 0 []) ((suits-applies tree (Cut f 0 []) cut.0).file) (Rises-from tree rise) in
    let none = ap units_of (cut-none (bytes_of tree f)) in
    let next = units-changed u c ((suits-applies u c put.0).file) (Rises-from u (rise-after tree (Cut f 0 []) cut.0 rise)) in
    let gone = ap units_of (cut-empty tree f) in
    let new = ap units_of (put-none (bytes_of u f) (b ∷ bs) (cut-empty tree f)) in
    omega arith

final-file : (tree : Tree) (f : ℕ) (bs : List ℕ) → changes_apply tree (final_bytes f bs) ≡ true → is_file tree f ≡ true
final-file tree f [] is = (suits-applies tree (Cut f 0 []) (and_parts (applies tree (Cut f 0 [])) true is).0).file refl
final-file tree f (b ∷ bs) is = (suits-applies tree (Cut f 0 []) (and_parts (applies tree (Cut f 0 [])) (applies (changed tree (Cut f 0 [])) (Put f 0 (Whole (b ∷ bs))) && true) is).0).file refl

module _ (p : Parts) (w : Written) (ws : List Written) (can : CanReplace p (w ∷ ws)) where
  final-can : CanMake p (final_of w)
  final-can = can-first p (final_of w) (flat_map final_of ws) can.can

  final-there : is_file (tree_of p.tree) w.file ≡ true
  final-there = final-file (tree_of p.tree) w.file w.bytes final-can.applies

  final-few : version_of (versions_of p.tree) w.file < 2 ^ 64 - 2
  final-few = All-head (λ (v : Written). version_of (versions_of p.tree) v.file < 2 ^ 64 - 2) w ws can.few

  pub replace-first : CanReplace p (w ∷ [])
  replace-first = record {
    can = subst (CanMake p) (sym (append-nil (final_of w))) final-can;
    rise = (tt, tt);
    few = All-cons (λ (v : Written). version_of (versions_of p.tree) v.file < 2 ^ 64 - 2) w [] final-few (All-nil (λ (v : Written). version_of (versions_of p.tree) v.file < 2 ^ 64 - 2));
    units = let all = can.units in let a = sum_by-cons units_in w ws in let b = sum_by-cons units_in w [] in omega arith;
  }

  pub replace-rest : (q : Parts) → AreMade p q (final_of w) → CanReplace q ws
  replace-rest q made = record {
    can = can-rest p q (final_of w) (flat_map final_of ws) can.can made;
    rise = can.rise.1;
    few = all-over w.file (λ (v : Written). version_of (versions_of p.tree) v.file < 2 ^ 64 - 2) (λ (v : Written). version_of (versions_of q.tree) v.file < 2 ^ 64 - 2) ws can.rise.0
        (λ v over few. subst (λ n. n < 2 ^ 64 - 2) (sym (ap (λ vs. version_of vs v.file) made.versions ∙ version-final-other (versions_of p.tree) w.file v.file w.bytes (λ e. omega (arith, over, e)))) few)
        (All-tail (λ (v : Written). version_of (versions_of p.tree) v.file < 2 ^ 64 - 2) w ws can.few);
    units =
        let all = can.units in
        let a = sum_by-cons units_in w ws in
        let was = can.can.right.units in
        let now = made.right.units ∙ ap tree_units made.tree in
        let step = units-final (tree_of p.tree) w.file w.bytes final-can.applies can.can.right.rise in
        omega arith;
  }

  -- what replacing its bytes comes to
  pub record IsReplaced (tree' : TreeState) : Type 0 where
    pub tree : tree_of tree' ≡ changed_all (tree_of p.tree) (final_of w)
    pub versions : versions_of tree' ≡ fold versions_after (versions_of p.tree) (final_of w)
    pub spare : tree'.spare ≡ p.tree.spare

  module _ (tree' : TreeState) (replaced : IsReplaced tree') where
    final-ends : Ends p tree' (final_of w) w.file
    final-ends = record {
      tree = replaced.tree;
      versions = replaced.versions;
      rise = ap numbers_rise replaced.tree ∙ rise-all (final_of w) (tree_of p.tree) final-can.applies can.can.right.rise;
      file = final-there;
      grown = λ file. subst (λ vs. version_of (versions_of p.tree) w.file < version_of vs w.file) (sym replaced.versions) (version-final (versions_of p.tree) w.file w.bytes (rests-of p can.can.right).rise);
      still = λ o there other. record {
        content = ap (λ u. content_of (node_at u o.file)) replaced.tree ∙ content-final-other (tree_of p.tree) w.file o.file w.bytes final-can.applies (λ e. other (sym e));
        version = λ file. ap (λ vs. version_of vs o.file) replaced.versions ∙ version-final-other (versions_of p.tree) w.file o.file w.bytes (λ e. other (sym e));
      };
      spare = let same = replaced.spare in omega arith;
    }

    final-units : tree_units (tree_of tree') + units_of (bytes_of (tree_of p.tree) w.file) ≡ tree_units (tree_of p.tree) + units_of w.bytes
    final-units = ap (λ u. tree_units u + units_of (bytes_of (tree_of p.tree) w.file)) replaced.tree ∙ units-final (tree_of p.tree) w.file w.bytes final-can.applies can.can.right.rise

    pub final-follows : (n v : ℕ) (bytes : List ℕ) → n ≡ w.file → v ≡ version_of (versions_of p.tree) n → bytes ≡ bytes_of (tree_of p.tree) n → Follows p tree' (final_of w) (units_of w.bytes) n v bytes
    final-follows n v bytes n_is v_is bytes_is =
        let was = bytes_is ∙ ap (bytes_of (tree_of p.tree)) n_is in
        subst (λ m. Follows p tree' (final_of w) (units_of w.bytes) m v bytes) (sym n_is)
        (follows p tree' (final_of w) (units_of w.bytes) w.file v bytes final-can final-ends (v_is ∙ ap (version_of (versions_of p.tree)) n_is) was (ap (λ b. tree_units (tree_of tree') + units_of b) was ∙ final-units))

-- ---- all that a transaction changed

versions-names : (cs : List Change) (vs : List Version) → list_all is_of_names cs ≡ true → (m : ℕ) → version_of (fold versions_after vs cs) m ≤ version_of vs m
versions-names [] vs only m = omega arith
versions-names (c ∷ cs) vs only m =
    let parts = and_parts (is_of_names c) (list_all is_of_names cs) only in
    let first = version-name vs c parts.0 m in
    let rest = versions-names cs (versions_after vs c) parts.1 m in
    omega arith

units-names : (cs : List Change) (tree : Tree) → changes_apply tree cs ≡ true → list_all is_of_names cs ≡ true → numbers_rise tree ≡ true → tree_units (changed_all tree cs) ≤ tree_units tree
units-names [] tree is only rise = omega arith
units-names (c ∷ cs) tree is only rise =
    let applied = and_parts (applies tree c) (changes_apply (changed tree c) cs) is in
    let parts = and_parts (is_of_names c) (list_all is_of_names cs) only in
    let first = units-name tree c applied.0 parts.0 rise in
    let rest = units-names cs (changed tree c) applied.1 parts.1 (rise-after tree c applied.0 rise) in
    omega arith

module _ (p : Parts) (o : OverlayState) (can : CanTake p o) where
  pub take-names : CanName p o.names
  take-names = record { can = can-first p o.names (flat_map final_of o.written) can.can; only = can.only; spare = can.spare; few = can.few }

  pub take-units : (q : Parts) → AreMade p q (own_of o) → q.units < 2 ^ 64
  take-units q made = subst (λ n. n < 2 ^ 64) (sym (made.right.units ∙ ap tree_units made.tree)) can.sum

  pub take-files : (q : Parts) → AreMade p q o.names → CanReplace q o.written
  take-files q made = record {
    can = can-rest p q o.names (flat_map final_of o.written) can.can made;
    rise = can.rise;
    few = All-by (λ (w : Written). version_of (versions_of q.tree) w.file < 2 ^ 64 - 2) o.written (λ w there.
        let before = can.few w.file in
        let no_more = versions-names o.names (versions_of p.tree) can.only w.file in
        let now = ap (λ vs. version_of vs w.file) made.versions in
        omega arith);
    units =
        let all = can.units in
        let was = can.can.right.units in
        let now = made.right.units ∙ ap tree_units made.tree in
        let less = units-names o.names (tree_of p.tree) take-names.can.applies can.only can.can.right.rise in
        omega arith;
  }
