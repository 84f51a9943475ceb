-- The bytes that files have once changes are committed that are in the form in which they are committed.
use Rattle.std.proofs.Common.{◌≡◌, ℕ, true, is_some, List, [], ◌∷◌, ◌++◌, map, sum_by, Option, Some, None, refl, sym, ◌∙◌, ap, subst, arith, inl, inr}
use Rattle.std.proofs.lemmas.Bool.{and_parts, true≢false}
use Rattle.ktm_world.specs.declared.change.Change.{Change}
use Rattle.ktm_world.specs.declared.change.Change.TheVariants.{Put, Cut}
use Rattle.ktm_world.specs.declared.change.Contents.TheVariants.{Whole}
use Rattle.ktm_world.specs.declared.recorded.Node.{Node}
use Rattle.ktm_world.specs.Changes.{changed, changed_all, applies, changes_apply, node_of}
use Rattle.ktm_world.specs.Committed.{changes_to_commit, final_bytes, written_files}
use Rattle.ktm_world.specs.Tree.{Tree, bytes_of, bytes_or_none, content_of, node_at, put_over, units_of}
use Rattle.txf_laws.specs.FinalChanges.{names_of}
use Rattle.txf_laws.specs.Elements.{IsIn}
use Rattle.txf_laws.proofs.offered.ChangeTests.{Applies-from, Fits-from, node-elsewhere}
use Rattle.txf_laws.proofs.offered.CommittedUnits.{cut-empty}
use Rattle.ktm_world.proofs.offered.Lookups.{map_node, node_at-there}
use Rattle.txf_laws.proofs.offered.NormalForms.{RisingNumbers, changes_apply-second, changed_all-append, ends_of, put-none, rising-written}
use Rattle.txf_laws.proofs.offered.Sums.{sum-same}

-- the bytes at the end are of their files
ends-node : (by : ℕ → List ℕ) (files : List ℕ) (n : ℕ) → IsIn n (map node_of (ends_of by files)) → IsIn n files
ends-node by [] n there = absurd there
ends-node by (f ∷ fs) n there = go (λ later. ends-node by fs n later) (by f) there
  where
    go : (IsIn n (map node_of (ends_of by fs)) → IsIn n fs) → (bs : List ℕ) → IsIn n (map node_of (final_bytes f bs ++ ends_of by fs)) → IsIn n (f ∷ fs)
    go rest [] (inl e) = inl e
    go rest [] (inr later) = inr (rest later)
    go rest (b ∷ bs) (inl e) = inl e
    go rest (b ∷ bs) (inr (inl e)) = inl e
    go rest (b ∷ bs) (inr (inr later)) = inr (rest later)

-- bytes that are put where there are none
put-there : (tree : Tree) (f : ℕ) (bs : List ℕ) → applies tree (Put f 0 (Whole bs)) ≡ true → bytes_of tree f ≡ [] → bytes_of (changed tree (Put f 0 (Whole bs))) f ≡ bs
put-there tree f bs is none =
    let c = Put f 0 (Whole bs) in
    ap (λ n. bytes_or_none (content_of n)) (node_at-there tree c (Fits-from tree c (Applies-from tree c is))) ∙ go (node_at tree f) (Applies-from tree c is).0 none
  where
    go : (o : Option Node) → is_some (content_of o) ≡ true → bytes_or_none (content_of o) ≡ []
        → bytes_or_none (content_of (map_node (λ n. record n { content = Some (put_over (bytes_or_none n.content) 0 bs) }) o)) ≡ bs
    go None file none = absurd (true≢false (sym file))
    go (Some n) file none = put-none (bytes_or_none n.content) bs none

ends-bytes-at : (by : ℕ → List ℕ) (files : List ℕ) (tree : Tree) → RisingNumbers files → changes_apply tree (ends_of by files) ≡ true → (f : ℕ) → IsIn f files → bytes_of (changed_all tree (ends_of by files)) f ≡ by f
ends-bytes-at by [] tree rises all f there = absurd there
ends-bytes-at by (g ∷ gs) tree rises all f there = go (λ t rest has. ends-bytes-at by gs t rises.1 rest f has) (by g) refl all
  where
    -- the others leave its bytes
    left : (t : Tree) → changes_apply t (ends_of by gs) ≡ true → bytes_of (changed_all t (ends_of by gs)) g ≡ bytes_of t g
    left t rest = ap (λ n. bytes_or_none (content_of n)) (node-elsewhere (ends_of by gs) t g rest (λ has. omega (arith, rises.0 g (ends-node by gs g has))))

    here : (t : Tree) → changes_apply t (ends_of by gs) ≡ true → bytes_of t g ≡ by g → g ≡ f → bytes_of (changed_all t (ends_of by gs)) f ≡ by f
    here t rest is e = subst (λ k. bytes_of (changed_all t (ends_of by gs)) k ≡ by k) e (left t rest ∙ is)

    go : ((t : Tree) → changes_apply t (ends_of by gs) ≡ true → IsIn f gs → bytes_of (changed_all t (ends_of by gs)) f ≡ by f) → (bs : List ℕ) → by g ≡ bs
        → changes_apply tree (final_bytes g bs ++ ends_of by gs) ≡ true → bytes_of (changed_all tree (final_bytes g bs ++ ends_of by gs)) f ≡ by f
    go later [] is all =
        let parts = and_parts (applies tree (Cut g 0 [])) _ all in
        let t = changed tree (Cut g 0 []) in
        elim there [ inl e ↦ here t parts.1 (cut-empty tree g ∙ sym is) e | inr has ↦ later t parts.1 has ]
    go later (b ∷ bs) is all =
        let parts = and_parts (applies tree (Cut g 0 [])) _ all in
        let t = changed tree (Cut g 0 []) in
        let put = Put g 0 (Whole (b ∷ bs)) in
        let parts' = and_parts (applies t put) _ parts.1 in
        let u = changed t put in
        elim there [ inl e ↦ here u parts'.1 (put-there t g (b ∷ bs) parts'.0 (cut-empty tree g) ∙ sym is) e | inr has ↦ later u parts'.1 has ]

-- each file that is left has the bytes that it was given
pub bytes-committed : (tree : Tree) (cs : List Change) (by : ℕ → List ℕ) → changes_to_commit cs by ≡ cs → changes_apply tree cs ≡ true → (f : ℕ) → IsIn f (written_files cs) → bytes_of (changed_all tree cs) f ≡ by f
bytes-committed tree cs by final all f there =
    let names = names_of cs in
    let ends = ends_of by (written_files cs) in
    let all' : changes_apply tree (names ++ ends) ≡ true = subst (λ ds. changes_apply tree ds ≡ true) (sym final) all in
    ap (λ ds. bytes_of (changed_all tree ds) f) (sym final) ∙ ap (λ t. bytes_of t f) (changed_all-append tree names ends)
    ∙ ends-bytes-at by (written_files cs) (changed_all tree names) (rising-written cs [] tt) (changes_apply-second tree names ends all') f there

-- the units of the files that changes leave
abbrev pub committed_units : Tree → List Change → ℕ
committed_units tree cs = sum_by (λ file. units_of (bytes_of (changed_all tree cs) file)) (written_files cs)

pub units-committed : (tree : Tree) (cs : List Change) (by : ℕ → List ℕ) → changes_to_commit cs by ≡ cs → changes_apply tree cs ≡ true → committed_units tree cs ≡ sum_by (λ f. units_of (by f)) (written_files cs)
units-committed tree cs by final all = sum-same _ _ (written_files cs) (λ f there. ap units_of (bytes-committed tree cs by final all f there))
