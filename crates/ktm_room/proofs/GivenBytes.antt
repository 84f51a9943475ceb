-- The bytes that files have once a waiting transaction's changes are made.
use Rattle.std.proofs.Common.{◌≡◌, ℕ, true, is_some, List, [], ◌∷◌, ◌++◌, map, sum_by, Option, Some, None, refl, sym, ◌∙◌, ap, subst, arith, inl, inr}
use Rattle.std.proofs.lemmas.Bool.{and_parts, true≢false}
use Rattle.std.specs.List.{list_all}
use Rattle.ktm_world.specs.declared.change.Change.{Change}
use Rattle.ktm_world.specs.declared.change.Change.TheVariants.{Put, Cut}
use Rattle.ktm_world.specs.declared.change.Contents.TheVariants.{Whole}
use Rattle.ktm_world.specs.declared.recorded.Node.{Node}
use Rattle.ktm_world.specs.Changes.{applies, changed, changed_all, changes_apply, node_of}
use Rattle.ktm_world.specs.Committed.{changes_to_commit, final_bytes, written_files}
use Rattle.ktm_world.specs.Durable.{are_recorded_changes}
use Rattle.ktm_world.specs.Files.{bytes_after}
use Rattle.ktm_world.specs.Tree.{Tree, bytes_of, bytes_or_none, content_of, node_at, put_over, units_of}
use Rattle.ktm_world.proofs.offered.Lookups.{map_node, node_at-there}
use Rattle.txf_laws.specs.Contents.{puts_some}
use Rattle.txf_laws.specs.Elements.{IsIn}
use Rattle.txf_laws.specs.FinalChanges.{names_of}
use Rattle.txf_laws.proofs.offered.ChangeTests.{Applies-from, Fits-from, node-elsewhere}
use Rattle.txf_laws.proofs.offered.CommittedUnits.{cut-empty}
use Rattle.txf_laws.proofs.offered.NormalForms.{RisingNumbers, changed_all-append, changes_apply-second, ends_of, put-none, rising-written}
use Rattle.txf_laws.proofs.offered.Sums.{sum-same}
use Rattle.ktm_owned.proofs.offered.RestoredChanges.{restored}

-- the bytes that are given are of their files
given-node : (by : ℕ → List ℕ) (files : List ℕ) (n : ℕ) → IsIn n (map node_of (ends_of by files)) → IsIn n files
given-node by [] n there = absurd there
given-node by (f ∷ fs) n there = go (λ later. given-node by fs n later) (by f) there
  where
    go : (IsIn n (map node_of (ends_of by fs)) → IsIn n fs) → (bytes : List ℕ) → IsIn n (map node_of (final_bytes f bytes ++ ends_of by fs)) → IsIn n (f ∷ fs)
    go rest [] (inl e) = inl e
    go rest [] (inr later) = inr (rest later)
    go rest (b ∷ bs) (inl e) = inl e
    go rest (b ∷ bs) (inr (inl e)) = inl e
    go rest (b ∷ bs) (inr (inr later)) = inr (rest later)

-- a file that is cut to nothing, and whose bytes are put, has these
one-given : (tree : Tree) (file : ℕ) (bytes rest : List ℕ) (more : List Change) → bytes ≡ rest → changes_apply tree (final_bytes file rest ++ more) ≡ true → bytes_of (changed_all tree (final_bytes file rest)) file ≡ bytes
one-given tree file bytes [] more is all = cut-empty tree file ∙ sym is
one-given tree file bytes (b ∷ bs) more is all =
    let cut = Cut file 0 [] in
    let put = Put file 0 (Whole (b ∷ bs)) in
    let cleared = changed tree cut in
    let applied = Applies-from cleared put (and_parts (applies cleared put) _ (and_parts (applies tree cut) _ all).1).0 in
    ap (λ n. bytes_or_none (content_of n)) (node_at-there cleared put (Fits-from cleared put applied)) ∙ go (node_at cleared file) applied.0 (cut-empty tree file) ∙ sym is
  where
    go : (o : Option Node) → is_some (content_of o) ≡ true → bytes_or_none (content_of o) ≡ [] → bytes_or_none (content_of (map_node (λ n. record n { content = Some (put_over (bytes_or_none n.content) 0 (b ∷ bs)) }) o)) ≡ b ∷ bs
    go None file' none = absurd (true≢false (sym file'))
    go (Some n) file' none = put-none (bytes_or_none n.content) (b ∷ bs) none

given-bytes : (by : ℕ → List ℕ) (files : List ℕ) (tree : Tree) → RisingNumbers files → changes_apply tree (ends_of by files) ≡ true → (f : ℕ) → IsIn f files → bytes_of (changed_all tree (ends_of by files)) f ≡ by f
given-bytes by [] tree rises all f there = absurd there
given-bytes by (g ∷ gs) tree rises all f there =
    let own = final_bytes g (by g) in
    let here = changed_all tree own in
    let rest = changes_apply-second tree own (ends_of by gs) all in
    ap (λ t. bytes_of t f) (changed_all-append tree own (ends_of by gs))
    ∙ elim there [
      | inl e ↦ subst (λ n. bytes_of (changed_all here (ends_of by gs)) n ≡ by n) e
          (ap (λ n. bytes_or_none (content_of n)) (node-elsewhere (ends_of by gs) here g rest (λ has. let over = rises.0 g (given-node by gs g has) in omega (arith, over))) ∙ one-given tree g (by g) (by g) (ends_of by gs) refl all)
      | inr later ↦ given-bytes by gs here rises.1 rest f later
    ]

-- the units of what recorded changes give their files are those that the files have then
pub given-units : (tree : Tree) (cs : List Change) → are_recorded_changes cs ≡ true → list_all puts_some cs ≡ true → changes_apply tree cs ≡ true
    → (by : ℕ → List ℕ) × (changes_to_commit cs by ≡ cs) × (sum_by (λ f. units_of (by f)) (written_files cs) ≡ sum_by (λ f. units_of (bytes_of (changed_all tree cs) f)) (written_files cs))
given-units tree cs recorded some applied =
    let by = λ (f : ℕ). bytes_after [] f cs in
    let final : changes_to_commit cs by ≡ cs = restored tree cs (λ f. []) applied some recorded in
    let names = names_of cs in
    let ends = ends_of by (written_files cs) in
    let here = changed_all tree names in
    let all : changes_apply tree (names ++ ends) ≡ true = subst (λ ds. changes_apply tree ds ≡ true) (sym final) applied in
    let after : changed_all here ends ≡ changed_all tree cs = sym (changed_all-append tree names ends) ∙ ap (changed_all tree) final in (
      by,
      final,
      sum-same (λ f. units_of (by f)) (λ f. units_of (bytes_of (changed_all tree cs) f)) (written_files cs) (λ f there.
          ap units_of (sym (given-bytes by (written_files cs) here (rising-written cs [] tt) (changes_apply-second tree names ends all) f there) ∙ ap (λ t. bytes_of t f) after)),
    )
