-- The units that a transaction names, which commits alone, lie on their pages after it.
use Rattle.std.specs.Prelude.{nat_le}
use Rattle.std.proofs.Common.{◌≡◌, ℕ, ◌+◌, ◌<◌, ◌==◌, ◌&&◌, cond, true, List, [], ◌∷◌, Option, Some, None, refl, sym, ◌∙◌, ap, subst, arith, inl, inr}
use Rattle.std.proofs.lemmas.Bool.{and_parts, eqb-true, leb-true, ne_eqb, true≢false}
use Rattle.ktm_owners.proofs.Present.{bytes-over}
use Rattle.ktm_world.specs.declared.change.Change.{Change}
use Rattle.ktm_world.specs.declared.change.Change.TheVariants.{Make, Put, Cut, Move, Drop}
use Rattle.ktm_world.specs.declared.change.Contents.{Contents}
use Rattle.ktm_world.specs.declared.recorded.Node.{Node}
use Rattle.ktm_world.specs.Changes.{applies, bytes_in, changed, changed_all, changes_apply, is_whole}
use Rattle.ktm_world.specs.Durable.{are_final_bytes, was_cut}
use Rattle.ktm_world.specs.Tree.{Tree, bytes_of, bytes_or_none, content_of, cut_to, is_file, node_at, put_over}
use Rattle.ktm_world.proofs.offered.Lookups.{map_node, node_at-with_changed}
use Rattle.txf_laws.specs.Elements.{IsIn}
use Rattle.txf_laws.proofs.offered.CommittedUnits.{cut-empty}
use Rattle.txf_laws.proofs.offered.NormalForms.{put-none}

-- the bytes of other files stay
put-elsewhere : (tree : Tree) (node offset : ℕ) (contents : Contents) (n : ℕ) → (node ≡ n → ⊥) → bytes_of (changed tree (Put node offset contents)) n ≡ bytes_of tree n
put-elsewhere tree node offset contents n other = ap (λ o. bytes_or_none (content_of o)) (node_at-with_changed tree node step (λ m. refl) n ∙ there)
  where
    step : Node → Node
    step m = record m { content = Some (put_over (bytes_or_none m.content) offset (bytes_in contents)) }

    there : cond (node == n) (map_node step (node_at tree n)) (node_at tree n) ≡ node_at tree n
    there = rw (ne_eqb node n other) refl

cut-elsewhere : (tree : Tree) (node size : ℕ) (pages : List ℕ) (n : ℕ) → (node ≡ n → ⊥) → bytes_of (changed tree (Cut node size pages)) n ≡ bytes_of tree n
cut-elsewhere tree node size pages n other = ap (λ o. bytes_or_none (content_of o)) (node_at-with_changed tree node step (λ m. refl) n ∙ there)
  where
    step : Node → Node
    step m = record m { content = Some (cut_to (bytes_or_none m.content) size) }

    there : cond (node == n) (map_node step (node_at tree n)) (node_at tree n) ≡ node_at tree n
    there = rw (ne_eqb node n other) refl

was-cut : (cut : Option ℕ) (node : ℕ) → was_cut cut node ≡ true → cut ≡ Some node
was-cut None node is = absurd (true≢false (sym is))
was-cut (Some file) node is = ap Some (eqb-true file node is)

-- the bytes of a file below those that are put at the end stay, unless it was cut just before
stays : (tree : Tree) (least : ℕ) (cut : Option ℕ) (bs : List Change) (n : ℕ) → are_final_bytes least cut bs ≡ true → n < least → (cut ≡ Some n → ⊥) → bytes_of (changed_all tree bs) n ≡ bytes_of tree n
stays tree least cut [] n final low other = refl
stays tree least cut (Cut node size pages ∷ cs) n final low other =
    let parts = and_parts (nat_le least node && size == 0) (are_final_bytes (node + 1) (Some node) cs) final in
    let least_is = leb-true least node (and_parts (nat_le least node) (size == 0) parts.0).0 in
    stays (changed tree (Cut node size pages)) (node + 1) (Some node) cs n parts.1 (omega (arith, least_is, low)) (λ same. let is : node ≡ n = cc in omega (arith, is, least_is, low))
    ∙ cut-elsewhere tree node size pages n (λ same. omega (arith, same, least_is, low))
stays tree least cut (Put node offset contents ∷ cs) n final low other =
    let parts = and_parts (was_cut cut node && offset == 0) (are_final_bytes least None cs) final in
    let this = was-cut cut node (and_parts (was_cut cut node) (offset == 0) parts.0).0 in
    stays (changed tree (Put node offset contents)) least None cs n parts.1 low (λ none. cc)
    ∙ put-elsewhere tree node offset contents n (λ same. other (this ∙ ap Some same))
stays tree least cut (Make node parent kind name ∷ cs) n final low other = absurd (true≢false (sym final))
stays tree least cut (Move node parent name ∷ cs) n final low other = absurd (true≢false (sym final))
stays tree least cut (Drop node ∷ cs) n final low other = absurd (true≢false (sym final))

-- the file that was cut just before is empty, and below those that follow
abbrev IsCutBelow : Tree → ℕ → Option ℕ → Type 0
IsCutBelow tree least None = Unit {0}
IsCutBelow tree least (Some node) = (bytes_of tree node ≡ []) × (node < least)

put-here : (tree : Tree) (node : ℕ) (contents : Contents) → is_file tree node ≡ true → bytes_of tree node ≡ [] → bytes_of (changed tree (Put node 0 contents)) node ≡ bytes_in contents
put-here tree node contents file empty = bytes-over tree node 0 contents file ∙ put-none (bytes_of tree node) (bytes_in contents) empty

-- what is put at the end of recorded changes is all that its file has then
pub final-there : (tree : Tree) (least : ℕ) (cut : Option ℕ) (bs : List Change) → are_final_bytes least cut bs ≡ true → changes_apply tree bs ≡ true → IsCutBelow tree least cut
    → (node offset : ℕ) (contents : Contents) → IsIn (Put node offset contents) bs → bytes_of (changed_all tree bs) node ≡ bytes_in contents
final-there tree least cut [] final all below node offset contents there = absurd there
final-there tree least cut (Cut file size pages ∷ cs) final all below node offset contents (inl is) = absurd (cc)
final-there tree least cut (Cut file size pages ∷ cs) final all below node offset contents (inr later) =
    let parts = and_parts (nat_le least file && size == 0) (are_final_bytes (file + 1) (Some file) cs) final in
    let none = eqb-true size 0 (and_parts (nat_le least file) (size == 0) parts.0).1 in
    let rest = and_parts (applies tree (Cut file size pages)) (changes_apply (changed tree (Cut file size pages)) cs) all in
    final-there (changed tree (Cut file size pages)) (file + 1) (Some file) cs parts.1 rest.1
    (subst (λ z. bytes_of (changed tree (Cut file z pages)) file ≡ []) (sym none) (cut-empty tree file), omega arith) node offset contents later
final-there tree least None (Put file at bytes ∷ cs) final all below node offset contents there = absurd (true≢false (sym final))
final-there tree least (Some last) (Put file at bytes ∷ cs) final all below node offset contents (inr later) =
    let parts = and_parts (was_cut (Some last) file && at == 0) (are_final_bytes least None cs) final in
    let rest = and_parts (applies tree (Put file at bytes)) (changes_apply (changed tree (Put file at bytes)) cs) all in
    final-there (changed tree (Put file at bytes)) least None cs parts.1 rest.1 tt node offset contents later
final-there tree least (Some last) (Put file at bytes ∷ cs) final all below node offset contents (inl is) =
    let parts = and_parts (was_cut (Some last) file && at == 0) (are_final_bytes least None cs) final in
    let ends = and_parts (was_cut (Some last) file) (at == 0) parts.0 in
    let this : last ≡ file = eqb-true last file ends.0 in
    let begin : at ≡ 0 = eqb-true at 0 ends.1 in
    let rest = and_parts (applies tree (Put file at bytes)) (changes_apply (changed tree (Put file at bytes)) cs) all in
    let file_there = and_parts (is_file tree file) (is_whole bytes) rest.0 in
    let empty = subst (λ n. bytes_of tree n ≡ []) this below.0 in
    let low : file < least = omega (arith, this, below.1) in
    let has : bytes_of (changed_all tree (Put file at bytes ∷ cs)) file ≡ bytes_in bytes =
    stays (changed tree (Put file at bytes)) least None cs file parts.1 low (λ none. cc)
    ∙ subst (λ z. bytes_of (changed tree (Put file z bytes)) file ≡ bytes_in bytes) (sym begin) (put-here tree file bytes file_there.0 empty) in
    same-put file at bytes is has
  where
    same-put : (f a : ℕ) (b : Contents) → Put f a b ≡ Put node offset contents → bytes_of (changed_all tree (Put file at bytes ∷ cs)) f ≡ bytes_in b → bytes_of (changed_all tree (Put file at bytes ∷ cs)) node ≡ bytes_in contents
    same-put f a b e has =
        let nodes : f ≡ node = cc in
        let contents_are : b ≡ contents = cc in
        subst (λ n. bytes_of (changed_all tree (Put file at bytes ∷ cs)) n ≡ bytes_in contents) nodes (has ∙ ap bytes_in contents_are)
final-there tree least cut (Make file parent kind name ∷ cs) final all below node offset contents there = absurd (true≢false (sym final))
final-there tree least cut (Move file parent name ∷ cs) final all below node offset contents there = absurd (true≢false (sym final))
final-there tree least cut (Drop file ∷ cs) final all below node offset contents there = absurd (true≢false (sym final))
