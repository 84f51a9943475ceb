-- The units of the files that recorded changes write.
use Rattle.std.proofs.Common.{◌≡◌, ℕ, ◌+◌, ◌<◌, ◌≤◌, ◌==◌, ◌&&◌, ◌⊎◌, not, true, false, List, [], ◌∷◌, ◌++◌, Option, Some, None, cond, fold, map, sum_by, refl, sym, ◌∙◌, ap, subst, arith, inl, inr}
use Rattle.std.specs.Prelude.{is_some, nat_le}
use Rattle.std.specs.List.{list_all}
use Rattle.std.proofs.lemmas.Bool.{and_from, and_parts, cases_Bool, eq-eqb, eqb-true, leb-true, not_from_false, or_cases, true≢false}
use Rattle.std.proofs.lemmas.List.Sums.{fold-append, sum_by-append, sum_by-cons}
use Rattle.std.proofs.lemmas.Option.{none-some, same_Some}
use Rattle.ktm_world.specs.declared.change.Change.{Change}
use Rattle.ktm_world.specs.declared.change.Change.TheVariants.{Make, Put, Cut, Move, Drop}
use Rattle.ktm_world.specs.declared.change.Contents.{Contents}
use Rattle.ktm_world.specs.declared.recorded.Node.{Node}
use Rattle.ktm_world.specs.Changes.{applies, bytes_in, changed, changed_all, changes_apply, changes_bytes, has_changes, is_whole, node_of}
use Rattle.ktm_world.specs.Committed.{with_number, written_after, written_files}
use Rattle.ktm_world.specs.Durable.{are_final_bytes, are_recorded_changes, ends_in_bytes, gives_bytes, was_cut}
use Rattle.ktm_world.specs.Tree.{Tree, bytes_of, bytes_or_none, content_of, is_file, node_at, put_over, units_of}
use Rattle.ktm_world.proofs.offered.Lookups.{map_node, node_at-with_changed}
use Rattle.txf_laws.specs.Elements.{IsIn}
use Rattle.txf_laws.proofs.offered.ChangeTests.{node-elsewhere}
use Rattle.txf_laws.proofs.offered.CommittedUnits.{cut-empty}
use Rattle.txf_laws.proofs.offered.Elements.{list_all-at}
use Rattle.txf_laws.proofs.offered.NormalForms.{RisingNumbers, ends-add, ends-written, put-none, rising-written, same-numbers}
use Rattle.txf_durable.specs.Recorded.{AreBytesFrom, are_names, begins_with_bytes, units_put}
use Rattle.txf_durable.proofs.Recordings.{never-falls, recorded-split, ends-split}
use Rattle.txf_durable.proofs.Trying.{apply-split}

-- the units of a file
abbrev units_at : Tree → ℕ → ℕ
units_at tree file = units_of (bytes_of tree file)

-- the files that are cut
abbrev pub cut_files : List Change → List ℕ
cut_files [] = []
cut_files (Cut node size pages ∷ cs) = node ∷ cut_files cs
cut_files (c ∷ cs) = cut_files cs

-- ---- the files with bytes

-- of bytes at the end, the files that are cut rise from the least one
pub cuts-rise : (least : ℕ) (cut : Option ℕ) (bs : List Change) → are_final_bytes least cut bs ≡ true → RisingNumbers (cut_files bs) × ((n : ℕ) → IsIn n (cut_files bs) → least ≤ n)
cuts-rise least cut [] final = (tt, λ n none. absurd none)
cuts-rise least cut (Cut node size pages ∷ cs) final =
    let parts = and_parts (nat_le least node && size == 0) (are_final_bytes (node + 1) (Some node) cs) final in
    let low = leb-true least node (and_parts (nat_le least node) (size == 0) parts.0).0 in
    let rest = cuts-rise (node + 1) (Some node) cs parts.1 in
    ((λ n there. omega (arith, rest.1 n there), rest.0), λ n there. elim there [ inl e ↦ omega (arith, low, e) | inr later ↦ omega (arith, low, rest.1 n later) ])
cuts-rise least cut (Put node offset contents ∷ cs) final = cuts-rise least None cs (and_parts (was_cut cut node && offset == 0) (are_final_bytes least None cs) final).1
cuts-rise least cut (Make node parent kind name ∷ cs) final = absurd (true≢false (sym final))
cuts-rise least cut (Move node parent name ∷ cs) final = absurd (true≢false (sym final))
cuts-rise least cut (Drop node ∷ cs) final = absurd (true≢false (sym final))

pub was-cut : (cut : Option ℕ) (node : ℕ) → was_cut cut node ≡ true → cut ≡ Some node
was-cut None node is = absurd (true≢false (sym is))
was-cut (Some file) node is = ap Some (eqb-true file node is)

-- a file is given bytes where it is cut
given-cut : (least : ℕ) (cut : Option ℕ) (bs : List Change) (n : ℕ) → are_final_bytes least cut bs ≡ true → gives_bytes bs n ≡ true → IsIn n (cut_files bs) ⊎ (cut ≡ Some n)
given-cut least cut [] n final gives = absurd (true≢false (sym gives))
given-cut least cut (Cut node size pages ∷ cs) n final gives =
    let parts = and_parts (nat_le least node && size == 0) (are_final_bytes (node + 1) (Some node) cs) final in
    elim (or_cases (node == n) (gives_bytes cs n) gives) [
      | inl same ↦ inl (inl (eqb-true node n same))
      | inr later ↦ elim (given-cut (node + 1) (Some node) cs n parts.1 later) [ inl there ↦ inl (inr there) | inr this ↦ inl (inl (same_Some node n this)) ]
    ]
given-cut least cut (Put node offset contents ∷ cs) n final gives =
    let parts = and_parts (was_cut cut node && offset == 0) (are_final_bytes least None cs) final in
    elim (or_cases (node == n) (gives_bytes cs n) gives) [
      | inl same ↦ inr (was-cut cut node (and_parts (was_cut cut node) (offset == 0) parts.0).0 ∙ ap Some (eqb-true node n same))
      | inr later ↦ elim (given-cut least None cs n parts.1 later) [ inl there ↦ inl there | inr none ↦ absurd (none-some n none) ]
    ]
given-cut least cut (Make node parent kind name ∷ cs) n final gives = absurd (true≢false (sym final))
given-cut least cut (Move node parent name ∷ cs) n final gives = absurd (true≢false (sym final))
given-cut least cut (Drop node ∷ cs) n final gives = absurd (true≢false (sym final))

with-number : (xs : List ℕ) (file n : ℕ) → IsIn n (with_number xs file) → IsIn n xs ⊎ (file ≡ n)
with-number xs file n there = elim (ends-written (λ n. []) (file ∷ []) xs n there) [ inl old ↦ inl old | inr (inl e) ↦ inr e | inr (inr none) ↦ absurd none ]

-- the files that are written then are those before and those that are cut
written-then : (least : ℕ) (cut : Option ℕ) (bs : List Change) (xs : List ℕ) → are_final_bytes least cut bs ≡ true → ((file : ℕ) → cut ≡ Some file → IsIn file xs)
    → (n : ℕ) → IsIn n (fold written_after xs bs) → IsIn n xs ⊎ IsIn n (cut_files bs)
written-then least cut [] xs final there n is = inl is
written-then least cut (Cut node size pages ∷ cs) xs final there n is =
    let parts = and_parts (nat_le least node && size == 0) (are_final_bytes (node + 1) (Some node) cs) final in
    let this : (file : ℕ) → Some node ≡ Some file → IsIn file (with_number xs node) =
    λ file e. ends-add (λ n. []) (node ∷ []) xs file (inr (inl (same_Some node file e))) in
    elim (written-then (node + 1) (Some node) cs (with_number xs node) parts.1 this n is) [
      | inl old ↦ elim (with-number xs node n old) [ inl before ↦ inl before | inr e ↦ inr (inl e) ]
      | inr later ↦ inr (inr later)
    ]
written-then least cut (Put node offset contents ∷ cs) xs final there n is =
    let parts = and_parts (was_cut cut node && offset == 0) (are_final_bytes least None cs) final in
    let here = there node (was-cut cut node (and_parts (was_cut cut node) (offset == 0) parts.0).0) in
    elim (written-then least None cs (with_number xs node) parts.1 (λ file none. absurd (none-some file none)) n is) [
      | inl old ↦ elim (with-number xs node n old) [ inl before ↦ inl before | inr e ↦ inl (subst (λ m. IsIn m xs) e here) ]
      | inr later ↦ inr later
    ]
written-then least cut (Make node parent kind name ∷ cs) xs final there n is = absurd (true≢false (sym final))
written-then least cut (Move node parent name ∷ cs) xs final there n is = absurd (true≢false (sym final))
written-then least cut (Drop node ∷ cs) xs final there n is = absurd (true≢false (sym final))

kept-then : (least : ℕ) (cut : Option ℕ) (bs : List Change) (xs : List ℕ) → are_final_bytes least cut bs ≡ true → (n : ℕ) → IsIn n xs ⊎ IsIn n (cut_files bs) → IsIn n (fold written_after xs bs)
kept-then least cut [] xs final n (inl old) = old
kept-then least cut [] xs final n (inr none) = absurd none
kept-then least cut (Cut node size pages ∷ cs) xs final n there =
    let parts = and_parts (nat_le least node && size == 0) (are_final_bytes (node + 1) (Some node) cs) final in
    kept-then (node + 1) (Some node) cs (with_number xs node) parts.1 n (elim there [
      | inl old ↦ inl (ends-add (λ n. []) (node ∷ []) xs n (inl old))
      | inr (inl e) ↦ inl (ends-add (λ n. []) (node ∷ []) xs n (inr (inl e)))
      | inr (inr later) ↦ inr later
    ])
kept-then least cut (Put node offset contents ∷ cs) xs final n there =
    let parts = and_parts (was_cut cut node && offset == 0) (are_final_bytes least None cs) final in
    kept-then least None cs (with_number xs node) parts.1 n (elim there [
      | inl old ↦ inl (ends-add (λ n. []) (node ∷ []) xs n (inl old))
      | inr later ↦ inr later
    ])
kept-then least cut (Make node parent kind name ∷ cs) xs final n there = absurd (true≢false (sym final))
kept-then least cut (Move node parent name ∷ cs) xs final n there = absurd (true≢false (sym final))
kept-then least cut (Drop node ∷ cs) xs final n there = absurd (true≢false (sym final))

-- recorded changes write the files that they cut at the end
pub files-cut : (names bytes : List Change) → list_all (gives_bytes bytes) (written_files names) ≡ true → are_final_bytes 0 None bytes ≡ true → written_files (names ++ bytes) ≡ cut_files bytes
files-cut names bytes gives final =
    fold-append written_after [] names bytes
    ∙ same-numbers (fold written_after (written_files names) bytes) (cut_files bytes) (rising-written bytes (written_files names) (rising-written names [] tt)) (cuts-rise 0 None bytes final).0
    (λ n there. elim (written-then 0 None bytes (written_files names) final (λ file none. absurd (none-some file none)) n there) [
      | inl made ↦ elim (given-cut 0 None bytes n final (list_all-at (gives_bytes bytes) (written_files names) gives n made)) [ inl is ↦ is | inr none ↦ absurd (none-some n none) ]
      | inr is ↦ is
    ])
    (λ n there. kept-then 0 None bytes (written_files names) final n (inr there))

-- ---- their bytes

below-all : (bs : List Change) (least n : ℕ) → AreBytesFrom least bs → n < least → IsIn n (map node_of bs) → ⊥
below-all [] least n are low there = there
below-all (c ∷ cs) least n are low (inl e) = omega (arith, are.1, low, e)
below-all (c ∷ cs) least n are low (inr later) = below-all cs (node_of c) n are.2 (omega (arith, low, are.1)) later

-- the bytes of a file below them stay
bytes-below : (tree : Tree) (bs : List Change) (least n : ℕ) → are_final_bytes least None bs ≡ true → changes_apply tree bs ≡ true → n < least → bytes_of (changed_all tree bs) n ≡ bytes_of tree n
bytes-below tree bs least n final all low =
    ap (λ o. bytes_or_none (content_of o)) (node-elsewhere bs tree n all (below-all bs least n ((never-falls bs).start least final) low))

-- the bytes of a file are those that were put over the ones that it had
bytes-over : (tree : Tree) (node offset : ℕ) (contents : Contents) → is_file tree node ≡ true → bytes_of (changed tree (Put node offset contents)) node ≡ put_over (bytes_of tree node) offset (bytes_in contents)
bytes-over tree node offset contents file =
    ap (λ o. bytes_or_none (content_of o)) (node_at-with_changed tree node step (λ n. refl) node ∙ here) ∙ go (node_at tree node) file
  where
    step : Node → Node
    step n = record n { content = Some (put_over (bytes_or_none n.content) offset (bytes_in contents)) }

    here : cond (node == node) (map_node step (node_at tree node)) (node_at tree node) ≡ map_node step (node_at tree node)
    here = rw (eq-eqb node node refl) refl

    go : (o : Option Node) → is_some (content_of o) ≡ true → bytes_or_none (content_of (map_node step o)) ≡ put_over (bytes_or_none (content_of o)) offset (bytes_in contents)
    go None is = absurd (true≢false (sym is))
    go (Some n) is = refl

-- bytes that are put into a file that was cut are all that it has
bytes-put : (tree : Tree) (node : ℕ) (pages : List ℕ) (contents : Contents) → is_file (changed tree (Cut node 0 pages)) node ≡ true
    → bytes_of (changed (changed tree (Cut node 0 pages)) (Put node 0 contents)) node ≡ bytes_in contents
bytes-put tree node pages contents file = bytes-over (changed tree (Cut node 0 pages)) node 0 contents file ∙ put-none _ (bytes_in contents) (cut-empty tree node)

sum-cuts : (tree : Tree) (least : ℕ) (bs : List Change) → are_final_bytes least None bs ≡ true → changes_apply tree bs ≡ true → sum_by (units_at (changed_all tree bs)) (cut_files bs) ≡ sum_by units_put bs
sum-cuts tree least [] final all = refl
sum-cuts tree least (Make node parent kind name ∷ cs) final all = absurd (true≢false (sym final))
sum-cuts tree least (Put node offset contents ∷ cs) final all = absurd (true≢false (sym final))
sum-cuts tree least (Move node parent name ∷ cs) final all = absurd (true≢false (sym final))
sum-cuts tree least (Drop node ∷ cs) final all = absurd (true≢false (sym final))
sum-cuts tree least (Cut node size pages ∷ []) final all =
    let parts = and_parts (nat_le least node && size == 0) true final in
    let none = eqb-true size 0 (and_parts (nat_le least node) (size == 0) parts.0).1 in
    alone node size pages none
  where
    alone : (node size : ℕ) (pages : List ℕ) → size ≡ 0 → sum_by (units_at (changed tree (Cut node size pages))) (node ∷ []) ≡ sum_by units_put (Cut node size pages ∷ [])
    alone node size pages none = subst (λ z. sum_by (units_at (changed tree (Cut node z pages))) (node ∷ []) ≡ 0) (sym none) (ap (λ bytes. 0 + units_of bytes) (cut-empty tree node))
sum-cuts tree least (Cut node size pages ∷ Cut other size' pages' ∷ cs) final all =
    let parts = and_parts (nat_le least node && size == 0) (are_final_bytes (node + 1) (Some node) (Cut other size' pages' ∷ cs)) final in
    let none = eqb-true size 0 (and_parts (nat_le least node) (size == 0) parts.0).1 in
    let rest = and_parts (applies tree (Cut node size pages)) (changes_apply (changed tree (Cut node size pages)) (Cut other size' pages' ∷ cs)) all in
    let t = changed tree (Cut node size pages) in
    let later = sum-cuts t (node + 1) (Cut other size' pages' ∷ cs) parts.1 rest.1 in
    let stays = ap units_of (bytes-below t (Cut other size' pages' ∷ cs) (node + 1) node parts.1 rest.1 (omega arith)) in
    let empty = subst (λ z. units_of (bytes_of (changed tree (Cut node z pages)) node) ≡ 0) (sym none) (ap units_of (cut-empty tree node)) in
    let left = sum_by-cons (units_at (changed_all t (Cut other size' pages' ∷ cs))) node (cut_files (Cut other size' pages' ∷ cs)) in
    let right = sum_by-cons units_put (Cut node size pages) (Cut other size' pages' ∷ cs) in
    omega (arith, left, right, later, stays, empty)
sum-cuts tree least (Cut node size pages ∷ Put other offset contents ∷ cs) final all =
    let parts = and_parts (nat_le least node && size == 0) (are_final_bytes (node + 1) (Some node) (Put other offset contents ∷ cs)) final in
    let none = eqb-true size 0 (and_parts (nat_le least node) (size == 0) parts.0).1 in
    let put = and_parts (node == other && offset == 0) (are_final_bytes (node + 1) None cs) parts.1 in
    let both = and_parts (node == other) (offset == 0) put.0 in
    put-then tree node size pages other offset contents cs none (eqb-true node other both.0) (eqb-true offset 0 both.1) put.1 all (λ t rest. sum-cuts t (node + 1) cs put.1 rest)
  where
    -- with the numbers that they have
    put-then-at : (tree : Tree) (node : ℕ) (pages : List ℕ) (contents : Contents) (cs : List Change) → are_final_bytes (node + 1) None cs ≡ true
        → changes_apply tree (Cut node 0 pages ∷ Put node 0 contents ∷ cs) ≡ true
        → ((t : Tree) → changes_apply t cs ≡ true → sum_by (units_at (changed_all t cs)) (cut_files cs) ≡ sum_by units_put cs)
        → sum_by (units_at (changed_all tree (Cut node 0 pages ∷ Put node 0 contents ∷ cs))) (node ∷ cut_files cs) ≡ sum_by units_put (Cut node 0 pages ∷ Put node 0 contents ∷ cs)
    put-then-at tree node pages contents cs final all later =
        let first = and_parts (applies tree (Cut node 0 pages)) (changes_apply (changed tree (Cut node 0 pages)) (Put node 0 contents ∷ cs)) all in
        let second = and_parts (applies (changed tree (Cut node 0 pages)) (Put node 0 contents)) (changes_apply (changed (changed tree (Cut node 0 pages)) (Put node 0 contents)) cs) first.1 in
        let file = and_parts (is_file (changed tree (Cut node 0 pages)) node) (is_whole contents) second.0 in
        let t = changed (changed tree (Cut node 0 pages)) (Put node 0 contents) in
        let rest = later t second.1 in
        let stays = ap units_of (bytes-below t cs (node + 1) node final second.1 (omega arith)) in
        let has = ap units_of (bytes-put tree node pages contents file.0) in
        let left = sum_by-cons (units_at (changed_all t cs)) node (cut_files cs) in
        let right = sum_by-cons units_put (Cut node 0 pages) (Put node 0 contents ∷ cs) in
        let right' = sum_by-cons units_put (Put node 0 contents) cs in
        omega (arith, left, right, right', rest, stays, has)

    put-then : (tree : Tree) (node size : ℕ) (pages : List ℕ) (other offset : ℕ) (contents : Contents) (cs : List Change) → size ≡ 0 → node ≡ other → offset ≡ 0 → are_final_bytes (node + 1) None cs ≡ true
        → changes_apply tree (Cut node size pages ∷ Put other offset contents ∷ cs) ≡ true
        → ((t : Tree) → changes_apply t cs ≡ true → sum_by (units_at (changed_all t cs)) (cut_files cs) ≡ sum_by units_put cs)
        → sum_by (units_at (changed_all tree (Cut node size pages ∷ Put other offset contents ∷ cs))) (node ∷ cut_files cs) ≡ sum_by units_put (Cut node size pages ∷ Put other offset contents ∷ cs)
    put-then tree node size pages other offset contents cs none same nought final all later =
        let is : Cut node size pages ∷ Put other offset contents ∷ cs ≡ Cut node 0 pages ∷ Put node 0 contents ∷ cs =
        ap (λ z. Cut node z pages ∷ Put other offset contents ∷ cs) none ∙ ap (λ m. Cut node 0 pages ∷ Put m offset contents ∷ cs) (sym same) ∙ ap (λ o. Cut node 0 pages ∷ Put node o contents ∷ cs) nought in
        subst (λ (ds : List Change). sum_by (units_at (changed_all tree ds)) (node ∷ cut_files cs) ≡ sum_by units_put ds) (sym is)
        (put-then-at tree node pages contents cs final (subst (λ (ds : List Change). changes_apply tree ds ≡ true) is all) later)
sum-cuts tree least (Cut node size pages ∷ Make other parent kind name ∷ cs) final all = absurd (true≢false (sym (and_parts (nat_le least node && size == 0) false final).1))
sum-cuts tree least (Cut node size pages ∷ Move other parent name ∷ cs) final all = absurd (true≢false (sym (and_parts (nat_le least node && size == 0) false final).1))
sum-cuts tree least (Cut node size pages ∷ Drop other ∷ cs) final all = absurd (true≢false (sym (and_parts (nat_le least node && size == 0) false final).1))

-- ---- the whole list

-- names put no bytes
none-put : (names : List Change) → are_names names ≡ true → sum_by units_put names ≡ 0
none-put [] are = refl
none-put (c ∷ cs) are =
    let parts = and_parts (not (changes_bytes c)) (are_names cs) are in
    let rest = none-put cs parts.1 in
    let all = sum_by-cons units_put c cs in
    let one = no-put c parts.0 in
    omega (arith, rest, all, one)
  where
    no-put : (c : Change) → not (changes_bytes c) ≡ true → units_put c ≡ 0
    no-put (Make node parent kind name) is = refl
    no-put (Put node offset contents) is = absurd (true≢false (sym is))
    no-put (Cut node size pages) is = refl
    no-put (Move node parent name) is = refl
    no-put (Drop node) is = refl

-- recorded changes as names, and bytes behind them
pub record Split (cs : List Change) : Type 0 where
  pub names : List Change
  pub bytes : List Change
  pub is : names ++ bytes ≡ cs
  pub are : are_names names ≡ true
  pub begins : begins_with_bytes bytes ≡ true

pub split : (cs : List Change) → Split cs
split [] = record { names = []; bytes = []; is = refl; are = refl; begins = refl }
split (c ∷ cs) = elim (cases_Bool (changes_bytes c)) [
  | inl bytes ↦ record { names = []; bytes = c ∷ cs; is = refl; are = refl; begins = bytes }
  | inr name ↦
      let rest = split cs in
      record { names = c ∷ rest.names; bytes = rest.bytes; is = ap (λ ds. c ∷ ds) rest.is; are = and_from _ _ (not_from_false _ name) rest.are; begins = rest.begins }
]

pub units-given : (tree : Tree) (cs : List Change) → are_recorded_changes cs ≡ true → changes_apply tree cs ≡ true → sum_by units_put cs ≡ sum_by (λ file. units_of (bytes_of (changed_all tree cs) file)) (written_files cs)
units-given tree cs recorded all =
    let s = split cs in
    let ends = and_parts (has_changes cs && ends_in_bytes cs) _ recorded in
    let final : are_final_bytes 0 None s.bytes ≡ true = sym (ends-split s.names s.bytes s.are s.begins) ∙ ap ends_in_bytes s.is ∙ (and_parts (has_changes cs) (ends_in_bytes cs) ends.0).1 in
    let gives = (and_parts (has_changes cs) (list_all (gives_bytes s.bytes) (written_files s.names)) (sym (recorded-split cs s.names s.bytes s.is s.are s.begins final) ∙ recorded)).1 in
    subst (λ (ds : List Change). sum_by units_put ds ≡ sum_by (units_at (changed_all tree ds)) (written_files ds)) s.is
    (go s.names s.bytes s.are final gives (subst (λ (ds : List Change). changes_apply tree ds ≡ true) (sym s.is) all))
  where
    go : (names bytes : List Change) → are_names names ≡ true → are_final_bytes 0 None bytes ≡ true → list_all (gives_bytes bytes) (written_files names) ≡ true → changes_apply tree (names ++ bytes) ≡ true
        → sum_by units_put (names ++ bytes) ≡ sum_by (units_at (changed_all tree (names ++ bytes))) (written_files (names ++ bytes))
    go names bytes are final gives all =
        let apply = and_parts (changes_apply tree names) (changes_apply (changed_all tree names) bytes) (sym (apply-split tree names bytes) ∙ all) in
        let cuts = sum-cuts (changed_all tree names) 0 bytes final apply.1 in
        let both = sum_by-append units_put names bytes in
        let none = none-put names are in
        let sums : sum_by units_put (names ++ bytes) ≡ sum_by units_put bytes = omega (arith, both, none) in
        sums ∙ sym cuts
        ∙ ap (λ (t : Tree). sum_by (units_at t) (cut_files bytes)) (sym (fold-append changed tree names bytes))
        ∙ ap (λ files. sum_by (units_at (changed_all tree (names ++ bytes))) files) (sym (files-cut names bytes gives final))
