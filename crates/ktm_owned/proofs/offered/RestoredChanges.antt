-- Changes that were recorded are in the form in which they are committed.
use Rattle.std.proofs.Common.{◌≡◌, ℕ, ◌+◌, ◌≤◌, ◌==◌, ◌&&◌, not, Bool, true, false, if◌then◌else◌, fold, List, [], ◌∷◌, ◌++◌, Some, None, refl, sym, ◌∙◌, ap, subst, arith, inl, inr}
use Rattle.std.proofs.lemmas.Bool.{cases_Bool, eq-eqb, ne_eqb, eqb-true, leb-true, le-leb, and_parts, and_from, not-true, not_from_false, true≢false}
use Rattle.std.proofs.lemmas.List.Sums.{fold-append}
use Rattle.std.specs.List.{list_all}
use Rattle.std.specs.Prelude.{nat_le}
use Rattle.ktm_world.specs.declared.change.Change.{Change}
use Rattle.ktm_world.specs.declared.change.Change.TheVariants.{Make, Put, Cut, Move, Drop}
use Rattle.ktm_world.specs.declared.change.Contents.TheVariants.{Whole, Paged}
use Rattle.ktm_world.specs.Changes.{changed, applies, changes_apply, changes_bytes, is_whole, is_empty_list, node_of, has_changes}
use Rattle.ktm_world.specs.Committed.{written_after, written_files, final_bytes, changes_to_commit}
use Rattle.ktm_world.specs.Durable.{are_final_bytes, ends_in_bytes, gives_bytes, made_files, are_recorded_changes}
use Rattle.ktm_world.specs.Files.{bytes_after}
use Rattle.ktm_world.specs.Tree.{Tree}
use Rattle.txf_laws.specs.FinalChanges.{names_of}
use Rattle.txf_laws.specs.Elements.{IsIn}
use Rattle.txf_laws.specs.Contents.{puts_some}
use Rattle.txf_laws.proofs.offered.ChangeTests.{Applies-from}
use Rattle.txf_laws.proofs.offered.Diamonds.{IsIn-right}
use Rattle.txf_laws.proofs.offered.Elements.{IsIn-filter, IsIn-flat_map, IsIn-unflat, list_all-at, list_all-from, list_any-at, list_any-from}
use Rattle.txf_laws.proofs.offered.Lists.{IsIn-cases}
use Rattle.txf_laws.proofs.offered.NormalForms.{first-cut, names-within, ends_of, ends-bytes, no-names, names-kept, RisingNumbers, rising-written, same-numbers, ends-written, ends-add, is-final}
use Rattle.txf_laws.proofs.offered.CommitsOfOthers.{flat_map-same, to_commit-same}

-- a change that applies somewhere in a list applied to the tree that it found
pub applied-in : (cs : List Change) (tree : Tree) → changes_apply tree cs ≡ true → (c : Change) → IsIn c cs → (t : Tree) × (applies t c ≡ true)
applied-in [] tree all c there = absurd there
applied-in (d ∷ ds) tree all c there = let parts = and_parts (applies tree d) (changes_apply (changed tree d) ds) all in elim there [
  | inl e ↦ (tree, subst (λ k. applies tree k ≡ true) e parts.0)
  | inr later ↦ applied-in ds (changed tree d) parts.1 c later
]

-- contents that are put are bytes, and some; a cut names no pages
abbrev is_spelled : Change → Bool
is_spelled (Put node offset contents) = is_whole contents && puts_some (Put node offset contents)
is_spelled (Cut node size pages) = is_empty_list pages
is_spelled _ = true

spelled-one : (tree : Tree) (c : Change) → applies tree c ≡ true → puts_some c ≡ true → is_spelled c ≡ true
spelled-one tree (Make node parent kind name) is some = refl
spelled-one tree (Put node offset contents) is some = and_from _ _ (Applies-from tree (Put node offset contents) is).1 some
spelled-one tree (Cut node size pages) is some = (Applies-from tree (Cut node size pages) is).1
spelled-one tree (Move node parent name) is some = refl
spelled-one tree (Drop node) is some = refl

-- ---- the bytes at the end

-- changes that are the bytes of rising files
record Ends (least : ℕ) (cs : List Change) : Type 0 where
  by : ℕ → List ℕ
  files : List ℕ
  is : cs ≡ ends_of by files
  rises : RisingNumbers files
  from : (n : ℕ) → IsIn n files → least ≤ n

-- one file more in front
ends-front : (least file : ℕ) (bytes : List ℕ) (cs : List Change) → least ≤ file → Ends (file + 1) cs → Ends least (final_bytes file bytes ++ cs)
ends-front least file bytes cs low ends = record {
  by = by;
  files = file ∷ ends.files;
  is = ap (λ bs. final_bytes file bs ++ cs) (sym mine) ∙ ap (λ ds. final_bytes file (by file) ++ ds) (ends.is ∙ flat_map-same (λ f. final_bytes f (ends.by f)) (λ f. final_bytes f (by f)) ends.files (λ n there. ap (final_bytes n) (sym (theirs n there))));
  rises = (λ n there. omega (arith, ends.from n there), ends.rises);
  from = λ n there. elim there [ inl e ↦ omega (arith, low, e) | inr later ↦ omega (arith, low, ends.from n later) ];
}
  where
    by : ℕ → List ℕ
    by n = if n == file then bytes else ends.by n

    mine : by file ≡ bytes
    mine = rw (eq-eqb file file refl) refl

    theirs : (n : ℕ) → IsIn n ends.files → by n ≡ ends.by n
    theirs n there = rw (ne_eqb n file (λ e. omega (arith, ends.from n there, e))) refl

ends-none : (least : ℕ) → Ends least []
ends-none least = record { by = λ n. []; files = []; is = refl; rises = tt; from = λ n none. absurd none }

cut-parts : (least node size : ℕ) (cs : List Change) → are_final_bytes least None (Cut node size [] ∷ cs) ≡ true → (least ≤ node) × (size ≡ 0) × (are_final_bytes (node + 1) (Some node) cs ≡ true)
cut-parts least node size cs final =
    let parts = and_parts (nat_le least node && size == 0) (are_final_bytes (node + 1) (Some node) cs) final in
    let both = and_parts (nat_le least node) (size == 0) parts.0 in
    (leb-true _ _ both.0, eqb-true _ _ both.1, parts.1)

-- the bytes of one file and of those behind it
ends-tail : (least : ℕ) (cs : List Change) → list_all is_spelled cs ≡ true → are_final_bytes least None cs ≡ true → Ends least cs
ends-tail least [] spelled final = ends-none least
ends-tail least (Make node parent kind name ∷ cs) spelled final = absurd (true≢false (sym final))
ends-tail least (Put node offset contents ∷ cs) spelled final = absurd (true≢false (sym final))
ends-tail least (Move node parent name ∷ cs) spelled final = absurd (true≢false (sym final))
ends-tail least (Drop node ∷ cs) spelled final = absurd (true≢false (sym final))
ends-tail least (Cut node size (page ∷ pages) ∷ cs) spelled final = absurd (true≢false (sym (and_parts false (list_all is_spelled cs) spelled).0))
ends-tail least (Cut node size [] ∷ []) spelled final =
    let parts = cut-parts least node size [] final in subst (λ n. Ends least (Cut node n [] ∷ [])) (sym parts.1) (ends-front least node [] [] parts.0 (ends-none (node + 1)))
ends-tail least (Cut node size [] ∷ Cut other size' pages' ∷ cs) spelled final =
    let parts = cut-parts least node size (Cut other size' pages' ∷ cs) final in
    subst (λ n. Ends least (Cut node n [] ∷ Cut other size' pages' ∷ cs)) (sym parts.1)
    (ends-front least node [] (Cut other size' pages' ∷ cs) parts.0 (ends-tail (node + 1) (Cut other size' pages' ∷ cs) spelled parts.2))
ends-tail least (Cut node size [] ∷ Put other offset (Paged len pages) ∷ cs) spelled final = absurd (true≢false (sym (and_parts false (list_all is_spelled cs) spelled).0))
ends-tail least (Cut node size [] ∷ Put other offset (Whole []) ∷ cs) spelled final = absurd (true≢false (sym (and_parts false (list_all is_spelled cs) spelled).0))
ends-tail least (Cut node size [] ∷ Put other offset (Whole (b ∷ bs)) ∷ cs) spelled final =
    let parts = cut-parts least node size (Put other offset (Whole (b ∷ bs)) ∷ cs) final in
    let put = and_parts (node == other && offset == 0) (are_final_bytes (node + 1) None cs) parts.2 in
    let both = and_parts (node == other) (offset == 0) put.0 in
    subst (λ n. Ends least (Cut node n [] ∷ Put other offset (Whole (b ∷ bs)) ∷ cs)) (sym parts.1)
    (subst (λ m. Ends least (Cut node 0 [] ∷ Put m offset (Whole (b ∷ bs)) ∷ cs)) (eqb-true _ _ both.0)
    (subst (λ o. Ends least (Cut node 0 [] ∷ Put node o (Whole (b ∷ bs)) ∷ cs)) (sym (eqb-true _ _ both.1))
    (ends-front least node (b ∷ bs) cs parts.0 (ends-tail (node + 1) cs spelled put.1))))
ends-tail least (Cut node size [] ∷ Make other parent kind name ∷ cs) spelled final = absurd (true≢false (sym (cut-parts least node size (Make other parent kind name ∷ cs) final).2))
ends-tail least (Cut node size [] ∷ Move other parent name ∷ cs) spelled final = absurd (true≢false (sym (cut-parts least node size (Move other parent name ∷ cs) final).2))
ends-tail least (Cut node size [] ∷ Drop other ∷ cs) spelled final = absurd (true≢false (sym (cut-parts least node size (Drop other ∷ cs) final).2))

-- ---- the whole list

-- names first, and then the bytes
record Parted (cs : List Change) : Type 0 where
  tail : List Change
  is : cs ≡ names_of cs ++ tail
  ends : Ends 0 tail

parted : (cs : List Change) → list_all is_spelled cs ≡ true → ends_in_bytes cs ≡ true → Parted cs
parted [] spelled final = record { tail = []; is = refl; ends = ends-none 0 }
parted (c ∷ cs) spelled final = elim (cases_Bool (changes_bytes c)) [
  | inl bytes ↦
      let ends = ends-tail 0 (c ∷ cs) spelled (rw bytes at final) in
      record { tail = c ∷ cs; is = ap (λ ds. ds ++ c ∷ cs) (sym (no-names (c ∷ cs) (subst (λ ds. list_all changes_bytes ds ≡ true) (sym ends.is) (ends-bytes ends.by ends.files)))); ends = ends }
  | inr name ↦
      let rest = parted cs (and_parts (is_spelled c) (list_all is_spelled cs) spelled).1 (rw name at final) in
      record { tail = rest.tail; is = ap (λ ds. c ∷ ds) rest.is ∙ ap (λ ds. ds ++ rest.tail) (sym (names-kept c cs (not_from_false _ name))); ends = rest.ends }
]

final-node : (file : ℕ) (bytes : List ℕ) (c : Change) → IsIn c (final_bytes file bytes) → node_of c ≡ file
final-node file [] c (inl e) = ap node_of (sym e)
final-node file [] c (inr none) = absurd none
final-node file (b ∷ bs) c (inl e) = ap node_of (sym e)
final-node file (b ∷ bs) c (inr (inl e)) = ap node_of (sym e)
final-node file (b ∷ bs) c (inr (inr none)) = absurd none

-- recorded changes are in the form in which they are committed, with the bytes that they give
final-form : (cs : List Change) → list_all is_spelled cs ≡ true → are_recorded_changes cs ≡ true → (by : ℕ → List ℕ) × (changes_to_commit cs by ≡ cs)
final-form cs spelled recorded = (by, ap (λ fs. names_of cs ++ ends_of by fs) files-are ∙ sym whole)
  where
    parts : ((has_changes cs && ends_in_bytes cs) ≡ true) × (list_all (gives_bytes cs) (made_files cs) ≡ true)
    parts = and_parts (has_changes cs && ends_in_bytes cs) (list_all (gives_bytes cs) (made_files cs)) recorded

    p : Parted cs
    p = parted cs spelled (and_parts (has_changes cs) (ends_in_bytes cs) parts.0).1

    by : ℕ → List ℕ
    by = (p.ends).by

    files : List ℕ
    files = (p.ends).files

    whole : cs ≡ names_of cs ++ ends_of by files
    whole = p.is ∙ ap (λ ds. names_of cs ++ ds) (p.ends).is

    made-given : (n : ℕ) → IsIn n (made_files cs) → IsIn n files
    made-given n there =
        let some = list_any-at (λ change. changes_bytes change && node_of change == n) cs (list_all-at (gives_bytes cs) (made_files cs) parts.1 n there) in
        let both = and_parts (changes_bytes some.0) (node_of some.0 == n) some.2 in
        elim (IsIn-cases some.0 (names_of cs) (ends_of by files) (subst (IsIn some.0) whole some.1)) [
          | inl name ↦ absurd (true≢false (sym both.0 ∙ not-true _ (IsIn-filter (λ change. not (changes_bytes change)) cs some.0 name).1))
          | inr end ↦ let from = IsIn-unflat (λ file. final_bytes file (by file)) files some.0 end in subst (λ m. IsIn m files) (sym (final-node from.0 (by from.0) some.0 from.2) ∙ eqb-true _ _ both.1) from.1
        ]

    files-are : written_files cs ≡ files
    files-are = ap written_files whole ∙ fold-append written_after [] (names_of cs) (ends_of by files)
        ∙ same-numbers (fold written_after (made_files cs) (ends_of by files)) files (rising-written (ends_of by files) (made_files cs) (rising-written (names_of cs) [] tt)) (p.ends).rises
        (λ n there. elim (ends-written by files (made_files cs) n there) [ inl made ↦ made-given n made | inr is ↦ is ])
        (λ n there. ends-add by files (made_files cs) n (inr there))

-- recorded changes that apply stay as they are, with the bytes that they make of any others
pub restored : (tree : Tree) (cs : List Change) (before : ℕ → List ℕ) → changes_apply tree cs ≡ true → list_all puts_some cs ≡ true → are_recorded_changes cs ≡ true
    → changes_to_commit cs (λ file. bytes_after (before file) file cs) ≡ cs
restored tree cs before all some recorded =
    let spelled = list_all-from is_spelled cs (λ c there. let at = applied-in cs tree all c there in spelled-one at.0 c at.1 (list_all-at puts_some cs some c there)) in
    let form = final-form cs spelled recorded in
    to_commit-same cs (λ file. bytes_after (before file) file cs) form.0 (λ n there. ap (bytes_after (before n) n) (sym form.1) ∙ (is-final cs form.0).gives (before n) n there) ∙ form.1

-- ---- changes to commit are recorded changes

ends-rise : (by : ℕ → List ℕ) (files : List ℕ) (least : ℕ) → RisingNumbers files → ((n : ℕ) → IsIn n files → least ≤ n) → are_final_bytes least None (ends_of by files) ≡ true
ends-rise by [] least rises from = refl
ends-rise by (f ∷ fs) least rises from = go (ends-rise by fs (f + 1) rises.1 (λ n there. omega (arith, rises.0 n there))) (by f)
  where
    low : (nat_le least f && 0 == 0) ≡ true
    low = and_from _ _ (le-leb least f (from f (inl refl))) refl

    -- a cut that was made asks nothing of what is no put
    after-cut : (cs : List Change) → are_final_bytes (f + 1) None cs ≡ true → are_final_bytes (f + 1) (Some f) cs ≡ true
    after-cut [] final = refl
    after-cut (Cut node size pages ∷ cs) final = final
    after-cut (Make node parent kind name ∷ cs) final = final
    after-cut (Put node offset contents ∷ cs) final = absurd (true≢false (sym final))
    after-cut (Move node parent name ∷ cs) final = final
    after-cut (Drop node ∷ cs) final = final

    go : are_final_bytes (f + 1) None (ends_of by fs) ≡ true → (bs : List ℕ) → are_final_bytes least None (final_bytes f bs ++ ends_of by fs) ≡ true
    go rest [] = and_from _ _ low (after-cut (ends_of by fs) rest)
    go rest (b ∷ bs) = and_from _ _ low (and_from _ _ (and_from _ _ (eq-eqb f f refl) refl) rest)

ends-last : (cs ends : List Change) → list_all changes_bytes ends ≡ true → are_final_bytes 0 None ends ≡ true → ends_in_bytes (names_of cs ++ ends) ≡ true
ends-last [] [] all final = refl
ends-last [] (e ∷ es) all final = rw (and_parts (changes_bytes e) (list_all changes_bytes es) all).0 final
ends-last (c ∷ cs) ends all final = elim (cases_Bool (changes_bytes c)) [
  | inl bytes ↦ rw bytes (ends-last cs ends all final)
  | inr name ↦ rw (name, name) (ends-last cs ends all final)
]

-- changes in the form in which they are committed may be recorded, if there are any
pub recorded-form : (cs : List Change) (by : ℕ → List ℕ) → changes_to_commit cs by ≡ cs → has_changes cs ≡ true → are_recorded_changes cs ≡ true
recorded-form cs by final some = and_from _ _ (and_from _ _ some
    (subst (λ ds. ends_in_bytes ds ≡ true) final (ends-last cs (ends_of by (written_files cs)) (ends-bytes by (written_files cs)) (ends-rise by (written_files cs) 0 (rising-written cs [] tt) (λ n there. omega arith)))))
    (list_all-from (gives_bytes cs) (made_files cs) (λ n made.
    let there : IsIn (Cut n 0 []) cs = subst (IsIn (Cut n 0 [])) final (IsIn-right (Cut n 0 []) (names_of cs) (ends_of by (written_files cs))
    (IsIn-flat_map (λ file. final_bytes file (by file)) (written_files cs) n (Cut n 0 []) (names-within cs [] [] (λ m none. none) n made) (first-cut n (by n)))) in
    list_any-from (λ change. changes_bytes change && node_of change == n) cs (Cut n 0 []) there (and_from _ _ refl (eq-eqb n n refl))))
