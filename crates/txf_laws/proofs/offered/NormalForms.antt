-- Changes in the form in which they are committed.
use Rattle.std.proofs.Common.{zero, suc, ◌≡◌, ℕ, ◌+◌, ◌-◌, ◌<◌, ◌==◌, ◌&&◌, ◌||◌, not, Bool, true, false, cond, is_some, if◌then◌else◌, filter, fold, take, drop, length, replicate, List, [], ◌∷◌, ◌++◌, Some, refl, sym, ◌∙◌, ap, subst, arith, inl, inr, ◌⊎◌}
use Rattle.std.proofs.lemmas.Bool.{cases_Bool, eq-eqb, ne_eqb, eqb-true, eqb-false, ltb-true, ltb-false, and_parts, and_from, not-true, not_from_false, true≢false}
use Rattle.std.proofs.lemmas.List.{append-nil}
use Rattle.std.proofs.lemmas.List.Sums.{fold-append}
use Rattle.std.specs.List.{list_all, flat_map}
use Rattle.std.specs.Bool.{⊤}
use Rattle.std.specs.Prelude.{nat_lt}
use Rattle.ktm_world.specs.declared.change.Change.{Change}
use Rattle.ktm_world.specs.declared.change.Change.TheVariants.{Make, Put, Cut, Move, Drop}
use Rattle.ktm_world.specs.declared.change.Contents.TheVariants.{Whole}
use Rattle.ktm_world.specs.declared.change.NodeKind.TheVariants.{File, Directory}
use Rattle.ktm_world.specs.Changes.{changed, changed_all, applies, changes_apply, changes_bytes, is_make_of_file, is_drop, node_of}
use Rattle.ktm_world.specs.Committed.{with_number, without_number, written_after, written_files, final_bytes, changes_to_commit}
use Rattle.ktm_world.specs.Files.{bytes_after}
use Rattle.ktm_world.specs.Holds.{each_change, places_of, dropped_directory, moved_directory}
use Rattle.ktm_world.specs.Tree.{Tree, content_of, bytes_of, cut_to, put_over, is_file}
use Rattle.txf_laws.specs.FinalChanges.{names_of, IsFinal, FinalChangesLaw}
use Rattle.txf_laws.specs.Elements.{IsIn}
use Rattle.txf_laws.proofs.offered.ChangeTests.{Applies-from, applies-from, Fits-from}
use Rattle.txf_laws.proofs.offered.Elements.{IsIn-filter, IsIn-kept}
use Rattle.txf_laws.proofs.offered.CommitsOfOthers.{IsIn-with_number, changes_apply-first, to_commit-same}
use Rattle.txf_laws.proofs.offered.Versions.{is_file-kept}
use Rattle.ktm_world.proofs.offered.Lookups.{node_at-elsewhere, node_at-there}

-- does a change make, move or drop a name
abbrev pub names_only : Change → Bool
names_only c = not (changes_bytes c)

-- the bytes at the end
abbrev pub ends_of : (ℕ → List ℕ) → List ℕ → List Change
ends_of by files = flat_map (λ file. final_bytes file (by file)) files

-- ---- lists

pub filter-append : {X : Type 0} (test : X → Bool) (xs ys : List X) → filter test (xs ++ ys) ≡ filter test xs ++ filter test ys
filter-append test [] ys = refl
filter-append test (x ∷ xs) ys = elim (cases_Bool (test x)) [
  | inl is ↦ rw is (ap (λ zs. x ∷ zs) (filter-append test xs ys))
  | inr not' ↦ rw not' (filter-append test xs ys)
]

filter-twice : {X : Type 0} (test : X → Bool) (xs : List X) → filter test (filter test xs) ≡ filter test xs
filter-twice test [] = refl
filter-twice test (x ∷ xs) = elim (cases_Bool (test x)) [
  | inl is ↦ rw (is, is) (ap (λ zs. x ∷ zs) (filter-twice test xs))
  | inr not' ↦ rw not' (filter-twice test xs)
]

pub each_change-append : {X : Type 0} (f : Tree → Change → List X) (tree : Tree) (as' bs : List Change) → each_change f tree (as' ++ bs) ≡ each_change f tree as' ++ each_change f (changed_all tree as') bs
each_change-append f tree [] bs = refl
each_change-append f tree (a ∷ as') bs = ap (λ xs. f tree a ++ xs) (each_change-append f (changed tree a) as' bs) ∙ append_assoc (f tree a) _ _
  where
    append_assoc : {X : Type 0} (xs ys zs : List X) → xs ++ (ys ++ zs) ≡ (xs ++ ys) ++ zs
    append_assoc [] ys zs = refl
    append_assoc (x ∷ xs) ys zs = ap (λ ws. x ∷ ws) (append_assoc xs ys zs)

pub changes_apply-append : (tree : Tree) (as' bs : List Change) → changes_apply tree as' ≡ true → changes_apply (changed_all tree as') bs ≡ true → changes_apply tree (as' ++ bs) ≡ true
changes_apply-append tree [] bs first second = second
changes_apply-append tree (a ∷ as') bs first second =
    let parts = and_parts (applies tree a) (changes_apply (changed tree a) as') first in and_from _ _ parts.0 (changes_apply-append (changed tree a) as' bs parts.1 second)

pub changes_apply-second : (tree : Tree) (as' bs : List Change) → changes_apply tree (as' ++ bs) ≡ true → changes_apply (changed_all tree as') bs ≡ true
changes_apply-second tree [] bs all = all
changes_apply-second tree (a ∷ as') bs all = changes_apply-second (changed tree a) as' bs (and_parts (applies tree a) (changes_apply (changed tree a) (as' ++ bs)) all).1

-- ---- changes of bytes

-- are all of them changes of bytes
abbrev pub AllBytes : List Change → Type 0
AllBytes cs = list_all changes_bytes cs ≡ true

end-bytes : (f : ℕ) (bs : List ℕ) (rest : List Change) → AllBytes rest → AllBytes (final_bytes f bs ++ rest)
end-bytes f [] rest all = all
end-bytes f (b ∷ bs) rest all = all

pub ends-bytes : (by : ℕ → List ℕ) (files : List ℕ) → AllBytes (ends_of by files)
ends-bytes by [] = refl
ends-bytes by (f ∷ fs) = end-bytes f (by f) (ends_of by fs) (ends-bytes by fs)

-- the bytes at the end begin with a cut
pub first-cut : (f : ℕ) (bs : List ℕ) → IsIn (Cut f 0 []) (final_bytes f bs)
first-cut f [] = inl refl
first-cut f (b ∷ bs) = inl refl

pub no-names : (cs : List Change) → AllBytes cs → names_of cs ≡ []
no-names [] all = refl
no-names (c ∷ cs) all = let parts = and_parts (changes_bytes c) (list_all changes_bytes cs) all in rw parts.0 (no-names cs parts.1)

-- a change of bytes holds no name, drops no directory and moves none
abbrev pub Silent : {X : Type 0} → (Tree → Change → List X) → Type 0
Silent f = (tree : Tree) (c : Change) → changes_bytes c ≡ true → f tree c ≡ []

pub silent-places : Silent places_of
silent-places tree (Make node parent kind name) bytes = absurd (true≢false (sym bytes))
silent-places tree (Put node offset contents) bytes = refl
silent-places tree (Cut node size pages) bytes = refl
silent-places tree (Move node parent name) bytes = absurd (true≢false (sym bytes))
silent-places tree (Drop node) bytes = absurd (true≢false (sym bytes))

pub silent-dropped : Silent dropped_directory
silent-dropped tree (Make node parent kind name) bytes = absurd (true≢false (sym bytes))
silent-dropped tree (Put node offset contents) bytes = refl
silent-dropped tree (Cut node size pages) bytes = refl
silent-dropped tree (Move node parent name) bytes = absurd (true≢false (sym bytes))
silent-dropped tree (Drop node) bytes = absurd (true≢false (sym bytes))

pub silent-moved : Silent moved_directory
silent-moved tree (Make node parent kind name) bytes = absurd (true≢false (sym bytes))
silent-moved tree (Put node offset contents) bytes = refl
silent-moved tree (Cut node size pages) bytes = refl
silent-moved tree (Move node parent name) bytes = absurd (true≢false (sym bytes))
silent-moved tree (Drop node) bytes = absurd (true≢false (sym bytes))

silent-all : {X : Type 0} (f : Tree → Change → List X) → Silent f → (tree : Tree) (cs : List Change) → AllBytes cs → each_change f tree cs ≡ []
silent-all f silent tree [] all = refl
silent-all f silent tree (c ∷ cs) all =
    let parts = and_parts (changes_bytes c) (list_all changes_bytes cs) all in
    ap (λ xs. xs ++ each_change f (changed tree c) cs) (silent tree c parts.0) ∙ silent-all f silent (changed tree c) cs parts.1

-- what changes hold beside nodes, by their names alone
pub held-names : {X : Type 0} (f : Tree → Change → List X) → Silent f → (tree : Tree) (cs : List Change) (by : ℕ → List ℕ) → each_change f tree (changes_to_commit cs by) ≡ each_change f tree (names_of cs)
held-names f silent tree cs by =
    each_change-append f tree (names_of cs) (ends_of by (written_files cs))
    ∙ ap (λ xs. each_change f tree (names_of cs) ++ xs) (silent-all f silent (changed_all tree (names_of cs)) (ends_of by (written_files cs)) (ends-bytes by (written_files cs)))
    ∙ append-nil (each_change f tree (names_of cs))

-- ---- rising numbers

abbrev pub Over : ℕ → List ℕ → Type 0
Over n ms = (m : ℕ) → IsIn m ms → n < m

abbrev pub RisingNumbers : List ℕ → Type 0
RisingNumbers [] = ⊤
RisingNumbers (n ∷ ns) = Over n ns × RisingNumbers ns

rising-with : (ms : List ℕ) (n : ℕ) → RisingNumbers ms → RisingNumbers (with_number ms n)
rising-with [] n rises = (λ m none. absurd none, tt)
rising-with (k ∷ ks) n rises = elim (cases_Bool (k == n)) [
  | inl same ↦ rw same rises
  | inr other ↦ elim (cases_Bool (nat_lt n k)) [
    | inl before ↦
        let less = ltb-true n k before in
        rw (other, before) (λ m there. elim there [ inl e ↦ subst (λ j. n < j) e less | inr later ↦ omega (arith, less, rises.0 m later) ], rises)
    | inr behind ↦ rw (other, behind) (λ m there. elim (IsIn-with_number ks n m there) [ inl old ↦ rises.0 m old | inr e ↦ subst (λ j. k < j) e (omega (arith, ltb-false n k behind, eqb-false k n other)) ], rising-with ks n rises.1)
  ]
]

rising-filter : (test : ℕ → Bool) (ms : List ℕ) → RisingNumbers ms → RisingNumbers (filter test ms)
rising-filter test [] rises = tt
rising-filter test (m ∷ ms) rises = elim (cases_Bool (test m)) [
  | inl is ↦ rw is (λ k there. rises.0 k (IsIn-filter test ms k there).0, rising-filter test ms rises.1)
  | inr not' ↦ rw not' (rising-filter test ms rises.1)
]

rising-after : (files : List ℕ) (c : Change) → RisingNumbers files → RisingNumbers (written_after files c)
rising-after files c rises = go (changes_bytes c || is_make_of_file c) (is_drop c)
  where
    go : (b d : Bool) → RisingNumbers (if b then with_number files (node_of c) else (if d then without_number files (node_of c) else files))
    go true d = rising-with files (node_of c) rises
    go false true = rising-filter (λ k. not (k == node_of c)) files rises
    go false false = rises

pub rising-written : (cs : List Change) (files : List ℕ) → RisingNumbers files → RisingNumbers (fold written_after files cs)
rising-written [] files rises = rises
rising-written (c ∷ cs) files rises = rising-written cs (written_after files c) (rising-after files c rises)

-- two rising lists with the same numbers are one
pub same-numbers : (xs ys : List ℕ) → RisingNumbers xs → RisingNumbers ys → ((n : ℕ) → IsIn n xs → IsIn n ys) → ((n : ℕ) → IsIn n ys → IsIn n xs) → xs ≡ ys
same-numbers [] [] rises rises' to from = refl
same-numbers [] (y ∷ ys) rises rises' to from = absurd (from y (inl refl))
same-numbers (x ∷ xs) [] rises rises' to from = absurd (to x (inl refl))
same-numbers (x ∷ xs) (y ∷ ys) rises rises' to from =
    let e : x ≡ y = elim (to x (inl refl)) [
      | inl same ↦ sym same
      | inr later ↦ elim (from y (inl refl)) [ inl same ↦ same | inr later' ↦ absurd (omega (arith, rises'.0 x later, rises.0 y later')) ]
    ] in
    let rest : xs ≡ ys = same-numbers xs ys rises.1 rises'.1
    (λ n there. elim (to n (inr there)) [ inl same ↦ absurd (omega (arith, rises.0 n there, e, same)) | inr later ↦ later ])
    (λ n there. elim (from n (inr there)) [ inl same ↦ absurd (omega (arith, rises'.0 n there, e, same)) | inr later ↦ later ]) in
    λ i. e i ∷ rest i

-- ---- files with bytes

IsIn-with_number-old : (ms : List ℕ) (n m : ℕ) → IsIn m ms → IsIn m (with_number ms n)
IsIn-with_number-old [] n m there = absurd there
IsIn-with_number-old (k ∷ ks) n m there = elim (cases_Bool (k == n)) [
  | inl same ↦ rw same there
  | inr other ↦ elim (cases_Bool (nat_lt n k)) [
    | inl before ↦ rw (other, before) (inr there)
    | inr behind ↦ rw (other, behind) (elim there [ inl e ↦ inl e | inr later ↦ inr (IsIn-with_number-old ks n m later) ])
  ]
]

pub IsIn-with_number-new : (ms : List ℕ) (n : ℕ) → IsIn n (with_number ms n)
IsIn-with_number-new [] n = inl refl
IsIn-with_number-new (k ∷ ks) n = elim (cases_Bool (k == n)) [
  | inl same ↦ rw same (inl (eqb-true _ _ same))
  | inr other ↦ elim (cases_Bool (nat_lt n k)) [
    | inl before ↦ rw (other, before) (inl refl)
    | inr behind ↦ rw (other, behind) (inr (IsIn-with_number-new ks n))
  ]
]

abbrev Within : List ℕ → List ℕ → Type 0
Within xs ys = (n : ℕ) → IsIn n xs → IsIn n ys

pub names-kept : (c : Change) (cs : List Change) → names_only c ≡ true → names_of (c ∷ cs) ≡ c ∷ names_of cs
names-kept c cs is = rw is refl

within-after : (c : Change) (xs ys : List ℕ) → Within xs ys → Within (written_after xs c) (written_after ys c)
within-after c xs ys within = go (changes_bytes c || is_make_of_file c) (is_drop c)
  where
    go : (m d : Bool) → Within (if m then with_number xs (node_of c) else (if d then without_number xs (node_of c) else xs)) (if m then with_number ys (node_of c) else (if d then without_number ys (node_of c) else ys))
    go true d n there = elim (IsIn-with_number xs (node_of c) n there) [
      | inl old ↦ IsIn-with_number-old ys (node_of c) n (within n old)
      | inr e ↦ subst (λ m. IsIn m (with_number ys (node_of c))) e (IsIn-with_number-new ys (node_of c))
    ]
    go false true n there = let kept = IsIn-filter (λ k. not (k == node_of c)) xs n there in IsIn-kept (λ k. not (k == node_of c)) ys n (within n kept.0) kept.1
    go false false n there = within n there

-- the files that names alone leave are among those that all changes leave
pub names-within : (cs : List Change) (xs ys : List ℕ) → Within xs ys → Within (fold written_after xs (names_of cs)) (fold written_after ys cs)
names-within [] xs ys within = within
names-within (c ∷ cs) xs ys within = elim (cases_Bool (changes_bytes c)) [
  | inl bytes ↦ rw bytes (names-within cs xs (with_number ys (node_of c)) (λ n there. IsIn-with_number-old ys (node_of c) n (within n there)))
  | inr names ↦ subst (λ ds. Within (fold written_after xs ds) (fold written_after (written_after ys c) cs)) (sym (names-kept c cs (not_from_false _ names)))
      (names-within cs (written_after xs c) (written_after ys c) (within-after c xs ys within))
]

-- the bytes at the end add their files
pub ends-written : (by : ℕ → List ℕ) (files : List ℕ) (xs : List ℕ) (n : ℕ) → IsIn n (fold written_after xs (ends_of by files)) → IsIn n xs ⊎ IsIn n files
ends-written by [] xs n there = inl there
ends-written by (f ∷ fs) xs n there = go (λ ys has. ends-written by fs ys n has) (by f) there
  where
    add : (ys : List ℕ) → IsIn n ys ⊎ IsIn n fs → Within ys (with_number xs f) → IsIn n xs ⊎ IsIn n (f ∷ fs)
    add ys (inl old) within = elim (IsIn-with_number xs f n (within n old)) [ inl before ↦ inl before | inr e ↦ inr (inl e) ]
    add ys (inr later) within = inr (inr later)

    twice : Within (with_number (with_number xs f) f) (with_number xs f)
    twice m has = elim (IsIn-with_number (with_number xs f) f m has) [ inl old ↦ old | inr e ↦ subst (λ k. IsIn k (with_number xs f)) e (IsIn-with_number-new xs f) ]

    go : ((ys : List ℕ) → IsIn n (fold written_after ys (ends_of by fs)) → IsIn n ys ⊎ IsIn n fs) → (bs : List ℕ) → IsIn n (fold written_after xs (final_bytes f bs ++ ends_of by fs)) → IsIn n xs ⊎ IsIn n (f ∷ fs)
    go rest [] has = add (with_number xs f) (rest (with_number xs f) has) (λ m old. old)
    go rest (b ∷ bs) has = add (with_number (with_number xs f) f) (rest (with_number (with_number xs f) f) has) twice

pub ends-add : (by : ℕ → List ℕ) (files : List ℕ) (xs : List ℕ) (n : ℕ) → IsIn n xs ⊎ IsIn n files → IsIn n (fold written_after xs (ends_of by files))
ends-add by [] xs n (inl old) = old
ends-add by [] xs n (inr none) = absurd none
ends-add by (f ∷ fs) xs n there = go (λ ys is. ends-add by fs ys n is) (by f)
  where
    more : (ys : List ℕ) → Within xs ys → IsIn f ys → IsIn n ys ⊎ IsIn n fs
    more ys within has = elim there [
      | inl old ↦ inl (within n old)
      | inr (inl e) ↦ inl (subst (λ m. IsIn m ys) e has)
      | inr (inr later) ↦ inr later
    ]

    go : ((ys : List ℕ) → IsIn n ys ⊎ IsIn n fs → IsIn n (fold written_after ys (ends_of by fs))) → (bs : List ℕ) → IsIn n (fold written_after xs (final_bytes f bs ++ ends_of by fs))
    go rest [] = rest (with_number xs f) (more (with_number xs f) (IsIn-with_number-old xs f) (IsIn-with_number-new xs f))
    go rest (b ∷ bs) = rest (with_number (with_number xs f) f)
        (more (with_number (with_number xs f) f) (λ m old. IsIn-with_number-old (with_number xs f) f m (IsIn-with_number-old xs f m old)) (IsIn-with_number-new (with_number xs f) f))

-- the form in which changes are committed leaves the files with bytes that they leave
pub written-final : (cs : List Change) (by : ℕ → List ℕ) → written_files (changes_to_commit cs by) ≡ written_files cs
written-final cs by =
    let names = fold written_after [] (names_of cs) in
    fold-append written_after [] (names_of cs) (ends_of by (written_files cs))
    ∙ same-numbers (fold written_after names (ends_of by (written_files cs))) (written_files cs)
    (rising-written (ends_of by (written_files cs)) names (rising-written (names_of cs) [] tt)) (rising-written cs [] tt)
    (λ n there. elim (ends-written by (written_files cs) names n there) [ inl old ↦ names-within cs [] [] (λ m none. none) n old | inr is ↦ is ])
    (λ n there. ends-add by (written_files cs) names n (inr there))

-- changes in the form in which they are committed have the same changes of names
pub names-final : (cs : List Change) (by : ℕ → List ℕ) → names_of (changes_to_commit cs by) ≡ names_of cs
names-final cs by =
    filter-append names_only (names_of cs) (ends_of by (written_files cs)) ∙ ap (λ ds. names_of (names_of cs) ++ ds) (no-names (ends_of by (written_files cs)) (ends-bytes by (written_files cs)))
    ∙ append-nil (names_of (names_of cs)) ∙ filter-twice names_only cs

-- ---- bytes

-- does a change put or cut bytes of the file
abbrev pub is_of_file : ℕ → Change → Bool
is_of_file file c = changes_bytes c && node_of c == file

pub none-of-file : (file : ℕ) (cs : List Change) → ((c : Change) → IsIn c cs → is_of_file file c ≡ false) → filter (is_of_file file) cs ≡ []
none-of-file file [] none = refl
none-of-file file (c ∷ cs) none = rw (none c (inl refl)) (none-of-file file cs (λ d there. none d (inr there)))

pub names-of-no-file : (file : ℕ) (cs : List Change) → filter (is_of_file file) (names_of cs) ≡ []
names-of-no-file file cs = none-of-file file (names_of cs) (λ c there. rw (not-true _ (IsIn-filter names_only cs c there).1) refl)

pub ends-elsewhere : (by : ℕ → List ℕ) (files : List ℕ) (file : ℕ) → (IsIn file files → ⊥) → filter (is_of_file file) (ends_of by files) ≡ []
ends-elsewhere by [] file other = refl
ends-elsewhere by (f ∷ fs) file other = go (ends-elsewhere by fs file (λ there. other (inr there))) (by f)
  where
    differs : (f == file) ≡ false
    differs = ne_eqb f file (λ e. other (inl e))

    go : filter (is_of_file file) (ends_of by fs) ≡ [] → (bs : List ℕ) → filter (is_of_file file) (final_bytes f bs ++ ends_of by fs) ≡ []
    go rest [] = rw differs rest
    go rest (b ∷ bs) = rw differs rest

ends-there : (by : ℕ → List ℕ) (files : List ℕ) (file : ℕ) → RisingNumbers files → IsIn file files → filter (is_of_file file) (ends_of by files) ≡ final_bytes file (by file)
ends-there by [] file rises there = absurd there
ends-there by (f ∷ fs) file rises there = elim (cases_Bool (f == file)) [
  | inl same ↦
      let e = eqb-true f file same in
      filter-append (is_of_file file) (final_bytes f (by f)) (ends_of by fs)
      ∙ ap (λ ds. filter (is_of_file file) (final_bytes f (by f)) ++ ds) (ends-elsewhere by fs file (λ has. omega (arith, e, rises.0 file has)))
      ∙ append-nil (filter (is_of_file file) (final_bytes f (by f))) ∙ mine same (by f) ∙ ap (λ k. final_bytes k (by k)) e
  | inr other ↦ elim there [
    | inl e ↦ absurd (eqb-false f file other e)
    | inr later ↦
        filter-append (is_of_file file) (final_bytes f (by f)) (ends_of by fs) ∙ ap (λ ds. ds ++ filter (is_of_file file) (ends_of by fs)) (theirs other (by f)) ∙ ends-there by fs file rises.1 later
  ]
]
  where
    mine : (f == file) ≡ true → (bs : List ℕ) → filter (is_of_file file) (final_bytes f bs) ≡ final_bytes f bs
    mine same [] = rw same refl
    mine same (b ∷ bs) = rw same refl

    theirs : (f == file) ≡ false → (bs : List ℕ) → filter (is_of_file file) (final_bytes f bs) ≡ []
    theirs other [] = rw other refl
    theirs other (b ∷ bs) = rw other refl

abbrev none_at_all : List ℕ
none_at_all = []

pub cut-none : (bs : List ℕ) → cut_to bs 0 ≡ []
cut-none bs = let e : 0 - length bs ≡ 0 = omega arith in ap (λ n. take 0 bs ++ replicate n 0) e

drop-none : (n : ℕ) → drop n (none_at_all) ≡ none_at_all
drop-none zero = refl
drop-none (suc n) = refl

pub put-none : (old bs : List ℕ) → old ≡ [] → put_over old 0 bs ≡ bs
put-none old bs none =
    ap (λ o. put_over o 0 bs) none ∙ ap (λ o. o ++ bs ++ drop (0 + length bs) []) (cut-none []) ∙ ap (λ o. bs ++ o) (drop-none (0 + length bs)) ∙ append-nil bs

-- the bytes at the end are the bytes, whatever was there before
pub final-bytes : (before : List ℕ) (file : ℕ) (bs : List ℕ) (cs : List Change) → filter (is_of_file file) cs ≡ final_bytes file bs → bytes_after before file cs ≡ bs
final-bytes before file bs cs is =
    ap (λ ds. bytes_of (changed_all (record { number = file; parent = 1; name = []; content = Some before } ∷ []) ds) file) is ∙ go bs
  where
    same : (file == file) ≡ true
    same = eq-eqb file file refl

    go : (bs : List ℕ) → bytes_of (changed_all (record { number = file; parent = 1; name = []; content = Some before } ∷ []) (final_bytes file bs)) file ≡ bs
    go [] = rw (same, same) (cut-none before)
    go (b ∷ bs) = rw (same, same, same) (put-none (cut_to before 0) (b ∷ bs) (cut-none before))

pub bytes-final : (cs : List Change) (by : ℕ → List ℕ) (before : List ℕ) (file : ℕ) → IsIn file (written_files cs) → bytes_after before file (changes_to_commit cs by) ≡ by file
bytes-final cs by before file there = final-bytes before file (by file) (changes_to_commit cs by)
    (filter-append (is_of_file file) (names_of cs) (ends_of by (written_files cs)) ∙ ap (λ ds. ds ++ filter (is_of_file file) (ends_of by (written_files cs))) (names-of-no-file file cs)
    ∙ ends-there by (written_files cs) file (rising-written cs [] tt) there)

-- ---- it applies

-- a change of bytes leaves each file what it was
file-before : (tree : Tree) (c : Change) → applies tree c ≡ true → changes_bytes c ≡ true → is_file tree (node_of c) ≡ true → (m : ℕ) → is_file (changed tree c) m ≡ true → is_file tree m ≡ true
file-before tree c is bytes file m after = elim (cases_Bool (node_of c == m)) [
  | inl same ↦ subst (λ k. is_file tree k ≡ true) (eqb-true _ _ same) file
  | inr other ↦ sym (ap (λ n. is_some (content_of n)) (node_at-elsewhere tree c (Fits-from tree c (Applies-from tree c is)) m (eqb-false _ _ other))) ∙ after
]

-- the files that are given bytes at the end are files
ends-files : (by : ℕ → List ℕ) (files : List ℕ) (tree : Tree) → changes_apply tree (ends_of by files) ≡ true → (f : ℕ) → IsIn f files → is_file tree f ≡ true
ends-files by [] tree all f there = absurd there
ends-files by (g ∷ gs) tree all f there = go (λ t rest later. ends-files by gs t rest f later) (by g) all
  where
    go : ((t : Tree) → changes_apply t (ends_of by gs) ≡ true → IsIn f gs → is_file t f ≡ true) → (bs : List ℕ) → changes_apply tree (final_bytes g bs ++ ends_of by gs) ≡ true → is_file tree f ≡ true
    go rest [] all =
        let parts = and_parts (applies tree (Cut g 0 [])) _ all in
        let file = (Applies-from tree (Cut g 0 []) parts.0).0 in
        elim there [ inl e ↦ subst (λ k. is_file tree k ≡ true) e file | inr later ↦ file-before tree (Cut g 0 []) parts.0 refl file f (rest (changed tree (Cut g 0 [])) parts.1 later) ]
    go rest (b ∷ bs) all =
        let parts = and_parts (applies tree (Cut g 0 [])) _ all in
        let file = (Applies-from tree (Cut g 0 []) parts.0).0 in
        let cut = changed tree (Cut g 0 []) in
        let put = Put g 0 (Whole (b ∷ bs)) in
        let parts' = and_parts (applies cut put) _ parts.1 in
        elim there [
          | inl e ↦ subst (λ k. is_file tree k ≡ true) e file
          | inr later ↦ file-before tree (Cut g 0 []) parts.0 refl file f (file-before cut put parts'.0 refl (Applies-from cut put parts'.0).0 f (rest (changed cut put) parts'.1 later))
        ]

-- where the nodes are files the bytes at the end apply
ends-apply : (by : ℕ → List ℕ) (files : List ℕ) (tree : Tree) → ((f : ℕ) → IsIn f files → is_file tree f ≡ true) → changes_apply tree (ends_of by files) ≡ true
ends-apply by [] tree are = refl
ends-apply by (g ∷ gs) tree are = go (λ t still. ends-apply by gs t still) (by g)
  where
    cut : Change
    cut = Cut g 0 []

    cut-applies : applies tree (Cut g 0 []) ≡ true
    cut-applies = applies-from tree (Cut g 0 []) (are g (inl refl), refl)

    go : ((t : Tree) → ((f : ℕ) → IsIn f gs → is_file t f ≡ true) → changes_apply t (ends_of by gs) ≡ true) → (bs : List ℕ) → changes_apply tree (final_bytes g bs ++ ends_of by gs) ≡ true
    go rest [] = and_from _ _ cut-applies (rest (changed tree (Cut g 0 [])) (λ f there. is_file-kept tree (Cut g 0 []) cut-applies refl f (are f (inr there))))
    go rest (b ∷ bs) =
        let t = changed tree (Cut g 0 []) in
        let put = Put g 0 (Whole (b ∷ bs)) in
        let put-applies : applies t put ≡ true = applies-from t put (is_file-kept tree (Cut g 0 []) cut-applies refl g (are g (inl refl)), refl) in
        and_from _ _ cut-applies (and_from _ _ put-applies (rest (changed t put) (λ f there. is_file-kept t put put-applies refl f (is_file-kept tree (Cut g 0 []) cut-applies refl f (are f (inr there))))))

pub changed_all-append : (tree : Tree) (as' bs : List Change) → changed_all tree (as' ++ bs) ≡ changed_all (changed_all tree as') bs
changed_all-append tree as' bs = fold-append changed tree as' bs

-- the files with bytes are files once one change more has applied to the names
written-there : (seen : Tree) (files : List ℕ) (c : Change) → applies seen c ≡ true → ((f : ℕ) → IsIn f files → is_file seen f ≡ true)
    → (f : ℕ) → IsIn f (written_after files c) → is_file (changed_all seen (names_of (c ∷ []))) f ≡ true
written-there seen files (Make node parent File name) is are f there = elim (IsIn-with_number files node f there) [
  | inl old ↦ is_file-kept seen (Make node parent File name) is refl f (are f old)
  | inr e ↦ subst (λ k. is_file (changed seen (Make node parent File name)) k ≡ true) e (ap (λ n. is_some (content_of n)) (node_at-there seen (Make node parent File name) (Fits-from seen (Make node parent File name) (Applies-from seen (Make node parent File name) is))))
]
written-there seen files (Make node parent Directory name) is are f there = is_file-kept seen (Make node parent Directory name) is refl f (are f there)
written-there seen files (Put node offset contents) is are f there = elim (IsIn-with_number files node f there) [
  | inl old ↦ are f old
  | inr e ↦ subst (λ k. is_file seen k ≡ true) e (Applies-from seen (Put node offset contents) is).0
]
written-there seen files (Cut node size pages) is are f there = elim (IsIn-with_number files node f there) [
  | inl old ↦ are f old
  | inr e ↦ subst (λ k. is_file seen k ≡ true) e (Applies-from seen (Cut node size pages) is).0
]
written-there seen files (Move node parent name) is are f there = is_file-kept seen (Move node parent name) is refl f (are f there)
written-there seen files (Drop node) is are f there =
    let kept = IsIn-filter (λ k. not (k == node)) files f there in
    ap (λ n. is_some (content_of n)) (node_at-elsewhere seen (Drop node) (Fits-from seen (Drop node) (Applies-from seen (Drop node) is)) f (λ e. eqb-false f node (not-true _ kept.1) (sym e))) ∙ are f kept.0

-- a change that applies to the names applies alone, where it makes, moves or drops one
names-one : (seen : Tree) (c : Change) → applies seen c ≡ true → changes_apply seen (names_of (c ∷ [])) ≡ true
names-one seen c is = go (names_only c)
  where
    go : (b : Bool) → changes_apply seen (cond b (c ∷ []) []) ≡ true
    go true = and_from _ _ is refl
    go false = refl

pub final-applies : (tree : Tree) (ms : List Change) (c : Change) (by by' : ℕ → List ℕ) → changes_to_commit ms by ≡ ms → changes_apply tree ms ≡ true → applies (changed_all tree (names_of ms)) c ≡ true
    → changes_apply tree (changes_to_commit (ms ++ c ∷ []) by') ≡ true
final-applies tree ms c by by' final all is =
    let parts : changes_apply tree (names_of ms ++ ends_of by (written_files ms)) ≡ true = subst (λ ds. changes_apply tree ds ≡ true) (sym final) all in
    let seen = changed_all tree (names_of ms) in
    let are : (f : ℕ) → IsIn f (written_files ms) → is_file seen f ≡ true = ends-files by (written_files ms) seen (changes_apply-second tree (names_of ms) (ends_of by (written_files ms)) parts) in
    let names : names_of (ms ++ c ∷ []) ≡ names_of ms ++ names_of (c ∷ []) = filter-append names_only ms (c ∷ []) in
    let names-apply : changes_apply tree (names_of (ms ++ c ∷ [])) ≡ true = subst (λ ds. changes_apply tree ds ≡ true) (sym names)
    (changes_apply-append tree (names_of ms) (names_of (c ∷ [])) (changes_apply-first tree (names_of ms) (ends_of by (written_files ms)) parts) (names-one seen c is)) in
    let after : changed_all tree (names_of (ms ++ c ∷ [])) ≡ changed_all seen (names_of (c ∷ [])) = ap (changed_all tree) names ∙ changed_all-append tree (names_of ms) (names_of (c ∷ [])) in
    changes_apply-append tree (names_of (ms ++ c ∷ [])) (ends_of by' (written_files (ms ++ c ∷ []))) names-apply
    (ends-apply by' (written_files (ms ++ c ∷ [])) (changed_all tree (names_of (ms ++ c ∷ []))) (λ f there.
    subst (λ t. is_file t f ≡ true) (sym after) (written-there seen (written_files ms) c is are f (subst (IsIn f) (fold-append written_after [] ms (c ∷ [])) there))))

pub is-final : (cs : List Change) (by : ℕ → List ℕ) → IsFinal cs by
is-final cs by = record {
  names = names-final cs by;
  written = written-final cs by;
  gives = λ before file there. bytes-final cs by before file there;
  again = λ by' same. ap (λ ds. ds ++ ends_of by' (written_files (changes_to_commit cs by))) (names-final cs by) ∙ ap (λ fs. names_of cs ++ ends_of by' fs) (written-final cs by)
      ∙ to_commit-same cs by' by same;
  places = λ tree. held-names places_of silent-places tree cs by;
  dropped = λ tree. held-names dropped_directory silent-dropped tree cs by;
  moved = λ tree. held-names moved_directory silent-moved tree cs by;
}

pub final_changes_law : FinalChangesLaw
final_changes_law = (is-final, final-applies)
