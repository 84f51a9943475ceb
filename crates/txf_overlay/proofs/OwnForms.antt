-- Lemmas on changes in the form in which they are committed.
use Rattle.std.proofs.Common.{◌≡◌, ℕ, zero, suc, ◌+◌, ◌-◌, ◌==◌, ◌&&◌, not, Bool, true, false, filter, take, drop, length, replicate, map, List, [], ◌∷◌, ◌++◌, Option, Some, None, refl, sym, ◌∙◌, ap, arith, inl, inr}
use Rattle.std.specs.Prelude.{if◌then◌else◌, nat_lt}
use Rattle.std.specs.List.{list_all, flat_map}
use Rattle.std.proofs.lemmas.Bool.{cases_Bool, eq-eqb, ne_eqb, eqb-true, eqb-false, and_parts}
use Rattle.std.proofs.lemmas.List.{append-nil}
use Rattle.std.proofs.lemmas.List.Sums.{fold-append}
use Rattle.std.proofs.lemmas.Option.{none-some, same_Some}
use Rattle.ktm_world.specs.declared.change.Change.{Change}
use Rattle.ktm_world.specs.declared.change.Change.TheVariants.{Make, Put, Cut, Move, Drop}
use Rattle.ktm_world.specs.declared.change.NodeKind.TheVariants.{File, Directory}
use Rattle.ktm_world.specs.Changes.{bytes_in, changed, changed_all, changes_bytes, is_make, node_of}
use Rattle.ktm_world.specs.Committed.{final_bytes, with_number, without_number, written_after, written_files}
use Rattle.ktm_world.specs.Files.{bytes_after}
use Rattle.ktm_world.specs.Tree.{Tree, bytes_of, cut_to, put_over}
use Rattle.txf_overlay.specs.Written.{AreFilesRising, bytes_at, bytes_or, with_bytes, without_file}
use Rattle.txf_overlay.specs.OverlayState.{is_of_names, OverlayState, Written, final_of, own_of}
use Rattle.txf_overlay.specs.Laws.{IsOwn, OwnFormLaw, number_of, written_with}
use Rattle.txf_overlay.proofs.Options.{filter-append}
use Rattle.txf_overlay.proofs.FilesMap.{bytes_at-over, AreFilesRising-with, AreFilesRising-without}

-- ---- names
all-kept : (cs : List Change) → list_all is_of_names cs ≡ true → filter is_of_names cs ≡ cs
all-kept [] all = refl
all-kept (c ∷ cs) all =
    let parts = and_parts (is_of_names c) (list_all is_of_names cs) all in
    rw parts.0 (ap (λ ds. c ∷ ds) (all-kept cs parts.1))

-- the bytes at the end are no names
ends-left : (ws : List Written) → filter is_of_names (flat_map final_of ws) ≡ []
ends-left [] = refl
ends-left (w ∷ ws) = go w.bytes (flat_map final_of ws) (ends-left ws)
  where
    go : (bytes : List ℕ) (rest : List Change) → filter is_of_names rest ≡ [] → filter is_of_names (final_bytes w.file bytes ++ rest) ≡ []
    go [] rest left = left
    go (b ∷ bytes) rest left = left

-- ---- numbers of files
numbers-with : (ws : List Written) (file : ℕ) (bytes : List ℕ) → with_number (map number_of ws) file ≡ map number_of (with_bytes ws file bytes)
numbers-with [] file bytes = refl
numbers-with (w ∷ ws) file bytes = elim (cases_Bool (w.file == file)) [
  | inl same ↦ rw same (ap (λ n. n ∷ map number_of ws) (eqb-true w.file file same))
  | inr other ↦ elim (cases_Bool (nat_lt file w.file)) [
    | inl before ↦ rw (other, before) refl
    | inr behind ↦ rw (other, behind) (ap (λ ns. w.file ∷ ns) (numbers-with ws file bytes))
  ]
]

numbers-without : (ws : List Written) (file : ℕ) → without_number (map number_of ws) file ≡ map number_of (without_file ws file)
numbers-without [] file = refl
numbers-without (w ∷ ws) file = elim (cases_Bool (w.file == file)) [
  | inl same ↦ rw same (numbers-without ws file)
  | inr other ↦ rw other (ap (λ ns. w.file ∷ ns) (numbers-without ws file))
]

numbers-after : (first : ℕ → List ℕ) (ws : List Written) (c : Change) → written_after (map number_of ws) c ≡ map number_of (written_with first ws c)
numbers-after first ws (Make node parent File name) = numbers-with ws node (bytes_or [] (bytes_at ws node))
numbers-after first ws (Make node parent Directory name) = refl
numbers-after first ws (Put node offset contents) = numbers-with ws node (put_over (bytes_or (first node) (bytes_at ws node)) offset (bytes_in contents))
numbers-after first ws (Cut node size pages) = numbers-with ws node (cut_to (bytes_or (first node) (bytes_at ws node)) size)
numbers-after first ws (Move node parent name) = refl
numbers-after first ws (Drop node) = numbers-without ws node

-- ---- bytes of files
bytes_at-with : (ws : List Written) (file : ℕ) (bytes : List ℕ) (other : ℕ) → bytes_at (with_bytes ws file bytes) other ≡ (if file == other then Some bytes else bytes_at ws other)
bytes_at-with [] file bytes other = refl
bytes_at-with (w ∷ ws) file bytes other = elim (cases_Bool (w.file == file)) [
  | inl same ↦ elim (cases_Bool (file == other)) [
    | inl at ↦ rw (same, at) refl
    | inr apart ↦ rw (same, apart, ne_eqb w.file other (λ e. eqb-false file other apart (sym (eqb-true w.file file same) ∙ e))) refl
  ]
  | inr differs ↦ elim (cases_Bool (nat_lt file w.file)) [
    | inl before ↦ rw (differs, before) refl
    | inr behind ↦ elim (cases_Bool (w.file == other)) [
      | inl at ↦ rw (differs, behind, at, ne_eqb file other (λ e. eqb-false w.file file differs (eqb-true w.file other at ∙ sym e))) refl
      | inr apart ↦ rw (differs, behind, apart) (bytes_at-with ws file bytes other)
    ]
  ]
]

bytes_at-without : (ws : List Written) (file other : ℕ) → bytes_at (without_file ws file) other ≡ (if file == other then None else bytes_at ws other)
bytes_at-without [] file other = elim (file == other) as (λ b. ◌≡◌ {A = Option (List ℕ)} None (if b then None else None)) [ true ↦ refl | false ↦ refl ]
bytes_at-without (w ∷ ws) file other = elim (cases_Bool (w.file == file)) [
  | inl same ↦ elim (cases_Bool (file == other)) [
    | inl at ↦ rw same (bytes_at-without ws file other ∙ rw at refl)
    | inr apart ↦
        rw (same, ne_eqb w.file other (λ e. eqb-false file other apart (sym (eqb-true w.file file same) ∙ e))) (bytes_at-without ws file other)
  ]
  | inr differs ↦ elim (cases_Bool (w.file == other)) [
    | inl at ↦ rw (differs, at, ne_eqb file other (λ e. eqb-false w.file file differs (eqb-true w.file other at ∙ sym e))) refl
    | inr apart ↦ rw (differs, apart) (bytes_at-without ws file other)
  ]
]

-- does a change put or cut bytes of the file
abbrev is_of_file : ℕ → Change → Bool
is_of_file file c = changes_bytes c && node_of c == file

names-aside : (cs : List Change) (file : ℕ) → list_all is_of_names cs ≡ true → filter (is_of_file file) cs ≡ []
names-aside [] file all = refl
names-aside (c ∷ cs) file all =
    let parts = and_parts (is_of_names c) (list_all is_of_names cs) all in
    let no_bytes : changes_bytes c ≡ false = from_not (changes_bytes c) parts.0 in
    rw no_bytes (names-aside cs file parts.1)
  where
    from_not : (b : Bool) → not b ≡ true → b ≡ false
    from_not true is = absurd (cc)
    from_not false is = refl

-- what a file is given at the end, if it is written
abbrev given_to : ℕ → Option (List ℕ) → List Change
given_to file None = []
given_to file (Some bytes) = final_bytes file bytes

ends-of : (ws : List Written) (file : ℕ) → AreFilesRising ws → filter (is_of_file file) (flat_map final_of ws) ≡ given_to file (bytes_at ws file)
ends-of [] file rise = refl
ends-of (w ∷ ws) file rise =
    filter-append (is_of_file file) (final_of w) (flat_map final_of ws) ∙ ap (λ ds. filter (is_of_file file) (final_of w) ++ ds) (ends-of ws file rise.1) ∙ go
  where
    theirs : (w.file == file) ≡ false → (bs : List ℕ) → filter (is_of_file file) (final_bytes w.file bs) ≡ []
    theirs other [] = rw other refl
    theirs other (b ∷ bs) = rw other refl

    mine : (w.file == file) ≡ true → (bs : List ℕ) → filter (is_of_file file) (final_bytes w.file bs) ≡ final_bytes w.file bs
    mine same [] = rw same refl
    mine same (b ∷ bs) = rw same refl

    go : filter (is_of_file file) (final_bytes w.file w.bytes) ++ given_to file (bytes_at ws file) ≡ given_to file (bytes_at (w ∷ ws) file)
    go = elim (cases_Bool (w.file == file)) [
      | inl same ↦
          let e : w.file ≡ file = eqb-true w.file file same in
          let none : bytes_at ws file ≡ None = bytes_at-over ws file w.file rise.0 (omega arith) in
          rw (same, none) (append-nil _ ∙ mine same w.bytes ∙ ap (λ f. final_bytes f w.bytes) e)
      | inr other ↦ rw other (ap (λ ds. ds ++ given_to file (bytes_at ws file)) (theirs other w.bytes))
    ]

-- the file alone, with these bytes
abbrev alone : ℕ → List ℕ → Tree
alone file bytes = record { number = file; parent = 1; name = []; content = Some bytes } ∷ []

cut-none : (bs : List ℕ) → cut_to bs 0 ≡ []
cut-none bs = let e : 0 - length bs ≡ 0 = omega arith in ap (λ n. take 0 bs ++ replicate n 0) e

abbrev nothing : List ℕ
nothing = []

drop-none : (n : ℕ) → drop n nothing ≡ nothing
drop-none zero = refl
drop-none (suc n) = refl

put-none : (bs : List ℕ) → put_over [] 0 bs ≡ bs
put-none bs = ap (λ o. o ++ bs ++ drop (0 + length bs) []) (cut-none []) ∙ ap (λ o. bs ++ o) (drop-none (0 + length bs)) ∙ append-nil bs

-- with the bytes that it is given at the end it has these, and else those that it had
given-alone : (file : ℕ) (before : List ℕ) (o : Option (List ℕ)) → changed_all (alone file before) (given_to file o) ≡ alone file (bytes_or before o)
given-alone file before None = refl
given-alone file before (Some []) = rw (eq-eqb file file refl) (ap (alone file) (cut-none before))
given-alone file before (Some (b ∷ bs)) =
    let same = eq-eqb file file refl in
    rw (same, same) (ap (λ bytes. alone file (put_over bytes 0 (b ∷ bs))) (cut-none before) ∙ ap (alone file) (put-none (b ∷ bs)))

-- the bytes once a change is made, if it is of the file
abbrev edited : Change → ℕ → List ℕ → List ℕ
edited (Make node parent kind name) file bytes = bytes
edited (Put node offset contents) file bytes = if node == file then put_over bytes offset (bytes_in contents) else bytes
edited (Cut node size pages) file bytes = if node == file then cut_to bytes size else bytes
edited (Move node parent name) file bytes = bytes
edited (Drop node) file bytes = bytes

one-alone : (c : Change) (file : ℕ) (bytes : List ℕ) → bytes_of (changed_all (alone file bytes) (filter (is_of_file file) (c ∷ []))) file ≡ edited c file bytes
one-alone (Make node parent kind name) file bytes = rw (eq-eqb file file refl) refl
one-alone (Put node offset contents) file bytes = elim (cases_Bool (node == file)) [
  | inl same ↦ rw (same, eq-eqb file node (sym (eqb-true node file same)), eq-eqb file file refl) refl
  | inr other ↦ rw (other, eq-eqb file file refl) refl
]
one-alone (Cut node size pages) file bytes = elim (cases_Bool (node == file)) [
  | inl same ↦ rw (same, eq-eqb file node (sym (eqb-true node file same)), eq-eqb file file refl) refl
  | inr other ↦ rw (other, eq-eqb file file refl) refl
]
one-alone (Move node parent name) file bytes = rw (eq-eqb file file refl) refl
one-alone (Drop node) file bytes = rw (eq-eqb file file refl) refl

bytes-next : (o : OverlayState) (c : Change) (before : List ℕ) (file : ℕ) → IsOwn o → bytes_after before file (own_of o ++ c ∷ []) ≡ edited c file (bytes_or before (bytes_at o.written file))
bytes-next o c before file own =
    let split : filter (is_of_file file) (own_of o ++ c ∷ []) ≡ given_to file (bytes_at o.written file) ++ filter (is_of_file file) (c ∷ []) =
    filter-append (is_of_file file) (own_of o) (c ∷ [])
    ∙ ap (λ ds. ds ++ filter (is_of_file file) (c ∷ []))
    (filter-append (is_of_file file) o.names (flat_map final_of o.written)
    ∙ ap (λ ds. ds ++ filter (is_of_file file) (flat_map final_of o.written)) (names-aside o.names file own.only)
    ∙ ends-of o.written file own.rise) in
    ap (λ ds. bytes_of (changed_all (alone file before) ds) file) split
    ∙ ap (λ t. bytes_of t file)
    (fold-append changed (alone file before) (given_to file (bytes_at o.written file)) (filter (is_of_file file) (c ∷ []))
    ∙ ap (λ t. changed_all t (filter (is_of_file file) (c ∷ []))) (given-alone file before (bytes_at o.written file)))
    ∙ one-alone c file (bytes_or before (bytes_at o.written file))

-- ---- the form
edited-with : (first : ℕ → List ℕ) (ws : List Written) (c : Change) (file : ℕ) (bytes : List ℕ) → (is_make c ≡ true → first (node_of c) ≡ [])
    → bytes_at (written_with first ws c) file ≡ Some bytes → edited c file (bytes_or (first file) (bytes_at ws file)) ≡ bytes
edited-with first ws (Make node parent File name) file bytes empty is = elim (cases_Bool (node == file)) [
  | inl same ↦
      let at : node ≡ file = eqb-true node file same in
      let now : Some (bytes_or [] (bytes_at ws node)) ≡ Some bytes = sym (bytes_at-with ws node (bytes_or [] (bytes_at ws node)) file ∙ rw same refl) ∙ is in
      ap (λ f. bytes_or (first f) (bytes_at ws f)) (sym at) ∙ ap (λ b. bytes_or b (bytes_at ws node)) (empty refl) ∙ same_Some _ bytes now
  | inr other ↦
      let now : bytes_at ws file ≡ Some bytes = sym (bytes_at-with ws node (bytes_or [] (bytes_at ws node)) file ∙ rw other refl) ∙ is in
      rw now refl
]
edited-with first ws (Make node parent Directory name) file bytes empty is = rw is refl
edited-with first ws (Put node offset contents) file bytes empty is = elim (cases_Bool (node == file)) [
  | inl same ↦
      let at : node ≡ file = eqb-true node file same in
      let new = put_over (bytes_or (first node) (bytes_at ws node)) offset (bytes_in contents) in
      let now : Some new ≡ Some bytes = sym (bytes_at-with ws node new file ∙ rw same refl) ∙ is in
      rw same (ap (λ f. put_over (bytes_or (first f) (bytes_at ws f)) offset (bytes_in contents)) (sym at) ∙ same_Some new bytes now)
  | inr other ↦
      let now : bytes_at ws file ≡ Some bytes = sym (bytes_at-with ws node (put_over (bytes_or (first node) (bytes_at ws node)) offset (bytes_in contents)) file ∙ rw other refl) ∙ is in
      rw (other, now) refl
]
edited-with first ws (Cut node size pages) file bytes empty is = elim (cases_Bool (node == file)) [
  | inl same ↦
      let at : node ≡ file = eqb-true node file same in
      let new = cut_to (bytes_or (first node) (bytes_at ws node)) size in
      let now : Some new ≡ Some bytes = sym (bytes_at-with ws node new file ∙ rw same refl) ∙ is in
      rw same (ap (λ f. cut_to (bytes_or (first f) (bytes_at ws f)) size) (sym at) ∙ same_Some new bytes now)
  | inr other ↦
      let now : bytes_at ws file ≡ Some bytes = sym (bytes_at-with ws node (cut_to (bytes_or (first node) (bytes_at ws node)) size) file ∙ rw other refl) ∙ is in
      rw (other, now) refl
]
edited-with first ws (Move node parent name) file bytes empty is = rw is refl
edited-with first ws (Drop node) file bytes empty is = elim (cases_Bool (node == file)) [
  | inl same ↦ absurd (none-some bytes (sym (bytes_at-without ws node file ∙ rw same refl) ∙ is))
  | inr other ↦
      let now : bytes_at ws file ≡ Some bytes = sym (bytes_at-without ws node file ∙ rw other refl) ∙ is in
      rw now refl
]

rising-with : (first : ℕ → List ℕ) (ws : List Written) (c : Change) → AreFilesRising ws → AreFilesRising (written_with first ws c)
rising-with first ws (Make node parent File name) rise = AreFilesRising-with ws node (bytes_or [] (bytes_at ws node)) rise
rising-with first ws (Make node parent Directory name) rise = rise
rising-with first ws (Put node offset contents) rise = AreFilesRising-with ws node _ rise
rising-with first ws (Cut node size pages) rise = AreFilesRising-with ws node _ rise
rising-with first ws (Move node parent name) rise = rise
rising-with first ws (Drop node) rise = AreFilesRising-without ws node rise

same-ends : (ws : List Written) (by : ℕ → List ℕ) → AreFilesRising ws → ((file : ℕ) (bytes : List ℕ) → bytes_at ws file ≡ Some bytes → by file ≡ bytes)
    → flat_map final_of ws ≡ flat_map (λ file. final_bytes file (by file)) (map number_of ws)
same-ends [] by rise gives = refl
same-ends (w ∷ ws) by rise gives =
    let here : by w.file ≡ w.bytes = gives w.file w.bytes (rw (eq-eqb w.file w.file refl) refl) in
    let rest : flat_map final_of ws ≡ flat_map (λ file. final_bytes file (by file)) (map number_of ws) =
    same-ends ws by rise.1 (λ file bytes is. gives file bytes (rw (apart file bytes is) is)) in
    λ i. final_bytes w.file (sym here i) ++ rest i
  where
    apart : (file : ℕ) (bytes : List ℕ) → bytes_at ws file ≡ Some bytes → (w.file == file) ≡ false
    apart file bytes is = ne_eqb w.file file (λ e. none-some bytes (sym (bytes_at-over ws file w.file rise.0 (omega arith)) ∙ is))

pub own_form_law : OwnFormLaw
own_form_law o o' first c own next =
    let all = own_of o ++ c ∷ [] in
    let by : ℕ → List ℕ = λ file. bytes_after (first file) file all in
    let names : filter is_of_names all ≡ o'.names =
    filter-append is_of_names (own_of o) (c ∷ [])
    ∙ ap (λ ds. ds ++ filter is_of_names (c ∷ []))
    (filter-append is_of_names o.names (flat_map final_of o.written) ∙ ap (λ ds. filter is_of_names o.names ++ ds) (ends-left o.written)
    ∙ append-nil (filter is_of_names o.names) ∙ all-kept o.names own.only)
    ∙ sym next.names in
    let files : written_files all ≡ map number_of o'.written =
    fold-append written_after [] (own_of o) (c ∷ []) ∙ ap (λ fs. written_after fs c) own.files ∙ numbers-after first o.written c
    ∙ ap (map number_of) (sym next.written) in
    let rise : AreFilesRising o'.written = rw next.written (rising-with first o.written c own.rise) in
    let gives : (file : ℕ) (bytes : List ℕ) → bytes_at o'.written file ≡ Some bytes → by file ≡ bytes =
    λ file bytes is. bytes-next o c (first file) file own ∙ edited-with first o.written c file bytes next.empty (rw next.written at is) in
    let ends = same-ends o'.written by rise gives in
    record {
      form = λ i. sym names i ++ (ends ∙ ap (flat_map (λ file. final_bytes file (by file))) (sym files)) i;
      files = files;
    }
