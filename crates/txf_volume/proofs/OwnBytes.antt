-- The bytes that a transaction sees of its files once it has made one change more, and their units.
use Rattle.std.proofs.Common.{◌≡◌, ℕ, ◌+◌, ◌<◌, ◌==◌, ◌&&◌, ◌||◌, not, Bool, true, false, cond, if◌then◌else◌, filter, List, [], ◌∷◌, ◌++◌, sum_by, Some, refl, sym, ◌∙◌, ap, subst, arith, inl, inr}
use Rattle.std.proofs.lemmas.Bool.{cases_Bool, eq-eqb, ne_eqb, eqb-true, eqb-false, ltb-true, true≢false}
use Rattle.std.proofs.lemmas.List.{append-nil}
use Rattle.std.proofs.lemmas.List.Sums.{fold-append, sum_by-cons}
use Rattle.std.specs.List.{list_any}
use Rattle.std.specs.Prelude.{nat_lt}
use Rattle.ktm_base.specs.declared.id.Id.{Id}
use Rattle.ktm_world.specs.declared.change.Change.{Change}
use Rattle.ktm_world.specs.declared.change.Change.TheVariants.{Make, Put, Cut, Move, Drop}
use Rattle.ktm_world.specs.declared.change.NodeKind.TheVariants.{File, Directory}
use Rattle.ktm_world.specs.Changes.{bytes_in, changed, changed_all, changes_bytes, has_made, is_make, node_of}
use Rattle.ktm_world.specs.Committed.{with_number, without_number, written_after, written_files, changes_to_commit}
use Rattle.ktm_world.specs.Files.{FilesNow, own_changes, bytes_after, bytes_seen, bytes_with, first_bytes, fixed_bytes, first_open_of}
use Rattle.ktm_world.specs.Holds.{is_in}
use Rattle.ktm_world.specs.Tree.{Tree, bytes_of, cut_to, put_over, units_of}
use Rattle.txf_volume.specs.Uses.{gain, loss, own_bytes}
use Rattle.txf_laws.specs.Elements.{IsIn}
use Rattle.txf_laws.proofs.offered.Elements.{IsIn-filter, list_any-from}
use Rattle.txf_laws.proofs.offered.NormalForms.{RisingNumbers, is_of_file, rising-written, ends-elsewhere, names-of-no-file}
use Rattle.txf_laws.proofs.offered.NormalForms.{bytes-final, ends_of, filter-append}
use Rattle.txf_laws.specs.FinalChanges.{names_of}
use Rattle.txf_laws.proofs.offered.Sums.{sum-same}

-- ---- sums over rising numbers

is_in-above : (fs : List ℕ) (n : ℕ) → ((m : ℕ) → IsIn m fs → n < m) → is_in fs n ≡ false
is_in-above [] n above = refl
is_in-above (m ∷ ms) n above = rw (ne_eqb m n (λ e. omega (arith, above m (inl refl), e))) (is_in-above ms n (λ k there. above k (inr there)))

pub sum-with_number : (g : ℕ → ℕ) (fs : List ℕ) (n : ℕ) → RisingNumbers fs → sum_by g (with_number fs n) ≡ sum_by g fs + cond (is_in fs n) 0 (g n)
sum-with_number g [] n rises = let one = sum_by-cons g n [] in omega arith
sum-with_number g (m ∷ ms) n rises = elim (cases_Bool (m == n)) [
  | inl same ↦ rw same (omega arith)
  | inr other ↦ elim (cases_Bool (nat_lt n m)) [
    | inl before ↦
        let none = is_in-above ms n (λ k there. omega (arith, ltb-true n m before, rises.0 k there)) in
        rw (other, before, none) (let one = sum_by-cons g n (m ∷ ms) in omega arith)
    | inr behind ↦ rw (other, behind) (let rest = sum-with_number g ms n rises.1 in let a = sum_by-cons g m (with_number ms n) in let b = sum_by-cons g m ms in omega arith)
  ]
]

sum-without_number : (g : ℕ → ℕ) (fs : List ℕ) (n : ℕ) → RisingNumbers fs → sum_by g (without_number fs n) + cond (is_in fs n) (g n) 0 ≡ sum_by g fs
sum-without_number g [] n rises = omega arith
sum-without_number g (m ∷ ms) n rises =
    let all = sum_by-cons g m ms in
    let rest = sum-without_number g ms n rises.1 in
    elim (cases_Bool (m == n)) [
      | inl same ↦
          let e = eqb-true m n same in
          let none : is_in ms n ≡ false = is_in-above ms n (λ k there. subst (λ j. j < k) e (rises.0 k there)) in
          let zero : cond (is_in ms n) (g n) 0 ≡ 0 = rw none refl in
          let it = ap g e in
          rw same (omega arith)
      | inr other ↦ rw other (let a = sum_by-cons g m (without_number ms n) in omega arith)
    ]

-- two sums that differ at one number at most
pub sum-differs : (g h : ℕ → ℕ) (fs : List ℕ) (n : ℕ) → RisingNumbers fs → ((f : ℕ) → IsIn f fs → (f == n) ≡ false → h f ≡ g f) → sum_by h fs + cond (is_in fs n) (g n) 0 ≡ sum_by g fs + cond (is_in fs n) (h n) 0
sum-differs g h [] n rises same = omega arith
sum-differs g h (m ∷ ms) n rises same =
    let a = sum_by-cons g m ms in
    let b = sum_by-cons h m ms in
    let rest = sum-differs g h ms n rises.1 (λ f there. same f (inr there)) in
    elim (cases_Bool (m == n)) [
      | inl here ↦
          let e = eqb-true m n here in
          let none : is_in ms n ≡ false = is_in-above ms n (λ k there. subst (λ j. j < k) e (rises.0 k there)) in
          let zero : cond (is_in ms n) (g n) 0 ≡ 0 = rw none refl in
          let zero' : cond (is_in ms n) (h n) 0 ≡ 0 = rw none refl in
          let it = ap g e in
          let it' = ap h e in
          rw here (omega arith)
      | inr other ↦ let it = same m (inl refl) other in rw other (omega arith)
    ]

-- ---- bytes of one file

-- a file by itself
abbrev pub one : ℕ → List ℕ → Tree
one file bytes = record { number = file; parent = 1; name = []; content = Some bytes } ∷ []

pub one-bytes : (file : ℕ) (bytes : List ℕ) → bytes_of (one file bytes) file ≡ bytes
one-bytes file bytes = rw (eq-eqb file file refl) refl

-- what a change makes of bytes
abbrev pub remade : List ℕ → Change → List ℕ
remade bytes (Put node offset contents) = put_over bytes offset (bytes_in contents)
remade bytes (Cut node size pages) = cut_to bytes size
remade bytes _ = bytes

one-changed : (file : ℕ) (bytes : List ℕ) (c : Change) → is_of_file file c ≡ true → changed (one file bytes) c ≡ one file (remade bytes c)
one-changed file bytes (Make node parent kind name) of_it = absurd (true≢false (sym of_it))
one-changed file bytes (Put node offset contents) of_it = rw (eq-eqb file node (sym (eqb-true node file of_it))) refl
one-changed file bytes (Cut node size pages) of_it = rw (eq-eqb file node (sym (eqb-true node file of_it))) refl
one-changed file bytes (Move node parent name) of_it = absurd (true≢false (sym of_it))
one-changed file bytes (Drop node) of_it = absurd (true≢false (sym of_it))

-- changes of the file leave it by itself
one-all : (file : ℕ) (bytes : List ℕ) (cs : List Change) → ((c : Change) → IsIn c cs → is_of_file file c ≡ true) → changed_all (one file bytes) cs ≡ one file (bytes_of (changed_all (one file bytes) cs) file)
one-all file bytes [] of_it = ap (one file) (sym (one-bytes file bytes))
one-all file bytes (c ∷ cs) of_it =
    let first = one-changed file bytes c (of_it c (inl refl)) in
    ap (λ t. changed_all t cs) first ∙ one-all file (remade bytes c) cs (λ d there. of_it d (inr there)) ∙ ap (λ t. one file (bytes_of (changed_all t cs) file)) (sym first)

-- one change more, of the file
pub after-one : (bytes : List ℕ) (file : ℕ) (cs : List Change) (c : Change) → is_of_file file c ≡ true → bytes_after bytes file (cs ++ c ∷ []) ≡ remade (bytes_after bytes file cs) c
after-one bytes file cs c of_it =
    let its : filter (is_of_file file) (cs ++ c ∷ []) ≡ filter (is_of_file file) cs ++ c ∷ [] = filter-append (is_of_file file) cs (c ∷ []) ∙ ap (λ ds. filter (is_of_file file) cs ++ ds) (rw of_it refl) in
    let ds = filter (is_of_file file) cs in
    ap (λ es. bytes_of (changed_all (one file bytes) es) file) its
    ∙ ap (λ t. bytes_of t file) (fold-append changed (one file bytes) ds (c ∷ []) ∙ ap (λ t. changed t c) (one-all file bytes ds (λ d there. (IsIn-filter (is_of_file file) cs d there).1)) ∙ one-changed file (bytes_of (changed_all (one file bytes) ds) file) c of_it)
    ∙ one-bytes file (remade (bytes_after bytes file cs) c)

-- one change more, of no bytes of it
pub after-other : (bytes : List ℕ) (file : ℕ) (cs : List Change) (c : Change) → is_of_file file c ≡ false → bytes_after bytes file (cs ++ c ∷ []) ≡ bytes_after bytes file cs
after-other bytes file cs c other =
    ap (λ es. bytes_of (changed_all (one file bytes) es) file)
    (filter-append (is_of_file file) cs (c ∷ []) ∙ ap (λ ds. filter (is_of_file file) cs ++ ds) (rw other refl) ∙ append-nil (filter (is_of_file file) cs))

-- ---- a transaction's changes with one more

module _ (files : FilesNow) (id : Id) (c : Change) (final : changes_to_commit (own_changes files.table.own id) (bytes_seen files (Some id)) ≡ own_changes files.table.own id) where
  -- the changes before, and with the new one
  abbrev pub old : List Change
  old = own_changes files.table.own id

  abbrev pub all : List Change
  all = old ++ c ∷ []

  -- the bytes before, and then
  abbrev pub bytes : ℕ → List ℕ
  bytes = bytes_seen files (Some id)

  abbrev pub then' : ℕ → List ℕ
  then' = bytes_with files id all

  written : List ℕ
  written = written_files old

  rises : RisingNumbers (written_files old)
  rises = rising-written old [] tt

  -- the bytes at the end are seen whatever stands before them
  seen-final : (before : List ℕ) (f : ℕ) → IsIn f (written_files old) → bytes_after before f old ≡ bytes f
  seen-final before f there = ap (bytes_after before f) (sym final) ∙ bytes-final old bytes before f there

  -- of a file that the change does not write they are as before
  then-same : (f : ℕ) → IsIn f (written_files old) → is_of_file f c ≡ false → then' f ≡ bytes f
  then-same f there other = after-other (first_bytes files id all f) f old c other ∙ seen-final (first_bytes files id all f) f there

  list_any-last : {X : Type 0} (test : X → Bool) (xs : List X) (x : X) → test x ≡ false → list_any test (xs ++ x ∷ []) ≡ list_any test xs
  list_any-last test [] x fails = rw fails refl
  list_any-last test (y ∷ ys) x fails = ap (λ b. test y || b) (list_any-last test ys x fails)

  list_any-more : {X : Type 0} (test : X → Bool) (xs : List X) (x : X) → test x ≡ true → list_any test (xs ++ x ∷ []) ≡ true
  list_any-more test [] x is = rw is refl
  list_any-more test (y ∷ ys) x is = ap (λ b. test y || b) (list_any-more test ys x is) ∙ or-true (test y)
    where
      or-true : (b : Bool) → (b || true) ≡ true
      or-true true = refl
      or-true false = refl

  -- of the file that it writes
  then-written : is_make c ≡ false → is_of_file (node_of c) c ≡ true → then' (node_of c) ≡ remade (bytes (node_of c)) c
  then-written no_make of_it =
      let n = node_of c in
      let made : has_made all n ≡ has_made old n = list_any-last (λ change. is_make change && node_of change == n) old c (rw no_make refl) in
      after-one (first_bytes files id all n) n old c of_it
      ∙ ap (λ b. remade (bytes_after (if b then [] else fixed_bytes files n (first_open_of files.first_opens id n)) n old) c) made

  none-written : (f : ℕ) → is_in (written_files old) f ≡ false → filter (is_of_file f) old ≡ []
  none-written f none =
      ap (filter (is_of_file f)) (sym final) ∙ filter-append (is_of_file f) (names_of old) (ends_of bytes (written_files old))
      ∙ (λ i. names-of-no-file f old i ++ ends-elsewhere bytes (written_files old) f (λ there. true≢false (sym (list_any-from (λ m. m == f) (written_files old) f there (eq-eqb f f refl)) ∙ none)) i)

  -- of a file that it makes
  then-made : is_make c ≡ true → is_of_file (node_of c) c ≡ false → is_in (written_files old) (node_of c) ≡ false → then' (node_of c) ≡ []
  then-made make of_none none =
      let n = node_of c in
      let made : has_made all n ≡ true = list_any-more (λ change. is_make change && node_of change == n) old c (rw (make, eq-eqb n n refl) refl) in
      ap (λ b. bytes_after (if b then [] else fixed_bytes files n (first_open_of files.first_opens id n)) n all) made
      ∙ after-other [] n old c of_none ∙ ap (λ ds. bytes_of (changed_all (one n []) ds) n) (none-written n none) ∙ one-bytes n []

  -- the units of what the transaction has written
  abbrev units : ℕ → ℕ
  units f = units_of (bytes f)

  abbrev units' : ℕ → ℕ
  units' f = units_of (then' f)

  same-all : ((f : ℕ) → is_of_file f c ≡ false) → sum_by units' (written_files old) ≡ sum_by units (written_files old)
  same-all none = sum-same units' units (written_files old) (λ f there. ap units_of (then-same f there (none f)))

  own-units : units_of (own_bytes files id (node_of c)) ≡ cond (is_in (written_files old) (node_of c)) (units (node_of c)) 0
  own-units = go (is_in (written_files old) (node_of c))
    where
      go : (b : Bool) → units_of (if b then bytes (node_of c) else []) ≡ cond b (units (node_of c)) 0
      go true = refl
      go false = refl

  -- a change of bytes
  pub bytes-units : (w : Bool) → is_in (written_files old) (node_of c) ≡ w → changes_bytes c ≡ true → is_make c ≡ false → ((f : ℕ) → (f == node_of c) ≡ false → is_of_file f c ≡ false) → is_of_file (node_of c) c ≡ true
      → sum_by units' (with_number (written_files old) (node_of c)) + units_of (own_bytes files id (node_of c)) ≡ sum_by units (written_files old) + units_of (remade (bytes (node_of c)) c)
  bytes-units w is writes no_make others its =
      let more = sum-with_number units' (written_files old) (node_of c) rises in
      let differs = sum-differs units units' (written_files old) (node_of c) rises (λ f there other. ap units_of (then-same f there (others f other))) in
      let it : units' (node_of c) ≡ units_of (remade (bytes (node_of c)) c) = ap units_of (then-written no_make its) in
      let own = own-units in
      go w (rw is at more) (rw is at differs) (own ∙ ap (λ b. cond b (units (node_of c)) 0) is) it
    where
      go : (w : Bool)
          → sum_by units' (with_number (written_files old) (node_of c)) ≡ sum_by units' (written_files old) + cond w 0 (units' (node_of c))
          → sum_by units' (written_files old) + cond w (units (node_of c)) 0 ≡ sum_by units (written_files old) + cond w (units' (node_of c)) 0
          → units_of (own_bytes files id (node_of c)) ≡ cond w (units (node_of c)) 0
          → units' (node_of c) ≡ units_of (remade (bytes (node_of c)) c)
          → sum_by units' (with_number (written_files old) (node_of c)) + units_of (own_bytes files id (node_of c)) ≡ sum_by units (written_files old) + units_of (remade (bytes (node_of c)) c)
      go true more differs own it = omega arith
      go false more differs own it = omega arith

  -- a file that it makes
  pub made-units : is_make c ≡ true → ((f : ℕ) → is_of_file f c ≡ false) → sum_by units' (with_number (written_files old) (node_of c)) + 0 ≡ sum_by units (written_files old) + 0
  made-units make none =
      let more = sum-with_number units' (written_files old) (node_of c) rises in
      let same = same-all none in
      elim (cases_Bool (is_in (written_files old) (node_of c))) [
        | inl is ↦ let more' : sum_by units' (with_number (written_files old) (node_of c)) ≡ sum_by units' (written_files old) + 0 = more ∙ rw is refl in omega arith
        | inr not_it ↦
            let it : units' (node_of c) ≡ 0 = ap units_of (then-made make (none (node_of c)) not_it) in
            let more' : sum_by units' (with_number (written_files old) (node_of c)) ≡ sum_by units' (written_files old) + units' (node_of c) = more ∙ rw not_it refl in
            omega arith
      ]

  -- a node that it drops
  pub dropped-units : ((f : ℕ) → is_of_file f c ≡ false) → sum_by units' (without_number (written_files old) (node_of c)) + units_of (own_bytes files id (node_of c)) ≡ sum_by units (written_files old) + 0
  dropped-units none =
      let less = sum-without_number units (written_files old) (node_of c) rises in
      let same : sum_by units' (without_number (written_files old) (node_of c)) ≡ sum_by units (without_number (written_files old) (node_of c)) =
      sum-same units' units (without_number (written_files old) (node_of c)) (λ f there. ap units_of (then-same f (IsIn-filter (λ k. not (k == node_of c)) (written_files old) f there).0 (none f))) in
      let own = own-units in
      omega arith

  -- a name that it makes or moves
  pub same-units : ((f : ℕ) → is_of_file f c ≡ false) → sum_by units' (written_files old) + 0 ≡ sum_by units (written_files old) + 0
  same-units none = let same = same-all none in omega arith

-- the units of what a transaction has written, once it has made one change more
pub written-units : (files : FilesNow) (id : Id) (c : Change) → changes_to_commit (own_changes files.table.own id) (bytes_seen files (Some id)) ≡ own_changes files.table.own id
    → sum_by (λ f. units_of (bytes_with files id (own_changes files.table.own id ++ c ∷ []) f)) (written_after (written_files (own_changes files.table.own id)) c) + loss (own_bytes files id (node_of c)) c
    ≡ sum_by (λ f. units_of (bytes_seen files (Some id) f)) (written_files (own_changes files.table.own id)) + gain (bytes_seen files (Some id) (node_of c)) c
written-units files id (Make node parent File name) final = made-units files id (Make node parent File name) final refl (λ f. refl)
written-units files id (Make node parent Directory name) final = same-units files id (Make node parent Directory name) final (λ f. refl)
written-units files id (Put node offset contents) final =
    bytes-units files id (Put node offset contents) final (is_in (written_files (own_changes files.table.own id)) node) refl refl refl (λ f other. ne_eqb node f (λ e. eqb-false f node other (sym e))) (eq-eqb node node refl)
written-units files id (Cut node size pages) final =
    bytes-units files id (Cut node size pages) final (is_in (written_files (own_changes files.table.own id)) node) refl refl refl (λ f other. ne_eqb node f (λ e. eqb-false f node other (sym e))) (eq-eqb node node refl)
written-units files id (Move node parent name) final = same-units files id (Move node parent name) final (λ f. refl)
written-units files id (Drop node) final = dropped-units files id (Drop node) final (λ f. refl)
