-- Recorded changes one after another, in the form in which they are committed.
use Rattle.std.proofs.Common.{◌≡◌, ℕ, ◌+◌, ◌<◌, ◌≤◌, ◌==◌, ◌&&◌, not, Bool, true, false, List, [], ◌∷◌, ◌++◌, Option, Some, None, fold, refl, sym, ◌∙◌, ap, subst, append_assoc, arith, inl, inr}
use Rattle.std.specs.Prelude.{if◌then◌else◌, nat_le}
use Rattle.std.specs.List.{list_all}
use Rattle.std.proofs.lemmas.Bool.{and_from, and_parts, cases_Bool, eq-eqb, eqb-true, leb-true, ne_eqb, not-true, true≢false}
use Rattle.std.proofs.lemmas.List.{append-nil}
use Rattle.std.proofs.lemmas.List.Sums.{fold-append}
use Rattle.std.proofs.lemmas.Option.{none-some, same_Some}
use Rattle.ktm_world.specs.declared.change.Change.{Change}
use Rattle.ktm_world.specs.declared.change.Change.TheVariants.{Make, Put, Cut, Move, Drop}
use Rattle.ktm_world.specs.declared.change.Contents.{Contents}
use Rattle.ktm_world.specs.declared.change.Contents.TheVariants.{Whole, Paged}
use Rattle.ktm_world.specs.Changes.{applies, changed, changed_all, changes_apply, changes_bytes, has_changes, is_empty_list, is_whole}
use Rattle.ktm_world.specs.Committed.{changes_to_commit, final_bytes, with_number, written_after, written_files}
use Rattle.ktm_world.specs.Durable.{are_final_bytes, are_recorded_changes, ends_in_bytes, gives_bytes, was_cut}
use Rattle.ktm_world.specs.Tree.{Tree, is_file}
use Rattle.txf_laws.specs.Contents.{puts_some}
use Rattle.txf_laws.specs.Elements.{IsIn}
use Rattle.txf_laws.specs.FinalChanges.{names_of}
use Rattle.txf_laws.proofs.offered.CommitsOfOthers.{changes_apply-first, to_commit-same}
use Rattle.txf_laws.proofs.offered.NormalForms.{ends_of, IsIn-with_number-new, filter-append, names-final, no-names, written-final}
use Rattle.txf_durable.specs.Putting.{put_into, put_bytes, final_form}
use Rattle.txf_durable.specs.Recorded.{are_names}
use Rattle.txf_durable.proofs.Giving.{cut_files, cuts-rise, files-cut, split, was-cut}
use Rattle.txf_durable.proofs.Recordings.{all-bytes, ends-split, recorded-split}
use Rattle.txf_durable.proofs.Trying.{apply-split, file-kept}

-- ---- names

-- names are all that they are
pub names-all : (cs : List Change) → are_names cs ≡ true → names_of cs ≡ cs
names-all [] are = refl
names-all (c ∷ cs) are =
    let parts = and_parts (not (changes_bytes c)) (are_names cs) are in
    rw parts.0 (ap (λ ds. c ∷ ds) (names-all cs parts.1))

-- a change of names gives a file no bytes
name-puts : (c : Change) (file : ℕ) (bytes : List ℕ) → changes_bytes c ≡ false → put_into file bytes c ≡ bytes
name-puts (Make node parent kind name) file bytes is = refl
name-puts (Put node offset contents) file bytes is = absurd (true≢false is)
name-puts (Cut node size pages) file bytes is = absurd (true≢false is)
name-puts (Move node parent name) file bytes is = refl
name-puts (Drop node) file bytes is = refl

-- changes of names give a file no bytes
pub names-put : (cs : List Change) (file : ℕ) (bytes : List ℕ) → are_names cs ≡ true → fold (put_into file) bytes cs ≡ bytes
names-put [] file bytes are = refl
names-put (c ∷ cs) file bytes are =
    let parts = and_parts (not (changes_bytes c)) (are_names cs) are in
    ap (λ b. fold (put_into file) b cs) (name-puts c file bytes (not-true _ parts.0)) ∙ names-put cs file bytes parts.1

-- with one more they are names still
pub names-with : (cs : List Change) (c : Change) → are_names cs ≡ true → changes_bytes c ≡ false → are_names (cs ++ c ∷ []) ≡ true
names-with [] c are is = rw is refl
names-with (d ∷ cs) c are is =
    let parts = and_parts (not (changes_bytes d)) (are_names cs) are in
    and_from _ _ parts.0 (names-with cs c parts.1 is)

-- ---- one change more

-- what one change more gives a file
pub put-with : (cs : List Change) (c : Change) (file : ℕ) → put_bytes (cs ++ c ∷ []) file ≡ put_into file (put_bytes cs file) c
put-with cs c file = fold-append (put_into file) [] cs (c ∷ [])

-- it makes, moves or drops a node behind such changes alone; it cuts a file to nothing that was given nothing; or it puts the first bytes of a file that was cut
abbrev pub IsNextOf : List Change → Change → Type 0
IsNextOf done (Make node parent kind name) = are_names done ≡ true
IsNextOf done (Put node offset contents) = (offset ≡ 0) × (put_bytes done node ≡ []) × IsIn node (written_files done)
IsNextOf done (Cut node size pages) = (size ≡ 0) × (put_bytes done node ≡ [])
IsNextOf done (Move node parent name) = are_names done ≡ true
IsNextOf done (Drop node) = are_names done ≡ true

-- the changes leave those nodes files that their changes of names alone leave files
abbrev pub LeaveFiles : List Change → Type 0
LeaveFiles done = (tree : Tree) → changes_apply tree done ≡ true → (n : ℕ) → is_file (changed_all tree done) n ≡ is_file (changed_all tree (names_of done)) n

-- the change comes next behind those that are done
pub record Next (done : List Change) (c : Change) : Type 0 where
  pub is : IsNextOf done c
  pub files : LeaveFiles done

-- what is so of the changes so far, behind which come bytes of files from the least one on, or those of the one that was cut
record Done (least : ℕ) (cut : Option ℕ) (done : List Change) : Type 0 where
  low : (f : ℕ) → least ≤ f → put_bytes done f ≡ []
  this : (n : ℕ) → cut ≡ Some n → (put_bytes done n ≡ []) × IsIn n (written_files done) × (n < least)
  files : LeaveFiles done

-- names alone do
names-files : (done : List Change) → are_names done ≡ true → LeaveFiles done
names-files done are tree all n = ap (λ ds. is_file (changed_all tree ds) n) (sym (names-all done are))

-- behind names the bytes of any file may come
names-done : (done : List Change) → are_names done ≡ true → Done 0 None done
names-done done are = record {
  low = λ f least. names-put done f [] are;
  this = λ n none. absurd (none-some n none);
  files = names-files done are;
}

-- the last of some changes applies to what the others made
apply-last : (tree : Tree) (done : List Change) (c : Change) → changes_apply tree (done ++ c ∷ []) ≡ true → applies (changed_all tree done) c ≡ true
apply-last tree done c all = (and_parts (applies (changed_all tree done) c) true (and_parts (changes_apply tree done) (changes_apply (changed_all tree done) (c ∷ [])) (sym (apply-split tree done (c ∷ [])) ∙ all)).1).0

-- changes with one more of bytes leave those nodes files that their changes of names alone leave files
bytes-files : (done : List Change) (c : Change) → changes_bytes c ≡ true → LeaveFiles done → LeaveFiles (done ++ c ∷ [])
bytes-files done c bytes files tree all n =
    ap (λ t. is_file t n) (fold-append changed tree done (c ∷ []))
    ∙ file-kept (changed_all tree done) c n bytes (apply-last tree done c all)
    ∙ files tree (changes_apply-first tree done (c ∷ []) all) n
    ∙ ap (λ ds. is_file (changed_all tree ds) n) (sym (filter-append (λ d. not (changes_bytes d)) done (c ∷ []) ∙ ap (λ ds. names_of done ++ ds) (rw bytes refl) ∙ append-nil (names_of done)))

-- a cut leaves the later files, and the one that is cut
cut-done : (least : ℕ) (cut : Option ℕ) (done : List Change) (node size : ℕ) (pages : List ℕ) → least ≤ node → Done least cut done → Done (node + 1) (Some node) (done ++ Cut node size pages ∷ [])
cut-done least cut done node size pages high is = record {
  low = λ f above. put-with done (Cut node size pages) f ∙ rw (ne_eqb node f (λ e. omega (arith, e, above))) (is.low f (omega (arith, high, above)));
  this = λ n e.
      let same = same_Some node n e in (
        put-with done (Cut node size pages) n ∙ rw (eq-eqb node n same) refl,
        subst (IsIn n) (sym (fold-append written_after [] done (Cut node size pages ∷ []))) (subst (λ m. IsIn m (with_number (written_files done) node)) same (IsIn-with_number-new (written_files done) node)),
        omega (arith, same),
      );
  files = bytes-files done (Cut node size pages) refl is.files;
}

-- bytes behind a cut leave the later files
put-done : (least : ℕ) (cut : Option ℕ) (done : List Change) (node offset : ℕ) (contents : Contents) → cut ≡ Some node → Done least cut done → Done least None (done ++ Put node offset contents ∷ [])
put-done least cut done node offset contents this is = record {
  low = λ f above. put-with done (Put node offset contents) f ∙ rw (ne_eqb node f (λ e. omega (arith, e, above, (is.this node this).2))) (is.low f above);
  this = λ n none. absurd (none-some n none);
  files = bytes-files done (Put node offset contents) refl is.files;
}

-- what comes next behind changes of which one stands with the first or with the others
next-behind : (done : List Change) (y : Change) (ys : List Change) (c : Change) → Next ((done ++ y ∷ []) ++ ys) c → Next (done ++ y ∷ ys) c
next-behind done y ys c next = subst (λ ds. Next ds c) (append_assoc done (y ∷ []) ys) next

-- what comes next behind the first changes alone
next-here : (done : List Change) (c : Change) → Next done c → Next (done ++ []) c
next-here done c next = subst (λ ds. Next ds c) (sym (append-nil done)) next

-- each change among bytes at the end comes next behind those before it
next-bytes : (ys : List Change) (c : Change) (zs done : List Change) (least : ℕ) (cut : Option ℕ) → Done least cut done → are_final_bytes least cut (ys ++ c ∷ zs) ≡ true → Next (done ++ ys) c
next-bytes [] (Make node parent kind name) zs done least cut is final = absurd (true≢false (sym final))
next-bytes [] (Move node parent name) zs done least cut is final = absurd (true≢false (sym final))
next-bytes [] (Drop node) zs done least cut is final = absurd (true≢false (sym final))
next-bytes [] (Cut node size pages) zs done least cut is final =
    let parts = and_parts (nat_le least node) (size == 0) (and_parts (nat_le least node && size == 0) (are_final_bytes (node + 1) (Some node) zs) final).0 in
    next-here done (Cut node size pages) (record { is = (eqb-true size 0 parts.1, is.low node (leb-true least node parts.0)); files = is.files })
next-bytes [] (Put node offset contents) zs done least cut is final =
    let parts = and_parts (was_cut cut node) (offset == 0) (and_parts (was_cut cut node && offset == 0) (are_final_bytes least None zs) final).0 in
    let this = is.this node (was-cut cut node parts.0) in
    next-here done (Put node offset contents) (record { is = (eqb-true offset 0 parts.1, this.0, this.1); files = is.files })
next-bytes (Make node parent kind name ∷ ys) c zs done least cut is final = absurd (true≢false (sym final))
next-bytes (Move node parent name ∷ ys) c zs done least cut is final = absurd (true≢false (sym final))
next-bytes (Drop node ∷ ys) c zs done least cut is final = absurd (true≢false (sym final))
next-bytes (Cut node size pages ∷ ys) c zs done least cut is final =
    let parts = and_parts (nat_le least node && size == 0) (are_final_bytes (node + 1) (Some node) (ys ++ c ∷ zs)) final in
    let high = leb-true least node (and_parts (nat_le least node) (size == 0) parts.0).0 in
    next-behind done (Cut node size pages) ys c (next-bytes ys c zs (done ++ Cut node size pages ∷ []) (node + 1) (Some node) (cut-done least cut done node size pages high is) parts.1)
next-bytes (Put node offset contents ∷ ys) c zs done least cut is final =
    let parts = and_parts (was_cut cut node && offset == 0) (are_final_bytes least None (ys ++ c ∷ zs)) final in
    let this = was-cut cut node (and_parts (was_cut cut node) (offset == 0) parts.0).0 in
    next-behind done (Put node offset contents) ys c (next-bytes ys c zs (done ++ Put node offset contents ∷ []) least None (put-done least cut done node offset contents this is) parts.1)

-- names may come behind names
name-next : (done : List Change) (c : Change) → changes_bytes c ≡ false → are_names done ≡ true → IsNextOf done c
name-next done (Make node parent kind name) is are = are
name-next done (Put node offset contents) is are = absurd (true≢false is)
name-next done (Cut node size pages) is are = absurd (true≢false is)
name-next done (Move node parent name) is are = are
name-next done (Drop node) is are = are

-- each change comes next behind names and those between
next-names : (ys : List Change) (c : Change) (zs done : List Change) → are_names done ≡ true → ends_in_bytes (ys ++ c ∷ zs) ≡ true → Next (done ++ ys) c
next-names [] c zs done are ends = elim (cases_Bool (changes_bytes c)) [
  | inl bytes ↦ next-bytes [] c zs done 0 None (names-done done are) (rw bytes at ends)
  | inr name ↦ next-here done c (record { is = name-next done c name are; files = names-files done are })
]
next-names (y ∷ ys) c zs done are ends = elim (cases_Bool (changes_bytes y)) [
  | inl bytes ↦ next-bytes (y ∷ ys) c zs done 0 None (names-done done are) (rw bytes at ends)
  | inr name ↦ next-behind done y ys c (next-names ys c zs (done ++ y ∷ []) (names-with done y are name) (rw name at ends))
]

-- recorded changes end in bytes
ends-recorded : (cs : List Change) → are_recorded_changes cs ≡ true → ends_in_bytes cs ≡ true
ends-recorded cs recorded = (and_parts (has_changes cs) (ends_in_bytes cs) (and_parts (has_changes cs && ends_in_bytes cs) _ recorded).0).1

-- each of some recorded changes comes next behind those before it
pub recorded-next : (ys : List Change) (c : Change) (zs : List Change) → are_recorded_changes (ys ++ c ∷ zs) ≡ true → Next ys c
recorded-next ys c zs recorded = next-names ys c zs [] refl (ends-recorded (ys ++ c ∷ zs) recorded)

-- where it gives the files these bytes, the form so far with the change is the form with it
pub form-next : (done : List Change) (c : Change) (by : ℕ → List ℕ) → ((f : ℕ) → IsIn f (written_files (done ++ c ∷ [])) → by f ≡ put_bytes (done ++ c ∷ []) f)
    → changes_to_commit (final_form done ++ c ∷ []) by ≡ final_form (done ++ c ∷ [])
form-next done c by same =
    let names : names_of (final_form done ++ c ∷ []) ≡ names_of (done ++ c ∷ []) =
    filter-append (λ d. not (changes_bytes d)) (final_form done) (c ∷ []) ∙ ap (λ ns. ns ++ names_of (c ∷ [])) (names-final done (put_bytes done)) ∙ sym (filter-append (λ d. not (changes_bytes d)) done (c ∷ [])) in
    let written : written_files (final_form done ++ c ∷ []) ≡ written_files (done ++ c ∷ []) =
    fold-append written_after [] (final_form done) (c ∷ []) ∙ ap (λ fs. written_after fs c) (written-final done (put_bytes done)) ∙ sym (fold-append written_after [] done (c ∷ [])) in
    (λ i. names i ++ ends_of by (written i)) ∙ to_commit-same (done ++ c ∷ []) by (put_bytes (done ++ c ∷ [])) same

-- ---- all of them

-- contents stand as bytes, and a cut has no pages
abbrev is_plain : Change → Bool
is_plain (Make node parent kind name) = true
is_plain (Put node offset contents) = is_whole contents
is_plain (Cut node size pages) = is_empty_list pages
is_plain (Move node parent name) = true
is_plain (Drop node) = true

-- such changes alone apply
plain-changes : (tree : Tree) (cs : List Change) → changes_apply tree cs ≡ true → list_all is_plain cs ≡ true
plain-changes tree [] all = refl
plain-changes tree (c ∷ cs) all =
    let parts = and_parts (applies tree c) (changes_apply (changed tree c) cs) all in
    and_from _ _ (go c parts.0) (plain-changes (changed tree c) cs parts.1)
  where
    go : (c : Change) → applies tree c ≡ true → is_plain c ≡ true
    go (Make node parent kind name) is = refl
    go (Put node offset contents) is = (and_parts (is_file tree node) (is_whole contents) is).1
    go (Cut node size pages) is = (and_parts (is_file tree node) (is_empty_list pages) is).1
    go (Move node parent name) is = refl
    go (Drop node) is = refl

-- where there are none the list is empty
no-pages : (pages : List ℕ) → is_empty_list pages ≡ true → pages ≡ []
no-pages [] is = refl
no-pages (p ∷ pages) is = absurd (true≢false (sym is))

-- bytes of later files give this one none
puts-above : (least : ℕ) (cut : Option ℕ) (bs : List Change) → are_final_bytes least cut bs ≡ true → (f : ℕ) (bytes : List ℕ) → f < least → (cut ≡ Some f → ⊥) → fold (put_into f) bytes bs ≡ bytes
puts-above least cut [] final f bytes low other = refl
puts-above least cut (Cut node size pages ∷ bs) final f bytes low other =
    let parts = and_parts (nat_le least node && size == 0) (are_final_bytes (node + 1) (Some node) bs) final in
    let high = leb-true least node (and_parts (nat_le least node) (size == 0) parts.0).0 in
    rw (ne_eqb node f (λ e. omega (arith, e, high, low)))
    (puts-above (node + 1) (Some node) bs parts.1 f bytes (omega (arith, high, low)) (λ e. let same = same_Some node f e in omega (arith, same, high, low)))
puts-above least cut (Put node offset contents ∷ bs) final f bytes low other =
    let parts = and_parts (was_cut cut node && offset == 0) (are_final_bytes least None bs) final in
    let this = was-cut cut node (and_parts (was_cut cut node) (offset == 0) parts.0).0 in
    rw (ne_eqb node f (λ e. other (this ∙ ap Some e))) (puts-above least None bs parts.1 f bytes low (λ none. none-some f none))
puts-above least cut (Make node parent kind name ∷ bs) final f bytes low other = absurd (true≢false (sym final))
puts-above least cut (Move node parent name ∷ bs) final f bytes low other = absurd (true≢false (sym final))
puts-above least cut (Drop node ∷ bs) final f bytes low other = absurd (true≢false (sym final))

-- a file without bytes is given a cut alone at the end
cut-first : (by : ℕ → List ℕ) (node size : ℕ) (pages fs : List ℕ) (rest : List Change) → size ≡ 0 → pages ≡ [] → by node ≡ [] → ends_of by fs ≡ rest → ends_of by (node ∷ fs) ≡ Cut node size pages ∷ rest
cut-first by node size pages fs rest none empty given later =
    (λ i. final_bytes node (given i) ++ later i) ∙ (λ i. Cut node (sym none i) (sym empty i) ∷ rest)

-- a file with bytes is given a cut and the bytes behind it at the end
put-first : (by : ℕ → List ℕ) (node size : ℕ) (pages : List ℕ) (other offset b : ℕ) (bytes fs : List ℕ) (rest : List Change) → size ≡ 0 → pages ≡ [] → node ≡ other → offset ≡ 0 → by node ≡ b ∷ bytes → ends_of by fs ≡ rest
    → ends_of by (node ∷ fs) ≡ Cut node size pages ∷ Put other offset (Whole (b ∷ bytes)) ∷ rest
put-first by node size pages other offset b bytes fs rest none empty same nought given later =
    (λ i. final_bytes node (given i) ++ later i) ∙ (λ i. Cut node (sym none i) (sym empty i) ∷ Put (same i) (sym nought i) (Whole (b ∷ bytes)) ∷ rest)

-- nothing in both cases
none-either : (b : Bool) → ◌≡◌ {A = List ℕ} (if b then [] else []) []
none-either true = refl
none-either false = refl

-- bytes at the end are those that they give
given-back : (least : ℕ) (bs : List Change) (by : ℕ → List ℕ) → are_final_bytes least None bs ≡ true → list_all puts_some bs ≡ true → list_all is_plain bs ≡ true
    → ((f : ℕ) → IsIn f (cut_files bs) → by f ≡ fold (put_into f) [] bs) → ends_of by (cut_files bs) ≡ bs
given-back least [] by final puts plain is = refl
given-back least (Make node parent kind name ∷ bs) by final puts plain is = absurd (true≢false (sym final))
given-back least (Put node offset contents ∷ bs) by final puts plain is = absurd (true≢false (sym final))
given-back least (Move node parent name ∷ bs) by final puts plain is = absurd (true≢false (sym final))
given-back least (Drop node ∷ bs) by final puts plain is = absurd (true≢false (sym final))
given-back least (Cut node size pages ∷ []) by final puts plain is =
    let parts = and_parts (nat_le least node && size == 0) true final in
    let none = eqb-true size 0 (and_parts (nat_le least node) (size == 0) parts.0).1 in
    let empty = no-pages pages (and_parts (is_empty_list pages) true plain).0 in
    cut-first by node size pages [] [] none empty (is node (inl refl) ∙ none-either (node == node)) refl
given-back least (Cut node size pages ∷ Cut other size' pages' ∷ bs) by final puts plain is =
    let parts = and_parts (nat_le least node && size == 0) (are_final_bytes (node + 1) (Some node) (Cut other size' pages' ∷ bs)) final in
    let none = eqb-true size 0 (and_parts (nat_le least node) (size == 0) parts.0).1 in
    let plains = and_parts (is_empty_list pages) (list_all is_plain (Cut other size' pages' ∷ bs)) plain in
    let rest = Cut other size' pages' ∷ bs in
    cut-first by node size pages (cut_files rest) rest none (no-pages pages plains.0)
    (is node (inl refl) ∙ ap (λ b. fold (put_into node) b rest) (none-either (node == node)) ∙ puts-above (node + 1) None rest parts.1 node [] (omega arith) (λ none. none-some node none))
    (given-back (node + 1) (Cut other size' pages' ∷ bs) by parts.1 puts plains.1 (λ f there. is f (inr there) ∙ ap (λ b. fold (put_into f) b rest) (none-either (node == f))))
given-back least (Cut node size pages ∷ Put other offset (Whole (b ∷ bytes)) ∷ bs) by final puts plain is =
    let contents : Contents = Whole (b ∷ bytes) in
    let parts = and_parts (nat_le least node && size == 0) (are_final_bytes (node + 1) (Some node) (Put other offset contents ∷ bs)) final in
    let none = eqb-true size 0 (and_parts (nat_le least node) (size == 0) parts.0).1 in
    let put = and_parts (node == other && offset == 0) (are_final_bytes (node + 1) None bs) parts.1 in
    let both = and_parts (node == other) (offset == 0) put.0 in
    let same = eqb-true node other both.0 in
    let plains = and_parts (is_empty_list pages) (list_all is_plain bs) plain in
    let given : by node ≡ b ∷ bytes =
    is node (inl refl) ∙ ap (λ x. fold (put_into node) x bs) (rw (eq-eqb other node (sym same)) refl) ∙ puts-above (node + 1) None bs put.1 node (b ∷ bytes) (omega arith) (λ none. none-some node none) in
    put-first by node size pages other offset b bytes (cut_files bs) bs none (no-pages pages plains.0) same (eqb-true offset 0 both.1) given
    (given-back (node + 1) bs by put.1 puts plains.1 (λ f there.
    let high = (cuts-rise (node + 1) None bs put.1).1 f there in
    is f (inr there) ∙ ap (λ x. fold (put_into f) x bs) (rw (ne_eqb other f (λ e. omega (arith, same, e, high))) (none-either (node == f)))))
given-back least (Cut node size pages ∷ Put other offset (Whole []) ∷ bs) by final puts plain is = absurd (true≢false (sym puts))
given-back least (Cut node size pages ∷ Put other offset (Paged len p) ∷ bs) by final puts plain is = absurd (true≢false (sym (and_parts (is_empty_list pages) false plain).1))
given-back least (Cut node size pages ∷ Make other parent kind name ∷ bs) by final puts plain is = absurd (true≢false (sym (and_parts (nat_le least node && size == 0) false final).1))
given-back least (Cut node size pages ∷ Move other parent name ∷ bs) by final puts plain is = absurd (true≢false (sym (and_parts (nat_le least node && size == 0) false final).1))
given-back least (Cut node size pages ∷ Drop other ∷ bs) by final puts plain is = absurd (true≢false (sym (and_parts (nat_le least node && size == 0) false final).1))

-- what holds of all holds of the last of them
list_all-second : (test : Change → Bool) (xs ys : List Change) → list_all test (xs ++ ys) ≡ true → list_all test ys ≡ true
list_all-second test [] ys all = all
list_all-second test (x ∷ xs) ys all = list_all-second test xs ys (and_parts (test x) (list_all test (xs ++ ys)) all).1

-- recorded changes are in the form in which they are committed
pub recorded-final : (tree : Tree) (cs : List Change) → are_recorded_changes cs ≡ true → list_all puts_some cs ≡ true → changes_apply tree cs ≡ true → final_form cs ≡ cs
recorded-final tree cs recorded puts all =
    let s = split cs in
    let final : are_final_bytes 0 None s.bytes ≡ true = sym (ends-split s.names s.bytes s.are s.begins) ∙ ap ends_in_bytes s.is ∙ ends-recorded cs recorded in
    let gives = (and_parts (has_changes cs) (list_all (gives_bytes s.bytes) (written_files s.names)) (sym (recorded-split cs s.names s.bytes s.is s.are s.begins final) ∙ recorded)).1 in
    let bytes = all-bytes cs s.names s.bytes s.is s.are s.begins recorded in
    subst (λ (ds : List Change). final_form ds ≡ ds) s.is
    (go s.names s.bytes s.are final gives bytes
    (list_all-second puts_some s.names s.bytes (ap (list_all puts_some) s.is ∙ puts))
    (list_all-second is_plain s.names s.bytes (ap (list_all is_plain) s.is ∙ plain-changes tree cs all)))
  where
    go : (names bytes : List Change) → are_names names ≡ true → are_final_bytes 0 None bytes ≡ true → list_all (gives_bytes bytes) (written_files names) ≡ true → list_all changes_bytes bytes ≡ true
        → list_all puts_some bytes ≡ true → list_all is_plain bytes ≡ true → final_form (names ++ bytes) ≡ names ++ bytes
    go names bytes are final gives of_bytes puts plain =
        let by : ℕ → List ℕ = put_bytes (names ++ bytes) in
        let first : names_of (names ++ bytes) ≡ names =
        filter-append (λ d. not (changes_bytes d)) names bytes ∙ (λ i. names-all names are i ++ no-names bytes of_bytes i) ∙ append-nil names in
        let written = files-cut names bytes gives final in
        let last : ends_of by (cut_files bytes) ≡ bytes = given-back 0 bytes by final puts plain (λ f there. fold-append (put_into f) [] names bytes ∙ ap (λ b. fold (put_into f) b bytes) (names-put names f [] are)) in
        (λ i. first i ++ ends_of by (written i)) ∙ ap (λ bs. names ++ bs) last
