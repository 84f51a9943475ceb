-- What a transaction changed that is brought back, change after change.
use Rattle.std.proofs.Common.{◌≡◌, ℕ, ◌==◌, ◌&&◌, not, true, false, filter, List, [], ◌∷◌, ◌++◌, Some, refl, sym, ◌∙◌, ap, subst, arith, inl, inr}
use Rattle.std.specs.Prelude.{if◌then◌else◌}
use Rattle.std.specs.List.{list_all}
use Rattle.std.proofs.lemmas.Bool.{and_from, and_parts, cases_Bool, eq-eqb, eqb-true, eqb-false, ltb-true, not-true, true≢false}
use Rattle.std.proofs.lemmas.List.{append-nil}
use Rattle.std.proofs.lemmas.List.Sums.{fold-append}
use Rattle.ktm_base.specs.declared.id.Id.{Id}
use Rattle.ktm_world.specs.declared.change.Change.{Change}
use Rattle.ktm_world.specs.declared.change.Change.TheVariants.{Make, Put, Cut, Move, Drop}
use Rattle.ktm_world.specs.declared.change.NodeKind.TheVariants.{File, Directory}
use Rattle.ktm_world.specs.Changes.{applies, bytes_in, changed_all, changes_apply, has_made, is_empty_list, is_make, is_whole, next_after, node_of}
use Rattle.ktm_world.specs.Committed.{changes_to_commit, written_after, written_files}
use Rattle.ktm_world.specs.Durable.{are_recorded_changes}
use Rattle.ktm_world.specs.Files.{FilesNow, OwnChanges, bytes_after, bytes_seen, bytes_with, changes_with, first_bytes, fixed_bytes, first_open_of, own_changes, tree_seen, with_own_changes}
use Rattle.ktm_world.specs.Holds.{is_in}
use Rattle.ktm_world.specs.Transactions.{same_id}
use Rattle.ktm_world.specs.Tree.{Tree, bytes_of, cut_to, put_over}
use Rattle.txf_durable.specs.Putting.{final_form, put_bytes}
use Rattle.txf_durable.specs.Recorded.{are_names}
use Rattle.txf_durable.proofs.offered.FinalForms.{IsNextOf, LeaveFiles, Next, form-next, names-all, names-put, put-with, recorded-final, recorded-next}
use Rattle.txf_laws.specs.Contents.{is_made_below}
use Rattle.txf_laws.specs.Elements.{IsIn}
use Rattle.txf_laws.specs.FileEffects.{forgotten}
use Rattle.txf_laws.specs.FinalChanges.{names_of}
use Rattle.txf_laws.specs.OwnChange.{owned}
use Rattle.txf_laws.proofs.offered.CommitsOfOthers.{IsIn-with_number, changes_apply-first}
use Rattle.txf_laws.proofs.offered.Elements.{IsIn-filter, list_all-at, list_any-at, list_any-from}
use Rattle.txf_laws.proofs.offered.NormalForms.{bytes-final, changes_apply-second, cut-none, ends-elsewhere, ends_of, filter-append, is_of_file, names-final, names-of-no-file, put-none}
use Rattle.txf_laws.proofs.offered.Tables.{same_id-from}
use Rattle.txf_tree.specs.UnitChanges.{CanBeMadeOver}
use Rattle.txf_volume.specs.Restoring.{CanBeRestored, begun, begun_own, files_restored}
use Rattle.txf_volume.proofs.OwnBytes.{after-one, after-other, one, one-bytes}
use Rattle.txf_volume.proofs.OwnTables.{own_changes-new}

-- ---- the list of what transactions changed

-- has the transaction changed nothing
abbrev pub Absent : List OwnChanges → Id → Type 0
Absent own id = (o : OwnChanges) → IsIn o own → same_id o.transaction id ≡ false

-- its changes are added at the end
pub with-first : (own : List OwnChanges) (id : Id) (cs : List Change) → Absent own id → with_own_changes own id cs ≡ own ++ record { transaction = id; changes = cs } ∷ []
with-first [] id cs absent = refl
with-first (o ∷ os) id cs absent = rw (absent o (inl refl)) (ap (λ l. o ∷ l) (with-first os id cs (λ p there. absent p (inr there))))

-- and changed there
with-last : (own : List OwnChanges) (id : Id) (cs ds : List Change) → Absent own id
    → with_own_changes (own ++ record { transaction = id; changes = cs } ∷ []) id ds ≡ own ++ record { transaction = id; changes = ds } ∷ []
with-last [] id cs ds absent = rw (same_id-from id id refl) refl
with-last (o ∷ os) id cs ds absent = rw (absent o (inl refl)) (ap (λ l. o ∷ l) (with-last os id cs ds (λ p there. absent p (inr there))))

-- a transaction that changed nothing has no changes
own-none : (own : List OwnChanges) (id : Id) → Absent own id → own_changes own id ≡ []
own-none [] id absent = refl
own-none (o ∷ os) id absent = rw (absent o (inl refl)) (own-none os id (λ p there. absent p (inr there)))

-- and those that are added are its own
own-last : (own : List OwnChanges) (id : Id) (cs : List Change) → Absent own id → own_changes (own ++ record { transaction = id; changes = cs } ∷ []) id ≡ cs
own-last own id cs absent = ap (λ os. own_changes os id) (sym (with-first own id cs absent)) ∙ own_changes-new own id cs

-- the others are as they were
others-left : (own : List OwnChanges) (id : Id) (cs : List Change) → filter (λ o. not (same_id o.transaction id)) (own ++ record { transaction = id; changes = cs } ∷ []) ≡ filter (λ o. not (same_id o.transaction id)) own
others-left own id cs = filter-append (λ o. not (same_id o.transaction id)) own (record { transaction = id; changes = cs } ∷ []) ∙ ap (λ l. filter (λ o. not (same_id o.transaction id)) own ++ l) (rw (same_id-from id id refl) refl) ∙ append-nil _

-- where taking its changes out leaves all, it has changed nothing
absent-fresh : (own : List OwnChanges) (id : Id) → filter (λ o. not (same_id o.transaction id)) own ≡ own → Absent own id
absent-fresh own id fresh o there = not-true _ (IsIn-filter (λ p. not (same_id p.transaction id)) own o (subst (IsIn o) (sym fresh) there)).1

-- ---- the bytes of one file

module _ (done : List Change) (f : ℕ) where
  -- of a file that they write
  pub there-bytes : (before : List ℕ) → IsIn f (written_files done) → bytes_after before f (final_form done) ≡ put_bytes done f
  there-bytes before there = bytes-final done (put_bytes done) before f there

  -- of one that they do not write
  none-bytes : is_in (written_files done) f ≡ false → bytes_after [] f (final_form done) ≡ []
  none-bytes none =
      ap (λ ds. bytes_of (changed_all (one f []) ds) f)
      (filter-append (is_of_file f) (names_of done) (ends_of (put_bytes done) (written_files done))
      ∙ (λ i. names-of-no-file f done i ++ ends-elsewhere (put_bytes done) (written_files done) f (λ there. true≢false (sym (list_any-from (λ m. m == f) (written_files done) f there (eq-eqb f f refl)) ∙ none)) i))
      ∙ one-bytes f []

  -- names alone give it none
  name-bytes : are_names done ≡ true → bytes_after [] f (final_form done) ≡ put_bytes done f
  name-bytes are = elim (cases_Bool (is_in (written_files done) f)) [
    | inl is ↦
        let at = list_any-at (λ m. m == f) (written_files done) is in
        there-bytes [] (subst (λ m. IsIn m (written_files done)) (eqb-true _ _ at.2) at.1)
    | inr none ↦ none-bytes none ∙ sym (names-put done f [] are)
  ]

  -- with one change more
  bytes-with : (c : Change) (before : List ℕ) → IsNextOf done c → (is_make c ≡ true → node_of c ≡ f → before ≡ []) → IsIn f (written_after (written_files done) c)
      → bytes_after before f (final_form done ++ c ∷ []) ≡ put_bytes (done ++ c ∷ []) f
  bytes-with (Make node parent File name) before is empty there =
      after-other before f (final_form done) (Make node parent File name) refl
      ∙ elim (IsIn-with_number (written_files done) node f there) [
        | inl old ↦ there-bytes before old
        | inr e ↦ ap (λ b. bytes_after b f (final_form done)) (empty refl e) ∙ name-bytes is
      ]
      ∙ sym (put-with done (Make node parent File name) f)
  bytes-with (Make node parent Directory name) before is empty there =
      after-other before f (final_form done) (Make node parent Directory name) refl ∙ there-bytes before there ∙ sym (put-with done (Make node parent Directory name) f)
  bytes-with (Put node offset contents) before is empty there =
      let old : IsIn f (written_files done) = elim (IsIn-with_number (written_files done) node f there) [ inl old ↦ old | inr e ↦ subst (λ m. IsIn m (written_files done)) e is.2 ] in
      elim (cases_Bool (node == f)) [
        | inl same ↦
            after-one before f (final_form done) (Put node offset contents) same
            ∙ (λ i. put_over (there-bytes before old i) (is.0 i) (bytes_in contents))
            ∙ put-none (put_bytes done f) (bytes_in contents) (ap (put_bytes done) (sym (eqb-true node f same)) ∙ is.1)
            ∙ sym (put-with done (Put node offset contents) f ∙ rw same refl)
        | inr other ↦ after-other before f (final_form done) (Put node offset contents) other ∙ there-bytes before old ∙ sym (put-with done (Put node offset contents) f ∙ rw other refl)
      ]
  bytes-with (Cut node size pages) before is empty there = elim (cases_Bool (node == f)) [
    | inl same ↦
        after-one before f (final_form done) (Cut node size pages) same
        ∙ ap (cut_to (bytes_after before f (final_form done))) is.0
        ∙ cut-none (bytes_after before f (final_form done))
        ∙ sym (put-with done (Cut node size pages) f ∙ rw same refl)
    | inr other ↦
        let old : IsIn f (written_files done) = elim (IsIn-with_number (written_files done) node f there) [ inl old ↦ old | inr e ↦ absurd (eqb-false node f other e) ] in
        after-other before f (final_form done) (Cut node size pages) other ∙ there-bytes before old ∙ sym (put-with done (Cut node size pages) f ∙ rw other refl)
  ]
  bytes-with (Move node parent name) before is empty there =
      after-other before f (final_form done) (Move node parent name) refl ∙ there-bytes before there ∙ sym (put-with done (Move node parent name) f)
  bytes-with (Drop node) before is empty there =
      after-other before f (final_form done) (Drop node) refl ∙ there-bytes before (IsIn-filter (λ m. not (m == node)) (written_files done) f there).0 ∙ sym (put-with done (Drop node) f)

-- ---- one change more

-- what is made at the last is among what is made
made-last : (cs : List Change) (c : Change) (n : ℕ) → is_make c ≡ true → node_of c ≡ n → has_made (cs ++ c ∷ []) n ≡ true
made-last cs c n make same = list_any-from (λ d. is_make d && node_of d == n) (cs ++ c ∷ []) c (last cs) (and_from _ _ make (eq-eqb (node_of c) n same))
  where
    last : (ds : List Change) → IsIn c (ds ++ c ∷ [])
    last [] = inl refl
    last (d ∷ ds) = inr (last ds)

-- a node below the next number leaves that
next-same : (next : ℕ) (c : Change) → is_made_below next c ≡ true → next_after next c ≡ next
next-same next (Make node parent kind name) below = let low = ltb-true node next below in omega (arith, low)
next-same next (Put node offset contents) below = refl
next-same next (Cut node size pages) below = refl
next-same next (Move node parent name) below = refl
next-same next (Drop node) below = refl

-- a change that applies behind the changes so far applies to the names that they make
applies-names : (tree : Tree) (done : List Change) (c : Change) → IsNextOf done c → LeaveFiles done → changes_apply tree done ≡ true → applies (changed_all tree done) c ≡ true → applies (changed_all tree (names_of done)) c ≡ true
applies-names tree done (Make node parent kind name) is files all apply = ap (λ ds. applies (changed_all tree ds) (Make node parent kind name)) (names-all done is) ∙ apply
applies-names tree done (Put node offset contents) is files all apply = ap (λ b. b && is_whole contents) (sym (files tree all node)) ∙ apply
applies-names tree done (Cut node size pages) is files all apply = ap (λ b. b && is_empty_list pages) (sym (files tree all node)) ∙ apply
applies-names tree done (Move node parent name) is files all apply = ap (λ ds. applies (changed_all tree ds) (Move node parent name)) (names-all done is) ∙ apply
applies-names tree done (Drop node) is files all apply = ap (λ ds. applies (changed_all tree ds) (Drop node)) (names-all done is) ∙ apply

module _ (files : FilesNow) (id : Id) (changes : List Change) (can : CanBeRestored files id changes) where
  pub absent : Absent files.table.own id
  absent = absent-fresh files.table.own id (ap (λ (f : FilesNow). f.table.own) can.fresh)

  -- what the transaction has so far
  pub own-begun : (done : List Change) → own_changes (begun files id done).table.own id ≡ final_form done
  own-begun [] = own-none files.table.own id absent
  own-begun (c ∷ cs) = own-last files.table.own id (final_form (c ∷ cs)) absent

  -- and without it all is as it was
  pub begun-left : (done : List Change) → forgotten (begun files id done) id ≡ files
  begun-left [] = can.fresh
  begun-left (c ∷ cs) =
      (λ i. record files {
        first_opens = filter (λ o. not (same_id o.transaction id)) files.first_opens;
        table = record (forgotten files id).table { own = others-left files.table.own id (final_form (c ∷ cs)) i };
      })
      ∙ can.fresh

  -- its changes take the place of what it has so far
  with-begun : (done ds : List Change) → with_own_changes (begun files id done).table.own id ds ≡ files.table.own ++ record { transaction = id; changes = ds } ∷ []
  with-begun [] ds = with-first files.table.own id ds absent
  with-begun (c ∷ cs) ds = with-last files.table.own id (final_form (c ∷ cs)) ds absent

  -- those of one change more are the only ones then
  own-longer : (done : List Change) (c : Change) → files.table.own ++ record { transaction = id; changes = final_form (done ++ c ∷ []) } ∷ [] ≡ begun_own files.table.own id (done ++ c ∷ [])
  own-longer [] c = refl
  own-longer (d ∷ ds) c = refl

  -- all of them are its own at the end
  pub begun-all : begun files id changes ≡ files_restored files id changes
  begun-all = go changes can.recorded (recorded-final files.tree changes can.recorded can.puts can.apply)
    where
      go : (cs : List Change) → are_recorded_changes cs ≡ true → final_form cs ≡ cs → begun files id cs ≡ files_restored files id cs
      go [] recorded final = absurd (true≢false (sym recorded))
      go (c ∷ cs) recorded final = ap (files_restored files id) final

  module _ (done : List Change) (c : Change) (rest : List Change) (all : done ++ c ∷ rest ≡ changes) where
    -- the change comes next
    next : Next done c
    next = recorded-next done c rest (ap are_recorded_changes all ∙ can.recorded)

    -- it applies with all the others
    apply-both : changes_apply files.tree (done ++ c ∷ rest) ≡ true
    apply-both = ap (changes_apply files.tree) all ∙ can.apply

    -- a node that it makes is below the next number
    below : is_made_below files.table.next_node c ≡ true
    below = list_all-at (is_made_below files.table.next_node) (done ++ c ∷ rest) (ap (list_all (is_made_below files.table.next_node)) all ∙ can.made) c (there done)
      where
        there : (ds : List Change) → IsIn c (ds ++ c ∷ rest)
        there [] = inl refl
        there (d ∷ ds) = inr (there ds)

    -- the next change applies to what the transaction sees
    pub applies-next : applies (tree_seen (begun files id done) (Some id)) c ≡ true
    applies-next =
        ap (λ own. applies (changed_all files.tree (names_of own)) c) (own-begun done)
        ∙ ap (λ ds. applies (changed_all files.tree ds) c) (names-final done (put_bytes done))
        ∙ applies-names files.tree done c next.is next.files (changes_apply-first files.tree done (c ∷ rest) apply-both)
        (and_parts (applies (changed_all files.tree done) c) _ (changes_apply-second files.tree done (c ∷ rest) apply-both)).0

    -- it can be made unit by unit: contents come first in their file
    pub units-next : CanBeMadeOver (bytes_seen (begun files id done) (Some id)) c
    units-next = go c next.is
      where
        -- what the transaction sees of a file that they write
        seen : (f : ℕ) → IsIn f (written_files done) → bytes_seen (begun files id done) (Some id) f ≡ put_bytes done f
        seen f there =
            let own = own_changes (begun files id done).table.own id in
            ap (λ cs. bytes_after (first_bytes (begun files id done) id own f) f cs) (own-begun done) ∙ there-bytes done f (first_bytes (begun files id done) id own f) there

        go : (d : Change) → IsNextOf done d → CanBeMadeOver (bytes_seen (begun files id done) (Some id)) d
        go (Make node parent kind name) is = tt
        go (Put node offset contents) is = rw (seen node is.2 ∙ is.1, is.0) (record { begins = refl; reaches = omega arith; ends = inr (omega arith) })
        go (Cut node size pages) is = rw is.0 (omega arith)
        go (Move node parent name) is = tt
        go (Drop node) is = tt

    -- with it the changes have the form in which they are committed
    form-with : changes_with (begun files id done) id c ≡ final_form (done ++ c ∷ [])
    form-with =
        ap (λ own. changes_to_commit (own ++ c ∷ []) (bytes_with (begun files id done) id (own ++ c ∷ []))) (own-begun done)
        ∙ form-next done c (bytes_with (begun files id done) id (final_form done ++ c ∷ [])) (λ f there.
        bytes-with done f c (first_bytes (begun files id done) id (final_form done ++ c ∷ []) f) next.is
        (λ make same. ap (λ b. if b then [] else fixed_bytes files f (first_open_of files.first_opens id f)) (made-last (final_form done) c f make same))
        (subst (IsIn f) (fold-append written_after [] done (c ∷ [])) there))

    -- with it the transaction has one more of its changes
    pub owned-next : owned (begun files id done) id c ≡ begun files id (done ++ c ∷ [])
    owned-next = λ i. record files {
      table = record files.table {
        own = (with-begun done (changes_with (begun files id done) id c) ∙ ap (λ cs. files.table.own ++ record { transaction = id; changes = cs } ∷ []) form-with ∙ own-longer done c) i;
        next_node = next-same files.table.next_node c below i;
      };
    }
