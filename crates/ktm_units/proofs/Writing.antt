-- A write of bytes comes to what a put of units comes to.
use Rattle.std.proofs.Common.{◌≡◌, ℕ, ◌≤◌, ◌||◌, not, Bool, true, false, List, [], ◌∷◌, ◌++◌, length, map, Option, Some, None, nat_lt, refl, sym, ◌∙◌, ap, subst, arith, inl, inr, le-ltb}
use Rattle.ktm_base.specs.declared.id.Id.{Id}
use Rattle.ktm_base.specs.declared.id.Label.{Label}
use Rattle.ktm_base.specs.declared.id.Pid.{Pid}
use Rattle.ktm_base.specs.declared.limits.TheConstants.{MOST_AT_ONCE}
use Rattle.ktm_base.specs.declared.refusal.Refusal.{Refusal}
use Rattle.ktm_base.specs.declared.refusal.Refusal.TheVariants.{DiskFull, InvalidParameter, MachineDown}
use Rattle.ktm_world.specs.declared.change.Change.{Change}
use Rattle.ktm_world.specs.declared.change.Change.TheVariants.{Put, Cut}
use Rattle.ktm_world.specs.declared.change.Contents.TheVariants.{Whole}
use Rattle.ktm_world.specs.declared.command.Command.{Command}
use Rattle.ktm_world.specs.declared.command.Command.TheVariants.{SetEndOfFile, WriteFile, WriteUnits}
use Rattle.ktm_world.specs.declared.reply.Reply.TheVariants.{Refused}
use Rattle.ktm_world.specs.Changes.{changes_bytes, node_of}
use Rattle.ktm_world.specs.Committed.{committed_with}
use Rattle.ktm_world.specs.Decide.{command_effect, decide, events_of, of_files, on_file, refusal_of}
use Rattle.ktm_world.specs.Durable.{Durable, after_events}
use Rattle.ktm_world.specs.FileCalls.{set_end, set_end_tests, write_access_test, write_file, write_file_tests, write_units_tests}
use Rattle.ktm_world.specs.FileOutcome.{FileOutcome, FileRoom, changing, files_after, lacks_disk, openings_of, table_after, works_of}
use Rattle.ktm_world.specs.FileUses.{nodes_used, units_used}
use Rattle.ktm_world.specs.Files.{FilesNow, OpenFile, bytes_seen, committed_files, first_open}
use Rattle.ktm_world.specs.Labels.{file_named, file_tests}
use Rattle.ktm_world.specs.Outcome.{Outcome, apply, committed_now, first_refusal, only_reply, refuse_or, served}
use Rattle.ktm_world.specs.Present.{Present}
use Rattle.ktm_world.specs.Tree.{bytes_of, cut_to, numbers_rise, put_over}
use Rattle.ktm_world.specs.Uses.{file_room}
use Rattle.txf_laws.proofs.offered.Elements.{filter-true}
use Rattle.ktm_mapped.specs.Mapped.{IsBlank, mapped_change, mapped_durable}
use Rattle.ktm_alike.specs.Alike.{mapped_files, mapped_present}
use Rattle.ktm_alike.specs.Laws.{AlikeLaw}
use Rattle.ktm_replaced.specs.Laws.{ReplacedLaw}
use Rattle.ktm_replaced.specs.Replaced.{AreAlike, LeaveAlike}
use Rattle.ktm_units.specs.Units.{AreEventsSame, IsRecordedTree, IsSameOutcome, LeavesSame, WritesSame}

-- ---- tests

-- a test that does not hold may stand among others
skip : (before : List (Bool × Refusal)) (refusal : Refusal) (rest : List (Bool × Refusal)) → first_refusal (before ++ (false, refusal) ∷ rest) ≡ first_refusal (before ++ rest)
skip [] refusal rest = refl
skip ((true, r) ∷ before) refusal rest = refl
skip ((false, r) ∷ before) refusal rest = skip before refusal rest

-- the disk is as full where the files are the same
lacks-same : (files : FilesNow) (room : FileRoom) (who : Option Id) (o p : FileOutcome) → files_after files who o ≡ files_after files who p → lacks_disk files room who o ≡ lacks_disk files room who p
unfolding lacks_disk
lacks-same files room who o p same = ap (λ (after : FilesNow). nat_lt room.units (units_used after) || nat_lt room.units (nodes_used after)) same

-- ---- what a call on files makes of what is so

store-same : (x : Present) (who : Option Id) (change : Option Change) → (committed_with (committed_now x) (works_of who change)).store ≡ x.keys.store
store-same x None None = refl
store-same x None (Some change) = refl
store-same x (Some id) change = refl

-- what is so where this was recorded, and the files are these
abbrev with_files : Present → Durable → FilesNow → Present
with_files x s files = record x { recorded = s; files = files; managers = map (served None []) (x.managers ++ []) }

-- what is committed of the files does not depend on the keys
tree-same : (x : Present) (who : Option Id) (change : Option Change) → (committed_with (committed_now x) (works_of who change)).tree ≡ (committed_with (committed_files x.files []) (works_of who change)).tree
tree-same x None None = refl
tree-same x None (Some change) = refl
tree-same x (Some id) change = refl

versions-same : (x : Present) (who : Option Id) (change : Option Change) → (committed_with (committed_now x) (works_of who change)).versions ≡ (committed_with (committed_files x.files []) (works_of who change)).versions
versions-same x None None = refl
versions-same x None (Some change) = refl
versions-same x (Some id) change = refl

files-of : (x : Present) (who : Option Id) (o : FileOutcome) → (apply x (of_files x who o)).files ≡ files_after x.files who o
files-of x who o i = record {
  tree = tree-same x who o.change i;
  versions = versions-same x who o.change i;
  first_opens = filter-true (x.files.first_opens ++ map (first_open (committed_files x.files [])) (openings_of who o.first)) i;
  table = table_after x.files who o;
}

apply-of_files : (x : Present) (who : Option Id) (o : FileOutcome) → apply x (of_files x who o) ≡ with_files x (after_events x.recorded (events_of who o.change)) (files_after x.files who o)
apply-of_files x who o i = record (with_files x (after_events x.recorded (events_of who o.change)) (files-of x who o i)) { keys = record { store = store-same x who o.change i; own = x.keys.own } }

events-same : (f : ℕ → ℕ) (who : Option Id) (c d : Change) → changes_bytes c ≡ true → changes_bytes d ≡ true → AreEventsSame f (events_of who (Some c)) (events_of who (Some d))
events-same f None c d first second = inr (record { puts = c; writes = d; events_are = refl; asked_are = refl; first = first; second = second })
events-same f (Some id) c d first second = inl refl

module _ (replaced : ReplacedLaw) (f : ℕ → ℕ) (blank : IsBlank f) (x : Present) (tree : IsRecordedTree x) where
  -- what is so with the bytes in the place of the places
  abbrev seen : Present
  seen = mapped_present f x

  -- ---- changes that are alike

  files-same : (who : Option Id) (c d : Change) → AreAlike f (bytes_seen x.files who (node_of c)) c d → files_after seen.files who (changing d) ≡ mapped_files f (files_after x.files who (changing c))
  files-same None c d alike = let (trees, durables, files, uses, asked) = replaced f blank in files.plain x.files (changing c) (changing d) tree.rise (record { change = alike; first = refl; opened = refl })
  files-same (Some id) c d alike = let (trees, durables, files, uses, asked) = replaced f blank in files.own x.files id (changing c) (changing d) (record { change = alike; first = refl; opened = refl })

  recorded-same : (who : Option Id) (c d : Change) → AreAlike f (bytes_seen x.files who (node_of c)) c d
      → after_events seen.recorded (events_of who (Some d)) ≡ mapped_durable f (after_events x.recorded (events_of who (Some c)))
  recorded-same None c d alike =
      let (trees, durables, files, uses, asked) = replaced f blank in
      durables.made x.recorded c d (ap numbers_rise tree.recorded ∙ tree.rise) (subst (λ t. AreAlike f (bytes_of t (node_of c)) c d) (sym tree.recorded) alike)
  recorded-same (Some id) c d alike = refl

  of_files-same : (who : Option Id) (c d : Change) → changes_bytes c ≡ true → changes_bytes d ≡ true → AreAlike f (bytes_seen x.files who (node_of c)) c d → IsSameOutcome f x (of_files x who (changing c)) (of_files seen who (changing d))
  of_files-same who c d first second alike = record {
    reply = refl;
    leaves = record {
      comes_to =
          apply-of_files seen who (changing d)
          ∙ (λ i. with_files seen (recorded-same who c d alike i) (files-same who c d alike i))
          ∙ sym (ap (mapped_present f) (apply-of_files x who (changing c)));
      events = events-same f who c d first second;
    };
  }

  on_file-same : (o : OpenFile) (named : Option OpenFile) (call asked : OpenFile → FileOutcome) (c d : Change) → named ≡ Some o → call o ≡ changing c → asked o ≡ changing d → changes_bytes c ≡ true → changes_bytes d ≡ true
      → AreAlike f (bytes_seen x.files o.transaction (node_of c)) c d → IsSameOutcome f x (on_file x named call) (on_file seen named asked)
  on_file-same o named call asked c d is makes asks first second alike = rw is (rw makes (rw asks (of_files-same o.transaction c d first second alike)))

  -- ---- refused or not

  module _ (alike-law : AlikeLaw) where
    answers-same : (r : Option Refusal) (e asked : Outcome) → IsSameOutcome f x e asked → IsSameOutcome f x (refuse_or x r e) (refuse_or seen r asked)
    answers-same None e asked same = same
    answers-same (Some refusal) e asked same = record {
      reply = refl;
      leaves = record { comes_to = (alike-law f blank).1.applied x (only_reply x (Refused refusal)); events = inl refl };
    }

    -- the tests of an open file, of which the last tells whether the disk is too full
    tests-same : (before : List (Bool × Refusal)) (o : OpenFile) (c d e : Change) → AreAlike f (bytes_seen x.files o.transaction (node_of c)) c d → AreAlike f (bytes_seen x.files o.transaction (node_of c)) c e
        → first_refusal (before ++ write_access_test o ∷ (lacks_disk seen.files (file_room seen) o.transaction (changing d), DiskFull) ∷ [])
        ≡ first_refusal (before ++ write_access_test o ∷ (lacks_disk seen.files (file_room seen) o.transaction (changing e), DiskFull) ∷ [])
    tests-same before o c d e one other = ap (λ lacks. first_refusal (before ++ write_access_test o ∷ (lacks, DiskFull) ∷ []))
        (lacks-same seen.files (file_room seen) o.transaction (changing d) (changing e) (files-same o.transaction c d one ∙ sym (files-same o.transaction c e other)))

    module _ (process : Pid) (file : Label) (o : OpenFile) (named : file_named x process file ≡ Some o) where
      -- what is tested before
      abbrev tested : List (Bool × Refusal)
      tested = (not x.machine.is_up, MachineDown) ∷ file_tests seen process file

      module _ (start k : ℕ) (ks : List ℕ) where
        -- the units that are put
        abbrev put : Change
        put = Put o.node start (Whole (k ∷ ks))

        -- putting their bytes is refused for the same
        units-refused : first_refusal (tested ++ write_access_test o ∷ (lacks_disk seen.files (file_room seen) o.transaction (changing (mapped_change f put)), DiskFull) ∷ []) ≡ refusal_of x process (WriteUnits file start (k ∷ ks))
        unfolding write_units_tests write_file
        units-refused = sym (rw named refl) ∙ (alike-law f blank).0.refused x process (WriteUnits file start (k ∷ ks))

        -- what leaves the same bytes, and is tested for the same, comes to the same
        changes-same : (d : Change) → LeaveAlike f (bytes_seen x.files o.transaction o.node) put d → (asked : Command) (call : OpenFile → FileOutcome) → call o ≡ changing d
            → command_effect seen process asked ≡ on_file seen (file_named x process file) call
            → refusal_of seen process asked ≡ first_refusal (tested ++ write_access_test o ∷ (lacks_disk seen.files (file_room seen) o.transaction (changing d), DiskFull) ∷ [])
            → IsSameOutcome f x (decide x process (WriteUnits file start (k ∷ ks))) (decide seen process asked)
        unfolding write_file
        changes-same d alike asked call makes effect refused = rw refused (rw effect (rw (tests-same tested o put d (mapped_change f put) (inr alike) (inl refl) ∙ units-refused)
            (answers-same (refusal_of x process (WriteUnits file start (k ∷ ks))) _ _
            (on_file-same o (file_named x process file) (λ o. write_file o start (k ∷ ks)) call put d named refl makes refl alike.second (inr alike)))))

        write-refused : (offset b : ℕ) (bs : List ℕ) → length (b ∷ bs) ≤ MOST_AT_ONCE → refusal_of seen process (WriteFile file offset (b ∷ bs))
            ≡ first_refusal (tested ++ (false, InvalidParameter) ∷ write_access_test o ∷ (lacks_disk seen.files (file_room seen) o.transaction (changing (Put o.node offset (Whole (b ∷ bs)))), DiskFull) ∷ [])
        unfolding write_units_tests write_file_tests write_file
        write-refused offset b bs few = rw named (rw (le-ltb MOST_AT_ONCE (length (b ∷ bs)) few) refl)

        write-same : (offset b : ℕ) (bs : List ℕ) → length (b ∷ bs) ≤ MOST_AT_ONCE
            → map f (put_over (bytes_seen x.files o.transaction o.node) start (k ∷ ks)) ≡ put_over (map f (bytes_seen x.files o.transaction o.node)) offset (b ∷ bs)
            → IsSameOutcome f x (decide x process (WriteUnits file start (k ∷ ks))) (decide seen process (WriteFile file offset (b ∷ bs)))
        unfolding write_units_tests write_file_tests write_file
        write-same offset b bs few result =
            changes-same (Put o.node offset (Whole (b ∷ bs))) (record { first = refl; second = refl; node = refl; first_whole = refl; second_whole = refl; result = result })
            (WriteFile file offset (b ∷ bs)) (λ o. write_file o offset (b ∷ bs)) refl refl (write-refused offset b bs few ∙ skip tested InvalidParameter (write_access_test o ∷ (lacks_disk seen.files (file_room seen) o.transaction (changing (Put o.node offset (Whole (b ∷ bs)))), DiskFull) ∷ []))

        grow-same : (size : ℕ) → map f (put_over (bytes_seen x.files o.transaction o.node) start (k ∷ ks)) ≡ cut_to (map f (bytes_seen x.files o.transaction o.node)) size
            → IsSameOutcome f x (decide x process (WriteUnits file start (k ∷ ks))) (decide seen process (SetEndOfFile file size))
        unfolding set_end_tests set_end
        grow-same size result =
            changes-same (Cut o.node size []) (record { first = refl; second = refl; node = refl; first_whole = refl; second_whole = refl; result = result })
            (SetEndOfFile file size) (λ o. set_end o size) refl refl (rw named refl)

      pub writes-same : WritesSame f x process file o
      writes-same = record {
        write = λ start offset contents bytes some any. by start offset contents bytes some any;
        grow = λ start size contents some. longer start size contents some;
      }
        where
          by : (start offset : ℕ) (contents bytes : List ℕ) → 1 ≤ length contents → 1 ≤ length bytes → length bytes ≤ MOST_AT_ONCE
              → map f (put_over (bytes_seen x.files o.transaction o.node) start contents) ≡ put_over (map f (bytes_seen x.files o.transaction o.node)) offset bytes
              → IsSameOutcome f x (decide x process (WriteUnits file start contents)) (decide seen process (WriteFile file offset bytes))
          by start offset [] bytes some any = absurd (omega (arith, some))
          by start offset (k ∷ ks) [] some any = absurd (omega (arith, any))
          by start offset (k ∷ ks) (b ∷ bs) some any = write-same start k ks offset b bs

          longer : (start size : ℕ) (contents : List ℕ) → 1 ≤ length contents
              → map f (put_over (bytes_seen x.files o.transaction o.node) start contents) ≡ cut_to (map f (bytes_seen x.files o.transaction o.node)) size
              → IsSameOutcome f x (decide x process (WriteUnits file start contents)) (decide seen process (SetEndOfFile file size))
          longer start size [] some = absurd (omega (arith, some))
          longer start size (k ∷ ks) some = grow-same start k ks size
