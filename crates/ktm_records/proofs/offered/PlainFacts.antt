-- What plain calls on files record applies, but for the limits.
use Rattle.std.specs.Prelude.{if◌then◌else◌}
use Rattle.std.proofs.Common.{◌≡◌, ℕ, Bool, true, false, List, [], ◌∷◌, Option, Some, None, refl, sym, ◌∙◌, ap, subst, inl, inr}
use Rattle.std.proofs.lemmas.Option.{none-some, same_Some}
use Rattle.ktm_base.specs.declared.id.Id.{Id}
use Rattle.ktm_base.specs.declared.id.Label.{Label}
use Rattle.ktm_base.specs.declared.id.Pid.{Pid}
use Rattle.ktm_world.specs.declared.change.Change.{Change}
use Rattle.ktm_world.specs.declared.change.Change.TheVariants.{Make, Put, Cut}
use Rattle.ktm_world.specs.declared.change.Contents.TheVariants.{Whole}
use Rattle.ktm_world.specs.declared.change.NodeKind.TheVariants.{File}
use Rattle.ktm_world.specs.declared.event.Event.TheVariants.{Plain}
use Rattle.ktm_world.specs.declared.options.Access.{Access}
use Rattle.ktm_world.specs.declared.options.Disposition.{Disposition}
use Rattle.ktm_world.specs.declared.options.ShareMode.{ShareMode}
use Rattle.ktm_world.specs.Conflicts.{writes}
use Rattle.ktm_world.specs.Decide.{bound_file, events_of, of_files, on_file, on_file_tests, opening, own_tests}
use Rattle.ktm_world.specs.FileCalls.{Whereabouts, no_path, no_way, free, at_root, at_node, find_path, conflict_test, create_act, create_at, create_file, create_file_tests, empties, is_at_directory, set_end, set_end_tests, write_file, write_units_tests}
use Rattle.ktm_world.specs.FileOutcome.{FileOutcome, FileRoom, changing, lacks_quota}
use Rattle.ktm_world.specs.Files.{OpenFile}
use Rattle.ktm_world.specs.Labels.{file_named}
use Rattle.ktm_world.specs.Lawful.{Agrees}
use Rattle.ktm_world.specs.Present.{Present}
use Rattle.ktm_world.specs.Uses.{file_room}
use Rattle.txf_laws.specs.Elements.{IsIn}
use Rattle.txf_laws.specs.Footprint.{ListsLaw}
use Rattle.txf_laws.specs.Formed.{FormedLaw}
use Rattle.ktm_records.specs.Kept.{facts_apply}
use Rattle.txf_laws.specs.PlainChange.{Lands}
use Rattle.txf_laws.specs.SoundFiles.{IsSoundFiles}
use Rattle.txf_laws.proofs.offered.ChangeTests.{applies-from}
use Rattle.txf_laws.proofs.offered.Elements.{not-not}
use Rattle.ktm_courses.proofs.offered.Calls.{Passes, passed}
use Rattle.ktm_records.proofs.Facts.{facts-one}
use Rattle.ktm_owned.proofs.offered.KeysKept.{not_refused}
use Rattle.ktm_owned.proofs.offered.Paths.{Leads, find_path-leads}
use Rattle.ktm_owned.proofs.offered.OpenCalls.{file-in, lands-emptied, lands-new, lands-written, own-passes}
use Rattle.ktm_owned.proofs.offered.PlainCalls.{some-from, IsPlain}
use Rattle.ktm_records.proofs.Recordings.{recordings_law}

-- what a call changes, if it changes anything, a plain call may commit
abbrev pub MayLand : Present → Option Change → Type 0
MayLand x o = (change : Change) → o ≡ Some change → Lands x change

pub lands-none : (x : Present) → MayLand x None
lands-none x change is = absurd (none-some change is)

pub lands-one : (x : Present) (change : Change) → Lands x change → MayLand x (Some change)
lands-one x change lands other is = subst (Lands x) (same_Some change other is) lands

-- a plain call that only answers, or commits one change, may commit what it changes
pub may-land : (x : Present) (o : FileOutcome) → IsPlain x o → MayLand x o.change
may-land x o (inl answers) change is = absurd (none-some change (sym (ap (λ (p : FileOutcome). p.change) answers) ∙ is))
may-land x o (inr (change, changes, lands)) other is = subst (Lands x) (same_Some change other (sym (ap (λ (p : FileOutcome). p.change) changes) ∙ is)) lands

-- what a call on files records applies
pub facts-of_files : (x : Present) (who : Option Id) (o : FileOutcome) → IsSoundFiles x → Agrees x → (who ≡ None → MayLand x o.change) → facts_apply x.recorded (of_files x who o).events ≡ true
facts-of_files x (Some id) o sound agrees lands = refl
facts-of_files x None o sound agrees lands = go o.change (lands refl)
  where
    go : (change : Option Change) → MayLand x change → facts_apply x.recorded (events_of None change) ≡ true
    go None lands' = refl
    go (Some change) lands' = facts-one x.recorded (Plain change) (recordings_law.plain x change sound agrees (lands' change refl))

pub facts-opening : (x : Present) (process : Pid) (label : Label) (who : Option Id) (o : FileOutcome) → facts_apply x.recorded (of_files x who o).events ≡ true → facts_apply x.recorded (opening x process label who o).events ≡ true
facts-opening x process label who o is = go o.opened
  where
    go : (opened : Option OpenFile) → facts_apply x.recorded (bound_file process label opened (of_files x who o)).events ≡ true
    go None = is
    go (Some file) = is

module _ (lists : ListsLaw) (formed : FormedLaw) (x : Present) (sound : IsSoundFiles x) where
  -- a call that only answers, or commits one change
  pub facts-plain : Agrees x → (o : FileOutcome) → IsPlain x o → facts_apply x.recorded (of_files x None o).events ≡ true
  facts-plain agrees o (inl answers) = ap (λ o. facts_apply x.recorded (of_files x None o).events) answers
  facts-plain agrees o (inr (change, changes, lands)) = ap (λ o. facts_apply x.recorded (of_files x None o).events) changes ∙ facts-of_files x None (changing change) sound agrees (λ plain. lands-one x change lands)

  -- ---- files

  create-lands : (room : FileRoom) (w : Whereabouts) (access : Access) (mode : ShareMode) (d : Disposition) → Leads x.files.tree w → is_at_directory w ≡ false → (conflict_test x.files None (create_act w access d)).0 ≡ false
      → lacks_quota x.files room None (create_at x.files None w access mode d) ≡ false → MayLand x (create_at x.files None w access mode d).change
  create-lands room (free directory name) access mode d leads file none fits = lands-one x (Make x.files.table.next_node directory File name) (lands-new lists formed x sound room directory name access mode d leads none fits)
  create-lands room (at_node node) access mode d leads file none fits = go (empties d) refl
    where
      go : (b : Bool) → empties d ≡ b → MayLand x (if b then Some (Cut node.number 0 []) else None)
      go false kept = lands-none x
      go true emptied = lands-one x (Cut node.number 0 []) (lands-emptied lists formed x sound node access d leads (some-from node.content file) none emptied)
  create-lands room no_path access mode d leads file none fits = lands-none x
  create-lands room no_way access mode d leads file none fits = lands-none x
  create-lands room at_root access mode d leads file none fits = lands-none x

  pub lands-created : (path : List ℕ) (access : Access) (mode : ShareMode) (d : Disposition) → Passes (create_file_tests x.files (file_room x) None path access mode d) → MayLand x (create_file x.files None path access mode d).change
  unfolding create_file create_file_tests
  lands-created path access mode d passes =
      let no = not_refused (create_file_tests x.files (file_room x) None path access mode d) passes.none in
      create-lands (file_room x) (find_path x.files.tree path) access mode d (find_path-leads x.files.tree sound.formed path)
      (no _ (inr (inr (inr (inr (inr (inl refl))))))) (no _ (inr (inr (inr (inr (inr (inr (inl refl)))))))) (no _ (inr (inr (inr (inr (inr (inr (inr (inr (inl refl))))))))))

  module _ (agrees : Agrees x) (process : Pid) (label : Label) where
    pub facts-write : (offset : ℕ) (bytes : List ℕ) → Passes (on_file_tests x process label (λ o. write_units_tests x.files (file_room x) o offset bytes)) → facts_apply x.recorded (on_file x (file_named x process label) (λ o. write_file o offset bytes)).events ≡ true
    unfolding write_file write_units_tests
    facts-write offset bytes passes = go (file_named x process label) refl (own-passes lists formed x process label _ passes)
      where
        put : (o : OpenFile) → IsIn o x.files.table.opens → writes o.access ≡ true → (bytes : List ℕ) → o.transaction ≡ None → MayLand x (write_file o offset bytes).change
        put o there may [] plain = lands-none x
        put o there may (b ∷ bs) plain = let c = Put o.node offset (Whole (b ∷ bs)) in lands-one x c (lands-written lists formed x sound o there may c refl refl (λ tree file. applies-from tree c (file, refl)) plain)

        go : (o : Option OpenFile) → file_named x process label ≡ o → Passes (own_tests o (λ o. write_units_tests x.files (file_room x) o offset bytes)) → facts_apply x.recorded (on_file x o (λ o. write_file o offset bytes)).events ≡ true
        go None found tests = refl
        go (Some o) found tests = facts-of_files x o.transaction (write_file o offset bytes) sound agrees (put o (file-in lists formed x process label o found) (not-not (writes o.access) (passed tests).0) bytes)

    pub facts-set_end : (size : ℕ) → Passes (on_file_tests x process label (λ o. set_end_tests x.files (file_room x) o size)) → facts_apply x.recorded (on_file x (file_named x process label) (λ o. set_end o size)).events ≡ true
    unfolding set_end set_end_tests
    facts-set_end size passes = go (file_named x process label) refl (own-passes lists formed x process label _ passes)
      where
        go : (o : Option OpenFile) → file_named x process label ≡ o → Passes (own_tests o (λ o. set_end_tests x.files (file_room x) o size)) → facts_apply x.recorded (on_file x o (λ o. set_end o size)).events ≡ true
        go None found tests = refl
        go (Some o) found tests = facts-of_files x o.transaction (set_end o size) sound agrees
            (λ plain. let c = Cut o.node size [] in lands-one x c (lands-written lists formed x sound o (file-in lists formed x process label o found) (not-not (writes o.access) (passed tests).0) c refl refl (λ tree file. applies-from tree c (file, refl)) plain))
