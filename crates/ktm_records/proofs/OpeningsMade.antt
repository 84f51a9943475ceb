-- What may be relied on of a call that opens a file.
use Rattle.std.proofs.Common.{◌≡◌, ℕ, ◌+◌, ◌<◌, ◌≤◌, ◌^◌, ◌||◌, Bool, true, false, is_some, if◌then◌else◌, List, [], Option, Some, None, refl, sym, subst, arith, inl, inr}
use Rattle.std.proofs.lemmas.Bool.{or_parts, ltb-false, true≢false}
use Rattle.std.proofs.lemmas.Option.{none-some, same_Some}
use Rattle.std.specs.Prelude.{nat_lt}
use Rattle.ktm_base.specs.declared.limits.TheConstants.{MOST_NUMBER, END_OF_NODES}
use Rattle.ktm_base.specs.declared.id.Id.{Id}
use Rattle.ktm_world.specs.declared.change.Change.{Change}
use Rattle.ktm_world.specs.declared.change.Change.TheVariants.{Cut}
use Rattle.ktm_world.specs.declared.options.Access.{Access}
use Rattle.ktm_world.specs.declared.options.Disposition.{Disposition}
use Rattle.ktm_world.specs.declared.options.ShareMode.{ShareMode}
use Rattle.ktm_world.specs.declared.recorded.Node.{Node}
use Rattle.ktm_world.specs.declared.reply.Reply.TheVariants.{Done}
use Rattle.ktm_world.specs.Changes.{applies, is_make, node_of, has_made}
use Rattle.ktm_world.specs.FileCalls.{Whereabouts, no_path, no_way, free, at_root, at_node, find_path, conflict_test, create_act, create_at, create_file, create_file_tests, empties, is_at_directory}
use Rattle.ktm_world.specs.FileOutcome.{FileOutcome, FileRoom, files_after, lacks_quota}
use Rattle.ktm_world.specs.Files.{FilesNow, FirstOpen, OpenFile, first_open_of, own_changes, tree_seen}
use Rattle.ktm_world.specs.Present.{Present}
use Rattle.ktm_world.specs.Tree.{is_file}
use Rattle.ktm_world.specs.Uses.{file_room}
use Rattle.ktm_records.specs.FileCallsMade.{IsRightCall}
use Rattle.txf_laws.specs.Footprint.{ListsLaw}
use Rattle.txf_laws.specs.Formed.{FormedLaw}
use Rattle.txf_laws.specs.SoundFiles.{IsSoundFiles, is_undecided_in}
use Rattle.ktm_courses.proofs.offered.Calls.{Passes}
use Rattle.ktm_records.proofs.CallsMade.{IsNextOpen, opens-none, right-answer, right-own, right-plain}
use Rattle.ktm_owned.proofs.offered.KeysKept.{not_refused}
use Rattle.ktm_owned.proofs.offered.Paths.{Leads, find_path-leads}
use Rattle.ktm_owned.proofs.offered.OpenCalls.{cut-applies, owns-new}
use Rattle.ktm_owned.proofs.offered.PlainCalls.{file-at, some-from}
use Rattle.ktm_records.proofs.offered.PlainFacts.{lands-created}
use Rattle.ktm_owned.proofs.offered.SeenFiles.{committed-file, seen-formed}

-- the numbers of open files have not come to their end
pub enough-opens : (files : FilesNow) (room : FileRoom) (who : Option Id) (o : FileOutcome) → lacks_quota files room who o ≡ false → (files_after files who o).table.last_open ≤ MOST_NUMBER
unfolding lacks_quota
enough-opens files room who o fits = ltb-false _ _ (or_parts _ (nat_lt MOST_NUMBER (files_after files who o).table.last_open) (or_parts _ (nat_lt END_OF_NODES (files_after files who o).table.next_node) fits).0).1

-- what is opened has the next number
created-open : (x : Present) (room : FileRoom) (who : Option Id) (w : Whereabouts) (access : Access) (mode : ShareMode) (d : Disposition) → lacks_quota x.files room who (create_at x.files who w access mode d) ≡ false
    → IsNextOpen x who (create_at x.files who w access mode d).opened
created-open x room who (free directory name) access mode d fits = λ p is.
    subst (λ (p : OpenFile). (p.transaction ≡ who) × (p.number ≡ x.files.table.last_open + 1) × (p.number < 2 ^ 32)) (same_Some _ p is)
    (refl, refl, (let few = enough-opens x.files room who (create_at x.files who (free directory name) access mode d) fits in omega (arith, few)))
created-open x room who (at_node node) access mode d fits = λ p is.
    subst (λ (p : OpenFile). (p.transaction ≡ who) × (p.number ≡ x.files.table.last_open + 1) × (p.number < 2 ^ 32)) (same_Some _ p is)
    (refl, refl, (let few = enough-opens x.files room who (create_at x.files who (at_node node) access mode d) fits in omega (arith, few)))
created-open x room who no_path access mode d fits = opens-none x who
created-open x room who no_way access mode d fits = opens-none x who
created-open x room who at_root access mode d fits = opens-none x who

module _ (lists : ListsLaw) (formed : FormedLaw) (x : Present) (sound : IsSoundFiles x) where
  -- plain
  opened-plain : (path : List ℕ) (access : Access) (mode : ShareMode) (d : Disposition) → Passes (create_file_tests x.files (file_room x) None path access mode d) → IsNextOpen x None (create_file x.files None path access mode d).opened
  unfolding create_file create_file_tests
  opened-plain path access mode d passes =
      created-open x (file_room x) None (find_path x.files.tree path) access mode d (not_refused (create_file_tests x.files (file_room x) None path access mode d) passes.none _ (inr (inr (inr (inr (inr (inr (inr (inr (inl refl))))))))))

  pub right-created : (path : List ℕ) (access : Access) (mode : ShareMode) (d : Disposition) → Passes (create_file_tests x.files (file_room x) None path access mode d) → IsRightCall x None (create_file x.files None path access mode d)
  right-created path access mode d passes = right-plain lists x sound (create_file x.files None path access mode d) (lands-created lists formed x sound path access mode d passes) (opened-plain path access mode d passes)

  -- in a transaction
  module _ (id : Id) (who : is_undecided_in x.transactions.items id ≡ true) where
    abbrev IsOwnChange : Change → Type 0
    IsOwnChange c = (applies (tree_seen x.files (Some id)) c ≡ true) × (is_make c ≡ true → node_of c ≡ x.files.table.next_node)

    abbrev IsFirst : ℕ → Type 0
    IsFirst file = (first_open_of x.files.first_opens id file ≡ None) × (is_file x.files.tree file ≡ true)

    -- a file that is there may be emptied
    emptied : (node : Node) → is_file (tree_seen x.files (Some id)) node.number ≡ true → (b : Bool) (c : Change) → (if b then Some (Cut node.number 0 []) else None) ≡ Some c → IsOwnChange c
    emptied node file false c is = absurd (none-some c is)
    emptied node file true c is = subst IsOwnChange (same_Some (Cut node.number 0 []) c is) (cut-applies (tree_seen x.files (Some id)) node.number file, λ make. absurd (true≢false (sym make)))

    -- it is opened first, where the transaction neither made it nor opened it before
    opened-first : (node : Node) → is_file (tree_seen x.files (Some id)) node.number ≡ true → (b : Bool) → (has_made (own_changes x.files.table.own id) node.number || is_some (first_open_of x.files.first_opens id node.number)) ≡ b
        → (file : ℕ) → (if b then None else Some node.number) ≡ Some file → IsFirst file
    opened-first node file true known n is = absurd (none-some n is)
    opened-first node file false new n is =
        let parts = or_parts (has_made (own_changes x.files.table.own id) node.number) (is_some (first_open_of x.files.first_opens id node.number)) new in
        subst IsFirst (same_Some node.number n is) (none-of (first_open_of x.files.first_opens id node.number) parts.1, committed-file formed x sound id node.number parts.0 file)
      where
        none-of : (o : Option FirstOpen) → is_some o ≡ false → o ≡ None
        none-of None is = refl
        none-of (Some f) is = absurd (true≢false is)

    create-right : (room : FileRoom) (w : Whereabouts) (access : Access) (mode : ShareMode) (d : Disposition) → Leads (tree_seen x.files (Some id)) w → is_at_directory w ≡ false → (conflict_test x.files (Some id) (create_act w access d)).0 ≡ false
        → lacks_quota x.files room (Some id) (create_at x.files (Some id) w access mode d) ≡ false → IsRightCall x (Some id) (create_at x.files (Some id) w access mode d)
    create-right room (free directory name) access mode d leads is none fits =
        let owns = owns-new lists formed x sound id who room directory name access mode d leads none fits in
        right-own x id (create_at x.files (Some id) (free directory name) access mode d) (λ c same. subst IsOwnChange (same_Some _ c same) (owns.applies, owns.fresh)) (λ file none'. absurd (none-some file none'))
        (created-open x room (Some id) (free directory name) access mode d fits)
    create-right room (at_node node) access mode d leads is none fits =
        let file = file-at (tree_seen x.files (Some id)) node leads.0 (some-from node.content is) in
        right-own x id (create_at x.files (Some id) (at_node node) access mode d) (emptied node file (empties d))
        (opened-first node file (has_made (own_changes x.files.table.own id) node.number || is_some (first_open_of x.files.first_opens id node.number)) refl)
        (created-open x room (Some id) (at_node node) access mode d fits)
    create-right room no_path access mode d leads is none fits = right-answer x (Some id) Done
    create-right room no_way access mode d leads is none fits = right-answer x (Some id) Done
    create-right room at_root access mode d leads is none fits = right-answer x (Some id) Done

    pub right-created-own : (path : List ℕ) (access : Access) (mode : ShareMode) (d : Disposition) → Passes (create_file_tests x.files (file_room x) (Some id) path access mode d) → IsRightCall x (Some id) (create_file x.files (Some id) path access mode d)
    unfolding create_file create_file_tests
    right-created-own path access mode d passes =
        let no = not_refused (create_file_tests x.files (file_room x) (Some id) path access mode d) passes.none in
        create-right (file_room x) (find_path (tree_seen x.files (Some id)) path) access mode d (find_path-leads (tree_seen x.files (Some id)) (seen-formed formed x sound id) path)
        (no _ (inr (inr (inr (inr (inr (inl refl))))))) (no _ (inr (inr (inr (inr (inr (inr (inl refl)))))))) (no _ (inr (inr (inr (inr (inr (inr (inr (inr (inl refl))))))))))
