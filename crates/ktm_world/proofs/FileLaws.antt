-- What a call on files makes of all that is so now, and the limits on it.
use Rattle.std.proofs.Common.{◌≡◌, ℕ, ◌+◌, ◌-◌, ◌≤◌, ◌<◌, ◌==◌, ◌&&◌, ◌||◌, Bool, true, false, List, [], ◌∷◌, ◌++◌, length, map, count_by, Option, None, Some, is_some, nat_lt, refl, sym, ◌∙◌, ap, arith, inl, inr, length-append}
use Rattle.std.proofs.Math.Bool.{or-false}
use Rattle.std.proofs.lemmas.Bool.{cases_Bool, lt-ltb, ltb-true, le-ltb, ltb-false, or_parts}
use Rattle.std.proofs.lemmas.Bool.Decides.{eqb_tells}
use Rattle.std.proofs.lemmas.List.{append-nil, length-map}
use Rattle.ktm_base.specs.declared.limits.TheConstants.{MOST_LIVE, MOST_HANDLES, MOST_NUMBER, END_OF_NODES}
use Rattle.ktm_base.specs.declared.id.Id.{Id}
use Rattle.ktm_base.specs.declared.id.Label.{Label}
use Rattle.ktm_base.specs.declared.id.Pid.{Pid}
use Rattle.ktm_world.specs.declared.change.Change.{Change}
use Rattle.ktm_world.specs.declared.object.Handle.{Handle}
use Rattle.ktm_world.specs.declared.object.Object.{Object}
use Rattle.ktm_world.specs.Keys.{Store, keys_used, changes_pending as keys_unset}
use Rattle.ktm_world.specs.Committed.{committed_with}
use Rattle.ktm_world.specs.Decide.{bound_file, events_of, of_files}
use Rattle.ktm_world.specs.Durable.{after_events}
use Rattle.ktm_world.specs.Enlistments.{Manager, is_live_enlistment}
use Rattle.ktm_world.specs.Files.{FilesNow, FirstOpen, OpenFile, committed_files, first_open}
use Rattle.ktm_world.specs.FileOutcome.{FileOutcome, files_after, table_after, works_of, openings_of, lacks_quota, lacks_disk}
use Rattle.ktm_world.specs.Outcome.{apply, served}
use Rattle.ktm_world.specs.Present.{Present}
use Rattle.ktm_world.specs.Transactions.{is_live}
use Rattle.ktm_world.specs.FileUses.{file_changes_waiting, nodes_used, units_used}
use Rattle.ktm_world.specs.Uses.{changes_waiting, file_room, is_over_disk, is_over_quota}
use Rattle.ktm_world.specs.Laws.{FilesLaw}
use Rattle.ktm_world.proofs.offered.Worlds.{filter_all}

-- ---- the files

-- the files that are committed do not depend on the store of keys
tree_same : (files : FilesNow) (store : Store) (who : Option Id) (change : Option Change)
    → (committed_with (committed_files files store) (works_of who change)).tree ≡ (committed_with (committed_files files []) (works_of who change)).tree
tree_same files store None None = refl
tree_same files store None (Some change) = refl
tree_same files store (Some id) change = refl

versions_same : (files : FilesNow) (store : Store) (who : Option Id) (change : Option Change)
    → (committed_with (committed_files files store) (works_of who change)).versions ≡ (committed_with (committed_files files []) (works_of who change)).versions
versions_same files store None None = refl
versions_same files store None (Some change) = refl
versions_same files store (Some id) change = refl

-- no call on files changes the store
store_same : (files : FilesNow) (store : Store) (who : Option Id) (change : Option Change) → (committed_with (committed_files files store) (works_of who change)).store ≡ store
store_same files store None None = refl
store_same files store None (Some change) = refl
store_same files store (Some id) change = refl

files_same : (x : Present) (who : Option Id) (o : FileOutcome) → (apply x (of_files x who o)).files ≡ files_after x.files who o
files_same x who o i = record {
  tree = tree_same x.files x.keys.store who o.change i;
  versions = versions_same x.files x.keys.store who o.change i;
  first_opens = filter_all (λ (f : FirstOpen). true) (λ f. refl) (x.files.first_opens ++ map (first_open (committed_files x.files [])) (openings_of who o.first)) i;
  table = table_after x.files who o;
}

-- ---- the limits

-- no call on files changes how many units there are
units_same : (x : Present) (who : Option Id) (change : Option Change) → (after_events x.recorded (events_of who change)).units ≡ x.recorded.units
units_same x None None = refl
units_same x None (Some change) = refl
units_same x (Some id) change = refl

-- where the keys alone do not pass a limit, the files and the keys would together exactly where the files would pass what the keys leave
beside_exact : (limit files keys : ℕ) → nat_lt limit keys ≡ false → nat_lt (limit - keys) files ≡ nat_lt limit (files + keys)
beside_exact limit files keys within =
    let some : keys ≤ limit = ltb-false limit keys within in
    elim (cases_Bool (nat_lt limit (files + keys))) [
      | inl over ↦ let more : limit < files + keys = ltb-true limit (files + keys) over in lt-ltb (limit - keys) files (omega arith) ∙ sym over
      | inr not_over ↦ let few : files + keys ≤ limit = ltb-false limit (files + keys) not_over in le-ltb (limit - keys) files (omega arith) ∙ sym not_over
    ]

disk_exact : (x : Present) (who : Option Id) (o : FileOutcome) → is_over_disk x ≡ false → lacks_disk x.files (file_room x) who o ≡ is_over_disk (apply x (of_files x who o))
unfolding lacks_disk file_room is_over_disk
disk_exact x who o within =
    let units = x.recorded.units in
    let few_keys = (or_parts (nat_lt units (units_used x.files) || nat_lt units (nodes_used x.files)) (nat_lt units (keys_used x.keys)) within).1 in
    sym (or-false (nat_lt units (units_used (files_after x.files who o)) || nat_lt units (nodes_used (files_after x.files who o))))
    ∙ ap (λ keys. nat_lt units (units_used (files_after x.files who o)) || nat_lt units (nodes_used (files_after x.files who o)) || keys) (sym few_keys)
    ∙ (λ i. let files = sym (files_same x who o) i in
    let all = sym (units_same x who o.change) i in
    nat_lt all (units_used files) || nat_lt all (nodes_used files)
    || nat_lt all (keys_used (record { store = sym (store_same x.files x.keys.store who o.change) i; own = x.keys.own })))

-- the number of managers
managers_same : (ms : List Manager) → length (map (served None []) (ms ++ [])) ≡ length ms
managers_same ms = length-map (ms ++ []) (served None []) ∙ ap length (append-nil ms)

-- of ten tests none holds
none_of_ten : (a b c d e f g h i j : Bool) → (a || b || c || d || e || f || g || h || i || j) ≡ false
    → (a ≡ false) × (b ≡ false) × (c ≡ false) × (d ≡ false) × (e ≡ false) × (f ≡ false) × (g ≡ false) × (h ≡ false)
none_of_ten a b c d e f g h i j none =
    let nine = or_parts (a || b || c || d || e || f || g || h || i) j none in
    let eight = or_parts (a || b || c || d || e || f || g || h) i nine.0 in
    let seven = or_parts (a || b || c || d || e || f || g) h eight.0 in
    let six = or_parts (a || b || c || d || e || f) g seven.0 in
    let five = or_parts (a || b || c || d || e) f six.0 in
    let four = or_parts (a || b || c || d) e five.0 in
    let three = or_parts (a || b || c) d four.0 in
    let two = or_parts (a || b) c three.0 in
    let one = or_parts a b two.0 in
    (one.0, one.1, two.1, three.1, four.1, five.1, six.1, seven.1)

-- where some of ten tests do not hold, the others are left
some_of_ten : (a b c d e f g h i j : Bool) → b ≡ false → c ≡ false → d ≡ false → f ≡ false → g ≡ false → h ≡ false
    → (a || b || c || d || e || f || g || h || i || j) ≡ (a || e || i || j)
some_of_ten true b c d e f g h i j no_b no_c no_d no_f no_g no_h = refl
some_of_ten false b c d true f g h i j no_b no_c no_d no_f no_g no_h = rw (no_b, no_c, no_d) refl
some_of_ten false b c d false f g h i j no_b no_c no_d no_f no_g no_h = rw (no_b, no_c, no_d, no_f, no_g, no_h) refl

-- one handle more is too many exactly where none is free
handles_exact : (n : ℕ) → nat_lt MOST_HANDLES n ≡ false → (MOST_HANDLES - n == 0) ≡ nat_lt MOST_HANDLES (n + 1)
handles_exact n within =
    let some : n ≤ MOST_HANDLES = ltb-false MOST_HANDLES n within in
    elim (eqb_tells (MOST_HANDLES - n) 0) [
      | inl none ↦ none.0 ∙ sym (lt-ltb MOST_HANDLES (n + 1) (omega (arith, none.1)))
      | inr free ↦ free.0 ∙ sym (le-ltb MOST_HANDLES (n + 1) (omega (arith, free.1)))
    ]

-- with so many handles then, of which one may be new
quota_with : (x : Present) (who : Option Id) (o : FileOutcome) (handles : ℕ) (lacks : Bool) → is_over_quota x ≡ false
    → (nat_lt MOST_HANDLES (length x.handles) ≡ false → lacks ≡ nat_lt MOST_HANDLES handles)
    → (nat_lt (after_events x.recorded (events_of who o.change)).units (file_changes_waiting (files_after x.files who o) + keys_unset x.keys)
    || nat_lt MOST_LIVE (count_by is_live x.transactions.items)
    || nat_lt MOST_LIVE (count_by (is_live_enlistment x.transactions.items) x.transactions.enlistments)
    || nat_lt MOST_LIVE (length (map (served None []) (x.managers ++ [])))
    || nat_lt MOST_HANDLES handles
    || nat_lt MOST_NUMBER x.transactions.last_transaction
    || nat_lt MOST_NUMBER x.transactions.last_manager
    || nat_lt MOST_NUMBER x.transactions.last_enlistment
    || nat_lt MOST_NUMBER (table_after x.files who o).last_open
    || nat_lt END_OF_NODES (table_after x.files who o).next_node)
    ≡ (nat_lt (x.recorded.units - keys_unset x.keys) (file_changes_waiting (files_after x.files who o)) || lacks
    || nat_lt MOST_NUMBER (table_after x.files who o).last_open || nat_lt END_OF_NODES (table_after x.files who o).next_node)
unfolding is_over_quota changes_waiting
quota_with x who o handles lacks within exact =
    let parts = none_of_ten
    (nat_lt x.recorded.units (file_changes_waiting x.files + keys_unset x.keys))
    (nat_lt MOST_LIVE (count_by is_live x.transactions.items))
    (nat_lt MOST_LIVE (count_by (is_live_enlistment x.transactions.items) x.transactions.enlistments))
    (nat_lt MOST_LIVE (length x.managers))
    (nat_lt MOST_HANDLES (length x.handles))
    (nat_lt MOST_NUMBER x.transactions.last_transaction)
    (nat_lt MOST_NUMBER x.transactions.last_manager)
    (nat_lt MOST_NUMBER x.transactions.last_enlistment)
    (nat_lt MOST_NUMBER x.files.table.last_open)
    (nat_lt END_OF_NODES x.files.table.next_node)
    within in
    let some : file_changes_waiting x.files + keys_unset x.keys ≤ x.recorded.units = ltb-false x.recorded.units (file_changes_waiting x.files + keys_unset x.keys) parts.0 in
    let kept = file_changes_waiting (files_after x.files who o) in
    some_of_ten
    (nat_lt (after_events x.recorded (events_of who o.change)).units (kept + keys_unset x.keys))
    (nat_lt MOST_LIVE (count_by is_live x.transactions.items))
    (nat_lt MOST_LIVE (count_by (is_live_enlistment x.transactions.items) x.transactions.enlistments))
    (nat_lt MOST_LIVE (length (map (served None []) (x.managers ++ []))))
    (nat_lt MOST_HANDLES handles)
    (nat_lt MOST_NUMBER x.transactions.last_transaction)
    (nat_lt MOST_NUMBER x.transactions.last_manager)
    (nat_lt MOST_NUMBER x.transactions.last_enlistment)
    (nat_lt MOST_NUMBER (table_after x.files who o).last_open)
    (nat_lt END_OF_NODES (table_after x.files who o).next_node)
    parts.1 parts.2 (ap (nat_lt MOST_LIVE) (managers_same x.managers) ∙ parts.3) parts.5 parts.6 parts.7
    ∙ (λ i. nat_lt (units_same x who o.change i) (kept + keys_unset x.keys) || sym (exact parts.4) i || nat_lt MOST_NUMBER (table_after x.files who o).last_open
    || nat_lt END_OF_NODES (table_after x.files who o).next_node)
    ∙ ap (λ changes. changes || lacks || nat_lt MOST_NUMBER (table_after x.files who o).last_open || nat_lt END_OF_NODES (table_after x.files who o).next_node)
    (sym (beside_exact x.recorded.units kept (keys_unset x.keys) (le-ltb x.recorded.units (keys_unset x.keys) (omega arith))))

quota_exact : (x : Present) (process : Pid) (label : Label) (who : Option Id) (o : FileOutcome) (opened : Option OpenFile) → is_over_quota x ≡ false
    → is_over_quota (apply x (bound_file process label opened (of_files x who o)))
    ≡ (nat_lt (x.recorded.units - keys_unset x.keys) (file_changes_waiting (files_after x.files who o)) || (is_some opened && MOST_HANDLES - length x.handles == 0)
    || nat_lt MOST_NUMBER (table_after x.files who o).last_open || nat_lt END_OF_NODES (table_after x.files who o).next_node)
unfolding is_over_quota changes_waiting file_changes_waiting
quota_exact x process label who o None within = quota_with x who o (length x.handles) false within sym
quota_exact x process label who o (Some file) within =
    let handle : Handle = record { process = process; label = label; object = Object.File file.number } in
    quota_with x who o (length (x.handles ++ handle ∷ [])) (MOST_HANDLES - length x.handles == 0) within
    (λ few. handles_exact (length x.handles) few ∙ ap (nat_lt MOST_HANDLES) (sym (length-append x.handles (handle ∷ []))))

pub files_law : FilesLaw
unfolding lacks_quota file_room
files_law = (files_same, λ x process label who o within. sym (quota_exact x process label who o o.opened within), disk_exact)
