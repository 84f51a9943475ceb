-- Which calls may take memory: from a command to its call.
use Rattle.std.proofs.Common.{◌≡◌, ◌&&◌, ◌||◌, ℕ, not, cond, Bool, true, false, List, [], ◌∷◌, ◌++◌, Option, Some, None, is_none, refl, sym, ◌∙◌, ap}
use Rattle.std.proofs.Math.Bool.{and-false, and-true}
use Rattle.ktm_base.specs.declared.id.Id.{Id}
use Rattle.ktm_base.specs.declared.id.Label.{Label}
use Rattle.ktm_base.specs.declared.id.Pid.{Pid}
use Rattle.ktm_base.specs.declared.refusal.Refusal.{Refusal}
use Rattle.ktm_base.specs.declared.refusal.Refusal.TheVariants.{InvalidParameter, MachineDown, NotFound, TransactionNotFound}
use Rattle.ktm_world.specs.declared.command.Command.{Command}
use Rattle.ktm_world.specs.declared.command.Command.TheVariants.{CommitTransaction, CreateTransaction, DuplicateHandle, KvGet, KvList, KvSet, KvUnset, OpenTransaction, SetEndOfFile, WriteFile, WriteUnits}
use Rattle.ktm_world.specs.declared.command.View.{View}
use Rattle.ktm_world.specs.declared.object.Transaction.{Transaction}
use Rattle.ktm_world.specs.FileCalls.{get_size, set_end, write_file}
use Rattle.ktm_world.specs.FileOutcome.{FileOutcome}
use Rattle.ktm_world.specs.Handles.{object_at}
use Rattle.ktm_world.specs.HandleCalls.{duplicate_handle_tests}
use Rattle.ktm_world.specs.KeyCalls.{KeyOutcome, kv_get, kv_get_tests, kv_set, kv_set_tests, kv_unset, kv_unset_tests, reply_of_value}
use Rattle.ktm_world.specs.Keys.{KeysNow, is_bad_key, value_seen}
use Rattle.ktm_world.specs.Labels.{id_of_named, is_bound, transaction_named, transaction_tests, view_tests, viewer}
use Rattle.ktm_world.specs.Outcome.{first_refusal}
use Rattle.ktm_world.specs.Present.{Present}
use Rattle.ktm_world.specs.TransactionCalls.{bound_test, create_transaction_tests, handle_test, no_transaction_left, open_transaction_tests, quota_test, transaction_with}
use Rattle.ktm_world.specs.Uses.{file_room, key_room}
use Rattle.kv_rm.specs.Calls.{is_refused, key_outcome, unless_refused as refused_keys}
use Rattle.kv_rm.specs.declared.call.KvCall.TheVariants.{Get, Set, Unset}
use Rattle.txf_calls.specs.Calls.{file_effect, file_tests, takes_memory as decision_takes_memory, unless_refused}
use Rattle.txf_opens.specs.Acts.{open_of}
use Rattle.txf_calls.specs.declared.call.FileCall.{FileCall}
use Rattle.txf_calls.specs.declared.call.FileCall.TheVariants.{Flush, Size}
use Rattle.txf_opens.specs.declared.file.OpenFile.{OpenFile as Kept}
use Rattle.ktm_route.specs.Route.{source_tests}
use Rattle.ktm_memory.specs.Takes.{files_take_memory, is_quiet}
use Rattle.ktm_route.specs.Takes.{early_tests, effect_takes_memory, takes_memory}
use Rattle.ktm_route.proofs.Routes.{first_of-passed}

-- ---- calls on keys

-- a call on keys is refused where one of its tests holds
by_refusal : (keys : KeysNow) (r : Option Refusal) (o : KeyOutcome) → (r ≡ None → is_refused o.reply ≡ false) → is_none r ≡ not (is_refused (refused_keys keys r o).reply)
by_refusal keys (Some refusal) o answers = refl
by_refusal keys None o answers = ap not (sym (answers refl))

-- a key that passes the tests of KvGet has a value
found : (bad : Bool) (value : Option (List ℕ)) → first_refusal ((bad, InvalidParameter) ∷ (is_none value, NotFound) ∷ []) ≡ None → is_refused (reply_of_value value) ≡ false
found bad (Some value) none = refl
found true None none = absurd (cc)
found false None none = absurd (cc)

-- ---- from a command to its call

module _ (x : Present) (process : Pid) (up : x.machine.is_up ≡ true) where
  -- a machine that is up goes by the early tests
  pub by_tests : (command : Command) → takes_memory x process command ≡ (effect_takes_memory x process command && is_none (first_refusal (early_tests x process command)))
  by_tests command = ap (λ u. effect_takes_memory x process command && is_none (cond (not u) (Some MachineDown) (first_refusal (early_tests x process command)))) up

  -- where the early tests refuse nothing, a machine that is up goes by what the command does
  pub passed_takes : (command : Command) (tests : List (Bool × Refusal)) → early_tests x process command ≡ tests → first_refusal tests ≡ None → takes_memory x process command ≡ effect_takes_memory x process command
  passed_takes command tests are passed =
      by_tests command ∙ ap (λ r. effect_takes_memory x process command && is_none r) (ap first_refusal are ∙ passed) ∙ and-true (effect_takes_memory x process command)

  pub create_takes : (label : Label) (timeout : ℕ) → is_bound x process label ≡ false
      → takes_memory x process (CreateTransaction label timeout) ≡ is_none (first_refusal (quota_test x (no_transaction_left x.transactions) ∷ []))
  unfolding create_transaction_tests
  create_takes label timeout free =
      by_tests (CreateTransaction label timeout) ∙ ap (λ b. is_none (cond b (Some InvalidParameter) (first_refusal (quota_test x (no_transaction_left x.transactions) ∷ [])))) free

  pub open_takes : (label : Label) (guid : List ℕ) (t : Transaction) → is_bound x process label ≡ false → transaction_with x guid ≡ Some t
      → takes_memory x process (OpenTransaction label guid) ≡ is_none (first_refusal (handle_test x ∷ []))
  unfolding open_transaction_tests
  open_takes label guid t free found =
      by_tests (OpenTransaction label guid)
      ∙ ap (λ b. is_none (cond b (Some InvalidParameter) (first_refusal ((is_none (transaction_with x guid), TransactionNotFound) ∷ handle_test x ∷ [])))) free
      ∙ ap (λ (n : Option Transaction). is_none (cond (is_none n) (Some TransactionNotFound) (first_refusal (handle_test x ∷ [])))) found

  pub duplicate_takes : (label : Label) (from : Pid) (source : Label) → first_refusal (source_tests x.files (object_at x.handles from source)) ≡ None → is_bound x process label ≡ false
      → takes_memory x process (DuplicateHandle label from source) ≡ is_none (first_refusal (handle_test x ∷ []))
  unfolding duplicate_handle_tests
  duplicate_takes label from source passed free =
      by_tests (DuplicateHandle label from source)
      ∙ ap is_none (first_of-passed (source_tests x.files (object_at x.handles from source)) (bound_test x process label ∷ handle_test x ∷ []) passed)
      ∙ ap (λ b. is_none (cond b (Some InvalidParameter) (first_refusal (handle_test x ∷ [])))) free

  pub commit_takes : (label : Label) (t : Transaction) → transaction_named x process label ≡ Some t → first_refusal (transaction_tests (Some t)) ≡ None
      → takes_memory x process (CommitTransaction label) ≡ false
  commit_takes label t named passed = passed_takes (CommitTransaction label) (transaction_tests (Some t)) (ap transaction_tests named) passed

  -- calls on keys
  module _ (label : Label) (t : Transaction) (named : transaction_named x process label ≡ Some t) (passed : first_refusal (transaction_tests (Some t)) ≡ None) where
    pub set_takes : (key value : List ℕ) → takes_memory x process (KvSet label key value) ≡ not (is_refused (key_outcome x.keys (key_room x) (Some t.id) (Set key value)).reply)
    set_takes key value =
        by_tests (KvSet label key value)
        ∙ ap (λ (n : Option Transaction). is_none (first_refusal (transaction_tests n ++ kv_set_tests x.keys (key_room x) (id_of_named n) key value))) named
        ∙ ap is_none (first_of-passed (transaction_tests (Some t)) (kv_set_tests x.keys (key_room x) (Some t.id) key value) passed)
        ∙ by_refusal x.keys (first_refusal (kv_set_tests x.keys (key_room x) (Some t.id) key value)) (kv_set x.keys (Some t.id) key value) (λ none. refl)

    pub unset_takes : (key : List ℕ) → takes_memory x process (KvUnset label key) ≡ not (is_refused (key_outcome x.keys (key_room x) (Some t.id) (Unset key)).reply)
    unset_takes key =
        by_tests (KvUnset label key)
        ∙ ap (λ (n : Option Transaction). is_none (first_refusal (transaction_tests n ++ kv_unset_tests x.keys (key_room x) (id_of_named n) key))) named
        ∙ ap is_none (first_of-passed (transaction_tests (Some t)) (kv_unset_tests x.keys (key_room x) (Some t.id) key) passed)
        ∙ by_refusal x.keys (first_refusal (kv_unset_tests x.keys (key_room x) (Some t.id) key)) (kv_unset x.keys (Some t.id) key) (λ none. refl)

  module _ (view : View) (who : Option Id) (is : viewer x process view ≡ who) (passed : first_refusal (view_tests x process view) ≡ None) where
    pub get_takes : (key : List ℕ) → takes_memory x process (KvGet view key) ≡ not (is_refused (key_outcome x.keys (key_room x) who (Get key)).reply)
    get_takes key =
        by_tests (KvGet view key)
        ∙ ap (λ w. is_none (first_refusal (view_tests x process view ++ kv_get_tests x.keys w key))) is
        ∙ ap is_none (first_of-passed (view_tests x process view) (kv_get_tests x.keys who key) passed)
        ∙ by_refusal x.keys (first_refusal (kv_get_tests x.keys who key)) (kv_get x.keys who key) (found (is_bad_key key) (value_seen x.keys who key))

    pub list_takes : takes_memory x process (KvList view) ≡ true
    list_takes = passed_takes (KvList view) (view_tests x process view) refl passed

  -- a command that changes an open file
  module _ (command : Command) (who : Option Id) (call : FileCall) (tests : List (Bool × Refusal))
      (are : early_tests x process command ≡ tests ++ file_tests x.files (file_room x) who call) (passed : first_refusal tests ≡ None)
      (quick : decision_takes_memory call ≡ false) (effect : effect_takes_memory x process command ≡ not (is_quiet (file_effect x.files who call))) where
    abbrev own : Option Refusal
    own = first_refusal (file_tests x.files (file_room x) who call)

    abbrev made : FileOutcome
    made = file_effect x.files who call

    -- what it comes to with this refusal
    planned : (r : Option Refusal) → own ≡ r → files_take_memory x who call ≡ not (is_quiet (unless_refused r made))
    planned r is = ap (λ b. b || not (is_quiet (unless_refused own made))) quick ∙ ap (λ refusal. not (is_quiet (unless_refused refusal made))) is

    by_own : (r : Option Refusal) → own ≡ r → (effect_takes_memory x process command && is_none r) ≡ files_take_memory x who call
    by_own (Some refusal) is = and-false (effect_takes_memory x process command) ∙ sym (planned (Some refusal) is)
    by_own None is = and-true (effect_takes_memory x process command) ∙ effect ∙ sym (planned None is)

    pub change_takes : takes_memory x process command ≡ files_take_memory x who call
    change_takes =
        by_tests command
        ∙ ap (λ r. effect_takes_memory x process command && is_none r) (ap first_refusal are ∙ first_of-passed tests (file_tests x.files (file_room x) who call) passed)
        ∙ by_own own refl

  pub write_takes : (label : Label) (file : Kept) (offset : ℕ) (bytes : List ℕ)
      → effect_takes_memory x process (WriteFile label offset bytes) ≡ not (is_quiet (write_file (open_of file) offset bytes))
  unfolding write_file
  write_takes label file offset [] = refl
  write_takes label file offset (b ∷ bs) = refl

  pub write_units_takes : (label : Label) (file : Kept) (start : ℕ) (contents : List ℕ)
      → effect_takes_memory x process (WriteUnits label start contents) ≡ not (is_quiet (write_file (open_of file) start contents))
  unfolding write_file
  write_units_takes label file start [] = refl
  write_units_takes label file start (c ∷ cs) = refl

  pub set_end_takes : (label : Label) (file : Kept) (size : ℕ)
      → effect_takes_memory x process (SetEndOfFile label size) ≡ not (is_quiet (set_end (open_of file) size))
  unfolding set_end
  set_end_takes label file size = refl

-- ---- calls that only answer

pub size_takes : (x : Present) (who : Option Id) (file : Kept) → false ≡ files_take_memory x who (Size file)
unfolding get_size
size_takes x who file = refl

pub flush_takes : (x : Present) (who : Option Id) (file : Kept) → false ≡ files_take_memory x who (Flush file)
flush_takes x who file = go (first_refusal (file_tests x.files (file_room x) who (Flush file)))
  where
    go : (r : Option Refusal) → false ≡ not (is_quiet (unless_refused r (file_effect x.files who (Flush file))))
    go (Some refusal) = refl
    go None = refl
