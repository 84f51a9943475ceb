-- Every command keeps sound what transactions set of the keys.
use Rattle.std.proofs.Common.{◌∙◌, ◌≡◌, ℕ, ◌&&◌, not, Bool, true, false, if◌then◌else◌, List, [], ◌∷◌, Option, Some, None, refl, sym, ap, subst, inl, inr, ◌⊎◌}
use Rattle.std.proofs.lemmas.Bool.{cases_Bool, and_parts, and_from, or_parts, not-true, not_from_false}
use Rattle.std.proofs.lemmas.Option.{none-some}
use Rattle.std.proofs.lemmas.List.Sums.{fold-append}
use Rattle.std.specs.List.{list_all}
use Rattle.ktm_base.specs.declared.id.Id.{Id}
use Rattle.ktm_base.specs.declared.id.Label.{Label}
use Rattle.ktm_base.specs.declared.id.Pid.{Pid}
use Rattle.ktm_base.specs.declared.refusal.Refusal.{Refusal}
use Rattle.ktm_base.specs.declared.refusal.Refusal.TheVariants.{MachineDown}
use Rattle.std.specs.Prelude.{option_and_then, ⊤}
use Rattle.ktm_world.specs.declared.change.Change.{Change}
use Rattle.ktm_world.specs.declared.command.Command.{Command}
use Rattle.ktm_world.specs.declared.command.Command.TheVariants.{CreateTransaction, OpenTransaction, CommitTransaction, RollbackTransaction, GetTransactionInformation, CreateResourceManager, OpenResourceManager, RecoverResourceManager, GetNotificationResourceManager, CreateEnlistment, OpenEnlistment, RecoverEnlistment, PrePrepareComplete, PrepareComplete, ReadOnlyEnlistment, CommitComplete, RollbackComplete, SinglePhaseReject, RollbackEnlistment, PrePrepareEnlistment, PrepareEnlistment, CommitEnlistment, SetEnlistmentRecoveryInformation, GetEnlistmentRecoveryInformation, CreateFile, CreateFileTransacted, ReadFile, WriteFile, SetEndOfFile, WriteUnits, GetFileSizeEx, FlushFileBuffers, DeleteFile, CreateDirectory, RemoveDirectory, MoveFile, DeleteFileTransacted, CreateDirectoryTransacted, RemoveDirectoryTransacted, MoveFileTransacted, FindFiles, FindFilesTransacted, KvSet, KvUnset, KvGet, KvList, CloseHandle, DuplicateHandle, Exit}
use Rattle.ktm_world.specs.declared.input.PhaseInput.{PhaseInput}
use Rattle.ktm_world.specs.declared.object.Object.{Object}
use Rattle.ktm_world.specs.declared.object.Transaction.{Transaction}
use Rattle.ktm_world.specs.declared.options.Durability.{Durability}
use Rattle.ktm_world.specs.declared.options.EnlistmentKind.{EnlistmentKind}
use Rattle.ktm_world.specs.declared.reply.Reply.{Reply}
use Rattle.ktm_world.specs.declared.reply.Reply.TheVariants.{Done, Refused}
use Rattle.ktm_world.specs.Committed.{Committed, Work, with_work, committed_with}
use Rattle.ktm_world.specs.Decide.{of_files, opening, bound_file, on_file, caller, refusal_of, command_effect, command_tests}
use Rattle.ktm_world.specs.Enlistments.{Enlistment, Manager}
use Rattle.ktm_world.specs.FileCalls.{create_file, read_file, write_file, set_end, get_size, flush_file, delete_file, create_directory, remove_directory, move_file, find_files}
use Rattle.ktm_world.specs.FileOutcome.{FileOutcome, works_of}
use Rattle.ktm_world.specs.Files.{OpenFile, own_changes, without_transaction}
use Rattle.ktm_world.specs.HandleCalls.{duplicate_handle, bind_to}
use Rattle.ktm_world.specs.Handles.{object_at, transaction_id}
use Rattle.ktm_world.specs.KeyCalls.{with_setting, is_key_held}
use Rattle.ktm_keyed.specs.Keyed.{is_rising}
use Rattle.ktm_world.specs.Keys.{Own, OwnSettings, own_settings, without_own, with_own, are_good_settings, is_bad_key, is_bad_value, is_good_setting}
use Rattle.ktm_world.specs.Labels.{transaction_named, manager_named, enlistment_named, file_named, id_of_named, holds_of}
use Rattle.ktm_world.specs.Lawful.{set_both, others_undecided, undecided}
use Rattle.ktm_world.specs.Outcome.{Outcome, apply, only_reply, committed_now, first_refusal, refuse_or, and_then}
use Rattle.ktm_world.specs.Phases.{Course}
use Rattle.ktm_world.specs.Present.{Present, Transactions}
use Rattle.ktm_world.specs.Steps.{led, share_of}
use Rattle.ktm_world.specs.TransactionCalls.{course_of, arrived, create_transaction, open_transaction, open_to_transaction, transaction_with, commit_transaction, commit_reply, aborted_by, rollback_transaction, get_transaction_information, information_of, information_in, create_resource_manager, open_resource_manager, open_to_manager, manager_with, recover_resource_manager, get_notification, create_enlistment, open_enlistment, open_to_enlistment, enlistment_with, answering, pre_prepare_complete, prepare_complete, read_only_enlistment, commit_complete, rollback_complete, single_phase_reject, rollback_enlistment, pre_prepare_enlistment, prepare_enlistment, commit_enlistment, recover_enlistment, set_information, get_information, tick, with_clock, recovery_of}
use Rattle.ktm_world.specs.Transactions.{is_of, same_id, transaction_at, change_at, is_undecided, is_committed, is_aborted}
use Rattle.txf_laws.specs.Elements.{IsIn, each_pair}
use Rattle.txf_laws.specs.Contents.{is_good_entry}
use Rattle.ktm_owned.specs.OwnKeys.{OwnKeysLaw}
use Rattle.txf_laws.specs.SoundFiles.{is_undecided_in, IsSoundKeys, all_set_apart, set_no_key, set_by_two}
use Rattle.ktm_owned.proofs.offered.CoursesKept.{IsCourse, IsBegun, OneWork, led-is}
use Rattle.txf_laws.proofs.offered.Elements.{IsIn-filter, list_all-at, list_all-from}
use Rattle.ktm_owned.proofs.offered.OwnSettings.{own_settings-found, own_settings-good, own_settings-apart, all-with_own, pairs-with_own, entry-good, entry-apart, IsIn-without_own, pairs-without_own}
use Rattle.txf_laws.proofs.offered.Settings.{stored_all-rises, stored_all-good, set_both-sym}
use Rattle.txf_laws.proofs.offered.Tables.{same_id-sym}
use Rattle.ktm_owned.proofs.offered.Undecided.{transaction_at-id, undecided-from, undecided-other, undecided-itself, undecided-added}
use Rattle.ktm_owned.proofs.offered.Restarts.{keys-opened}
use Rattle.ktm_courses.proofs.offered.Calls.{of-answering}
use Rattle.ktm_courses.proofs.offered.HandlesAndTime.{Closes, close_handle-so, exit-so, tick-so}

-- an outcome keeps the keys sound
abbrev Keeps : Present → Outcome → Type 0
Keeps x o = IsSoundKeys x → IsSoundKeys (apply x o)

-- where neither the store nor what is set changes, and who is undecided stays so
pub same : (x y : Present) → ((id : Id) → is_undecided_in x.transactions.items id ≡ true → is_undecided_in y.transactions.items id ≡ true) → y.keys.own ≡ x.keys.own → y.keys.store ≡ x.keys.store
    → IsSoundKeys x → IsSoundKeys y
same x y stays own store sound = record {
  undecided = subst (λ os. list_all (λ (o : Own). is_undecided_in y.transactions.items o.transaction) os ≡ true) (sym own)
      (list_all-from _ x.keys.own (λ o there. stays o.transaction (list_all-at (λ (v : Own). is_undecided_in x.transactions.items v.transaction) x.keys.own sound.undecided o there)));
  once = subst (λ os. each_pair set_by_two os ≡ true) (sym own) sound.once;
  settings = subst (λ os. list_all (λ (o : Own). are_good_settings o.settings) os ≡ true) (sym own) sound.settings;
  apart = subst (λ os. each_pair set_no_key os ≡ true) (sym own) sound.apart;
  rises = subst (λ s. is_rising s ≡ true) (sym store) sound.rises;
  good = subst (λ s. list_all is_good_entry s ≡ true) (sym store) sound.good;
}

-- ---- outcomes that set nothing

only_reply-keeps : (x : Present) (reply : Reply) → Keeps x (only_reply x reply)
only_reply-keeps x reply = same x (apply x (only_reply x reply)) (λ id is. is) refl refl

store-of_files : (x : Present) (who : Option Id) (change : Option Change) → (committed_with (committed_now x) (works_of who change)).store ≡ x.keys.store
store-of_files x None None = refl
store-of_files x None (Some change) = refl
store-of_files x (Some id) change = refl

of_files-keeps : (x : Present) (who : Option Id) (o : FileOutcome) → Keeps x (of_files x who o)
of_files-keeps x who o = same x (apply x (of_files x who o)) (λ id is. is) refl (store-of_files x who o.change)

opening-keeps : (x : Present) (process : Pid) (label : Label) (who : Option Id) (o : FileOutcome) → Keeps x (opening x process label who o)
opening-keeps x process label who o = go o.opened
  where
    go : (opened : Option OpenFile) → Keeps x (bound_file process label opened (of_files x who o))
    go None = of_files-keeps x who o
    go (Some file) = same x _ (λ id is. is) refl (store-of_files x who o.change)

on_file-keeps : (x : Present) (o : Option OpenFile) (call : OpenFile → FileOutcome) → Keeps x (on_file x o call)
on_file-keeps x None call = only_reply-keeps x Done
on_file-keeps x (Some o) call = of_files-keeps x o.transaction (call o)

-- ---- one outcome after another

and_then-keeps : (x : Present) (o : Outcome) (next : Present → Outcome) → Keeps x o → Keeps (apply x o) (next (apply x o)) → Keeps x (and_then x o next)
and_then-keeps x o next first second sound =
    let y = apply x o in
    let is : IsSoundKeys (apply y (next y)) = second (first sound) in
    same (apply y (next y)) (apply x (and_then x o next)) (λ id is. is) refl (ap (λ (c : Committed). c.store) (fold-append with_work (committed_now x) o.works (next y).works)) is

-- ---- a course that has arrived

-- what each of its works sets
works-set : (cs : List Change) (ss : OwnSettings) (works : List Work) → OneWork cs ss works → (w : Work) → IsIn w works → w.settings ≡ ss
works-set cs ss works (inl none) w there = absurd (subst (IsIn w) none there)
works-set cs ss works (inr (v, one, changes, settings)) w there = elim (subst (IsIn w) one there) [ inl e ↦ ap (λ (u : Work). u.settings) (sym e) ∙ settings | inr none ↦ absurd none ]

good-works : (works : List Work) (c : Committed) (settings : OwnSettings) → ((w : Work) → IsIn w works → w.settings ≡ settings) → list_all is_good_setting settings ≡ true
    → is_rising c.store ≡ true → list_all is_good_entry c.store ≡ true → (is_rising (committed_with c works).store ≡ true) × (list_all is_good_entry (committed_with c works).store ≡ true)
good-works [] c settings each fine rises good = (rises, good)
good-works (w ∷ ws) c settings each fine rises good =
    let fine' : list_all is_good_setting w.settings ≡ true = subst (λ ss. list_all is_good_setting ss ≡ true) (sym (each w (inl refl))) fine in
    good-works ws (with_work c w) settings (λ v there. each v (inr there)) fine (stored_all-rises c.store w.settings rises) (stored_all-good c.store w.settings fine' good)

arrived-keeps : (x : Present) (t : Transaction) (changes : List Change) (c : Course) (reply : Reply) → IsCourse t changes (own_settings x.keys.own t.id) c → Keeps x (arrived x c reply)
arrived-keeps x t changes c reply is sound = released-sound (is_undecided c.transaction) refl
  where
    store : (is_rising (committed_with (committed_now x) c.works).store ≡ true) × (list_all is_good_entry (committed_with (committed_now x) c.works).store ≡ true)
    store = good-works c.works (committed_now x) (own_settings x.keys.own t.id) (works-set changes (own_settings x.keys.own t.id) c.works is.works) (own_settings-good x.keys.own t.id sound.settings).1 sound.rises sound.good

    bare : Outcome
    bare = record (only_reply x reply) {
      events = c.events;
      works = c.works;
      sent = c.sent;
      transactions = record x.transactions { items = change_at x.transactions.items c.transaction.id (λ t. c.transaction); enlistments = c.enlistments };
    }

    -- the outcome, with what the transaction had of its own released
    gone : Outcome
    gone = record bare {
      forgotten = c.transaction.id ∷ [];
      table = without_transaction bare.table c.transaction.id;
      own = without_own bare.own c.transaction.id;
    }

    was : (o : Own) → IsIn o x.keys.own → is_undecided_in x.transactions.items o.transaction ≡ true
    was o there = list_all-at (λ (v : Own). is_undecided_in x.transactions.items v.transaction) x.keys.own sound.undecided o there

    now : (o : Own) → IsIn o x.keys.own → (same_id c.transaction.id o.transaction ≡ false) ⊎ (is_undecided c.transaction ≡ true)
        → is_undecided_in (change_at x.transactions.items c.transaction.id (λ t. c.transaction)) o.transaction ≡ true
    now o there (inl other) = undecided-other x.transactions.items c.transaction o.transaction other (was o there)
    now o there (inr undecided) = elim (cases_Bool (same_id c.transaction.id o.transaction)) [
      | inl same ↦ undecided-itself x.transactions.items c.transaction o.transaction same undecided (was o there)
      | inr other ↦ undecided-other x.transactions.items c.transaction o.transaction other (was o there)
    ]

    released-sound : (b : Bool) → is_undecided c.transaction ≡ b → IsSoundKeys (apply x (if b then bare else gone))
    released-sound true undecided = record {
      undecided = list_all-from _ x.keys.own (λ o there. now o there (inr undecided));
      once = sound.once;
      settings = sound.settings;
      apart = sound.apart;
      rises = store.0;
      good = store.1;
    }
    released-sound false decided' = record {
      undecided = list_all-from _ (without_own x.keys.own c.transaction.id) (λ o there.
          let old = IsIn-without_own x.keys.own c.transaction.id sound.once o there in now o old.0 (inl (same_id-sym o.transaction c.transaction.id old.1)));
      once = pairs-without_own set_by_two x.keys.own c.transaction.id sound.once sound.once;
      settings = list_all-from _ (without_own x.keys.own c.transaction.id) (λ o there.
          list_all-at (λ (v : Own). are_good_settings v.settings) x.keys.own sound.settings o (IsIn-without_own x.keys.own c.transaction.id sound.once o there).0);
      apart = pairs-without_own set_no_key x.keys.own c.transaction.id sound.once sound.apart;
      rises = store.0;
      good = store.1;
    }

course-begun : (x : Present) (t : Transaction) (caller : Option Enlistment) → IsBegun t (own_changes x.files.table.own t.id) (own_settings x.keys.own t.id) (course_of x t caller)
course-begun x t caller = record { id = refl; changes = refl; settings = refl; works = refl; events = refl; outcome = refl }

step-keeps : (x : Present) (t : Transaction) (caller : Option Enlistment) (input : PhaseInput) (reply : Course → Reply) → Keeps x (arrived x (led input (course_of x t caller)) (reply (led input (course_of x t caller))))
step-keeps x t caller input reply =
    arrived-keeps x t (own_changes x.files.table.own t.id) (led input (course_of x t caller)) (reply (led input (course_of x t caller)))
    (led-is t (own_changes x.files.table.own t.id) (own_settings x.keys.own t.id) input (course_of x t caller) (course-begun x t caller))

answering-keeps : (x : Present) (e : Option Enlistment) (input : Enlistment → PhaseInput) → Keeps x (answering x e input)
answering-keeps x e input = of-answering (Keeps x) x e input (only_reply-keeps x Done) (λ e is t there own found. step-keeps x t (Some e) (input e) (λ c. Done))

aborted_by-keeps : (x : Present) (t : Transaction) → Keeps x (aborted_by x t None Done)
aborted_by-keeps x t = step-keeps x t None PhaseInput.Rollback (λ c. Done)

-- ---- calls of transactions and resource managers

create_transaction-keeps : (x : Present) (process : Pid) (label : Label) (timeout : ℕ) → Keeps x (create_transaction x process label timeout)
unfolding create_transaction
create_transaction-keeps x process label timeout = same x _ (λ id is. undecided-added x.transactions.items _ id is) refl refl

open_transaction-keeps : (x : Present) (process : Pid) (label : Label) (guid : List ℕ) → Keeps x (open_transaction x process label guid)
unfolding open_transaction
open_transaction-keeps x process label guid = go (transaction_with x guid)
  where
    go : (t : Option Transaction) → Keeps x (open_to_transaction x process label t)
    go None = only_reply-keeps x Done
    go (Some t) = same x _ (λ id is. is) refl refl

commit_transaction-keeps : (x : Present) (t : Option Transaction) → Keeps x (commit_transaction x t)
unfolding commit_transaction
commit_transaction-keeps x None = only_reply-keeps x Done
commit_transaction-keeps x (Some t) = step-keeps x t None PhaseInput.CommitTransaction commit_reply

rollback_transaction-keeps : (x : Present) (t : Option Transaction) → Keeps x (rollback_transaction x t)
unfolding rollback_transaction
rollback_transaction-keeps x None = only_reply-keeps x Done
rollback_transaction-keeps x (Some t) = aborted_by-keeps x t

get_transaction_information-keeps : (x : Present) (t : Option Transaction) → Keeps x (get_transaction_information x t)
unfolding get_transaction_information
get_transaction_information-keeps x t = only_reply-keeps x (information_of x t)

create_resource_manager-keeps : (x : Present) (process : Pid) (label : Label) (durability : Durability) → Keeps x (create_resource_manager x process label durability)
unfolding create_resource_manager
create_resource_manager-keeps x process label durability = same x _ (λ id is. is) refl refl

open_resource_manager-keeps : (x : Present) (process : Pid) (label : Label) (guid : List ℕ) → Keeps x (open_resource_manager x process label guid)
unfolding open_resource_manager
open_resource_manager-keeps x process label guid = go (manager_with x guid)
  where
    go : (m : Option Manager) → Keeps x (open_to_manager x process label m)
    go None = only_reply-keeps x Done
    go (Some m) = same x _ (λ id is. is) refl refl

recover_resource_manager-keeps : (x : Present) (m : Option Manager) → Keeps x (recover_resource_manager x m)
unfolding recover_resource_manager
recover_resource_manager-keeps x None = only_reply-keeps x Done
recover_resource_manager-keeps x (Some m) = same x _ (λ id is. is) refl refl

get_notification-keeps : (x : Present) (m : Option Manager) → Keeps x (get_notification x m)
unfolding get_notification
get_notification-keeps x None = only_reply-keeps x Done
get_notification-keeps x (Some m) = same x _ (λ id is. is) refl refl

-- ---- calls of enlistments

create_enlistment-keeps : (x : Present) (process : Pid) (label : Label) (m : Option Manager) (t : Option Transaction) (kind : EnlistmentKind) → Keeps x (create_enlistment x process label m t kind)
unfolding create_enlistment
create_enlistment-keeps x process label (Some m) (Some t) kind = same x _ (λ id is. is) refl refl
create_enlistment-keeps x process label None t kind = only_reply-keeps x Done
create_enlistment-keeps x process label (Some m) None kind = only_reply-keeps x Done

open_enlistment-keeps : (x : Present) (process : Pid) (label : Label) (m : Option Manager) (guid : List ℕ) → Keeps x (open_enlistment x process label m guid)
unfolding open_enlistment
open_enlistment-keeps x process label m guid = go (enlistment_with x m guid)
  where
    go : (e : Option Enlistment) → Keeps x (open_to_enlistment x process label e)
    go None = only_reply-keeps x Done
    go (Some e) = same x _ (λ id is. is) refl refl

set_information-keeps : (x : Present) (e : Option Enlistment) (information : List ℕ) → Keeps x (set_information x e information)
unfolding set_information
set_information-keeps x None information = only_reply-keeps x Done
set_information-keeps x (Some e) information = same x _ (λ id is. is) refl refl

get_information-keeps : (x : Present) (e : Option Enlistment) → Keeps x (get_information x e)
unfolding get_information
get_information-keeps x e = only_reply-keeps x (information_in e)

-- ---- calls of handles, and time

closing-keeps : Closes (λ x. ⊤) Keeps
closing-keeps = record {
  rolls = record {
    reply = λ x asked. only_reply-keeps x Done;
    rolls = λ x t asked there can. aborted_by-keeps x t;
    goes_on = λ x a next first second. and_then-keeps x a next first (second tt);
  };
  unbinds = λ x process label asked. same x _ (λ id is. is) refl refl;
  ends = λ x number asked. same x _ (λ id is. is) refl refl;
}

duplicate_handle-keeps : (x : Present) (process : Pid) (label : Label) (from : Pid) (source : Label) → Keeps x (duplicate_handle x process label from source)
unfolding duplicate_handle
duplicate_handle-keeps x process label from source = go (object_at x.handles from source)
  where
    go : (object : Option Object) → Keeps x (bind_to x process label object)
    go None = only_reply-keeps x Done
    go (Some object) = same x _ (λ id is. is) refl refl

tick-keeps : (x : Present) (ms : ℕ) → Keeps x (tick x ms)
tick-keeps x ms sound = tick-so _ _ closing-keeps.rolls x ms tt (same x (with_clock x ms) (λ id is. is) refl refl sound)

-- ---- calls on keys

-- no test of a call that is not refused holds
pub not_refused : (tests : List (Bool × Refusal)) → first_refusal tests ≡ None → (test : Bool × Refusal) → IsIn test tests → test.0 ≡ false
not_refused [] none test there = absurd there
not_refused (t ∷ ts) none test there = elim (cases_Bool t.0) [
  | inl holds ↦ absurd (none-some t.1 (sym (rw holds at none)))
  | inr fails ↦ elim there [ inl e ↦ subst (λ (u : Bool × Refusal). u.0 ≡ false) e fails | inr later ↦ not_refused ts (rw fails at none) test later ]
]

set-keeps : (x : Present) (t : Option Transaction) (key : List ℕ) (value : Option (List ℕ)) (o : Outcome) → o.own ≡ with_setting x.keys.own (id_of_named t) key value
    → o.transactions ≡ x.transactions → o.works ≡ [] → ((u : Transaction) → t ≡ Some u → is_undecided_in x.transactions.items u.id ≡ true)
    → is_good_setting (record { key = key; value = value }) ≡ true → is_key_held x.keys.own (id_of_named t) key ≡ false → Keeps x o
set-keeps x None key value o own items works is_there fine free = λ sound. same x (apply x o) (λ id is. subst (λ (ts : Transactions). is_undecided_in ts.items id ≡ true) (sym items) is) own (ap (λ ws. (committed_with (committed_now x) ws).store) works) sound
set-keeps x (Some t) key value o own items works is_there fine free = λ sound.
    let set = with_own x.keys.own t.id key value in
    same (record x { keys = record x.keys { own = set } }) (apply x o) (λ id is. subst (λ (ts : Transactions). is_undecided_in ts.items id ≡ true) (sym items) is) own
    (ap (λ ws. (committed_with (committed_now x) ws).store) works) (record {
      undecided = all-with_own (λ o. is_undecided_in x.transactions.items o.transaction) x.keys.own t.id key value (is_there t refl) sound.undecided;
      once = pairs-with_own set_by_two x.keys.own t.id key value sound.once sound.once (λ u there other. (not_from_false _ (same_id-sym u.transaction t.id other), not_from_false _ other));
      settings = all-with_own (λ o. are_good_settings o.settings) x.keys.own t.id key value (entry-good x.keys.own t.id key value sound.settings fine) sound.settings;
      apart = pairs-with_own set_no_key x.keys.own t.id key value sound.once sound.apart (entry-apart x.keys.own t.id key value sound.apart free);
      rises = sound.rises;
      good = sound.good;
    })

-- the transaction that a label names is there, and undecided where the call is not refused
pub named-undecided : (x : Present) (process : Pid) (label : Label) (t : Transaction) → transaction_named x process label ≡ Some t
    → holds_of is_committed (transaction_named x process label) ≡ false → holds_of is_aborted (transaction_named x process label) ≡ false → is_undecided_in x.transactions.items t.id ≡ true
named-undecided x process label t named committed aborted = go (transaction_id (object_at x.handles process label)) named
  where
    undecided : is_undecided t ≡ true
    undecided = undecided-from t (subst (λ n. holds_of is_committed n ≡ false) named committed) (subst (λ n. holds_of is_aborted n ≡ false) named aborted)

    go : (id : Option Id) → option_and_then (transaction_at x.transactions.items) id ≡ Some t → is_undecided_in x.transactions.items t.id ≡ true
    go None none = absurd (none-some t none)
    go (Some id) found =
        subst (λ (i : Id). is_undecided_in x.transactions.items i ≡ true) (sym (transaction_at-id x.transactions.items id t found)) (subst (λ n. holds_of is_undecided n ≡ true) (sym found) undecided)

kv_set-keeps : (x : Present) (process : Pid) (label : Label) (key value : List ℕ) → refusal_of x process (KvSet label key value) ≡ None → Keeps x (command_effect x process (KvSet label key value))
kv_set-keeps x process label key value none =
    let no_test = not_refused ((not x.machine.is_up, _) ∷ command_tests x process (KvSet label key value)) none in
    let bad = or_parts (is_bad_key key) (is_bad_value value) (no_test _ (inr (inr (inr (inr (inr (inl refl))))))) in
    set-keeps x (transaction_named x process label) key (Some value) (command_effect x process (KvSet label key value)) refl refl refl
    (λ t named. named-undecided x process label t named (no_test _ (inr (inr (inl refl)))) (no_test _ (inr (inr (inr (inl refl))))))
    (and_from _ _ (not_from_false _ bad.0) (not_from_false _ bad.1))
    (no_test _ (inr (inr (inr (inr (inr (inr (inl refl))))))))

kv_unset-keeps : (x : Present) (process : Pid) (label : Label) (key : List ℕ) → refusal_of x process (KvUnset label key) ≡ None → Keeps x (command_effect x process (KvUnset label key))
kv_unset-keeps x process label key none =
    let no_test = not_refused ((not x.machine.is_up, _) ∷ command_tests x process (KvUnset label key)) none in
    set-keeps x (transaction_named x process label) key None (command_effect x process (KvUnset label key)) refl refl refl
    (λ t named. named-undecided x process label t named (no_test _ (inr (inr (inl refl)))) (no_test _ (inr (inr (inr (inl refl))))))
    (and_from _ _ (not_from_false _ (no_test _ (inr (inr (inr (inr (inr (inl refl)))))))) refl)
    (no_test _ (inr (inr (inr (inr (inr (inr (inr (inl refl)))))))))

-- ---- every command

effect-keeps : (x : Present) (process : Pid) (command : Command) → refusal_of x process command ≡ None → Keeps x (command_effect x process command)
unfolding recover_enlistment pre_prepare_complete prepare_complete read_only_enlistment commit_complete rollback_complete single_phase_reject rollback_enlistment pre_prepare_enlistment prepare_enlistment commit_enlistment
effect-keeps x process (CreateTransaction label timeout) none = create_transaction-keeps x process label timeout
effect-keeps x process (OpenTransaction label guid) none = open_transaction-keeps x process label guid
effect-keeps x process (CommitTransaction label) none = commit_transaction-keeps x (transaction_named x process label)
effect-keeps x process (RollbackTransaction label) none = rollback_transaction-keeps x (transaction_named x process label)
effect-keeps x process (GetTransactionInformation label) none = get_transaction_information-keeps x (transaction_named x process label)
effect-keeps x process (CreateResourceManager label durability) none = create_resource_manager-keeps x process label durability
effect-keeps x process (OpenResourceManager label guid) none = open_resource_manager-keeps x process label guid
effect-keeps x process (RecoverResourceManager label) none = recover_resource_manager-keeps x (manager_named x process label)
effect-keeps x process (GetNotificationResourceManager label) none = get_notification-keeps x (manager_named x process label)
effect-keeps x process (CreateEnlistment label manager transaction kind) none = create_enlistment-keeps x process label (manager_named x process manager) (transaction_named x process transaction) kind
effect-keeps x process (OpenEnlistment label manager guid) none = open_enlistment-keeps x process label (manager_named x process manager) guid
effect-keeps x process (RecoverEnlistment label) none = answering-keeps x (enlistment_named x process label) recovery_of
effect-keeps x process (PrePrepareComplete label) none = answering-keeps x (enlistment_named x process label) (λ e. PhaseInput.PrePrepareComplete)
effect-keeps x process (PrepareComplete label) none = answering-keeps x (enlistment_named x process label) (λ e. PhaseInput.PrepareComplete)
effect-keeps x process (ReadOnlyEnlistment label) none = answering-keeps x (enlistment_named x process label) (λ e. PhaseInput.ReadOnly (share_of e))
effect-keeps x process (CommitComplete label) none = answering-keeps x (enlistment_named x process label) (λ e. PhaseInput.CommitComplete)
effect-keeps x process (RollbackComplete label) none = answering-keeps x (enlistment_named x process label) (λ e. PhaseInput.RollbackComplete)
effect-keeps x process (SinglePhaseReject label) none = answering-keeps x (enlistment_named x process label) (λ e. PhaseInput.SinglePhaseReject)
effect-keeps x process (RollbackEnlistment label) none = answering-keeps x (enlistment_named x process label) (λ e. PhaseInput.Rollback)
effect-keeps x process (PrePrepareEnlistment label) none = answering-keeps x (enlistment_named x process label) (λ e. PhaseInput.PrePrepare)
effect-keeps x process (PrepareEnlistment label) none = answering-keeps x (enlistment_named x process label) (λ e. PhaseInput.Prepare)
effect-keeps x process (CommitEnlistment label) none = answering-keeps x (enlistment_named x process label) (λ e. PhaseInput.Commit)
effect-keeps x process (SetEnlistmentRecoveryInformation label information) none = set_information-keeps x (enlistment_named x process label) information
effect-keeps x process (GetEnlistmentRecoveryInformation label) none = get_information-keeps x (enlistment_named x process label)
effect-keeps x process (CreateFile label path access share disposition) none = opening-keeps x process label None (create_file x.files None path access share disposition)
effect-keeps x process (CreateFileTransacted label path access share disposition transaction) none = opening-keeps x process label (caller x process transaction) (create_file x.files (caller x process transaction) path access share disposition)
effect-keeps x process (ReadFile file offset many) none = on_file-keeps x (file_named x process file) (λ o. read_file x.files o offset many)
effect-keeps x process (WriteFile file offset bytes) none = on_file-keeps x (file_named x process file) (λ o. write_file o offset bytes)
effect-keeps x process (SetEndOfFile file size) none = on_file-keeps x (file_named x process file) (λ o. set_end o size)
effect-keeps x process (WriteUnits file start contents) none = on_file-keeps x (file_named x process file) (λ o. write_file o start contents)
effect-keeps x process (GetFileSizeEx file) none = on_file-keeps x (file_named x process file) (λ o. get_size x.files o)
effect-keeps x process (FlushFileBuffers file) none = on_file-keeps x (file_named x process file) (λ o. flush_file)
effect-keeps x process (DeleteFile path) none = of_files-keeps x None (delete_file x.files None path)
effect-keeps x process (CreateDirectory path) none = of_files-keeps x None (create_directory x.files None path)
effect-keeps x process (RemoveDirectory path) none = of_files-keeps x None (remove_directory x.files None path)
effect-keeps x process (MoveFile source target) none = of_files-keeps x None (move_file x.files None source target)
effect-keeps x process (DeleteFileTransacted path transaction) none = of_files-keeps x (caller x process transaction) (delete_file x.files (caller x process transaction) path)
effect-keeps x process (CreateDirectoryTransacted path transaction) none = of_files-keeps x (caller x process transaction) (create_directory x.files (caller x process transaction) path)
effect-keeps x process (RemoveDirectoryTransacted path transaction) none = of_files-keeps x (caller x process transaction) (remove_directory x.files (caller x process transaction) path)
effect-keeps x process (MoveFileTransacted source target transaction) none = of_files-keeps x (caller x process transaction) (move_file x.files (caller x process transaction) source target)
effect-keeps x process (FindFiles searched) none = of_files-keeps x None (find_files x.files None searched)
effect-keeps x process (FindFilesTransacted searched transaction) none = of_files-keeps x (caller x process transaction) (find_files x.files (caller x process transaction) searched)
effect-keeps x process (KvSet transaction key value) none = kv_set-keeps x process transaction key value none
effect-keeps x process (KvUnset transaction key) none = kv_unset-keeps x process transaction key none
effect-keeps x process (KvGet view key) none = same x _ (λ id is. is) refl refl
effect-keeps x process (KvList view) none = same x _ (λ id is. is) refl refl
effect-keeps x process (CloseHandle label) none = close_handle-so _ _ closing-keeps x process label tt
effect-keeps x process (DuplicateHandle label from source) none = duplicate_handle-keeps x process label from source
effect-keeps x process Exit none = exit-so _ _ closing-keeps x process tt

refuse_or-keeps : (x : Present) (refusal : Option Refusal) (effect : Outcome) → (refusal ≡ None → Keeps x effect) → Keeps x (refuse_or x refusal effect)
refuse_or-keeps x (Some refusal) effect keeps = only_reply-keeps x (Refused refusal)
refuse_or-keeps x None effect keeps = keeps refl

-- ---- no two transactions set a key both

pub sets-apart : (x : Present) → IsSoundKeys x → (a b : Id) → same_id b a ≡ false → set_both (own_settings x.keys.own a) (own_settings x.keys.own b) ≡ false
sets-apart x sound a b other = elim (own_settings-found x.keys.own b) [
  | inl none ↦ set_both-sym (own_settings x.keys.own b) (own_settings x.keys.own a) (subst (λ ss. set_both ss (own_settings x.keys.own a) ≡ false) (sym none) refl)
  | inr (o, there, is, settings) ↦ subst (λ ss. set_both (own_settings x.keys.own a) ss ≡ false) settings
      (own_settings-apart x.keys.own a sound.apart o there (subst (λ (i : Id). same_id i a ≡ false) (sym is) other))
]

all_set-apart : (x : Present) → IsSoundKeys x → all_set_apart x ≡ true
all_set-apart x sound = list_all-from _ (undecided x) (λ t there. list_all-from _ (others_undecided x.transactions.items (Some t.id)) (λ u there'.
    let kept = IsIn-filter (λ (v : Transaction). is_undecided v && not (is_of v.id (Some t.id))) x.transactions.items u there' in
    not_from_false _ (sets-apart x sound t.id u.id (not-true _ (and_parts (is_undecided u) (not (same_id u.id t.id)) kept.1).1))))

pub own_keys_law : OwnKeysLaw
own_keys_law = (
  λ x process command. refuse_or-keeps x (refusal_of x process command) (command_effect x process command) (effect-keeps x process command),
  λ x ms. refuse_or-keeps x (first_refusal ((not x.machine.is_up, MachineDown) ∷ [])) (tick x ms) (λ none. tick-keeps x ms),
  keys-opened,
  all_set-apart,
)
