-- Calls on transactions, resource managers, enlistments, handles and keys pass no limit, and leave the versions fixed that were first opened.
use Rattle.std.specs.Prelude.{if◌then◌else◌}
use Rattle.std.proofs.Common.{◌≡◌, ℕ, ◌+◌, ◌-◌, ◌≤◌, ◌&&◌, ◌||◌, not, Bool, true, false, List, [], ◌∷◌, ◌++◌, length, count_by, nat_lt, Option, Some, None, is_some, is_none, refl, sym, ◌∙◌, ap, subst, arith, inl, inr, length-append}
use Rattle.std.proofs.lemmas.Bool.{cases_Bool, and_parts, ltb-false, or_cases, or_parts, true≢false, not-true}
use Rattle.std.proofs.lemmas.List.{length-map}
use Rattle.ktm_base.specs.declared.limits.TheConstants.{MOST_LIVE, MOST_HANDLES, MOST_NUMBER}
use Rattle.ktm_base.specs.declared.id.Id.{Id}
use Rattle.ktm_base.specs.declared.id.Label.{Label}
use Rattle.ktm_base.specs.declared.id.Pid.{Pid}
use Rattle.ktm_world.specs.declared.input.PhaseInput.{PhaseInput}
use Rattle.ktm_world.specs.declared.object.Handle.{Handle}
use Rattle.ktm_world.specs.declared.object.Object.{Object}
use Rattle.ktm_world.specs.declared.object.Phase.{Phase}
use Rattle.ktm_world.specs.declared.object.Phase.TheVariants.{Active, InDoubt, Ended}
use Rattle.ktm_world.specs.declared.object.Transaction.{Transaction}
use Rattle.ktm_world.specs.declared.object.TransactionOutcome.TheVariants.{Undetermined}
use Rattle.ktm_world.specs.declared.options.Durability.{Durability}
use Rattle.ktm_world.specs.declared.options.EnlistmentKind.{EnlistmentKind}
use Rattle.ktm_world.specs.declared.reply.Reply.{Reply}
use Rattle.ktm_world.specs.declared.reply.Reply.TheVariants.{Done}
use Rattle.ktm_world.specs.declared.step.Owed.{Owed}
use Rattle.ktm_world.specs.Committed.{committed_with}
use Rattle.ktm_world.specs.Decide.{of_keys, transacted, caller}
use Rattle.ktm_world.specs.Enlistments.{Enlistment, Manager, is_ended, is_live_enlistment, is_live_in, is_superior, owes_pre_prepare, owes_prepare, owes_commit, owes_rollback, has_id, with_enlistments}
use Rattle.ktm_world.specs.Files.{FilesNow}
use Rattle.ktm_world.specs.FileUses.{units_used, nodes_used, file_changes_waiting}
use Rattle.ktm_world.specs.HandleCalls.{bind_to, duplicate_handle, duplicate_handle_tests}
use Rattle.ktm_world.specs.Handles.{no_handle_left, object_at}
use Rattle.ktm_world.specs.KeyCalls.{kv_set, kv_set_tests, kv_unset, kv_unset_tests, with_setting}
use Rattle.ktm_world.specs.Keys.{keys_used, changes_pending as keys_unset}
use Rattle.ktm_world.specs.Labels.{binding, holds_of, with_handle, transaction_tests}
use Rattle.ktm_world.specs.Outcome.{Outcome, apply, only_reply, committed_now, served}
use Rattle.ktm_world.specs.Phases.{Course, is_single_phase}
use Rattle.ktm_world.specs.Present.{Present, Transactions}
use Rattle.ktm_world.specs.TransactionCalls.{arrived, course_of, commit_of, commit_reply, rollback_of, rollback_transaction_tests, may_roll_back, create_transaction, create_transaction_tests, no_transaction_left, open_transaction, open_transaction_tests, open_to_transaction, transaction_with, create_resource_manager, create_resource_manager_tests, no_manager_left, is_durable, open_resource_manager, open_resource_manager_tests, open_to_manager, manager_with, recover_all, take_first, create_enlistment, create_enlistment_tests, no_enlistment_left, enlist, open_enlistment, open_enlistment_tests, open_to_enlistment, enlistment_with, new_id, answering, transaction_in, phase_passes, enlistment_tests, superior_tests, may_vote, may_roll_back_by, may_reject_one_phase, may_recover, is_voting, is_in_doubt, lets_superior_roll_back, before_pre_prepare, before_prepare, waits_for_superior, keep_information, recovery_of}
use Rattle.ktm_world.specs.Transactions.{is_active, is_live, same_id}
use Rattle.ktm_world.specs.Uses.{changes_waiting, key_room}
use Rattle.ktm_world.proofs.offered.KeyLemmas.{counted-with_own-le}
use Rattle.ktm_world.specs.Steps.{led, share_of}
use Rattle.txf_laws.specs.Elements.{IsIn}
use Rattle.txf_laws.specs.Footprint.{ListsLaw}
use Rattle.txf_laws.specs.Formed.{FormedLaw}
use Rattle.ktm_courses.specs.SoundCourse.{IsSoundCourse, are_enlistments_as_asked, has_transaction, is_counted, is_enlistment_as, is_idle, is_unrecovered_well}
use Rattle.txf_laws.specs.SoundFiles.{IsSoundFiles}
use Rattle.ktm_courses.proofs.offered.EnlistmentAnswers.{owed-commit, owed-pre_prepare, owed-prepare, owed-rollback}
use Rattle.ktm_courses.proofs.offered.Calls.{Passes, passed, enlistment-allowed, superior-allowed, phase-passed, of-answering}
use Rattle.txf_laws.proofs.offered.Elements.{list_all-at, list_any-at, list_any-from, not-not}
use Rattle.ktm_records.proofs.offered.LiveEnlistments.{enlisted-fade, fade-with, phase-live}
use Rattle.txf_laws.proofs.offered.Lists.{IsIn-cases}
use Rattle.ktm_courses.proofs.offered.NewObjects.{next-other}
use Rattle.ktm_courses.proofs.offered.Moves.{if_parts}
use Rattle.ktm_records.proofs.offered.NoMore.{Fits, files-left, no_more-fits, units-events}
use Rattle.txf_laws.proofs.offered.OlderVersions.{AreFixed}
use Rattle.ktm_owned.proofs.offered.EndedTransactions.{AreInOrder, transaction_at-there}
use Rattle.ktm_limits.proofs.EndedCounts.{Spends, active-live, course-spends, fixed-after, rolling-live}
use Rattle.txf_laws.proofs.offered.Sums.{count-append, count-less, one-at-most}
use Rattle.txf_laws.proofs.offered.Tables.{same_id-equal, same_id-from}

-- an outcome passes no limit, and where the versions that were first opened are fixed, they are fixed still
pub record Stays (x : Present) (o : Outcome) : Type 0 where
  pub fits : Fits (apply x o)
  pub fixed : AreFixed x.files.first_opens → AreFixed (apply x o).files.first_opens

-- ---- what changes nothing of the files and the keys

module _ (x : Present) (fits : Fits x) where
  pub stays-left : (o : Outcome) → o.works ≡ [] → o.openings ≡ [] → o.forgotten ≡ [] → o.table ≡ x.files.table → o.own ≡ x.keys.own
      → count_by is_live o.transactions.items ≤ MOST_LIVE → count_by (is_live_enlistment o.transactions.items) o.transactions.enlistments ≤ MOST_LIVE
      → length (x.managers ++ o.made) ≤ MOST_LIVE → length o.handles ≤ MOST_HANDLES → o.transactions.last_transaction ≤ MOST_NUMBER → o.transactions.last_manager ≤ MOST_NUMBER → o.transactions.last_enlistment ≤ MOST_NUMBER
      → Stays x o
  unfolding changes_waiting
  stays-left o works openings forgotten table own live enlisted managers handles lt lm le =
      let same = files-left x o works openings forgotten table in
      let keys : (apply x o).keys ≡ x.keys = λ i. record { store = (committed_with (committed_now x) (works i)).store; own = own i } in
      let room = units-events o.events x.recorded in
      record {
        fits = record {
          changes = (let a = ap file_changes_waiting same in let b = ap keys_unset keys in let c = fits.changes in omega arith);
          live = live;
          enlisted = enlisted;
          managers = (let a = length-map (x.managers ++ o.made) (served o.took o.sent) in omega arith);
          handles = handles;
          last_transaction = lt;
          last_manager = lm;
          last_enlistment = le;
          last_open = (let a = ap (λ (f : FilesNow). f.table.last_open) same in let b = fits.last_open in omega arith);
          next_node = (let a = ap (λ (f : FilesNow). f.table.next_node) same in let b = fits.next_node in omega arith);
          units = (let a = ap units_used same in let b = fits.units in omega arith);
          nodes = (let a = ap nodes_used same in let b = fits.nodes in omega arith);
          keys = (let a = ap keys_used keys in let b = fits.keys in omega arith);
        };
        fixed = λ fixed. subst (λ (f : FilesNow). AreFixed f.first_opens) (sym same) fixed;
      }

  no-managers : length (x.managers ++ []) ≤ MOST_LIVE
  no-managers = let a = length-append x.managers [] in let b = fits.managers in omega arith

  pub stays-reply : (reply : Reply) → Stays x (only_reply x reply)
  stays-reply reply = stays-left (only_reply x reply) refl refl refl refl refl fits.live fits.enlisted no-managers fits.handles fits.last_transaction fits.last_manager fits.last_enlistment

  -- one handle more
  handles-more : (process : Pid) (label : Label) (object : Object) → no_handle_left x.handles ≡ false → length (with_handle x.handles process label object) ≤ MOST_HANDLES
  handles-more process label object left =
      let a = length-append x.handles (record { process = process; label = label; object = object } ∷ []) in
      let b : length x.handles + 1 ≤ MOST_HANDLES = ltb-false MOST_HANDLES (length x.handles + 1) left in
      omega arith

  pub stays-bound : (process : Pid) (label : Label) (object : Object) (reply : Reply) → no_handle_left x.handles ≡ false → Stays x (binding process label object (only_reply x reply))
  stays-bound process label object reply left =
      stays-left (binding process label object (only_reply x reply)) refl refl refl refl refl fits.live fits.enlisted no-managers (handles-more process label object left) fits.last_transaction fits.last_manager fits.last_enlistment

  pub stays-recover_all : (m : Option Manager) → Stays x (recover_all x m)
  stays-recover_all None = stays-reply Done
  stays-recover_all (Some m) = stays-left (recover_all x (Some m)) refl refl refl refl refl fits.live fits.enlisted no-managers fits.handles fits.last_transaction fits.last_manager fits.last_enlistment

  pub stays-take_first : (m : Option Manager) → Stays x (take_first x m)
  stays-take_first None = stays-reply Done
  stays-take_first (Some m) = stays-left (take_first x (Some m)) refl refl refl refl refl fits.live fits.enlisted no-managers fits.handles fits.last_transaction fits.last_manager fits.last_enlistment

  pub stays-open_transaction : (process : Pid) (label : Label) (guid : List ℕ) → Passes (open_transaction_tests x process label guid) → Stays x (open_transaction x process label guid)
  unfolding open_transaction open_transaction_tests
  stays-open_transaction process label guid passes = go (transaction_with x guid)
    where
      left : no_handle_left x.handles ≡ false
      left = (passed (passed (passed passes).1).1).0

      go : (t : Option Transaction) → Stays x (open_to_transaction x process label t)
      go None = stays-reply Done
      go (Some t) = stays-bound process label (Object.Transaction t.id) Done left

  pub stays-open_manager : (process : Pid) (label : Label) (guid : List ℕ) → Passes (open_resource_manager_tests x process label guid) → Stays x (open_resource_manager x process label guid)
  unfolding open_resource_manager open_resource_manager_tests
  stays-open_manager process label guid passes = go (manager_with x guid)
    where
      left : no_handle_left x.handles ≡ false
      left = (passed (passed (passed passes).1).1).0

      go : (m : Option Manager) → Stays x (open_to_manager x process label m)
      go None = stays-reply Done
      go (Some m) = stays-bound process label (Object.Manager m.id) Done left

  pub stays-open_enlistment : (process : Pid) (label : Label) (m : Option Manager) (guid : List ℕ) → Passes (open_enlistment_tests x process label m guid) → Stays x (open_enlistment x process label m guid)
  unfolding open_enlistment open_enlistment_tests
  stays-open_enlistment process label m guid passes = go (enlistment_with x m guid)
    where
      left : no_handle_left x.handles ≡ false
      left = (passed (passed (passed (passed passes).1).1).1).0

      go : (e : Option Enlistment) → Stays x (open_to_enlistment x process label e)
      go None = stays-reply Done
      go (Some e) = stays-bound process label (Object.Enlistment e.id) Done left

  pub stays-duplicate : (process : Pid) (label : Label) (from : Pid) (source : Label) → Passes (duplicate_handle_tests x process label from source) → Stays x (duplicate_handle x process label from source)
  unfolding duplicate_handle duplicate_handle_tests
  stays-duplicate process label from source passes = go (object_at x.handles from source)
    where
      left : no_handle_left x.handles ≡ false
      left = (passed (passed (passed (passed passes).1).1).1).0

      go : (object : Option Object) → Stays x (bind_to x process label object)
      go None = stays-reply Done
      go (Some object) = stays-bound process label object Done left

  pub stays-information : (e : Option Enlistment) (information : List ℕ) → Stays x (keep_information x e information)
  stays-information None information = stays-reply Done
  stays-information (Some e) information =
      let es = x.transactions.enlistments in
      let fade = fade-with (has_id e.id) (λ e. record e { information = information }) es (λ e. record { transaction = refl; kind = refl; read_only = λ is. is; finished = λ is. is }) in
      let less = enlisted-fade x.transactions.items es (with_enlistments (has_id e.id) (λ e. record e { information = information }) es) fade in
      let had = fits.enlisted in
      stays-left (keep_information x (Some e) information) refl refl refl refl refl fits.live (omega arith) no-managers fits.handles fits.last_transaction fits.last_manager fits.last_enlistment

  -- ---- what is made

  pub stays-create_transaction : IsSoundCourse x → (process : Pid) (label : Label) (timeout : ℕ) → Passes (create_transaction_tests x process label) → Stays x (create_transaction x process label timeout)
  unfolding create_transaction create_transaction_tests
  stays-create_transaction sound process label timeout passes =
      let test = or_parts (no_handle_left x.handles) (no_transaction_left x.transactions) (passed (passed passes).1).0 in
      let room = or_parts (nat_lt MOST_LIVE (count_by is_live x.transactions.items + 1)) (nat_lt MOST_NUMBER (x.transactions.last_transaction + 1)) test.1 in
      let live = ltb-false MOST_LIVE (count_by is_live x.transactions.items + 1) room.0 in
      let more = count-append is_live x.transactions.items (new ∷ []) in
      let one : count_by is_live (new ∷ []) ≡ 1 = refl in
      let less = count-less (is_live_enlistment (x.transactions.items ++ new ∷ [])) (is_live_enlistment x.transactions.items) x.transactions.enlistments was in
      let had = fits.enlisted in
      stays-left (create_transaction x process label timeout) refl refl refl refl refl (omega arith) (omega arith) no-managers (handles-more process label (Object.Transaction new.id) test.0)
      (ltb-false MOST_NUMBER (x.transactions.last_transaction + 1) room.1) fits.last_manager fits.last_enlistment
    where
      new : Transaction
      new = record { id = new_id x x.transactions.last_transaction; timeout = timeout; created = x.transactions.clock; phase = Active; outcome = Undetermined; is_recorded = false }

      -- no enlistment is one of it
      was : (e : Enlistment) → IsIn e x.transactions.enlistments → is_live_enlistment (x.transactions.items ++ new ∷ []) e ≡ true → is_live_enlistment x.transactions.items e ≡ true
      was e there is =
          let v = list_any-at (λ t. is_live_in t e) (x.transactions.items ++ new ∷ []) is in
          elim (IsIn-cases v.0 x.transactions.items (new ∷ []) v.1) [
            | inl old ↦ list_any-from (λ t. is_live_in t e) x.transactions.items v.0 old v.2
            | inr (inl same) ↦
                let own = and_parts (same_id e.transaction v.0.id) _ (and_parts (same_id e.transaction v.0.id && not (is_ended v.0.phase)) _ v.2).0 in
                let w = list_any-at (λ (t : Transaction). same_id t.id e.transaction) x.transactions.items (list_all-at (λ (e : Enlistment). has_transaction x.transactions.items e.transaction) x.transactions.enlistments sound.enlistments.transactions_there e there) in
                let other = next-other x.recorded.boots x.transactions.last_transaction w.0.id (list_all-at (λ (t : Transaction). is_counted x.recorded.boots x.transactions.last_transaction t.id) x.transactions.items sound.transactions.counted w.0 w.1) in
                absurd (true≢false (sym (same_id-from w.0.id new.id (same_id-equal w.0.id e.transaction w.2 ∙ same_id-equal e.transaction v.0.id own.0 ∙ ap (λ (t : Transaction). t.id) (sym same))) ∙ other))
            | inr (inr none) ↦ absurd none
          ]

  pub stays-create_manager : (process : Pid) (label : Label) (durability : Durability) → Passes (create_resource_manager_tests x process label) → Stays x (create_resource_manager x process label durability)
  unfolding create_resource_manager create_resource_manager_tests
  stays-create_manager process label durability passes =
      let test = or_parts (no_handle_left x.handles) (no_manager_left x.managers x.transactions) (passed (passed passes).1).0 in
      let room = or_parts (nat_lt MOST_LIVE (length x.managers + 1)) (nat_lt MOST_NUMBER (x.transactions.last_manager + 1)) test.1 in
      let few = ltb-false MOST_LIVE (length x.managers + 1) room.0 in
      let id = new_id x x.transactions.last_manager in
      let more = length-append x.managers (record { id = id; is_durable = is_durable durability; queue = [] } ∷ []) in
      stays-left (create_resource_manager x process label durability) refl refl refl refl refl fits.live fits.enlisted (omega arith) (handles-more process label (Object.Manager id) test.0)
      fits.last_transaction (ltb-false MOST_NUMBER (x.transactions.last_manager + 1) room.1) fits.last_enlistment

  pub stays-create_enlistment : (process : Pid) (label : Label) (m : Option Manager) (t : Option Transaction) (kind : EnlistmentKind) → Passes (create_enlistment_tests x process label m t kind) → Stays x (create_enlistment x process label m t kind)
  unfolding create_enlistment create_enlistment_tests
  stays-create_enlistment process label m t kind passes =
      let test = or_parts (no_handle_left x.handles) (no_enlistment_left x.transactions) (passed (passed (passed (passed (passed (passed (passed (passed passes).1).1).1).1).1).1).1).0 in
      go m t test.0 (or_parts (nat_lt MOST_LIVE (count_by (is_live_enlistment x.transactions.items) x.transactions.enlistments + 1)) (nat_lt MOST_NUMBER (x.transactions.last_enlistment + 1)) test.1)
    where
      go : (m : Option Manager) (t : Option Transaction) → no_handle_left x.handles ≡ false
          → (nat_lt MOST_LIVE (count_by (is_live_enlistment x.transactions.items) x.transactions.enlistments + 1) ≡ false) × (nat_lt MOST_NUMBER (x.transactions.last_enlistment + 1) ≡ false)
          → Stays x (enlist x process label m t kind)
      go None t left room = stays-reply Done
      go (Some m) None left room = stays-reply Done
      go (Some m) (Some t) left room =
          let id = new_id x x.transactions.last_enlistment in
          let new : Enlistment = record { id = id; manager = m.id; transaction = t.id; kind = kind; owes = None; is_read_only = false; is_prepared = false; is_finished = false; is_recovered = true; information = [] } in
          let few = ltb-false MOST_LIVE (count_by (is_live_enlistment x.transactions.items) x.transactions.enlistments + 1) room.0 in
          let more = count-append (is_live_enlistment x.transactions.items) x.transactions.enlistments (new ∷ []) in
          let one : count_by (is_live_enlistment x.transactions.items) (new ∷ []) ≤ 1 = one-at-most' (is_live_enlistment x.transactions.items) new in
          stays-left (enlist x process label (Some m) (Some t) kind) refl refl refl refl refl fits.live (omega arith) no-managers (handles-more process label (Object.Enlistment id) left)
          fits.last_transaction fits.last_manager (ltb-false MOST_NUMBER (x.transactions.last_enlistment + 1) room.1)
        where
          one-at-most' : (test : Enlistment → Bool) (e : Enlistment) → count_by test (e ∷ []) ≤ 1
          one-at-most' test e = let low = one-at-most test e in omega arith

  -- ---- keys

  stays-own : (o : Outcome) → o.works ≡ [] → o.openings ≡ [] → o.forgotten ≡ [] → o.table ≡ x.files.table → o.transactions ≡ x.transactions → o.handles ≡ x.handles → o.made ≡ []
      → keys_used (record { store = x.keys.store; own = o.own }) ≤ x.recorded.units → file_changes_waiting x.files + keys_unset (record { store = x.keys.store; own = o.own }) ≤ x.recorded.units → Stays x o
  unfolding changes_waiting
  stays-own o works openings forgotten table transactions handles made used unset =
      let same = files-left x o works openings forgotten table in
      let keys : (apply x o).keys ≡ record { store = x.keys.store; own = o.own } = λ i. record { store = (committed_with (committed_now x) (works i)).store; own = o.own } in
      let room = units-events o.events x.recorded in
      record {
        fits = record {
          changes = (let a = ap file_changes_waiting same in let b = ap keys_unset keys in omega arith);
          live = subst (λ (ts : Transactions). count_by is_live ts.items ≤ MOST_LIVE) (sym transactions) fits.live;
          enlisted = subst (λ (ts : Transactions). count_by (is_live_enlistment ts.items) ts.enlistments ≤ MOST_LIVE) (sym transactions) fits.enlisted;
          managers = (let a = length-map (x.managers ++ o.made) (served o.took o.sent) in let b = length-append x.managers o.made in let c = ap length made in let d = fits.managers in omega arith);
          handles = subst (λ (hs : List Handle). length hs ≤ MOST_HANDLES) (sym handles) fits.handles;
          last_transaction = subst (λ (ts : Transactions). ts.last_transaction ≤ MOST_NUMBER) (sym transactions) fits.last_transaction;
          last_manager = subst (λ (ts : Transactions). ts.last_manager ≤ MOST_NUMBER) (sym transactions) fits.last_manager;
          last_enlistment = subst (λ (ts : Transactions). ts.last_enlistment ≤ MOST_NUMBER) (sym transactions) fits.last_enlistment;
          last_open = (let a = ap (λ (f : FilesNow). f.table.last_open) same in let b = fits.last_open in omega arith);
          next_node = (let a = ap (λ (f : FilesNow). f.table.next_node) same in let b = fits.next_node in omega arith);
          units = (let a = ap units_used same in let b = fits.units in omega arith);
          nodes = (let a = ap nodes_used same in let b = fits.nodes in omega arith);
          keys = (let a = ap keys_used keys in omega arith);
        };
        fixed = λ fixed. subst (λ (f : FilesNow). AreFixed f.first_opens) (sym same) fixed;
      }

  unset-less : (who : Option Id) (key value : List ℕ) → keys_unset (record { store = x.keys.store; own = with_setting x.keys.own who key (Some value) }) ≤ keys_unset x.keys
  unset-less None key value = omega arith
  unset-less (Some id) key value = counted-with_own-le (λ s. is_none s.value) id key (Some value) refl x.keys.own

  used-less : (who : Option Id) (key : List ℕ) → keys_used (record { store = x.keys.store; own = with_setting x.keys.own who key None }) ≤ keys_used x.keys
  used-less None key = omega arith
  used-less (Some id) key = let less = counted-with_own-le (λ s. is_some s.value) id key None refl x.keys.own in omega arith

  pub stays-set : (process : Pid) (label : Label) (key value : List ℕ) → Passes (transacted x process label (kv_set_tests x.keys (key_room x) (caller x process label) key value)) → Stays x (of_keys x (kv_set x.keys (caller x process label) key value))
  unfolding key_room changes_waiting
  stays-set process label key value passes =
      let own = (passed (passed (passed (passed passes).1).1).1).1 in
      let used = ltb-false x.recorded.units (keys_used (record { store = x.keys.store; own = with_setting x.keys.own (caller x process label) key (Some value) })) (passed (passed (passed own).1).1).0 in
      let unset = unset-less (caller x process label) key value in
      let had = fits.changes in
      stays-own (of_keys x (kv_set x.keys (caller x process label) key value)) refl refl refl refl refl refl refl used (omega arith)

  pub stays-unset : (process : Pid) (label : Label) (key : List ℕ) → Passes (transacted x process label (kv_unset_tests x.keys (key_room x) (caller x process label) key)) → Stays x (of_keys x (kv_unset x.keys (caller x process label) key))
  unfolding key_room changes_waiting
  stays-unset process label key passes =
      let own = (passed (passed (passed (passed passes).1).1).1).1 in
      let unset = ltb-false (x.recorded.units - file_changes_waiting x.files) (keys_unset (record { store = x.keys.store; own = with_setting x.keys.own (caller x process label) key None })) (passed (passed (passed (passed own).1).1).1).0 in
      let used = used-less (caller x process label) key in
      let had = fits.changes in
      let had' = fits.keys in
      stays-own (of_keys x (kv_unset x.keys (caller x process label) key)) refl refl refl refl refl refl refl (omega arith) (omega arith)

-- ---- courses

-- an enlistment of a transaction that has ended owes nothing
ended-idle : (e : Enlistment) → is_enlistment_as Ended e ≡ true → is_none e.owes ≡ true
ended-idle e is = elim (if_parts (is_superior e) (is_idle e && not e.is_read_only) (if e.is_read_only then is_idle e else (is_none e.owes && e.is_finished)) is) [
  | inl above ↦ idle (and_parts (is_idle e) (not e.is_read_only) above.1).0
  | inr below ↦ elim (if_parts e.is_read_only (is_idle e) (is_none e.owes && e.is_finished) below.1) [ inl read ↦ idle read.1 | inr part ↦ (and_parts (is_none e.owes) e.is_finished part.1).0 ]
]
  where
    idle : is_idle e ≡ true → is_none e.owes ≡ true
    idle both = (and_parts (is_none e.owes) (not e.is_prepared) (and_parts (is_none e.owes && not e.is_prepared) (not e.is_finished) both).0).0

-- an enlistment that takes part in a transaction that has ended has finished
ended-finished : (e : Enlistment) → is_enlistment_as Ended e ≡ true → is_superior e ≡ false → e.is_read_only ≡ false → e.is_finished ≡ true
ended-finished e is below part = let both : (is_none e.owes && e.is_finished) ≡ true = rw (below, part) at is in (and_parts (is_none e.owes) e.is_finished both).1

-- is the phase one of a transaction that has not ended
abbrev Going : (Phase → Bool) → Type 0
Going test = test Ended ≡ false

-- a phase that passes such a test
going-live : (test : Phase → Bool) → Going test → (t : Transaction) → test t.phase ≡ true → is_live t ≡ true
going-live test going t = go t.phase
  where
    go : (phase : Phase) → test phase ≡ true → is_live (record t { phase = phase }) ≡ true
    go Ended is = absurd (true≢false (sym is ∙ going))
    go _ is = refl

module _ (lists : ListsLaw) (formed : FormedLaw) (x : Present) (course : IsSoundCourse x) (sound : IsSoundFiles x) (fits : Fits x) (fixed : AreFixed x.files.first_opens) where
  order : AreInOrder x
  order = record { transactions_rise = course.transactions.rise; labels_differ = course.handles.labels_differ }

  pub stays-spent : (o : Outcome) → Spends lists formed x o → Stays x o
  stays-spent o spends = record { fits = no_more-fits x (apply x o) (spends.less order sound fixed) fits; fixed = fixed-after lists formed x o spends.goes.opens }

  stays-course : (t : Transaction) (caller : Option Enlistment) (input : PhaseInput) (reply : Course → Reply) → IsIn t x.transactions.items → is_live t ≡ true
      → Stays x (arrived x (led input (course_of x t caller)) (reply (led input (course_of x t caller))))
  stays-course t caller input reply there live =
      stays-spent _ (course-spends lists formed x t caller input reply there (transaction_at-there x.transactions.items course.transactions.rise t there) live)

  pub stays-commit : (t : Option Transaction) → ((u : Transaction) → t ≡ Some u → IsIn u x.transactions.items) → Passes (transaction_tests t) → Stays x (commit_of x t)
  stays-commit None there passes = stays-reply x fits Done
  stays-commit (Some t) there passes =
      let active = not-not (is_active t) (passed (passed (passed (passed passes).1).1).1).0 in
      stays-course t None PhaseInput.CommitTransaction commit_reply (there t refl) (active-live t active)

  pub stays-rollback : (t : Option Transaction) → ((u : Transaction) → t ≡ Some u → IsIn u x.transactions.items) → Passes (rollback_transaction_tests t) → Stays x (rollback_of x t)
  stays-rollback None there passes = stays-reply x fits Done
  stays-rollback (Some t) there passes =
      let may = not-not (may_roll_back t) (passed (passed (passed (passed passes).1).1).1).0 in
      stays-course t None PhaseInput.Rollback (λ c. Done) (there t refl) (rolling-live t may)

  -- the transaction of an enlistment, which is live, goes on by what comes from it
  stays-answering : (o : Option Enlistment) (input : Enlistment → PhaseInput) → ((e : Enlistment) → o ≡ Some e → (t : Transaction) → transaction_in x e ≡ Some t → IsIn t x.transactions.items → same_id e.transaction t.id ≡ true → is_live t ≡ true)
      → Stays x (answering x o input)
  stays-answering o input live = of-answering (Stays x) x o input (stays-reply x fits Done) (λ e is t there own found. stays-course t (Some e) (input e) (λ c. Done) there (live e is t found there own))

  -- an enlistment is as the phase of its transaction asks
  as-asked : (e : Enlistment) → IsIn e x.transactions.enlistments → (t : Transaction) → IsIn t x.transactions.items → same_id e.transaction t.id ≡ true → is_enlistment_as t.phase e ≡ true
  as-asked e there t in_ts own =
      let all = list_all-at (are_enlistments_as_asked x.transactions.enlistments) x.transactions.items course.phases.enlistments t in_ts in
      elim (or_cases (not (same_id e.transaction t.id)) (is_enlistment_as t.phase e) (list_all-at (λ (e : Enlistment). not (same_id e.transaction t.id) || is_enlistment_as t.phase e) x.transactions.enlistments all e there)) [
        | inl other ↦ absurd (true≢false (sym own ∙ not-true _ other))
        | inr is ↦ is
      ]

  ended-phase : (t : Transaction) → is_ended t.phase ≡ true → t.phase ≡ Ended
  ended-phase t = go t.phase
    where
      go : (phase : Phase) → is_ended phase ≡ true → phase ≡ Ended
      go Ended is = refl
      go _ is = absurd (true≢false (sym is))

  doubtful : (t : Transaction) → is_in_doubt t ≡ true → is_ended t.phase ≡ false
  doubtful t = go t.phase
    where
      go : (phase : Phase) → is_in_doubt (record t { phase = phase }) ≡ true → is_ended phase ≡ false
      go InDoubt is = refl
      go _ is = absurd (true≢false (sym is))

  -- one that is not recovered takes part, and has not finished
  unrecovered : (e : Enlistment) → IsIn e x.transactions.enlistments → e.is_recovered ≡ false → (e.is_read_only ≡ false) × (e.is_finished ≡ false)
  unrecovered e there not' = elim (or_cases e.is_recovered _ (list_all-at (is_unrecovered_well x.recorded.boots x.managers) x.transactions.enlistments course.enlistments.unrecovered e there)) [
    | inl is ↦ absurd (true≢false (sym is ∙ not'))
    | inr back ↦
        let e' = and_parts _ (is_superior e || e.is_prepared) back in
        let d = and_parts _ (is_none e.owes) e'.0 in
        let c = and_parts _ (not e.is_finished) d.0 in
        let b = and_parts _ (not e.is_read_only) c.0 in
        (not-true _ b.1, not-true _ c.1)
  ]

  -- where it owes an answer
  owing-live : (e : Enlistment) → IsIn e x.transactions.enlistments → (owed : Owed) → e.owes ≡ Some owed → (t : Transaction) → IsIn t x.transactions.items → same_id e.transaction t.id ≡ true → is_live t ≡ true
  owing-live e there owed owes t in_ts own = phase-live t (elim (cases_Bool (is_ended t.phase)) [
    | inr going ↦ going
    | inl over ↦ absurd (true≢false (sym (ended-idle e (subst (λ p. is_enlistment_as p e ≡ true) (ended-phase t over) (as-asked e there t in_ts own))) ∙ ap is_none owes))
  ])

  module _ (o : Option Enlistment) (there : (e : Enlistment) → o ≡ Some e → IsIn e x.transactions.enlistments) where
    pub stays-pre_prepare_complete : Passes (enlistment_tests o owes_pre_prepare) → Stays x (answering x o (λ e. PhaseInput.PrePrepareComplete))
    stays-pre_prepare_complete tests = stays-answering o (λ e. PhaseInput.PrePrepareComplete) (λ e is t found in_ts own. owing-live e (there e is) Owed.PrePrepare (owed-pre_prepare e (enlistment-allowed o owes_pre_prepare e is tests)) t in_ts own)

    pub stays-prepare_complete : Passes (enlistment_tests o owes_prepare) → Stays x (answering x o (λ e. PhaseInput.PrepareComplete))
    stays-prepare_complete tests = stays-answering o (λ e. PhaseInput.PrepareComplete) (λ e is t found in_ts own. owing-live e (there e is) Owed.Prepare (owed-prepare e (enlistment-allowed o owes_prepare e is tests)) t in_ts own)

    pub stays-commit_complete : Passes (enlistment_tests o owes_commit) → Stays x (answering x o (λ e. PhaseInput.CommitComplete))
    stays-commit_complete tests = stays-answering o (λ e. PhaseInput.CommitComplete) (λ e is t found in_ts own. owing-live e (there e is) Owed.Commit (owed-commit e (enlistment-allowed o owes_commit e is tests)) t in_ts own)

    pub stays-rollback_complete : Passes (enlistment_tests o owes_rollback) → Stays x (answering x o (λ e. PhaseInput.RollbackComplete))
    stays-rollback_complete tests = stays-answering o (λ e. PhaseInput.RollbackComplete) (λ e is t found in_ts own. owing-live e (there e is) Owed.Rollback (owed-rollback e (enlistment-allowed o owes_rollback e is tests)) t in_ts own)

    pub stays-read_only : Passes (enlistment_tests o (may_vote x)) → Stays x (answering x o (λ e. PhaseInput.ReadOnly (share_of e)))
    stays-read_only tests = stays-answering o (λ e. PhaseInput.ReadOnly (share_of e)) (λ e is t found in_ts own.
        going-live is_voting refl t (phase-passed x is_voting e t found (and_parts _ (phase_passes x is_voting e) (enlistment-allowed o (may_vote x) e is tests)).1))

    pub stays-single_phase_reject : Passes (enlistment_tests o (may_reject_one_phase x)) → Stays x (answering x o (λ e. PhaseInput.SinglePhaseReject))
    stays-single_phase_reject tests = stays-answering o (λ e. PhaseInput.SinglePhaseReject) (λ e is t found in_ts own.
        going-live is_single_phase refl t (phase-passed x is_single_phase e t found (and_parts (phase_passes x is_single_phase e) _ (enlistment-allowed o (may_reject_one_phase x) e is tests)).0))

    pub stays-rollback_enlistment : Passes (enlistment_tests o (may_roll_back_by x)) → Stays x (answering x o (λ e. PhaseInput.Rollback))
    stays-rollback_enlistment tests = stays-answering o (λ e. PhaseInput.Rollback) (λ e is t found in_ts own. elim (if_parts (is_superior e) (phase_passes x lets_superior_roll_back e) (may_vote x e) (enlistment-allowed o (may_roll_back_by x) e is tests)) [
      | inl above ↦ going-live lets_superior_roll_back refl t (phase-passed x lets_superior_roll_back e t found above.1)
      | inr below ↦ going-live is_voting refl t (phase-passed x is_voting e t found (and_parts _ (phase_passes x is_voting e) below.1).1)
    ])

    pub stays-pre_prepare_enlistment : Passes (superior_tests x o before_pre_prepare) → Stays x (answering x o (λ e. PhaseInput.PrePrepare))
    stays-pre_prepare_enlistment tests = stays-answering o (λ e. PhaseInput.PrePrepare) (λ e is t found in_ts own. going-live before_pre_prepare refl t (phase-passed x before_pre_prepare e t found (superior-allowed x o before_pre_prepare e is tests)))

    pub stays-prepare_enlistment : Passes (superior_tests x o before_prepare) → Stays x (answering x o (λ e. PhaseInput.Prepare))
    stays-prepare_enlistment tests = stays-answering o (λ e. PhaseInput.Prepare) (λ e is t found in_ts own. going-live before_prepare refl t (phase-passed x before_prepare e t found (superior-allowed x o before_prepare e is tests)))

    pub stays-commit_enlistment : Passes (superior_tests x o waits_for_superior) → Stays x (answering x o (λ e. PhaseInput.Commit))
    stays-commit_enlistment tests = stays-answering o (λ e. PhaseInput.Commit) (λ e is t found in_ts own. going-live waits_for_superior refl t (phase-passed x waits_for_superior e t found (superior-allowed x o waits_for_superior e is tests)))

    pub stays-recover_enlistment : Passes (enlistment_tests o (may_recover x)) → Stays x (answering x o recovery_of)
    stays-recover_enlistment tests = stays-answering o recovery_of (λ e is t found in_ts own. phase-live t (elim (cases_Bool (is_ended t.phase)) [
      | inr going ↦ going
      | inl over ↦
          let may = and_parts (not e.is_recovered) _ (enlistment-allowed o (may_recover x) e is tests) in
          let asked = subst (λ p. is_enlistment_as p e ≡ true) (ended-phase t over) (as-asked e (there e is) t in_ts own) in
          absurd (elim (or_cases (not (is_superior e)) (holds_of is_in_doubt (transaction_in x e)) may.1) [
            | inl below ↦
                let back = unrecovered e (there e is) (not-true _ may.0) in
                true≢false (sym (ended-finished e asked (not-true _ below) back.0) ∙ back.1)
            | inr doubt ↦ true≢false (sym over ∙ doubtful t (subst (λ n. holds_of is_in_doubt n ≡ true) found doubt))
          ])
    ]))
