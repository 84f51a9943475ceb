-- What a command tells by notifications is so, and stays so.
use Rattle.std.proofs.Common.{◌≡◌, ℕ, zero, suc, not, Bool, true, false, List, [], ◌∷◌, ◌++◌, map, filter, drop, Option, Some, None, refl, sym, ◌∙◌, ap, subst, inl, inr, ◌⊎◌}
use Rattle.std.proofs.lemmas.Bool.{true≢false}
use Rattle.std.proofs.lemmas.Option.{none-some, same_Some}
use Rattle.ktm_base.specs.declared.id.Id.{Id}
use Rattle.ktm_base.specs.declared.id.Label.{Label}
use Rattle.ktm_base.specs.declared.id.Pid.{Pid}
use Rattle.ktm_base.specs.declared.notify.Notify.{Notify}
use Rattle.ktm_base.specs.declared.refusal.Refusal.{Refusal}
use Rattle.ktm_base.specs.declared.refusal.Refusal.TheVariants.{MachineDown}
use Rattle.ktm_world.specs.declared.change.Change.{Change}
use Rattle.ktm_world.specs.declared.command.Command.{Command}
use Rattle.ktm_world.specs.declared.command.Command.TheVariants.{CreateTransaction, OpenTransaction, CommitTransaction, RollbackTransaction, GetTransactionInformation, CreateResourceManager, OpenResourceManager, RecoverResourceManager, GetNotificationResourceManager, CreateEnlistment, OpenEnlistment, RecoverEnlistment, PrePrepareComplete, PrepareComplete, ReadOnlyEnlistment, CommitComplete, RollbackComplete, SinglePhaseReject, RollbackEnlistment, PrePrepareEnlistment, PrepareEnlistment, CommitEnlistment, SetEnlistmentRecoveryInformation, GetEnlistmentRecoveryInformation, CreateFile, CreateFileTransacted, ReadFile, WriteFile, SetEndOfFile, WriteUnits, GetFileSizeEx, FlushFileBuffers, DeleteFile, CreateDirectory, RemoveDirectory, MoveFile, DeleteFileTransacted, CreateDirectoryTransacted, RemoveDirectoryTransacted, MoveFileTransacted, FindFiles, FindFilesTransacted, KvSet, KvUnset, KvGet, KvList, CloseHandle, DuplicateHandle, Exit}
use Rattle.ktm_world.specs.declared.event.Event.{Event}
use Rattle.ktm_world.specs.declared.event.Event.TheVariants.{MadeRm}
use Rattle.ktm_world.specs.declared.input.PhaseInput.{PhaseInput}
use Rattle.ktm_world.specs.declared.object.Object.{Object}
use Rattle.ktm_world.specs.declared.object.Object.TheVariants.{Transaction as TransactionObject, Manager as ManagerObject, Enlistment as EnlistmentObject, File as FileObject}
use Rattle.ktm_world.specs.declared.object.Transaction.{Transaction}
use Rattle.ktm_world.specs.declared.object.TransactionOutcome.{TransactionOutcome}
use Rattle.ktm_world.specs.declared.options.Durability.{Durability}
use Rattle.ktm_world.specs.declared.options.EnlistmentKind.{EnlistmentKind}
use Rattle.ktm_world.specs.declared.reply.Reply.{Reply}
use Rattle.ktm_world.specs.declared.reply.Reply.TheVariants.{Refused, Done}
use Rattle.ktm_world.specs.Decide.{decide, caller, command_effect, refusal_of, of_files, opening, on_file, bound_file, events_of}
use Rattle.ktm_world.specs.Durable.{Durable, after_events, stand}
use Rattle.ktm_world.specs.Enlistments.{Enlistment, Manager, Note, Sent, has_id, notes_for, taken_count}
use Rattle.ktm_world.specs.FileCalls.{create_file, delete_file, create_directory, remove_directory, move_file, find_files}
use Rattle.ktm_world.specs.FileOutcome.{FileOutcome}
use Rattle.ktm_world.specs.Files.{OpenFile, own_changes}
use Rattle.ktm_world.specs.Keys.{own_settings}
use Rattle.ktm_world.specs.HandleCalls.{bind_to, duplicate_handle}
use Rattle.ktm_world.specs.Handles.{object_at}
use Rattle.ktm_world.specs.Labels.{transaction_named, manager_named, enlistment_named, file_named, binding}
use Rattle.ktm_world.specs.OneOutcome.{told_by, told_outcome}
use Rattle.ktm_world.specs.Outcome.{Outcome, apply, only_reply, joined, served, refuse_or, first_refusal}
use Rattle.ktm_world.specs.Phases.{Course}
use Rattle.ktm_world.specs.Present.{Present, Transactions}
use Rattle.ktm_world.specs.TransactionCalls.{course_of, arrived, new_id, create_transaction, transaction_with, open_to_transaction, open_transaction, commit_of, commit_transaction, aborted_by, rollback_of, rollback_transaction, get_transaction_information, tick, is_durable, create_resource_manager, manager_with, open_to_manager, open_resource_manager, is_to_recover, recover_all, recover_resource_manager, take_first, get_notification, enlist, create_enlistment, enlistment_with, open_to_enlistment, open_enlistment, answering, pre_prepare_complete, prepare_complete, read_only_enlistment, commit_complete, rollback_complete, single_phase_reject, rollback_enlistment, pre_prepare_enlistment, prepare_enlistment, commit_enlistment, recover_enlistment, keep_information, set_information, get_information, recovery_of}
use Rattle.ktm_world.specs.Transactions.{same_id, is_undecided}
use Rattle.ktm_world.specs.World.{ManagerPast, manager_now, decide_tick}
use Rattle.ktm_world.specs.Logs.{Group}
use Rattle.ktm_world.proofs.offered.Durables.{after_events-append}
use Rattle.ktm_world.specs.Steps.{led, share_of}
use Rattle.ktm_steps.specs.Outcomes.{TellsOnly}
use Rattle.txf_laws.proofs.offered.CommitsOfOthers.{All-in}
use Rattle.txf_laws.specs.Elements.{IsIn}
use Rattle.ktm_laws.specs.Notes.{IsToldTruly, AreNotesTrue, NotesLaw}
use Rattle.ktm_courses.specs.Outcomes.{OutcomesStay, OutcomesLaw}
use Rattle.ktm_courses.specs.SoundCourse.{IsSoundCourse, is_outcome_of}
use Rattle.ktm_courses.proofs.offered.Arrivals.{changed_to, IsIn-changed}
use Rattle.ktm_courses.proofs.offered.Bindings.{StaysSound, stays-closing, stays-then}
use Rattle.ktm_courses.proofs.offered.Beginnings.{sound-clock}
use Rattle.ktm_courses.proofs.offered.Calls.{transaction-named, enlistment-named, of-answering}
use Rattle.ktm_owned.proofs.offered.CoursesKept.{IsCourse, led-is}
use Rattle.txf_laws.proofs.offered.Diamonds.{IsIn-map}
use Rattle.txf_laws.proofs.offered.Elements.{IsIn-filter, list_all-at}
use Rattle.txf_laws.proofs.offered.Lists.{IsIn-left, IsIn-cases, IsIn-unmap}
use Rattle.ktm_courses.proofs.offered.Moves.{same-by_id, NoBoots}
use Rattle.ktm_courses.proofs.offered.Outcomes.{changed-itself}
use Rattle.ktm_laws.proofs.Sayings.{Only, Says, naming, naming-with, says-led}
use Rattle.txf_laws.proofs.offered.Tables.{same_id-equal, same_id-from}
use Rattle.ktm_courses.proofs.offered.OutcomesMade.{events-kept}
use Rattle.ktm_courses.proofs.offered.HandlesAndTime.{Closes, close_handle-so, exit-so, tick-so}
use Rattle.ktm_steps.proofs.offered.Ways.{if_cases}

-- ---- what an outcome leaves

-- each enlistment is there still, with its transaction
pub record EnlistmentsStay (es fs : List Enlistment) : Type 0 where
  pub each : (e : Enlistment) → IsIn e es → (f : Enlistment) × IsIn f fs × (f.id ≡ e.id) × (f.transaction ≡ e.transaction)

-- each transaction was there before, or is of this boot
pub record ComeFrom (boot : ℕ) (ts us : List Transaction) : Type 0 where
  pub each : (u : Transaction) → IsIn u us → ((t : Transaction) × IsIn t ts × (t.id ≡ u.id)) ⊎ (u.id.boot ≡ boot)

-- what an outcome tells by notifications is so, and it leaves enlistments and the boot
pub record IsHonest (x : Present) (o : Outcome) : Type 0 where
  pub enlistments : EnlistmentsStay x.transactions.enlistments o.transactions.enlistments
  pub comes : ComeFrom x.recorded.boots x.transactions.items o.transactions.items
  pub sent : (s : Sent) (k : Bool) → IsIn s o.sent → told_by s.note.kind ≡ Some k → IsToldTruly o.transactions s.note k
  pub made : (m : Manager) → IsIn m o.made → m.queue ≡ []
  pub boots : (after_events x.recorded o.events).boots ≡ x.recorded.boots

enlistments-same : (es fs : List Enlistment) → fs ≡ es → EnlistmentsStay es fs
enlistments-same es fs same = record { each = λ e there. (e, subst (IsIn e) (sym same) there, refl, refl) }

come-same : (boot : ℕ) (ts us : List Transaction) → us ≡ ts → ComeFrom boot ts us
come-same boot ts us same = record { each = λ u there. inl (u, subst (IsIn u) same there, refl) }

-- nothing is told
honest-quiet : (x : Present) (o : Outcome) → o.transactions.enlistments ≡ x.transactions.enlistments → o.transactions.items ≡ x.transactions.items → o.sent ≡ [] → o.made ≡ []
    → (after_events x.recorded o.events).boots ≡ x.recorded.boots → IsHonest x o
honest-quiet x o enlistments items sent made boots = record {
  enlistments = enlistments-same x.transactions.enlistments o.transactions.enlistments enlistments;
  comes = come-same x.recorded.boots x.transactions.items o.transactions.items items;
  sent = λ s k there. absurd (subst (IsIn s) sent there);
  made = λ m there. absurd (subst (IsIn m) made there);
  boots = boots;
}

honest-reply : (x : Present) (reply : Reply) → IsHonest x (only_reply x reply)
honest-reply x reply = honest-quiet x (only_reply x reply) refl refl refl refl refl

honest-bound : (x : Present) (process : Pid) (label : Label) (object : Object) (o : Outcome) → IsHonest x o → IsHonest x (binding process label object o)
honest-bound x process label object o honest = record { enlistments = honest.enlistments; comes = honest.comes; sent = honest.sent; made = honest.made; boots = honest.boots }

-- ---- what was told stays so

pub known : (t : Transaction) (k : Bool) → told_outcome t.outcome ≡ Some k → is_undecided t ≡ false
known t k = go t.outcome
  where
    go : (outcome : TransactionOutcome) → told_outcome outcome ≡ Some k → is_undecided (record t { outcome = outcome }) ≡ false
    go TransactionOutcome.Undetermined is = absurd (none-some k is)
    go TransactionOutcome.Committed is = refl
    go TransactionOutcome.Aborted is = refl

pub truly-still : (ts us : Transactions) (note : Note) (k : Bool) → EnlistmentsStay ts.enlistments us.enlistments → OutcomesStay ts.items us.items → IsToldTruly ts note k → IsToldTruly us note k
truly-still ts us note k stay outcomes truly =
    let e = stay.each truly.enlistment truly.enlisted in
    let t = outcomes.each truly.transaction truly.there in
    record {
      enlistment = e.0;
      enlisted = e.1;
      named = truly.named ∙ ap Some (sym e.2);
      transaction = t.0;
      there = t.1;
      own = t.2 ∙ truly.own ∙ sym e.3;
      outcome = ap told_outcome (t.3 (known truly.transaction k truly.outcome)) ∙ truly.outcome;
    }

IsIn-drop : {X : Type 0} (n : ℕ) (xs : List X) (x : X) → IsIn x (drop n xs) → IsIn x xs
IsIn-drop zero xs x there = there
IsIn-drop (suc n) [] x there = there
IsIn-drop (suc n) (y ∷ ys) x there = inr (IsIn-drop n ys x there)

pub notes-after : (x : Present) (o : Outcome) → IsHonest x o → OutcomesStay x.transactions.items o.transactions.items → AreNotesTrue x → AreNotesTrue (apply x o)
notes-after x o honest outcomes notes = record {
  each = λ m note k there waits tells.
      let from = IsIn-unmap (served o.took o.sent) m (x.managers ++ o.made) there in
      let waits' = subst (λ (n : Manager). IsIn note n.queue) (sym from.1) waits in
      elim (IsIn-cases note (drop (taken_count from.0.id o.took) from.0.queue) (notes_for from.0.id o.sent) waits') [
        | inl old ↦
            let in_queue = IsIn-drop (taken_count from.0.id o.took) from.0.queue note old in
            elim (IsIn-cases from.0 x.managers o.made from.2) [
              | inl was ↦ truly-still x.transactions o.transactions note k honest.enlistments outcomes (notes.each from.0 note k was in_queue tells)
              | inr new ↦ absurd (subst (IsIn note) (honest.made from.0 new) in_queue)
            ]
        | inr new ↦
            let s = IsIn-unmap (λ (s : Sent). s.note) note (filter (λ (s : Sent). same_id s.manager from.0.id) o.sent) new in
            subst (λ n. IsToldTruly o.transactions n k) s.1 (honest.sent s.0 k (IsIn-filter (λ (s : Sent). same_id s.manager from.0.id) o.sent s.0 s.2).0 (ap (λ (n : Note). told_by n.kind) s.1 ∙ tells))
      ];
}

-- ---- one outcome, and then another

honest-joined : (x : Present) (a b : Outcome) → IsHonest x a → IsHonest (apply x a) b → OutcomesStay a.transactions.items b.transactions.items → IsHonest x (joined a b)
honest-joined x a b first second outcomes = record {
  enlistments = record {
    each = λ e there.
        let f = first.enlistments.each e there in
        let g = second.enlistments.each f.0 f.1 in
        (g.0, g.1, g.2 ∙ f.2, g.3 ∙ f.3);
  };
  comes = record {
    each = λ u there. elim (second.comes.each u there) [
      | inl (t, was, same) ↦ elim (first.comes.each t was) [ inl (t', was', same') ↦ inl (t', was', same' ∙ same) | inr boot ↦ inr (ap (λ (i : Id). i.boot) (sym same) ∙ boot) ]
      | inr boot ↦ inr (boot ∙ first.boots)
    ];
  };
  sent = λ s k there tells. elim (IsIn-cases s a.sent b.sent there) [
    | inl before ↦ truly-still a.transactions b.transactions s.note k second.enlistments outcomes (first.sent s k before tells)
    | inr after' ↦ second.sent s k after' tells
  ];
  made = λ m there. elim (IsIn-cases m a.made b.made there) [ inl before ↦ first.made m before | inr after' ↦ second.made m after' ];
  boots = ap (λ (s : Durable). s.boots) (after_events-append x.recorded a.events b.events) ∙ second.boots ∙ first.boots;
}

-- ---- a course has arrived

-- what comes of a call that brings a transaction on its way, with what was told and recorded by then
pub record ByCourse (x : Present) (o : Outcome) : Type 0 where
  pub transaction : Transaction
  pub there : IsIn transaction x.transactions.items
  pub course : Course
  pub reply : Reply
  pub is : o ≡ arrived x course reply
  pub own : IsCourse transaction (own_changes x.files.table.own transaction.id) (own_settings x.keys.own transaction.id) course
  pub says : Says (map naming x.transactions.enlistments) transaction.id course

-- nothing but a reply comes, or a transaction came on its way
abbrev pub Comes : Present → Outcome → Type 0
Comes x o = ((reply : Reply) × (o ≡ only_reply x reply)) ⊎ ByCourse x o

-- the transactions once a course has arrived
abbrev arrival_of : Present → Course → Transactions
arrival_of x d = record x.transactions { items = changed_to x.transactions.items d.transaction; enlistments = d.enlistments }

module _ (x : Present) (sound : IsSoundCourse x) where
  abbrev names : List (Id × Id)
  names = map naming x.transactions.enlistments

  honest-arrived : (t : Transaction) (d : Course) (reply : Reply) → IsIn t x.transactions.items → Says names t.id d → NoBoots d.events → IsHonest x (arrived x d reply)
  honest-arrived t d reply there says no_boots = if_cases (λ o. IsHonest x o) (is_undecided d.transaction) _ _
      (λ undecided. record { enlistments = stay; comes = come; sent = sent; made = λ m none. absurd none; boots = (events-kept d.events x.recorded no_boots).0 })
      (λ decided. record { enlistments = stay; comes = come; sent = sent; made = λ m none. absurd none; boots = (events-kept d.events x.recorded no_boots).0 })
    where
      stay : EnlistmentsStay x.transactions.enlistments d.enlistments
      stay = record {
        each = λ e was.
            let from = IsIn-unmap naming (naming e) d.enlistments (subst (IsIn (naming e)) (sym says.named) (IsIn-map naming e x.transactions.enlistments was)) in
            (from.0, from.2, ap (λ (p : Id × Id). p.0) from.1, ap (λ (p : Id × Id). p.1) from.1);
      }

      come : ComeFrom x.recorded.boots x.transactions.items (changed_to x.transactions.items d.transaction)
      come = record {
        each = λ u is. elim (IsIn-changed x.transactions.items d.transaction u sound.transactions.rise is) [
          | inl e ↦ inl (t, there, sym says.id ∙ ap (λ (v : Transaction). v.id) (sym e))
          | inr old ↦ inl (u, old.0, refl)
        ];
      }

      sent : (s : Sent) (k : Bool) → IsIn s d.sent → told_by s.note.kind ≡ Some k → IsToldTruly (arrival_of x d) s.note k
      sent s k is tells =
          let about = says.about s is in
          let from = IsIn-unmap naming (about.0, t.id) d.enlistments (subst (IsIn (about.0, t.id)) (sym says.named) about.2) in
          elim (All-in (λ (s : Sent). TellsOnly (told_outcome d.transaction.outcome) s.note.kind) d.sent says.tells s is) [
            | inl none ↦ absurd (none-some k (sym none ∙ tells))
            | inr same ↦ record {
              enlistment = from.0;
              enlisted = from.2;
              named = about.1 ∙ ap Some (sym (ap (λ (p : Id × Id). p.0) from.1));
              transaction = d.transaction;
              there = changed-itself x.transactions.items d.transaction t there (same_id-from t.id d.transaction.id (sym says.id));
              own = says.id ∙ sym (ap (λ (p : Id × Id). p.1) from.1);
              outcome = sym same ∙ tells;
            }
          ]

  -- where a course has arrived of which this was told, or nothing but a reply comes
  pub comes-step : (t : Transaction) (caller : Option Enlistment) (input : PhaseInput) (reply : Reply) → IsIn t x.transactions.items → Says names t.id (led input (course_of x t caller)) → Comes x (arrived x (led input (course_of x t caller)) reply)
  comes-step t caller input reply there says =
      let c = course_of x t caller in
      inr (record {
        transaction = t;
        there = there;
        course = led input c;
        reply = reply;
        is = refl;
        own = led-is t c.changes c.settings input c (record { id = refl; changes = refl; settings = refl; works = refl; events = refl; outcome = refl });
        says = says;
      })

  honest-comes : (o : Outcome) → Comes x o → IsHonest x o
  honest-comes o (inl (reply, is)) = subst (λ p. IsHonest x p) (sym is) (honest-reply x reply)
  honest-comes o (inr by) = subst (λ p. IsHonest x p) (sym by.is) (honest-arrived by.transaction by.course by.reply by.there by.says by.own.events)

  only-one : (e : Enlistment) (t : Transaction) → IsIn e x.transactions.enlistments → t.id ≡ e.transaction → Only names t.id (Some e)
  only-one e t there own f same id named =
      let is : e ≡ f = same_Some e f same in
      let from = IsIn-unmap naming (f.id, id) x.transactions.enlistments named in
      let one : from.0 ≡ e = same-by_id (λ (g : Enlistment). g.id) x.transactions.enlistments sound.enlistments.rise from.0 e from.2 there (ap (λ (p : Id × Id). p.0) from.1 ∙ ap (λ (g : Enlistment). g.id) (sym is)) in
      sym (ap (λ (p : Id × Id). p.1) from.1) ∙ ap (λ (g : Enlistment). g.transaction) one ∙ sym own

  pub outcome-at : (t : Transaction) → IsIn t x.transactions.items → is_outcome_of t.phase t ≡ true
  outcome-at t there = list_all-at (λ (t : Transaction). is_outcome_of t.phase t) x.transactions.items sound.transactions.outcomes t there

  -- a row says what is so, whoever makes the call
  pub says-of : (t : Transaction) (caller : Option Enlistment) (input : PhaseInput) → IsIn t x.transactions.items → Only names t.id caller → Says names t.id (led input (course_of x t caller))
  says-of t caller input there only = says-led input (course_of x t caller) refl refl (outcome-at t there) only

  pub comes-answering : (o : Option Enlistment) (input : Enlistment → PhaseInput) → ((e : Enlistment) → o ≡ Some e → IsIn e x.transactions.enlistments) → Comes x (answering x o input)
  comes-answering o input there = of-answering (Comes x) x o input (inl (Done, refl)) (λ e is t at own found.
      comes-step t (Some e) (input e) Done at (says-of t (Some e) (input e) at (only-one e t (there e is) (sym (same_id-equal e.transaction t.id own)))))

  -- no enlistment makes the call
  pub only-none : (t : Transaction) → Only names t.id None
  only-none t e none = absurd (none-some e none)

  comes-aborted : (t : Transaction) (reply : Reply) → IsIn t x.transactions.items → Comes x (aborted_by x t None reply)
  comes-aborted t reply there = comes-step t None PhaseInput.Rollback reply there (says-of t None PhaseInput.Rollback there (only-none t))

  honest-aborted : (t : Transaction) (reply : Reply) → IsIn t x.transactions.items → IsHonest x (aborted_by x t None reply)
  honest-aborted t reply there = honest-comes _ (comes-aborted t reply there)

  -- ---- calls on files and keys

  files-boots : (who : Option Id) (change : Option Change) → (after_events x.recorded (events_of who change)).boots ≡ x.recorded.boots
  files-boots None None = refl
  files-boots None (Some change) = refl
  files-boots (Some id) None = refl
  files-boots (Some id) (Some change) = refl

  honest-files : (who : Option Id) (o : FileOutcome) → IsHonest x (of_files x who o)
  honest-files who o = honest-quiet x (of_files x who o) refl refl refl refl (files-boots who o.change)

  honest-opening : (process : Pid) (label : Label) (who : Option Id) (o : FileOutcome) → IsHonest x (opening x process label who o)
  honest-opening process label who o = go o.opened
    where
      go : (opened : Option OpenFile) → IsHonest x (bound_file process label opened (of_files x who o))
      go None = honest-files who o
      go (Some file) = honest-bound x process label (FileObject file.number) (of_files x who o) (honest-files who o)

  honest-on_file : (o : Option OpenFile) (call : OpenFile → FileOutcome) → IsHonest x (on_file x o call)
  honest-on_file None call = honest-reply x Done
  honest-on_file (Some o) call = honest-files o.transaction (call o)

  -- ---- objects

  honest-opened : (process : Pid) (label : Label) (object : Object) → IsHonest x (binding process label object (only_reply x Done))
  honest-opened process label object = honest-bound x process label object (only_reply x Done) (honest-reply x Done)

  honest-create : (process : Pid) (label : Label) (timeout : ℕ) → IsHonest x (create_transaction x process label timeout)
  unfolding create_transaction
  honest-create process label timeout = record {
    enlistments = enlistments-same x.transactions.enlistments x.transactions.enlistments refl;
    comes = record {
      each = λ u there. elim (IsIn-cases u x.transactions.items _ there) [
        | inl old ↦ inl (u, old, refl)
        | inr (inl e) ↦ inr (ap (λ (t : Transaction). t.id.boot) (sym e))
        | inr (inr none) ↦ absurd none
      ];
    };
    sent = λ s k none. absurd none;
    made = λ m none. absurd none;
    boots = refl;
  }

  honest-open : (process : Pid) (label : Label) (o : Option Transaction) → IsHonest x (open_to_transaction x process label o)
  honest-open process label None = honest-reply x Done
  honest-open process label (Some t) = honest-opened process label (TransactionObject t.id)

  honest-open_manager : (process : Pid) (label : Label) (o : Option Manager) → IsHonest x (open_to_manager x process label o)
  honest-open_manager process label None = honest-reply x Done
  honest-open_manager process label (Some m) = honest-opened process label (ManagerObject m.id)

  honest-open_enlistment : (process : Pid) (label : Label) (o : Option Enlistment) → IsHonest x (open_to_enlistment x process label o)
  honest-open_enlistment process label None = honest-reply x Done
  honest-open_enlistment process label (Some e) = honest-opened process label (EnlistmentObject e.id)

  honest-bind : (process : Pid) (label : Label) (o : Option Object) → IsHonest x (bind_to x process label o)
  honest-bind process label None = honest-reply x Done
  honest-bind process label (Some object) = honest-opened process label object

  honest-create_manager : (process : Pid) (label : Label) (durability : Durability) → IsHonest x (create_resource_manager x process label durability)
  unfolding create_resource_manager
  honest-create_manager process label durability = record {
    enlistments = enlistments-same x.transactions.enlistments x.transactions.enlistments refl;
    comes = come-same x.recorded.boots x.transactions.items x.transactions.items refl;
    sent = λ s k none. absurd none;
    made = λ m there. elim there [ inl e ↦ ap (λ (n : Manager). n.queue) (sym e) | inr none ↦ absurd none ];
    boots = if_cases (λ (events : List Event). (after_events x.recorded events).boots ≡ x.recorded.boots) (is_durable durability) (MadeRm (new_id x x.transactions.last_manager) ∷ []) [] (λ is. refl) (λ is. refl);
  }

  comes-commit : (o : Option Transaction) → ((t : Transaction) → o ≡ Some t → IsIn t x.transactions.items) → Comes x (commit_of x o)
  comes-commit None there = inl (Done, refl)
  comes-commit (Some t) there = comes-step t None PhaseInput.CommitTransaction _ (there t refl) (says-of t None PhaseInput.CommitTransaction (there t refl) (only-none t))

  comes-rollback : (o : Option Transaction) → ((t : Transaction) → o ≡ Some t → IsIn t x.transactions.items) → Comes x (rollback_of x o)
  comes-rollback None there = inl (Done, refl)
  comes-rollback (Some t) there = comes-aborted t Done (there t refl)

  honest-recover : (o : Option Manager) → IsHonest x (recover_all x o)
  honest-recover None = honest-reply x Done
  honest-recover (Some m) = record {
    enlistments = enlistments-same x.transactions.enlistments x.transactions.enlistments refl;
    comes = come-same x.recorded.boots x.transactions.items x.transactions.items refl;
    sent = λ s k there tells. elim (IsIn-cases s (map (λ (e : Enlistment). record { manager = m.id; note = record { kind = Notify.Recover; enlistment = Some e.id } }) (filter (is_to_recover x m.id) x.transactions.enlistments)) _ there) [
      | inl one ↦
          let from = IsIn-unmap (λ (e : Enlistment). record { manager = m.id; note = record { kind = Notify.Recover; enlistment = Some e.id } }) s (filter (is_to_recover x m.id) x.transactions.enlistments) one in
          absurd (none-some k (ap (λ (s : Sent). told_by s.note.kind) from.1 ∙ tells))
      | inr (inl e) ↦ absurd (none-some k (ap (λ (s : Sent). told_by s.note.kind) e ∙ tells))
      | inr (inr none) ↦ absurd none
    ];
    made = λ m none. absurd none;
    boots = refl;
  }

  honest-take : (o : Option Manager) → IsHonest x (take_first x o)
  honest-take None = honest-reply x Done
  honest-take (Some m) = honest-quiet x _ refl refl refl refl refl

  honest-enlist : (process : Pid) (label : Label) (m : Option Manager) (t : Option Transaction) (kind : EnlistmentKind) → IsHonest x (enlist x process label m t kind)
  honest-enlist process label (Some m) (Some t) kind = record {
    enlistments = record { each = λ e there. (e, IsIn-left e x.transactions.enlistments _ there, refl, refl) };
    comes = come-same x.recorded.boots x.transactions.items x.transactions.items refl;
    sent = λ s k none. absurd none;
    made = λ m none. absurd none;
    boots = refl;
  }
  honest-enlist process label None t kind = honest-reply x Done
  honest-enlist process label (Some m) None kind = honest-reply x Done

  honest-keep : (o : Option Enlistment) (information : List ℕ) → IsHonest x (keep_information x o information)
  honest-keep None information = honest-reply x Done
  honest-keep (Some e) information = record {
    enlistments = record {
      each = λ f there.
          let from = IsIn-unmap naming (naming f) _ (subst (IsIn (naming f)) (sym (naming-with (has_id e.id) (λ (g : Enlistment). record g { information = information }) (λ g. refl) x.transactions.enlistments)) (IsIn-map naming f x.transactions.enlistments there)) in
          (from.0, from.2, ap (λ (p : Id × Id). p.0) from.1, ap (λ (p : Id × Id). p.1) from.1);
    };
    comes = come-same x.recorded.boots x.transactions.items x.transactions.items refl;
    sent = λ s k none. absurd none;
    made = λ m none. absurd none;
    boots = refl;
  }

-- ---- handles and time

honest-closing : Closes IsSoundCourse (λ x o. StaysSound x o × IsHonest x o)
honest-closing = record {
  rolls = record {
    reply = λ x sound. (stays-closing.rolls.reply x sound, honest-reply x Done);
    rolls = λ x t sound there can. (stays-closing.rolls.rolls x t sound there can, honest-aborted x sound t Done there);
    goes_on = λ x a next first second. let rest = second first.0.sound in (stays-then x a next first.0 (λ sound. rest.0), honest-joined x a (next (apply x a)) first.1 rest.1 rest.0.outcomes);
  };
  unbinds = λ x process label sound. (stays-closing.unbinds x process label sound, honest-quiet x _ refl refl refl refl refl);
  ends = λ x number sound. (stays-closing.ends x number sound, honest-quiet x _ refl refl refl refl refl);
}

honest-tick : (x : Present) (ms : ℕ) → IsSoundCourse x → IsHonest x (tick x ms)
honest-tick x ms sound =
    let is = (tick-so _ _ honest-closing.rolls x ms (sound-clock x ms sound)).1 in
    record { enlistments = is.enlistments; comes = is.comes; sent = is.sent; made = is.made; boots = is.boots }

-- ---- every call

-- may the command bring a transaction on its way
abbrev pub brings_on : Command → Bool
brings_on (CommitTransaction label) = true
brings_on (RollbackTransaction label) = true
brings_on (RecoverEnlistment label) = true
brings_on (PrePrepareComplete label) = true
brings_on (PrepareComplete label) = true
brings_on (ReadOnlyEnlistment label) = true
brings_on (CommitComplete label) = true
brings_on (RollbackComplete label) = true
brings_on (SinglePhaseReject label) = true
brings_on (RollbackEnlistment label) = true
brings_on (PrePrepareEnlistment label) = true
brings_on (PrepareEnlistment label) = true
brings_on (CommitEnlistment label) = true
brings_on _ = false

module _ (x : Present) (sound : IsSoundCourse x) where
  comes-enlisted : (process : Pid) (label : Label) (input : Enlistment → PhaseInput) → Comes x (answering x (enlistment_named x process label) input)
  comes-enlisted process label input = comes-answering x sound (enlistment_named x process label) input (enlistment-named x process label)

  -- the calls that bring a transaction on its way
  pub comes-effect : (process : Pid) (command : Command) → brings_on command ≡ true → Comes x (command_effect x process command)
  unfolding commit_transaction rollback_transaction pre_prepare_complete prepare_complete read_only_enlistment commit_complete rollback_complete single_phase_reject rollback_enlistment pre_prepare_enlistment prepare_enlistment commit_enlistment recover_enlistment
  comes-effect process (CommitTransaction label) is = comes-commit x sound (transaction_named x process label) (transaction-named x process label)
  comes-effect process (RollbackTransaction label) is = comes-rollback x sound (transaction_named x process label) (transaction-named x process label)
  comes-effect process (RecoverEnlistment label) is = comes-enlisted process label recovery_of
  comes-effect process (PrePrepareComplete label) is = comes-enlisted process label (λ e. PhaseInput.PrePrepareComplete)
  comes-effect process (PrepareComplete label) is = comes-enlisted process label (λ e. PhaseInput.PrepareComplete)
  comes-effect process (ReadOnlyEnlistment label) is = comes-enlisted process label (λ e. PhaseInput.ReadOnly (share_of e))
  comes-effect process (CommitComplete label) is = comes-enlisted process label (λ e. PhaseInput.CommitComplete)
  comes-effect process (RollbackComplete label) is = comes-enlisted process label (λ e. PhaseInput.RollbackComplete)
  comes-effect process (SinglePhaseReject label) is = comes-enlisted process label (λ e. PhaseInput.SinglePhaseReject)
  comes-effect process (RollbackEnlistment label) is = comes-enlisted process label (λ e. PhaseInput.Rollback)
  comes-effect process (PrePrepareEnlistment label) is = comes-enlisted process label (λ e. PhaseInput.PrePrepare)
  comes-effect process (PrepareEnlistment label) is = comes-enlisted process label (λ e. PhaseInput.Prepare)
  comes-effect process (CommitEnlistment label) is = comes-enlisted process label (λ e. PhaseInput.Commit)
  comes-effect process _ is = absurd (true≢false (sym is))

  honest-effect : (process : Pid) (command : Command) → IsHonest x (command_effect x process command)
  unfolding open_transaction get_transaction_information open_resource_manager recover_resource_manager get_notification create_enlistment open_enlistment set_information get_information duplicate_handle
  honest-effect process (CreateTransaction label timeout) = honest-create x sound process label timeout
  honest-effect process (OpenTransaction label guid) = honest-open x sound process label (transaction_with x guid)
  honest-effect process (CommitTransaction label) = honest-comes x sound _ (comes-effect process (CommitTransaction label) refl)
  honest-effect process (RollbackTransaction label) = honest-comes x sound _ (comes-effect process (RollbackTransaction label) refl)
  honest-effect process (GetTransactionInformation label) = honest-reply x _
  honest-effect process (CreateResourceManager label durability) = honest-create_manager x sound process label durability
  honest-effect process (OpenResourceManager label guid) = honest-open_manager x sound process label (manager_with x guid)
  honest-effect process (RecoverResourceManager label) = honest-recover x sound (manager_named x process label)
  honest-effect process (GetNotificationResourceManager label) = honest-take x sound (manager_named x process label)
  honest-effect process (CreateEnlistment label manager transaction kind) = honest-enlist x sound process label (manager_named x process manager) (transaction_named x process transaction) kind
  honest-effect process (OpenEnlistment label manager guid) = honest-open_enlistment x sound process label (enlistment_with x (manager_named x process manager) guid)
  honest-effect process (RecoverEnlistment label) = honest-comes x sound _ (comes-effect process (RecoverEnlistment label) refl)
  honest-effect process (PrePrepareComplete label) = honest-comes x sound _ (comes-effect process (PrePrepareComplete label) refl)
  honest-effect process (PrepareComplete label) = honest-comes x sound _ (comes-effect process (PrepareComplete label) refl)
  honest-effect process (ReadOnlyEnlistment label) = honest-comes x sound _ (comes-effect process (ReadOnlyEnlistment label) refl)
  honest-effect process (CommitComplete label) = honest-comes x sound _ (comes-effect process (CommitComplete label) refl)
  honest-effect process (RollbackComplete label) = honest-comes x sound _ (comes-effect process (RollbackComplete label) refl)
  honest-effect process (SinglePhaseReject label) = honest-comes x sound _ (comes-effect process (SinglePhaseReject label) refl)
  honest-effect process (RollbackEnlistment label) = honest-comes x sound _ (comes-effect process (RollbackEnlistment label) refl)
  honest-effect process (PrePrepareEnlistment label) = honest-comes x sound _ (comes-effect process (PrePrepareEnlistment label) refl)
  honest-effect process (PrepareEnlistment label) = honest-comes x sound _ (comes-effect process (PrepareEnlistment label) refl)
  honest-effect process (CommitEnlistment label) = honest-comes x sound _ (comes-effect process (CommitEnlistment label) refl)
  honest-effect process (SetEnlistmentRecoveryInformation label information) = honest-keep x sound (enlistment_named x process label) information
  honest-effect process (GetEnlistmentRecoveryInformation label) = honest-reply x _
  honest-effect process (CreateFile label path access share disposition) = honest-opening x sound process label None (create_file x.files None path access share disposition)
  honest-effect process (CreateFileTransacted label path access share disposition transaction) = honest-opening x sound process label (caller x process transaction) (create_file x.files (caller x process transaction) path access share disposition)
  honest-effect process (ReadFile file offset many) = honest-on_file x sound (file_named x process file) _
  honest-effect process (WriteFile file offset bytes) = honest-on_file x sound (file_named x process file) _
  honest-effect process (SetEndOfFile file size) = honest-on_file x sound (file_named x process file) _
  honest-effect process (WriteUnits file start contents) = honest-on_file x sound (file_named x process file) _
  honest-effect process (GetFileSizeEx file) = honest-on_file x sound (file_named x process file) _
  honest-effect process (FlushFileBuffers file) = honest-on_file x sound (file_named x process file) _
  honest-effect process (DeleteFile path) = honest-files x sound None (delete_file x.files None path)
  honest-effect process (CreateDirectory path) = honest-files x sound None (create_directory x.files None path)
  honest-effect process (RemoveDirectory path) = honest-files x sound None (remove_directory x.files None path)
  honest-effect process (MoveFile source target) = honest-files x sound None (move_file x.files None source target)
  honest-effect process (DeleteFileTransacted path transaction) = honest-files x sound (caller x process transaction) _
  honest-effect process (CreateDirectoryTransacted path transaction) = honest-files x sound (caller x process transaction) _
  honest-effect process (RemoveDirectoryTransacted path transaction) = honest-files x sound (caller x process transaction) _
  honest-effect process (MoveFileTransacted source target transaction) = honest-files x sound (caller x process transaction) _
  honest-effect process (FindFiles searched) = honest-files x sound None (find_files x.files None searched)
  honest-effect process (FindFilesTransacted searched transaction) = honest-files x sound (caller x process transaction) _
  honest-effect process (KvSet transaction key value) = honest-quiet x _ refl refl refl refl refl
  honest-effect process (KvUnset transaction key) = honest-quiet x _ refl refl refl refl refl
  honest-effect process (KvGet view key) = honest-quiet x _ refl refl refl refl refl
  honest-effect process (KvList view) = honest-quiet x _ refl refl refl refl refl
  honest-effect process (CloseHandle label) = (close_handle-so _ _ honest-closing x process label sound).1
  honest-effect process (DuplicateHandle label from source) = honest-bind x sound process label (object_at x.handles from source)
  honest-effect process Exit = (exit-so _ _ honest-closing x process sound).1

  honest-refused : (refusal : Option Refusal) (effect : Outcome) → IsHonest x effect → IsHonest x (refuse_or x refusal effect)
  honest-refused (Some refusal) effect is = honest-reply x (Refused refusal)
  honest-refused None effect is = is

  pub honest-decided : (process : Pid) (command : Command) → IsHonest x (decide x process command)
  honest-decided process command = honest-refused (refusal_of x process command) (command_effect x process command) (honest-effect process command)

  pub honest-ticked : (ms : ℕ) → IsHonest x (decide_tick x ms)
  honest-ticked ms = honest-refused (first_refusal ((not x.machine.is_up, MachineDown) ∷ [])) (tick x ms) (honest-tick x ms sound)

-- ---- notifications

pub notes_law : OutcomesLaw → NotesLaw
notes_law outcomes = record {
  commands = λ x process command sound notes. notes-after x (decide x process command) (honest-decided x sound process command) (outcomes.commands x process command sound) notes;
  ticks = λ x ms sound notes. notes-after x (decide_tick x ms) (honest-ticked x sound ms) (outcomes.ticks x ms sound) notes;
  falls = λ w power notes. record { each = notes.each };
  restarts = λ base log. record { each = λ m note k there waits tells. absurd (silent base log m note there waits) };
}
  where
    silent : (base : Durable) (log : List Group) (m : Manager) (note : Note) → IsIn m (map manager_now (map (λ (id : Id). record { id = id; is_durable = true; taken = []; queue = [] }) (stand base log).managers)) → IsIn note m.queue → ⊥
    silent base log m note there waits =
        let from = IsIn-unmap manager_now m (map (λ (id : Id). record { id = id; is_durable = true; taken = []; queue = [] }) (stand base log).managers) there in
        let id = IsIn-unmap (λ (id : Id). record { id = id; is_durable = true; taken = []; queue = [] }) from.0 (stand base log).managers from.2 in
        subst (IsIn note) (ap (λ (n : Manager). n.queue) (sym from.1) ∙ ap (λ (n : ManagerPast). n.queue) (sym id.1)) waits
