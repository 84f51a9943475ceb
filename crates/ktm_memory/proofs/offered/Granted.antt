-- Most calls are granted no notifications: they make no enlistment, and tell nothing of a recovery.
use Rattle.std.proofs.Common.{◌≡◌, ℕ, ◌+◌, ◌≤◌, ◌==◌, ◌&&◌, Bool, true, false, List, [], ◌∷◌, cond, count_by, filter, length, map, Option, Some, None, refl, sym, ◌∙◌, ap, subst, arith, inl, inr}
use Rattle.std.specs.List.{list_all, list_any}
use Rattle.std.proofs.lemmas.Bool.{and_from, and_parts, cases_Bool}
use Rattle.std.proofs.lemmas.List.{length-map}
use Rattle.std.proofs.lemmas.List.Folds.{list_all-append}
use Rattle.ktm_base.specs.declared.notify.Notify.{Notify}
use Rattle.ktm_base.specs.declared.id.Id.{Id}
use Rattle.ktm_base.specs.declared.id.Label.{Label}
use Rattle.ktm_base.specs.declared.id.Pid.{Pid}
use Rattle.ktm_base.specs.declared.refusal.Refusal.{Refusal}
use Rattle.ktm_world.specs.declared.input.PhaseInput.{PhaseInput}
use Rattle.ktm_world.specs.declared.input.Seen.{Seen}
use Rattle.ktm_world.specs.declared.object.Object.{Object}
use Rattle.ktm_world.specs.declared.object.Phase.{Phase}
use Rattle.ktm_world.specs.declared.object.Phase.TheVariants.{PrePreparing, Preparing, SinglePhase, InDoubt, Committing, Aborting}
use Rattle.ktm_world.specs.declared.object.Transaction.{Transaction}
use Rattle.ktm_world.specs.declared.object.TransactionOutcome.{TransactionOutcome}
use Rattle.ktm_world.specs.declared.object.TransactionOutcome.TheVariants.{Aborted}
use Rattle.ktm_world.specs.declared.options.Durability.{Durability}
use Rattle.ktm_world.specs.declared.reply.Reply.{Reply}
use Rattle.ktm_world.specs.declared.reply.Reply.TheVariants.{Refused}
use Rattle.ktm_world.specs.declared.step.Step.{Step}
use Rattle.ktm_world.specs.Enlistments.{Enlistment, Manager, Sent, is_unfinished, manager_at, tell}
use Rattle.ktm_world.specs.FileOutcome.{FileOutcome}
use Rattle.ktm_world.specs.Files.{OpenFile}
use Rattle.ktm_world.specs.HandleCalls.{bind_to, duplicate_handle}
use Rattle.ktm_world.specs.Handles.{object_at}
use Rattle.ktm_world.specs.Outcome.{Outcome, apply, only_reply, refuse_or}
use Rattle.ktm_world.specs.Phases.{Course, ended, is_single_phase, telling}
use Rattle.ktm_world.specs.Present.{Present}
use Rattle.ktm_world.specs.Rows.{all_readies, is_last, participants, proceeds_without, row, tells_in, without}
use Rattle.ktm_world.specs.Steps.{answered, carried, changing, led, run, seen}
use Rattle.ktm_world.specs.TransactionCalls.{arrived, course_of, create_resource_manager, create_transaction, get_information, get_notification, get_transaction_information, recover_notes, recover_resource_manager, set_information, tick}
use Rattle.ktm_world.specs.Transactions.{is_undecided, same_id}
use Rattle.std.proofs.lemmas.Option.{same_Some}
use Rattle.txf_laws.proofs.offered.Sums.{count-cons}
use Rattle.txf_laws.proofs.offered.Tables.{same_id-equal}
use Rattle.ktm_courses.proofs.offered.HandlesAndTime.{Closes, close_handle-so, exit-so, tick-so}
use Rattle.ktm_steps.proofs.offered.Ways.{Ways, if_cases, pre_prepares-by, prepares-by, proceeds-by, requests-by}
use Rattle.ktm_slots.specs.Slots.{granted_in, is_of_recovery}
use Rattle.ktm_memory.specs.Opening.{files_outcome}
use Rattle.ktm_memory.specs.Settled.{labels_outcome}
use Rattle.ktm_memory.specs.declared.settlement.Labels.{Labels}
use Rattle.ktm_memory.specs.declared.settlement.Labels.TheVariants.{Bind, Duplicate, Unbind, UnbindAll}

-- ---- steps

-- is the notification none of a recovery
abbrev is_plain_note : Notify → Bool
is_plain_note kind = elim kind as (λ _. Bool) [ Notify.Recover ↦ false | Notify.LastRecover ↦ false | _ ↦ true ]

-- tells the step nothing of a recovery
abbrev is_plain_step : Step → Bool
is_plain_step (Step.Tell who kind) = is_plain_note kind
is_plain_step (Step.Ask who kind owed) = is_plain_note kind
is_plain_step _ = true

-- tell the steps nothing of a recovery
abbrev Plain : List Step → Type 0
Plain steps = list_all is_plain_step steps ≡ true

plain_readies : (s : Seen) → Plain (all_readies s)
plain_readies s = if_cases Plain s.has_superior _ _ (λ above. refl) (λ alone. if_cases Plain (participants s == 0) _ _ (λ none. refl) (λ some. refl))

plain_ways : (s : Seen) → Ways Plain s
plain_ways s = record {
  requested = λ _. refl;
  pre_prepared = λ _. refl;
  pre_preparing = λ _. refl;
  preparing = λ _. refl;
  one_phase = λ _ _ _ _ _. refl;
  files = λ _ _. refl;
  keys = λ _ _ _. refl;
  nobody = λ _. refl;
  ready = λ _. plain_readies s;
}

plain_without : (phase : Phase) (s : Seen) → Plain (proceeds_without phase s)
plain_without PrePreparing s = proceeds-by Plain s (plain_ways s)
plain_without Preparing s = plain_readies s
plain_without SinglePhase s = refl
plain_without _ s = refl

plain_recovers : (phase : Phase) → Plain (tells_in phase)
plain_recovers InDoubt = refl
plain_recovers Committing = refl
plain_recovers Aborting = refl
plain_recovers _ = refl

-- no row tells anything of a recovery
plain_row : (s : Seen) (input : PhaseInput) → Plain (row s input)
plain_row s PhaseInput.CommitTransaction = requests-by Plain s (plain_ways s)
plain_row s PhaseInput.Rollback = refl
plain_row s PhaseInput.PrePrepareComplete = if_cases Plain (is_last s) _ _ (λ last. proceeds-by Plain s (plain_ways s)) (λ more. refl)
plain_row s PhaseInput.PrepareComplete = if_cases Plain (is_last s) _ _ (λ last. plain_readies s) (λ more. refl)
plain_row s (PhaseInput.ReadOnly share) = if_cases Plain (share.owes && is_last s) _ _ (λ last. plain_without s.phase (without share s)) (λ more. refl)
plain_row s PhaseInput.SinglePhaseReject = refl
plain_row s PhaseInput.CommitComplete = if_cases Plain (is_single_phase s.phase) _ _ (λ one. refl) (λ several. refl)
plain_row s PhaseInput.RollbackComplete = refl
plain_row s PhaseInput.PrePrepare = pre_prepares-by Plain s (plain_ways s)
plain_row s PhaseInput.Prepare = prepares-by Plain s (plain_ways s)
plain_row s PhaseInput.Commit = refl
plain_row s PhaseInput.Recover = plain_recovers s.phase
plain_row s PhaseInput.RecoverSuperior = refl

-- ---- courses

-- is what is sent none of a recovery
abbrev is_plain_sent : Sent → Bool
is_plain_sent s = is_plain_note s.note.kind

-- there are as many enlistments as there were, and nothing is sent of a recovery
record IsPlain (c : Course) (many : ℕ) : Type 0 where
  many_are : length c.enlistments ≡ many
  sent : list_all is_plain_sent c.sent ≡ true

told_plain : (kind : Notify) (es : List Enlistment) → is_plain_note kind ≡ true → list_all is_plain_sent (map (tell kind) es) ≡ true
told_plain kind [] plain = refl
told_plain kind (e ∷ es) plain = and_from _ _ plain (told_plain kind es plain)

telling_plain : (c : Course) (many : ℕ) (test : Enlistment → Bool) (kind : Notify) (f : Enlistment → Enlistment) → is_plain_note kind ≡ true → IsPlain c many → IsPlain (telling c test kind f) many
telling_plain c many test kind f plain is = record {
  many_are = length-map c.enlistments _ ∙ is.many_are;
  sent = list_all-append is_plain_sent c.sent (map (tell kind) (filter test c.enlistments)) ∙ and_from _ _ is.sent (told_plain kind (filter test c.enlistments) plain);
}

ended_plain : (c : Course) (many : ℕ) (outcome : TransactionOutcome) → IsPlain c many → IsPlain (ended c outcome) many
unfolding ended
ended_plain c many Aborted is = telling_plain _ many _ Notify.RollbackComplete _ refl (record { many_are = is.many_are; sent = is.sent })
ended_plain c many _ is = telling_plain _ many _ Notify.CommitComplete _ refl (record { many_are = is.many_are; sent = is.sent })

carried_plain : (step : Step) (c : Course) (many : ℕ) → is_plain_step step ≡ true → IsPlain c many → IsPlain (carried step c) many
carried_plain (Step.Record fact) c many plain is = record { many_are = is.many_are; sent = is.sent }
carried_plain Step.Commit c many plain is = record { many_are = is.many_are; sent = is.sent }
carried_plain (Step.Tell who kind) c many plain is = telling_plain c many _ kind _ plain is
carried_plain (Step.Ask who kind owed) c many plain is = telling_plain c many _ kind _ plain is
carried_plain (Step.Change answer) c many plain is = go c.caller
  where
    go : (caller : Option Enlistment) → IsPlain (changing c caller (answered answer)) many
    go None = is
    go (Some e) = record { many_are = length-map c.enlistments _ ∙ is.many_are; sent = is.sent }
carried_plain (Step.Enter phase) c many plain is = record { many_are = is.many_are; sent = is.sent }
carried_plain (Step.Decide outcome) c many plain is = record { many_are = is.many_are; sent = is.sent }
carried_plain (Step.End outcome) c many plain is = ended_plain c many outcome is
carried_plain (Step.EndWhereFinished outcome) c many plain is =
    if_cases (λ d. IsPlain d many) (list_any (is_unfinished c.transaction.id) c.enlistments) c (ended c outcome) (λ waits. is) (λ done. ended_plain c many outcome is)

run_plain : (steps : List Step) (c : Course) (many : ℕ) → Plain steps → IsPlain c many → IsPlain (run steps c) many
run_plain [] c many plain is = is
run_plain (step ∷ steps) c many plain is =
    let parts = and_parts (is_plain_step step) (list_all is_plain_step steps) plain in
    run_plain steps (carried step c) many parts.1 (carried_plain step c many parts.0 is)

-- ---- outcomes

-- it makes no enlistment, and sends nothing of a recovery
pub record GrantsNone (x : Present) (o : Outcome) : Type 0 where
  pub made : length o.transactions.enlistments ≡ length x.transactions.enlistments
  pub sent : list_all is_plain_sent o.sent ≡ true

none_counted : (ss : List Sent) → list_all is_plain_sent ss ≡ true → count_by is_of_recovery ss ≡ 0
none_counted [] all = refl
none_counted (s ∷ ss) all =
    let parts = and_parts (is_plain_sent s) (list_all is_plain_sent ss) all in
    let rest = none_counted ss parts.1 in
    let here : is_of_recovery s ≡ false = not_of s.note.kind parts.0 in
    rw here rest
  where
    not_of : (kind : Notify) → is_plain_note kind ≡ true → elim kind as (λ _. Bool) [ Notify.Recover ↦ true | Notify.LastRecover ↦ true | _ ↦ false ] ≡ false
    not_of Notify.Recover plain = absurd (cc)
    not_of Notify.LastRecover plain = absurd (cc)
    not_of _ plain = refl

-- nothing is granted for an outcome that makes no enlistment and sends nothing of a recovery
pub grants_none : (x : Present) (o : Outcome) → GrantsNone x o → granted_in x o ≡ 0
grants_none x o none = let made = none.made in let sent = none_counted o.sent none.sent in omega (arith, made, sent)

-- a reply
pub reply_none : (x : Present) (reply : Reply) → GrantsNone x (only_reply x reply)
reply_none x reply = record { made = refl; sent = refl }

pub reply_grants : (x : Present) (reply : Reply) → granted_in x (only_reply x reply) ≡ 0
reply_grants x reply = grants_none x (only_reply x reply) (reply_none x reply)

-- a refusal or else this
pub refuse_none : (x : Present) (refusal : Option Refusal) (o : Outcome) → GrantsNone x o → GrantsNone x (refuse_or x refusal o)
refuse_none x None o none = none
refuse_none x (Some refusal) o none = reply_none x (Refused refusal)

-- what comes to a transaction
pub course_none : (x : Present) (t : Transaction) (caller : Option Enlistment) (input : PhaseInput) (reply : Reply) → GrantsNone x (arrived x (led input (course_of x t caller)) reply)
unfolding led
course_none x t caller input reply =
    let c = course_of x t caller in
    let d = run (row (seen c) input) c in
    let plain = run_plain (row (seen c) input) c (length x.transactions.enlistments) (plain_row (seen c) input) (record { many_are = refl; sent = refl }) in
    if_cases (GrantsNone x) (is_undecided d.transaction) _ _ (λ undecided. record { made = plain.many_are; sent = plain.sent }) (λ known. record { made = plain.many_are; sent = plain.sent })

-- handles that are closed
closes_none : Closes (λ x. Unit {0}) GrantsNone
closes_none = record {
  rolls = record {
    reply = λ x asked. reply_none x Reply.Done;
    rolls = λ x t asked there may. course_none x t None PhaseInput.Rollback Reply.Done;
    goes_on = λ x a next first then.
        let second = then tt in
        record {
          made = second.made ∙ first.made;
          sent = list_all-append is_plain_sent a.sent (next (apply x a)).sent ∙ and_from _ _ first.sent second.sent;
        };
  };
  unbinds = λ x process label asked. record { made = refl; sent = refl };
  ends = λ x number asked. record { made = refl; sent = refl };
}

-- the passing of time
tick_none : (x : Present) (ms : ℕ) → GrantsNone x (tick x ms)
tick_none x ms = let none = tick-so (λ x. Unit {0}) GrantsNone closes_none.rolls x ms tt in record { made = none.made; sent = none.sent }

pub tick_grants : (x : Present) (ms : ℕ) → granted_in x (tick x ms) ≡ 0
tick_grants x ms = grants_none x (tick x ms) (tick_none x ms)

-- labels
pub labels_none : (x : Present) (process : Pid) (labels : Labels) → GrantsNone x (labels_outcome x process labels)
unfolding duplicate_handle
labels_none x process (Bind label object) = record { made = refl; sent = refl }
labels_none x process (Duplicate label from source) = go (object_at x.handles from source)
  where
    go : (named : Option Object) → GrantsNone x (bind_to x process label named)
    go None = record { made = refl; sent = refl }
    go (Some object) = record { made = refl; sent = refl }
labels_none x process (Unbind label) = close_handle-so (λ x. Unit {0}) GrantsNone closes_none x process label tt
labels_none x process UnbindAll = exit-so (λ x. Unit {0}) GrantsNone closes_none x process tt

-- a transaction that begins
pub create_none : (x : Present) (process : Pid) (label : Label) (timeout : ℕ) → GrantsNone x (create_transaction x process label timeout)
unfolding create_transaction
create_none x process label timeout = record { made = refl; sent = refl }

-- a resource manager that is made
pub manager_none : (x : Present) (process : Pid) (label : Label) (durability : Durability) → GrantsNone x (create_resource_manager x process label durability)
unfolding create_resource_manager
manager_none x process label durability = record { made = refl; sent = refl }

-- a notification that is taken
pub note_none : (x : Present) (m : Option Manager) → GrantsNone x (get_notification x m)
unfolding get_notification
note_none x None = record { made = refl; sent = refl }
note_none x (Some m) = record { made = refl; sent = refl }

-- recovery information that is kept
pub inform_none : (x : Present) (e : Option Enlistment) (information : List ℕ) → GrantsNone x (set_information x e information)
unfolding set_information
inform_none x None information = record { made = refl; sent = refl }
inform_none x (Some e) information = record { made = length-map x.transactions.enlistments _; sent = refl }

-- recovery information that is told
pub told_none : (x : Present) (e : Option Enlistment) → GrantsNone x (get_information x e)
unfolding get_information
told_none x e = record { made = refl; sent = refl }

-- a call on files
pub files_none : (x : Present) (process : Pid) (who : Option Id) (label : Option Label) (o : FileOutcome) → GrantsNone x (files_outcome x process who label o)
files_none x process who None o = record { made = refl; sent = refl }
files_none x process who (Some l) o = go o.opened
  where
    go : (opened : Option OpenFile) → GrantsNone x (files_outcome x process who (Some l) (record o { opened = opened }))
    go None = record { made = refl; sent = refl }
    go (Some file) = record { made = refl; sent = refl }

-- for a recovery no more is granted than what is sent
pub recovery_grants : (x : Present) (m : Option Manager) (manager : Id) → ((n : Manager) → m ≡ Some n → n.id ≡ manager) → granted_in x (recover_resource_manager x m) ≤ length (recover_notes x manager)
unfolding recover_resource_manager
recovery_grants x None manager is = omega arith
recovery_grants x (Some m) manager is = subst (λ (id : Id). granted_in x (recover_resource_manager x (Some m)) ≤ length (recover_notes x id)) (is m refl) (few (recover_notes x m.id))
  where
    count-few : (ss : List Sent) → count_by is_of_recovery ss ≤ length ss
    count-few [] = omega arith
    count-few (s ∷ ss) = let rest = count-few ss in let more = count-cons is_of_recovery s ss in elim (cases_Bool (is_of_recovery s)) [ inl is ↦ omega (arith, rest, more ∙ ap (λ b. cond b 1 0 + count_by is_of_recovery ss) is) | inr other ↦ omega (arith, rest, more ∙ ap (λ b. cond b 1 0 + count_by is_of_recovery ss) other) ]

    few : (ss : List Sent) → granted_in x (record (only_reply x Reply.Done) { sent = ss }) ≤ length ss
    few ss = let counted = count-few ss in omega (arith, counted)

-- what is told of a transaction
pub information_none : (x : Present) (t : Option Transaction) → GrantsNone x (get_transaction_information x t)
unfolding get_transaction_information
information_none x t = record { made = refl; sent = refl }

-- ---- slots

-- where nothing is granted no more slots are wanted
pub none_wanted : (x : Present) (o : Outcome) (before after : ℕ) → GrantsNone x o → before ≤ after → before + granted_in x o ≤ after
none_wanted x o before after none grows = let nothing = grants_none x o none in omega (arith, nothing, grows)

-- the resource manager that is found has the Id
found_id : (ms : List Manager) (id : Id) (n : Manager) → manager_at ms id ≡ Some n → n.id ≡ id
found_id [] id n is = absurd (cc)
found_id (m ∷ ms) id n is = elim (cases_Bool (same_id m.id id)) [
  | inl same ↦ (let here : m ≡ n = same_Some m n (rw same at is) in ap (λ (k : Manager). k.id) (sym here) ∙ same_id-equal m.id id same)
  | inr other ↦ found_id ms id n (rw other at is)
]

-- a recovery wants a slot for each notification that it sends
pub recovery_wanted : (x : Present) (manager : Id) (before after : ℕ) → before + length (recover_notes x manager) ≤ after → before + granted_in x (recover_resource_manager x (manager_at x.managers manager)) ≤ after
recovery_wanted x manager before after grows =
    let few = recovery_grants x (manager_at x.managers manager) manager (λ n is. found_id x.managers manager n is) in omega (arith, few, grows)
