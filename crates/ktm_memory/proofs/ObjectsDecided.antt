-- Decisions of the calls on resource managers and enlistments.
use Rattle.std.proofs.Common.{◌≡◌, All, ℕ, ◌≤◌, ◌==◌, suc, true, false, Bool, List, [], ◌∷◌, length, Option, Some, None, is_some, option_map, refl, sym, ◌∙◌, ap, subst, arith, length-append}
use Rattle.std.proofs.lemmas.Bool.{eqb-true, false_from_ne_true}
use Rattle.std.proofs.lemmas.List.Elements.{All-cons, All-nil}
use Rattle.ktm_base.specs.declared.id.Id.{Id}
use Rattle.ktm_base.specs.declared.id.Label.{Label}
use Rattle.ktm_base.specs.declared.id.ObjectKind.{ObjectKind}
use Rattle.ktm_base.specs.declared.id.Pid.{Pid}
use Rattle.ktm_base.specs.declared.refusal.Refusal.TheVariants.{WaitTimeout}
use Rattle.ktm_base.specs.Guid.{guid_of}
use Rattle.ktm_event.specs.Kept.{EventsState, Holds}
use Rattle.ktm_manager.specs.Managers.{first_of}
use Rattle.ktm_tm.specs.TmState.{id_after}
use Rattle.ktm_world.specs.declared.object.Transaction.{Transaction}
use Rattle.txf_laws.specs.Grammatical.{changes_of_event}
use Rattle.ktm_world.specs.declared.event.Event.TheVariants.{MadeRm}
use Rattle.ktm_world.specs.declared.options.Durability.{Durability}
use Rattle.ktm_world.specs.declared.options.Durability.TheVariants.{Durable, Volatile}
use Rattle.ktm_world.specs.declared.options.EnlistmentKind.{EnlistmentKind}
use Rattle.ktm_world.specs.declared.reply.Reply.{Reply}
use Rattle.ktm_world.specs.declared.reply.Reply.TheVariants.{Contents, Done, Guid, Notification}
use Rattle.ktm_world.specs.Enlistments.{Enlistment, Manager, Note, enlistment_at, manager_at}
use Rattle.ktm_world.specs.Labels.{holds_of}
use Rattle.ktm_world.specs.Outcome.{Outcome, first_refusal, only_reply, refuse_or}
use Rattle.ktm_world.specs.Present.{Present}
use Rattle.ktm_world.specs.TransactionCalls.{create_enlistment, create_resource_manager, get_information, get_notification, has_empty_queue, note_reply, recover_resource_manager, set_information}
use Rattle.ktm_world.specs.Transactions.{transaction_at}
use Rattle.ktm_slots.specs.Slots.{granted_in}
use Rattle.ktm_memory.specs.declared.settlement.Settlement.TheVariants.{Enlist, Inform, MakeManager, Recover, Take}
use Rattle.ktm_memory.specs.Decided.{Decides, IsDone, manager_events}
use Rattle.ktm_memory.specs.Memory.{LayersNow, MaySettle, MemoryState, held, now_of, present_of, recorded_of}
use Rattle.ktm_memory.proofs.offered.Decided.{decided, quiet_decided}
use Rattle.ktm_memory.proofs.offered.Following.{bare-each}
use Rattle.ktm_memory.proofs.offered.Records.{bare_record}
use Rattle.ktm_memory.specs.Rules.{Follows}

-- ---- CreateResourceManager

-- what it records
pub manager_records : (h : LayersNow) (process : Pid) (label : Label) (durability : Durability) (id : Id) → id ≡ id_after h.boot h.transactions.last_manager
    → manager_events id durability ≡ (create_resource_manager (now_of h) process label durability).events
unfolding create_resource_manager
manager_records h process label durability id is = ap (λ id. manager_events id durability) is

-- the reply tells the GUID of that Id
manager_says : (h : LayersNow) (process : Pid) (label : Label) (durability : Durability) (guid : List ℕ) (image : ℕ) (id : Id)
    → guid ≡ guid_of ObjectKind.Manager image id → image ≡ h.journal.image → id ≡ id_after h.boot h.transactions.last_manager → Guid guid ≡ (create_resource_manager (now_of h) process label durability).reply
unfolding create_resource_manager
manager_says h process label durability guid image id is image_is id_is = rw (is, image_is, id_is) refl

-- that is no change of files
pub manager_bare : (id : Id) (durability : Durability) → All (λ event. changes_of_event event ≡ []) (manager_events id durability)
manager_bare id Volatile = All-nil (λ event. changes_of_event event ≡ [])
manager_bare id Durable = All-cons (λ event. changes_of_event event ≡ []) (MadeRm id) [] refl (All-nil (λ event. changes_of_event event ≡ []))

pub manager_decided : (h : LayersNow) (n : MemoryState) (process : Pid) (label : Label) (durability : Durability) (guid : List ℕ) (image : ℕ) (id : Id) (events : EventsState)
    → guid ≡ guid_of ObjectKind.Manager image id → image ≡ h.journal.image → id ≡ id_after h.boot h.transactions.last_manager
    → held n ≡ h → MaySettle n (MakeManager process label durability) → Holds events (manager_events id durability)
    → (o : Outcome) → o ≡ create_resource_manager (now_of h) process label durability → Decides h o (Guid guid) (MakeManager process label durability) events n
manager_decided h n process label durability guid image id events is image_is id_is same may holds o comes =
    let made = create_resource_manager (now_of h) process label durability in
    let are = manager_records h process label durability id id_is in
    subst (λ o. Decides h o (Guid guid) (MakeManager process label durability) events n) (sym comes)
    (decided h n made (Guid guid) (MakeManager process label durability) events (manager_says h process label durability guid image id is image_is id_is) (bare_record (recorded_of h) events made.events (subst (All (λ event. changes_of_event event ≡ [])) are (manager_bare id durability)) (subst (Holds events) are holds))
    same refl refl refl may (λ rule each. bare-each (Follows rule) made.events (subst (All (λ event. changes_of_event event ≡ [])) are (manager_bare id durability))) (λ some refusal e. absurd (cc)))

-- ---- RecoverResourceManager

recovery_done : (x : Present) (m : Option Manager) → IsDone (recover_resource_manager x m)
unfolding recover_resource_manager
recovery_done x None = record { replies = refl; records = refl }
recovery_done x (Some m) = record { replies = refl; records = refl }

pub recovery_decided : (h : LayersNow) (n : MemoryState) (manager : Id) (events : EventsState) → held n ≡ h → is_some (manager_at h.managers manager) ≡ true → Holds events []
    → Decides h (recover_resource_manager (now_of h) (manager_at h.managers manager)) Done (Recover manager) events n
recovery_decided h n manager events same there holds =
    let o = recover_resource_manager (now_of h) (manager_at h.managers manager) in
    let done = recovery_done (now_of h) (manager_at h.managers manager) in
    quiet_decided h n o Done (Recover manager) events (sym done.replies) done.records same refl refl refl (ap (λ (g : LayersNow). is_some (manager_at g.managers manager)) same ∙ there) holds

-- ---- GetNotificationResourceManager

-- it records nothing
note_quiet : (x : Present) (m : Option Manager) → (get_notification x m).events ≡ []
unfolding get_notification
note_quiet x None = refl
note_quiet x (Some m) = refl

some_wait : (n : ℕ) → (suc n == 0) ≡ false
some_wait n = false_from_ne_true (suc n == 0) (λ empty. absurd (omega (arith, eqb-true (suc n) 0 empty)))

-- what is taken from a resource manager with a first notification
note_says : (x : Present) (m : Option Manager) (note : Note) → first_of m ≡ Some note
    → (holds_of has_empty_queue m ≡ false) × (Notification note.kind (option_map (guid_of ObjectKind.Enlistment x.recorded.image) note.enlistment) ≡ (get_notification x m).reply)
unfolding get_notification
note_says x None note is = absurd (cc)
note_says x (Some m) note is = go m.queue is
  where
    go : (queue : List Note) → first_of (Some (record m { queue = queue })) ≡ Some note
        → (holds_of has_empty_queue (Some (record m { queue = queue })) ≡ false) × (Notification note.kind (option_map (guid_of ObjectKind.Enlistment x.recorded.image) note.enlistment) ≡ note_reply x queue)
    go [] is = absurd (cc)
    go (first ∷ rest) is = let same : first ≡ note = cc in (some_wait (length rest), ap (λ (n : Note). Notification n.kind (option_map (guid_of ObjectKind.Enlistment x.recorded.image) n.enlistment)) (sym same))

-- what the call comes to
abbrev taking : Present → Id → Outcome
taking x manager = refuse_or x (first_refusal ((holds_of has_empty_queue (manager_at x.managers manager), WaitTimeout) ∷ [])) (get_notification x (manager_at x.managers manager))

pub note_decided : (m : MemoryState) (manager : Id) (note : Note) (reply : Reply) (events : EventsState) → is_some (manager_at m.tm.managers manager) ≡ true → first_of (manager_at m.tm.managers manager) ≡ Some note
    → reply ≡ Notification note.kind (option_map (guid_of ObjectKind.Enlistment m.journal.image) note.enlistment) → Holds events []
    → Decides (held m) (taking (present_of m) manager) reply (Take manager) events m
note_decided m manager note reply events there is says holds =
    let x = present_of m in
    let taken = get_notification x (manager_at x.managers manager) in
    let found = note_says x (manager_at x.managers manager) note is in
    subst (λ (b : Bool). Decides (held m) (refuse_or x (first_refusal ((b, WaitTimeout) ∷ [])) taken) reply (Take manager) events m) (sym found.0)
    (quiet_decided (held m) m taken reply (Take manager) events (says ∙ found.1) (note_quiet x (manager_at x.managers manager)) refl refl refl refl there holds)

-- ---- CreateEnlistment

-- the outcome with the resource manager and the transaction that are there
abbrev enlisting : Present → Pid → Label → Id → Id → EnlistmentKind → Outcome
enlisting x process label manager transaction kind = create_enlistment x process label (manager_at x.managers manager) (transaction_at x.transactions.items transaction) kind

enlisting_quiet : (x : Present) (process : Pid) (label : Label) (m : Option Manager) (t : Option Transaction) (kind : EnlistmentKind) → (create_enlistment x process label m t kind).events ≡ []
unfolding create_enlistment
enlisting_quiet x process label None t kind = refl
enlisting_quiet x process label (Some m) None kind = refl
enlisting_quiet x process label (Some m) (Some t) kind = refl

enlisting_says : (x : Present) (process : Pid) (label : Label) (m : Option Manager) (t : Option Transaction) (kind : EnlistmentKind) → is_some m ≡ true → is_some t ≡ true
    → Guid (guid_of ObjectKind.Enlistment x.recorded.image (id_after x.recorded.boots x.transactions.last_enlistment)) ≡ (create_enlistment x process label m t kind).reply
unfolding create_enlistment
enlisting_says x process label None t kind m_is t_is = absurd (cc)
enlisting_says x process label (Some m) None kind m_is t_is = absurd (cc)
enlisting_says x process label (Some m) (Some t) kind m_is t_is = refl

-- five notifications more are granted for it
pub enlisting_grants : (x : Present) (process : Pid) (label : Label) (m : Option Manager) (t : Option Transaction) (kind : EnlistmentKind) → granted_in x (create_enlistment x process label m t kind) ≤ 5
unfolding create_enlistment
enlisting_grants x process label None t kind = omega arith
enlisting_grants x process label (Some m) None kind = omega arith
enlisting_grants x process label (Some m) (Some t) kind = omega (arith, length-append x.transactions.enlistments)

pub enlistment_decided : (h : LayersNow) (n : MemoryState) (process : Pid) (label : Label) (manager transaction : Id) (kind : EnlistmentKind) (guid : List ℕ) (image : ℕ) (id : Id) (events : EventsState)
    → guid ≡ guid_of ObjectKind.Enlistment image id → image ≡ h.journal.image → id ≡ id_after h.boot h.transactions.last_enlistment → is_some (manager_at h.managers manager) ≡ true → is_some (transaction_at h.transactions.items transaction) ≡ true
    → held n ≡ h → MaySettle n (Enlist process label manager transaction kind) → Holds events []
    → (o : Outcome) → o ≡ enlisting (now_of h) process label manager transaction kind → Decides h o (Guid guid) (Enlist process label manager transaction kind) events n
enlistment_decided h n process label manager transaction kind guid image id events is image_is id_is there_manager there_transaction same may holds o comes =
    let x = now_of h in
    let made = enlisting x process label manager transaction kind in
    let m = manager_at x.managers manager in
    let t = transaction_at x.transactions.items transaction in
    let guid_is : guid ≡ guid_of ObjectKind.Enlistment h.journal.image (id_after h.boot h.transactions.last_enlistment) = rw (is, image_is, id_is) refl in
    subst (λ o. Decides h o (Guid guid) (Enlist process label manager transaction kind) events n) (sym comes)
    (quiet_decided h n made (Guid guid) (Enlist process label manager transaction kind) events (ap Guid guid_is ∙ enlisting_says x process label m t kind there_manager there_transaction)
    (enlisting_quiet x process label m t kind) same refl refl refl may holds)

-- ---- SetEnlistmentRecoveryInformation

informed : (x : Present) (e : Option Enlistment) (information : List ℕ) → IsDone (set_information x e information)
unfolding set_information
informed x None information = record { replies = refl; records = refl }
informed x (Some e) information = record { replies = refl; records = refl }

pub inform_decided : (m : MemoryState) (enlistment : Id) (information : List ℕ) (events : EventsState) → Holds events []
    → Decides (held m) (set_information (present_of m) (enlistment_at m.tm.now.enlistments enlistment) information) Done (Inform enlistment information) events m
inform_decided m enlistment information events holds =
    let done = informed (present_of m) (enlistment_at m.tm.now.enlistments enlistment) information in
    quiet_decided (held m) m (set_information (present_of m) (enlistment_at m.tm.now.enlistments enlistment) information) Done (Inform enlistment information) events (sym done.replies) done.records refl refl refl refl tt holds

-- ---- GetEnlistmentRecoveryInformation

pub told_is : (x : Present) (found : Option Enlistment) (e : Enlistment) (bytes : List ℕ) → found ≡ Some e → bytes ≡ e.information → get_information x found ≡ only_reply x (Contents bytes)
unfolding get_information
told_is x found e bytes is are = rw (is, are) refl
