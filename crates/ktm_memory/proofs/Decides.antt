-- Decisions of the layers.
use Rattle.std.proofs.Common.{◌≡◌, ℕ, ◌-◌, List, [], Some, refl, sym, ◌∙◌, ap, subst}
use Rattle.ktm_base.specs.declared.id.Label.{Label}
use Rattle.ktm_base.specs.declared.id.ObjectKind.{ObjectKind}
use Rattle.ktm_base.specs.declared.id.Pid.{Pid}
use Rattle.ktm_base.specs.Guid.{guid_of}
use Rattle.ktm_base.specs.declared.id.Id.{Id}
use Rattle.ktm_event.specs.Kept.{EventsState, Holds}
use Rattle.ktm_tm.specs.TmState.{next_id}
use Rattle.ktm_world.specs.declared.object.Transaction.{Transaction}
use Rattle.ktm_world.specs.declared.reply.Reply.{Reply}
use Rattle.ktm_world.specs.declared.reply.Reply.TheVariants.{Done, Guid}
use Rattle.ktm_world.specs.Decide.{of_keys}
use Rattle.ktm_world.specs.FileUses.{file_changes_waiting}
use Rattle.ktm_world.specs.KeyCalls.{KeyOutcome}
use Rattle.ktm_world.specs.Outcome.{Outcome, only_reply}
use Rattle.ktm_world.specs.Present.{Present}
use Rattle.ktm_world.specs.TransactionCalls.{create_transaction, get_transaction_information, information_of, tick}
use Rattle.ktm_world.specs.Uses.{key_room}
use Rattle.ktm_standing.specs.Standing.{IsStandingNow}
use Rattle.ktm_standing.proofs.offered.Applied.{apply-reply}
use Rattle.ktm_standing.proofs.offered.Decided.{done_tick}
use Rattle.ktm_memory.specs.declared.settlement.Labels.{Labels}
use Rattle.ktm_memory.specs.declared.settlement.Settlement.TheVariants.{Nothing, Begin, Handles, Pass}
use Rattle.ktm_memory.proofs.offered.Decided.{decided, puts_none, quiet_decided}
use Rattle.ktm_memory.proofs.UndoneLive.{tick_bare}
use Rattle.ktm_memory.proofs.offered.Following.{bare-each}
use Rattle.ktm_memory.proofs.offered.Records.{no_record}
use Rattle.ktm_memory.specs.Rules.{Follows}
use Rattle.ktm_memory.specs.Decided.{Decides, HoldsRecordOf, IsDone}
use Rattle.ktm_records.proofs.offered.NoMore.{fits-within}
use Rattle.ktm_memory.proofs.offered.Standing.{kept}
use Rattle.ktm_memory.specs.Memory.{LayersNow, MayHandle, MaySettle, MemoryState, held, now_of, present_of, recorded_of}
use Rattle.ktm_memory.specs.Settled.{labels_outcome}

-- ---- calls on keys

-- the room that the keys have
pub room_is : (h : LayersNow) (keys changes waiting : ℕ) → keys ≡ h.journal.units → waiting ≡ file_changes_waiting h.files → changes ≡ h.journal.units - waiting → record { keys = keys; changes = changes } ≡ key_room (now_of h)
unfolding key_room
room_is h keys changes waiting keys_are waits changes_are = rw (keys_are, changes_are, waits) refl

-- a call on keys that leaves what was recorded as it is
pub keys_decided : (h : LayersNow) (n : MemoryState) (o : KeyOutcome) (reply : Reply) (events : EventsState) → reply ≡ o.reply
    → held n ≡ record h { keys = record h.keys { own = o.own } } → now_of (record h { keys = record h.keys { own = o.own } }) ≡ record (now_of h) { keys = record h.keys { own = o.own } } → Holds events []
    → Decides h (of_keys (now_of h) o) reply Nothing events n
keys_decided h n o reply events says same recorded holds = record {
  says = says;
  records = no_record (recorded_of h) events holds;
  journal = ap (λ (k : LayersNow). k.journal) same;
  group = refl;
  tells = refl;
  comes_to = apply-reply (present_of n) Done ∙ ap now_of same ∙ recorded ∙ sym (ap (λ (x : Present). record x { keys = record x.keys { own = o.own } }) (apply-reply (now_of h) o.reply));
  may = tt;
  puts = puts_none (present_of n) Nothing refl;
  waits = λ some. absurd (some refl);
  answers = λ some. absurd (some refl);
}

-- ---- GetTransactionInformation

pub information_is : (x : Present) (t : Transaction) (reply : Reply) → reply ≡ information_of x (Some t) → get_transaction_information x (Some t) ≡ only_reply x reply
unfolding get_transaction_information
information_is x t reply is = ap (only_reply x) (sym is)

-- ---- time

-- what is to be for the passing of time
pub tick_decided : (m : MemoryState) (ms : ℕ) (events : EventsState) → IsStandingNow (present_of m) → HoldsRecordOf (present_of m).recorded events (tick (present_of m) ms).events
    → Decides (held m) (tick (present_of m) ms) Done (Pass ms) events m
tick_decided m ms events standing holds =
    let x = present_of m in
    decided (held m) m (tick x ms) Done (Pass ms) events (sym (done_tick x ms).says) holds refl refl refl refl
    ((kept x standing).sound.course.transactions.rise, (fits-within x (kept x standing).within).live)
    (λ rule each. bare-each (Follows rule) (tick x ms).events (tick_bare x ms (kept x standing).sound.course)) (λ some refusal e. absurd (cc))

-- ---- CreateTransaction

create_quiet : (x : Present) (process : Pid) (label : Label) (timeout : ℕ) → (create_transaction x process label timeout).events ≡ []
unfolding create_transaction
create_quiet x process label timeout = refl

pub create_decided : (h : LayersNow) (n : MemoryState) (process : Pid) (label : Label) (timeout : ℕ) (reply : Reply) (events : EventsState)
    → reply ≡ (create_transaction (now_of h) process label timeout).reply → held n ≡ h → MaySettle n (Begin process label timeout) → Holds events []
    → (o : Outcome) → o ≡ create_transaction (now_of h) process label timeout → Decides h o reply (Begin process label timeout) events n
create_decided h n process label timeout reply events says same may holds o is =
    let made = create_transaction (now_of h) process label timeout in
    subst (λ o. Decides h o reply (Begin process label timeout) events n) (sym is)
    (quiet_decided h n made reply (Begin process label timeout) events says (create_quiet (now_of h) process label timeout) same refl refl refl may holds)

-- the reply tells the GUID of that Id
pub create_says : (h : LayersNow) (process : Pid) (label : Label) (timeout : ℕ) (guid : List ℕ) (image : ℕ) (id : Id)
    → guid ≡ guid_of ObjectKind.Transaction image id → image ≡ h.journal.image → id ≡ next_id h.boot h.transactions → Guid guid ≡ (create_transaction (now_of h) process label timeout).reply
unfolding create_transaction
create_says h process label timeout guid image id is image_is id_is = rw (is, image_is, id_is) refl

-- ---- labels

pub handles_decided : (h : LayersNow) (n : MemoryState) (process : Pid) (labels : Labels) (events : EventsState) → IsDone (labels_outcome (now_of h) process labels) → held n ≡ h → MayHandle n process labels → Holds events []
    → (o : Outcome) → o ≡ labels_outcome (now_of h) process labels → Decides h o Done (Handles process labels) events n
handles_decided h n process labels events done same may holds o is =
    subst (λ o. Decides h o Done (Handles process labels) events n) (sym is)
    (quiet_decided h n (labels_outcome (now_of h) process labels) Done (Handles process labels) events (sym done.replies) done.records same refl refl refl may holds)
