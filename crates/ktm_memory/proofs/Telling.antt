-- Labels that are bound, resource managers that recover and take what waits for them, and enlistments that are informed.
use Rattle.std.proofs.Common.{◌≡◌, ◌≤◌, ◌+◌, ℕ, true, List, [], ◌∷◌, map, length, append-nil, Option, Some, None, is_some, refl, sym, ◌∙◌, ap, subst, inl, inr, arith}
use Rattle.std.proofs.lemmas.Bool.{cases_Bool}
use Rattle.std.specs.Option.{option_map}
use Rattle.ktm_base.specs.declared.id.Id.{Id}
use Rattle.ktm_base.specs.declared.id.Label.{Label}
use Rattle.ktm_base.specs.declared.id.Pid.{Pid}
use Rattle.txf_laws.proofs.offered.Tables.{same_id-equal}
use Rattle.ktm_object.specs.Table.{HandleTable}
use Rattle.ktm_tm.specs.Recovery.{recover_notes as notes_in}
use Rattle.ktm_tm.specs.TmState.{TmState}
use Rattle.ktm_trace.specs.Contents.{KeptLaw}
use Rattle.ktm_world.specs.declared.object.Handle.{Handle}
use Rattle.ktm_world.specs.declared.object.Object.{Object}
use Rattle.ktm_world.specs.declared.reply.Reply.{Reply}
use Rattle.ktm_world.specs.declared.reply.Reply.TheVariants.{Done}
use Rattle.ktm_world.specs.Enlistments.{Enlistment, Manager, Sent, enlistment_at, has_id, manager_at, with_enlistments}
use Rattle.ktm_world.specs.Files.{FirstOpen}
use Rattle.ktm_world.specs.HandleCalls.{bind_to, duplicate_handle}
use Rattle.ktm_world.specs.Handles.{object_at}
use Rattle.ktm_world.specs.Labels.{with_handle}
use Rattle.ktm_world.specs.Outcome.{Outcome, apply, only_reply, served}
use Rattle.ktm_world.specs.Present.{Present, Transactions}
use Rattle.ktm_world.specs.TransactionCalls.{get_notification, note_reply, opened_object, recover_notes, recover_resource_manager, set_information, take_first, recover_all, keep_information}
use Rattle.txf_laws.proofs.offered.Elements.{find-in}
use Rattle.ktm_standing.proofs.offered.Applied.{apply-kept, opens_all, served-none}
use Rattle.ktm_memory.specs.Memory.{MemoryState, Settles, Shows, TellsWithin, present_of}
use Rattle.ktm_memory.proofs.Behind.{settles-same, shows-held}

-- ---- labels

-- the label is bound to the object
pub settles-bound : (m : MemoryState) (handles : HandleTable) (process : Pid) (label : Label) (object : Object) → handles.handles ≡ with_handle m.handles.handles process label object
    → Settles m (λ x. opened_object x process label object) (record m { handles = handles })
settles-bound m handles process label object are = record { shows = shows; slots = λ x now. omega arith }
  where
    shows : (x : Present) → Shows m x → Unit {0} → Shows (record m { handles = handles }) (apply x (opened_object x process label object))
    shows x now may =
        subst (λ (y : Present). Shows (record m { handles = handles }) y)
        (sym (apply-kept x (opened_object x process label object) (record { records = refl; commits = refl; sends = refl; opens = refl; makes = refl; takes = refl }) refl))
        (record {
          is_up = now.is_up;
          boot = now.boot;
          transactions = now.transactions;
          managers = now.managers;
          traces = now.traces;
          files = now.files;
          next_node = now.next_node;
          keys = now.keys;
          handles = are ∙ ap (λ (hs : List Handle). with_handle hs process label object) now.handles;
        })

-- the label is bound to what another label names
pub settles-duplicate : (m : MemoryState) (handles : HandleTable) (process : Pid) (label : Label) (from : Pid) (source : Label)
    → Some handles.handles ≡ option_map (with_handle m.handles.handles process label) (object_at m.handles.handles from source)
    → Settles m (λ x. duplicate_handle x process label from source) (record m { handles = handles })
unfolding duplicate_handle
settles-duplicate m handles process label from source are = go (object_at m.handles.handles from source) refl are
  where
    go : (named : Option Object) → object_at m.handles.handles from source ≡ named → Some handles.handles ≡ option_map (with_handle m.handles.handles process label) named
        → Settles m (λ x. bind_to x process label (object_at x.handles from source)) (record m { handles = handles })
    go None at is = absurd (cc)
    go (Some object) at is =
        let same : handles.handles ≡ with_handle m.handles.handles process label object = cc in
        settles-same m (record m { handles = handles }) (λ x. opened_object x process label object) (λ x. bind_to x process label (object_at x.handles from source))
        (λ x now. ap (λ (o : Option Object). bind_to x process label o) (ap (λ (hs : List Handle). object_at hs from source) (sym now.handles) ∙ at)) (settles-bound m handles process label object same)

-- ---- notifications

-- what only tells, takes and changes transactions
abbrev telling : Present → Reply → List Sent → Option Id → Transactions → Outcome
telling x reply sent took all = record (only_reply x reply) { sent = sent; took = took; transactions = all }

-- memory shows what that makes, where the transactions and the resource managers are so then
shows-told : (m : MemoryState) (tm : TmState) (x : Present) (reply : Reply) (sent : List Sent) (took : Option Id) (all : Transactions) → Shows m x → tm.boot ≡ m.tm.boot → tm.now ≡ all
    → tm.managers ≡ map (served took sent) m.tm.managers → Shows (record m { tm = tm }) (apply x (telling x reply sent took all))
shows-told m tm x reply sent took all now boot is told = record {
  is_up = now.is_up;
  boot = boot ∙ now.boot;
  transactions = is;
  managers = told ∙ ap (λ (ms : List Manager). map (served took sent) ms) (now.managers ∙ sym (append-nil x.managers));
  traces = now.traces;
  files = now.files ∙ ap (λ (opens : List FirstOpen). record x.files { first_opens = opens }) (sym (opens_all x.files.first_opens));
  next_node = now.next_node;
  keys = now.keys;
  handles = now.handles;
}

-- the one that is found has the Id
manager_id : (ms : List Manager) (id : Id) (k : Manager) → manager_at ms id ≡ Some k → k.id ≡ id
manager_id ms id k at = same_id-equal k.id id (find-in _ ms k at).1

-- a resource manager that is there
record IsThere (m : MemoryState) (manager : Id) : Type 0 where
  one : Manager
  at : manager_at m.tm.managers manager ≡ Some one

is_there : (m : MemoryState) (manager : Id) → is_some (manager_at m.tm.managers manager) ≡ true → IsThere m manager
is_there m manager there = go (manager_at m.tm.managers manager) refl there
  where
    go : (found : Option Manager) → manager_at m.tm.managers manager ≡ found → is_some found ≡ true → IsThere m manager
    go None at some = absurd (cc)
    go (Some k) at some = record { one = k; at = at }

-- is told of its enlistments
recovers : (m : MemoryState) (manager : Id) → is_some (manager_at m.tm.managers manager) ≡ true
    → (x : Present) → Shows m x → recover_resource_manager x (manager_at x.managers manager) ≡ record (only_reply x Done) { sent = notes_in m.tm.now manager }
unfolding recover_resource_manager
recovers m manager there x now =
    let is = is_there m manager there in
    ap (λ (o : Option Manager). recover_all x o) (ap (λ (ms : List Manager). manager_at ms manager) (sym now.managers) ∙ is.at)
    ∙ ap (λ (id : Id). record (only_reply x Done) { sent = recover_notes x id }) (manager_id m.tm.managers manager is.one is.at)
    ∙ ap (λ (all : Transactions). record (only_reply x Done) { sent = notes_in all manager }) (sym now.transactions)

pub settles-recover : (m : MemoryState) (tm : TmState) (manager : Id) → is_some (manager_at m.tm.managers manager) ≡ true → tm.boot ≡ m.tm.boot → tm.now ≡ m.tm.now
    → tm.managers ≡ map (served None (notes_in m.tm.now manager)) m.tm.managers → tm.slots + length (notes_in m.tm.now manager) ≡ m.tm.slots
    → Settles m (λ x. recover_resource_manager x (manager_at x.managers manager)) (record m { tm = tm })
settles-recover m tm manager there boot is told slots =
    settles-same m (record m { tm = tm }) (λ x. record (only_reply x Done) { sent = notes_in m.tm.now manager }) (λ x. recover_resource_manager x (manager_at x.managers manager)) (recovers m manager there)
    (record {
      shows = λ x now may. shows-told m tm x Done (notes_in m.tm.now manager) None x.transactions now boot (is ∙ now.transactions) told;
      slots = λ x now. omega (arith, slots);
    })

-- there is room for what that tells
pub told-recover : (m : MemoryState) (manager : Id) → KeptLaw → is_some (manager_at m.tm.managers manager) ≡ true → TellsWithin m (λ x. recover_resource_manager x (manager_at x.managers manager))
    → length (notes_in m.tm.now manager) ≤ m.tm.slots
told-recover m manager kept there told =
    let now = shows-held m kept in
    omega (arith, told (present_of m) now, ap (λ (o : Outcome). length o.sent) (recovers m manager there (present_of m) now))

-- takes what waits first
pub settles-take : (m : MemoryState) (tm : TmState) (manager : Id) → is_some (manager_at m.tm.managers manager) ≡ true → tm.boot ≡ m.tm.boot → tm.now ≡ m.tm.now
    → tm.managers ≡ map (served (Some manager) []) m.tm.managers → m.tm.slots ≤ tm.slots
    → Settles m (λ x. get_notification x (manager_at x.managers manager)) (record m { tm = tm })
unfolding get_notification
settles-take m tm manager there boot is told slots =
    let one = is_there m manager there in
    settles-same m (record m { tm = tm }) (λ x. record (only_reply x (note_reply x one.one.queue)) { took = Some manager }) (λ x. take_first x (manager_at x.managers manager))
    (λ x now.
    ap (λ (o : Option Manager). take_first x o) (ap (λ (ms : List Manager). manager_at ms manager) (sym now.managers) ∙ one.at)
    ∙ ap (λ (id : Id). record (only_reply x (note_reply x one.one.queue)) { took = Some id }) (manager_id m.tm.managers manager one.one one.at))
    (record {
      shows = λ x now may. shows-told m tm x (note_reply x one.one.queue) [] (Some manager) x.transactions now boot (is ∙ now.transactions) told;
      slots = λ x now. omega (arith, slots);
    })

-- ---- recovery information

-- where there is no such enlistment none is changed
none-informed : (f : Enlistment → Enlistment) (es : List Enlistment) (id : Id) → enlistment_at es id ≡ None → with_enlistments (has_id id) f es ≡ es
none-informed f [] id none = refl
none-informed f (e ∷ es) id none = elim (cases_Bool (has_id id e)) [
  | inl same ↦ absurd (let found : Some e ≡ None = rw same at none in cc)
  | inr other ↦ (let rest = none-informed f es id (rw other at none) in rw other (ap (λ (l : List Enlistment). e ∷ l) rest))
]

-- the enlistment is informed, if there is one
informs : (m : MemoryState) (id : Id) (information : List ℕ) (x : Present) → Shows m x
    → set_information x (enlistment_at x.transactions.enlistments id) information
    ≡ record (only_reply x Done) { transactions = record m.tm.now { enlistments = with_enlistments (has_id id) (λ e. record e { information = information }) m.tm.now.enlistments } }
unfolding set_information
informs m id information x now =
    go (enlistment_at x.transactions.enlistments id) refl
    ∙ ap (λ (all : Transactions). record (only_reply x Done) { transactions = record all { enlistments = with_enlistments (has_id id) (λ e. record e { information = information }) all.enlistments } }) (sym now.transactions)
  where
    told : List Enlistment → Outcome
    told es = record (only_reply x Done) { transactions = record x.transactions { enlistments = es } }

    go : (found : Option Enlistment) → enlistment_at x.transactions.enlistments id ≡ found
        → keep_information x found information ≡ told (with_enlistments (has_id id) (λ e. record e { information = information }) x.transactions.enlistments)
    go None at = ap told (sym (none-informed (λ e. record e { information = information }) x.transactions.enlistments id at))
    go (Some e) at = ap (λ (i : Id). told (with_enlistments (has_id i) (λ e. record e { information = information }) x.transactions.enlistments)) (same_id-equal e.id id (find-in (has_id id) x.transactions.enlistments e at).1)

pub settles-inform : (m : MemoryState) (tm : TmState) (id : Id) (information : List ℕ) → tm.boot ≡ m.tm.boot
    → tm.now ≡ record m.tm.now { enlistments = with_enlistments (has_id id) (λ e. record e { information = information }) m.tm.now.enlistments } → tm.managers ≡ m.tm.managers → tm.slots ≡ m.tm.slots
    → Settles m (λ x. set_information x (enlistment_at x.transactions.enlistments id) information) (record m { tm = tm })
settles-inform m tm id information boot is managers slots =
    settles-same m (record m { tm = tm })
    (λ x. record (only_reply x Done) { transactions = record m.tm.now { enlistments = with_enlistments (has_id id) (λ e. record e { information = information }) m.tm.now.enlistments } })
    (λ x. set_information x (enlistment_at x.transactions.enlistments id) information) (informs m id information)
    (record {
      shows = λ x now may.
          shows-told m tm x Done [] None _ now boot is (managers ∙ sym (served-none m.tm.managers) ∙ ap (λ (ms : List Manager). map (served None []) ms) (append-nil m.tm.managers));
      slots = λ x now. omega (arith, slots);
    })
