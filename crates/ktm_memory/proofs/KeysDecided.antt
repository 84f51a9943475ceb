-- Decisions of the calls on keys.
use Rattle.std.proofs.Common.{◌≡◌, false, List, map, Option, Some, None, refl, ap}
use Rattle.ktm_base.specs.declared.id.Id.{Id}
use Rattle.ktm_base.specs.declared.refusal.Refusal.{Refusal}
use Rattle.ktm_trace.specs.Contents.{expanded}
use Rattle.ktm_world.specs.Durable.{Recorded}
use Rattle.ktm_world.specs.KeyCalls.{KeyOutcome, KeyRoom, kv_get, kv_get_tests, kv_set, kv_set_tests, kv_unset, kv_unset_tests}
use Rattle.ktm_world.specs.Keys.{KeysNow, Own, own_settings}
use Rattle.ktm_world.specs.Outcome.{first_refusal}
use Rattle.ktm_world.specs.Transactions.{same_id}
use Rattle.ktm_standing.specs.Standing.{IsStandingNow}
use Rattle.kv_rm.specs.Calls.{key_outcome, unless_refused}
use Rattle.kv_rm.specs.declared.call.KvCall.{KvCall}
use Rattle.kv_rm.specs.declared.call.KvCall.TheVariants.{Set, Unset, Get}
use Rattle.ktm_memory.specs.Memory.{LayersNow, now_of}
use Rattle.ktm_memory.specs.Routed.{IsActiveCaller}
use Rattle.ktm_memory.proofs.Unlogged.{settings-other, unlogged}

-- a refusal changes nothing
refused_own : (P : List Own → Type 0) (keys : KeysNow) (refusal : Option Refusal) (o : KeyOutcome) → P keys.own → P o.own → P (unless_refused keys refusal o).own
refused_own P keys None o old new = new
refused_own P keys (Some refusal) o old new = old

-- a plain call sets nothing of a transaction
plain_own : (keys : KeysNow) (room : KeyRoom) (call : KvCall) → (key_outcome keys room None call).own ≡ keys.own
plain_own keys room (Set key value) = refused_own (λ own. own ≡ keys.own) keys (first_refusal (kv_set_tests keys room None key value)) (kv_set keys None key value) refl refl
plain_own keys room (Unset key) = refused_own (λ own. own ≡ keys.own) keys (first_refusal (kv_unset_tests keys room None key)) (kv_unset keys None key) refl refl
plain_own keys room (Get key) = refused_own (λ own. own ≡ keys.own) keys (first_refusal (kv_get_tests keys None key)) (kv_get keys None key) refl refl
plain_own keys room KvCall.List = refl

-- one in a transaction leaves what others set
own_other : (keys : KeysNow) (room : KeyRoom) (id : Id) (call : KvCall) (other : Id) → same_id id other ≡ false → own_settings (key_outcome keys room (Some id) call).own other ≡ own_settings keys.own other
own_other keys room id (Set key value) other differ =
    refused_own (λ own. own_settings own other ≡ own_settings keys.own other) keys (first_refusal (kv_set_tests keys room (Some id) key value)) (kv_set keys (Some id) key value) refl (settings-other keys.own id key (Some value) other differ)
own_other keys room id (Unset key) other differ =
    refused_own (λ own. own_settings own other ≡ own_settings keys.own other) keys (first_refusal (kv_unset_tests keys room (Some id) key)) (kv_unset keys (Some id) key) refl (settings-other keys.own id key None other differ)
own_other keys room id (Get key) other differ = refused_own (λ own. own_settings own other ≡ own_settings keys.own other) keys (first_refusal (kv_get_tests keys (Some id) key)) (kv_get keys (Some id) key) refl refl
own_other keys room id KvCall.List other differ = refl

-- these settings are the transactions' own, where that leaves what was recorded of them
with_own_settings : (h : LayersNow) (own : List Own) → map (expanded h.transactions.enlistments h.files.table.own own) h.traces ≡ map (expanded h.transactions.enlistments h.files.table.own h.keys.own) h.traces
    → now_of (record h { keys = record h.keys { own = own } }) ≡ record (now_of h) { keys = record h.keys { own = own } }
with_own_settings h own same = let y = record (now_of h) { keys = record h.keys { own = own } } in ap (λ (ts : List Recorded). record y { recorded = record y.recorded { transactions = ts } }) same

-- what was recorded stays
pub keys_unlogged : (h : LayersNow) (room : KeyRoom) (who : Option Id) (call : KvCall) → IsStandingNow (now_of h) → IsActiveCaller (now_of h) who
    → (let own : List Own = (key_outcome h.keys room who call).own in now_of (record h { keys = record h.keys { own = own } }) ≡ record (now_of h) { keys = record h.keys { own = own } })
keys_unlogged h room None call standing active = with_own_settings h (key_outcome h.keys room None call).own (ap (λ (own : List Own). map (expanded h.transactions.enlistments h.files.table.own own) h.traces) (plain_own h.keys room call))
keys_unlogged h room (Some id) call standing active =
    with_own_settings h (key_outcome h.keys room (Some id) call).own (unlogged h id h.files.table.own (key_outcome h.keys room (Some id) call).own standing active (λ other differ. refl) (own_other h.keys room id call))
