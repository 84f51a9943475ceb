-- What a call on the manager comes to.
use Rattle.std.specs.Prelude.{Bool, true, false, Option, Some, None}
use Rattle.ktm_base.specs.declared.id.Id.{Id}
use Rattle.ktm_base.specs.declared.refusal.Refusal.{Refusal}
use Rattle.ktm_world.specs.declared.reply.Reply.{Reply}
use Rattle.ktm_world.specs.declared.reply.Reply.TheVariants.{Refused}
use Rattle.ktm_world.specs.KeyCalls.{KeyRoom, KeyOutcome, kv_set, kv_set_tests, kv_unset, kv_unset_tests, kv_get, kv_get_tests, kv_list}
use Rattle.ktm_world.specs.Keys.{KeysNow}
use Rattle.ktm_world.specs.Outcome.{first_refusal}
use Rattle.kv_rm.specs.declared.call.KvCall.{KvCall}
use Rattle.kv_rm.specs.declared.call.KvCall.TheVariants.{Set, Unset, Get}

-- a refusal, which changes nothing, or else the outcome
abbrev pub unless_refused : KeysNow → Option Refusal → KeyOutcome → KeyOutcome
unless_refused keys (Some refusal) outcome = record { reply = Refused refusal; own = keys.own }
unless_refused keys None outcome = outcome

-- the first of the call's tests that holds refuses it, else it does what it is for
abbrev pub key_outcome : KeysNow → KeyRoom → Option Id → KvCall → KeyOutcome
key_outcome keys room who (Set key value) = unless_refused keys (first_refusal (kv_set_tests keys room who key value)) (kv_set keys who key value)
key_outcome keys room who (Unset key) = unless_refused keys (first_refusal (kv_unset_tests keys room who key)) (kv_unset keys who key)
key_outcome keys room who (Get key) = unless_refused keys (first_refusal (kv_get_tests keys who key)) (kv_get keys who key)
key_outcome keys room who KvCall.List = kv_list keys who

-- does the reply refuse the call
abbrev pub is_refused : Reply → Bool
is_refused (Refused refusal) = true
is_refused _ = false
