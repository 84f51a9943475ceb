-- Reading from left to right. The laws in proofs/ say that it reads what `Spelling` spells; no public contract rests on this file alone.
use Rattle.std.specs.Prelude.{◌≡◌, ℕ, ◌==◌, List, [], ◌∷◌, ◌++◌, codes, Option, Some, None, Result, Ok, Err, if◌then◌else◌, option_map, bytes_eq}
use Rattle.std.specs.List.{find}
use Rattle.ktm_base.specs.declared.notify.Notify.{Notify}
use Rattle.ktm_base.specs.declared.notify.Notify.TheVariants.{LastRecover}
use Rattle.ktm_base.specs.declared.refusal.Refusal.{Refusal}
use Rattle.ktm_codec.specs.Guid.{guid_at}
use Rattle.ktm_codec.specs.Hex.{unhex_or_dash}
use Rattle.ktm_codec.specs.Number.{number_at, last_number_at}
use Rattle.ktm_codec.specs.Quoted.{is_text_byte, quoted_at, quotation_mark}
use Rattle.ktm_codec.specs.Steps.{◌>>=◌, at_end, on_some}
use Rattle.ktm_codec.specs.Word.{after_word, word_at}
use Rattle.ktm_reply.specs.declared.information.TheConstants.{OUTCOMES, STATES}
use Rattle.ktm_reply.specs.declared.notification.TheConstants.{KINDS}
use Rattle.ktm_reply.specs.declared.refusal.TheConstants.{REFUSALS}
use Rattle.ktm_reply.specs.declared.fault.ReplyFault.{ReplyFault}
use Rattle.ktm_reply.specs.declared.fault.ReplyFault.TheVariants.{NotAReply, NoMemory}
use Rattle.ktm_reply.specs.Kinds.{kind_name}
use Rattle.ktm_reply.specs.Refusals.{refusal_name}
use Rattle.ktm_reply.specs.States.{state_name, outcome_name}
use Rattle.ktm_world.specs.declared.object.TransactionOutcome.{TransactionOutcome}
use Rattle.ktm_world.specs.declared.reply.Reply.{Reply}
use Rattle.ktm_world.specs.declared.reply.Reply.TheVariants.{Refused, Done, Guid, Committed, Pending, Information, Notification, Contents, Size, Names, Restarted, BadImage}
use Rattle.ktm_world.specs.declared.reply.TransactionState.{TransactionState}

-- what a function returned is what is read, unless memory ran out
abbrev pub Gives : {Y : Type 0} → Result Y ReplyFault → Option Y → Type 0
Gives (Ok x) read = read ≡ Some x
Gives (Err NotAReply) read = read ≡ None
Gives (Err NoMemory) read = Unit {0}

-- the refusal with this name
unfoldable pub refusal_named : List ℕ → Option Refusal
refusal_named text = find (λ refusal. bytes_eq (refusal_name refusal) text) REFUSALS

-- the kind of notification with this name, other than the last of a recovery
unfoldable pub kind_named : List ℕ → Option Notify
kind_named text = find (λ kind. bytes_eq (kind_name kind) text) KINDS

-- the state with this name
unfoldable pub state_named : List ℕ → Option TransactionState
state_named text = find (λ state. bytes_eq (state_name state) text) STATES

-- the outcome with this name
unfoldable pub outcome_named : List ℕ → Option TransactionOutcome
outcome_named text = find (λ outcome. bytes_eq (outcome_name outcome) text) OUTCOMES

-- a text behind a space, and what follows it
unfoldable pub spaced_at : List ℕ → Option (List ℕ × List ℕ)
spaced_at text = after_word (codes " ") text >>= quoted_at

-- the texts that go on here: behind a front of one of them, or between two of them
unfoldable pub texts_from : Option (List ℕ) → List ℕ → Option (List (List ℕ))
texts_from None [] = Some []
texts_from None (c ∷ []) = None
texts_from None (c ∷ d ∷ cs) = if c == 32 then (if d == quotation_mark then texts_from (Some []) cs else None) else None
texts_from (Some front) [] = None
texts_from (Some front) (c ∷ cs) =
    if c == quotation_mark then option_map (λ texts. front ∷ texts) (texts_from None cs) else
    (if is_text_byte c then texts_from (Some (front ++ c ∷ [])) cs else None)

-- texts behind a space each
abbrev pub texts_at : List ℕ → Option (List (List ℕ))
texts_at text = texts_from None text

-- behind a transaction's GUID: how it stands
unfoldable pub information_at : List ℕ → List ℕ → Option Reply
information_at transaction text = do
  rest ← after_word (codes " ") text
  state ← state_named (word_at rest).0
  last ← after_word (codes " ") (word_at rest).1
  outcome ← outcome_named last
  Some (Information transaction state outcome)

-- behind a GUID: how its transaction stands, or nothing
unfoldable pub behind_guid_at : List ℕ → List ℕ → Option Reply
behind_guid_at guid [] = Some (Guid guid)
behind_guid_at guid (c ∷ cs) = information_at guid (c ∷ cs)

-- behind a kind: its enlistment's GUID
unfoldable pub behind_kind_at : Notify → List ℕ → Option Reply
behind_kind_at kind text = do
  rest ← after_word (codes " ") text
  guid ← guid_at rest
  at_end (Notification kind (Some guid.0)) guid.1

-- a size
unfoldable pub size_at : List ℕ → Option Reply
size_at text = option_map (λ size. Size size) (last_number_at 0xFFFF_FFFF_FFFF_FFFF text)

-- behind `ok ` and no quotation mark
unfoldable pub part_at : List ℕ → Option Reply
part_at text =
    on_some (guid_at text) (λ guid. behind_guid_at guid.0 guid.1)
    (on_some (kind_named (word_at text).0) (λ kind. behind_kind_at kind (word_at text).1)
    (on_some (unhex_or_dash text) (λ bytes. Some (Contents bytes)) (size_at text)))

-- behind `ok`, where the reply has no values
unfoldable pub plain_at : List ℕ → Option Reply
plain_at text =
    if bytes_eq text [] then Some Done else
    (if bytes_eq text (codes " committed") then Some Committed else
    (if bytes_eq text (codes " pending") then Some Pending else
    (if bytes_eq text (codes " LAST_RECOVER") then Some (Notification LastRecover None) else None)))

-- behind `ok`
unfoldable pub told_at : List ℕ → Option Reply
told_at text =
    on_some (plain_at text) (λ reply. Some reply)
    (on_some (after_word (codes " \"") text) (λ rest. option_map (λ names. Names names) (texts_at text))
    (on_some (after_word (codes " ") text) part_at None))

-- behind `restarted events=`
unfoldable pub restarted_at : List ℕ → Option Reply
restarted_at text = do
  events ← number_at 0xFFFF_FFFF_FFFF_FFFF text
  rest ← after_word (codes " indoubt=") events.1
  in_doubt ← last_number_at 0xFFFF_FFFF rest
  Some (Restarted events.0 in_doubt)

-- behind `BAD_IMAGE `
unfoldable pub bad_image_at : List ℕ → Option Reply
bad_image_at text = option_map (λ offset. BadImage offset) (last_number_at 0xFFFF_FFFF_FFFF_FFFF text)

-- a line
unfoldable pub reply_at : List ℕ → Option Reply
reply_at line =
    on_some (after_word (codes "ok") line) told_at
    (on_some (after_word (codes "restarted events=") line) restarted_at
    (on_some (after_word (codes "BAD_IMAGE ") line) bad_image_at
    (option_map (λ refusal. Refused refusal) (refusal_named line))))
