-- How replies are spelled, and which replies there are.
use Rattle.std.specs.Prelude.{◌≡◌, ◌≢◌, ℕ, ◌^◌, ◌<◌, ◌≤◌, List, ◌++◌, Option, Some, None, codes, decimal, flat_map}
use Rattle.std.specs.List.{AllByRecursion}
use Rattle.ktm_base.specs.declared.notify.Notify.{Notify}
use Rattle.ktm_base.specs.declared.notify.Notify.TheVariants.{LastRecover}
use Rattle.ktm_base.specs.Bytes.{AreBytes}
use Rattle.ktm_codec.specs.Guid.{guid_spelling}
use Rattle.ktm_codec.specs.Hex.{hex_or_dash}
use Rattle.ktm_codec.specs.Quoted.{quoted}
use Rattle.ktm_reply.specs.Kinds.{kind_name}
use Rattle.ktm_reply.specs.Refusals.{refusal_name}
use Rattle.ktm_reply.specs.States.{state_name, outcome_name}
use Rattle.ktm_world.specs.declared.reply.Reply.{Reply}
use Rattle.ktm_world.specs.declared.reply.Reply.TheVariants.{Refused, Done, Guid, Committed, Pending, Information, Notification, Contents, Size, Names, Keys, Restarted, BadImage}
use Rattle.ktm_world.specs.Values.{IsGuid, IsSize, IsText}

-- a name or a key between quotation marks, behind a space
abbrev pub spaced : List ℕ → List ℕ
spaced text = codes " " ++ quoted text

-- a kind of notification, and its enlistment's GUID
abbrev pub notification_spelling : Notify → Option (List ℕ) → List ℕ
notification_spelling kind None = kind_name kind
notification_spelling kind (Some enlistment) = kind_name kind ++ codes " " ++ guid_spelling enlistment

-- the one spelling of a reply, without a newline
abbrev pub reply_spelling : Reply → List ℕ
reply_spelling (Refused refusal) = refusal_name refusal
reply_spelling Done = codes "ok"
reply_spelling (Guid guid) = codes "ok " ++ guid_spelling guid
reply_spelling Committed = codes "ok committed"
reply_spelling Pending = codes "ok pending"
reply_spelling (Information transaction state outcome) = codes "ok " ++ guid_spelling transaction ++ codes " " ++ state_name state ++ codes " " ++ outcome_name outcome
reply_spelling (Notification kind enlistment) = codes "ok " ++ notification_spelling kind enlistment
reply_spelling (Contents bytes) = codes "ok " ++ hex_or_dash bytes
reply_spelling (Size size) = codes "ok " ++ decimal size
reply_spelling (Names names) = codes "ok" ++ flat_map spaced names
reply_spelling (Keys keys) = codes "ok" ++ flat_map spaced keys
reply_spelling (Restarted events in_doubt) = codes "restarted events=" ++ decimal events ++ codes " indoubt=" ++ decimal in_doubt
reply_spelling (BadImage offset) = codes "BAD_IMAGE " ++ decimal offset

-- the last notification of a recovery, and no other, has no GUID
abbrev pub IsNotification : Notify → Option (List ℕ) → Type 0
IsNotification kind None = kind ≡ LastRecover
IsNotification kind (Some enlistment) = (kind ≢ LastRecover) × IsGuid enlistment

-- a reply with its values in the ranges of the grammar
abbrev pub IsReply : Reply → Type 0
IsReply (Refused refusal) = Unit {0}
IsReply Done = Unit {0}
IsReply (Guid guid) = IsGuid guid
IsReply Committed = Unit {0}
IsReply Pending = Unit {0}
IsReply (Information transaction state outcome) = IsGuid transaction
IsReply (Notification kind enlistment) = IsNotification kind enlistment
IsReply (Contents bytes) = AreBytes bytes
IsReply (Size size) = IsSize size
IsReply (Names names) = AllByRecursion IsText names
IsReply (Keys keys) = AllByRecursion IsText keys
IsReply (Restarted events in_doubt) = (events < 2 ^ 64) × (in_doubt < 2 ^ 32)
IsReply (BadImage offset) = offset < 2 ^ 64

-- the place of a reply's form among the forms: of those with one spelling the first is read
abbrev pub place : Reply → ℕ
place (Refused refusal) = 0
place Done = 1
place (Guid guid) = 2
place Committed = 3
place Pending = 4
place (Information transaction state outcome) = 5
place (Notification kind enlistment) = 6
place (Contents bytes) = 7
place (Size size) = 8
place (Names names) = 9
place (Keys keys) = 10
place (Restarted events in_doubt) = 11
place (BadImage offset) = 12

-- no reply of an earlier form has this reply's spelling
abbrev pub IsFirst : Reply → Type 0
IsFirst reply = (other : Reply) → IsReply other → reply_spelling other ≡ reply_spelling reply → place reply ≤ place other
