-- What a call tells, by its form.
use Rattle.std.specs.Prelude.{ℕ}
use Rattle.ktm_base.specs.declared.id.Pid.{Pid}
use Rattle.ktm_world.specs.declared.command.Command.{Command}
use Rattle.ktm_world.specs.declared.command.Command.TheVariants.{CreateTransaction, CommitTransaction, GetTransactionInformation, CreateResourceManager, GetNotificationResourceManager, CreateEnlistment, GetEnlistmentRecoveryInformation, ReadFile, GetFileSizeEx, FindFiles, FindFilesTransacted, KvGet, KvList}
use Rattle.ktm_world.specs.declared.reply.Reply.{Reply}
use Rattle.ktm_world.specs.declared.reply.Reply.TheVariants.{Refused, Done, Guid, Committed, Pending, Information, Notification, Contents, Size, Names, Keys}
use Rattle.ktm_world.specs.Decide.{decide}
use Rattle.ktm_world.specs.Present.{Present}
use Rattle.ktm_world.specs.World.{decide_tick}

-- what is told where nothing refuses a call
pub data Telling : Type 0 where
  -- that it is done
  nothing : Telling
  -- the GUID of what was made
  a_guid : Telling
  -- that a transaction has committed, or that it waits
  progress : Telling
  -- how a transaction stands
  a_transaction : Telling
  a_notification : Telling
  bytes : Telling
  a_size : Telling
  names : Telling
  keys : Telling

-- what a call tells
abbrev pub tells : Command → Telling
tells (CreateTransaction label timeout) = a_guid
tells (CommitTransaction transaction) = progress
tells (GetTransactionInformation transaction) = a_transaction
tells (CreateResourceManager label durability) = a_guid
tells (GetNotificationResourceManager manager) = a_notification
tells (CreateEnlistment label manager transaction kind) = a_guid
tells (GetEnlistmentRecoveryInformation enlistment) = bytes
tells (ReadFile file offset many) = bytes
tells (GetFileSizeEx file) = a_size
tells (FindFiles searched) = names
tells (FindFilesTransacted searched transaction) = names
tells (KvGet view key) = bytes
tells (KvList view) = keys
tells _ = nothing

-- is the reply a refusal, or does it tell this
abbrev pub IsTold : Reply → Telling → Type 0
IsTold (Refused refusal) telling = Unit {0}
IsTold Done nothing = Unit {0}
IsTold (Guid guid) a_guid = Unit {0}
IsTold Committed progress = Unit {0}
IsTold Pending progress = Unit {0}
IsTold (Information transaction state outcome) a_transaction = Unit {0}
IsTold (Notification kind enlistment) a_notification = Unit {0}
IsTold (Contents contents) bytes = Unit {0}
IsTold (Size size) a_size = Unit {0}
IsTold (Names list) names = Unit {0}
IsTold (Keys list) keys = Unit {0}
IsTold _ _ = ⊥

-- a call is refused, or tells what its form does
abbrev pub RepliesLaw : Type 0
RepliesLaw = (x : Present) (process : Pid) (command : Command) → IsTold (decide x process command).reply (tells command)

-- the passing of time is refused, or done
abbrev pub TickLaw : Type 0
TickLaw = (x : Present) (ms : ℕ) → IsTold (decide_tick x ms).reply nothing
