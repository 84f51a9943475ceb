-- Which reply stands for what a call tells.
use Rattle.std.specs.Prelude.{Option, Some, None}
use Rattle.ktm_base.specs.declared.refusal.Refusal.TheVariants.{WaitTimeout}
use Rattle.ktm_world.specs.declared.reply.Reply.{Reply}
use Rattle.ktm_world.specs.declared.reply.Reply.TheVariants as reply
use Rattle.wattorju.specs.declared.told.CommitState.{CommitState}
use Rattle.wattorju.specs.declared.told.CommitState.TheVariants.{Committed, Pending}
use Rattle.wattorju.specs.declared.told.Notification.{Notification}
use Rattle.wattorju.specs.declared.told.TransactionInformation.{TransactionInformation}

-- the reply of a commit
abbrev pub reply_of_state : CommitState → Reply
reply_of_state Committed = reply.Committed
reply_of_state Pending = reply.Pending

-- the reply that tells how a transaction stands
abbrev pub reply_of_information : TransactionInformation → Reply
reply_of_information told = reply.Information told.transaction told.state told.outcome

-- the reply that tells a notification, or that none waits
abbrev pub reply_of_notification : Option Notification → Reply
reply_of_notification None = reply.Refused WaitTimeout
reply_of_notification (Some told) = reply.Notification told.kind told.enlistment
