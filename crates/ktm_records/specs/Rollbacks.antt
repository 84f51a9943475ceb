-- What a rollback records applies.
use Rattle.std.specs.Prelude.{◌≡◌, ◌+◌, ◌<◌, ◌^◌, true, Option}
use Rattle.ktm_world.specs.declared.object.Transaction.{Transaction}
use Rattle.ktm_world.specs.declared.reply.Reply.{Reply}
use Rattle.ktm_world.specs.Enlistments.{Enlistment}
use Rattle.ktm_world.specs.Durable.{events_apply}
use Rattle.ktm_world.specs.Lawful.{Agrees}
use Rattle.ktm_world.specs.Present.{Present}
use Rattle.ktm_world.specs.TransactionCalls.{aborted_by}
use Rattle.ktm_world.specs.Transactions.{is_undecided}
use Rattle.txf_laws.specs.Elements.{IsIn}
use Rattle.txf_laws.specs.GoodState.{IsGoodState}
use Rattle.ktm_courses.specs.SoundCourse.{IsSoundCourse}

-- where what was recorded is good and agrees with what is so now, and this is sound, what the rollback of an undecided transaction records applies, before the count of events ends
abbrev pub RollbacksLaw : Type 0
RollbacksLaw = (x : Present) (t : Transaction) (caller : Option Enlistment) (reply : Reply) → IsSoundCourse x → IsGoodState x.recorded → Agrees x → IsIn t x.transactions.items → is_undecided t ≡ true → x.recorded.events + 1 < 2 ^ 63
    → events_apply x.recorded (aborted_by x t caller reply).events ≡ true
