use Rattle.std.proofs.Common.{Err, arith}
use Rattle.ktm_world.specs.EventGrammar.{IsChangeOf}
use Rattle.ktm_event.specs.declared.fault.EventFault.TheVariants.{NotAnEvent}
use Rattle.ktm_event.proofs.ChangeReadings.{change_starts, other_change}
use Rattle.ktm_event.proofs.Readings.{passes, behind, no_tag}
use Rattle.ktm_event.proofs.change.change_at.Goals as goal

pub returns-in_err-tag : goal.returns-in_err-tag
returns-in_err-tag c = passes _ _ c.from_residual.ensures.1 c.in_err-tag.ensures (no_tag IsChangeOf change_starts)

pub returns-in-1 : goal.returns-in-1
returns-in-1 c = behind IsChangeOf change_starts (rw c.in-1.is at c.in_ok-tag.ensures) _ c.make_at.ensures

pub returns-in-2 : goal.returns-in-2
returns-in-2 c = behind IsChangeOf change_starts (rw c.in-2.is at c.in_ok-tag.ensures) _ c.put_at.ensures

pub returns-in-3 : goal.returns-in-3
returns-in-3 c = behind IsChangeOf change_starts (rw c.in-3.is at c.in_ok-tag.ensures) _ c.cut_at.ensures

pub returns-in-4 : goal.returns-in-4
returns-in-4 c = behind IsChangeOf change_starts (rw c.in-4.is at c.in_ok-tag.ensures) _ c.move_at.ensures

pub returns-in-5 : goal.returns-in-5
returns-in-5 c = behind IsChangeOf change_starts (rw c.in-5.is at c.in_ok-tag.ensures) _ c.drop_at.ensures

pub returns-in_default : goal.returns-in_default
returns-in_default c =
    behind IsChangeOf change_starts c.in_ok-tag.ensures (Err NotAnEvent)
    (other_change c.in_ok-tag.tag (omega arith) (omega arith) (omega arith) (omega arith) (omega arith))
