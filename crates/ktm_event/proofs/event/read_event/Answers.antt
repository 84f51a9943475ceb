use Rattle.std.proofs.Common.{Err, arith}
use Rattle.ktm_world.specs.EventGrammar.{IsEventOf}
use Rattle.ktm_event.specs.declared.fault.EventFault.TheVariants.{NotAnEvent}
use Rattle.ktm_event.proofs.EventReadings.{event_starts, other_event}
use Rattle.ktm_event.proofs.Readings.{passes, behind, no_tag}
use Rattle.ktm_event.proofs.event.read_event.Goals as goal

pub returns-in_err-tag : goal.returns-in_err-tag
returns-in_err-tag c = passes _ _ c.from_residual.ensures.1 c.in_err-tag.ensures (no_tag IsEventOf event_starts)

pub returns-in-1 : goal.returns-in-1
returns-in-1 c = behind IsEventOf event_starts (rw c.in-1.is at c.in_ok-tag.ensures) _ c.boot_at.ensures

pub returns-in-2 : goal.returns-in-2
returns-in-2 c = behind IsEventOf event_starts (rw c.in-2.is at c.in_ok-tag.ensures) _ c.made_rm_at.ensures

pub returns-in-3 : goal.returns-in-3
returns-in-3 c = behind IsEventOf event_starts (rw c.in-3.is at c.in_ok-tag.ensures) _ c.plain_at.ensures

pub returns-in-4 : goal.returns-in-4
returns-in-4 c = behind IsEventOf event_starts (rw c.in-4.is at c.in_ok-tag.ensures) _ c.ready_at.ensures

pub returns-in-5 : goal.returns-in-5
returns-in-5 c = behind IsEventOf event_starts (rw c.in-5.is at c.in_ok-tag.ensures) _ c.single_at.ensures

pub returns-in-6 : goal.returns-in-6
returns-in-6 c = behind IsEventOf event_starts (rw c.in-6.is at c.in_ok-tag.ensures) _ c.held_at.ensures

pub returns-in-7 : goal.returns-in-7
returns-in-7 c = behind IsEventOf event_starts (rw c.in-7.is at c.in_ok-tag.ensures) _ c.decide_at.ensures

pub returns-in-8 : goal.returns-in-8
returns-in-8 c = behind IsEventOf event_starts (rw c.in-8.is at c.in_ok-tag.ensures) _ c.undo_at.ensures

pub returns-in-9 : goal.returns-in-9
returns-in-9 c = behind IsEventOf event_starts (rw c.in-9.is at c.in_ok-tag.ensures) _ c.finished_at.ensures

pub returns-in_default : goal.returns-in_default
returns-in_default c =
    behind IsEventOf event_starts c.in_ok-tag.ensures (Err NotAnEvent)
    (other_event c.in_ok-tag.tag (omega arith) (omega arith) (omega arith) (omega arith) (omega arith) (omega arith) (omega arith) (omega arith) (omega arith))
