use Rattle.std.proofs.Common.{arith}
use Rattle.ktm_codec.proofs.SpansLemmas.{spans_then, spans_tagged}
use Rattle.ktm_event.proofs.Readings.{absent_behind, no_tag}
use Rattle.ktm_snapshot.proofs.Fields.{no_name, no_named_contents, other_named, named_starts}
use Rattle.ktm_snapshot.proofs.node.named_at.Goals as goal
use Rattle.ktm_snapshot.specs.Shown.{IsNamedPairOf}

pub returns-in_default : goal.returns-in_default
returns-in_default c = (no_tag IsNamedPairOf named_starts (record { none = c.in_default.ensures })).none

pub returns-in_default-text_at : goal.returns-in_default-text_at
returns-in_default-text_at c = (absent_behind IsNamedPairOf named_starts c.in-Some.ensures (no_name c.in-Some.tag c.in_default-text_at.ensures)).none

pub returns-in-Ok : goal.returns-in-Ok
returns-in-Ok c = spans_tagged _ _ 0 _ (rw c.in-0.is at c.in-Some.ensures) _ (spans_then _ _ _ _ c.in-Some-text_at.ensures c.in-Ok.ensures)

pub returns-in-Err-NotAnEvent : goal.returns-in-Err-NotAnEvent
returns-in-Err-NotAnEvent c =
    (absent_behind IsNamedPairOf named_starts (rw c.in-0.is at c.in-Some.ensures) (no_named_contents c.in-Some-text_at.ensures (rw c.in-Err-NotAnEvent.field-0-is at c.in-Err-NotAnEvent.ensures))).none

pub returns-in-1 : goal.returns-in-1
returns-in-1 c = spans_tagged _ _ 1 _ (rw c.in-1.is at c.in-Some.ensures) _ c.in-Some-text_at.ensures

pub returns-in_default-tag : goal.returns-in_default-tag
returns-in_default-tag c = (absent_behind IsNamedPairOf named_starts c.in-Some.ensures (other_named c.in-Some.tag (omega arith) (omega arith))).none
