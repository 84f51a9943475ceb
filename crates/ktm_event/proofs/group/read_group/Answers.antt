use Rattle.std.proofs.Common.{◌+◌, ◌<◌, length, ◌∙◌, ap, arith, inl, inr}
use Rattle.std.proofs.lemmas.List.{length_push}
use Rattle.ktm_codec.proofs.SpansLemmas.{row_push, list_no_count, list_cut, list_read}
use Rattle.ktm_world.specs.EventGrammar.{IsEventOf}
use Rattle.ktm_event.proofs.OneEvent.{unambiguous_event}
use Rattle.ktm_event.proofs.Groups.{another_group, faulty_group, group_read}
use Rattle.ktm_event.proofs.group.read_group.Goals as goal

pub returns-in_err-count-clause-bad : goal.returns-in_err-count-clause-bad
returns-in_err-count-clause-bad c =
    faulty_group c.args.payload.now _ _ c.from_residual.ensures.1 c.in_err-count.ensures (λ absent. record { none = list_no_count IsEventOf _ _ absent.none })

pub returns-in_err-event-clause-bad : goal.returns-in_err-event-clause-bad
returns-in_err-event-clause-bad c =
    let fewer : length c.events.events.items < c.in_ok-count.count = omega arith in
    faulty_group c.args.payload.now _ _ c.from_residual-in_err-event.ensures.1 c.in_err-event.ensures
    (λ absent. record { none = list_cut IsEventOf _ _ _ _ c.in_ok-count.ensures unambiguous_event _ _ c.events.invariant.row fewer absent.none })

pub events-preserved : goal.events-preserved
events-preserved c = record {
  row = rw c.in_ok-push.ensures.items (row_push IsEventOf _ _ _ _ _ _ c.events.invariant.row c.in_ok-event.ensures);
  counted = ap length c.in_ok-push.ensures.items ∙ length_push _ _ ∙ ap (λ n. n + 1) c.events.invariant.counted;
}

pub returns-then-count-eq0-clause-bad : goal.returns-then-count-eq0-clause-bad
returns-then-count-eq0-clause-bad c _ =
    another_group c.args.payload.now c.events.events.items c.events.end
    (list_read IsEventOf _ _ _ _ c.in_ok-count.ensures _ _ c.events.invariant.row (omega arith))
    (elim c.then-count-eq0.either [ inl none ↦ inl (omega (arith, none)) | inr other ↦ inr other.1 ])

pub returns-clause-ok : goal.returns-clause-ok
returns-clause-ok c =
    group_read c.args.payload.now c.events.events.items c.events.end (omega arith) c.if-end-payload.false
    (list_read IsEventOf _ _ _ _ c.in_ok-count.ensures _ _ c.events.invariant.row (omega arith))
