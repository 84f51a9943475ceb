use Rattle.std.proofs.Common.{◌+◌, ◌<◌, length, ◌∙◌, ap, arith}
use Rattle.std.proofs.lemmas.List.{length_push}
use Rattle.ktm_codec.proofs.SpansLemmas.{row_push, list_no_count, list_cut, list_read}
use Rattle.ktm_world.specs.EventGrammar.{IsChangeOf}
use Rattle.ktm_event.proofs.Changes.{unambiguous_change}
use Rattle.ktm_event.proofs.Readings.{passes}
use Rattle.ktm_event.proofs.change.changes_at.Goals as goal

pub returns-in_err-count : goal.returns-in_err-count
returns-in_err-count c = passes _ _ c.from_residual.ensures.1 c.in_err-count.ensures (λ absent. record { none = list_no_count IsChangeOf _ _ absent.none })

pub returns-in_err-change : goal.returns-in_err-change
returns-in_err-change c =
    let fewer : length c.changes.changes.items < c.in_ok-count.count = omega arith in
    passes _ _ c.from_residual-in_err-change.ensures.1 c.in_err-change.ensures
    (λ absent. record { none = list_cut IsChangeOf _ _ _ _ c.in_ok-count.ensures unambiguous_change _ _ c.changes.invariant.row fewer absent.none })

pub changes-preserved : goal.changes-preserved
changes-preserved c = record {
  row = rw c.in_ok-push.ensures.items (row_push IsChangeOf _ _ _ _ _ _ c.changes.invariant.row c.in_ok-change.ensures);
  counted = ap length c.in_ok-push.ensures.items ∙ length_push _ _ ∙ ap (λ n. n + 1) c.changes.invariant.counted;
}

pub returns : goal.returns
returns c = rw c.new.ensures (list_read IsChangeOf _ _ _ _ c.in_ok-count.ensures _ _ c.changes.invariant.row (omega arith))
