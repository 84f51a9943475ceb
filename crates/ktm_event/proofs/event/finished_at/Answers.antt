use Rattle.ktm_codec.proofs.SpansLemmas.{spans_then}
use Rattle.ktm_event.proofs.Parts.{unambiguous_id}
use Rattle.ktm_event.proofs.EventReadings.{no_finished}
use Rattle.ktm_event.proofs.Readings.{passes, no_first, after, tag_before}
use Rattle.ktm_event.proofs.event.finished_at.Goals as goal

pub returns-in_err-transaction : goal.returns-in_err-transaction
returns-in_err-transaction c = passes _ _ c.from_residual.ensures.1 c.in_err-transaction.ensures (λ none. no_finished (no_first _ none))

pub returns-in_err-done : goal.returns-in_err-done
returns-in_err-done c =
    passes _ _ c.from_residual-in_err-done.ensures.1 c.in_err-done.ensures (λ none. no_finished (after unambiguous_id c.in_ok-transaction.ensures none))

pub returns : goal.returns
returns c = tag_before 9 (spans_then _ _ _ _ c.in_ok-transaction.ensures c.in_ok-done.ensures)
