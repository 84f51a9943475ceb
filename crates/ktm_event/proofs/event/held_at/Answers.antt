use Rattle.ktm_codec.proofs.SpansLemmas.{spans_then}
use Rattle.ktm_event.proofs.Parts.{unambiguous_id}
use Rattle.ktm_event.proofs.EventReadings.{no_held}
use Rattle.ktm_event.proofs.Readings.{passes, no_first, after, tag_before}
use Rattle.ktm_event.proofs.event.held_at.Goals as goal

pub returns-in_err-transaction : goal.returns-in_err-transaction
returns-in_err-transaction c = passes _ _ c.from_residual.ensures.1 c.in_err-transaction.ensures (λ none. no_held (no_first _ none))

pub returns-in_err-enlistment : goal.returns-in_err-enlistment
returns-in_err-enlistment c =
    passes _ _ c.from_residual-in_err-enlistment.ensures.1 c.in_err-enlistment.ensures (λ none. no_held (after unambiguous_id c.in_ok-transaction.ensures none))

pub returns : goal.returns
returns c = tag_before 6 (spans_then _ _ _ _ c.in_ok-transaction.ensures c.in_ok-enlistment.ensures)
