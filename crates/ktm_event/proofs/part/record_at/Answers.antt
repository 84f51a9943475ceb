use Rattle.ktm_codec.proofs.SpansLemmas.{spans_then}
use Rattle.ktm_event.proofs.Parts.{unambiguous_id}
use Rattle.ktm_event.proofs.PartReadings.{no_record}
use Rattle.ktm_event.proofs.Readings.{passes, no_first, after}
use Rattle.ktm_event.proofs.part.record_at.Goals as goal

pub returns-in_err-enlistment : goal.returns-in_err-enlistment
returns-in_err-enlistment c = passes _ _ c.from_residual.ensures.1 c.in_err-enlistment.ensures (λ none. no_record (no_first _ none))

pub returns-in_err-manager : goal.returns-in_err-manager
returns-in_err-manager c =
    passes _ _ c.from_residual-in_err-manager.ensures.1 c.in_err-manager.ensures (λ none. no_record (after unambiguous_id c.in_ok-enlistment.ensures (no_first _ none)))

pub returns-in_err-information : goal.returns-in_err-information
returns-in_err-information c =
    passes _ _ c.from_residual-in_err-information.ensures.1 c.in_err-information.ensures
    (λ none. no_record (after unambiguous_id c.in_ok-enlistment.ensures (after unambiguous_id c.in_ok-manager.ensures none)))

pub returns : goal.returns
returns c = spans_then _ _ _ _ c.in_ok-enlistment.ensures (spans_then _ _ _ _ c.in_ok-manager.ensures c.in_ok-information.ensures)
