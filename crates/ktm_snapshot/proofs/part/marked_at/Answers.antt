use Rattle.ktm_codec.proofs.SpansLemmas.{spans_then}
use Rattle.ktm_event.proofs.Readings.{passes, no_first, after}
use Rattle.ktm_snapshot.proofs.Fields.{no_marked, no_part, part_read, placed_gives}
use Rattle.ktm_snapshot.proofs.OnePiece.{unambiguous_mark}
use Rattle.ktm_snapshot.proofs.part.marked_at.Goals as goal
use Rattle.ktm_snapshot.specs.StateGrammar.{IsPlacedPartOf}

pub returns-in_default : goal.returns-in_default
returns-in_default c = (no_marked (no_first IsPlacedPartOf (record { none = c.in_default.ensures }))).none

pub returns-in_err-recorded : goal.returns-in_err-recorded
returns-in_err-recorded c = passes _ _ c.from_residual.ensures.1 c.in_err-recorded.ensures (λ none. no_marked (after unambiguous_mark c.in-Some.ensures (no_part none)))

pub returns-in_err-part : goal.returns-in_err-part
returns-in_err-part c =
    passes _ _ c.from_residual-in_err-part.ensures.1 (placed_gives _ _ c.in_ok-recorded.ensures c.in_err-part.ensures) (λ none. no_marked (after unambiguous_mark c.in-Some.ensures none))

pub returns : goal.returns
returns c = spans_then _ _ _ _ c.in-Some.ensures (part_read _ _ c.in_ok-part.ensures.0 c.in_ok-part.ensures.1 c.in_ok-recorded.ensures)
