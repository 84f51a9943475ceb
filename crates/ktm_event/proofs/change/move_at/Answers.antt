use Rattle.ktm_codec.proofs.Forms.{unambiguous_u64}
use Rattle.ktm_codec.proofs.SpansLemmas.{spans_then}
use Rattle.ktm_event.proofs.ChangeReadings.{no_move}
use Rattle.ktm_event.proofs.Readings.{passes, no_first, after, tag_before}
use Rattle.ktm_event.proofs.change.move_at.Goals as goal

pub returns-in_err-node : goal.returns-in_err-node
returns-in_err-node c = passes _ _ c.from_residual.ensures.1 c.in_err-node.ensures (λ none. no_move (no_first _ none))

pub returns-in_err-parent : goal.returns-in_err-parent
returns-in_err-parent c =
    passes _ _ c.from_residual-in_err-parent.ensures.1 c.in_err-parent.ensures (λ none. no_move (after unambiguous_u64 c.in_ok-node.ensures (no_first _ none)))

pub returns-in_err-name : goal.returns-in_err-name
returns-in_err-name c =
    passes _ _ c.from_residual-in_err-name.ensures.1 c.in_err-name.ensures
    (λ none. no_move (after unambiguous_u64 c.in_ok-node.ensures (after unambiguous_u64 c.in_ok-parent.ensures none)))

pub returns : goal.returns
returns c = tag_before 4 (spans_then _ _ _ _ c.in_ok-node.ensures (spans_then _ _ _ _ c.in_ok-parent.ensures c.in_ok-name.ensures))
