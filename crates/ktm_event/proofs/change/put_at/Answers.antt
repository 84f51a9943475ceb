use Rattle.ktm_codec.proofs.Forms.{unambiguous_u64}
use Rattle.ktm_codec.proofs.SpansLemmas.{spans_then}
use Rattle.ktm_event.proofs.ChangeReadings.{no_put}
use Rattle.ktm_event.proofs.Readings.{passes, no_first, after, tag_before}
use Rattle.ktm_event.proofs.change.put_at.Goals as goal

pub returns-in_err-node : goal.returns-in_err-node
returns-in_err-node c = passes _ _ c.from_residual.ensures.1 c.in_err-node.ensures (λ none. no_put (no_first _ none))

pub returns-in_err-offset : goal.returns-in_err-offset
returns-in_err-offset c =
    passes _ _ c.from_residual-in_err-offset.ensures.1 c.in_err-offset.ensures (λ none. no_put (after unambiguous_u64 c.in_ok-node.ensures (no_first _ none)))

pub returns-in_err-contents : goal.returns-in_err-contents
returns-in_err-contents c =
    passes _ _ c.from_residual-in_err-contents.ensures.1 c.in_err-contents.ensures
    (λ none. no_put (after unambiguous_u64 c.in_ok-node.ensures (after unambiguous_u64 c.in_ok-offset.ensures none)))

pub returns : goal.returns
returns c = tag_before 2 (spans_then _ _ _ _ c.in_ok-node.ensures (spans_then _ _ _ _ c.in_ok-offset.ensures c.in_ok-contents.ensures))
