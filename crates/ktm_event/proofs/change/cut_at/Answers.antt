use Rattle.ktm_codec.proofs.Forms.{unambiguous_u64}
use Rattle.ktm_codec.proofs.SpansLemmas.{spans_then}
use Rattle.ktm_event.proofs.ChangeReadings.{no_cut}
use Rattle.ktm_event.proofs.Readings.{passes, no_first, after, tag_before}
use Rattle.ktm_event.proofs.change.cut_at.Goals as goal

pub returns-in_err-node : goal.returns-in_err-node
returns-in_err-node c = passes _ _ c.from_residual.ensures.1 c.in_err-node.ensures (λ none. no_cut (no_first _ none))

pub returns-in_err-size : goal.returns-in_err-size
returns-in_err-size c =
    passes _ _ c.from_residual-in_err-size.ensures.1 c.in_err-size.ensures (λ none. no_cut (after unambiguous_u64 c.in_ok-node.ensures (no_first _ none)))

pub returns-in_err-pages : goal.returns-in_err-pages
returns-in_err-pages c =
    passes _ _ c.from_residual-in_err-pages.ensures.1 c.in_err-pages.ensures
    (λ none. no_cut (after unambiguous_u64 c.in_ok-node.ensures (after unambiguous_u64 c.in_ok-size.ensures none)))

pub returns : goal.returns
returns c = tag_before 3 (spans_then _ _ _ _ c.in_ok-node.ensures (spans_then _ _ _ _ c.in_ok-size.ensures c.in_ok-pages.ensures))
