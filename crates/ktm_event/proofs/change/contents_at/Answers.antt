use Rattle.std.proofs.Common.{arith}
use Rattle.ktm_codec.proofs.Forms.{unambiguous_u32}
use Rattle.ktm_codec.proofs.SpansLemmas.{spans_then}
use Rattle.ktm_event.proofs.ChangeReadings.{no_contents, empty_contents, contents_read}
use Rattle.ktm_event.proofs.Readings.{passes, no_first, after}
use Rattle.ktm_event.proofs.change.contents_at.Goals as goal

pub returns-in_err-len : goal.returns-in_err-len
returns-in_err-len c = passes _ _ c.from_residual.ensures.1 c.in_err-len.ensures (λ none. no_contents (no_first _ none))

pub returns-then-len-eq0 : goal.returns-then-len-eq0
returns-then-len-eq0 c = empty_contents c.in_ok-len.ensures c.if-len-eq0.true

pub returns-in_err-pages : goal.returns-in_err-pages
returns-in_err-pages c = passes _ _ c.from_residual-in_err-pages.ensures.1 c.in_err-pages.ensures (λ none. no_contents (after unambiguous_u32 c.in_ok-len.ensures none))

pub returns : goal.returns
returns c = contents_read c.in_ok-len.len _ (omega arith) (spans_then _ _ _ _ c.in_ok-len.ensures c.in_ok-pages.ensures)
