use Rattle.std.proofs.Common.{arith}
use Rattle.ktm_base.specs.Grammar.{IsU8}
use Rattle.ktm_codec.proofs.Forms.{unambiguous_u8, text_counted, counted_text}
use Rattle.ktm_codec.proofs.SpansLemmas.{Spans-map, counted_none, counted_cut, counted_some}
use Rattle.ktm_codec.proofs.little_endian.text_at.Goals as goal

pub returns-in_err-len : goal.returns-in_err-len
returns-in_err-len c =
    rw c.from_residual.ensures (λ text end spans. counted_none IsU8 unambiguous_u8 _ _ c.in_err-len.ensures text end (Spans-map (text_counted text) spans))

pub returns-in_err-get : goal.returns-in_err-get
returns-in_err-get c =
    rw c.from_residual-in_err-get.ensures (λ text end spans.
    counted_cut IsU8 unambiguous_u8 _ _ c.in_ok-len.len c.in_ok-len.start c.in_ok-len.ensures (omega (arith, c.in_err-get.ensures.lookup.0)) text end (Spans-map (text_counted text) spans))

pub returns : goal.returns
returns c =
    Spans-map (counted_text c.in_ok-get.field-0.now)
    (counted_some IsU8 unambiguous_u8 _ _ c.from.result c.in_ok-len.start (rw c.from.ensures c.in_ok-len.ensures) _ c.in_ok-get.ensures.lookup.0.1 c.in_ok-get.ensures.lookup.0.2)
