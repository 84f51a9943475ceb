use Rattle.std.proofs.Common.{arith}
use Rattle.ktm_base.specs.Grammar.{IsU16}
use Rattle.ktm_codec.proofs.Forms.{unambiguous_u16}
use Rattle.ktm_codec.proofs.SpansLemmas.{counted_none, counted_cut, counted_some}
use Rattle.ktm_codec.proofs.little_endian.value_at.Goals as goal

pub returns-in_err-len : goal.returns-in_err-len
returns-in_err-len c = rw c.from_residual.ensures (counted_none IsU16 unambiguous_u16 _ _ c.in_err-len.ensures)

pub returns-in_err-get : goal.returns-in_err-get
returns-in_err-get c =
    rw c.from_residual-in_err-get.ensures (counted_cut IsU16 unambiguous_u16 _ _ c.in_ok-len.len c.in_ok-len.start c.in_ok-len.ensures (omega (arith, c.in_err-get.ensures.lookup.0)))

pub returns : goal.returns
returns c = counted_some IsU16 unambiguous_u16 _ _ c.from.result c.in_ok-len.start (rw c.from.ensures c.in_ok-len.ensures) _ c.in_ok-get.ensures.lookup.0.1 c.in_ok-get.ensures.lookup.0.2
