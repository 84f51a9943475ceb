use Rattle.std.proofs.Common.{arith}
use Rattle.ktm_base.specs.Grammar.{IsU32, IsListOf}
use Rattle.ktm_codec.proofs.Forms.{unambiguous_u64}
use Rattle.ktm_event.proofs.Readings.{passes, no_first, after}
use Rattle.ktm_snapshot.proofs.Fields.{contents_read, no_contents, other_contents}
use Rattle.ktm_snapshot.proofs.node.contents_at.Goals as goal

pub returns-in_default : goal.returns-in_default
returns-in_default c = (no_contents (no_first (IsListOf IsU32) (record { none = c.in_default.ensures }))).none

pub returns-in_err-pages : goal.returns-in_err-pages
returns-in_err-pages c = passes _ _ c.from_residual.ensures.1 c.in_err-pages.ensures (λ none. no_contents (after unambiguous_u64 c.in-Some.ensures none))

pub returns-then-len-div_ceil : goal.returns-then-len-div_ceil
returns-then-len-div_ceil c = other_contents _ _ _ _ c.in-Some.ensures c.in_ok-pages.ensures (λ many. omega (arith, many))

pub returns : goal.returns
returns c = rw (c.new.ensures, c.on_pages.ensures) (contents_read _ _ _ _ c.in-Some.ensures c.in_ok-pages.ensures (omega arith))
