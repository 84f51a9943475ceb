use Rattle.ktm_base.specs.Grammar.{IsU32, IsU64}
use Rattle.ktm_codec.proofs.Forms.{unambiguous_u32, unambiguous_u64}
use Rattle.ktm_codec.proofs.SpansLemmas.{spans_then}
use Rattle.ktm_event.proofs.Pairs.{Both}
use Rattle.ktm_event.proofs.Readings.{no_first, after}
use Rattle.ktm_snapshot.proofs.Fields.{no_head}
use Rattle.ktm_snapshot.proofs.head.head_at.Goals as goal

pub returns-in_err-events : goal.returns-in_err-events
returns-in_err-events c = rw c.from_residual.ensures (no_head (no_first (Both IsU32 IsU64) (record { none = c.in_err-events.ensures })))

pub returns-in_err-boots : goal.returns-in_err-boots
returns-in_err-boots c =
    rw c.from_residual-in_err-boots.ensures (no_head (after unambiguous_u64 c.in_ok-events.ensures (no_first IsU64 (record { none = c.in_err-boots.ensures }))))

pub returns-in_err-next_node : goal.returns-in_err-next_node
returns-in_err-next_node c =
    rw c.from_residual-in_err-next_node.ensures (no_head (after unambiguous_u64 c.in_ok-events.ensures (after unambiguous_u32 c.in_ok-boots.ensures (record { none = c.in_err-next_node.ensures }))))

pub returns : goal.returns
returns c = spans_then _ _ _ _ c.in_ok-events.ensures (spans_then _ _ _ _ c.in_ok-boots.ensures c.in_ok-next_node.ensures)
