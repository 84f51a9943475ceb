use Rattle.ktm_base.specs.Grammar.{IsU64}
use Rattle.ktm_codec.proofs.Forms.{unambiguous_u64}
use Rattle.ktm_codec.proofs.SpansLemmas.{spans_then}
use Rattle.ktm_event.proofs.Pairs.{Both}
use Rattle.ktm_event.proofs.Readings.{no_first, after}
use Rattle.ktm_snapshot.proofs.Fields.{no_node}
use Rattle.ktm_snapshot.proofs.node.node_at.Goals as goal
use Rattle.ktm_snapshot.specs.Shown.{IsNamedPairOf}

pub returns-in_default : goal.returns-in_default
returns-in_default c = no_node (no_first (Both IsU64 IsNamedPairOf) (record { none = c.in_default.ensures }))

pub returns-in_default-u64_at : goal.returns-in_default-u64_at
returns-in_default-u64_at c = no_node (after unambiguous_u64 c.in-Some.ensures (no_first IsNamedPairOf (record { none = c.in_default-u64_at.ensures })))

pub returns-in_default-2 : goal.returns-in_default-2
returns-in_default-2 c =
    no_node (after unambiguous_u64 c.in-Some.ensures (after unambiguous_u64 c.in-Some-u64_at.ensures (record { none = rw c.in_default-2.is at c.in_ok-named.ensures })))

pub returns : goal.returns
returns c = spans_then _ _ _ _ c.in-Some.ensures (spans_then _ _ _ _ c.in-Some-u64_at.ensures (rw c.in-Some-2.is at c.in_ok-named.ensures))
