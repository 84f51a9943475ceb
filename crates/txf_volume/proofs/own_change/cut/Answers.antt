use Rattle.std.proofs.Common.{[]}
use Rattle.txf_volume.proofs.own_change.cut.Goals as goal

pub cut-requires-clause-shorter : goal.cut-requires-clause-shorter
cut-requires-clause-shorter c = rw c.starts-first.ensures c.requires.shorter

pub cut-requires-clause-few : goal.cut-requires-clause-few
cut-requires-clause-few c = rw c.starts-first.ensures (c.requires.few [])
