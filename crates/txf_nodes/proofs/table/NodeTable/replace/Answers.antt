use Rattle.std.proofs.Common.{◌∙◌, ap, is_some}
use Rattle.txf_nodes.proofs.table.NodeTable.replace.Goals as goal

pub unreachable-requires : goal.unreachable-requires
unreachable-requires g c = let none = ap is_some (c.in-None.ensures.bytes c.requires.file.0) ∙ c.requires.file.1 in absurd (cc)
