use Rattle.std.proofs.Common.{sym}
use Rattle.txf_nodes.proofs.Numbering.{under-hinted}
use Rattle.txf_nodes.proofs.nodes.key_of.Goals as goal

pub returns-then-has_number : goal.returns-then-has_number
returns-then-has_number g c = sym (under-hinted _ _ c.in-Some.key c.args.number c.requires (sym c.if-has_number.ensures))
