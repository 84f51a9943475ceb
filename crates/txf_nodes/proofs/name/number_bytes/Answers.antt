use Rattle.std.proofs.Common.{◌∙◌, arith}
use Rattle.txf_nodes.proofs.Digits.{to_be_bytes-is}
use Rattle.txf_nodes.proofs.name.number_bytes.Goals as goal

pub returns : goal.returns
returns c = c.to_be_bytes.ensures ∙ to_be_bytes-is c.args.number (omega arith)
