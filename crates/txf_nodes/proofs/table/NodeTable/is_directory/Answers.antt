use Rattle.std.proofs.Common.{◌∙◌, ap, not, sym}
use Rattle.txf_nodes.proofs.Naming.{directory_found, directory_none, is_some-mapped}
use Rattle.txf_nodes.proofs.table.NodeTable.is_directory.Goals as goal

pub returns-in-Some : goal.returns-in-Some
returns-in-Some g c = λ bytes.
    ap not (c.is_file.ensures ∙ sym (is_some-mapped bytes _)) ∙ directory_found _ c.args.number _ (c.in-Some.ensures.node bytes)

pub returns-in-None : goal.returns-in-None
returns-in-None g c = λ bytes. directory_none _ c.args.number (c.in-None.ensures.node bytes)
