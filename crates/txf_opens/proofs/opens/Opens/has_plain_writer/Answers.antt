use Rattle.std.proofs.Common.{◌∙◌}
use Rattle.txf_opens.proofs.Sharing.{plain_writer}
use Rattle.txf_opens.proofs.opens.Opens.has_plain_writer.Goals as goal

pub returns : goal.returns
returns c = c.has_writer_in.ensures ∙ plain_writer c.args.self.now.opens c.args.node
