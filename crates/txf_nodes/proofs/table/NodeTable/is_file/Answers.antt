use Rattle.std.proofs.Common.{◌∙◌, ap, is_some}
use Rattle.txf_nodes.specs.NodesState.{content_in}
use Rattle.txf_nodes.proofs.InPlace.{file_by}
use Rattle.txf_nodes.proofs.table.NodeTable.is_file.Goals as goal

pub returns-in-Some : goal.returns-in-Some
returns-in-Some g c = λ bytes.
    c.is_file.ensures ∙ ap (λ o. is_some (content_in o)) c.in-Some.ensures.now ∙ file_by bytes c.args.self.now.nodes c.args.number

pub returns-in-None : goal.returns-in-None
returns-in-None g c = λ bytes. ap (λ o. is_some (content_in o)) c.in-None.ensures.now ∙ file_by bytes c.args.self.now.nodes c.args.number
