use Rattle.std.proofs.Common.{◌∙◌, ap}
use Rattle.std.specs.Option.{option_map}
use Rattle.txf_nodes.specs.NodesState.{content_in}
use Rattle.txf_nodes.proofs.InPlace.{content_by}
use Rattle.txf_nodes.proofs.table.NodeTable.content.Goals as goal

pub returns-in-Some-clause-content : goal.returns-in-Some-clause-content
returns-in-Some-clause-content g c = c.content.ensures ∙ ap content_in c.in-Some.ensures.now

pub returns-in-Some-clause-bytes : goal.returns-in-Some-clause-bytes
returns-in-Some-clause-bytes g c = λ bytes.
    ap (option_map bytes) (returns-in-Some-clause-content g c) ∙ content_by bytes c.args.self.now.nodes c.args.file

pub returns-in-None-clause-content : goal.returns-in-None-clause-content
returns-in-None-clause-content g c = ap content_in c.in-None.ensures.now

pub returns-in-None-clause-bytes : goal.returns-in-None-clause-bytes
returns-in-None-clause-bytes g c = λ bytes.
    ap (option_map bytes) (returns-in-None-clause-content g c) ∙ content_by bytes c.args.self.now.nodes c.args.file
