use Rattle.std.proofs.Common.{◌∙◌, ap, arith}
use Rattle.txf_nodes.specs.Indexes.{under}
use Rattle.txf_nodes.proofs.Naming.{child_long, child_number}
use Rattle.txf_nodes.proofs.table.NodeTable.child.Goals as goal

pub returns-then-name-gt-MOST_NAME_BYTES : goal.returns-then-name-gt-MOST_NAME_BYTES
returns-then-name-gt-MOST_NAME_BYTES g c = λ bytes.
    rw (← c.self.view_is) (child_long bytes _ _ c.args.directory c.args.name.now c.self.invariant.named (omega arith))

pub returns : goal.returns
returns g c = λ bytes.
    rw (← c.self.view_is)
    (c.number_under.ensures ∙ ap (under c.self.inside.names.entries) (c.as_slice.ensures ∙ c.child_name.ensures)
    ∙ child_number bytes _ _ c.args.directory c.args.name.now c.self.invariant)
