use Rattle.std.proofs.Common.{◌∙◌, arith}
use Rattle.txf_tree.specs.TreeState.{bytes_now}
use Rattle.txf_tree.proofs.Refilling.{rooms-without}
use Rattle.txf_tree.proofs.tree.Tree.remove.Goals as goal

pub returns-clause-bytes : goal.returns-clause-bytes
returns-clause-bytes c = rw (← c.self.view_is) (c.bytes_of.ensures ∙ c.remove.ensures.bytes bytes_now)

pub returns-clause-applied : goal.returns-clause-applied
returns-clause-applied c =
    rw (← c.self.view_is)
    (record {
      tree = c.remove.ensures.tree bytes_now;
      versions = c.remove.ensures.versions;
      rooms = λ file other. rooms-without _ _ c.args.node c.remove.ensures.contents file other;
      spare = omega (arith, c.remove.ensures.spare);
    })
