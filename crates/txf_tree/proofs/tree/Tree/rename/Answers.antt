use Rattle.std.proofs.Common.{arith}
use Rattle.txf_tree.specs.TreeState.{bytes_now}
use Rattle.txf_tree.proofs.Refilling.{rooms-kept}
use Rattle.txf_tree.proofs.tree.Tree.rename.Goals as goal

pub rename-requires-clause-applies : goal.rename-requires-clause-applies
rename-requires-clause-applies c = (bytes_now, rw (← c.self.view_is) at c.requires.applies)

pub returns : goal.returns
returns c =
    rw (← c.self.view_is)
    (record {
      tree = c.rename.ensures.tree bytes_now;
      versions = c.rename.ensures.versions;
      rooms = λ file _. rooms-kept c.self.inside.nodes c.rename.new.self c.rename.ensures.contents file;
      spare = omega (arith, c.rename.ensures.spare);
    })
