use Rattle.std.proofs.Common.{◌∙◌, ap, arith}
use Rattle.txf_volume.specs.Held.{files_of}
use Rattle.txf_volume.specs.Uses.{one_if}
use Rattle.txf_volume.proofs.OwnUses.{uses_law}
use Rattle.txf_volume.proofs.files.Files.nodes_with_own.Goals as goal

pub returns : goal.returns
returns c = λ o is opens.
    let law = (uses_law.own (files_of c.args.self.now) c.args.transaction o c.args.change.now c.nodes_used.ensures.steady is opens).nodes c.requires in
    let made = c.one_if.ensures.one ∙ ap one_if c.is_make.ensures in
    omega (arith, law, made, c.nodes_used.ensures.nodes)
