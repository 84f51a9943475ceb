use Rattle.std.proofs.Common.{sym, ◌∙◌, ap}
use Rattle.ktm_world.specs.FileOutcome.{FileOutcome}
use Rattle.txf_volume.specs.Held.{files_of}
use Rattle.txf_volume.proofs.OwnUses.{uses_law}
use Rattle.txf_volume.proofs.files.Files.nodes_after.Goals as goal

pub returns-in-None-default : goal.returns-in-None-default
returns-in-None-default c =
    let none = ap (λ (o : FileOutcome). o.change) (sym c.plan.view_is) ∙ c.in-None-default.is-0 in
    c.nodes_used.ensures.nodes ∙ sym (uses_law.none (files_of c.args.self.now) c.args.who c.args.plan.now c.nodes_used.ensures.steady none c.requires.first).nodes
