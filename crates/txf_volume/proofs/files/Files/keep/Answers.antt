use Rattle.std.proofs.Common.{sym, ap, subst}
use Rattle.ktm_world.specs.declared.change.Change.{Change}
use Rattle.ktm_world.specs.FileOutcome.{FileOutcome}
use Rattle.std.proofs.Common.{Option}
use Rattle.txf_volume.specs.Held.{files_of}
use Rattle.txf_volume.specs.Transacted.{changed_by}
use Rattle.txf_laws.specs.FileEffects.{CanBeCounted}
use Rattle.txf_volume.proofs.TransactedCalls.{change-counted}
use Rattle.txf_volume.proofs.files.Files.keep.Goals as goal

pub own_if-requires-clause-counted : goal.own_if-requires-clause-counted
own_if-requires-clause-counted c =
    subst (λ (change : Option Change). CanBeCounted (changed_by (files_of c.args.self.now) c.args.transaction change)) (sym (ap (λ (o : FileOutcome). o.change) c.plan.view_is))
    (change-counted (files_of c.args.self.now) c.args.transaction c.args.plan c.steady.ensures c.requires.plan)
