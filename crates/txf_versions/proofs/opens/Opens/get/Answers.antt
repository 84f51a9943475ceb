use Rattle.std.proofs.Common.{◌∙◌}
use Rattle.txf_versions.specs.Names.{open_name, own_name}
use Rattle.txf_versions.specs.VersionsState.{is_open_of}
use Rattle.txf_versions.proofs.Indexes.{find-none, found}
use Rattle.txf_versions.proofs.NamesTold.{open_from, open_to}
use Rattle.txf_versions.proofs.opens.Opens.get.Goals as goal

pub returns-in-Some : goal.returns-in-Some
returns-in-Some c =
    rw (← c.self.view_is)
    (c.copied.ensures ∙ c.get.ensures
    ∙ found _ _ own_name _ (is_open_of c.args.transaction c.args.file) _ (open_from c.args.transaction c.args.file) (open_to c.args.transaction c.args.file)
    c.self.invariant.by_transaction (rw c.open_name.ensures at c.in-Some.ensures))

pub returns-in-None : goal.returns-in-None
returns-in-None c =
    rw (← c.self.view_is)
    (find-none _ c.self.inside.by_transaction.entries own_name (open_name c.args.transaction c.args.file) (is_open_of c.args.transaction c.args.file)
    (open_to c.args.transaction c.args.file) c.self.invariant.by_transaction.all (rw c.open_name.ensures at c.in-None.ensures))
