use Rattle.std.proofs.Common.{[], sym}
use Rattle.ktm_links.specs.Mapped.{Begins}
use Rattle.ktm_links.proofs.offered.Indexes.{IsIndex-without}
use Rattle.txf_versions.specs.Names.{holder_name, own_name, transaction_bytes}
use Rattle.txf_versions.specs.VersionsState.{is_own}
use Rattle.txf_versions.proofs.Indexes.{any-none, first_is, taken}
use Rattle.txf_versions.proofs.NamesTold.{own_from, own_to}
use Rattle.txf_versions.proofs.opens.Opens.take_next.Goals as goal

pub returns-in_default-clause-none : goal.returns-in_default-clause-none
returns-in_default-clause-none c =
    rw (← c.self.view_is)
    (any-none (Begins (transaction_bytes c.args.transaction [])) _ own_name (is_own c.args.transaction) _ (own_to c.args.transaction)
    c.self.invariant.by_transaction.all (rw c.transaction_bytes.ensures at c.in_default.ensures.none))

pub invariant_of-self : goal.invariant_of-self
invariant_of-self c =
    let there = sym c.in-Some-unlink.ensures.value in
    let less = c.in-Some-unlink.ensures in
    record {
      by_transaction =
          IsIndex-without own_name _ _ _ _ c.in-Some.key c.in-Some-unlink.opened _ c.self.invariant.by_transaction c.open_name.ensures there
          less.items less.gone.gone less.others c.remove.ensures.gone c.remove.ensures.other_names;
      by_version =
          IsIndex-without holder_name _ _ _ _ c.in-Some.key c.in-Some-unlink.opened _ c.self.invariant.by_version c.holder_name.ensures there
          less.items less.gone.gone less.others c.remove-2.ensures.gone c.remove-2.ensures.other_names;
    }

pub returns-clause-own : goal.returns-clause-own
returns-clause-own c =
    own_from c.args.transaction c.in-Some-unlink.opened
    (first_is (Begins (transaction_bytes c.args.transaction [])) _ _ own_name c.in-Some.key c.in-Some-unlink.opened c.self.invariant.by_transaction
    (rw c.transaction_bytes.ensures at c.in-Some.ensures.first) c.in-Some-unlink.ensures.value)

pub returns-clause-taken : goal.returns-clause-taken
returns-clause-taken c = rw (← c.self.view_is) (taken _ _ c.in-Some.key c.in-Some-unlink.opened c.in-Some-unlink.ensures.value c.in-Some-unlink.ensures.items)
