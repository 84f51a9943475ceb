use Rattle.ktm_links.proofs.offered.Indexes.{IsIndex-push}
use Rattle.txf_versions.specs.Names.{holder_name, open_name, own_name}
use Rattle.txf_versions.specs.VersionsState.{is_open_of}
use Rattle.txf_versions.proofs.Indexes.{free, key_free}
use Rattle.txf_versions.proofs.NamesTold.{holder_from, open_from}
use Rattle.txf_versions.proofs.opens.Opens.push.Goals as goal

pub insert-requires-clause-free : goal.insert-requires-clause-free
insert-requires-clause-free c =
    key_free _ _ own_name (open_name c.args.opened.transaction c.args.opened.file) _ (is_open_of c.args.opened.transaction c.args.opened.file)
    (open_from c.args.opened.transaction c.args.opened.file) c.open_name.ensures c.self.invariant.by_transaction (rw (← c.self.view_is) at c.requires.first)

pub insert-requires-2-clause-free : goal.insert-requires-2-clause-free
insert-requires-2-clause-free c =
    key_free _ _ holder_name (holder_name c.args.opened) _ (is_open_of c.args.opened.transaction c.args.opened.file) (holder_from c.args.opened)
    c.holder_name.ensures c.self.invariant.by_version (rw (← c.self.view_is) at c.requires.first)

pub invariant_of-self : goal.invariant_of-self
invariant_of-self c =
    let first = rw (← c.self.view_is) at c.requires.first in
    let more = c.push_spare-key.ensures in
    record {
      by_transaction =
          IsIndex-push own_name _ _ _ _ _ _ c.args.opened _ c.self.invariant.by_transaction c.open_name.ensures
          (free _ _ own_name (open_name c.args.opened.transaction c.args.opened.file) _ (is_open_of c.args.opened.transaction c.args.opened.file)
          (open_from c.args.opened.transaction c.args.opened.file) c.open_name.ensures c.self.invariant.by_transaction first)
          more.items more.absent more.named more.others c.insert.ensures.under c.insert.ensures.other_names;
      by_version =
          IsIndex-push holder_name _ _ _ _ _ _ c.args.opened _ c.self.invariant.by_version c.holder_name.ensures
          (free _ _ holder_name (holder_name c.args.opened) _ (is_open_of c.args.opened.transaction c.args.opened.file) (holder_from c.args.opened)
          c.holder_name.ensures c.self.invariant.by_version first)
          more.items more.absent more.named more.others c.insert-2.ensures.under c.insert-2.ensures.other_names;
    }
