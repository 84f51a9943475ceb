use Rattle.std.proofs.Common.{sym, subst}
use Rattle.txf_volume.specs.Held.{FilesHeld, files_of}
use Rattle.txf_laws.specs.FileEffects.{IsNotOpened}
use Rattle.txf_volume.proofs.TransactedCalls.{no-older, not-kept, not-opened}
use Rattle.txf_volume.proofs.files.Files.fix.Goals as goal

pub prove-unreachable-requires : goal.prove-unreachable-requires
prove-unreachable-requires c =
    let first = subst (λ (h : FilesHeld). IsNotOpened (files_of h) c.args.transaction c.args.file) (sym c.self.view_is) c.requires.first in
    no-older c.older_bytes.result _ (rw c.version-version.ensures at c.older_bytes.ensures.bytes) (rw c.version-version.ensures at c.older_bytes.ensures.pinned)
    (not-kept _ c.self.inside.units c.self.inside.counts c.self.invariant c.args.transaction c.args.file first) c.is_none.ensures c.if-prove.true

pub pin-requires-clause-first : goal.pin-requires-clause-first
pin-requires-clause-first c =
    not-opened _ c.self.inside.units c.self.inside.counts c.self.invariant c.args.transaction c.args.file (subst (λ (h : FilesHeld). IsNotOpened (files_of h) c.args.transaction c.args.file) (sym c.self.view_is) c.requires.first)
