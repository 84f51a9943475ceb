use Rattle.std.proofs.Common.{◌∙◌, sym}
use Rattle.txf_versions.proofs.Holding.{filter-held, filter-others}
use Rattle.txf_versions.proofs.Ready.{AreReady-gone, AreReady-still}
use Rattle.txf_versions.proofs.versions.Versions.release_next.Goals as goal

pub returns-in_default-clause-older : goal.returns-in_default-clause-older
returns-in_default-clause-older c = rw (← c.self.view_is, c.in_default.ensures.unchanged) (filter-held _ _ c.self.invariant.once.held)

pub returns-then-not-is_pinned-clause-older : goal.returns-then-not-is_pinned-clause-older
returns-then-not-is_pinned-clause-older c =
    rw (← c.self.view_is)
    (c.remove.ensures.older
    ∙ filter-others _ _ c.in-Some.opened _ c.in-Some.ensures.taken (sym c.is_pinned.ensures ∙ c.if-not-is_pinned.true) c.self.invariant.once.held)

pub invariant_of-self-then-not-is_pinned : goal.invariant_of-self-then-not-is_pinned
invariant_of-self-then-not-is_pinned c =
    AreReady-gone _ _ c.in-Some.opened _ _ _ _ _ c.self.invariant c.in-Some.ensures.taken
    (c.remove.ensures.older
    ∙ filter-others _ _ c.in-Some.opened _ c.in-Some.ensures.taken (sym c.is_pinned.ensures ∙ c.if-not-is_pinned.true) c.self.invariant.once.held)
    c.remove.ensures.len c.remove.ensures.spare

pub invariant_of-self-else-not-is_pinned : goal.invariant_of-self-else-not-is_pinned
invariant_of-self-else-not-is_pinned c =
    AreReady-still _ _ c.in-Some.opened _ _ _ c.self.invariant c.in-Some.ensures.taken (sym c.is_pinned.ensures ∙ c.if-not-is_pinned.false)

pub returns-else-not-is_pinned-clause-older : goal.returns-else-not-is_pinned-clause-older
returns-else-not-is_pinned-clause-older c = rw (← c.self.view_is) (filter-held _ _ (invariant_of-self-else-not-is_pinned c).once.held)
