use Rattle.txf_volume.proofs.HoldingPages.{all-held, older-below, places-held, trees-below, written-below}
use Rattle.txf_volume.proofs.files.Files.hold_pages.Goals as goal

pub hold_tree-requires : goal.hold_tree-requires
hold_tree-requires c = trees-below _ c.self.inside.units c.self.inside.counts c.self.invariant c.law_of_older.ensures c.args.store.now (rw (← c.self.view_is) at c.requires)

pub hold_pages-requires : goal.hold_pages-requires
hold_pages-requires c =
    older-below _ c.self.inside.units c.self.inside.counts c.self.invariant c.law_of_older.ensures c.args.store.now (rw (← c.self.view_is) at c.requires) c.hold_tree.new.store c.hold_tree.ensures

pub hold_pages-requires-2 : goal.hold_pages-requires-2
hold_pages-requires-2 c =
    written-below _ c.self.inside.units c.self.inside.counts c.self.invariant c.law_of_older.ensures c.args.store.now (rw (← c.self.view_is) at c.requires) c.hold_tree.new.store c.hold_tree.ensures
    c.hold_pages.new.store c.hold_pages.ensures

pub returns-clause-places : goal.returns-clause-places
returns-clause-places c =
    rw (← c.self.view_is)
    (places-held _ c.self.inside.units c.self.inside.counts c.self.invariant c.law_of_older.ensures c.args.store.now (rw (← c.self.view_is) at c.requires) c.hold_tree.new.store c.hold_tree.ensures
    c.hold_pages.new.store c.hold_pages.ensures c.hold_pages-2.new.store c.hold_pages-2.ensures)

pub returns-clause-only : goal.returns-clause-only
returns-clause-only c =
    rw (← c.self.view_is)
    (all-held _ c.self.inside.units c.self.inside.counts c.self.invariant c.law_of_older.ensures c.args.store.now (rw (← c.self.view_is) at c.requires) c.hold_tree.new.store c.hold_tree.ensures
    c.hold_pages.new.store c.hold_pages.ensures c.hold_pages-2.new.store c.hold_pages-2.ensures).only

pub returns-clause-free : goal.returns-clause-free
returns-clause-free c =
    rw (← c.self.view_is)
    (all-held _ c.self.inside.units c.self.inside.counts c.self.invariant c.law_of_older.ensures c.args.store.now (rw (← c.self.view_is) at c.requires) c.hold_tree.new.store c.hold_tree.ensures
    c.hold_pages.new.store c.hold_pages.ensures c.hold_pages-2.new.store c.hold_pages-2.ensures).free
