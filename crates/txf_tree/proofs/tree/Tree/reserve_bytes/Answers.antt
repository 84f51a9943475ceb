use Rattle.std.proofs.Common.{ap, is_some, sym}
use Rattle.txf_nodes.specs.Lends.{with_content_at}
use Rattle.txf_tree.specs.TreeState.{bytes_now}
use Rattle.txf_tree.proofs.Refilling.{room-made, room-none, room-there, rooms-set, tree-kept}
use Rattle.txf_tree.proofs.tree.Tree.reserve_bytes.Goals as goal

pub returns-in_default-clause-fits : goal.returns-in_default-clause-fits
returns-in_default-clause-fits c = room-none c.self.inside.nodes c.args.file _ (sym (ap is_some (c.in_default.ensures.bytes bytes_now)))

pub returns-clause-fits : goal.returns-clause-fits
returns-clause-fits c =
    room-made (with_content_at c.self.inside.nodes c.args.file 0 c.reserve.new.self) c.args.file _ c.reserve.new.self c.reserve.result (c.in-Some.ensures.refilled c.reserve.new.self).contents.here c.reserve.ensures.room

pub returns-clause-enough : goal.returns-clause-enough
returns-clause-enough c =
    rw (← c.self.view_is)
    (λ has. c.reserve.ensures.enough
    (room-there c.self.inside.nodes c.args.file _ _ c.in-Some.ensures.value (sym (ap is_some (c.in-Some.ensures.bytes bytes_now))) has))

pub returns-clause-tree : goal.returns-clause-tree
returns-clause-tree c =
    rw (← c.self.view_is)
    (tree-kept _ _ c.args.file 0 _ c.reserve.new.self c.in-Some.ensures.value (c.in-Some.ensures.refilled c.reserve.new.self) c.reserve.ensures.bytes)

pub returns-clause-versions : goal.returns-clause-versions
returns-clause-versions c = rw (← c.self.view_is) ((c.in-Some.ensures.refilled c.reserve.new.self).versions)

pub returns-clause-rooms : goal.returns-clause-rooms
returns-clause-rooms c =
    rw (← c.self.view_is)
    (rooms-set _ _ c.args.file _ c.reserve.new.self c.in-Some.ensures.value (c.in-Some.ensures.refilled c.reserve.new.self).contents c.reserve.ensures.grows)
