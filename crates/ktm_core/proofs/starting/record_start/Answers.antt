use Rattle.ktm_log.specs.OnDisk.{on}
use Rattle.ktm_world.specs.World.{own_group}
use Rattle.ktm_core.proofs.Groups.{room_alone, room_there}
use Rattle.ktm_core.proofs.Starts.{counted_kept, counted_texts, counts_start, small_start, some_start, start_at_once, start_by_snapshot}
use Rattle.ktm_core.proofs.starting.record_start.Goals as goal

pub has_room-requires : goal.has_room-requires
has_room-requires g c = record { some = some_start c.args.events.now c.args.memory.now c.requires.starts }

-- there is room
pub append-requires-clause-room : goal.append-requires-clause-room
append-requires-clause-room g c =
    let (state, is) = c.requires.starts in
    let group = own_group state in
    (group, is.lists.holds, room_alone c.most_debts.result c.args.memory.now.journal group (room_there _ _ (c.has_room.ensures group is.lists.holds) c.if-has_room.true))

pub returns-then-has_room-clause-leaves : goal.returns-then-has_room-clause-leaves
returns-then-has_room-clause-leaves g c =
    start_at_once c.law_of_fresh.ensures c.law_of_contents.ensures c.law_of_own_groups.ensures c.law_of_spelling.ensures c.law_of_records.ensures c.args.events.now
    (on c.args.memory.now (g.D.Disk.told c.args.disk.now) (g.D.Disk.status c.args.disk.now)) (on c.append.new.memory (g.D.Disk.told c.append.new.disk) (g.D.Disk.status c.append.new.disk)) c.requires.starts
    (λ group holds. room_there _ _ (rw c.most_debts.ensures at c.has_room.ensures group holds) c.if-has_room.true) c.append.result c.append.ensures

pub count-requires : goal.count-requires
count-requires g c = counts_start c.args.events.now c.args.memory.now c.requires.starts c.law_of_spelling.ensures

pub compact-requires-clause-kept : goal.compact-requires-clause-kept
compact-requires-clause-kept g c =
    rw c.count.ensures (counted_kept c.law_of_fresh.ensures c.law_of_contents.ensures c.args.events.now (on c.args.memory.now (g.D.Disk.told c.args.disk.now) (g.D.Disk.status c.args.disk.now)) c.requires.starts.0 c.requires.starts.1)

pub compact-requires-clause-texts : goal.compact-requires-clause-texts
compact-requires-clause-texts g c =
    rw c.count.ensures (counted_texts c.law_of_fresh.ensures c.law_of_contents.ensures c.args.events.now (on c.args.memory.now (g.D.Disk.told c.args.disk.now) (g.D.Disk.status c.args.disk.now)) c.requires.starts.0 c.requires.starts.1)

pub compact-requires-clause-small : goal.compact-requires-clause-small
compact-requires-clause-small g c = rw c.count.ensures (small_start c.args.events.now c.args.memory.now c.requires.starts)

pub compact-requires-clause-room : goal.compact-requires-clause-room
compact-requires-clause-room g c = rw c.count.ensures c.requires.room

pub compact-requires-clause-headed : goal.compact-requires-clause-headed
compact-requires-clause-headed g c = rw c.count.ensures c.requires.headed

pub returns-clause-leaves : goal.returns-clause-leaves
returns-clause-leaves g c =
    start_by_snapshot c.law_of_fresh.ensures c.law_of_contents.ensures c.args.events.now (on c.args.memory.now (g.D.Disk.told c.args.disk.now) (g.D.Disk.status c.args.disk.now))
    (on c.compact.new.memory (g.D.Disk.told c.compact.new.disk) (g.D.Disk.status c.compact.new.disk)) c.compact.result (rw c.count.ensures at c.compact.ensures.saved)
