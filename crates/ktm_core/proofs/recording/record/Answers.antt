use Rattle.std.proofs.Common.{subst}
use Rattle.ktm_log.specs.OnDisk.{on}
use Rattle.ktm_memory.specs.Memory.{present_of}
use Rattle.ktm_records.specs.Spelling.{AreTexts}
use Rattle.ktm_core.proofs.Groups.{at_once, behind, half_saved, room_alone, room_missing, room_there}
use Rattle.ktm_core.proofs.recording.record.Goals as goal

pub append-requires-clause-room : goal.append-requires-clause-room
append-requires-clause-room g c =
    let (raw, group, may) = c.requires.may in
    (raw, may.holds, room_alone c.args.beside c.args.memory.now.journal raw (room_there _ _ (c.has_room.ensures raw may.holds) c.if-has_room.true))

pub returns-then-has_room-clause-leaves : goal.returns-then-has_room-clause-leaves
returns-then-has_room-clause-leaves g c =
    at_once c.args.beside c.args.events.now (on c.args.memory.now (g.D.Disk.told c.args.disk.now) (g.D.Disk.status c.args.disk.now)) (on c.append.new.memory (g.D.Disk.told c.append.new.disk) (g.D.Disk.status c.append.new.disk))
    (c.requires.may.0, c.requires.may.2.holds) (λ group holds. room_there _ _ (c.has_room.ensures group holds) c.if-has_room.true) c.append.result c.append.ensures

pub compact-requires-clause-kept : goal.compact-requires-clause-kept
compact-requires-clause-kept g c = c.law_of_kept.ensures (present_of c.args.memory.now) c.requires.may.2.stands

pub compact-requires-clause-texts : goal.compact-requires-clause-texts
compact-requires-clause-texts g c = let standing = c.requires.may.2.stands in subst AreTexts standing.is standing.stands.texts

pub returns-in-Err-clause-leaves : goal.returns-in-Err-clause-leaves
returns-in-Err-clause-leaves g c =
    half_saved c.args.beside c.args.events.now (on c.args.memory.now (g.D.Disk.told c.args.disk.now) (g.D.Disk.status c.args.disk.now)) (λ group holds. room_missing _ _ (c.has_room.ensures group holds) c.if-has_room.false)
    (on c.compact.new.memory (g.D.Disk.told c.compact.new.disk) (g.D.Disk.status c.compact.new.disk)) c.in-Err.ensures.saved

pub returns-clause-leaves : goal.returns-clause-leaves
returns-clause-leaves g c =
    behind c.args.beside c.args.events.now (on c.args.memory.now (g.D.Disk.told c.args.disk.now) (g.D.Disk.status c.args.disk.now)) (λ group holds. room_missing _ _ (c.has_room.ensures group holds) c.if-has_room.false)
    (on c.compact.new.memory (g.D.Disk.told c.compact.new.disk) (g.D.Disk.status c.compact.new.disk)) (on c.append-2.new.memory (g.D.Disk.told c.append-2.new.disk) (g.D.Disk.status c.append-2.new.disk)) c.in_default.ensures.saved
    (c.requires.may.0, c.requires.may.2.holds) c.append-2.result c.append-2.ensures
