use Rattle.std.proofs.Common.{[], false, sym, ◌∙◌, ap, arith, subst}
use Rattle.std.specs.Prelude.{IfSome}
use Rattle.ktm_journal.specs.Image.{IsHeaded, JournalState, page_count}
use Rattle.ktm_log.specs.OnDisk.{on}
use Rattle.ktm_world.specs.Sizes.{area_len}
use Rattle.ktm_memory.specs.Memory.{MemoryState, held, present_of}
use Rattle.ktm_memory.specs.Rules.{Follows}
use Rattle.ktm_each.specs.Each.{EachOfFiles}
use Rattle.ktm_memory.specs.Stored.{FilesLieBelow}
use Rattle.ktm_route.specs.Route.{decided}
use Rattle.ktm_memory.specs.Held.{FilesHeld, files_of}
use Rattle.ktm_store.specs.Pool.{on_row}
use Rattle.ktm_world.specs.Groups.{Group}
use Rattle.ktm_core.proofs.Answering.{files_below, room_files, settled_rules, sound_outcome}
use Rattle.ktm_core.proofs.Alone.{answered_alone, down_alone, itself, stands_alone}
use Rattle.ktm_core.proofs.Asks.{asked_well}
use Rattle.ktm_core.proofs.Ends.{cut_answered, done_answered, may_record, may_settle, may_tell, none_by, raw, some_by}
use Rattle.ktm_core.specs.Core.{core_of}
use Rattle.ktm_core.specs.Recording.{IsNotPut, IsPut, MayRecord, kept_on}
use Rattle.ktm_core.proofs.machine.Core.answer_asked.Goals as goal

pub decide-requires-clause-standing : goal.decide-requires-clause-standing
decide-requires-clause-standing g c = (c.requires.ready []).standing

-- ---- a command that records nothing

pub settle-requires-clause-may : goal.settle-requires-clause-may
settle-requires-clause-may g c =
    let a = c.args.self.now.memory in
    let o = decided (present_of a) c.args.asked in
    let decides = c.in_ok-reply.ensures.ok in
    decides.may

pub settle-requires-clause-told : goal.settle-requires-clause-told
settle-requires-clause-told g c =
    let a = c.args.self.now.memory in
    let o = decided (present_of a) c.args.asked in
    let decides = c.in_ok-reply.ensures.ok in
    let well = asked_well c.law_of_standing.ensures c.law_of_slots.ensures c.law_of_frames.ensures c.law_of_lawful_worlds.ensures c.law_of_debts.ensures (core_of a (on_row c.args.self.now.store [])) c.decide.new.memory.tm.slots _ _ c.args.asked (c.requires.ready [])
    c.requires.counts c.requires.asked c.in_ok-reply.ensures.slots in
    may_tell _ _ a o _ _ _ _ decides well c.decide.new.memory (itself c.decide.new.memory)

pub make_room-requires-clause-pending : goal.make_room-requires-clause-pending
make_room-requires-clause-pending g c = (c.requires.ready []).powered.settled c.requires.up

pub make_room-requires-clause-headed : goal.make_room-requires-clause-headed
make_room-requires-clause-headed g c =
    subst (λ (j : JournalState). IfSome (g.D.Disk.told c.args.disk.now) (λ s. IsHeaded j.units j.image j.selector s.seen)) (sym (c.settle.ensures.journal ∙ c.in_ok-reply.ensures.ok.journal)) ((c.requires.ready []).powered.image c.requires.up)

pub make_room-requires-clause-standing : goal.make_room-requires-clause-standing
make_room-requires-clause-standing g c =
    let a = c.args.self.now.memory in
    let o = decided (present_of a) c.args.asked in
    let decides = c.in_ok-reply.ensures.ok in
    let well = asked_well c.law_of_standing.ensures c.law_of_slots.ensures c.law_of_frames.ensures c.law_of_lawful_worlds.ensures c.law_of_debts.ensures (core_of a (on_row c.args.self.now.store [])) c.decide.new.memory.tm.slots _ _ c.args.asked (c.requires.ready [])
    c.requires.counts c.requires.asked c.in_ok-reply.ensures.slots in
    let none = none_by _ _ a o _ _ _ _ decides well c.is_empty.result (c.is_empty.ensures.events _ decides.records.holds) c.if-is_empty.true in
    stands_alone _ _ a o _ _ _ _ decides well none c.law_of_contents.ensures c.law_of_kept.ensures c.settle.new.self c.settle.ensures.settles c.settle.ensures.journal

pub returns-then-is_empty-clause-leaves : goal.returns-then-is_empty-clause-leaves
returns-then-is_empty-clause-leaves g c = λ row shows. (
    let a = c.args.self.now.memory in
    let o = decided (present_of a) c.args.asked in
    let decides = c.in_ok-reply.ensures.ok in
    let well = asked_well c.law_of_standing.ensures c.law_of_slots.ensures c.law_of_frames.ensures c.law_of_lawful_worlds.ensures c.law_of_debts.ensures (core_of a (on_row c.args.self.now.store [])) c.decide.new.memory.tm.slots _ _ c.args.asked (c.requires.ready [])
    c.requires.counts c.requires.asked c.in_ok-reply.ensures.slots in
    let none = none_by _ _ a o _ _ _ _ decides well c.is_empty.result (c.is_empty.ensures.events _ decides.records.holds) c.if-is_empty.true in
    let sound = sound_outcome (held a) c.args.asked o (files_of c.decide.new.memory.files) c.requires.sound c.in_ok-reply.ensures.rules in
    answered_alone _ _ a o _ _ _ _ decides well none c.law_of_contents.ensures c.law_of_kept.ensures c.settle.new.self c.settle.ensures.settles c.settle.ensures.journal (g.D.Disk.told c.args.disk.now) (g.D.Disk.status c.args.disk.now) (on_row c.args.self.now.store row)
    (c.requires.ready row).powered c.requires.up _ (on c.make_room.new.memory (g.D.Disk.told c.make_room.new.disk) (g.D.Disk.status c.make_room.new.disk)) sound (rw (c.may_rise-rises.ensures, c.owes_more-owing.ensures) at c.in_default.ensures.leaves))

pub returns-in-Err-clause-leaves : goal.returns-in-Err-clause-leaves
returns-in-Err-clause-leaves g c = λ row shows. (
    let a = c.args.self.now.memory in
    let o = decided (present_of a) c.args.asked in
    let decides = c.in_ok-reply.ensures.ok in
    let well = asked_well c.law_of_standing.ensures c.law_of_slots.ensures c.law_of_frames.ensures c.law_of_lawful_worlds.ensures c.law_of_debts.ensures (core_of a (on_row c.args.self.now.store [])) c.decide.new.memory.tm.slots _ _ c.args.asked (c.requires.ready [])
    c.requires.counts c.requires.asked c.in_ok-reply.ensures.slots in
    let none = none_by _ _ a o _ _ _ _ decides well c.is_empty.result (c.is_empty.ensures.events _ decides.records.holds) c.if-is_empty.true in
    let sound = sound_outcome (held a) c.args.asked o (files_of c.decide.new.memory.files) c.requires.sound c.in_ok-reply.ensures.rules in
    rw c.fall.ensures.says
    (down_alone _ _ a o _ _ _ _ decides well none c.law_of_contents.ensures c.law_of_kept.ensures c.settle.new.self c.settle.ensures.settles c.settle.ensures.journal (g.D.Disk.told c.args.disk.now) (g.D.Disk.status c.args.disk.now) (on_row c.args.self.now.store row)
    (c.requires.ready row).powered c.requires.up _ (on c.make_room.new.memory (g.D.Disk.told c.make_room.new.disk) (g.D.Disk.status c.make_room.new.disk)) c.fall.new.memory sound (rw (c.may_rise-rises.ensures, c.owes_more-owing.ensures) at c.in-Err.ensures.leaves)
    c.fall.ensures.falls))

pub returns-then-is_empty-clause-rules : goal.returns-then-is_empty-clause-rules
returns-then-is_empty-clause-rules g c = λ rule none files puts. (
    let both = c.in_ok-reply.ensures.rules rule none files puts in
    let n = c.decide.new.memory in
    let same = room_files _ (on c.settle.new.self (g.D.Disk.told c.args.disk.now) (g.D.Disk.status c.args.disk.now)) (on c.make_room.new.memory (g.D.Disk.told c.make_room.new.disk) (g.D.Disk.status c.make_room.new.disk)) c.make_room.result c.make_room.ensures.leaves in
    subst (λ (f : FilesHeld). EachOfFiles (Follows rule) (files_of f)) (sym same)
    (settled_rules n n c.settle.new.self c.decide.new.settlement (decided (present_of c.args.self.now.memory) c.args.asked) (itself n) c.in_ok-reply.ensures.ok.group c.settle.ensures.rules rule none both.1 both.0))

pub returns-in-Err-clause-rules : goal.returns-in-Err-clause-rules
returns-in-Err-clause-rules g c = λ rule none files puts. (
    let both = c.in_ok-reply.ensures.rules rule none files puts in
    let n = c.decide.new.memory in
    let same = room_files _ (on c.settle.new.self (g.D.Disk.told c.args.disk.now) (g.D.Disk.status c.args.disk.now)) (on c.make_room.new.memory (g.D.Disk.told c.make_room.new.disk) (g.D.Disk.status c.make_room.new.disk)) c.make_room.result c.make_room.ensures.leaves in
    subst (λ (f : FilesHeld). EachOfFiles (Follows rule) (files_of f)) (sym (ap (λ (b : MemoryState). b.files) c.fall.ensures.falls ∙ same))
    (settled_rules n n c.settle.new.self c.decide.new.settlement (decided (present_of c.args.self.now.memory) c.args.asked) (itself n) c.in_ok-reply.ensures.ok.group c.settle.ensures.rules rule none both.1 both.0))

-- ---- one that records something

pub put-requires-clause-up : goal.put-requires-clause-up
put-requires-clause-up g c = (c.requires.ready []).powered.power c.requires.up

pub put-requires-clause-pending : goal.put-requires-clause-pending
put-requires-clause-pending g c = (c.requires.ready []).powered.settled c.requires.up

pub put-requires-clause-headed : goal.put-requires-clause-headed
put-requires-clause-headed g c = subst (λ (j : JournalState). IfSome (g.D.Disk.told c.args.disk.now) (λ s. IsHeaded j.units j.image j.selector s.seen)) (sym c.in_ok-reply.ensures.ok.journal) ((c.requires.ready []).powered.image c.requires.up)

pub put-requires-clause-may : goal.put-requires-clause-may
put-requires-clause-may g c =
    let a = c.args.self.now.memory in
    let o = decided (present_of a) c.args.asked in
    let decides = c.in_ok-reply.ensures.ok in
    let well = asked_well c.law_of_standing.ensures c.law_of_slots.ensures c.law_of_frames.ensures c.law_of_lawful_worlds.ensures c.law_of_debts.ensures (core_of a (on_row c.args.self.now.store [])) c.decide.new.memory.tm.slots _ _ c.args.asked (c.requires.ready [])
    c.requires.counts c.requires.asked c.in_ok-reply.ensures.slots in
    let some = some_by _ _ a o _ _ _ _ decides well c.is_empty.result (c.is_empty.ensures.events _ decides.records.holds) c.if-is_empty.false in
    let sound = sound_outcome (held a) c.args.asked o (files_of c.decide.new.memory.files) c.requires.sound c.in_ok-reply.ensures.rules in (
      raw _ _ a o _ _ _ _ decides well,
      subst (λ (group : Group). MayRecord c.decide.new.memory c.decide.new.events (raw _ _ a o _ _ _ _ decides well) group) (sym decides.group) (may_record _ _ a o _ _ _ _ decides well c.law_of_records.ensures sound some),
    )

pub put-requires-clause-most : goal.put-requires-clause-most
put-requires-clause-most g c = omega (arith, c.requires.roomy.most, ap (λ (j : JournalState). j.units) c.in_ok-reply.ensures.ok.journal)

pub put-requires-clause-room : goal.put-requires-clause-room
put-requires-clause-room g c = omega (arith, c.requires.room, ap (λ (j : JournalState). area_len j.units) c.in_ok-reply.ensures.ok.journal)

pub put-requires-clause-pages : goal.put-requires-clause-pages
put-requires-clause-pages g c = c.requires.pages ∙ sym (ap (λ (j : JournalState). page_count j.units) c.in_ok-reply.ensures.ok.journal)

pub put-requires-clause-none : goal.put-requires-clause-none
put-requires-clause-none g c = (c.requires.ready []).powered.wanted c.requires.up

pub put-requires-clause-files : goal.put-requires-clause-files
put-requires-clause-files g c =
    let a = c.args.self.now.memory in
    subst (λ n. FilesLieBelow n (files_of c.decide.new.memory.files)) (sym c.requires.pages)
    (files_below (held a) c.args.asked (decided (present_of a) c.args.asked) (files_of c.decide.new.memory.files) c.requires.sound c.in_ok-reply.ensures.rules)

pub put-requires-clause-puts : goal.put-requires-clause-puts
put-requires-clause-puts g c = c.in_ok-reply.ensures.ok.puts

pub settle-requires-2-clause-may : goal.settle-requires-2-clause-may
settle-requires-2-clause-may g c =
    let a = c.args.self.now.memory in
    let o = decided (present_of a) c.args.asked in
    let decides = c.in_ok-reply.ensures.ok in
    let well = asked_well c.law_of_standing.ensures c.law_of_slots.ensures c.law_of_frames.ensures c.law_of_lawful_worlds.ensures c.law_of_debts.ensures (core_of a (on_row c.args.self.now.store [])) c.decide.new.memory.tm.slots _ _ c.args.asked (c.requires.ready [])
    c.requires.counts c.requires.asked c.in_ok-reply.ensures.slots in
    may_settle _ _ a o _ _ _ _ decides well c.put.new.memory (c.in_default-put.ensures.leaves c.law_of_rows.ensures.rows.0 c.law_of_rows.ensures.rows.1).same

pub settle-requires-2-clause-told : goal.settle-requires-2-clause-told
settle-requires-2-clause-told g c =
    let a = c.args.self.now.memory in
    let o = decided (present_of a) c.args.asked in
    let decides = c.in_ok-reply.ensures.ok in
    let well = asked_well c.law_of_standing.ensures c.law_of_slots.ensures c.law_of_frames.ensures c.law_of_lawful_worlds.ensures c.law_of_debts.ensures (core_of a (on_row c.args.self.now.store [])) c.decide.new.memory.tm.slots _ _ c.args.asked (c.requires.ready [])
    c.requires.counts c.requires.asked c.in_ok-reply.ensures.slots in
    may_tell _ _ a o _ _ _ _ decides well c.put.new.memory (c.in_default-put.ensures.leaves c.law_of_rows.ensures.rows.0 c.law_of_rows.ensures.rows.1).same

pub returns-clause-leaves : goal.returns-clause-leaves
returns-clause-leaves g c = λ row shows. (
    let a = c.args.self.now.memory in
    let o = decided (present_of a) c.args.asked in
    let decides = c.in_ok-reply.ensures.ok in
    let well = asked_well c.law_of_standing.ensures c.law_of_slots.ensures c.law_of_frames.ensures c.law_of_lawful_worlds.ensures c.law_of_debts.ensures (core_of a (on_row c.args.self.now.store [])) c.decide.new.memory.tm.slots _ _ c.args.asked (c.requires.ready [])
    c.requires.counts c.requires.asked c.in_ok-reply.ensures.slots in
    let some = some_by _ _ a o _ _ _ _ decides well c.is_empty.result (c.is_empty.ensures.events _ decides.records.holds) c.if-is_empty.false in
    let sound = sound_outcome (held a) c.args.asked o (files_of c.decide.new.memory.files) c.requires.sound c.in_ok-reply.ensures.rules in
    let put = subst
    (λ (group : Group). IsPut c.room_beside-beside.result c.decide.new.events group (kept_on c.decide.new.memory (on_row c.args.self.now.store row) (g.D.Disk.told c.args.disk.now) (g.D.Disk.status c.args.disk.now)) (kept_on c.put.new.memory (on_row c.put.new.store row) (g.D.Disk.told c.put.new.disk) (g.D.Disk.status c.put.new.disk)))
    decides.group (c.in_default-put.ensures.leaves row shows) in
    done_answered _ _ a o _ _ _ _ decides well some (g.D.Disk.told c.args.disk.now) (g.D.Disk.status c.args.disk.now) (on_row c.args.self.now.store row) c.put.new.memory c.settle-2.new.self (on_row c.put.new.store row) (g.D.Disk.told c.put.new.disk) (g.D.Disk.status c.put.new.disk) c.law_of_contents.ensures c.law_of_kept.ensures
    c.law_of_records.ensures sound (rw c.room_beside-beside.ensures at put) c.settle-2.ensures.settles c.settle-2.ensures.journal)

pub returns-in-Err-put-clause-leaves : goal.returns-in-Err-put-clause-leaves
returns-in-Err-put-clause-leaves g c = λ row shows. (
    let a = c.args.self.now.memory in
    let o = decided (present_of a) c.args.asked in
    let decides = c.in_ok-reply.ensures.ok in
    let well = asked_well c.law_of_standing.ensures c.law_of_slots.ensures c.law_of_frames.ensures c.law_of_lawful_worlds.ensures c.law_of_debts.ensures (core_of a (on_row c.args.self.now.store [])) c.decide.new.memory.tm.slots _ _ c.args.asked (c.requires.ready [])
    c.requires.counts c.requires.asked c.in_ok-reply.ensures.slots in
    let some = some_by _ _ a o _ _ _ _ decides well c.is_empty.result (c.is_empty.ensures.events _ decides.records.holds) c.if-is_empty.false in
    let sound = sound_outcome (held a) c.args.asked o (files_of c.decide.new.memory.files) c.requires.sound c.in_ok-reply.ensures.rules in
    let left = subst
    (λ (group : Group). IsNotPut c.room_beside-beside.result c.decide.new.events group (kept_on c.decide.new.memory (on_row c.args.self.now.store row) (g.D.Disk.told c.args.disk.now) (g.D.Disk.status c.args.disk.now)) (kept_on c.put.new.memory (on_row c.put.new.store row) (g.D.Disk.told c.put.new.disk) (g.D.Disk.status c.put.new.disk)))
    decides.group (c.in-Err-put.ensures.leaves row shows) in
    rw c.fall-in-Err-put.ensures.says
    (cut_answered _ _ a o _ _ _ _ decides well some (g.D.Disk.told c.args.disk.now) (g.D.Disk.status c.args.disk.now) (on_row c.args.self.now.store row) c.put.new.memory c.fall-in-Err-put.new.memory (on_row c.put.new.store row) (g.D.Disk.told c.put.new.disk) (g.D.Disk.status c.put.new.disk) c.law_of_records.ensures sound
    (rw c.room_beside-beside.ensures at left) c.fall-in-Err-put.ensures.falls))

pub returns-clause-rules : goal.returns-clause-rules
returns-clause-rules g c = λ rule none files puts. (
    let both = c.in_ok-reply.ensures.rules rule none files puts in
    settled_rules c.decide.new.memory c.put.new.memory c.settle-2.new.self c.decide.new.settlement (decided (present_of c.args.self.now.memory) c.args.asked) (c.in_default-put.ensures.leaves c.law_of_rows.ensures.rows.0 c.law_of_rows.ensures.rows.1).same c.in_ok-reply.ensures.ok.group
    c.settle-2.ensures.rules rule none both.1 both.0)

pub returns-in-Err-put-clause-rules : goal.returns-in-Err-put-clause-rules
returns-in-Err-put-clause-rules g c = λ rule none files puts. (
    let both = c.in_ok-reply.ensures.rules rule none files puts in
    subst (λ (b : MemoryState). EachOfFiles (Follows rule) (files_of b.files)) (sym (c.fall-in-Err-put.ensures.falls ∙ ap (λ (b : MemoryState). record b { is_up = false }) (c.in-Err-put.ensures.leaves c.law_of_rows.ensures.rows.0 c.law_of_rows.ensures.rows.1).same.is)) both.1)
