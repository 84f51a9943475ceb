use Rattle.std.proofs.Common.{◌+◌, drop, length, arith}
use Rattle.std.proofs.lemmas.List.{drop_all}
use Rattle.ktm_base.specs.Grammar.{IsU32}
use Rattle.ktm_snapshot.specs.Sizes.{entry_size}
use Rattle.ktm_snapshot.specs.StateGrammar.{IsEntryOf}
use Rattle.ktm_saving.specs.Spellable.{IsSpellableEntry}
use Rattle.ktm_saving.proofs.Lists.{each_next, left_next, partly_all, partly_begun, partly_next, room_next}
use Rattle.ktm_saving.proofs.entries.write_entries.Goals as goal

pub loop-entry-init : goal.loop-entry-init
loop-entry-init c =
    let store = c.args.store.now in
    partly_begun (IsU32 (length store)) IsEntryOf entry_size 4 store c.args.out.now (c.law_of_writing.ensures.entries.0 (length store)) c.put_u32.new.out
    (record { adds = c.put_u32.ensures.adds; len = c.put_u32.ensures.len; room = c.put_u32.ensures.room })

pub write_entry-requires-clause-spelled : goal.write_entry-requires-clause-spelled
write_entry-requires-clause-spelled c =
    let store = c.args.store.now in
    let i = c.loop-entry.entry-index in
    each_next (IsU32 (length store)) IsEntryOf entry_size 4 store c.args.out.now IsSpellableEntry (drop (i + 1) store) c.entry-item.result c.loop-entry.out
    (rw (left_next store i c.entry-item.result c.loop-entry-test.true c.entry-item.is) at c.loop-entry.invariant) c.requires.spelled.each

pub write_entry-requires-clause-room : goal.write_entry-requires-clause-room
write_entry-requires-clause-room c =
    let store = c.args.store.now in
    let i = c.loop-entry.entry-index in
    room_next (IsU32 (length store)) IsEntryOf entry_size 4 store c.args.out.now (drop (i + 1) store) c.entry-item.result c.loop-entry.out
    (rw (left_next store i c.entry-item.result c.loop-entry-test.true c.entry-item.is) at c.loop-entry.invariant) c.requires.room

pub loop-entry-preserved : goal.loop-entry-preserved
loop-entry-preserved c =
    let store = c.args.store.now in
    let i = c.loop-entry.entry-index in
    partly_next (IsU32 (length store)) IsEntryOf entry_size 4 store c.args.out.now (c.law_of_writing.ensures.entries.0 (length store)) (drop (i + 1) store) c.entry-item.result c.loop-entry.out c.write_entry.new.out
    (rw (left_next store i c.entry-item.result c.loop-entry-test.true c.entry-item.is) at c.loop-entry.invariant) c.write_entry.ensures

pub returns : goal.returns
returns c =
    let store = c.args.store.now in
    let all = partly_all (IsU32 (length store)) IsEntryOf entry_size 4 store c.args.out.now c.loop-entry.out (rw (drop_all c.loop-entry.entry-index store (omega arith)) at c.loop-entry.invariant) in
    record { adds = c.law_of_writing.ensures.entries.1 store c.args.out.now.items c.loop-entry.out.items all.adds c.requires.rise; len = all.len; room = all.room }
