use Rattle.std.proofs.Common.{length, sym, subst}
use Rattle.ktm_base.specs.Grammar.{IsU32}
use Rattle.ktm_event.specs.Spelling.{IsSpellableId}
use Rattle.ktm_world.specs.EventGrammar.{IsIdOf}
use Rattle.ktm_manager.specs.Durable.{durable_in}
use Rattle.ktm_saving.proofs.Lists.{ArePartly, each_next, eight, eights, partly_all, partly_begun, partly_next, room_next}
use Rattle.ktm_saving.proofs.managers.write_managers.Goals as goal

pub managers-init : goal.managers-init
managers-init c =
    let ids = durable_in c.args.tm.now.managers in
    subst (λ rest. ArePartly (IsU32 (length ids)) IsIdOf eight 4 ids rest c.args.out.now c.put_u32.new.out) (sym c.durable_managers-managers.ensures)
    (partly_begun (IsU32 (length ids)) IsIdOf eight 4 ids c.args.out.now (c.law_of_writing.ensures.managers.0 (length ids)) c.put_u32.new.out
    (record { adds = rw (← c.durable_managers-managers.ensures, ← c.len.ensures) c.put_u32.ensures.adds; len = c.put_u32.ensures.len; room = c.put_u32.ensures.room }))

pub put_manager-requires-clause-id : goal.put_manager-requires-clause-id
put_manager-requires-clause-id c =
    let ids = durable_in c.args.tm.now.managers in
    each_next (IsU32 (length ids)) IsIdOf eight 4 ids c.args.out.now IsSpellableId c.next.new.self c.in-Some.manager c.managers.out
    (rw c.in-Some.ensures.first at c.managers.invariant) c.requires.spelled.each

pub put_manager-requires-clause-room : goal.put_manager-requires-clause-room
put_manager-requires-clause-room c =
    let ids = durable_in c.args.tm.now.managers in
    room_next (IsU32 (length ids)) IsIdOf eight 4 ids c.args.out.now c.next.new.self c.in-Some.manager c.managers.out
    (rw c.in-Some.ensures.first at c.managers.invariant) (rw eights c.requires.room)

pub managers-preserved : goal.managers-preserved
managers-preserved c =
    let ids = durable_in c.args.tm.now.managers in
    partly_next (IsU32 (length ids)) IsIdOf eight 4 ids c.args.out.now (c.law_of_writing.ensures.managers.0 (length ids)) c.next.new.self c.in-Some.manager c.managers.out c.put_manager.new.out
    (rw c.in-Some.ensures.first at c.managers.invariant) (record { adds = c.put_manager.ensures.adds; len = c.put_manager.ensures.len; room = c.put_manager.ensures.room })

pub returns : goal.returns
returns c =
    let ids = durable_in c.args.tm.now.managers in
    let all = partly_all (IsU32 (length ids)) IsIdOf eight 4 ids c.args.out.now c.managers.out (rw c.in_default.ensures.none at c.managers.invariant) in
    record { adds = c.law_of_writing.ensures.managers.1 ids c.args.out.now.items c.managers.out.items all.adds c.requires.rise; len = rw (← eights) all.len; room = all.room }
