use Rattle.std.proofs.Common.{◌≡◌, ◌∙◌, length, map, sym, ap, subst}
use Rattle.std.proofs.lemmas.List.{length-map}
use Rattle.std.specs.Prelude.{option_map}
use Rattle.ktm_snapshot.specs.Shown.{superior_of}
use Rattle.ktm_snapshot.specs.Sizes.{marked_size, start_size}
use Rattle.ktm_snapshot.specs.StateGrammar.{IsMarkedOf, IsStartOf}
use Rattle.ktm_tm.specs.TmState.{TmState}
use Rattle.ktm_trace.specs.Contents.{superior_at}
use Rattle.ktm_trace.specs.Lent.{part_lent, transaction_lent}
use Rattle.ktm_memory.specs.Memory.{held}
use Rattle.ktm_saving.specs.Owned.{changes_left, changes_placed, changes_owned, part_with, recorded_in, settings_left}
use Rattle.ktm_saving.specs.Spellable.{IsSpellableMarked}
use Rattle.ktm_event.specs.Spelling.{AreSpellableChanges}
use Rattle.ktm_saving.proofs.Recorded.{spelled-contents}
use Rattle.ktm_saving.proofs.Lists.{each_next, partly_all, partly_begun, partly_next, room_next}
use Rattle.ktm_saving.proofs.transactions.write_transaction.Goals as goal

pub parts-init : goal.parts-init
parts-init c =
    let m = c.args.memory.now in
    let t = c.args.transaction in
    let one = recorded_in m (transaction_lent t) in
    let with_left = part_with m.tm.now.enlistments (changes_left (held m).files.table.own t.id t.stage) (settings_left m.keys.own t.id t.stage) in
    let superior : option_map superior_of c.shown_superior.result ≡ one.superior = c.shown_superior.ensures ∙ ap (λ (tm : TmState). superior_at tm.now.enlistments t.superior) c.tm-tm.ensures in
    let count : c.len.result ≡ length one.parts = c.len.ensures ∙ sym (length-map t.parts with_left) in
    rw (c.left_to_commit-owned.ensures.changes, c.left_to_commit-owned.ensures.settings, c.tm-tm.ensures)
    (partly_begun (IsStartOf one.id one.stage one.superior (length one.parts)) IsMarkedOf marked_size (start_size one.superior) one.parts c.args.out.now (c.law_of_writing.ensures.parts one) c.put_transaction.new.out
    (record { adds = rw (← superior, ← count) c.put_transaction.ensures.adds; len = rw (← superior) c.put_transaction.ensures.len; room = c.put_transaction.ensures.room }))

pub write_part-requires-clause-spelled : goal.write_part-requires-clause-spelled
write_part-requires-clause-spelled c =
    let one = recorded_in c.args.memory.now (transaction_lent c.args.transaction) in
    let owned = c.left_to_commit-owned.result in
    let with_it = part_with c.tm-tm.result.now.now.enlistments (changes_placed owned) owned.settings.now in
    spelled-contents c.tm-tm.result.now.now.enlistments (changes_owned owned) owned.settings.now (changes_placed owned)
    (λ spelled. c.left_to_commit-owned.ensures.spelled (subst AreSpellableChanges c.left_to_commit-owned.ensures.changes spelled)) c.in-Some.part.who
    (each_next (IsStartOf one.id one.stage one.superior (length one.parts)) IsMarkedOf marked_size (start_size one.superior) one.parts c.args.out.now IsSpellableMarked (map with_it c.next.new.self) (with_it (part_lent c.in-Some.part)) c.parts.out
    (rw c.in-Some.ensures.first at c.parts.invariant) c.requires.spelled.parts.each)

pub write_part-requires-clause-work : goal.write_part-requires-clause-work
write_part-requires-clause-work c = c.left_to_commit-owned.ensures.work

pub write_part-requires-clause-room : goal.write_part-requires-clause-room
write_part-requires-clause-room c =
    let one = recorded_in c.args.memory.now (transaction_lent c.args.transaction) in
    let with_it = part_with c.tm-tm.result.now.now.enlistments (changes_placed c.left_to_commit-owned.result) c.left_to_commit-owned.result.settings.now in
    room_next (IsStartOf one.id one.stage one.superior (length one.parts)) IsMarkedOf marked_size (start_size one.superior) one.parts c.args.out.now (map with_it c.next.new.self) (with_it (part_lent c.in-Some.part)) c.parts.out
    (rw c.in-Some.ensures.first at c.parts.invariant) c.requires.room

pub parts-preserved : goal.parts-preserved
parts-preserved c =
    let one = recorded_in c.args.memory.now (transaction_lent c.args.transaction) in
    let with_it = part_with c.tm-tm.result.now.now.enlistments (changes_placed c.left_to_commit-owned.result) c.left_to_commit-owned.result.settings.now in
    partly_next (IsStartOf one.id one.stage one.superior (length one.parts)) IsMarkedOf marked_size (start_size one.superior) one.parts c.args.out.now (c.law_of_writing.ensures.parts one) (map with_it c.next.new.self) (with_it (part_lent c.in-Some.part)) c.parts.out c.write_part.new.out
    (rw c.in-Some.ensures.first at c.parts.invariant) c.write_part.ensures

pub returns : goal.returns
returns c =
    let one = recorded_in c.args.memory.now (transaction_lent c.args.transaction) in
    partly_all (IsStartOf one.id one.stage one.superior (length one.parts)) IsMarkedOf marked_size (start_size one.superior) one.parts c.args.out.now c.parts.out (rw c.in_default.ensures.none at c.parts.invariant)
