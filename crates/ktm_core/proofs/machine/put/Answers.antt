use Rattle.std.proofs.Common.{ℕ, ◌*◌, ◌≤◌, List, length, sym, ◌∙◌, ap, subst, arith}
use Rattle.ktm_journal.specs.Image.{page_count}
use Rattle.ktm_memory.specs.Memory.{present_of}
use Rattle.ktm_memory.specs.Settled.{left_to_do}
use Rattle.ktm_memory.specs.Stored.{EventsLieBelow}
use Rattle.ktm_paged.specs.Paged.{IsSound}
use Rattle.ktm_store.specs.Marks.{MarksState}
use Rattle.ktm_store.specs.Pool.{on_row}
use Rattle.ktm_core.proofs.Lying.{sound-below}
use Rattle.ktm_core.proofs.offered.Places.{group-weaker}
use Rattle.ktm_core.proofs.Puts.{put-ends, put-torn, shows-alike, wants-row}
use Rattle.ktm_core.proofs.machine.put.Goals as goal

pub want_pages-requires-clause-events : goal.want_pages-requires-clause-events
want_pages-requires-clause-events g c =
    let (raw, may) = c.requires.may in
    let group = (left_to_do (present_of c.args.memory.now) c.args.settlement.now).events in
    let count = page_count c.args.memory.now.journal.units in
    subst (λ n. EventsLieBelow n group) (sym c.requires.pages) (group-weaker (IsSound may.owner count) (λ file index place. place ≤ count * 4096) (sound-below may.owner count) group may.puts)

pub write_wanted-requires-clause-count : goal.write_wanted-requires-clause-count
write_wanted-requires-clause-count g c = rw c.journal.ensures (ap (λ (m : MarksState). length m.held) c.want_pages.ensures.wants.marks ∙ c.requires.pages)

pub record-requires-clause-up : goal.record-requires-clause-up
record-requires-clause-up g c = let written = c.in_default.ensures.leaves c.law_of_rows.ensures.rows.0 (shows-alike c.args.store.now c.want_pages.new.store c.law_of_rows.ensures.rows.0 c.want_pages.ensures.wants.seen c.want_pages.ensures.wants.marks c.law_of_rows.ensures.rows.1) in written.synced.up

pub record-requires-clause-pending : goal.record-requires-clause-pending
record-requires-clause-pending g c = let written = c.in_default.ensures.leaves c.law_of_rows.ensures.rows.0 (shows-alike c.args.store.now c.want_pages.new.store c.law_of_rows.ensures.rows.0 c.want_pages.ensures.wants.seen c.want_pages.ensures.wants.marks c.law_of_rows.ensures.rows.1) in written.synced.pending

pub record-requires-clause-headed : goal.record-requires-clause-headed
record-requires-clause-headed g c = let written = c.in_default.ensures.leaves c.law_of_rows.ensures.rows.0 (shows-alike c.args.store.now c.want_pages.new.store c.law_of_rows.ensures.rows.0 c.want_pages.ensures.wants.seen c.want_pages.ensures.wants.marks c.law_of_rows.ensures.rows.1) in rw c.journal.ensures at written.headed

pub record-requires-clause-may : goal.record-requires-clause-may
record-requires-clause-may g c = let (raw, may) = c.requires.may in (raw, _, may)

pub returns-in-Err-clause-leaves : goal.returns-in-Err-clause-leaves
returns-in-Err-clause-leaves g c = λ row shows.
    rw c.in-Err.ensures.err
    (put-torn c.args.beside c.args.events.now (left_to_do (present_of c.args.memory.now) c.args.settlement.now).events c.args.memory.now (on_row c.args.store.now row) (on_row c.want_pages.new.store row) c.requires.none (wants-row c.args.store.now c.want_pages.new.store row c.want_pages.ensures.wants)
    (g.D.Disk.told c.args.disk.now) (g.D.Disk.status c.args.disk.now) (g.D.Disk.told c.write_wanted.new.disk) (g.D.Disk.status c.write_wanted.new.disk)
    (omega (arith, c.want_pages.ensures.few, ap (λ (l : List ℕ). length l) c.requires.none, c.in-Err.ensures.few, ap (λ (m : MarksState). length m.held) c.want_pages.ensures.wants.marks, c.requires.pages)) (rw c.journal.ensures at c.in-Err.ensures.leaves row (shows-alike c.args.store.now c.want_pages.new.store row c.want_pages.ensures.wants.seen c.want_pages.ensures.wants.marks shows)))

pub returns-clause-leaves : goal.returns-clause-leaves
returns-clause-leaves g c = λ row shows.
    rw c.in_default.ensures.ok
    (put-ends c.args.beside c.args.events.now (left_to_do (present_of c.args.memory.now) c.args.settlement.now).events c.args.memory.now (on_row c.args.store.now row) (on_row c.want_pages.new.store row) c.requires.none (wants-row c.args.store.now c.want_pages.new.store row c.want_pages.ensures.wants)
    (g.D.Disk.told c.args.disk.now) (g.D.Disk.status c.args.disk.now) (g.D.Disk.told c.write_wanted.new.disk) (g.D.Disk.status c.write_wanted.new.disk) (rw c.journal.ensures at c.in_default.ensures.leaves row (shows-alike c.args.store.now c.want_pages.new.store row c.want_pages.ensures.wants.seen c.want_pages.ensures.wants.marks shows))
    c.record.new.memory (g.D.Disk.told c.record.new.disk) (g.D.Disk.status c.record.new.disk)
    (omega (arith, c.want_pages.ensures.few, ap (λ (l : List ℕ). length l) c.requires.none, c.in_default.ensures.few, ap (λ (m : MarksState). length m.held) c.want_pages.ensures.wants.marks, c.requires.pages)) c.want_pages.ensures.stored c.record.result c.record.ensures.leaves)
