use Rattle.std.proofs.Common.{◌≡◌, ◌+◌, ◌*◌, [], true, false, ap, arith, refl, sym, ◌∙◌}
use Rattle.ktm_base.specs.declared.limits.TheConstants.{MOST_UNITS}
use Rattle.ktm_journal.specs.Image.{JournalState, page_count}
use Rattle.ktm_journal.specs.Open.{log_reads}
use Rattle.ktm_log.specs.OnDisk.{on}
use Rattle.ktm_store.specs.Store.{pages_of}
use Rattle.ktm_world.specs.Sizes.{area_len, frame_size}
use Rattle.ktm_kernel.proofs.Beginning.{new-alone}
use Rattle.ktm_kernel.proofs.Restarts.{all_calls, badly_loaded, found_worn, headed_begun, not_loaded, not_restarted, on_start, reserved, restarted, roomy_begun, small, sound_begun, unloaded, unwritten}
use Rattle.ktm_kernel.proofs.Sizes.{more_calls}
use Rattle.ktm_kernel.proofs.kernel.Kernel.restart.Goals as goal

pub returns-in-Err-Down-clause-leaves : goal.returns-in-Err-Down-clause-leaves
returns-in-Err-Down-clause-leaves g c =
    rw (← c.buffers.view_is) (unloaded (log_reads MOST_UNITS + 5) (on c.buffers.inside.log (g.D.Disk.told c.args.disk.now) (g.D.Disk.status c.args.disk.now)) (on c.load.new.buffer (g.D.Disk.told c.load.new.disk) (g.D.Disk.status c.load.new.disk)) _
    (rw c.in-Err-Down.field-0-is at c.in-Err-Down.ensures.leaves))

pub returns-in-Err-Bad-clause-leaves : goal.returns-in-Err-Bad-clause-leaves
returns-in-Err-Bad-clause-leaves g c =
    rw (← c.buffers.view_is, c.in-Err-Bad.offset-is) (badly_loaded (log_reads MOST_UNITS + 5) (on c.buffers.inside.log (g.D.Disk.told c.args.disk.now) (g.D.Disk.status c.args.disk.now))
    (on c.load.new.buffer (g.D.Disk.told c.load.new.disk) (g.D.Disk.status c.load.new.disk)) _ c.in-Err-Bad.offset (rw c.in-Err-Bad.field-0-is at c.in-Err-Bad.ensures.leaves))

pub returns-in-Err-NoMemory-clause-leaves : goal.returns-in-Err-NoMemory-clause-leaves
returns-in-Err-NoMemory-clause-leaves g c =
    rw (← c.buffers.view_is) (not_loaded (log_reads MOST_UNITS + 5) (on c.buffers.inside.log (g.D.Disk.told c.args.disk.now) (g.D.Disk.status c.args.disk.now)) (on c.load.new.buffer (g.D.Disk.told c.load.new.disk) (g.D.Disk.status c.load.new.disk)) _
    (rw c.in-Err-NoMemory.field-0-is at c.in-Err-NoMemory.ensures.leaves))

pub returns-then-is_worn-clause-leaves : goal.returns-then-is_worn-clause-leaves
returns-then-is_worn-clause-leaves g c =
    rw (← c.buffers.view_is) (found_worn _ _ _ c.in-Ok.loaded c.in-Ok.ensures.leaves c.law_of_mapped_states.ensures _ _ (record { log = c.in-Ok.ensures.leaves.read.reads.kept; snapshot = omega arith }) (sym c.is_worn.ensures ∙ c.if-is_worn.true))

pub returns-in_default-clause-leaves : goal.returns-in_default-clause-leaves
returns-in_default-clause-leaves g c =
    rw (← c.buffers.view_is) (unwritten _ _ _ c.in-Ok.loaded c.in-Ok.ensures.leaves _ _
    (record { log = c.in-Ok.ensures.leaves.read.reads.kept; snapshot = omega (arith, c.clear.ensures.capacity, c.reserve.ensures.capacity) }))

pub prepare-requires-clause-reserved : goal.prepare-requires-clause-reserved
prepare-requires-clause-reserved g c = reserved _ _ _ c.in-Ok.loaded c.in-Ok.ensures.leaves

pub returns-in-Err-clause-leaves : goal.returns-in-Err-clause-leaves
returns-in-Err-clause-leaves g c =
    rw (← c.buffers.view_is) (unwritten _ _ _ c.in-Ok.loaded c.in-Ok.ensures.leaves _ _
    (record { log = omega (arith, c.in-Ok.ensures.leaves.read.reads.kept, c.in-Err.ensures.err); snapshot = omega (arith, c.clear.ensures.capacity, c.reserve.ensures.capacity) }))

pub begin-requires-clause-headed : goal.begin-requires-clause-headed
begin-requires-clause-headed g c = headed_begun c.in-Ok.loaded c.in-Ok-prepare.starting.events c.in-Ok-prepare.starting.memory (g.D.Disk.told c.load.new.disk) c.in-Ok-prepare.ensures.begun c.in-Ok.ensures.leaves.headed

pub begin-requires-clause-roomy : goal.begin-requires-clause-roomy
begin-requires-clause-roomy g c =
    roomy_begun c.in-Ok.loaded c.in-Ok-prepare.starting.events c.in-Ok-prepare.starting.memory (small _ _ _ c.in-Ok.loaded c.in-Ok.ensures.leaves) c.in-Ok-prepare.ensures.begun

pub begin-requires-clause-starts : goal.begin-requires-clause-starts
begin-requires-clause-starts g c =
    (c.in-Ok.loaded.state, on_start _ _ _ c.in-Ok.loaded c.in-Ok.ensures.leaves (sym c.is_worn.ensures ∙ c.if-is_worn.false) c.in-Ok-prepare.starting.events c.in-Ok-prepare.starting.memory c.in-Ok-prepare.ensures.begun)

pub begin-requires-clause-sound : goal.begin-requires-clause-sound
begin-requires-clause-sound g c =
    sound_begun _ _ _ c.in-Ok.loaded c.in-Ok.ensures.leaves (sym c.is_worn.ensures ∙ c.if-is_worn.false) c.in-Ok-prepare.starting.events c.in-Ok-prepare.starting.memory c.in-Ok-prepare.ensures.begun

pub begin-requires-clause-alone : goal.begin-requires-clause-alone
begin-requires-clause-alone g c =
    new-alone (page_count c.in-Ok-prepare.starting.memory.journal.units) (pages_of c.units.result) c.in-Ok-new.store (ap (λ (j : JournalState). page_count j.units) c.in-Ok-prepare.ensures.begun.journal ∙ ap page_count (sym c.units.ensures))
    c.in-Ok-new.ensures.seen c.in-Ok-new.ensures.marks c.in-Ok-new.ensures.stored c.in-Ok-new.ensures.wanted

pub begin-requires-clause-room : goal.begin-requires-clause-room
begin-requires-clause-room g c =
    let nine : frame_size [] ≡ 9 = refl in
    omega (arith, nine, c.in-Ok-reserve.ensures.ok, c.events_room.ensures, c.clear.ensures.len, ap (λ (j : JournalState). area_len j.units) c.in-Ok-prepare.ensures.begun.journal)

pub returns-in-Ok-begin-clause-leaves : goal.returns-in-Ok-begin-clause-leaves
returns-in-Ok-begin-clause-leaves g c =
    let is = c.in-Ok-begin.ensures.ok in
    restarted _ (on c.buffers.inside.log (g.D.Disk.told c.args.disk.now) (g.D.Disk.status c.args.disk.now)) (on c.load.new.buffer (g.D.Disk.told c.load.new.disk) (g.D.Disk.status c.load.new.disk)) c.in-Ok.loaded c.in-Ok.ensures.leaves
    (sym c.is_worn.ensures ∙ c.if-is_worn.false) c.in-Ok-prepare.starting.events c.in-Ok-prepare.starting.memory c.in-Ok-prepare.ensures.begun
    (on c.begin.new.buffers (g.D.Disk.told c.begin.new.disk) (g.D.Disk.status c.begin.new.disk)) is.memory is.pool is.begun _ is.is
    c.law_of_states.ensures.places c.law_of_mapped_states.ensures c.law_of_alike_presents.ensures c.law_of_fresh.ensures c.law_of_kept.ensures c.law_of_debts.ensures
    c.law_of_standing.ensures c.law_of_spelling.ensures c.events-found.ensures c.in_doubt-in_doubt.ensures c.args.buffers.now

pub returns-in-Err-begin-clause-leaves : goal.returns-in-Err-begin-clause-leaves
returns-in-Err-begin-clause-leaves g c =
    let is = c.in-Err-begin.ensures.err in
    let kept = c.in-Err-begin.ensures.kept in
    rw (← c.buffers.view_is) (not_restarted _ (on c.buffers.inside.log (g.D.Disk.told c.args.disk.now) (g.D.Disk.status c.args.disk.now)) (on c.load.new.buffer (g.D.Disk.told c.load.new.disk) (g.D.Disk.status c.load.new.disk)) c.in-Ok.loaded
    c.in-Ok.ensures.leaves (sym c.is_worn.ensures ∙ c.if-is_worn.false) c.in-Ok-prepare.starting.events c.in-Ok-prepare.starting.memory c.in-Ok-prepare.ensures.begun c.law_of_states.ensures.places c.law_of_mapped_states.ensures _
    (on c.begin.new.buffers (g.D.Disk.told c.begin.new.disk) (g.D.Disk.status c.begin.new.disk)) is.0 is.1
    (record { log = omega (arith, c.in-Ok.ensures.leaves.read.reads.kept, c.in-Ok-prepare.ensures.capacity, kept.0); snapshot = omega (arith, c.clear.ensures.capacity, c.reserve.ensures.capacity, kept.1) }))

pub returns-in-Ok-begin-clause-calls : goal.returns-in-Ok-begin-clause-calls
returns-in-Ok-begin-clause-calls g c =
    all_calls _ _ _ c.in-Ok.loaded c.in-Ok.ensures.leaves (sym c.is_worn.ensures ∙ c.if-is_worn.false) c.in-Ok-prepare.starting.events c.in-Ok-prepare.starting.memory c.in-Ok-prepare.ensures.begun _ false (omega arith)
    c.in-Ok-begin.ensures.ok.begun.leaves.synced.calls

pub returns-in-Ok-begin-clause-few : goal.returns-in-Ok-begin-clause-few
returns-in-Ok-begin-clause-few g c = λ units image selector headed. omega (arith, c.in-Ok.ensures.few units image selector headed, c.in-Ok-begin.ensures.ok.begun.leaves.synced.calls.few)

pub returns-in-Err-begin-clause-calls : goal.returns-in-Err-begin-clause-calls
returns-in-Err-begin-clause-calls g c =
    all_calls _ _ _ c.in-Ok.loaded c.in-Ok.ensures.leaves (sym c.is_worn.ensures ∙ c.if-is_worn.false) c.in-Ok-prepare.starting.events c.in-Ok-prepare.starting.memory c.in-Ok-prepare.ensures.begun _ true (omega arith)
    c.in-Err-begin.ensures.err.1.calls

pub returns-in-Err-begin-clause-few : goal.returns-in-Err-begin-clause-few
returns-in-Err-begin-clause-few g c = λ units image selector headed. omega (arith, c.in-Ok.ensures.few units image selector headed, c.in-Err-begin.ensures.err.1.calls.few)

pub returns-then-is_worn-clause-calls : goal.returns-then-is_worn-clause-calls
returns-then-is_worn-clause-calls g c = more_calls (log_reads MOST_UNITS + 5) (2 * MOST_UNITS + 27) _ _ false (omega arith) c.in-Ok.ensures.leaves.read.reads.reads.calls

pub returns-in_default-clause-calls : goal.returns-in_default-clause-calls
returns-in_default-clause-calls g c = more_calls (log_reads MOST_UNITS + 5) (2 * MOST_UNITS + 27) _ _ false (omega arith) c.in-Ok.ensures.leaves.read.reads.reads.calls

pub returns-in-Err-clause-calls : goal.returns-in-Err-clause-calls
returns-in-Err-clause-calls g c = more_calls (log_reads MOST_UNITS + 5) (2 * MOST_UNITS + 27) _ _ false (omega arith) c.in-Ok.ensures.leaves.read.reads.reads.calls

pub returns-in_default-new-clause-calls : goal.returns-in_default-new-clause-calls
returns-in_default-new-clause-calls g c = more_calls (log_reads MOST_UNITS + 5) (2 * MOST_UNITS + 27) _ _ false (omega arith) c.in-Ok.ensures.leaves.read.reads.reads.calls

pub returns-in_default-new-clause-few : goal.returns-in_default-new-clause-few
returns-in_default-new-clause-few g c = λ units image selector headed. omega (arith, c.in-Ok.ensures.few units image selector headed)

pub returns-in-Err-clause-few : goal.returns-in-Err-clause-few
returns-in-Err-clause-few g c = λ units image selector headed. omega (arith, c.in-Ok.ensures.few units image selector headed)
