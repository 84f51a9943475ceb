-- How many device calls a line makes.
use Rattle.std.specs.List.{flat_map}
use Rattle.std.specs.Prelude.{◌&&◌, ◌||◌, ◌/◌, min}
use Rattle.std.proofs.Common.{◌≡◌, ℕ, ◌+◌, ◌*◌, ◌≤◌, not, Bool, true, false, cond, List, [], ◌∷◌, ◌++◌, Option, Some, None, refl, sym, ◌∙◌, ap, subst, arith}
use Rattle.ktm_base.specs.declared.id.Id.{Id}
use Rattle.ktm_base.specs.declared.id.Label.{Label}
use Rattle.ktm_base.specs.declared.id.Pid.{Pid}
use Rattle.ktm_base.specs.declared.limits.TheConstants.{MOST_AT_ONCE, UNIT_BYTES}
use Rattle.ktm_base.specs.declared.refusal.Refusal.{Refusal}
use Rattle.ktm_base.specs.declared.refusal.Refusal.TheVariants.{MachineDown}
use Rattle.ktm_base.specs.Disk.{DiskState, DiskStatus}
use Rattle.ktm_courses.specs.SoundCourse.{IsSoundCourse}
use Rattle.ktm_journal.specs.Image.{JournalState, page_count}
use Rattle.ktm_kernel.proofs.offered.Standing.{stands_up}
use Rattle.ktm_kernel.specs.Answers.{IsLineAnswered, line_writes, most_reads}
use Rattle.ktm_kernel.specs.CoreDone.{lacks_room, page_calls, waiting_calls}
use Rattle.ktm_kernel.specs.Debts.{completes}
use Rattle.ktm_kernel.specs.Done.{is_write, most_calls, units_written}
use Rattle.ktm_kernel.specs.Stands.{IsReady, KernelAt, KernelState, Stands, machine_on}
use Rattle.ktm_kernel.specs.Stored.{units_put}
use Rattle.ktm_log.specs.OnDisk.{OnDisk}
use Rattle.ktm_standing.specs.Effects.{undo_of}
use Rattle.ktm_standing.proofs.offered.Undone.{tick_records}
use Rattle.ktm_world.specs.declared.change.Change.TheVariants.{Cut, Put}
use Rattle.ktm_world.specs.declared.command.Command.{Command}
use Rattle.ktm_world.specs.declared.command.Command.TheVariants.{ReadFile, SetEndOfFile, WriteFile}
use Rattle.ktm_world.specs.declared.command.Line.TheVariants.{Process, Tick}
use Rattle.ktm_world.specs.declared.event.Event.{Event}
use Rattle.ktm_world.specs.declared.event.Event.TheVariants.{Plain, Undo}
use Rattle.ktm_world.specs.declared.object.Transaction.{Transaction}
use Rattle.ktm_world.specs.declared.reply.Reply.{Reply}
use Rattle.ktm_world.specs.Decide.{command_effect, decide, events_of, on_file, refusal_of}
use Rattle.ktm_world.specs.Durable.{Durable}
use Rattle.ktm_world.specs.FileCalls.{read_file}
use Rattle.ktm_world.specs.Files.{OpenFile}
use Rattle.ktm_world.specs.Labels.{file_named}
use Rattle.ktm_world.specs.Outcome.{first_refusal, refuse_or}
use Rattle.ktm_world.specs.Phases.{event_if}
use Rattle.ktm_world.specs.Present.{Present}
use Rattle.ktm_world.specs.TransactionCalls.{is_due, later, tick}
use Rattle.ktm_world.specs.World.{World, decide_tick}
use Rattle.ktm_world.proofs.offered.Durables.{stand-units}

-- ---- a call of a process

-- for the pages of what events write, and for those that wait in memory where they are none
pages_few : (writing : Bool) (x : Present) (units : ℕ) (events : List Event) → page_calls (min (units_written x events) (page_count units)) + waiting_calls writing units events ≤ 3 * units + 65
pages_few true x units [] = omega arith
pages_few false x units [] = omega arith
pages_few writing x units (event ∷ events) = omega arith

-- for the log: a line that completes a transaction makes no snapshot
log_few : (completing makes : Bool) → cond completing 4 (cond makes 10 4) ≤ cond completing 4 10
log_few true makes = omega arith
log_few false true = omega arith
log_few false false = omega arith

-- for both
all_few : (completing writing : Bool) (x : Present) (j : JournalState) (events : List Event) → most_calls completing writing x j events ≤ 3 * j.units + (65 + cond completing 4 10)
all_few completing writing x j events =
    let pages = pages_few writing x j.units events in
    let log = log_few completing (is_write events || lacks_room j events) in
    omega (arith, pages, log)

-- a read records nothing
read_records_none : (x : Present) (process : Pid) (file : Label) (offset many : ℕ) → (decide x process (ReadFile file offset many)).events ≡ []
unfolding read_file
read_records_none x process file offset many = refused (refusal_of x process (ReadFile file offset many))
  where
    by-who : (who : Option Id) → events_of who None ≡ []
    by-who None = refl
    by-who (Some id) = refl

    none : (named : Option OpenFile) → (on_file x named (λ o. read_file x.files o offset many)).events ≡ []
    none None = refl
    none (Some o) = by-who o.transaction

    refused : (refusal : Option Refusal) → (refuse_or x refusal (command_effect x process (ReadFile file offset many))).events ≡ []
    refused None = none (file_named x process file)
    refused (Some refusal) = refl

-- for those of a read, and for the pages that it reads
read_few : (x : Present) (j : JournalState) (events : List Event) (many : ℕ) → events ≡ [] → most_calls false false x j events + (min many MOST_AT_ONCE / UNIT_BYTES + 2) ≤ 28
read_few x j [] many none = let log = log_few false (lacks_room j []) in omega (arith, log)
read_few x j (event ∷ events) many none = absurd (cc)

-- a call of a process makes few
call_few : (x : Present) (j : JournalState) (process : Pid) (command : Command)
    → most_calls (completes command) (line_writes (Process process command)) x j (decide x process command).events + most_reads (Process process command) ≤ 3 * j.units + cond (completes command) 70 77
call_few x j process (ReadFile file offset many) = let few = read_few x j (decide x process (ReadFile file offset many)).events many (read_records_none x process file offset many) in omega (arith, few)
call_few x j process (WriteFile file offset bytes) = let few = all_few false true x j (decide x process (WriteFile file offset bytes)).events in omega (arith, few)
call_few x j process (SetEndOfFile file size) = let few = all_few false true x j (decide x process (SetEndOfFile file size)).events in omega (arith, few)
call_few x j process command =
    let few = all_few (completes command) false x j (decide x process command).events in
    elim (completes command) as (λ t. most_calls t false x j (decide x process command).events ≤ 3 * j.units + (65 + cond t 4 10) → most_calls t false x j (decide x process command).events + 0 ≤ 3 * j.units + cond t 70 77)
    [ true ↦ (λ few. omega (arith, few)) | false ↦ (λ few. omega (arith, few)) ] few

-- a machine that is up has the units of its world
units_of : (k : KernelState) (told : Option DiskState) (w : World) → KernelAt k told w → k.now.machine.is_up ≡ true → k.journal.units ≡ w.base.units
units_of k told w at on = let (power, (row, shows, stands)) = stands_up k told w at on in go told row stands
  where
    go : (told : Option DiskState) (row : List ℕ) → Stands (machine_on k row) told w → k.journal.units ≡ w.base.units
    go None row stands = absurd stands.disk
    go (Some s) row stands =
        sym stands.disk.journal.units ∙ ap (λ (x : Present). x.recorded.units) stands.now ∙ ap (λ (d : Durable). d.units) (sym stands.standing.running.comes_to) ∙ stand-units w.base w.log

-- so it makes few in the world, and none while the machine is down
pub few_calls : (process : Pid) (command : Command) (old new : OnDisk KernelState) (reply : Reply) → IsLineAnswered (Process process command) (decide old.it.now process command) old new reply
    → (w : World) → KernelAt old.it old.told w → new.status.calls ≤ old.status.calls + (3 * w.base.units + cond (completes command) 70 77)
few_calls process command old new reply is w at = go old.it.now.machine.is_up refl
  where
    go : (b : Bool) → old.it.now.machine.is_up ≡ b → new.status.calls ≤ old.status.calls + (3 * w.base.units + cond (completes command) 70 77)
    go true on = subst (λ units. new.status.calls ≤ old.status.calls + (3 * units + cond (completes command) 70 77)) (units_of old.it old.told w at on)
        (let few = call_few old.it.now old.it.journal process command in omega (arith, few, is.calls.few))
    go false off = let same = ap (λ (s : DiskStatus). s.calls) (is.down off).status in omega (arith, same)

-- ---- the passing of time

-- events put no bytes
abbrev PutNone : List Event → Type 0
PutNone events = (units_put events ≡ 0) × (is_write events ≡ false)

no_write : (id : Id) (events : List Event) → is_write (Undo id ∷ events) ≡ false
no_write id [] = refl
no_write id (event ∷ events) = refl

undo_puts_none : (clock : ℕ) (ts : List Transaction) → PutNone (flat_map (undo_of clock) ts)
undo_puts_none clock [] = (refl, refl)
undo_puts_none clock (t ∷ ts) = go (is_due clock t && t.is_recorded) (undo_puts_none clock ts)
  where
    go : (b : Bool) → PutNone (flat_map (undo_of clock) ts) → PutNone (event_if b (Undo t.id) ++ flat_map (undo_of clock) ts)
    go true rest = (omega (arith, rest.0), no_write t.id (flat_map (undo_of clock) ts))
    go false rest = rest

-- the passing of time puts none
tick_puts_none : (x : Present) (ms : ℕ) → (x.machine.is_up ≡ true → IsSoundCourse x) → PutNone (decide_tick x ms).events
tick_puts_none x ms course = go x.machine.is_up refl
  where
    go : (b : Bool) → x.machine.is_up ≡ b → PutNone (refuse_or x (first_refusal ((not b, MachineDown) ∷ [])) (tick x ms)).events
    go true on = subst PutNone (sym (tick_records x ms (course on))) (undo_puts_none (later x.transactions.clock ms) x.transactions.items)
    go false off = (refl, refl)

-- what changes no bytes writes as many units as it puts
written_of_none : (x : Present) (events : List Event) → PutNone events → units_written x events ≡ 0
written_of_none x [] none = refl
written_of_none x (Plain (Put node offset contents) ∷ []) (none, other) = absurd (cc)
written_of_none x (Plain (Cut node size pages) ∷ []) (none, other) = absurd (cc)
written_of_none x (Plain change ∷ []) none = refl
written_of_none x (event ∷ events) none = none.0

-- nothing waits for what does not write to a file
none_waits : (units : ℕ) (events : List Event) → waiting_calls false units events ≡ 0
none_waits units [] = refl
none_waits units (event ∷ events) = refl

-- four, where it puts no bytes and completes a transaction
four_of_none : (x : Present) (j : JournalState) (events : List Event) → PutNone events → most_calls true false x j events ≤ 4
four_of_none x j events none =
    subst (λ n. page_calls (min n (page_count j.units)) + 4 + waiting_calls false j.units events ≤ 4) (sym (written_of_none x events none))
    (subst (λ n. page_calls (min 0 (page_count j.units)) + 4 + n ≤ 4) (sym (none_waits j.units events)) (omega arith))

pub few_later_calls : (ms : ℕ) (old new : OnDisk KernelState) (reply : Reply) → IsReady old.it old.told old.status → IsLineAnswered (Tick ms) (decide_tick old.it.now ms) old new reply
    → (w : World) → KernelAt old.it old.told w → new.status.calls ≤ old.status.calls + 4
few_later_calls ms old new reply ready is w at = let few = four_of_none old.it.now old.it.journal (decide_tick old.it.now ms).events (tick_puts_none old.it.now ms sound) in omega (arith, few, is.calls.few)
  where
    sound : old.it.now.machine.is_up ≡ true → IsSoundCourse old.it.now
    sound on = let standing = ((ready.core on).ready []).standing in subst IsSoundCourse standing.is standing.stands.running.now.sound.course
