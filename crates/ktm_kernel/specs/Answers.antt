-- What an answer of the machine leaves.
use Rattle.std.specs.Prelude.{◌≡◌, ◌⊎◌, ℕ, ◌+◌, ◌/◌, ◌≤◌, Bool, true, false, min, Some, Result, Ok, Err}
use Rattle.ktm_base.specs.Count.{Rose}
use Rattle.ktm_base.specs.declared.fault.NoMemory.{NoMemory}
use Rattle.ktm_base.specs.declared.id.Pid.{Pid}
use Rattle.ktm_base.specs.declared.limits.TheConstants.{MOST_AT_ONCE, UNIT_BYTES}
use Rattle.ktm_base.specs.declared.refusal.Refusal.TheVariants.{ImageWorn, MachineDown}
use Rattle.ktm_base.specs.Disk.{DeviceCalls, OnlyReads}
use Rattle.ktm_log.specs.OnDisk.{OnDisk}
use Rattle.ktm_world.specs.declared.command.Command.{Command}
use Rattle.ktm_world.specs.declared.command.Line.{Line}
use Rattle.ktm_world.specs.declared.command.Line.TheVariants.{Process, Restart, Tick}
use Rattle.ktm_world.specs.declared.reply.Reply.{Reply}
use Rattle.ktm_world.specs.declared.reply.Reply.TheVariants.{BadImage, Refused, Restarted}
use Rattle.ktm_alike.specs.Alike.{mapped_present, mapped_reply}
use Rattle.ktm_world.specs.declared.command.Command.TheVariants.{ReadFile, SetEndOfFile, WriteFile}
use Rattle.ktm_world.specs.Decide.{decide}
use Rattle.ktm_world.specs.Outcome.{Outcome, apply}
use Rattle.ktm_world.specs.Present.{Present}
use Rattle.ktm_world.specs.World.{World}
use Rattle.ktm_records.specs.Spelling.{most_at_once}
use Rattle.ktm_core.specs.Recorded.{IsUntouched}
use Rattle.ktm_kernel.specs.Restarts.{IsFreshlyCounted}
use Rattle.ktm_core.specs.Debts.{completes, may_owe_more}
use Rattle.ktm_core.specs.Done.{TouchesNothing}
use Rattle.ktm_kernel.specs.Done.{most_calls}
use Rattle.ktm_kernel.specs.Reserved.{KeepsReserved}
use Rattle.ktm_kernel.specs.Stands.{DoesLine, FoundAt, IsReady, KernelAt, KernelState}

-- ---- a line that is decided: a call of a process, or the passing of time

-- does the line complete a transaction: a call on the way to its end, or time that passes
abbrev pub completes_line : Line → Bool
completes_line (Process process command) = completes command
completes_line (Tick ms) = true
completes_line line = false

-- may the line owe more
abbrev pub line_owes_more : Line → Bool
line_owes_more (Process process command) = may_owe_more command
line_owes_more line = false

-- does the line write bytes of a file, or make it longer or shorter
abbrev pub line_writes : Line → Bool
line_writes (Process process (WriteFile file offset bytes)) = true
line_writes (Process process (SetEndOfFile file size)) = true
line_writes line = false

-- how many pages the line reads from the disk at most: those of the bytes that it asks for, or those at both ends of what it writes
abbrev pub most_reads : Line → ℕ
most_reads (Process process (ReadFile file offset many)) = min many MOST_AT_ONCE / UNIT_BYTES + 2
most_reads (Process process (WriteFile file offset bytes)) = 2
most_reads (Process process (SetEndOfFile file size)) = 1
most_reads line = 0

-- does the line ask for bytes of a file, or write them
abbrev pub line_has_bytes : Line → Bool
line_has_bytes (Process process (ReadFile file offset many)) = true
line_has_bytes line = line_writes line

-- zeros in the place of bytes
abbrev pub no_byte : ℕ → ℕ
no_byte byte = 0

-- what is so now, but for the bytes of files
abbrev pub but_bytes : Present → Present
but_bytes x = mapped_present no_byte x

-- the reply to a line, but for the bytes of a file that it tells
abbrev pub reply_but_bytes : Line → Reply → Reply
reply_but_bytes (Process process command) reply = mapped_reply no_byte command reply
reply_but_bytes line reply = reply

-- the outcome came, but for the bytes of files; or the machine is down, and has recorded nothing more
abbrev pub CameOrFell : Line → Outcome → Present → Present → Reply → Type 0
CameOrFell line o old new reply = ((reply_but_bytes line reply ≡ reply_but_bytes line o.reply) × (but_bytes new ≡ but_bytes (apply old o)))
    ⊎ ((reply ≡ Refused MachineDown) × (new.machine.is_up ≡ false) × (new.recorded ≡ old.recorded))

-- it was answered by this outcome, for each world that the machine stands for; one that is refused, but for MACHINE_DOWN, and one that records nothing, makes no room, and has to do with
-- no bytes of files left the disk as it was
pub record IsLineAnswered (line : Line) (o : Outcome) (old new : OnDisk KernelState) (reply : Reply) : Type 0 where
  pub does : (w : World) → KernelAt old.it old.told w → DoesLine w (Some line) reply new.it new.told
  -- on whatever disk, also on one that does not tell the bytes that a read gives
  pub says : CameOrFell line o old.it.now new.it.now reply
  pub cause : reply ≡ Refused MachineDown → (old.it.now.machine.is_up ≡ false) ⊎ Rose old.status.downs new.status.downs
  pub ready : IsReady new.it new.told new.status
  pub calls : DeviceCalls (most_calls (completes_line line) (line_writes line) old.it.now old.it.journal o.events + most_reads line) old.status new.status new.status.is_down
  pub untouched : TouchesNothing (line_owes_more line) (line_has_bytes line) old.it.journal o reply → IsUntouched old new
  -- while the machine is down the disk is left as it was
  pub down : old.it.now.machine.is_up ≡ false → IsUntouched old new
  -- few events more were recorded
  pub counts : new.it.now.recorded.events ≤ old.it.now.recorded.events + most_at_once
  -- while the machine is up, what undecided transactions did to the files stays reserved for them
  pub reserved : old.it.now.machine.is_up ≡ true → KeepsReserved line old.it.now new.it.now

-- out of memory: nothing was written, two pages were read at most, and the machine is as it was, but for what of its pages is in memory
pub record IsUnanswered (old new : OnDisk KernelState) : Type 0 where
  pub reads : OnlyReads 2 old.told new.told old.status new.status false
  pub at : (w : World) → KernelAt old.it old.told w → KernelAt new.it new.told w
  pub ready : IsReady old.it old.told old.status → IsReady new.it new.told new.status

-- out of memory nothing is so that was not, and there is room for no fewer notifications
pub record IsAsItWas (old new : KernelState) : Type 0 where
  pub now : new.now ≡ old.now
  pub journal : new.journal ≡ old.journal
  pub slots : old.slots ≤ new.slots

-- what a call leaves
abbrev pub CallLeaves : Pid → Command → OnDisk KernelState → OnDisk KernelState → Result Reply NoMemory → Type 0
CallLeaves process command old new (Ok reply) = IsLineAnswered (Process process command) (decide old.it.now process command) old new reply
CallLeaves process command old new (Err fault) = IsUnanswered old new

-- ---- the restart of a machine that is down

-- nothing was written, nothing waits for a sync, the disk has its power, and the machine is the one that is down
pub record IsAsBefore (old new : OnDisk KernelState) : Type 0 where
  pub machine : new.it ≡ old.it
  pub told : new.told ≡ old.told
  pub up : new.status.is_down ≡ false
  pub pending : new.status.pending ≡ 0

-- the fact, where the reply says that nothing was written: BAD_IMAGE or IMAGE_WORN
abbrev pub IfUnwrittenBy : Reply → Type 0 → Type 0
IfUnwrittenBy (BadImage offset) P = P
IfUnwrittenBy (Refused ImageWorn) P = P
IfUnwrittenBy reply P = Unit {0}

-- the replies of a restart of a machine that is down
abbrev pub IsOfRestart : Reply → Type 0
IsOfRestart (Restarted events in_doubt) = Unit {0}
IsOfRestart (BadImage offset) = Unit {0}
IsOfRestart (Refused ImageWorn) = Unit {0}
IsOfRestart (Refused MachineDown) = Unit {0}
IsOfRestart reply = ⊥

-- does the reply say that the machine started
abbrev pub says_started : Reply → Bool
says_started (Restarted events in_doubt) = true
says_started reply = false

-- how many events are recorded then: few more than those of a state that is not worn, where a machine started, and else as many as before
abbrev pub IsCountedBy : Bool → Present → Present → Type 0
IsCountedBy true old new = IsFreshlyCounted new
IsCountedBy false old new = new.recorded.events ≡ old.recorded.events

-- it was answered, for each world of which one of the possible logs was found
pub record IsRestartAnswered (old new : OnDisk KernelState) (reply : Reply) : Type 0 where
  pub does : (pick : ℕ) (w : World) → FoundAt old.it old.told w → DoesLine w (Some (Restart pick)) reply new.it new.told
  pub says : IsOfRestart reply
  pub cause : reply ≡ Refused MachineDown → Rose old.status.downs new.status.downs
  pub up : new.it.now.machine.is_up ≡ says_started reply
  -- a machine that started has events left, and another one counts what it counted
  pub counts : IsCountedBy (says_started reply) old.it.now new.it.now
  pub ready : IsReady new.it new.told new.status
  pub unwritten : IfUnwrittenBy reply (IsAsBefore old new)

-- what it leaves
abbrev pub StartAgainLeaves : OnDisk KernelState → OnDisk KernelState → Result Reply NoMemory → Type 0
StartAgainLeaves old new (Ok reply) = IsRestartAnswered old new reply
StartAgainLeaves old new (Err fault) = IsAsBefore old new
