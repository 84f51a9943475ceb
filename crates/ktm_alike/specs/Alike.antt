-- What is so now, commands, and what they come to, with every byte of every content replaced by another one.
use Rattle.std.specs.Prelude.{ℕ, map, option_map}
use Rattle.ktm_world.specs.declared.command.Command.{Command}
use Rattle.ktm_world.specs.declared.command.Command.TheVariants.{ReadFile, WriteFile, WriteUnits}
use Rattle.ktm_world.specs.declared.reply.Reply.{Reply}
use Rattle.ktm_world.specs.declared.reply.Reply.TheVariants.{Contents}
use Rattle.ktm_world.specs.Committed.{Committed, Work}
use Rattle.ktm_world.specs.Files.{OwnChanges, FirstOpen, FileTable, FilesNow}
use Rattle.ktm_world.specs.FileOutcome.{FileOutcome}
use Rattle.ktm_world.specs.Outcome.{Outcome}
use Rattle.ktm_world.specs.Present.{Present}
use Rattle.ktm_mapped.specs.Mapped.{mapped_tree, mapped_change, mapped_group, mapped_durable}

-- ---- files

-- the changes of an undecided transaction
abbrev pub mapped_own : (ℕ → ℕ) → OwnChanges → OwnChanges
mapped_own f o = record o { changes = map (mapped_change f) o.changes }

-- the version that a transaction opened first
abbrev pub mapped_first : (ℕ → ℕ) → FirstOpen → FirstOpen
mapped_first f o = record o { bytes = map f o.bytes }

-- what the undecided transactions changed; what is open stays open
abbrev pub mapped_table : (ℕ → ℕ) → FileTable → FileTable
mapped_table f table = record table { own = map (mapped_own f) table.own }

-- the files now; versions are counted as before
abbrev pub mapped_files : (ℕ → ℕ) → FilesNow → FilesNow
mapped_files f files = record files {
  tree = mapped_tree f files.tree;
  first_opens = map (mapped_first f) files.first_opens;
  table = mapped_table f files.table;
}

-- what is committed; keys stay as they are
abbrev pub mapped_committed : (ℕ → ℕ) → Committed → Committed
mapped_committed f c = record c { tree = mapped_tree f c.tree }

-- what is committed at once
abbrev pub mapped_work : (ℕ → ℕ) → Work → Work
mapped_work f work = record work { changes = map (mapped_change f) work.changes }

-- what a call on files comes to, but its reply
abbrev pub mapped_file_outcome : (ℕ → ℕ) → FileOutcome → FileOutcome
mapped_file_outcome f o = record o { change = option_map (mapped_change f) o.change }

-- ---- the machine

-- all that is so now
abbrev pub mapped_present : (ℕ → ℕ) → Present → Present
mapped_present f x = record x { recorded = mapped_durable f x.recorded; files = mapped_files f x.files }

-- a command, of which WriteFile has bytes of a file, and a put of whole units has all of theirs
abbrev pub mapped_command : (ℕ → ℕ) → Command → Command
mapped_command f (WriteFile file offset bytes) = WriteFile file offset (map f bytes)
mapped_command f (WriteUnits file start contents) = WriteUnits file start (map f contents)
mapped_command f command = command

-- the bytes that a reply tells; none else stand in a file
abbrev pub mapped_read : (ℕ → ℕ) → Reply → Reply
mapped_read f (Contents bytes) = Contents (map f bytes)
mapped_read f reply = reply

-- the reply to a command, of which that of ReadFile tells bytes of a file
abbrev pub mapped_reply : (ℕ → ℕ) → Command → Reply → Reply
mapped_reply f (ReadFile file offset many) reply = mapped_read f reply
mapped_reply f command reply = reply

-- what an outcome makes of the machine; its reply stays
abbrev pub mapped_outcome : (ℕ → ℕ) → Outcome → Outcome
mapped_outcome f o = record o { events = mapped_group f o.events; works = map (mapped_work f) o.works; table = mapped_table f o.table }

-- what a command comes to, with its reply
abbrev pub mapped_answer : (ℕ → ℕ) → Command → Outcome → Outcome
mapped_answer f command o = record (mapped_outcome f o) { reply = mapped_reply f command o.reply }
