-- A settlement does not look at the journal.
use Rattle.std.proofs.Common.{Option, Some, None}
use Rattle.ktm_base.specs.declared.id.Label.{Label}
use Rattle.ktm_base.specs.declared.id.Pid.{Pid}
use Rattle.ktm_journal.specs.Image.{JournalState}
use Rattle.ktm_world.specs.Files.{OpenFile}
use Rattle.ktm_world.specs.Outcome.{Outcome}
use Rattle.ktm_world.specs.Present.{Present}
use Rattle.ktm_memory.specs.declared.settlement.Labels.{Labels}
use Rattle.ktm_memory.specs.declared.settlement.Labels.TheVariants.{Bind, Duplicate, Unbind, UnbindAll}
use Rattle.ktm_memory.specs.declared.settlement.Settlement.{Settlement}
use Rattle.ktm_memory.specs.declared.settlement.Settlement.TheVariants.{Nothing, Begin, Change, Course, Handles, Pass, MakeManager, Recover, Take, Enlist, Inform}
use Rattle.ktm_memory.specs.Memory.{MayBind, MayHandle, MaySettle, MemoryState, Shows, TellsWithin}

may_bind : (m : MemoryState) (j : JournalState) (process : Pid) (label : Option Label) (opened : Option OpenFile) → MayBind m process label opened → MayBind (record m { journal = j }) process label opened
may_bind m j process (Some label) (Some file) may = may
may_bind m j process (Some label) None may = may
may_bind m j process None opened may = may

may_handle : (m : MemoryState) (j : JournalState) (process : Pid) (labels : Labels) → MayHandle m process labels → MayHandle (record m { journal = j }) process labels
may_handle m j process (Bind label object) may = may
may_handle m j process (Duplicate label from source) may = may
may_handle m j process (Unbind label) may = may
may_handle m j process UnbindAll may = may

-- what memory shows with one journal it shows with another
shows_with : (m : MemoryState) (j : JournalState) (x : Present) → Shows (record m { journal = j }) x → Shows m x
shows_with m j x shows = record {
  is_up = shows.is_up;
  boot = shows.boot;
  transactions = shows.transactions;
  managers = shows.managers;
  traces = shows.traces;
  files = shows.files;
  next_node = shows.next_node;
  keys = shows.keys;
  handles = shows.handles;
}

-- what may be made may be made whatever the journal is
pub settles_with : (m : MemoryState) (j : JournalState) (rest : Settlement) → MaySettle m rest → MaySettle (record m { journal = j }) rest
settles_with m j Nothing may = may
settles_with m j (Begin process label timeout) may = may
settles_with m j (Change process label plan ready) may = (may.0, may.1, may_bind m j process label plan.opened may.2)
settles_with m j (Course t caller steps) may = record {
  there = may.there;
  live = may.live;
  leads = λ x shows. may.leads x (shows_with m j x shows);
  few = may.few;
  noted = may.noted;
  commits = may.commits;
}
settles_with m j (Handles process labels) may = may_handle m j process labels may
settles_with m j (Pass ms) may = may
settles_with m j (MakeManager process label durability) may = may
settles_with m j (Recover manager) may = may
settles_with m j (Take manager) may = may
settles_with m j (Enlist process label manager transaction kind) may = may
settles_with m j (Inform enlistment information) may = may

-- there is room for what an outcome tells, whatever the journal is
pub tells_with : (m : MemoryState) (j : JournalState) (outcome : Present → Outcome) → TellsWithin m outcome → TellsWithin (record m { journal = j }) outcome
tells_with m j outcome tells = λ x shows. tells x (shows_with m j x shows)
