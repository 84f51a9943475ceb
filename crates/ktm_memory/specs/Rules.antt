-- Rules that the places of contents follow, which memory keeps.
use Rattle.std.specs.Prelude.{◌≡◌, ℕ, Bool, true}
use Rattle.ktm_each.specs.Each.{EachFrom, EachOfChanges, EachOfFiles, EachOfGroup}
use Rattle.ktm_world.specs.Files.{FilesNow}
use Rattle.ktm_world.specs.Logs.{Group}
use Rattle.ktm_world.specs.Present.{Present}
use Rattle.txf_calls.specs.declared.call.FileCall.{FileCall}
use Rattle.txf_calls.specs.declared.call.FileCall.TheVariants.{Write, WriteUnits}
use Rattle.ktm_memory.specs.Settled.{changes_put, left_to_do}
use Rattle.ktm_memory.specs.declared.settlement.Settlement.{Settlement}
use Rattle.ktm_memory.specs.declared.routed.Routed.{Routed}
use Rattle.ktm_memory.specs.declared.routed.Routed.TheVariants.{Files, Units}

-- a rule tells which places a byte of a file may have, by the number of the file and the index there
abbrev pub Follows : (ℕ → ℕ → ℕ → Bool) → ℕ → ℕ → ℕ → Type 0
Follows rule file index place = rule file index place ≡ true

-- every byte may have none
abbrev pub AllowsNone : (ℕ → ℕ → ℕ → Bool) → Type 0
AllowsNone rule = (file index : ℕ) → rule file index 0 ≡ true

-- the places that a call on files puts follow the rule
abbrev pub CallPutsBy : (ℕ → ℕ → ℕ → Bool) → FileCall → Type 0
CallPutsBy rule (Write file offset bytes) = EachFrom (Follows rule file.node) offset bytes
CallPutsBy rule (WriteUnits file start contents) = EachFrom (Follows rule file.node) start contents
CallPutsBy rule _ = Unit {0}

-- the places that a call puts follow the rule
abbrev pub PutsBy : (ℕ → ℕ → ℕ → Bool) → Routed → Type 0
PutsBy rule (Files who label call) = CallPutsBy rule call
PutsBy rule (Units who file start contents extent) = EachFrom (Follows rule file.node) start contents
PutsBy rule _ = Unit {0}

-- whichever rule all places of the files follow, they follow it then
abbrev pub KeepRules : FilesNow → FilesNow → Type 0
KeepRules old new = (rule : ℕ → ℕ → ℕ → Bool) → AllowsNone rule → EachOfFiles (Follows rule) old → EachOfFiles (Follows rule) new

-- whichever rule all places of the files follow, and those that are put, those that are recorded follow it, and all places of the files then
abbrev pub KeepsRules : ((ℕ → ℕ → ℕ → Bool) → Type 0) → FilesNow → Group → FilesNow → Type 0
KeepsRules puts old events new = (rule : ℕ → ℕ → ℕ → Bool) → AllowsNone rule → EachOfFiles (Follows rule) old → puts rule → EachOfGroup (Follows rule) events × EachOfFiles (Follows rule) new

-- whichever rule the places follow that are left to be put, those of the events follow
abbrev pub PutsAlone : Present → Settlement → Type 0
PutsAlone x settlement = (rule : ℕ → ℕ → ℕ → Bool) → EachOfChanges (Follows rule) (changes_put x settlement) → EachOfGroup (Follows rule) (left_to_do x settlement).events

-- whichever rule all places of the files follow, and those of what is recorded, all places of the files follow then
abbrev pub SettlesByRules : FilesNow → Group → FilesNow → Type 0
SettlesByRules old events new = (rule : ℕ → ℕ → ℕ → Bool) → AllowsNone rule → EachOfFiles (Follows rule) old → EachOfGroup (Follows rule) events → EachOfFiles (Follows rule) new
