-- What holds of each byte of each content goes on to hold.
use Rattle.std.specs.Prelude.{ℕ, List, Option, All, IfSome}
use Rattle.ktm_base.specs.declared.id.Id.{Id}
use Rattle.ktm_world.specs.declared.change.Change.{Change}
use Rattle.ktm_world.specs.declared.event.Event.{Event}
use Rattle.ktm_world.specs.Changes.{changed, changed_all}
use Rattle.ktm_world.specs.Committed.{changes_to_commit, final_bytes}
use Rattle.ktm_world.specs.Durable.{Durable, after_event, after_events, stand}
use Rattle.ktm_world.specs.FileOutcome.{FileOutcome, files_after}
use Rattle.ktm_world.specs.Files.{FilesNow, bytes_seen}
use Rattle.ktm_world.specs.HandleCalls.{closed_file}
use Rattle.ktm_world.specs.Logs.{Group}
use Rattle.ktm_world.specs.Tree.{Tree, bytes_of, cut_to, put_over}
use Rattle.ktm_world.specs.World.{opened, own_group, present}
use Rattle.txf_laws.specs.FileEffects.{forgotten}
use Rattle.txf_laws.specs.Reservations.{files_committed}
use Rattle.ktm_replaced.specs.InPlace.{with_own_behind}
use Rattle.ktm_each.specs.Each.{EachFrom, AreZerosSuch, EachOfTree, EachOfChange, EachOfChanges, EachOfFiles, EachOfEvent, EachOfGroup, EachOfDurable}

-- it holds of contents that are cut, filled or put over, where it holds of what is put
pub record ContentsEach (p : ℕ → ℕ → ℕ → Type 0) : Type 0 where
  pub cut : (file : ℕ) (bytes : List ℕ) (size : ℕ) → EachFrom (p file) 0 bytes → EachFrom (p file) 0 (cut_to bytes size)
  pub put : (file : ℕ) (old : List ℕ) (offset : ℕ) (new : List ℕ) → EachFrom (p file) 0 old → EachFrom (p file) offset new → EachFrom (p file) 0 (put_over old offset new)

-- it holds of what changes make of a tree, of each file there, and of the form in which changes are committed
pub record ChangesEach (p : ℕ → ℕ → ℕ → Type 0) : Type 0 where
  pub one : (tree : Tree) (c : Change) → EachOfTree p tree → EachOfChange p c → EachOfTree p (changed tree c)
  pub all : (tree : Tree) (cs : List Change) → EachOfTree p tree → EachOfChanges p cs → EachOfTree p (changed_all tree cs)
  pub there : (tree : Tree) (file : ℕ) → EachOfTree p tree → EachFrom (p file) 0 (bytes_of tree file)
  pub final : (file : ℕ) (bytes : List ℕ) → EachFrom (p file) 0 bytes → EachOfChanges p (final_bytes file bytes)
  pub to_commit : (cs : List Change) (bytes : ℕ → List ℕ) → EachOfChanges p cs → ((file : ℕ) → EachFrom (p file) 0 (bytes file)) → EachOfChanges p (changes_to_commit cs bytes)

-- it holds of what calls, commits and ends make of the files, and of the bytes that are seen
pub record FilesEach (p : ℕ → ℕ → ℕ → Type 0) : Type 0 where
  pub after : (files : FilesNow) (who : Option Id) (o : FileOutcome) → EachOfFiles p files → IfSome o.change (EachOfChange p) → EachOfFiles p (files_after files who o)
  pub committed : (files : FilesNow) (id : Id) → EachOfFiles p files → EachOfFiles p (files_committed files id)
  pub forgot : (files : FilesNow) (id : Id) → EachOfFiles p files → EachOfFiles p (forgotten files id)
  pub closed : (files : FilesNow) (number : ℕ) → EachOfFiles p files → EachOfFiles p (record files { table = closed_file files.table number })
  -- of a transaction that a restart brings back
  pub restored : (files : FilesNow) (id : Id) (cs : List Change) → EachOfFiles p files → EachOfChanges p cs → EachOfFiles p (with_own_behind files id cs)
  pub seen : (files : FilesNow) (who : Option Id) (file : ℕ) → EachOfFiles p files → EachFrom (p file) 0 (bytes_seen files who file)

-- it holds of what events make of a durable state, of what a restart records, in which no bytes are, and of the files once a log is opened
pub record DurablesEach (p : ℕ → ℕ → ℕ → Type 0) : Type 0 where
  pub one : (s : Durable) (event : Event) → EachOfDurable p s → EachOfEvent p event → EachOfDurable p (after_event s event)
  pub all : (s : Durable) (events : Group) → EachOfDurable p s → EachOfGroup p events → EachOfDurable p (after_events s events)
  pub log : (base : Durable) (groups : List Group) → EachOfDurable p base → All (EachOfGroup p) groups → EachOfDurable p (stand base groups)
  pub own : (s : Durable) → EachOfGroup p (own_group s)
  pub opens : (base : Durable) (groups : List Group) → EachOfDurable p (stand base groups) → EachOfFiles p (present (opened base groups)).files

-- what holds of zeros, and of each byte that is put, by its file and its index there, goes on to hold of each byte of each content
abbrev pub EachLaw : (ℕ → ℕ → ℕ → Type 0) → Type 0
EachLaw p = AreZerosSuch p → ContentsEach p × ChangesEach p × FilesEach p × DurablesEach p
