-- What files, and places on a disk in their place, come to alike.
use Rattle.std.specs.Prelude.{◌≡◌, ℕ, true, None, Some, List, map}
use Rattle.ktm_base.specs.declared.id.Id.{Id}
use Rattle.ktm_world.specs.declared.change.Change.{Change}
use Rattle.ktm_world.specs.declared.event.Event.TheVariants.{Plain}
use Rattle.ktm_world.specs.Changes.{changed, applies, changes_apply, node_of}
use Rattle.ktm_world.specs.Durable.{Durable, after_event, event_applies}
use Rattle.ktm_world.specs.FileOutcome.{FileOutcome, files_after}
use Rattle.ktm_world.specs.Files.{FilesNow, own_changes}
use Rattle.ktm_world.specs.FileUses.{units_used, nodes_used, file_changes_waiting}
use Rattle.ktm_world.specs.Tree.{Tree, bytes_of, numbers_rise}
use Rattle.txf_laws.specs.FileEffects.{AreUnopened, AreVersionsFew, CanBeCounted, IsOrderly, IsPlain, IsPlanOf, LeavesOthers, LeavesOwn, forgotten}
use Rattle.txf_laws.specs.Reservations.{files_committed}
use Rattle.ktm_mapped.specs.Mapped.{IsBlank, mapped_tree, mapped_change, mapped_durable}
use Rattle.ktm_alike.specs.Alike.{mapped_files}
use Rattle.ktm_replaced.specs.InPlace.{LeavesOthersInPlace, LeavesOwnInPlace, with_own_behind}
use Rattle.ktm_replaced.specs.Replaced.{AreAlike, AreOutcomesAlike}

-- changes that are alike make the same trees with the bytes replaced, where no two nodes have one number, and apply to the same trees, whatever bytes the file had
pub record TreesReplaced (f : ℕ → ℕ) : Type 0 where
  pub made : (tree : Tree) (c d : Change) → numbers_rise tree ≡ true → AreAlike f (bytes_of tree (node_of c)) c d → changed (mapped_tree f tree) d ≡ mapped_tree f (changed tree c)
  pub apply : (tree : Tree) (old : List ℕ) (c d : Change) → AreAlike f old c d → applies (mapped_tree f tree) d ≡ applies tree c

-- what is committed by plain calls that are alike makes the same durable states with the bytes replaced, and applies to the same ones
pub record DurablesReplaced (f : ℕ → ℕ) : Type 0 where
  pub made : (s : Durable) (c d : Change) → numbers_rise s.tree ≡ true → AreAlike f (bytes_of s.tree (node_of c)) c d → after_event (mapped_durable f s) (Plain d) ≡ mapped_durable f (after_event s (Plain c))
  pub apply : (s : Durable) (c d : Change) → numbers_rise s.tree ≡ true → AreAlike f (bytes_of s.tree (node_of c)) c d → event_applies (mapped_durable f s) (Plain d) ≡ event_applies s (Plain c)

-- calls that are alike, and the commit of a transaction, make the same files with the bytes replaced
pub record FilesReplaced (f : ℕ → ℕ) : Type 0 where
  -- a plain call changes the tree, in which no two nodes have one number
  pub plain : (files : FilesNow) (o p : FileOutcome) → numbers_rise files.tree ≡ true → AreOutcomesAlike f files None o p → files_after (mapped_files f files) None p ≡ mapped_files f (files_after files None o)
  -- a call of a transaction puts its changes anew in the form in which they are committed, whatever form they had
  pub own : (files : FilesNow) (id : Id) (o p : FileOutcome) → AreOutcomesAlike f files (Some id) o p → files_after (mapped_files f files) (Some id) p ≡ mapped_files f (files_after files (Some id) o)
  pub committed : (files : FilesNow) (id : Id) → files_committed (mapped_files f files) id ≡ mapped_files f (files_committed files id)
  pub restored : (files : FilesNow) (id : Id) (cs : List Change) → with_own_behind (mapped_files f files) id (map (mapped_change f) cs) ≡ mapped_files f (with_own_behind files id cs)

-- as much is in use of the files with their bytes replaced
pub record UsesReplaced (f : ℕ → ℕ) : Type 0 where
  pub units : (files : FilesNow) → units_used (mapped_files f files) ≡ units_used files
  pub nodes : (files : FilesNow) → nodes_used (mapped_files f files) ≡ nodes_used files
  pub names : (files : FilesNow) → file_changes_waiting (mapped_files f files) ≡ file_changes_waiting files
  pub counted : (files : FilesNow) → CanBeCounted files → CanBeCounted (mapped_files f files)
  pub only_counted : (files : FilesNow) → CanBeCounted (mapped_files f files) → CanBeCounted files

-- what is asked of the files with their bytes replaced, that a call be made or a transaction commit, is so of the files
pub record AskedBack (f : ℕ → ℕ) : Type 0 where
  pub orderly : (files : FilesNow) → IsOrderly (mapped_files f files) → IsOrderly files
  -- a plain call
  pub plain : (files : FilesNow) (o p : FileOutcome) → AreOutcomesAlike f files None o p → IsPlain (mapped_files f files) p → IsPlain files o
  pub own_left : (files : FilesNow) (o p : FileOutcome) → numbers_rise files.tree ≡ true → AreOutcomesAlike f files None o p → LeavesOwn (mapped_files f files) (files_after (mapped_files f files) None p)
      → LeavesOwnInPlace files (files_after files None o)
  -- a call of a transaction
  pub plan : (files : FilesNow) (id : Id) (o p : FileOutcome) → AreOutcomesAlike f files (Some id) o p → IsPlanOf (mapped_files f files) id p → IsPlanOf files id o
  -- a commit
  pub own_apply : (files : FilesNow) (id : Id) → changes_apply (mapped_files f files).tree (own_changes (mapped_files f files).table.own id) ≡ true → changes_apply files.tree (own_changes files.table.own id) ≡ true
  pub others_left : (files : FilesNow) (id : Id) → LeavesOthers (mapped_files f files) id → LeavesOthersInPlace files id
  pub unopened : (files : FilesNow) (id : Id) → AreUnopened (mapped_files f files) id → AreUnopened files id
  pub few : (files : FilesNow) → AreVersionsFew (mapped_files f files).versions → AreVersionsFew files.versions
  -- a transaction that a restart brings back
  pub fresh : (files : FilesNow) (id : Id) → forgotten (mapped_files f files) id ≡ mapped_files f files → forgotten files id ≡ files

-- with every byte of every content replaced by another one, and zero by zero, a change of the bytes of a file counts by its result alone, and what is asked of the files is so of them where it is so then
abbrev pub ReplacedLaw : Type 0
ReplacedLaw = (f : ℕ → ℕ) → IsBlank f → TreesReplaced f × DurablesReplaced f × FilesReplaced f × UsesReplaced f × AskedBack f
