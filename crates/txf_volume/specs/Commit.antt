-- What the commit of a transaction needs.
use Rattle.std.specs.Prelude.{◌≡◌, true}
use Rattle.ktm_base.specs.declared.id.Id.{Id}
use Rattle.ktm_world.specs.Changes.{changes_apply}
use Rattle.ktm_world.specs.Files.{FilesNow, own_changes}
use Rattle.txf_laws.specs.FileEffects.{AreUnopened, AreVersionsFew, CanBeCounted, LeavesOthers}
use Rattle.txf_laws.specs.Reservations.{files_committed}

-- what the transaction changed applies, and leaves to others what they changed and hold; what is in use then can be counted
pub record MayCommit (files : FilesNow) (id : Id) : Type 0 where
  pub applies : changes_apply files.tree (own_changes files.table.own id) ≡ true
  pub left : LeavesOthers files id
  pub unopened : AreUnopened files id
  pub counted : CanBeCounted (files_committed files id)
  pub few : AreVersionsFew files.versions
