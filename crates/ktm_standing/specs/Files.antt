-- What a machine that stands may rely on where it makes what calls on files come to.
use Rattle.std.specs.Prelude.{◌≡◌, true, Option, Some, None, All}
use Rattle.ktm_base.specs.declared.id.Id.{Id}
use Rattle.ktm_event.specs.Spelling.{IsSpellableEvent}
use Rattle.ktm_world.specs.declared.object.Transaction.{Transaction}
use Rattle.txf_laws.specs.Reservations.{files_committed}
use Rattle.ktm_world.specs.Changes.{changes_apply}
use Rattle.ktm_world.specs.Conflicts.{writes}
use Rattle.ktm_world.specs.Decide.{events_of}
use Rattle.ktm_world.specs.FileOutcome.{FileOutcome, files_after}
use Rattle.ktm_world.specs.Files.{OpenFile}
use Rattle.ktm_world.specs.Present.{Present}
use Rattle.ktm_world.specs.Tree.{is_file}
use Rattle.txf_laws.specs.FileEffects.{AreUnopened, AreVersionsFew, LeavesOthers, IsPlain, LeavesOwn, IsPlanOf, CanBeCounted}
use Rattle.ktm_standing.specs.Effects.{changes_of}

-- what a plain call comes to can be made and recorded
pub record MayMakePlain (x : Present) (o : FileOutcome) : Type 0 where
  pub plain : IsPlain x.files o
  pub left : LeavesOwn x.files (files_after x.files None o)
  pub counted : CanBeCounted (files_after x.files None o)
  pub spelled : All IsSpellableEvent (events_of None o.change)

-- what a call comes to can be made
abbrev pub MayMake : Present → Option Id → FileOutcome → Type 0
MayMake x None o = MayMakePlain x o
MayMake x (Some id) o = IsPlanOf x.files id o

-- what a transaction changed can be committed
pub record MayCommitNow (x : Present) (t : Transaction) : Type 0 where
  pub applies : changes_apply x.files.tree (changes_of x t) ≡ true
  pub left : LeavesOthers x.files t.id
  pub unopened : AreUnopened x.files t.id
  pub counted : CanBeCounted (files_committed x.files t.id)
  pub few : AreVersionsFew x.files.versions

-- a plain open file that may be written is on a committed file
abbrev pub IsOnCommitted : Present → OpenFile → Type 0
IsOnCommitted x o = o.transaction ≡ None → writes o.access ≡ true → is_file x.files.tree o.node ≡ true
