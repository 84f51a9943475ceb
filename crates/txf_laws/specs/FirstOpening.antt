-- A transaction's first open of a file.
use Rattle.std.specs.Prelude.{◌≡◌, ℕ, ◌==◌, true, false, [], ◌∷◌, ◌++◌}
use Rattle.ktm_base.specs.declared.id.Id.{Id}
use Rattle.ktm_world.specs.Files.{FilesNow, committed_files, first_open}
use Rattle.ktm_world.specs.Present.{Present}
use Rattle.ktm_world.specs.Tree.{is_file}
use Rattle.txf_laws.specs.SoundFiles.{IsSoundFiles, is_no_directory, is_undecided_in, made_or_opened}

-- the files with a first open more, of the version that there is
abbrev pub with_first : FilesNow → Id → ℕ → FilesNow
with_first files id file = record files { first_opens = files.first_opens ++ first_open (committed_files files []) (record { transaction = id; file = file }) ∷ [] }

-- what a transaction and a file have to be for a first open
pub record MayOpenFirst (x : Present) (id : Id) (file : ℕ) : Type 0 where
  -- the transaction is there, and undecided
  pub who : is_undecided_in x.transactions.items id ≡ true
  -- it is of this boot
  pub boot : (id.boot == x.recorded.boots) ≡ true
  -- the file is a committed one
  pub there : is_file x.files.tree file ≡ true
  -- the file is no directory in what the transaction sees
  pub seen : is_no_directory x.files file id ≡ true
  -- the transaction has neither made it nor opened it before
  pub new : made_or_opened x.files id file ≡ false

-- such a first open keeps sound what undecided transactions own and hold of the files
abbrev pub FirstOpeningLaw : Type 0
FirstOpeningLaw = (x : Present) (id : Id) (file : ℕ) → IsSoundFiles x → MayOpenFirst x id file → IsSoundFiles (record x { files = with_first x.files id file })
