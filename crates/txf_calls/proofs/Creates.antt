-- What CreateFile comes to.
use Rattle.std.proofs.Common.{◌≡◌, ◌&&◌, not, false, true, List, ℕ, Option, None, refl, ap, ◌∙◌}
use Rattle.ktm_base.specs.declared.id.Id.{Id}
use Rattle.ktm_base.specs.declared.refusal.Refusal.TheVariants.{InvalidName, InvalidParameter}
use Rattle.ktm_world.specs.declared.options.Access.{Access}
use Rattle.ktm_world.specs.declared.options.Disposition.{Disposition}
use Rattle.ktm_world.specs.declared.options.ShareMode.{ShareMode}
use Rattle.ktm_world.specs.declared.reply.Reply.TheVariants.{Refused}
use Rattle.ktm_world.specs.Conflicts.{writes}
use Rattle.ktm_world.specs.FileCalls.{create_file, create_file_tests, find_path, is_truncate_existing}
use Rattle.ktm_world.specs.FileOutcome.{FileRoom, answering}
use Rattle.ktm_world.specs.Files.{FilesNow, tree_seen}
use Rattle.ktm_world.specs.Paths.{path_of}
use Rattle.txf_calls.specs.Calls.{file_outcome}
use Rattle.txf_calls.specs.There.{create_there}
use Rattle.txf_calls.specs.declared.call.FileCall.TheVariants.{Create}
use Rattle.txf_calls.proofs.Texts.{find-no-path}

pub create-is : (files : FilesNow) (room : FileRoom) (who : Option Id) (text : List ℕ) (access : Access) (share : ShareMode) (disposition : Disposition)
    → (is_truncate_existing disposition && not (writes access)) ≡ false
    → file_outcome files room who (Create text access share disposition) ≡ create_there files room who access share disposition (find_path (tree_seen files who) text)
unfolding create_file create_file_tests
create-is files room who text access share disposition fine = rw fine refl

-- a file that is to be emptied has to be opened for writing
pub create-lacks : (files : FilesNow) (room : FileRoom) (who : Option Id) (text : List ℕ) (access : Access) (share : ShareMode) (disposition : Disposition)
    → (is_truncate_existing disposition && not (writes access)) ≡ true
    → file_outcome files room who (Create text access share disposition) ≡ answering (Refused InvalidParameter)
unfolding create_file_tests
create-lacks files room who text access share disposition lacks = rw lacks refl

-- a text that is no path names no file
pub create-no-path : (files : FilesNow) (room : FileRoom) (who : Option Id) (text : List ℕ) (access : Access) (share : ShareMode) (disposition : Disposition)
    → (is_truncate_existing disposition && not (writes access)) ≡ false → path_of text ≡ None
    → file_outcome files room who (Create text access share disposition) ≡ answering (Refused InvalidName)
create-no-path files room who text access share disposition fine none =
    create-is files room who text access share disposition fine ∙ ap (create_there files room who access share disposition) (find-no-path (tree_seen files who) text none)
