-- What the calls by one path, and by two, come to.
use Rattle.std.proofs.Common.{◌≡◌, ◌∙◌, List, ℕ, Option, None, refl, ap}
use Rattle.ktm_base.specs.declared.id.Id.{Id}
use Rattle.ktm_base.specs.declared.refusal.Refusal.TheVariants.{InvalidName}
use Rattle.ktm_world.specs.declared.reply.Reply.TheVariants.{Refused}
use Rattle.ktm_world.specs.FileCalls.{create_directory, create_directory_tests, delete_file, delete_file_tests, find_path, move_file, move_file_tests, remove_directory, remove_directory_tests}
use Rattle.ktm_world.specs.FileOutcome.{FileRoom, answering}
use Rattle.ktm_world.specs.Files.{FilesNow, tree_seen}
use Rattle.ktm_world.specs.Paths.{path_of}
use Rattle.txf_calls.specs.Calls.{file_outcome}
use Rattle.txf_calls.specs.There.{delete_there, make_there, move_there, remove_there}
use Rattle.txf_calls.specs.declared.call.FileCall.TheVariants.{Delete, MakeDirectory, Move, RemoveDirectory}
use Rattle.txf_calls.proofs.Texts.{find-no-path}

module _ (files : FilesNow) (room : FileRoom) (who : Option Id) where
  pub delete-is : (text : List ℕ) → file_outcome files room who (Delete text) ≡ delete_there files room who (find_path (tree_seen files who) text)
  unfolding delete_file delete_file_tests
  delete-is text = refl

  pub delete-no-path : (text : List ℕ) → path_of text ≡ None → file_outcome files room who (Delete text) ≡ answering (Refused InvalidName)
  delete-no-path text none = delete-is text ∙ ap (delete_there files room who) (find-no-path (tree_seen files who) text none)

  pub make-is : (text : List ℕ) → file_outcome files room who (MakeDirectory text) ≡ make_there files room who (find_path (tree_seen files who) text)
  unfolding create_directory create_directory_tests
  make-is text = refl

  pub make-no-path : (text : List ℕ) → path_of text ≡ None → file_outcome files room who (MakeDirectory text) ≡ answering (Refused InvalidName)
  make-no-path text none = make-is text ∙ ap (make_there files room who) (find-no-path (tree_seen files who) text none)

  pub remove-is : (text : List ℕ) → file_outcome files room who (RemoveDirectory text) ≡ remove_there files room who (find_path (tree_seen files who) text)
  unfolding remove_directory remove_directory_tests
  remove-is text = refl

  pub remove-no-path : (text : List ℕ) → path_of text ≡ None → file_outcome files room who (RemoveDirectory text) ≡ answering (Refused InvalidName)
  remove-no-path text none = remove-is text ∙ ap (remove_there files room who) (find-no-path (tree_seen files who) text none)

  pub move-is : (source target : List ℕ) → file_outcome files room who (Move source target) ≡ move_there files room who (find_path (tree_seen files who) source) (find_path (tree_seen files who) target)
  unfolding move_file move_file_tests
  move-is source target = refl
