-- What the calls by a path come to, where the path leads somewhere. No public clause cites this module.
use Rattle.std.specs.Prelude.{◌&&◌, ◌||◌, [], ◌∷◌, Option}
use Rattle.ktm_base.specs.declared.id.Id.{Id}
use Rattle.ktm_base.specs.declared.refusal.Refusal.{Refusal}
use Rattle.ktm_base.specs.declared.refusal.Refusal.TheVariants.{AccessDenied, AlreadyExists, DirNotEmpty, FileExists, FileNotFound, InvalidName, NotEnoughQuota, PathNotFound, SharingViolation}
use Rattle.ktm_world.specs.declared.options.Access.{Access}
use Rattle.ktm_world.specs.declared.options.Disposition.{Disposition}
use Rattle.ktm_world.specs.declared.options.ShareMode.{ShareMode}
use Rattle.ktm_world.specs.FileCalls.{Whereabouts, conflict_test, create_act, create_at, create_violates, delete_act, drop_at, is_at_directory, is_at_file, is_free_name, is_into_itself, is_no_path, is_no_way, is_not_empty, is_open_at, is_root, is_taken, limit_tests, make_act, make_at, move_act, move_at, remove_act, wants_existing, wants_new}
use Rattle.ktm_world.specs.FileOutcome.{FileOutcome, FileRoom, lacks_quota}
use Rattle.ktm_world.specs.Files.{FilesNow, tree_seen}
use Rattle.ktm_world.specs.Outcome.{first_refusal}
use Rattle.txf_calls.specs.Calls.{unless_refused}

-- CreateFile, behind its first test
abbrev pub create_there : FilesNow → FileRoom → Option Id → Access → ShareMode → Disposition → Whereabouts → FileOutcome
create_there files room who access mode disposition there = unless_refused
    (first_refusal (
    (is_no_path there, InvalidName)
    ∷ (is_no_way there, PathNotFound)
    ∷ (is_free_name there && wants_existing disposition, FileNotFound)
    ∷ (is_taken there && wants_new disposition, FileExists)
    ∷ (is_at_directory there, AccessDenied)
    ∷ conflict_test files who (create_act there access disposition)
    ∷ (create_violates files who there access mode disposition, SharingViolation)
    ∷ limit_tests files room who (create_at files who there access mode disposition)))
    (create_at files who there access mode disposition)

-- DeleteFile
abbrev pub delete_there : FilesNow → FileRoom → Option Id → Whereabouts → FileOutcome
delete_there files room who there = unless_refused
    (first_refusal (
    (is_no_path there, InvalidName)
    ∷ (is_no_way there, PathNotFound)
    ∷ (is_free_name there, FileNotFound)
    ∷ (is_at_directory there, AccessDenied)
    ∷ conflict_test files who (delete_act there)
    ∷ (is_open_at files who there, SharingViolation)
    ∷ (lacks_quota files room who (drop_at there), NotEnoughQuota)
    ∷ []))
    (drop_at there)

-- CreateDirectory
abbrev pub make_there : FilesNow → FileRoom → Option Id → Whereabouts → FileOutcome
make_there files room who there = unless_refused
    (first_refusal (
    (is_no_path there, InvalidName)
    ∷ (is_no_way there, PathNotFound)
    ∷ (is_taken there, AlreadyExists)
    ∷ conflict_test files who (make_act there)
    ∷ limit_tests files room who (make_at files there)))
    (make_at files there)

-- RemoveDirectory
abbrev pub remove_there : FilesNow → FileRoom → Option Id → Whereabouts → FileOutcome
remove_there files room who there = unless_refused
    (first_refusal (
    (is_no_path there, InvalidName)
    ∷ (is_no_way there, PathNotFound)
    ∷ (is_free_name there, FileNotFound)
    ∷ (is_root there, AccessDenied)
    ∷ (is_at_file there, Refusal.Directory)
    ∷ (is_not_empty (tree_seen files who) there, DirNotEmpty)
    ∷ conflict_test files who (remove_act there)
    ∷ (lacks_quota files room who (drop_at there), NotEnoughQuota)
    ∷ []))
    (drop_at there)

-- MoveFile, from where the first path leads to where the second one does
abbrev pub move_there : FilesNow → FileRoom → Option Id → Whereabouts → Whereabouts → FileOutcome
move_there files room who from to = unless_refused
    (first_refusal (
    (is_no_path from || is_no_path to, InvalidName)
    ∷ (is_no_way from || is_no_way to, PathNotFound)
    ∷ (is_free_name from, FileNotFound)
    ∷ (is_taken to, AlreadyExists)
    ∷ (is_root from || is_into_itself (tree_seen files who) from to, AccessDenied)
    ∷ conflict_test files who (move_act from to)
    ∷ (is_open_at files who from, SharingViolation)
    ∷ (lacks_quota files room who (move_at from to), NotEnoughQuota)
    ∷ []))
    (move_at from to)
