-- What FindFiles comes to.
use Rattle.std.proofs.Common.{◌≡◌, ◌∙◌, List, ℕ, [], ◌∷◌, map, Option, Some, None, is_none, if◌then◌else◌, refl, sym, ap}
use Rattle.ktm_base.specs.declared.id.Id.{Id}
use Rattle.ktm_base.specs.declared.refusal.Refusal.TheVariants.{FileNotFound, InvalidName, PathNotFound}
use Rattle.ktm_world.specs.declared.recorded.Node.{Node}
use Rattle.ktm_world.specs.declared.reply.Reply.TheVariants.{Names, Refused}
use Rattle.ktm_world.specs.FileCalls.{entries, find_files, find_files_tests, found_entries, is_no_entry, listed, searched_directory}
use Rattle.ktm_world.specs.FileOutcome.{FileOutcome, FileRoom, answering}
use Rattle.ktm_world.specs.Files.{FilesNow, tree_seen}
use Rattle.ktm_world.specs.Outcome.{first_refusal}
use Rattle.ktm_world.specs.Paths.{Search, pattern_of}
use Rattle.ktm_world.specs.Tree.{Tree}
use Rattle.txf_calls.specs.Calls.{file_outcome, unless_refused}
use Rattle.txf_calls.specs.Steps.{is_no_name}
use Rattle.txf_calls.specs.declared.call.FileCall.TheVariants.{Find}

-- by what is asked for
abbrev find-there : Tree → Option Search → FileOutcome
find-there tree wanted = unless_refused
    (first_refusal ((is_none wanted, InvalidName) ∷ (is_none (searched_directory tree wanted), PathNotFound) ∷ (is_no_entry (found_entries tree wanted), FileNotFound) ∷ []))
    (answering (Names (map listed (found_entries tree wanted))))

-- by the entries of the directory
abbrev find-among : List Node → FileOutcome
find-among es = unless_refused (first_refusal ((is_no_entry es, FileNotFound) ∷ [])) (answering (Names (map listed es)))

-- the names that are found, and none
abbrev listing : List (List ℕ) → FileOutcome
listing names = if is_no_name names then answering (Refused FileNotFound) else answering (Names names)

among-is : (es : List Node) → find-among es ≡ listing (map listed es)
among-is [] = refl
among-is (e ∷ es) = refl

module _ (files : FilesNow) (room : FileRoom) (who : Option Id) (text : List ℕ) where
  find-is : file_outcome files room who (Find text) ≡ find-there (tree_seen files who) (pattern_of text)
  unfolding find_files find_files_tests
  find-is = refl

  pub find-no-pattern : pattern_of text ≡ None → file_outcome files room who (Find text) ≡ answering (Refused InvalidName)
  find-no-pattern none = find-is ∙ ap (find-there (tree_seen files who)) none

  module _ (s : Search) (wanted : pattern_of text ≡ Some s) where
    find-in : (d : Option ℕ) → searched_directory (tree_seen files who) (Some s) ≡ d
        → file_outcome files room who (Find text)
        ≡ unless_refused (first_refusal ((is_none d, PathNotFound) ∷ (is_no_entry (entries (tree_seen files who) d s.last), FileNotFound) ∷ [])) (answering (Names (map listed (entries (tree_seen files who) d s.last))))
    find-in d at = find-is ∙ ap (find-there (tree_seen files who)) wanted ∙ rw at refl

    pub find-no-directory : searched_directory (tree_seen files who) (Some s) ≡ None → file_outcome files room who (Find text) ≡ answering (Refused PathNotFound)
    find-no-directory none = find-in None none

    pub find-listed : (d : ℕ) (names : List (List ℕ)) → searched_directory (tree_seen files who) (Some s) ≡ Some d → names ≡ map listed (entries (tree_seen files who) (Some d) s.last)
        → file_outcome files room who (Find text) ≡ (if is_no_name names then answering (Refused FileNotFound) else answering (Names names))
    find-listed d names at are = find-in (Some d) at ∙ among-is (entries (tree_seen files who) (Some d) s.last) ∙ ap listing (sym are)
