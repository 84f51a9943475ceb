-- Steps on the way to an answer. No public clause cites this module.
use Rattle.std.specs.Prelude.{ℕ, Bool, true, false, List, [], ◌∷◌, Option, if◌then◌else◌}
use Rattle.ktm_base.specs.declared.id.Id.{Id}
use Rattle.ktm_base.specs.declared.refusal.Refusal.{Refusal}
use Rattle.ktm_base.specs.declared.refusal.Refusal.TheVariants.{AccessDenied, FileExists, NotEnoughQuota, SharingViolation, TransactionalConflict}
use Rattle.ktm_world.specs.declared.options.Disposition.{Disposition}
use Rattle.ktm_world.specs.declared.change.Change.TheVariants.{Drop}
use Rattle.ktm_world.specs.Conflicts.{conflicts}
use Rattle.ktm_world.specs.FileCalls.{limit_tests, wants_new}
use Rattle.ktm_world.specs.FileOutcome.{FileOutcome, FileRoom, changing, lacks_quota}
use Rattle.ktm_world.specs.Files.{FilesNow}
use Rattle.ktm_names.specs.Value.{PatternValue}
use Rattle.ktm_world.specs.Outcome.{first_refusal}
use Rattle.ktm_world.specs.Paths.{Search}
use Rattle.txf_calls.specs.Calls.{unless_refused}
use Rattle.txf_opens.specs.Acts.{act_of, violates}
use Rattle.txf_opens.specs.declared.act.Act.{Act}

-- why a name that is taken is refused
abbrev pub taken : Disposition → Refusal
taken disposition = if wants_new disposition then FileExists else AccessDenied

-- the tests of what others hold and have open, and then these
abbrev pub held_tests : FilesNow → Option Id → Act → List (Bool × Refusal) → List (Bool × Refusal)
held_tests files who act tests = (conflicts files who (act_of act), TransactionalConflict) ∷ (violates files.table.opens who act, SharingViolation) ∷ tests

-- what is done, unless others or the limits refuse it
abbrev pub checked : FilesNow → FileRoom → Option Id → Act → FileOutcome → FileOutcome
checked files room who act o = unless_refused (first_refusal (held_tests files who act (limit_tests files room who o))) o

-- a node is dropped, unless others or a quota refuse it
abbrev pub dropped : FilesNow → FileRoom → Option Id → Act → ℕ → FileOutcome
dropped files room who act node = unless_refused (first_refusal (held_tests files who act ((lacks_quota files room who (changing (Drop node)), NotEnoughQuota) ∷ []))) (changing (Drop node))

-- what a pattern asks for
abbrev pub search_of : PatternValue → Search
search_of pattern = record { directory = pattern.directory; last = pattern.last }

-- is there no name
abbrev pub is_no_name : List (List ℕ) → Bool
is_no_name [] = true
is_no_name (name ∷ names) = false
