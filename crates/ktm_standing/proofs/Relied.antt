-- What a machine that stands may rely on.
use Rattle.std.proofs.Common.{◌≡◌, All, None, Some, true, subst}
use Rattle.ktm_event.specs.Spelling.{IsSpellableEvent}
use Rattle.ktm_world.specs.Decide.{decide, refusal_of}
use Rattle.ktm_world.specs.Labels.{file_named}
use Rattle.ktm_world.specs.Laws.{StepLaw}
use Rattle.ktm_world.specs.Present.{Present}
use Rattle.ktm_world.specs.Transactions.{is_undecided, transaction_at}
use Rattle.ktm_world.specs.World.{World, decide_tick, present}
use Rattle.ktm_records.specs.FileCallsMade.{FileCallsLaw, file_call}
use Rattle.ktm_records.specs.Kept.{IsKept}
use Rattle.txf_laws.specs.Footprint.{ListsLaw}
use Rattle.txf_laws.specs.Formed.{FormedLaw}
use Rattle.txf_laws.specs.Reservations.{ReservationsLaw}
use Rattle.ktm_laws.specs.Running.{HasEventsLeft, LawfulWorldsLaw}
use Rattle.ktm_records.specs.Spelling.{SpellingLaw}
use Rattle.txf_laws.specs.FileEffects.{IsOrderly}
use Rattle.ktm_standing.specs.Files.{IsOnCommitted, MayCommitNow, MayMake}
use Rattle.ktm_standing.specs.Laws.{FilesLaw, EffectsLaw, KeptLaw, SpelledLaw}
use Rattle.ktm_standing.specs.Standing.{IsStanding, IsStandingNow}
use Rattle.ktm_standing.proofs.CommitsMade.{may_commit}
use Rattle.ktm_standing.proofs.Counted.{units_now}
use Rattle.ktm_standing.proofs.FilesMade.{may_make, orderly_files, usable_file}

-- what is so of each world that stands is so of what is so now
by_world : (P : Present → Type 0) → ((w : World) → IsStanding w → P (present w)) → (x : Present) → IsStandingNow x → P x
by_world P each x now = subst P now.is (each now.world now.stands)

pub kept_law : KeptLaw
kept_law x now = by_world IsKept (λ w standing. standing.running.now) x now

pub spelled_law : SpellingLaw → SpelledLaw
spelled_law spelling = record {
  commands = λ x process command now is. by_world (λ x. All IsSpellableEvent (decide x process command).events)
      (λ w standing. (spelling.commands (present w) process command standing.running.now standing.texts (units_now w standing.running standing.small) is).0) x now;
  ticks = λ x ms now. by_world (λ x. All IsSpellableEvent (decide_tick x ms).events)
      (λ w standing. (spelling.ticks (present w) ms standing.running.now standing.texts (units_now w standing.running standing.small)).0) x now;
}

pub files_law : StepLaw → LawfulWorldsLaw → SpellingLaw → ReservationsLaw → ListsLaw → FormedLaw → EffectsLaw → FileCallsLaw → FilesLaw
files_law step law spelling reservations lists formed forms made = record {
  orderly = by_world (λ x. IsOrderly x.files) (λ w standing. orderly_files (present w) standing.running.now.sound.files);
  usable = λ x process label o. by_world (λ x. file_named x process label ≡ Some o → IsOnCommitted x o) (λ w standing. usable_file (present w) standing.running.now.sound.files process label o) x;
  calls = λ x process command who o now left is. by_world (λ x. HasEventsLeft x → refusal_of x process command ≡ None → file_call x process command ≡ Some (who, o) → MayMake x who o)
      (λ w standing left unrefused. may_make step law spelling forms made w left standing process command is unrefused who o) x now left;
  commits = λ x t. by_world (λ x. HasEventsLeft x → transaction_at x.transactions.items t.id ≡ Some t → is_undecided t ≡ true → MayCommitNow x t) (λ w standing left. may_commit reservations lists formed w left standing t) x;
}
