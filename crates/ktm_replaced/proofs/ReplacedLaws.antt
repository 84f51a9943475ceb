-- What files, and places on a disk in their place, come to alike.
use Rattle.std.proofs.Common.{ℕ}
use Rattle.ktm_mapped.specs.Mapped.{IsBlank}
use Rattle.ktm_alike.proofs.offered.Outcomes.{file_changes_waiting-mapped, nodes_used-mapped, units_used-mapped}
use Rattle.ktm_replaced.specs.Laws.{AskedBack, DurablesReplaced, FilesReplaced, ReplacedLaw, TreesReplaced, UsesReplaced}
use Rattle.ktm_replaced.proofs.offered.Asked.{counted-back, counted-replaced, fresh-back, orderly-back, others-left-back, own-apply-back, own-left-back, plain-back, plan-back, unopened-back}
use Rattle.ktm_replaced.proofs.offered.Calls.{files_committed-mapped, own-alike, plain-alike, with_own_behind-mapped}
use Rattle.ktm_replaced.proofs.offered.Replacing.{after_event-alike, applies-alike, changed-alike, event_applies-alike}

trees_replaced : (f : ℕ → ℕ) → IsBlank f → TreesReplaced f
trees_replaced f blank = record { made = changed-alike f blank; apply = applies-alike f blank }

durables_replaced : (f : ℕ → ℕ) → IsBlank f → DurablesReplaced f
durables_replaced f blank = record { made = after_event-alike f blank; apply = event_applies-alike f blank }

files_replaced : (f : ℕ → ℕ) → IsBlank f → FilesReplaced f
files_replaced f blank = record {
  plain = plain-alike f blank;
  own = own-alike f blank;
  committed = files_committed-mapped f blank;
  restored = with_own_behind-mapped f;
}

uses_replaced : (f : ℕ → ℕ) → IsBlank f → UsesReplaced f
uses_replaced f blank = record {
  units = units_used-mapped f blank;
  nodes = nodes_used-mapped f;
  names = file_changes_waiting-mapped f;
  counted = counted-replaced f blank;
  only_counted = counted-back f blank;
}

asked_back : (f : ℕ → ℕ) → IsBlank f → AskedBack f
asked_back f blank = record {
  orderly = orderly-back f;
  plain = plain-back f blank;
  own_left = own-left-back f blank;
  plan = plan-back f blank;
  own_apply = own-apply-back f blank;
  others_left = others-left-back f blank;
  unopened = unopened-back f;
  -- versions have no bytes
  few = λ files few. few;
  fresh = fresh-back f;
}

pub replaced_law : ReplacedLaw
replaced_law f blank = (trees_replaced f blank, durables_replaced f blank, files_replaced f blank, uses_replaced f blank, asked_back f blank)
