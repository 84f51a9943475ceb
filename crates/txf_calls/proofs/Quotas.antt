-- No open file is left behind the last number.
use Rattle.std.proofs.Common.{◌≡◌, ◌||◌, Bool, true, false, [], ◌∷◌, Option, Some, None, nat_lt, ◌==◌, ◌&&◌, ◌+◌, is_some, refl, ap, ◌∙◌}
use Rattle.ktm_base.specs.declared.limits.TheConstants.{MOST_NUMBER, END_OF_NODES}
use Rattle.ktm_base.specs.declared.id.Id.{Id}
use Rattle.ktm_world.specs.declared.reply.Reply.TheVariants.{Refused}
use Rattle.ktm_base.specs.declared.refusal.Refusal.TheVariants.{NotEnoughQuota, SharingViolation, TransactionalConflict}
use Rattle.ktm_world.specs.Conflicts.{conflicts}
use Rattle.ktm_world.specs.FileCalls.{limit_tests}
use Rattle.ktm_world.specs.FileOutcome.{FileOutcome, FileRoom, answering, lacks_quota, files_after, next_node_after, own_after, with_open}
use Rattle.ktm_world.specs.FileUses.{file_changes_waiting}
use Rattle.ktm_world.specs.Outcome.{first_refusal}
use Rattle.txf_calls.specs.Calls.{unless_refused}
use Rattle.txf_calls.specs.Steps.{checked, held_tests}
use Rattle.txf_opens.specs.Acts.{act_of, violates}
use Rattle.txf_opens.specs.declared.act.Act.{Act}
use Rattle.ktm_world.specs.Files.{FilesNow, OpenFile}

-- a test that holds among others
third : (a b c d : Bool) → c ≡ true → (a || b || c || d) ≡ true
third true b c d is = refl
third false true c d is = refl
third false false c d is = rw is refl

-- the number behind the last one passes the quota
pub no-number-left : (files : FilesNow) (room : FileRoom) (who : Option Id) (o : FileOutcome) (f : OpenFile) → o.opened ≡ Some f → f.number ≡ files.table.last_open + 1 → files.table.last_open ≡ MOST_NUMBER
    → lacks_quota files room who o ≡ true
unfolding lacks_quota
no-number-left files room who o f opened next last =
    let after = files_after files who o in
    third (nat_lt room.changes (file_changes_waiting after)) (is_some o.opened && room.handles == 0) (nat_lt MOST_NUMBER after.table.last_open) (nat_lt END_OF_NODES after.table.next_node)
    (ap (λ (x : Option OpenFile). nat_lt MOST_NUMBER (with_open (record files.table { own = own_after files who o.change; next_node = next_node_after files.table.next_node o.change }) x).last_open) opened
    ∙ ap (nat_lt MOST_NUMBER) (next ∙ ap (λ n. n + 1) last))

-- what nobody refuses, and passes a quota
pub over-quota : (files : FilesNow) (room : FileRoom) (who : Option Id) (act : Act) (o : FileOutcome) → first_refusal (held_tests files who act []) ≡ None → lacks_quota files room who o ≡ true
    → checked files room who act o ≡ answering (Refused NotEnoughQuota)
over-quota files room who act o passes over = on (conflicts files who (act_of act)) (violates files.table.opens who act) passes
  where
    on : (a b : Bool) → first_refusal ((a, TransactionalConflict) ∷ (b, SharingViolation) ∷ []) ≡ None
        → unless_refused (first_refusal ((a, TransactionalConflict) ∷ (b, SharingViolation) ∷ limit_tests files room who o)) o ≡ answering (Refused NotEnoughQuota)
    on true b is = absurd cc
    on false true is = absurd cc
    on false false is = rw over refl
