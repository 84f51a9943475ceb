-- What a command records fits an empty log.
use Rattle.std.proofs.Common.{◌≡◌, ◌*◌, ◌≤◌, true, nat_le, length, [], Option, Some, None, is_some, refl, sym, ◌∙◌, ap, arith, inl, inr}
use Rattle.std.proofs.lemmas.Bool.{cases_Bool, leb-true, true≢false}
use Rattle.std.proofs.lemmas.Option.{none-some}
use Rattle.ktm_base.specs.declared.id.Label.{Label}
use Rattle.ktm_base.specs.declared.id.Pid.{Pid}
use Rattle.ktm_base.specs.declared.limits.TheConstants.{MOST_INFORMATION_BYTES}
use Rattle.ktm_base.specs.declared.refusal.Refusal.{Refusal}
use Rattle.ktm_world.specs.declared.command.Command.{Command}
use Rattle.ktm_world.specs.declared.command.Command.TheVariants.{CommitTransaction, RollbackTransaction, GetTransactionInformation, GetNotificationResourceManager, PrePrepareComplete, PrepareComplete, ReadOnlyEnlistment, CommitComplete, RollbackComplete, SinglePhaseReject, RollbackEnlistment, PrePrepareEnlistment, PrepareEnlistment, CommitEnlistment, CloseHandle, Exit}
use Rattle.ktm_world.specs.declared.input.PhaseInput.{PhaseInput}
use Rattle.ktm_world.specs.declared.object.Transaction.{Transaction}
use Rattle.ktm_world.specs.declared.reply.Reply.{Reply}
use Rattle.ktm_world.specs.declared.reply.Reply.TheVariants.{Done}
use Rattle.ktm_world.specs.Completions.{completion_of}
use Rattle.ktm_world.specs.Decide.{caller, command_effect, decide, refusal_of}
use Rattle.ktm_world.specs.Enlistments.{Enlistment, Manager}
use Rattle.ktm_world.specs.HandleCalls.{close_handle, exit}
use Rattle.ktm_world.specs.Labels.{enlistment_named, manager_named, transaction_named}
use Rattle.ktm_world.specs.Outcome.{Outcome, refuse_or}
use Rattle.ktm_world.specs.Present.{Present}
use Rattle.ktm_world.specs.Steps.{basis, led, share_of}
use Rattle.ktm_world.specs.TransactionCalls.{answering, arrived, commit_complete, commit_enlistment, commit_of, commit_reply, commit_transaction, course_of, get_notification, get_transaction_information, pre_prepare_complete, pre_prepare_enlistment, prepare_complete, prepare_enlistment, read_only_enlistment, rollback_complete, rollback_enlistment, rollback_of, rollback_transaction, single_phase_reject, take_first}
use Rattle.txf_laws.specs.Elements.{IsIn}
use Rattle.txf_laws.proofs.offered.Elements.{list_all-at}
use Rattle.ktm_courses.proofs.offered.Calls.{enlistment-named, of-answering}
use Rattle.ktm_courses.proofs.offered.Moves.{of-superior}
use Rattle.ktm_records.specs.FileCallsMade.{FileCallsLaw}
use Rattle.ktm_records.specs.Kept.{IsKept}
use Rattle.ktm_records.proofs.offered.AgreementOfCourses.{arrival}
use Rattle.ktm_records.proofs.offered.NoMore.{fits-within}
use Rattle.ktm_room.specs.Frames.{FitsEmptyLog}
use Rattle.ktm_room.proofs.offered.CallSizes.{few-decided}
use Rattle.ktm_room.proofs.offered.CourseSizes.{IsBrief, led-size, sizes}
use Rattle.ktm_room.proofs.OwnedSizes.{own_changes-size, own_settings-size}
use Rattle.ktm_room.proofs.UndoSizes.{close_handle-size, exit-size}

module _ (x : Present) (kept : IsKept x) where
  -- an outcome records what fits an empty log
  abbrev pub Fit : Outcome → Type 0
  Fit o = FitsEmptyLog x.recorded.units o.events

  -- no events do
  silent : FitsEmptyLog x.recorded.units []
  silent = omega arith

  -- an area has 65,536 bytes at least
  small : (o : Outcome) → sizes o.events ≤ 65526 → Fit o
  small o few = omega (arith, few)

  -- ---- transactions

  brief : (e : Enlistment) → IsIn e x.transactions.enlistments → length e.information ≤ MOST_INFORMATION_BYTES
  brief e there = leb-true (length e.information) MOST_INFORMATION_BYTES (list_all-at (λ (e : Enlistment). nat_le (length e.information) MOST_INFORMATION_BYTES) x.transactions.enlistments kept.sound.course.enlistments.information_fits e there)

  brief-superior : (t : Transaction) (caller : Option Enlistment) → IsBrief (basis (course_of x t caller)).superior
  brief-superior t caller = of-superior (λ e. length e.information ≤ MOST_INFORMATION_BYTES) x.transactions.enlistments t.id (λ e there is. brief e there)

  -- where a row leads any transaction
  fit-led : (input : PhaseInput) (t : Transaction) (caller : Option Enlistment) (reply : Reply) → IsBrief caller → Fit (arrived x (led input (course_of x t caller)) reply)
  fit-led input t caller reply called =
      let c = course_of x t caller in
      let most = led-size (324 * x.recorded.units) (1094 * x.recorded.units) input c refl (own_changes-size x kept t.id) (own_settings-size x kept t.id) called (brief-superior t caller) in
      let same = ap sizes (arrival x (led input c) reply).events in
      omega (arith, most, same)

  fit-commit : (o : Option Transaction) → Fit (commit_of x o)
  fit-commit None = silent
  fit-commit (Some t) = fit-led PhaseInput.CommitTransaction t None (commit_reply (led PhaseInput.CommitTransaction (course_of x t None))) (λ e is. absurd (none-some e is))

  fit-rollback : (o : Option Transaction) → Fit (rollback_of x o)
  fit-rollback None = silent
  fit-rollback (Some t) = fit-led PhaseInput.Rollback t None Done (λ e is. absurd (none-some e is))

  fit-answering : (process : Pid) (label : Label) (input : Enlistment → PhaseInput) → Fit (answering x (enlistment_named x process label) input)
  fit-answering process label input = of-answering Fit x (enlistment_named x process label) input silent
      (λ e is t there own found. fit-led (input e) t (Some e) Done (λ f same. brief f (enlistment-named x process label f (is ∙ same))))

  taken : (m : Option Manager) → Fit (take_first x m)
  taken None = silent
  taken (Some m) = silent

  -- ---- every command

  fit-effect : (process : Pid) (command : Command) → is_some (completion_of command) ≡ true → Fit (command_effect x process command)
  unfolding commit_transaction rollback_transaction get_transaction_information get_notification pre_prepare_complete prepare_complete read_only_enlistment commit_complete rollback_complete single_phase_reject rollback_enlistment pre_prepare_enlistment prepare_enlistment commit_enlistment
  fit-effect process (CommitTransaction label) is = fit-commit (transaction_named x process label)
  fit-effect process (RollbackTransaction label) is = fit-rollback (transaction_named x process label)
  fit-effect process (GetTransactionInformation label) is = silent
  fit-effect process (GetNotificationResourceManager label) is = taken (manager_named x process label)
  fit-effect process (PrePrepareComplete label) is = fit-answering process label (λ e. PhaseInput.PrePrepareComplete)
  fit-effect process (PrepareComplete label) is = fit-answering process label (λ e. PhaseInput.PrepareComplete)
  fit-effect process (ReadOnlyEnlistment label) is = fit-answering process label (λ e. PhaseInput.ReadOnly (share_of e))
  fit-effect process (CommitComplete label) is = fit-answering process label (λ e. PhaseInput.CommitComplete)
  fit-effect process (RollbackComplete label) is = fit-answering process label (λ e. PhaseInput.RollbackComplete)
  fit-effect process (SinglePhaseReject label) is = fit-answering process label (λ e. PhaseInput.SinglePhaseReject)
  fit-effect process (RollbackEnlistment label) is = fit-answering process label (λ e. PhaseInput.Rollback)
  fit-effect process (PrePrepareEnlistment label) is = fit-answering process label (λ e. PhaseInput.PrePrepare)
  fit-effect process (PrepareEnlistment label) is = fit-answering process label (λ e. PhaseInput.Prepare)
  fit-effect process (CommitEnlistment label) is = fit-answering process label (λ e. PhaseInput.Commit)
  fit-effect process (CloseHandle label) is = let few = close_handle-size x process label in small (close_handle x process label) (omega (arith, few))
  fit-effect process Exit is = let few = exit-size x process in let handles = (fits-within x kept.within).handles in small (exit x process) (omega (arith, few, handles))
  fit-effect process _ is = absurd (true≢false (sym is))

  -- refused or not
  pub fit-decided : FileCallsLaw → (process : Pid) (command : Command) → Fit (decide x process command)
  fit-decided calls process command = elim (cases_Bool (is_some (completion_of command))) [
    | inl is ↦ go (refusal_of x process command) (fit-effect process command is)
    | inr other ↦ let few = few-decided x kept calls process command other in omega (arith, few)
  ]
    where
      go : (refusal : Option Refusal) → Fit (command_effect x process command) → Fit (refuse_or x refusal (command_effect x process command))
      go (Some refusal) fits = silent
      go None fits = fits
