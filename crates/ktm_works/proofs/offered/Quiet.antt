-- Which calls commit nothing, and what a commit commits.
use Rattle.std.proofs.Common.{◌≡◌, ◌++◌, ◌+◌, ◌==◌, ◌&&◌, not, cond, Bool, true, false, List, [], ◌∷◌, Option, Some, None, is_none, is_some, refl, sym, ◌∙◌, ap, subst, arith}
use Rattle.std.proofs.lemmas.Bool.{and_from, and_parts, both_ways, eq-eqb}
use Rattle.std.proofs.lemmas.Bool.Decides.{nat_tests}
use Rattle.std.proofs.lemmas.Option.{none-some, same_Some}
use Rattle.std.proofs.lemmas.List.Folds.{find-append}
use Rattle.std.specs.List.{list_all}
use Rattle.std.specs.Option.{option_or}
use Rattle.std.specs.Prelude.{ℕ, find, nat_le, option_and_then}
use Rattle.ktm_base.specs.declared.id.Id.{Id}
use Rattle.ktm_base.specs.declared.id.Label.{Label}
use Rattle.ktm_base.specs.declared.id.Pid.{Pid}
use Rattle.ktm_base.specs.declared.refusal.Refusal.{Refusal}
use Rattle.ktm_base.specs.declared.refusal.Refusal.TheVariants.{MachineDown}
use Rattle.ktm_courses.proofs.offered.Calls.{Passes, passed}
use Rattle.ktm_courses.proofs.offered.HandlesAndTime.{Closes, close_handle-so}
use Rattle.ktm_records.proofs.offered.AgreementOfRollbacks.{rollback-undone}
use Rattle.ktm_steps.proofs.offered.Ways.{if_cases}
use Rattle.ktm_world.specs.declared.change.Change.{Change}
use Rattle.ktm_world.specs.declared.change.Change.TheVariants.{Make}
use Rattle.ktm_world.specs.declared.change.NodeKind.TheVariants.{File}
use Rattle.ktm_world.specs.declared.command.Command.{Command}
use Rattle.ktm_world.specs.declared.command.Command.TheVariants.{CloseHandle, CreateFileTransacted, CreateTransaction, KvSet, WriteFile}
use Rattle.ktm_world.specs.declared.input.PhaseInput.{PhaseInput}
use Rattle.ktm_world.specs.declared.object.Handle.{Handle}
use Rattle.ktm_world.specs.declared.object.Object.{Object}
use Rattle.ktm_world.specs.declared.object.Transaction.{Transaction}
use Rattle.ktm_world.specs.declared.options.Access.{Access}
use Rattle.ktm_world.specs.declared.options.Disposition.{Disposition}
use Rattle.ktm_world.specs.declared.options.ShareMode.{ShareMode}
use Rattle.ktm_world.specs.declared.reply.Reply.{Reply}
use Rattle.ktm_world.specs.declared.reply.Reply.TheVariants.{Done}
use Rattle.ktm_world.specs.Decide.{bound_file, caller, command_effect, command_tests, decide, of_files, on_file, opening, refusal_of}
use Rattle.ktm_world.specs.FileCalls.{Whereabouts, at_node, at_root, create_at, create_file, emptying, find_path, first_opening, free, new_open, no_path, no_way, write_file}
use Rattle.ktm_world.specs.FileOutcome.{FileOutcome, answering, works_of}
use Rattle.ktm_world.specs.Files.{OpenFile, tree_seen}
use Rattle.ktm_world.specs.Handles.{object_at}
use Rattle.ktm_world.specs.Labels.{file_named, file_number, id_of_named, open_file_at, with_handle, transaction_named}
use Rattle.ktm_world.specs.Outcome.{Outcome, apply, refuse_or}
use Rattle.ktm_world.specs.Present.{Present}
use Rattle.ktm_world.specs.Steps.{led}
use Rattle.ktm_world.specs.Transactions.{is_undecided}
use Rattle.ktm_world.specs.TransactionCalls.{course_of, create_transaction}
use Rattle.txf_laws.specs.SoundFiles.{IsSoundFiles}
use Rattle.ktm_works.specs.Works.{IsNoRefusal}
use Rattle.ktm_works.proofs.offered.Left.{decided-so}

-- a command that is refused commits nothing
pub quiet-decided : (x : Present) (process : Pid) (command : Command) → (refusal_of x process command ≡ None → (command_effect x process command).works ≡ []) → (decide x process command).works ≡ []
quiet-decided x process command quiet = refused (refusal_of x process command) refl
  where
    refused : (refusal : Option Refusal) → refusal_of x process command ≡ refusal → (refuse_or x refusal (command_effect x process command)).works ≡ []
    refused None is = quiet is
    refused (Some refusal) is = refl

pub quiet-transaction : (x : Present) (process : Pid) (label : Label) (timeout : ℕ) → (decide x process (CreateTransaction label timeout)).works ≡ []
unfolding create_transaction
quiet-transaction x process label timeout = quiet-decided x process (CreateTransaction label timeout) (λ passes. refl)

pub quiet-set : (x : Present) (process : Pid) (transaction : Label) (key value : List ℕ) → (decide x process (KvSet transaction key value)).works ≡ []
quiet-set x process transaction key value = quiet-decided x process (KvSet transaction key value) (λ passes. refl)

-- ---- handles

closing : Closes (λ x. Unit {0}) (λ x o. o.works ≡ [])
closing = record {
  rolls = record {
    reply = λ x asked. refl;
    rolls = λ x t asked there may. let none = (rollback-undone (course_of x t None)).works in if_cases (λ (o : Outcome). o.works ≡ []) (is_undecided (led PhaseInput.Rollback (course_of x t None)).transaction) _ _ (λ is. none) (λ is. none);
    goes_on = λ x a next first second. λ i. first i ++ second tt i;
  };
  unbinds = λ x process label asked. refl;
  ends = λ x number asked. refl;
}

pub quiet-close : (x : Present) (process : Pid) (label : Label) → (decide x process (CloseHandle label)).works ≡ []
quiet-close x process label = quiet-decided x process (CloseHandle label) (λ passes. close_handle-so (λ x. Unit {0}) (λ x o. o.works ≡ []) closing x process label tt)

-- ---- calls on files that are made in a transaction

own-works : (id : Id) (change : Option Change) → works_of (Some id) change ≡ []
own-works id None = refl
own-works id (Some change) = refl

opening-works : (x : Present) (process : Pid) (label : Label) (who : Option Id) (o : FileOutcome) → (opening x process label who o).works ≡ works_of who o.change
opening-works x process label who o = go o.opened
  where
    go : (opened : Option OpenFile) → (bound_file process label opened (of_files x who o)).works ≡ works_of who o.change
    go None = refl
    go (Some file) = refl

pub quiet-open : (x : Present) (process : Pid) (label : Label) (path : List ℕ) (access : Access) (share : ShareMode) (disposition : Disposition) (transaction : Label)
    → (decide x process (CreateFileTransacted label path access share disposition transaction)).works ≡ []
quiet-open x process label path access share disposition transaction = quiet-decided x process (CreateFileTransacted label path access share disposition transaction) (λ passes.
    let whole : Passes ((not x.machine.is_up, MachineDown) ∷ command_tests x process (CreateFileTransacted label path access share disposition transaction)) = record { none = passes } in
    opening-works x process label (caller x process transaction) (create_file x.files (caller x process transaction) path access share disposition)
    ∙ go (transaction_named x process transaction) (passed (passed whole).1).0 (create_file x.files (caller x process transaction) path access share disposition).change)
  where
    go : (named : Option Transaction) → is_none named ≡ false → (change : Option Change) → works_of (id_of_named named) change ≡ []
    go None some change = absurd (both_ways true some refl)
    go (Some t) some change = own-works t.id change

-- the label names no file that is open by a plain handle
abbrev pub IsNotPlain : Present → Pid → Label → Type 0
IsNotPlain x process label = (file : OpenFile) → file_named x process label ≡ Some file → is_none file.transaction ≡ false

pub quiet-write : (x : Present) (process : Pid) (label : Label) (offset : ℕ) (bytes : List ℕ) → IsNotPlain x process label → (decide x process (WriteFile label offset bytes)).works ≡ []
quiet-write x process label offset bytes transacted = quiet-decided x process (WriteFile label offset bytes) (λ passes. go (file_named x process label) refl)
  where
    by-who : (who : Option Id) → is_none who ≡ false → (change : Option Change) → works_of who change ≡ []
    by-who None some change = absurd (both_ways true some refl)
    by-who (Some id) some change = own-works id change

    go : (named : Option OpenFile) → file_named x process label ≡ named → (on_file x named (λ o. write_file o offset bytes)).works ≡ []
    go None is = refl
    go (Some file) is = by-who file.transaction (transacted file is) (write_file file offset bytes).change

-- ---- a file that was just opened in a transaction

object-last : (handles : List Handle) (process : Pid) (label : Label) (object : Object) → is_some (object_at handles process label) ≡ false → object_at (with_handle handles process label object) process label ≡ Some object
object-last [] process label object unbound = ap (λ b. cond b (Some object) None) (and_from _ _ (eq-eqb process.0 process.0 refl) (eq-eqb label.0 label.0 refl))
object-last (h ∷ hs) process label object unbound = go ((h.process.0 == process.0) && (h.label.0 == label.0)) unbound (object-last hs process label object)
  where
    go : (b : Bool) → is_some (cond b (Some h.object) (object_at hs process label)) ≡ false → (is_some (object_at hs process label) ≡ false → object_at (with_handle hs process label object) process label ≡ Some object) → cond b (Some h.object) (object_at (with_handle hs process label object) process label) ≡ Some object
    go true unbound rest = absurd (both_ways true unbound refl)
    go false unbound rest = rest unbound

-- no open file has a number that was not given
none-later : (last : ℕ) (opens : List OpenFile) → list_all (λ (o : OpenFile). nat_le 1 o.number && nat_le o.number last) opens ≡ true → find (λ (o : OpenFile). o.number == last + 1) opens ≡ None
none-later last [] all = refl
none-later last (o ∷ os) all =
    let parts = and_parts (nat_le 1 o.number && nat_le o.number last) (list_all (λ (o : OpenFile). nat_le 1 o.number && nat_le o.number last) os) all in
    let within : nat_le o.number last ≡ true = (and_parts (nat_le 1 o.number) (nat_le o.number last) parts.0).1 in
    let other : (o.number == last + 1) ≡ false = grind (arith, nat_tests, within) in
    ap (λ b. cond b (Some o) (find (λ (o : OpenFile). o.number == last + 1) os)) other ∙ none-later last os parts.1

module _ (x : Present) (process : Pid) (label : Label) (who : Option Id) (some : is_none who ≡ false) (unbound : is_some (object_at x.handles process label) ≡ false)
    (drawn : list_all (λ (o : OpenFile). nat_le 1 o.number && nat_le o.number x.files.table.last_open) x.files.table.opens ≡ true) where
  -- the file is the last one that is open
  found-open : (opened : OpenFile) → opened.number ≡ x.files.table.last_open + 1
      → option_and_then (open_file_at (x.files.table.opens ++ opened ∷ [])) (file_number (object_at (with_handle x.handles process label (Object.File opened.number)) process label)) ≡ Some opened
  found-open opened next =
      ap (λ o. option_and_then (open_file_at (x.files.table.opens ++ opened ∷ [])) (file_number o)) (object-last x.handles process label (Object.File opened.number) unbound)
      ∙ find-append (λ (o : OpenFile). o.number == opened.number) x.files.table.opens (opened ∷ [])
      ∙ ap (λ o. option_or o (find (λ (o : OpenFile). o.number == opened.number) (opened ∷ []))) (subst (λ n. find (λ (o : OpenFile). o.number == n) x.files.table.opens ≡ None) (sym next) (none-later x.files.table.last_open x.files.table.opens drawn))
      ∙ ap (λ b. cond b (Some opened) None) (eq-eqb opened.number opened.number refl)

  opened-by : (node : ℕ) (access : Access) (share : ShareMode) (reply : Reply) (change : Option Change) (first : Option ℕ)
      → IsNotPlain (apply x (opening x process label who (record { reply = reply; change = change; first = first; opened = Some (new_open x.files who node access share) }))) process label
  opened-by node access share reply change first file named =
      subst (λ (f : OpenFile). is_none f.transaction ≡ false) (same_Some (new_open x.files who node access share) file (sym (found-open (new_open x.files who node access share) refl) ∙ named)) some

  not-opened : (o : FileOutcome) → o.opened ≡ None → IsNotPlain (apply x (opening x process label who o)) process label
  not-opened o none = go o.opened none
    where
      go : (opened : Option OpenFile) → opened ≡ None → IsNotPlain (apply x (bound_file process label opened (of_files x who (record o { opened = opened })))) process label
      go None is = λ file named. absurd (none-some file (sym (unnamed (object_at x.handles process label) unbound) ∙ named))
        where
          unnamed : (object : Option Object) → is_some object ≡ false → option_and_then (open_file_at x.files.table.opens) (file_number object) ≡ None
          unnamed None unbound = refl
          unnamed (Some object) unbound = absurd (both_ways true unbound refl)
      go (Some f) is = absurd (none-some f (sym is))

  by-place : (there : Whereabouts) (access : Access) (share : ShareMode) (disposition : Disposition) → IsNotPlain (apply x (opening x process label who (create_at x.files who there access share disposition))) process label
  by-place (free directory name) access share disposition = opened-by x.files.table.next_node access share Done (Some (Make x.files.table.next_node directory File name)) None
  by-place (at_node node) access share disposition = opened-by node.number access share Done (emptying disposition node.number) (first_opening x.files who node.number)
  by-place no_path access share disposition = not-opened (answering Done) refl
  by-place no_way access share disposition = not-opened (answering Done) refl
  by-place at_root access share disposition = not-opened (answering Done) refl

-- then its label names no plain one
pub not-plain : (x : Present) (process : Pid) (label : Label) (path : List ℕ) (access : Access) (share : ShareMode) (disposition : Disposition) (transaction : Label) → IsSoundFiles x
    → IsNoRefusal (decide x process (CreateFileTransacted label path access share disposition transaction)).reply
    → IsNotPlain (apply x (decide x process (CreateFileTransacted label path access share disposition transaction))) process label
unfolding create_file
not-plain x process label path access share disposition transaction sound clear =
    let so = decided-so x process (CreateFileTransacted label path access share disposition transaction) clear in
    let whole : Passes ((not x.machine.is_up, MachineDown) ∷ command_tests x process (CreateFileTransacted label path access share disposition transaction)) = record { none = so.0 } in
    let first = (passed whole).1 in
    let unbound = (passed (passed (passed (passed (passed first).1).1).1).1).0 in
    subst (λ (o : Outcome). IsNotPlain (apply x o) process label) (sym so.1)
    (by-place x process label (caller x process transaction) (some-who (transaction_named x process transaction) (passed first).0) unbound sound.opens_drawn (find_path (tree_seen x.files (caller x process transaction)) path) access share disposition)
  where
    some-who : (named : Option Transaction) → is_none named ≡ false → is_none (id_of_named named) ≡ false
    some-who None some = some
    some-who (Some t) some = refl
