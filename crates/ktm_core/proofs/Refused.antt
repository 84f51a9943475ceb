-- A command that may owe more, and is refused, leaves the debts as they were.
use Rattle.std.proofs.Common.{◌≡◌, ℕ, true, false, List, [], ◌∷◌, Option, Some, None, refl, ◌∙◌, ap}
use Rattle.ktm_base.specs.declared.id.Id.{Id}
use Rattle.ktm_base.specs.declared.id.Label.{Label}
use Rattle.ktm_base.specs.declared.id.Pid.{Pid}
use Rattle.ktm_base.specs.declared.refusal.Refusal.{Refusal}
use Rattle.ktm_debts.specs.Debts.{completes, debts, may_owe_more}
use Rattle.ktm_world.specs.declared.command.Command.{Command}
use Rattle.ktm_world.specs.declared.command.Command.TheVariants.{CreateTransaction, CreateEnlistment, CreateFileTransacted, WriteFile, SetEndOfFile, WriteUnits, DeleteFileTransacted, CreateDirectoryTransacted, RemoveDirectoryTransacted, MoveFileTransacted, KvSet, KvUnset}
use Rattle.ktm_world.specs.declared.object.Transaction.{Transaction}
use Rattle.ktm_world.specs.declared.options.Access.{Access}
use Rattle.ktm_world.specs.declared.options.Disposition.{Disposition}
use Rattle.ktm_world.specs.declared.options.EnlistmentKind.{EnlistmentKind}
use Rattle.ktm_world.specs.declared.options.ShareMode.{ShareMode}
use Rattle.ktm_world.specs.declared.reply.Reply.{Reply}
use Rattle.ktm_world.specs.declared.reply.Reply.TheVariants.{Done, Refused}
use Rattle.ktm_world.specs.Decide.{bound_file, caller, command_effect, decide, on_file, opening, refusal_of}
use Rattle.ktm_world.specs.Enlistments.{Manager}
use Rattle.ktm_world.specs.FileCalls.{Whereabouts, free, at_node, find_path, create_at, create_directory, create_file, delete_file, drop_at, make_at, move_at, move_file, remove_directory, set_end, write_file}
use Rattle.ktm_world.specs.FileOutcome.{FileOutcome}
use Rattle.ktm_world.specs.Files.{FilesNow, OpenFile, tree_seen}
use Rattle.ktm_world.specs.Labels.{file_named, manager_named, transaction_named}
use Rattle.ktm_world.specs.Outcome.{Outcome, apply, only_reply, refuse_or}
use Rattle.ktm_world.specs.Present.{Present}
use Rattle.ktm_world.specs.TransactionCalls.{create_enlistment, create_transaction, enlist}
use Rattle.ktm_core.specs.Recording.{is_refusal}

-- ---- what such a command answers that is not refused

bound : (process : Pid) (label : Label) (opened : Option OpenFile) (o : Outcome) → (bound_file process label opened o).reply ≡ o.reply
bound process label None o = refl
bound process label (Some file) o = refl

created : (files : FilesNow) (who : Option Id) (there : Whereabouts) (access : Access) (share : ShareMode) (disposition : Disposition) → (create_at files who there access share disposition).reply ≡ Done
created files who (free directory name) access share disposition = refl
created files who (at_node node) access share disposition = refl
created files who _ access share disposition = refl

opened : (x : Present) (process : Pid) (label : Label) (who : Option Id) (path : List ℕ) (access : Access) (share : ShareMode) (disposition : Disposition)
    → (opening x process label who (create_file x.files who path access share disposition)).reply ≡ Done
unfolding create_file
opened x process label who path access share disposition =
    let there = find_path (tree_seen x.files who) path in
    bound process label (create_at x.files who there access share disposition).opened _ ∙ created x.files who there access share disposition

on_open : (x : Present) (o : Option OpenFile) (call : OpenFile → FileOutcome) → ((p : OpenFile) → (call p).reply ≡ Done) → (on_file x o call).reply ≡ Done
on_open x None call says = refl
on_open x (Some o) call says = says o

written : (o : OpenFile) (offset : ℕ) (bytes : List ℕ) → (write_file o offset bytes).reply ≡ Done
unfolding write_file
written o offset [] = refl
written o offset (b ∷ bs) = refl

dropped : (there : Whereabouts) → (drop_at there).reply ≡ Done
dropped (at_node node) = refl
dropped _ = refl

made : (files : FilesNow) (there : Whereabouts) → (make_at files there).reply ≡ Done
made files (free directory name) = refl
made files _ = refl

moved : (from to : Whereabouts) → (move_at from to).reply ≡ Done
moved (at_node node) (free directory name) = refl
moved _ _ = refl

enlisted : (x : Present) (process : Pid) (label : Label) (m : Option Manager) (t : Option Transaction) (kind : EnlistmentKind) → is_refusal (enlist x process label m t kind).reply ≡ false
enlisted x process label None t kind = refl
enlisted x process label (Some m) None kind = refl
enlisted x process label (Some m) (Some t) kind = refl

done : (reply : Reply) → reply ≡ Done → is_refusal reply ≡ false
done reply says = ap is_refusal says

answered : (x : Present) (process : Pid) (command : Command) → may_owe_more command ≡ true → is_refusal (command_effect x process command).reply ≡ false
unfolding create_transaction create_enlistment set_end delete_file create_directory remove_directory move_file
answered x process (CreateTransaction label timeout) owes = refl
answered x process (CreateEnlistment label manager transaction kind) owes = enlisted x process label (manager_named x process manager) (transaction_named x process transaction) kind
answered x process (CreateFileTransacted label path access share disposition transaction) owes = done _ (opened x process label (caller x process transaction) path access share disposition)
answered x process (WriteFile file offset bytes) owes = done _ (on_open x (file_named x process file) (λ o. write_file o offset bytes) (λ o. written o offset bytes))
answered x process (SetEndOfFile file size) owes = done _ (on_open x (file_named x process file) (λ o. set_end o size) (λ o. refl))
answered x process (WriteUnits file start contents) owes = done _ (on_open x (file_named x process file) (λ o. write_file o start contents) (λ o. written o start contents))
answered x process (DeleteFileTransacted path transaction) owes = done _ (dropped (find_path (tree_seen x.files (caller x process transaction)) path))
answered x process (CreateDirectoryTransacted path transaction) owes = done _ (made x.files (find_path (tree_seen x.files (caller x process transaction)) path))
answered x process (RemoveDirectoryTransacted path transaction) owes = done _ (dropped (find_path (tree_seen x.files (caller x process transaction)) path))
answered x process (MoveFileTransacted source target transaction) owes =
    let seen = tree_seen x.files (caller x process transaction) in
    done _ (moved (find_path seen source) (find_path seen target))
answered x process (KvSet transaction key value) owes = refl
answered x process (KvUnset transaction key) owes = refl
answered x process command owes = absurd (cc)

-- ---- one that is refused

replied : (x : Present) (reply : Reply) → debts (apply x (only_reply x reply)) ≡ debts x
unfolding debts
replied x reply = refl

-- either it is refused, or it does what it does
pub refused_owes : (x : Present) (process : Pid) (command : Command) → may_owe_more command ≡ true → is_refusal (decide x process command).reply ≡ true → debts (apply x (decide x process command)) ≡ debts x
refused_owes x process command owes = by (refusal_of x process command)
  where
    by : (tested : Option Refusal) → is_refusal (refuse_or x tested (command_effect x process command)).reply ≡ true → debts (apply x (refuse_or x tested (command_effect x process command))) ≡ debts x
    by (Some refusal) refused = replied x (Refused refusal)
    by None refused = absurd (let none = answered x process command owes in cc)

-- ---- what may owe more completes nothing

pub owes_apart : (command : Command) → may_owe_more command ≡ true → completes command ≡ false
owes_apart (CreateTransaction label timeout) owes = refl
owes_apart (CreateEnlistment label manager transaction kind) owes = refl
owes_apart (CreateFileTransacted label path access share disposition transaction) owes = refl
owes_apart (WriteFile file offset bytes) owes = refl
owes_apart (SetEndOfFile file size) owes = refl
owes_apart (WriteUnits file start contents) owes = refl
owes_apart (DeleteFileTransacted path transaction) owes = refl
owes_apart (CreateDirectoryTransacted path transaction) owes = refl
owes_apart (RemoveDirectoryTransacted path transaction) owes = refl
owes_apart (MoveFileTransacted source target transaction) owes = refl
owes_apart (KvSet transaction key value) owes = refl
owes_apart (KvUnset transaction key) owes = refl
owes_apart command owes = absurd (cc)
