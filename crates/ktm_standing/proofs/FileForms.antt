-- What a command on files does is what its call comes to.
use Rattle.std.proofs.Common.{◌≡◌, Option, Some, None, refl, sym, ◌∙◌, ap, subst, inl, inr, ◌⊎◌}
use Rattle.std.proofs.lemmas.Option.{none-some, same_Some}
use Rattle.ktm_base.specs.declared.id.Id.{Id}
use Rattle.ktm_base.specs.declared.id.Label.{Label}
use Rattle.ktm_base.specs.declared.id.Pid.{Pid}
use Rattle.ktm_world.specs.declared.command.Command.{Command}
use Rattle.ktm_world.specs.declared.command.Command.TheVariants.{CreateFile, CreateFileTransacted, ReadFile, WriteFile, SetEndOfFile, WriteUnits, GetFileSizeEx, FlushFileBuffers, DeleteFile, CreateDirectory, RemoveDirectory, MoveFile, DeleteFileTransacted, CreateDirectoryTransacted, RemoveDirectoryTransacted, MoveFileTransacted, FindFiles, FindFilesTransacted}
use Rattle.ktm_world.specs.Decide.{caller, command_effect, decide, events_of, of_files, on_file, opening, refusal_of}
use Rattle.ktm_world.specs.FileCalls.{create_file, read_file, write_file, set_end, get_size, flush_file, delete_file, create_directory, remove_directory, move_file, find_files}
use Rattle.ktm_world.specs.FileOutcome.{FileOutcome, files_after}
use Rattle.ktm_world.specs.Files.{OpenFile}
use Rattle.ktm_world.specs.Labels.{file_named}
use Rattle.ktm_world.specs.Outcome.{Outcome, apply, refuse_or}
use Rattle.ktm_world.specs.Present.{Present}
use Rattle.ktm_records.specs.FileCallsMade.{file_call, in_caller, on_open}
use Rattle.ktm_standing.specs.Laws.{EffectsLaw}

-- the outcome is what the machine makes of a call on files, which may open a file under a label
abbrev pub IsOfFiles : Present → Pid → Outcome → Option Id → FileOutcome → Type 0
IsOfFiles x process e who o = (e ≡ of_files x who o) ⊎ ((label : Label) × (e ≡ opening x process label who o))

-- ---- which call a command makes

-- a call that is made in this transaction and comes to this
abbrev call_of : Option Id → FileOutcome → Option (Option Id × FileOutcome)
call_of who o = Some (who, o)

made : (x : Present) (process : Pid) (who' : Option Id) (o' : FileOutcome) (who : Option Id) (o : FileOutcome) → call_of who' o' ≡ call_of who o → IsOfFiles x process (of_files x who' o') who o
made x process who' o' who o is = inl (ap (λ (call : Option Id × FileOutcome). of_files x call.0 call.1) (same_Some _ _ is))

opens : (x : Present) (process : Pid) (label : Label) (who' : Option Id) (o' : FileOutcome) (who : Option Id) (o : FileOutcome) → call_of who' o' ≡ call_of who o
    → IsOfFiles x process (opening x process label who' o') who o
opens x process label who' o' who o is = inr (label, ap (λ (call : Option Id × FileOutcome). opening x process label call.0 call.1) (same_Some _ _ is))

made_open : (x : Present) (process : Pid) (named : Option OpenFile) (call : OpenFile → FileOutcome) (who : Option Id) (o : FileOutcome) → on_open named call ≡ Some (who, o)
    → IsOfFiles x process (on_file x named call) who o
made_open x process None call who o is = absurd (none-some _ is)
made_open x process (Some file) call who o is = made x process file.transaction (call file) who o is

made_by : (x : Present) (process : Pid) (by : Option Id) (call : Option Id → FileOutcome) (who : Option Id) (o : FileOutcome) → in_caller by call ≡ Some (who, o) → IsOfFiles x process (of_files x by (call by)) who o
made_by x process by call who o is = made x process by (call by) who o is

pub effect_made : (x : Present) (process : Pid) (command : Command) (who : Option Id) (o : FileOutcome) → file_call x process command ≡ Some (who, o) → IsOfFiles x process (command_effect x process command) who o
effect_made x process (CreateFile label path access share disposition) who o is = opens x process label None (create_file x.files None path access share disposition) who o is
effect_made x process (CreateFileTransacted label path access share disposition transaction) who o is =
    opens x process label (caller x process transaction) (create_file x.files (caller x process transaction) path access share disposition) who o is
effect_made x process (ReadFile file offset many) who o is = made_open x process (file_named x process file) (λ f. read_file x.files f offset many) who o is
effect_made x process (WriteFile file offset bytes) who o is = made_open x process (file_named x process file) (λ f. write_file f offset bytes) who o is
effect_made x process (SetEndOfFile file size) who o is = made_open x process (file_named x process file) (λ f. set_end f size) who o is
effect_made x process (WriteUnits file start contents) who o is = made_open x process (file_named x process file) (λ f. write_file f start contents) who o is
effect_made x process (GetFileSizeEx file) who o is = made_open x process (file_named x process file) (λ f. get_size x.files f) who o is
effect_made x process (FlushFileBuffers file) who o is = made_open x process (file_named x process file) (λ f. flush_file) who o is
effect_made x process (DeleteFile path) who o is = made x process None (delete_file x.files None path) who o is
effect_made x process (CreateDirectory path) who o is = made x process None (create_directory x.files None path) who o is
effect_made x process (RemoveDirectory path) who o is = made x process None (remove_directory x.files None path) who o is
effect_made x process (MoveFile source target) who o is = made x process None (move_file x.files None source target) who o is
effect_made x process (DeleteFileTransacted path transaction) who o is = made_by x process (caller x process transaction) (λ by. delete_file x.files by path) who o is
effect_made x process (CreateDirectoryTransacted path transaction) who o is = made_by x process (caller x process transaction) (λ by. create_directory x.files by path) who o is
effect_made x process (RemoveDirectoryTransacted path transaction) who o is = made_by x process (caller x process transaction) (λ by. remove_directory x.files by path) who o is
effect_made x process (MoveFileTransacted source target transaction) who o is = made_by x process (caller x process transaction) (λ by. move_file x.files by source target) who o is
effect_made x process (FindFiles searched) who o is = made x process None (find_files x.files None searched) who o is
effect_made x process (FindFilesTransacted searched transaction) who o is = made_by x process (caller x process transaction) (λ by. find_files x.files by searched) who o is
effect_made x process command who o is = absurd (none-some _ is)

-- a command that is not refused does what its call comes to
pub decided_made : (x : Present) (process : Pid) (command : Command) (who : Option Id) (o : FileOutcome) → refusal_of x process command ≡ None → file_call x process command ≡ Some (who, o)
    → IsOfFiles x process (decide x process command) who o
decided_made x process command who o none is =
    subst (λ refusal. IsOfFiles x process (refuse_or x refusal (command_effect x process command)) who o) (sym none) (effect_made x process command who o is)

-- ---- what it records, and what it leaves

opening_events : (x : Present) (process : Pid) (label : Label) (who : Option Id) (o : FileOutcome) → (opening x process label who o).events ≡ events_of who o.change
opening_events x process label who o = go o.opened
  where
    go : (file : Option OpenFile) → (opening x process label who (record o { opened = file })).events ≡ events_of who o.change
    go None = refl
    go (Some file) = refl

pub made_events : (x : Present) (process : Pid) (e : Outcome) (who : Option Id) (o : FileOutcome) → IsOfFiles x process e who o → e.events ≡ events_of who o.change
made_events x process e who o (inl is) = ap (λ (p : Outcome). p.events) is
made_events x process e who o (inr (label, is)) = ap (λ (p : Outcome). p.events) is ∙ opening_events x process label who o

pub made_files : EffectsLaw → (x : Present) (process : Pid) (e : Outcome) (who : Option Id) (o : FileOutcome) → IsOfFiles x process e who o → (apply x e).files ≡ files_after x.files who o
made_files law x process e who o (inl is) = ap (λ (p : Outcome). (apply x p).files) is ∙ ap (λ (y : Present). y.files) (law.files x who o)
made_files law x process e who o (inr (label, is)) = ap (λ (p : Outcome). (apply x p).files) is ∙ ap (λ (y : Present). y.files) (law.opens x process label who o)
