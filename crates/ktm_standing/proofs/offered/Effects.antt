-- What calls on files come to, and the law of what outcomes make of what is so now.
use Rattle.std.proofs.Common.{◌≡◌, [], ◌++◌, map, Option, Some, None, sym, ap, add-zero}
use Rattle.ktm_base.specs.declared.id.Id.{Id}
use Rattle.ktm_base.specs.declared.id.Label.{Label}
use Rattle.ktm_base.specs.declared.id.Pid.{Pid}
use Rattle.ktm_world.specs.declared.change.Change.{Change}
use Rattle.ktm_world.specs.declared.object.Object.TheVariants.{File as FileObject}
use Rattle.ktm_world.specs.Decide.{of_files, opening}
use Rattle.ktm_world.specs.FileOutcome.{FileOutcome, files_after, openings_of}
use Rattle.ktm_world.specs.Files.{OpenFile, committed_files, first_open}
use Rattle.ktm_world.specs.Labels.{with_handle}
use Rattle.ktm_world.specs.Outcome.{apply}
use Rattle.ktm_world.specs.Present.{Present}
use Rattle.txf_laws.proofs.offered.Elements.{filter-true}
use Rattle.ktm_standing.specs.Effects.{with_files, with_opened}
use Rattle.ktm_standing.specs.Laws.{EffectsLaw}
use Rattle.ktm_standing.proofs.offered.Applied.{apply-joined, apply-silent, served-none}

files_by : (x : Present) (who : Option Id) (change : Option Change) (o : FileOutcome) → (let made : FileOutcome = record o { change = change } in apply x (of_files x who made) ≡ with_files x who made)
files_by x None (Some c) o i =
    let made : FileOutcome = record o { change = Some c } in
    record (with_files x None made) {
      managers = served-none x.managers i;
      files = record (files_after x.files None made) { first_opens = filter-true (x.files.first_opens ++ []) i };
    }
files_by x None None o i =
    let made : FileOutcome = record o { change = None } in
    record (with_files x None made) {
      recorded = record x.recorded { events = sym (add-zero x.recorded.events) i };
      managers = served-none x.managers i;
      files = record (files_after x.files None made) { first_opens = filter-true (x.files.first_opens ++ []) i };
    }
files_by x (Some id) change o i =
    let made : FileOutcome = record o { change = change } in
    record (with_files x (Some id) made) {
      recorded = record x.recorded { events = sym (add-zero x.recorded.events) i };
      managers = served-none x.managers i;
      files = record (files_after x.files (Some id) made) { first_opens = filter-true (x.files.first_opens ++ map (first_open (committed_files x.files [])) (openings_of (Some id) o.first)) i };
    }

apply-files : (x : Present) (who : Option Id) (o : FileOutcome) → apply x (of_files x who o) ≡ with_files x who o
apply-files x who o = files_by x who o.change o

apply-opening : (x : Present) (process : Pid) (label : Label) (who : Option Id) (o : FileOutcome) → apply x (opening x process label who o) ≡ with_opened x process label who o
apply-opening x process label who o = go o.opened
  where
    go : (opened : Option OpenFile) → (let o' : FileOutcome = record o { opened = opened } in apply x (opening x process label who o') ≡ with_opened x process label who o')
    go None = apply-files x who (record o { opened = None })
    go (Some file) = ap (λ (y : Present). record y { handles = with_handle x.handles process label (FileObject file.number) }) (apply-files x who (record o { opened = Some file }))

pub effects_law : EffectsLaw
effects_law = record { silent = apply-silent; files = apply-files; opens = apply-opening; joined = apply-joined }
