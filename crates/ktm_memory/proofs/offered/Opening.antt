-- What an outcome of files answers and records.
use Rattle.std.proofs.Common.{◌≡◌, Option, Some, None, refl}
use Rattle.ktm_base.specs.declared.id.Label.{Label}
use Rattle.ktm_base.specs.declared.id.Pid.{Pid}
use Rattle.ktm_base.specs.declared.id.Id.{Id}
use Rattle.ktm_world.specs.Decide.{events_of, opening}
use Rattle.ktm_world.specs.FileOutcome.{FileOutcome}
use Rattle.ktm_world.specs.Files.{OpenFile}
use Rattle.ktm_world.specs.Present.{Present}
use Rattle.ktm_memory.specs.Opening.{files_outcome}

pub reply_of : (x : Present) (process : Pid) (who : Option Id) (label : Option Label) (o : FileOutcome) → (files_outcome x process who label o).reply ≡ o.reply
reply_of x process who None o = refl
reply_of x process who (Some l) o = go o.opened
  where
    go : (opened : Option OpenFile) → (opening x process l who (record o { opened = opened })).reply ≡ o.reply
    go None = refl
    go (Some file) = refl

pub events_in : (x : Present) (process : Pid) (who : Option Id) (label : Option Label) (o : FileOutcome) → (files_outcome x process who label o).events ≡ events_of who o.change
events_in x process who None o = refl
events_in x process who (Some l) o = go o.opened
  where
    go : (opened : Option OpenFile) → (opening x process l who (record o { opened = opened })).events ≡ events_of who o.change
    go None = refl
    go (Some file) = refl
