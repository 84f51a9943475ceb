use Rattle.ktm_records.proofs.Recordings.{recordings_law}
use Rattle.ktm_records.proofs.records.law_of_recordings.Goals as goal

pub returns : goal.returns
returns c = recordings_law
