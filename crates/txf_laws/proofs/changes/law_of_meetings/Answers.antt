use Rattle.txf_laws.proofs.offered.Holds.{meeting_law}
use Rattle.txf_laws.proofs.changes.law_of_meetings.Goals as goal

pub returns : goal.returns
returns c = meeting_law
