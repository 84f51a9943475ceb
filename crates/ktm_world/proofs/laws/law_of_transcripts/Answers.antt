use Rattle.ktm_world.proofs.Transcripts.{transcript_law}
use Rattle.ktm_world.proofs.laws.law_of_transcripts.Goals as goal

pub returns : goal.returns
returns c = transcript_law
