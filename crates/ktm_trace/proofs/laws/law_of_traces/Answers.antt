use Rattle.ktm_trace.proofs.Tracing.{traces_law}
use Rattle.ktm_trace.proofs.laws.law_of_traces.Goals as goal

pub returns : goal.returns
returns c = traces_law
