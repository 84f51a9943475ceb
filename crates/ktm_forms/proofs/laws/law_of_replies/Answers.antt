use Rattle.ktm_forms.proofs.Replies.{replies_law, tick_law}
use Rattle.ktm_forms.proofs.laws.law_of_replies.Goals as goal

pub returns-clause-calls : goal.returns-clause-calls
returns-clause-calls c = replies_law

pub returns-clause-ticks : goal.returns-clause-ticks
returns-clause-ticks c = tick_law
