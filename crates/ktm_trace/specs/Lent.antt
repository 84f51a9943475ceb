-- Transactions of the log and their parts that are lent.
use Rattle.ktm_trace.specs.declared.parts.PartRef.{PartRef}
use Rattle.ktm_trace.specs.declared.transactions.TransactionRef.{TransactionRef}
use Rattle.ktm_trace.specs.Traces.{Traced, TracedPart}

-- the part that is lent
abbrev pub part_lent : PartRef → TracedPart
part_lent p = record { is_done = p.is_done; who = p.who }

-- the transaction that is lent
abbrev pub transaction_lent : TransactionRef → Traced
transaction_lent t = record { id = t.id; stage = t.stage; superior = t.superior; parts = t.parts }
