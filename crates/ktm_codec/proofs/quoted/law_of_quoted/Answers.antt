use Rattle.ktm_codec.proofs.QuotedLemmas.{quoted_is, quoted_again}
use Rattle.ktm_codec.proofs.quoted.law_of_quoted.Goals as goal

pub returns : goal.returns
returns c = record { found = quoted_is; every = quoted_again }
