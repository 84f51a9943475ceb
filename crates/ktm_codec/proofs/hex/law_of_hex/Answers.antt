use Rattle.ktm_codec.proofs.HexLemmas.{unhex_or_dash_is, unhex_or_dash_again}
use Rattle.ktm_codec.proofs.hex.law_of_hex.Goals as goal

pub returns : goal.returns
returns c = record { found = unhex_or_dash_is; every = unhex_or_dash_again }
