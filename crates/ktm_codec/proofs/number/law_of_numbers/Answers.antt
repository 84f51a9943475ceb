use Rattle.ktm_codec.proofs.NumberLemmas.{number_is, number_again, last_number_is, last_number_again}
use Rattle.ktm_codec.proofs.number.law_of_numbers.Goals as goal

pub returns : goal.returns
returns c = record { found = number_is; every = number_again; last_found = last_number_is; last_every = last_number_again }
