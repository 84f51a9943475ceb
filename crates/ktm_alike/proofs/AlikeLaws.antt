-- What a command comes to does not depend on the bytes of files.
use Rattle.std.proofs.Common.{ℕ}
use Rattle.ktm_mapped.specs.Mapped.{IsBlank}
use Rattle.ktm_alike.specs.Laws.{CommandsAlike, PresentsAlike, AlikeLaw}
use Rattle.ktm_alike.proofs.Commands.{refusal_of-mapped, decide-mapped, decide_tick-mapped}
use Rattle.ktm_alike.proofs.Presents.{apply-mapped}
use Rattle.ktm_alike.proofs.Restarts.{opened-mapped}

commands_alike : (f : ℕ → ℕ) → IsBlank f → CommandsAlike f
commands_alike f blank = record {
  refused = refusal_of-mapped f blank;
  decided = decide-mapped f blank;
  ticked = decide_tick-mapped f blank;
}

presents_alike : (f : ℕ → ℕ) → IsBlank f → PresentsAlike f
presents_alike f blank = record {
  applied = apply-mapped f blank;
  -- a reply makes nothing of what is so
  answered = λ x c o. apply-mapped f blank x o;
  opens = opened-mapped f blank;
}

pub alike_law : AlikeLaw
alike_law f blank = (commands_alike f blank, presents_alike f blank)
