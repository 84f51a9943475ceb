use Rattle.std.proofs.Common.{sym, ◌∙◌}
use Rattle.std.proofs.lemmas.Bool.{true≢false}
use Rattle.ktm_event.proofs.Readings.{key_other}
use Rattle.ktm_replayed.proofs.settings.key_in.Goals as goal

pub returns-then-not-is_text : goal.returns-then-not-is_text
returns-then-not-is_text c = key_other c.in_ok-key.ensures (λ text. true≢false (sym (c.is_text.ensures.1 text) ∙ c.if-not-is_text.true))
