use Rattle.std.proofs.Common.{sym, ◌∙◌}
use Rattle.std.proofs.lemmas.Bool.{true≢false}
use Rattle.ktm_base.specs.Grammar.{IsValueOf}
use Rattle.ktm_codec.proofs.Forms.{unambiguous_text}
use Rattle.ktm_event.proofs.Readings.{no_first, after}
use Rattle.ktm_snapshot.proofs.Fields.{no_entry, key_other, entry_read}
use Rattle.ktm_snapshot.proofs.entry.entry_at.Goals as goal

pub returns-in_err-key : goal.returns-in_err-key
returns-in_err-key c = rw c.from_residual.ensures (no_entry (no_first IsValueOf (record { none = c.in_err-key.ensures })))

pub returns-in_err-value : goal.returns-in_err-value
returns-in_err-value c = rw c.from_residual-in_err-value.ensures (no_entry (after unambiguous_text c.in_ok-key.ensures (record { none = c.in_err-value.ensures })))

pub returns-then-not-is_text : goal.returns-then-not-is_text
returns-then-not-is_text c =
    key_other c.in_ok-key.ensures c.in_ok-value.ensures (λ text. true≢false (sym (c.is_text.ensures.1 text) ∙ c.if-not-is_text.true))

pub returns : goal.returns
returns c = entry_read c.in_ok-key.ensures c.in_ok-value.ensures (c.is_text.ensures.0 c.if-not-is_text.false)
