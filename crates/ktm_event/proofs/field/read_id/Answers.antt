use Rattle.std.proofs.Common.{inl, inr}
use Rattle.ktm_base.specs.Grammar.{IsU32}
use Rattle.ktm_codec.proofs.Forms.{unambiguous_u32}
use Rattle.ktm_event.proofs.Readings.{no_first, after, no_id, id_zero, id_read}
use Rattle.ktm_event.proofs.field.read_id.Goals as goal

pub returns-in_err-boot : goal.returns-in_err-boot
returns-in_err-boot c = rw c.from_residual.ensures (no_id (no_first IsU32 (record { none = c.in_err-boot.ensures }))).none

pub returns-in_err-number : goal.returns-in_err-number
returns-in_err-number c =
    rw c.from_residual-in_err-number.ensures (no_id (after unambiguous_u32 c.in_ok-boot.ensures (record { none = c.in_err-number.ensures }))).none

pub returns-then-boot-lt-FIRST : goal.returns-then-boot-lt-FIRST
returns-then-boot-lt-FIRST c =
    id_zero c.in_ok-boot.ensures c.in_ok-number.ensures (elim c.then-boot-lt-FIRST.either [ inl boot ↦ inl boot | inr later ↦ inr later.1 ])

pub returns : goal.returns
returns c = id_read c.in_ok-boot.ensures c.in_ok-number.ensures c.if-boot-lt-FIRST.false c.if-number-lt-FIRST.false
