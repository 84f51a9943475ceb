use Rattle.std.proofs.Common.{ap, sym, ◌∙◌}
use Rattle.ktm_keyed.proofs.Slots.{absent, behind_last, found}
use Rattle.ktm_keyed.specs.Keyed.{comes_before}
use Rattle.ktm_keyed.proofs.keyed.slot_of.Goals as goal

pub returns-then-is_before : goal.returns-then-is_before
returns-then-is_before g c =
    behind_last _ _ c.in-Some.last.now c.requires (sym c.in-Some.ensures.value) (ap (λ k. comes_before k c.args.key.now) (sym c.as_slice.ensures) ∙ sym c.is_before.ensures ∙ c.if-is_before.true)

pub returns-in-Ok : goal.returns-in-Ok
returns-in-Ok g c = found _ _ _ c.requires c.in-Ok.ensures.bound c.in-Ok.ensures.position

pub returns-in-Err : goal.returns-in-Err
returns-in-Err g c = absent _ _ _ c.requires c.in-Err.ensures.bound c.in-Err.ensures.position
