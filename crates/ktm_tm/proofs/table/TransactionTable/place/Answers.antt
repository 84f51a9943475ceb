use Rattle.std.proofs.Common.{◌≡◌, ◌-◌, ◌≤◌, ℕ, ap, arith, length, nat_le, sym, ◌∙◌}
use Rattle.std.proofs.lemmas.Bool.{and_parts, leb-true}
use Rattle.ktm_tm.specs.Listed.{is_number}
use Rattle.ktm_tm.specs.Table.{TableState, all_of}
use Rattle.ktm_tm.proofs.Kept.{as_many}
use Rattle.ktm_tm.proofs.Numbers.{absent_of, back_matched, back_rising, place_of}
use Rattle.ktm_tm.proofs.table.TransactionTable.place.Goals as goal

pub place_in-requires : goal.place_in-requires
place_in-requires c = rw c.deref.ensures.value (back_rising _ c.self.inside.boot c.self.inside.back.items c.self.invariant.0.listed.split c.self.invariant.0.listed.rising)

pub returns-then-id-self : goal.returns-then-id-self
returns-then-id-self c = rw (← c.self.view_is) (back_matched _ c.self.inside.boot c.self.inside.back.items c.args.id c.place_in.result c.self.invariant.0.listed c.if-id-self.true (rw c.deref.ensures.value at c.place_in.ensures))

pub returns-then-is_number : goal.returns-then-is_number
returns-then-is_number c =
    let ts = all_of c.self.inside.boot c.self.inside.back.items c.self.inside.endings.items c.self.inside.live.items in
    let many = as_many c.self.inside.endings.items ts c.self.invariant.0.endings_are in
    let count : length ts - length c.self.inside.back.items ≡ c.made.result = ap (λ (n : ℕ). n - length c.self.inside.back.items) (sym many) ∙ ap (λ (s : TableState). s.made) c.self.view_is ∙ sym c.made.ensures in
    let given = ap (λ (n : ℕ). is_number n c.args.id.number) count ∙ sym c.is_number.ensures ∙ c.if-is_number.true in
    let least : 1 ≤ c.args.id.number = leb-true _ _ (and_parts (nat_le 1 c.args.id.number) (nat_le c.args.id.number (length ts - length c.self.inside.back.items)) given).0 in
    rw (← c.self.view_is) (place_of ts c.self.inside.boot c.self.inside.back.items c.args.id _ c.self.invariant.0.listed c.if-id-self.false given (omega (arith, least, c.len.ensures)))

pub returns-else-is_number : goal.returns-else-is_number
returns-else-is_number c =
    let ts = all_of c.self.inside.boot c.self.inside.back.items c.self.inside.endings.items c.self.inside.live.items in
    let many = as_many c.self.inside.endings.items ts c.self.invariant.0.endings_are in
    let count : length ts - length c.self.inside.back.items ≡ c.made.result = ap (λ (n : ℕ). n - length c.self.inside.back.items) (sym many) ∙ ap (λ (s : TableState). s.made) c.self.view_is ∙ sym c.made.ensures in
    rw (← c.self.view_is) (absent_of ts c.self.inside.boot c.self.inside.back.items c.args.id c.self.invariant.0.listed c.if-id-self.false (ap (λ (n : ℕ). is_number n c.args.id.number) count ∙ sym c.is_number.ensures ∙ c.if-is_number.false))
