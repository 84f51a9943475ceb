use Rattle.std.proofs.Common.{◌-◌, ℕ, ap, arith, length, length-set, refl, set, subst, sym, ◌∙◌}
use Rattle.ktm_world.specs.Transactions.{change_at}
use Rattle.ktm_tm.specs.Listed.{IsPlace}
use Rattle.ktm_tm.specs.Table.{IsTable, TableState, all_of}
use Rattle.ktm_tm.proofs.Kept.{all_are, as_many, as_seen, kept_rising, not_there, shown, table_live, table_over}
use Rattle.ktm_tm.proofs.table.TransactionTable.arrive.Goals as goal

pub place_among-requires : goal.place_among-requires
place_among-requires c = rw c.deref.ensures.value (kept_rising _ _ _ _ _ c.self.invariant.0)

pub returns-in_default-place_among : goal.returns-in_default-place_among
returns-in_default-place_among c = absurd (not_there _ _ _ _ _ c.args.t.id c.self.invariant.0 (rw c.deref.ensures.value at c.in_default-place_among.ensures.place) (rw (← c.self.view_is) at c.requires.there))

-- where it has not ended
live : (c : goal.After-self-1) → IsTable c.self.inside.boot c.self.inside.back.items c.self.inside.endings.items (set c.self.inside.live.items c.in-Some-place_among.at c.args.t)
    (change_at (all_of c.self.inside.boot c.self.inside.back.items c.self.inside.endings.items c.self.inside.live.items) c.args.t.id (λ other. c.args.t))
live c =
    let ts = all_of c.self.inside.boot c.self.inside.back.items c.self.inside.endings.items c.self.inside.live.items in
    let place : IsPlace ts c.args.t.id c.in-Some.place = subst (λ (s : TableState). IsPlace s.items c.args.t.id c.in-Some.place) (sym c.self.view_is) c.in-Some.ensures in
    table_live _ _ _ _ ts c.args.t c.in-Some.place c.in-Some-place_among.at c.self.invariant.0 place (rw c.deref.ensures.value at c.in-Some-place_among.ensures.place) (sym c.is_live.ensures ∙ c.if-is_live.true)

pub invariant_of-self : goal.invariant_of-self
invariant_of-self c = (shown _ _ _ _ _ (live c), c.self.invariant.1, c.self.invariant.2, c.self.invariant.3, c.self.invariant.4)

pub returns-then-is_live : goal.returns-then-is_live
returns-then-is_live c = rw (← c.self.view_is) (as_seen c.self.inside.boot c.self.inside.room _ _ _ _ refl (all_are _ _ _ _ _ (live c)))

pub index_mut-requires-else-is_live : goal.index_mut-requires-else-is_live
index_mut-requires-else-is_live c =
    let ts = all_of c.self.inside.boot c.self.inside.back.items c.self.inside.endings.items c.self.inside.live.items in
    let place : IsPlace ts c.args.t.id c.in-Some.place = subst (λ (s : TableState). IsPlace s.items c.args.t.id c.in-Some.place) (sym c.self.view_is) c.in-Some.ensures in
    omega (arith, place.within, as_many c.self.inside.endings.items ts c.self.invariant.0.endings_are)

-- where it has ended
over : (c : goal.After-self-else-is_live-1) → IsTable c.self.inside.boot c.self.inside.back.items (set c.self.inside.endings.items c.in-Some.place c.ending_of.result) c.remove.new.self.items
    (change_at (all_of c.self.inside.boot c.self.inside.back.items c.self.inside.endings.items c.self.inside.live.items) c.args.t.id (λ other. c.args.t))
over c =
    let ts = all_of c.self.inside.boot c.self.inside.back.items c.self.inside.endings.items c.self.inside.live.items in
    let place : IsPlace ts c.args.t.id c.in-Some.place = subst (λ (s : TableState). IsPlace s.items c.args.t.id c.in-Some.place) (sym c.self.view_is) c.in-Some.ensures in
    rw (c.ending_of.ensures, c.remove.ensures.items)
    (table_over _ _ _ _ ts c.args.t c.in-Some.place c.in-Some-place_among.at c.self.invariant.0 place (rw c.deref.ensures.value at c.in-Some-place_among.ensures.place) c.requires.forgotten (sym c.is_live.ensures ∙ c.if-is_live.false))

pub invariant_of-self-else-is_live : goal.invariant_of-self-else-is_live
invariant_of-self-else-is_live c = (
  shown _ _ _ _ _ (over c),
  c.self.invariant.1,
  c.self.invariant.2,
  omega (arith, c.self.invariant.3, c.remove.ensures.len, c.remove.ensures.capacity),
  c.self.invariant.4,
)

pub returns-else-is_live : goal.returns-else-is_live
returns-else-is_live c =
    let made = ap (λ (n : ℕ). n - length c.self.inside.back.items) (length-set c.self.inside.endings.items c.in-Some.place c.ending_of.result) in
    rw (← c.self.view_is) (as_seen c.self.inside.boot c.self.inside.room _ _ _ _ made (all_are _ _ _ _ _ (over c)))
