use Rattle.std.proofs.Common.{◌≡◌, ◌≤◌, ◌+◌, ◌-◌, ℕ, [], ◌∷◌, ◌++◌, ap, arith, length, length-append, sym, ◌∙◌}
use Rattle.ktm_tm.specs.Table.{IsTable, TableState, all_of}
use Rattle.ktm_tm.specs.TmState.{id_after}
use Rattle.ktm_tm.proofs.Kept.{all_are, as_many, as_seen, shown, table_new}
use Rattle.ktm_tm.proofs.table.TransactionTable.add.Goals as goal

table : (c : goal.After-self-1) → IsTable c.self.inside.boot c.self.inside.back.items (c.self.inside.endings.items ++ c.ending_of.result ∷ []) (c.self.inside.live.items ++ c.args.t ∷ [])
    (all_of c.self.inside.boot c.self.inside.back.items c.self.inside.endings.items c.self.inside.live.items ++ c.args.t ∷ [])
table c =
    let many = as_many c.self.inside.endings.items _ c.self.invariant.0.endings_are in
    table_new c.self.inside.boot c.self.inside.back.items c.self.inside.endings.items c.self.inside.live.items _ c.ending_of.result c.args.t c.self.invariant.0
    (c.requires.next ∙ ap (λ (s : TableState). id_after s.boot s.made) (sym c.self.view_is) ∙ ap (λ (n : ℕ). record { boot = c.self.inside.boot; number = n - length c.self.inside.back.items + 1 }) many)
    c.requires.live

pub invariant_of-self : goal.invariant_of-self
invariant_of-self c =
    let room : 1 ≤ c.self.inside.room = omega (arith, c.requires.room, ap (λ (s : TableState). s.room) c.self.view_is) in
    rw (c.push_reserved.ensures.items, c.push_reserved-2.ensures.items)
    ((
      shown _ _ _ _ _ (table c),
      omega (arith, c.self.invariant.1),
      omega (arith, room, c.self.invariant.2, c.push_reserved.ensures.len, c.push_reserved.ensures.capacity),
      omega (arith, room, c.self.invariant.3, c.push_reserved-2.ensures.len, c.push_reserved-2.ensures.capacity),
      omega (arith, room, c.self.invariant.4, c.push_reserved.ensures.len),
    ))

pub returns-clause-rising : goal.returns-clause-rising
returns-clause-rising c = rw (← c.self.view_is) (table c).listed.rising

pub returns-clause-now : goal.returns-clause-now
returns-clause-now c =
    let many = as_many c.self.inside.endings.items _ c.self.invariant.0.endings_are in
    let made : length (c.self.inside.endings.items ++ c.ending_of.result ∷ []) - length c.self.inside.back.items ≡ length c.self.inside.endings.items - length c.self.inside.back.items + 1 =
    omega (arith, many, c.self.invariant.0.listed.within, length-append c.self.inside.endings.items (c.ending_of.result ∷ [])) in
    rw (← c.self.view_is, c.push_reserved.ensures.items, c.push_reserved-2.ensures.items) (as_seen c.self.inside.boot (c.self.inside.room - 1) _ _ _ _ made (all_are _ _ _ _ _ (table c)))
