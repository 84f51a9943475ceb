use Rattle.std.proofs.Common.{◌≡◌, ◌≤◌, ◌-◌, [], ◌∷◌, ◌++◌, ap, arith, length, length-append, sym, ◌∙◌}
use Rattle.ktm_tm.specs.Table.{IsTable, TableState, all_of}
use Rattle.ktm_tm.proofs.Kept.{all_are, as_many, as_seen, shown, table_back}
use Rattle.ktm_tm.proofs.table.TransactionTable.bring_back.Goals as goal

-- none of this boot was made
none_made : (c : goal.After-self-1) → length c.self.inside.endings.items ≡ length c.self.inside.back.items
none_made c = omega (arith, c.requires.first, ap (λ (s : TableState). s.made) c.self.view_is, as_many c.self.inside.endings.items _ c.self.invariant.0.endings_are, c.self.invariant.0.listed.within)

table : (c : goal.After-self-1) → IsTable c.self.inside.boot (c.self.inside.back.items ++ c.args.t.id ∷ []) (c.self.inside.endings.items ++ c.ending_of.result ∷ []) (c.self.inside.live.items ++ c.args.t ∷ [])
    (all_of c.self.inside.boot c.self.inside.back.items c.self.inside.endings.items c.self.inside.live.items ++ c.args.t ∷ [])
table c =
    let many = as_many c.self.inside.endings.items _ c.self.invariant.0.endings_are in
    table_back c.self.inside.boot c.self.inside.back.items c.self.inside.endings.items c.self.inside.live.items _ c.ending_of.result c.args.t c.self.invariant.0 (sym many ∙ none_made c)
    (omega (arith, c.requires.earlier, ap (λ (s : TableState). s.boot) c.self.view_is)) (rw (← c.self.view_is) at c.requires.behind) c.requires.live

pub invariant_of-self : goal.invariant_of-self
invariant_of-self c =
    let room : 1 ≤ c.self.inside.room = omega (arith, c.requires.room, ap (λ (s : TableState). s.room) c.self.view_is) in
    rw (c.push_reserved.ensures.items, c.push_reserved-2.ensures.items, c.push_reserved-3.ensures.items)
    ((
      shown _ _ _ _ _ (table c),
      omega (arith, room, c.self.invariant.1, c.push_reserved.ensures.len, c.push_reserved.ensures.capacity),
      omega (arith, room, c.self.invariant.2, c.push_reserved-2.ensures.len, c.push_reserved-2.ensures.capacity),
      omega (arith, room, c.self.invariant.3, c.push_reserved-3.ensures.len, c.push_reserved-3.ensures.capacity),
      omega (arith, room, c.self.invariant.4, c.push_reserved-2.ensures.len),
    ))

pub returns-clause-rising : goal.returns-clause-rising
returns-clause-rising c = rw (← c.self.view_is) (table c).listed.rising

pub returns-clause-now : goal.returns-clause-now
returns-clause-now c =
    let made : length (c.self.inside.endings.items ++ c.ending_of.result ∷ []) - length (c.self.inside.back.items ++ c.args.t.id ∷ []) ≡ length c.self.inside.endings.items - length c.self.inside.back.items =
    omega (arith, length-append c.self.inside.endings.items (c.ending_of.result ∷ []), length-append c.self.inside.back.items (c.args.t.id ∷ [])) in
    rw (← c.self.view_is, c.push_reserved.ensures.items, c.push_reserved-2.ensures.items, c.push_reserved-3.ensures.items) (as_seen c.self.inside.boot (c.self.inside.room - 1) _ _ _ _ made (all_are _ _ _ _ _ (table c)))
