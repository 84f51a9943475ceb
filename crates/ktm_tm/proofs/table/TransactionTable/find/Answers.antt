use Rattle.std.proofs.Common.{arith, subst, sym}
use Rattle.ktm_tm.specs.Listed.{IsPlace}
use Rattle.ktm_tm.specs.Table.{TableState, all_of}
use Rattle.ktm_tm.proofs.Kept.{as_many, kept_rising, one_found}
use Rattle.ktm_tm.proofs.table.TransactionTable.find.Goals as goal

pub index-requires : goal.index-requires
index-requires c =
    let ts = all_of c.self.inside.boot c.self.inside.back.items c.self.inside.endings.items c.self.inside.live.items in
    let place : IsPlace ts c.args.id c.in-Some.place = subst (λ (s : TableState). IsPlace s.items c.args.id c.in-Some.place) (sym c.self.view_is) c.in-Some.ensures in
    omega (arith, place.within, as_many c.self.inside.endings.items ts c.self.invariant.0.endings_are)

pub one_of-requires : goal.one_of-requires
one_of-requires c = rw c.deref.ensures.value (kept_rising _ _ _ _ _ c.self.invariant.0)

pub returns-in-Some : goal.returns-in-Some
returns-in-Some c =
    let ts = all_of c.self.inside.boot c.self.inside.back.items c.self.inside.endings.items c.self.inside.live.items in
    let place : IsPlace ts c.args.id c.in-Some.place = subst (λ (s : TableState). IsPlace s.items c.args.id c.in-Some.place) (sym c.self.view_is) c.in-Some.ensures in
    rw (← c.self.view_is, c.one_of.ensures, c.deref.ensures.value) (one_found _ _ _ _ ts c.args.id c.in-Some.place c.index.result.now c.self.invariant.0 place c.index.ensures)
