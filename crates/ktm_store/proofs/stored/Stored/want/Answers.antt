use Rattle.std.proofs.Common.{◌≡◌, ◌<◌, false, length, arith}
use Rattle.ktm_store.specs.Stored.{StoredState, is_stored}
use Rattle.ktm_store.proofs.Wanted.{count-less, wanted-room}
use Rattle.ktm_store.proofs.stored.Stored.want.Goals as goal

pub overflow_sub-self : goal.overflow_sub-self
overflow_sub-self c =
    let state : StoredState = record { stored = c.self.inside.stored.items; wanted = c.self.inside.wanted.items } in
    let low : c.args.page < length state.stored = rw (← c.self.view_is) at c.requires in
    let was : is_stored state.stored c.args.page ≡ false = (let e = c.index.ensures in let f = c.if-index.false in cc) in
    omega (arith, count-less state c.args.page low was c.self.invariant.0, c.self.invariant.2)

pub unwrap-requires : goal.unwrap-requires
unwrap-requires c =
    let state : StoredState = record { stored = c.self.inside.stored.items; wanted = c.self.inside.wanted.items } in
    let low : c.args.page < length state.stored = rw (← c.self.view_is) at c.requires in
    let was : is_stored state.stored c.args.page ≡ false = (let e = c.index.ensures in let f = c.if-index.false in cc) in
    c.push.ensures.succeeds (omega (arith, wanted-room state c.args.page low was c.self.invariant.0, c.self.invariant.1))
