use Rattle.std.proofs.Common.{◌<◌, ◌≡◌, [], length, arith, ◌∙◌, ap, List, Option, ℕ, set, Some, length-set}
use Rattle.ktm_store.specs.Store.{PoolState}
use Rattle.ktm_store.proofs.Letting.{filled-whole, let-in, somewhere-in}
use Rattle.ktm_store.proofs.store.Store.keep.Goals as goal

pub put-requires-clause-below : goal.put-requires-clause-below
put-requires-clause-below c =
    let held : c.args.page < length c.self.inside.marks.held = rw (← c.self.view_is) at c.requires.below in
    omega (arith, held, c.in_ok-reserve.ensures.long, c.self.invariant.0)

pub invariant_of-self-2 : goal.invariant_of-self-2
invariant_of-self-2 c =
    let old : PoolState = record { seen = c.self.inside.frames.kept; marks = c.self.inside.marks; stored = c.self.inside.stored.stored; wanted = c.self.inside.stored.wanted } in
    let mid = c.reserve.new.self.kept in
    let held : c.args.page < length c.self.inside.marks.held = rw (← c.self.view_is) at c.requires.below in
    let low : c.args.page < length mid = omega (arith, held, c.in_ok-reserve.ensures.long, c.self.invariant.0) in
    let went = rw c.all.ensures at c.in_ok-reserve.ensures.went in
    let none : old.wanted ≡ [] = rw (← c.self.view_is) at c.requires.none in
    let is : c.put.new.self.kept ≡ set mid c.args.page (Some c.args.bytes.now) = c.put.ensures.kept ∙ ap (λ (l : List ℕ). set mid c.args.page (Some l)) (filled-whole c.args.bytes.now c.requires.whole) in (
      ap (λ (l : List (Option (List ℕ))). length l) is ∙ length-set mid c.args.page (Some c.args.bytes.now) ∙ c.in_ok-reserve.ensures.long ∙ c.self.invariant.0,
      c.self.invariant.1,
      somewhere-in old mid went c.args.page c.args.bytes.now c.put.new.self.kept low is none c.self.invariant.2,
    )

pub returns-clause-ok : goal.returns-clause-ok
returns-clause-ok c =
    let old : PoolState = record { seen = c.self.inside.frames.kept; marks = c.self.inside.marks; stored = c.self.inside.stored.stored; wanted = c.self.inside.stored.wanted } in
    let mid = c.reserve.new.self.kept in
    let held : c.args.page < length c.self.inside.marks.held = rw (← c.self.view_is) at c.requires.below in
    let low : c.args.page < length mid = omega (arith, held, c.in_ok-reserve.ensures.long, c.self.invariant.0) in
    let went = rw c.all.ensures at c.in_ok-reserve.ensures.went in
    let is : c.put.new.self.kept ≡ set mid c.args.page (Some c.args.bytes.now) = c.put.ensures.kept ∙ ap (λ (l : List ℕ). set mid c.args.page (Some l)) (filled-whole c.args.bytes.now c.requires.whole) in
    rw (← c.self.view_is) (let-in old mid went c.args.page c.args.bytes.now c.put.new.self.kept low is)
