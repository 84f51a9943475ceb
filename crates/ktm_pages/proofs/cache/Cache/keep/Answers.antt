use Rattle.std.proofs.Common.{arith}
use Rattle.ktm_pages.proofs.Slots.{serves}
use Rattle.ktm_pages.proofs.Moves.{put-kept, put-slots, served-below, served-found}
use Rattle.ktm_pages.proofs.cache.Cache.keep.Goals as goal

pub index_mut-requires : goal.index_mut-requires
index_mut-requires c =
    let to = rw (← c.slot_for-slot.ensures) at (serves c.args.page c.self.inside.bytes.items c.self.inside.slots.entries c.self.invariant) in
    let below = served-below c.args.page c.slot_for-slot.result c.self.inside.bytes.items c.self.inside.slots c.self.invariant to in
    omega (arith, below)

pub unwrap-requires : goal.unwrap-requires
unwrap-requires c =
    let to = rw (← c.slot_for-slot.ensures) at (serves c.args.page c.self.inside.bytes.items c.self.inside.slots.entries c.self.invariant) in
    c.put.ensures.succeeds (served-found c.args.page c.slot_for-slot.result c.self.inside.bytes.items c.self.inside.slots c.self.invariant to)

pub invariant_of-self : goal.invariant_of-self
invariant_of-self c =
    let to = rw (← c.slot_for-slot.ensures) at (serves c.args.page c.self.inside.bytes.items c.self.inside.slots.entries c.self.invariant) in
    let put = rw c.unwrap.ensures at c.put.ensures.entries in
    rw put (put-slots c.args.page c.slot_for-slot.result c.self.inside.bytes.items c.self.inside.slots c.self.invariant to c.args.bytes.now)

pub returns : goal.returns
returns c =
    let to = rw (← c.slot_for-slot.ensures) at (serves c.args.page c.self.inside.bytes.items c.self.inside.slots.entries c.self.invariant) in
    let put = rw c.unwrap.ensures at c.put.ensures.entries in
    rw (← c.self.view_is, put) (put-kept c.args.page c.slot_for-slot.result c.self.inside.bytes.items c.self.inside.slots c.self.invariant to c.args.bytes.now)
