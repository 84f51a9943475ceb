use Rattle.std.proofs.Common.{sym}
use Rattle.ktm_pages.proofs.Numbered.{without-same}
use Rattle.ktm_pages.proofs.Slots.{kept-away}
use Rattle.ktm_pages.proofs.Moves.{demoted-kept, demoted-slots, held, held-found}
use Rattle.ktm_pages.proofs.cache.Cache.forget.Goals as goal

pub returns-in_default : goal.returns-in_default
returns-in_default c = rw (← c.self.view_is) (sym (without-same c.args.page _ (kept-away c.args.page c.self.inside.bytes.items c.self.inside.slots.entries (sym c.in_default.ensures))))

pub unwrap-requires : goal.unwrap-requires
unwrap-requires c =
    let hit = held c.args.page c.in-Some.slot c.self.inside.bytes.items c.self.inside.slots c.self.invariant (sym c.in-Some.ensures) in
    c.put.ensures.succeeds (held-found c.args.page c.in-Some.slot c.self.inside.bytes.items c.self.inside.slots c.self.invariant hit)

pub invariant_of-self : goal.invariant_of-self
invariant_of-self c =
    let hit = held c.args.page c.in-Some.slot c.self.inside.bytes.items c.self.inside.slots c.self.invariant (sym c.in-Some.ensures) in
    let put = rw c.unwrap.ensures at c.put.ensures.entries in
    rw (c.demote.ensures.entries, put) (demoted-slots c.args.page c.in-Some.slot c.self.inside.bytes.items c.self.inside.slots c.self.invariant hit)

pub returns : goal.returns
returns c =
    let hit = held c.args.page c.in-Some.slot c.self.inside.bytes.items c.self.inside.slots c.self.invariant (sym c.in-Some.ensures) in
    let put = rw c.unwrap.ensures at c.put.ensures.entries in
    rw (← c.self.view_is, c.demote.ensures.entries, put) (demoted-kept c.args.page c.in-Some.slot c.self.inside.bytes.items c.self.inside.slots c.self.invariant hit)
