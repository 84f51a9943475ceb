use Rattle.std.proofs.Common.{◌≡◌, [], get_or, sym, ◌∙◌, arith}
use Rattle.std.proofs.lemmas.List.{get_or_default}
use Rattle.ktm_pages.proofs.Numbered.{away-contains}
use Rattle.ktm_pages.proofs.Slots.{kept-away}
use Rattle.ktm_pages.proofs.Moves.{held, held-below, promoted-kept, promoted-slots}
use Rattle.ktm_pages.proofs.cache.Cache.find.Goals as goal

pub returns-in_default-clause-none : goal.returns-in_default-clause-none
returns-in_default-clause-none c _ keeps =
    let kept = rw (← c.self.view_is) at keeps.1 in
    away-contains c.args.page _ keeps.0 (kept-away c.args.page c.self.inside.bytes.items c.self.inside.slots.entries (sym c.in_default.ensures)) kept

pub index-requires : goal.index-requires
index-requires c =
    let hit = held c.args.page c.in-Some.slot c.self.inside.bytes.items c.self.inside.slots c.self.invariant (sym c.in-Some.ensures) in
    let below = held-below c.args.page c.in-Some.slot c.self.inside.bytes.items c.self.inside.slots c.self.invariant hit in
    omega (arith, below)

pub invariant_of-self : goal.invariant_of-self
invariant_of-self c =
    let hit = held c.args.page c.in-Some.slot c.self.inside.bytes.items c.self.inside.slots c.self.invariant (sym c.in-Some.ensures) in
    rw c.promote.ensures.entries (promoted-slots c.args.page c.in-Some.slot c.self.inside.bytes.items c.self.inside.slots c.self.invariant hit)

pub returns-clause-found : goal.returns-clause-found
returns-clause-found c _ =
    let hit = held c.args.page c.in-Some.slot c.self.inside.bytes.items c.self.inside.slots c.self.invariant (sym c.in-Some.ensures) in
    let below = held-below c.args.page c.in-Some.slot c.self.inside.bytes.items c.self.inside.slots c.self.invariant hit in
    let read : get_or c.self.inside.bytes.items c.in-Some.slot [] ≡ c.index.result.now = get_or_default c.self.inside.bytes.items c.in-Some.slot [] c.index.result.now below ∙ sym c.index.ensures in
    rw (← c.self.view_is) (rw read at hit.kept)

pub returns-clause-used : goal.returns-clause-used
returns-clause-used c _ =
    let hit = held c.args.page c.in-Some.slot c.self.inside.bytes.items c.self.inside.slots c.self.invariant (sym c.in-Some.ensures) in
    let below = held-below c.args.page c.in-Some.slot c.self.inside.bytes.items c.self.inside.slots c.self.invariant hit in
    let read : get_or c.self.inside.bytes.items c.in-Some.slot [] ≡ c.index.result.now = get_or_default c.self.inside.bytes.items c.in-Some.slot [] c.index.result.now below ∙ sym c.index.ensures in
    let kept = promoted-kept c.args.page c.in-Some.slot c.self.inside.bytes.items c.self.inside.slots c.self.invariant hit in
    rw (← c.self.view_is, c.promote.ensures.entries) (rw read at kept)
