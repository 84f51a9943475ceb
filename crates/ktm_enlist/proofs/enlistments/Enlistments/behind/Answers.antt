use Rattle.std.proofs.Common.{◌≡◌, ◌∙◌, ap, arith, length, rules, vec_len}
use Rattle.ktm_enlist.proofs.Places.{link_behind, links_length}
use Rattle.ktm_enlist.proofs.enlistments.Enlistments.behind.Goals as goal

pub index-requires : goal.index-requires
index-requires c =
    let count : vec_len c.self.inside.next ≡ length c.self.inside.next.items = search rules in
    omega (arith, count, ap length c.self.invariant.5.chained, links_length 0 c.self.inside.items.items, rw (← c.self.view_is) at c.requires)

pub returns : goal.returns
returns c = λ id at.
    rw (← c.self.view_is) (c.index.ensures ∙ link_behind id c.self.inside.items.items c.self.inside.next.items c.args.place _ c.self.invariant.5.chained (rw (← c.self.view_is) at at))
