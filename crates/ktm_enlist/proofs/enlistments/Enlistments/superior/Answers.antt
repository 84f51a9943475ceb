use Rattle.std.proofs.Common.{◌≡◌, ◌∙◌, ap, sym, arith, length, rules, vec_len, Some}
use Rattle.ktm_world.specs.Enlistments.{Enlistment}
use Rattle.ktm_enlist.specs.Places.{is_superior_of}
use Rattle.ktm_enlist.proofs.Places.{find_none, found_at, none_from, place_within}
use Rattle.ktm_enlist.proofs.enlistments.Enlistments.superior.Goals as goal

pub index-requires : goal.index-requires
index-requires c =
    let count : vec_len c.self.inside.items ≡ length c.self.inside.items.items = search rules in
    let inside = place_within (is_superior_of c.args.transaction) c.self.inside.items.items c.in-Some.place (sym (rw (← c.self.view_is) at c.in-Some.ensures)) in
    omega (arith, count, inside)

pub returns-in-Some : goal.returns-in-Some
returns-in-Some c =
    rw (← c.self.view_is) (ap (λ (e : Enlistment). Some e) c.index.ensures ∙ sym (found_at (is_superior_of c.args.transaction) c.self.inside.items.items c.in-Some.place c.index.result.now (sym (rw (← c.self.view_is) at c.in-Some.ensures))))

pub returns-in-None : goal.returns-in-None
returns-in-None c = sym (find_none (is_superior_of c.args.transaction) c.args.self.now.enlistments (none_from (is_superior_of c.args.transaction) 0 c.args.self.now.enlistments (sym c.in-None.ensures)))
