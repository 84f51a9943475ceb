use Rattle.std.proofs.Common.{◌≡◌, ap, true, is_some, refl, sym}
use Rattle.ktm_links.specs.Items.{value_at}
use Rattle.ktm_links.proofs.offered.Keys.{value_at-with_same, value_at-with_other, KeepsSpent-with_value}
use Rattle.ktm_links.proofs.list.List.replace.Goals as goal

pub returns-in-Some-clause-named : goal.returns-in-Some-clause-named
returns-in-Some-clause-named g c =
    let some : is_some (value_at c.args.self.now.items c.args.key) ≡ true = ap is_some (sym c.in-Some.ensures.value) in
    rw c.replace.ensures.after (value_at-with_same c.args.self.now.items c.args.key _ some)

pub returns-in-Some-clause-others : goal.returns-in-Some-clause-others
returns-in-Some-clause-others g c = λ k differs. value_at-with_other c.args.self.now.items c.args.key k _ differs

pub returns-in-Some-clause-spent : goal.returns-in-Some-clause-spent
returns-in-Some-clause-spent g c =
    let some : is_some (value_at c.args.self.now.items c.args.key) ≡ true = ap is_some (sym c.in-Some.ensures.value) in
    KeepsSpent-with_value c.args.self.now _ c.args.key _ some refl refl
