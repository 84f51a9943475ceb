use Rattle.std.proofs.Common.{Some, ◌∙◌, ap}
use Rattle.std.proofs.lemmas.Option.{same_Some}
use Rattle.std.specs.Option.{option_map}
use Rattle.ktm_links.specs.Mapped.{Mapped, NameAndValue, at}
use Rattle.ktm_links.proofs.InOrder.{at-stands, keyed}
use Rattle.ktm_links.proofs.chains.Chains.get.Goals as goal

pub returns-in-Some-clause-value : goal.returns-in-Some-clause-value
returns-in-Some-clause-value g c =
    rw (c.value.ensures, ← c.self.view_is)
    (ap (λ o. option_map (λ (n : NameAndValue _). n.value) o) c.in-Some.ensures ∙ keyed _ _ c.args.key c.self.invariant)

pub returns-in-None-clause-value : goal.returns-in-None-clause-value
returns-in-None-clause-value g c =
    rw (← c.self.view_is) (ap (λ o. option_map (λ (n : NameAndValue _). n.value) o) c.in-None.ensures ∙ keyed _ _ c.args.key c.self.invariant)

pub returns-in-Some-clause-under : goal.returns-in-Some-clause-under
returns-in-Some-clause-under g c = λ q v is.
    let s = at-stands _ _ q c.args.key v c.self.invariant (ap (λ (m : Mapped _). at m.entries q) c.self.view_is ∙ is) in
    ap Some (c.value.ensures ∙ ap (λ (n : NameAndValue _). n.value) (same_Some _ _ (c.in-Some.ensures ∙ s.1)) ∙ s.3)

pub returns-in-None-clause-under : goal.returns-in-None-clause-under
returns-in-None-clause-under g c = λ q v is.
    let s = at-stands _ _ q c.args.key v c.self.invariant (ap (λ (m : Mapped _). at m.entries q) c.self.view_is ∙ is) in
    let some = c.in-None.ensures ∙ s.1 in
    absurd (cc)
