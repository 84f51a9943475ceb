use Rattle.std.proofs.Common.{Some, ◌∙◌, ap, sym}
use Rattle.std.specs.Option.{option_map}
use Rattle.std.proofs.lemmas.Option.{same_Some}
use Rattle.ktm_links.specs.Mapped.{Mapped, NameAndValue, at}
use Rattle.ktm_links.proofs.InOrder.{at-stands, keyed}
use Rattle.ktm_links.proofs.chains.Chains.name.Goals as goal

pub returns-in-Some-clause-name : goal.returns-in-Some-clause-name
returns-in-Some-clause-name g c = λ q v is.
    let s = at-stands _ _ q c.args.key v c.self.invariant (ap (λ (m : Mapped _). at m.entries q) c.self.view_is ∙ is) in
    ap Some (c.name.ensures ∙ ap (λ (n : NameAndValue _). n.name) (same_Some _ _ (c.in-Some.ensures ∙ s.1)) ∙ s.2)

pub returns-in-None-clause-name : goal.returns-in-None-clause-name
returns-in-None-clause-name g c = λ q v is.
    let s = at-stands _ _ q c.args.key v c.self.invariant (ap (λ (m : Mapped _). at m.entries q) c.self.view_is ∙ is) in
    let some = c.in-None.ensures ∙ s.1 in
    absurd (cc)

pub returns-in-None-clause-none : goal.returns-in-None-clause-none
returns-in-None-clause-none g c =
    rw (← c.self.view_is)
    (sym (keyed _ _ c.args.key c.self.invariant) ∙ ap (λ o. option_map (λ (n : NameAndValue _). n.value) o) (sym c.in-None.ensures))
