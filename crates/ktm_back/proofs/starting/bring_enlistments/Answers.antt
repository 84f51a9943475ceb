use Rattle.std.proofs.Common.{◌≡◌, ◌∙◌, ◌++◌, ◌∷◌, List, ap, inl, refl, subst, sym}
use Rattle.std.specs.Vec.Iter.{into_iter_items}
use Rattle.ktm_world.specs.Enlistments.{Enlistment}
use Rattle.ktm_world.specs.Present.{Transactions}
use Rattle.txf_laws.specs.Elements.{IsIn}
use Rattle.txf_laws.proofs.offered.Diamonds.{IsIn-right}
use Rattle.txf_laws.proofs.offered.Elements.{list_all-at}
use Rattle.ktm_enlist.specs.Telling.{has_manager}
use Rattle.ktm_back.proofs.Behind.{behind}
use Rattle.ktm_back.proofs.starting.bring_enlistments.Goals as goal

pub bring_back_enlistment-requires-clause-behind : goal.bring_back_enlistment-requires-clause-behind
bring_back_enlistment-requires-clause-behind c =
    let e = c.in-Some.e in
    let whole : c.loop-e.yielded ++ e ∷ into_iter_items c.next.new.self ≡ c.args.enlistments.items =
    ap (λ l. c.loop-e.yielded ++ l) (sym c.in-Some.ensures.steps.0) ∙ c.loop-e.invariant.rest in
    rw (ap (λ (now : Transactions). now.enlistments) (c.in_ok-reserve_enlistment.ensures.now.now ∙ c.loop-e.invariant.now))
    (behind (λ (f : Enlistment). f.id) c.args.enlistments.items c.loop-e.yielded (into_iter_items c.next.new.self) e c.requires.rise whole)

pub bring_back_enlistment-requires-clause-there : goal.bring_back_enlistment-requires-clause-there
bring_back_enlistment-requires-clause-there c =
    let e = c.in-Some.e in
    let whole : c.loop-e.yielded ++ e ∷ into_iter_items c.next.new.self ≡ c.args.enlistments.items =
    ap (λ l. c.loop-e.yielded ++ l) (sym c.in-Some.ensures.steps.0) ∙ c.loop-e.invariant.rest in
    let here : IsIn e c.args.enlistments.items = subst (λ (es : List Enlistment). IsIn e es) whole (IsIn-right e c.loop-e.yielded (e ∷ into_iter_items c.next.new.self) (inl refl)) in
    rw (c.in_ok-reserve_enlistment.ensures.now.managers ∙ c.loop-e.invariant.managers) (list_all-at (has_manager c.args.tm.now.managers) c.args.enlistments.items c.requires.there e here)
