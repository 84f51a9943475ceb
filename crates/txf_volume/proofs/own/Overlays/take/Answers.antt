use Rattle.std.proofs.Common.{List, remove, sym, ◌∙◌, ap, subst}
use Rattle.txf_volume.specs.Held.{OwnHeld}
use Rattle.txf_volume.specs.OwnParts.{IsPlace}
use Rattle.txf_volume.proofs.OwnPlaces.{counted-left, left-place, without-none}
use Rattle.txf_volume.proofs.own.Overlays.take.Goals as goal

pub invariant_of-self : goal.invariant_of-self
invariant_of-self c =
    rw c.remove.ensures.items
    (counted-left c.self.inside.entries.items c.args.transaction c.in-Some.place c.self.inside.places c.remove-in-Some.new.self
    (subst (λ (os : List OwnHeld). IsPlace os c.args.transaction c.in-Some.place) (sym c.self.view_is) c.in-Some.ensures) c.self.invariant c.remove-in-Some.ensures)

pub returns-in-Some-clause-left : goal.returns-in-Some-clause-left
returns-in-Some-clause-left c =
    c.remove.ensures.items
    ∙ ap (λ (os : List OwnHeld). remove os c.in-Some.place) c.self.view_is
    ∙ sym (left-place c.args.self.now c.args.transaction c.in-Some.place c.requires.once c.in-Some.ensures)

pub returns-in-None-clause-left : goal.returns-in-None-clause-left
returns-in-None-clause-left c = sym (without-none c.args.self.now c.args.transaction c.in-None.ensures)
