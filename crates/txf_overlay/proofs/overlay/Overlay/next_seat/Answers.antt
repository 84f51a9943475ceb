use Rattle.std.proofs.Common.{sym, ◌∙◌, subst}
use Rattle.std.proofs.lemmas.Option.{same_Some}
use Rattle.ktm_links.specs.Mapped.{Begins}
use Rattle.txf_tree.specs.Places.{number_bytes}
use Rattle.txf_overlay.proofs.Seats.{begins-not, begins-told, next-seat, no-seat, seats-passed}
use Rattle.txf_overlay.proofs.overlay.Overlay.next_seat.Goals as goal

pub returns-in_default-clause-none : goal.returns-in_default-clause-none
returns-in_default-clause-none c =
    rw (← c.self.view_is) (no-seat c.self.inside.seats.entries c.args.directory c.args.from.now c.in_default.ensures.none)

pub returns-then-not-starts_with-clause-none : goal.returns-then-not-starts_with-clause-none
returns-then-not-starts_with-clause-none c =
    let f = c.in-Some.ensures.first in
    let name = same_Some _ _ (c.in-Some-name.ensures.name f.name f.value f.there) in
    let starts = sym c.starts_with.ensures.value ∙ c.if-not-starts_with.true in
    rw (← c.self.view_is)
    (seats-passed c.self.inside.seats.entries c.args.directory c.args.from.now c.in-Some.key f c.requires
    (λ begins. begins-not c.args.directory c.in-Some-name.place.now (rw c.number_bytes.ensures at starts)
    (subst (Begins (number_bytes c.args.directory)) (sym name) begins)))

pub returns-clause-some : goal.returns-clause-some
returns-clause-some c =
    let f = c.in-Some.ensures.first in
    let name = same_Some _ _ (c.in-Some-name.ensures.name f.name f.value f.there) in
    let node = same_Some _ _ (c.in-Some-get.ensures.under f.name f.value f.there) in
    let starts = sym c.starts_with.ensures.value ∙ c.if-not-starts_with.false in
    rw (← c.self.view_is)
    (next-seat c.self.inside.seats.entries c.args.directory c.args.from.now c.in-Some-name.place.now c.in-Some-get.node.now c.in-Some.key f
    (begins-told c.args.directory c.in-Some-name.place.now (rw c.number_bytes.ensures at starts)) name node)
