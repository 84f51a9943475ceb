use Rattle.std.proofs.Common.{◌∙◌, sym, ap}
use Rattle.txf_overlay.specs.Maps.{under}
use Rattle.txf_overlay.proofs.Keeping.{seat_at-under}
use Rattle.txf_overlay.proofs.overlay.Overlay.seat.Goals as goal

pub returns-clause-seat : goal.returns-clause-seat
returns-clause-seat c =
    rw (← c.self.view_is)
    (c.copied.ensures ∙ c.get.ensures ∙ ap (under c.self.inside.seats.entries) (c.as_slice.ensures ∙ c.child_name.ensures)
    ∙ sym (seat_at-under c.self.inside.seats.entries _))
