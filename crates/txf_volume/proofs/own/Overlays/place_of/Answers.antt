use Rattle.std.proofs.Common.{◌≡◌, List, MatchOption, None, subst}
use Rattle.txf_volume.specs.Held.{OwnHeld, overlay_in}
use Rattle.txf_volume.specs.OwnParts.{IsPlace}
use Rattle.txf_volume.proofs.OwnPlaces.{place_is}
use Rattle.txf_volume.proofs.own.Overlays.place_of.Goals as goal

pub returns : goal.returns
returns c =
    subst (λ (os : List OwnHeld). MatchOption c.place_of.result (overlay_in os c.args.transaction ≡ None) (IsPlace os c.args.transaction)) c.self.view_is
    (place_is c.self.inside.entries.items c.args.transaction c.place_of.result (rw c.deref.ensures.value at c.place_of.ensures))
