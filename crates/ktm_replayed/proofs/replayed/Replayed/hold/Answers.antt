use Rattle.std.proofs.Common.{◌∙◌, sym, ap}
use Rattle.std.proofs.lemmas.Bool.{and_from}
use Rattle.ktm_world.specs.declared.event.Event.TheVariants.{Held}
use Rattle.ktm_world.specs.Durable.{is_new_enlistment}
use Rattle.ktm_replayed.proofs.Taking.{takes-tested}
use Rattle.ktm_replayed.proofs.replayed.Replayed.hold.Goals as goal

pub returns : goal.returns
returns c =
    let s = c.args.self.now.state in
    let x = c.args.superior in
    takes-tested c.add_superior.result s c.add_superior.new.self.state (Held c.args.transaction x.enlistment x.manager x.information)
    (and_from _ _ (sym c.may_get_ready.ensures ∙ c.if-not-may_get_ready.false) (ap (is_new_enlistment s x.enlistment x.manager) (sym c.as_slice.ensures) ∙ sym c.is_new_enlistment.ensures ∙ c.if-not-is_new_enlistment.false)) c.add_superior.ensures.held c.add_superior.ensures.refused
