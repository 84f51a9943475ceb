use Rattle.std.proofs.Common.{◌≡◌, false, is_some, length, vec_len, rules, sym, ap, ◌∙◌, arith}
use Rattle.std.specs.Option.{option_copied}
use Rattle.ktm_links.specs.Items.{value_at}
use Rattle.ktm_notify.specs.Queues.{first_note}
use Rattle.ktm_notify.proofs.Marking.{within}
use Rattle.ktm_notify.proofs.Sending.{none-read, note-read, there-read}
use Rattle.ktm_notify.proofs.queues.Queues.first.Goals as goal

pub index-requires : goal.index-requires
index-requires c =
    let count : vec_len c.self.inside.ends ≡ length c.self.inside.ends.items = search rules in
    omega (arith, count, within c.self.inside.slots.items c.self.inside.ends.items c.args.manager (rw (← c.self.view_is) at c.requires))

pub returns-in_err-first : goal.returns-in_err-first
returns-in_err-first c =
    let inside = within c.self.inside.slots.items c.self.inside.ends.items c.args.manager (rw (← c.self.view_is) at c.requires) in
    rw (← c.self.view_is) (c.from_residual.ensures ∙ sym (ap first_note (none-read _ _ c.args.manager _ c.self.invariant.0 inside c.index.ensures c.in_err-first.was)))

pub returns-in_err-slot : goal.returns-in_err-slot
returns-in_err-slot c =
    let inside = within c.self.inside.slots.items c.self.inside.ends.items c.args.manager (rw (← c.self.view_is) at c.requires) in
    let some = there-read _ _ c.args.manager _ c.in_ok-first.first c.self.invariant.0 inside c.index.ensures c.in_ok-first.was in
    let none : is_some (value_at c.self.inside.slots.items c.in_ok-first.first) ≡ false = ap is_some (sym c.get.ensures ∙ ap option_copied c.in_err-slot.was) in
    absurd (cc)

pub returns : goal.returns
returns c =
    let inside = within c.self.inside.slots.items c.self.inside.ends.items c.args.manager (rw (← c.self.view_is) at c.requires) in
    rw (← c.self.view_is)
    (note-read _ _ c.args.manager _ c.in_ok-first.first c.in_ok-slot.slot.now c.self.invariant.0 inside c.index.ensures c.in_ok-first.was
    (sym c.get.ensures ∙ ap option_copied c.in_ok-slot.was))
