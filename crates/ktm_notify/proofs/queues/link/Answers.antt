use Rattle.std.proofs.Common.{◌≡◌, sym, ap, ◌∙◌, Some}
use Rattle.std.specs.Option.{option_copied}
use Rattle.ktm_links.specs.Items.{value_at, with_value}
use Rattle.ktm_notify.specs.Linked.{linked_behind, linked_to}
use Rattle.ktm_notify.proofs.Linking.{linked-there, linked-absent, ok_of}
use Rattle.ktm_notify.proofs.queues.link.Goals as goal

pub returns-in-Some-get-clause-items : goal.returns-in-Some-get-clause-items
returns-in-Some-get-clause-items c =
    let slot = c.in-Some-get.slot.now in
    let there : value_at c.args.slots.now.items c.in-Some.last ≡ Some slot = sym c.get.ensures ∙ ap option_copied c.in-Some-get.is in
    let replaced : c.replace.new.self.items ≡ with_value c.args.slots.now.items c.in-Some.last (linked_to slot c.args.next) =
    ok_of (c.replace.new.self.items ≡ with_value c.args.slots.now.items c.in-Some.last (linked_to slot c.args.next)) (value_at c.args.slots.now.items c.in-Some.last) slot there
    c.replace.result c.replace.ensures.items c.replace.ensures.cause in
    replaced
    ∙ linked-there c.args.slots.now.items c.in-Some.last c.args.next slot there
    ∙ sym (ap (λ last. linked_behind c.args.slots.now.items last c.args.next) c.in-Some.is)

pub returns-in_default-get-clause-items : goal.returns-in_default-get-clause-items
returns-in_default-get-clause-items c =
    linked-absent c.args.slots.now.items c.in-Some.last c.args.next (sym c.get.ensures ∙ ap option_copied c.in_default-get.is)
    ∙ sym (ap (λ last. linked_behind c.args.slots.now.items last c.args.next) c.in-Some.is)
