use Rattle.std.proofs.Common.{◌∙◌, ap, refl, sym}
use Rattle.ktm_links.specs.declared.list.Key.{Key}
use Rattle.ktm_links.specs.Items.{item, value_at}
use Rattle.ktm_links.proofs.Segments.{pushed, is_linked, walk-linked}
use Rattle.ktm_links.proofs.offered.Keys.{KeepsSpent-push, value_at-last, value_at-push_other}
use Rattle.ktm_links.proofs.Linked.{vacant}
use Rattle.ktm_links.proofs.list.List.push_spare.Goals as goal

pub invariant_of-self : goal.invariant_of-self
invariant_of-self g c =
    let linked = pushed _ _ _ _ _ _ (item (record { place = c.insert_reserved-place.result; generation = c.self.inside.next }) c.args.value) c.self.invariant c.insert_reserved-place.ensures.was_vacant c.insert_reserved-place.ensures.updates c.insert_reserved-place.ensures.len c.set_after.ensures.sets c.set_after.ensures.len in
    is_linked _ _ _ _ _ (rw (← c.unwrap_or.ensures) at linked)

pub returns-clause-items : goal.returns-clause-items
returns-clause-items g c =
    let linked = pushed _ _ _ _ _ _ (item (record { place = c.insert_reserved-place.result; generation = c.self.inside.next }) c.args.value) c.self.invariant c.insert_reserved-place.ensures.was_vacant c.insert_reserved-place.ensures.updates c.insert_reserved-place.ensures.len c.set_after.ensures.sets c.set_after.ensures.len in
    rw (← c.self.view_is) (walk-linked _ _ _ _ _ (rw (← c.unwrap_or.ensures) at linked))

pub returns-clause-spent : goal.returns-clause-spent
returns-clause-spent g c =
    KeepsSpent-push _ _ (record { place = c.insert_reserved-place.result; generation = c.self.inside.next }) c.args.value (rw (← c.self.view_is) refl) (returns-clause-items g c) (rw (← c.self.view_is) refl)

pub returns-clause-absent : goal.returns-clause-absent
returns-clause-absent g c =
    rw (← c.self.view_is) (sym (vacant _ _ _ _ _ (record { place = c.insert_reserved-place.result; generation = c.self.inside.next }) c.self.invariant (sym c.insert_reserved-place.ensures.was_vacant)))

pub returns-clause-named : goal.returns-clause-named
returns-clause-named g c =
    let key : Key = record { place = c.insert_reserved-place.result; generation = c.self.inside.next } in
    ap (λ xs. value_at xs key) (returns-clause-items g c) ∙ value_at-last c.args.self.now.items key c.args.value (returns-clause-absent g c)

pub returns-clause-others : goal.returns-clause-others
returns-clause-others g c = λ k differs.
    let key : Key = record { place = c.insert_reserved-place.result; generation = c.self.inside.next } in
    ap (λ xs. value_at xs k) (returns-clause-items g c) ∙ value_at-push_other c.args.self.now.items (item key c.args.value) k differs
