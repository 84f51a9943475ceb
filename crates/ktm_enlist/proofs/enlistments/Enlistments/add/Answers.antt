use Rattle.std.proofs.Common.{◌≡◌, ◌∙◌, ap, arith, length, rules, vec_len}
use Rattle.ktm_world.specs.Enlistments.{Enlistment}
use Rattle.ktm_manager.proofs.offered.Places.{rising_push}
use Rattle.ktm_enlist.specs.Places.{linked}
use Rattle.ktm_enlist.proofs.Changing.{whole_linked}
use Rattle.ktm_enlist.proofs.Grouping.{grouped_push, last_linked, push_fit}
use Rattle.ktm_enlist.proofs.enlistments.Enlistments.add.Goals as goal

pub join-last-requires-clause-may : goal.join-last-requires-clause-may
join-last-requires-clause-may c =
    let count : vec_len c.self.inside.items ≡ length c.self.inside.items.items = search rules in
    push_fit c.self.inside.items.items c.args.e c.self.inside.groups.items (omega (arith, count, c.self.invariant.4, c.requires.room, ap (λ s. s.room) c.self.view_is)) c.self.invariant.5.each

pub link-requires : goal.link-requires
link-requires c =
    let place : c.len-place.result ≡ length c.self.inside.items.items = search rules in
    rw c.deref_mut.ensures.value
    (last_linked c.self.inside.items.items c.args.e c.self.inside.next.items c.self.inside.groups.items c.join-last.new.groups.items c.join-last.result c.self.invariant.5 (rw place at c.join-last.ensures.groups))

pub invariant_of-self : goal.invariant_of-self
invariant_of-self c =
    let place : c.len-place.result ≡ length c.self.inside.items.items = search rules in
    let same : length c.self.inside.next.items ≡ vec_len c.self.inside.next = search rules in (
      rw c.push_reserved-2.ensures.items (rising_push (λ (e : Enlistment). e.id) c.self.inside.items.items c.args.e c.self.invariant.0 (rw (← c.self.view_is) at c.requires.behind)),
      omega (arith, ap (λ s. s.room) c.self.view_is, c.requires.room, c.self.invariant.1, c.push_reserved-2.ensures.len, c.push_reserved-2.ensures.capacity),
      omega (arith, ap (λ s. s.room) c.self.view_is, c.requires.room, c.self.invariant.2, c.push_reserved.ensures.len, c.push_reserved.ensures.capacity),
      omega (arith, ap (λ s. s.room) c.self.view_is, c.requires.room, c.self.invariant.3, c.join-last.ensures.room),
      omega (arith, ap (λ s. s.room) c.self.view_is, c.requires.room, c.self.invariant.4, c.push_reserved-2.ensures.len),
      rw (
        c.push_reserved-2.ensures.items,
        c.push_reserved.ensures.items,
        whole_linked c.link.new.next c.self.inside.next.items (vec_len c.self.inside.next) c.join-last.result c.len-place.result same (c.link.ensures ∙ ap (λ l. linked l c.join-last.result c.len-place.result) c.deref_mut.ensures.value),
        place,
      )
          (grouped_push c.self.inside.items.items c.args.e c.self.inside.next.items c.self.inside.groups.items c.join-last.new.groups.items c.join-last.result c.self.invariant.5 (rw place at c.join-last.ensures.groups)),
    )
