use Rattle.std.proofs.Common.{◌+◌, ◌∙◌, sym, ap, refl}
use Rattle.ktm_links.proofs.offered.Indexes.{AreDistinct-push, IsIndex-push}
use Rattle.ktm_object.specs.Names.{label_bytes, label_name, object_name, object_owner, owner_bytes}
use Rattle.ktm_object.proofs.Indexes.{label_free, label_key_free, name_free, name_key_free}
use Rattle.ktm_object.proofs.handles.Handles.insert.Goals as goal

pub insert-requires-clause-free : goal.insert-requires-clause-free
insert-requires-clause-free c = label_key_free _ _ c.args.process c.args.label _ c.self.invariant.by_label c.label_bytes.ensures (rw (← c.self.view_is) at c.requires.free)

pub insert-requires-2-clause-free : goal.insert-requires-2-clause-free
insert-requires-2-clause-free c =
    name_key_free object_name _ _ _ c.args.process c.args.label _ _ c.self.invariant.by_label c.self.invariant.by_object (λ h. object_owner h.object) (λ _. refl)
    c.owner_name.ensures (rw (← c.self.view_is) at c.requires.free)

pub invariant_of-self : goal.invariant_of-self
invariant_of-self c =
    let free = rw (← c.self.view_is) at c.requires.free in
    record {
      by_label =
          IsIndex-push label_name _ _ _ _ _ _ _ _ c.self.invariant.by_label c.label_bytes.ensures
          (rw c.label_bytes.ensures (label_free _ _ c.args.process c.args.label c.self.invariant.by_label free)) c.push_spare-key.ensures.items
          c.push_spare-key.ensures.absent c.push_spare-key.ensures.named c.push_spare-key.ensures.others c.insert.ensures.under c.insert.ensures.other_names;
      by_object =
          IsIndex-push object_name _ _ _ _ _ _ _ _ c.self.invariant.by_object
          (c.owner_name.ensures ∙ ap (λ owner. owner_bytes owner (label_bytes c.args.process c.args.label)) c.object_owner-owner.ensures)
          (name_free object_name _ _ _ c.args.process c.args.label _ _ c.self.invariant.by_label c.self.invariant.by_object (λ h. object_owner h.object) (λ _. refl)
          c.owner_name.ensures free)
          c.push_spare-key.ensures.items c.push_spare-key.ensures.absent c.push_spare-key.ensures.named c.push_spare-key.ensures.others c.insert-2.ensures.under
          c.insert-2.ensures.other_names;
      distinct = rw c.push_spare-key.ensures.items (AreDistinct-push _ _ _ c.self.invariant.distinct c.push_spare-key.ensures.absent);
      labels_next = c.insert.ensures.next ∙ ap (λ n. n + 1) c.self.invariant.labels_next ∙ sym c.push_spare-key.ensures.next;
      objects_next = c.insert-2.ensures.next ∙ ap (λ n. n + 1) c.self.invariant.objects_next ∙ sym c.push_spare-key.ensures.next;
    }
