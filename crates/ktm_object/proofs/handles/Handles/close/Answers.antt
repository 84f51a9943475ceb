use Rattle.std.proofs.Common.{◌≡◌, ◌-◌, ◌^◌, Some, None, not, ◌∙◌, sym, ap}
use Rattle.std.specs.Option.{option_map}
use Rattle.ktm_world.specs.HandleCalls.{has_handle, without_handle}
use Rattle.ktm_world.specs.declared.object.Handle.{Handle}
use Rattle.ktm_object.specs.Table.{HandleTable, closing, handle_at}
use Rattle.ktm_links.specs.Mapped.{key_under}
use Rattle.ktm_links.proofs.offered.Indexes.{AreDistinct-without, IsIndex-without}
use Rattle.ktm_object.specs.Names.{label_bytes, label_name, object_name, object_owner, owner_bytes}
use Rattle.ktm_object.proofs.Closing.{values_of-without, label_name-found, name_taken, not_flip, spare_back, spare_rises, without-absent}
use Rattle.ktm_object.proofs.Labels.{handle_at-absent, handle_at-index, object_at-entry}
use Rattle.ktm_object.proofs.Owners.{has_handle-told}
use Rattle.ktm_object.proofs.handles.Handles.close.Goals as goal

pub returns-in_default-clause-handles : goal.returns-in_default-clause-handles
returns-in_default-clause-handles c =
    rw (← c.self.view_is)
    (without-absent _ c.args.process c.args.label
    (handle_at-absent _ _ _ _ c.self.invariant.by_label (rw c.label_bytes-bytes.ensures at c.in_default.ensures)))

pub returns-in_default-clause-closed : goal.returns-in_default-clause-closed
returns-in_default-clause-closed c =
    let handles = c.args.self.now.handles in
    let none : None ≡ handle_at c.args.self.now.handles c.args.process c.args.label =
    rw (← c.self.view_is) (handle_at-absent _ _ _ _ c.self.invariant.by_label (rw c.label_bytes-bytes.ensures at c.in_default.ensures)) in
    ap (λ o. option_map (closing handles c.args.process c.args.label) o)
    (ap (λ o. option_map (λ (e : Handle). e.object) o) none ∙ object_at-entry c.args.self.now.handles c.args.process c.args.label)

pub invariant_of-self : goal.invariant_of-self
invariant_of-self c =
    let name =
    label_name-found _ _ c.args.process c.args.label c.in-Some.key c.in-Some-unlink.handle c.self.invariant.by_label (rw c.label_bytes-bytes.ensures at c.in-Some.ensures)
    c.in-Some-unlink.ensures.value in
    let gone = c.in-Some-unlink.ensures.gone.gone in
    record {
      by_label =
          IsIndex-without label_name _ _ _ _ c.in-Some.key c.in-Some-unlink.handle _ c.self.invariant.by_label
          (c.label_bytes-bytes.ensures ∙ sym name)
          (sym c.in-Some-unlink.ensures.value) c.in-Some-unlink.ensures.items gone c.in-Some-unlink.ensures.others
          c.remove-other.ensures.gone c.remove-other.ensures.other_names;
      by_object =
          IsIndex-without object_name _ _ _ _ c.in-Some.key c.in-Some-unlink.handle _ c.self.invariant.by_object
          (c.owner_name.ensures ∙ ap (λ o. owner_bytes o (label_bytes c.args.process c.args.label)) c.object_owner-object.ensures
          ∙ ap (owner_bytes (object_owner c.in-Some-unlink.handle.object)) (sym name))
          (sym c.in-Some-unlink.ensures.value) c.in-Some-unlink.ensures.items gone c.in-Some-unlink.ensures.others
          c.remove-other-2.ensures.gone c.remove-other-2.ensures.other_names;
      distinct = rw c.in-Some-unlink.ensures.items (AreDistinct-without _ c.in-Some.key c.self.invariant.distinct);
      labels_next = c.remove-other.ensures.next ∙ c.self.invariant.labels_next ∙ sym c.in-Some-unlink.ensures.next;
      objects_next = c.remove-other-2.ensures.next ∙ c.self.invariant.objects_next ∙ sym c.in-Some-unlink.ensures.next;
    }

pub returns-clause-handles : goal.returns-clause-handles
returns-clause-handles c =
    values_of-without _ _ _ c.args.process c.args.label c.in-Some.key c.self.invariant.by_label (sym (rw c.label_bytes-bytes.ensures at c.in-Some.ensures))
    c.in-Some-unlink.ensures.items c.in-Some-unlink.ensures.gone.gone
    ∙ ap (λ (t : HandleTable). without_handle t.handles c.args.process c.args.label) c.self.view_is

pub returns-clause-closed : goal.returns-clause-closed
returns-clause-closed c =
    let handles = c.args.self.now.handles in
    let entry : Some c.in-Some-unlink.handle ≡ handle_at c.args.self.now.handles c.args.process c.args.label =
    rw (← c.self.view_is)
    (c.in-Some-unlink.ensures.value
    ∙ handle_at-index _ _ _ _ _ c.self.invariant.by_label (rw c.label_bytes-bytes.ensures at c.in-Some.ensures)) in
    let object = ap (λ o. option_map (λ (e : Handle). e.object) o) entry ∙ object_at-entry c.args.self.now.handles c.args.process c.args.label in
    let told =
    has_handle-told _ _ c.in-Some-unlink.handle.object _ c.first_under-other.result (invariant_of-self c).by_object c.object_owner-object.ensures
    (rw c.owner_bytes.ensures at c.first_under-other.ensures.first) (rw c.owner_bytes.ensures at c.first_under-other.ensures.none) in
    let last : c.is_none.result ≡ not (has_handle (without_handle handles c.args.process c.args.label) c.in-Some-unlink.handle.object) =
    not_flip _ _ c.is_none.ensures
    ∙ ap not (told ∙ ap (λ hs. has_handle hs c.in-Some-unlink.handle.object) (returns-clause-handles c)) in
    ap (λ b. Some (record { label = c.args.label; object = c.in-Some-unlink.handle.object; is_last = b })) last
    ∙ ap (λ o. option_map (closing handles c.args.process c.args.label) o) object

pub returns-clause-spare : goal.returns-clause-spare
returns-clause-spare c =
    let there = c.in-Some-unlink.ensures.value in
    let name =
    label_name-found _ _ c.args.process c.args.label c.in-Some.key c.in-Some-unlink.handle c.self.invariant.by_label (rw c.label_bytes-bytes.ensures at c.in-Some.ensures)
    there in
    let object : key_under c.self.inside.by_object.entries c.owner_name.result ≡ Some c.in-Some.key =
    name_taken object_name _ _ c.in-Some.key c.in-Some-unlink.handle _ c.self.invariant.by_object
    (c.owner_name.ensures ∙ ap (λ o. owner_bytes o (label_bytes c.args.process c.args.label)) c.object_owner-object.ensures
    ∙ ap (owner_bytes (object_owner c.in-Some-unlink.handle.object)) (sym name)) there in
    rw (← c.self.view_is)
    (spare_rises _ _ _ _ _ _ (2 ^ 64 - 1 - c.self.inside.listed.next) c.in-Some-unlink.ensures.spare
    (spare_back _ c.in-Some.key _ _ _ _ (c.remove-other.ensures.value ∙ sym c.in-Some.ensures) c.self.invariant.labels_next c.remove-other.ensures.spare)
    (spare_back _ c.in-Some.key _ _ _ _ (c.remove-other-2.ensures.value ∙ object) c.self.invariant.objects_next c.remove-other-2.ensures.spare))
