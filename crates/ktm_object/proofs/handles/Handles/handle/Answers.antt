use Rattle.std.proofs.Common.{◌∙◌, ap}
use Rattle.std.specs.Option.{option_map}
use Rattle.ktm_object.proofs.Labels.{handle_at-index, handle_at-absent, object_at-entry}
use Rattle.ktm_object.proofs.handles.Handles.handle.Goals as goal

pub returns-in-Some-clause-handle : goal.returns-in-Some-clause-handle
returns-in-Some-clause-handle c =
    rw (← c.self.view_is) (c.copied.ensures ∙ c.get.ensures ∙ handle_at-index _ _ _ _ _ c.self.invariant.by_label (rw c.label_bytes.ensures at c.in-Some.ensures))

pub returns-in-Some-clause-object : goal.returns-in-Some-clause-object
returns-in-Some-clause-object c =
    ap (λ o. option_map (λ h. h.object) o) (returns-in-Some-clause-handle c)
    ∙ object_at-entry c.args.self.now.handles c.args.process c.args.label

pub returns-in-None-clause-handle : goal.returns-in-None-clause-handle
returns-in-None-clause-handle c =
    rw (← c.self.view_is) (handle_at-absent _ _ _ _ c.self.invariant.by_label (rw c.label_bytes.ensures at c.in-None.ensures))

pub returns-in-None-clause-object : goal.returns-in-None-clause-object
returns-in-None-clause-object c =
    ap (λ o. option_map (λ h. h.object) o) (returns-in-None-clause-handle c)
    ∙ object_at-entry c.args.self.now.handles c.args.process c.args.label
