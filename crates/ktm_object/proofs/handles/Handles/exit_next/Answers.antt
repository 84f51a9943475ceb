use Rattle.std.proofs.Common.{◌∷◌, option_and_then, ◌∙◌, sym, ap}
use Rattle.std.specs.Option.{option_map}
use Rattle.ktm_world.specs.HandleCalls.{labels_of}
use Rattle.ktm_object.specs.Table.{closed_of, closing, first_label}
use Rattle.ktm_object.proofs.Exits.{IsExit, exit, no_labels}
use Rattle.ktm_object.proofs.handles.Handles.exit_next.Goals as goal

pub returns-in_default-clause-none : goal.returns-in_default-clause-none
returns-in_default-clause-none c = rw (← c.self.view_is) (no_labels _ c.args.process _ c.in_default.ensures.none c.self.invariant.by_label.all)

pub returns-in_default-clause-closed : goal.returns-in_default-clause-closed
returns-in_default-clause-closed c =
    let handles = c.args.self.now.handles in
    sym (ap (λ ls. option_and_then (closed_of handles c.args.process) (first_label ls)) (returns-in_default-clause-none c))

pub returns-clause-closed : goal.returns-clause-closed
returns-clause-closed c =
    let e : IsExit c.args.self.now.handles c.args.process c.in-Some-get.handle.now =
    rw (← c.self.view_is)
    (exit _ _ c.args.process c.in-Some.key c.in-Some-get.handle.now c.self.invariant.by_label c.self.invariant.distinct c.in-Some.ensures.first
    c.in-Some-get.ensures) in
    let handles = c.args.self.now.handles in
    c.close.ensures.closed ∙ sym (ap (λ ls. option_and_then (closed_of handles c.args.process) (first_label ls)) e.labels)

pub returns-clause-labels : goal.returns-clause-labels
returns-clause-labels c =
    let e : IsExit c.args.self.now.handles c.args.process c.in-Some-get.handle.now =
    rw (← c.self.view_is)
    (exit _ _ c.args.process c.in-Some.key c.in-Some-get.handle.now c.self.invariant.by_label c.self.invariant.distinct c.in-Some.ensures.first
    c.in-Some-get.ensures) in
    let handles = c.args.self.now.handles in
    let label = c.in-Some-get.handle.now.label in
    let result = c.close.ensures.closed ∙ ap (λ o. option_map (closing handles c.args.process label) o) (sym e.object) in
    rw result (e.labels ∙ ap (λ hs. label ∷ labels_of hs c.args.process) (sym c.close.ensures.handles))

pub returns-clause-none : goal.returns-clause-none
returns-clause-none c =
    let e : IsExit c.args.self.now.handles c.args.process c.in-Some-get.handle.now =
    rw (← c.self.view_is)
    (exit _ _ c.args.process c.in-Some.key c.in-Some-get.handle.now c.self.invariant.by_label c.self.invariant.distinct c.in-Some.ensures.first
    c.in-Some-get.ensures) in
    let handles = c.args.self.now.handles in
    let label = c.in-Some-get.handle.now.label in
    let result = c.close.ensures.closed ∙ ap (λ o. option_map (closing handles c.args.process label) o) (sym e.object) in
    rw result tt

pub returns-clause-unchanged : goal.returns-clause-unchanged
returns-clause-unchanged c =
    let e : IsExit c.args.self.now.handles c.args.process c.in-Some-get.handle.now =
    rw (← c.self.view_is)
    (exit _ _ c.args.process c.in-Some.key c.in-Some-get.handle.now c.self.invariant.by_label c.self.invariant.distinct c.in-Some.ensures.first
    c.in-Some-get.ensures) in
    let handles = c.args.self.now.handles in
    let label = c.in-Some-get.handle.now.label in
    let result = c.close.ensures.closed ∙ ap (λ o. option_map (closing handles c.args.process label) o) (sym e.object) in
    rw result tt
