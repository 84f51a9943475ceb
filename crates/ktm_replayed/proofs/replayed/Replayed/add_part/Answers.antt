use Rattle.std.proofs.Common.{◌≡◌, ◌∙◌, [], true, false, Ok, sym, ap, subst}
use Rattle.std.specs.List.{list_all}
use Rattle.ktm_world.specs.Changes.{changes_apply, has_changes}
use Rattle.ktm_world.specs.Durable.{are_recorded_changes, changes_in, changes_of, is_decided, is_new_in, recorded_or_new, with_part, with_recorded}
use Rattle.txf_tree.specs.TreeState.{TreeState, tree_of}
use Rattle.ktm_replayed.specs.Replayed.{ReplayedState}
use Rattle.ktm_waiting.specs.Table.{with_one_part}
use Rattle.ktm_waiting.specs.Totals.{PassImages}
use Rattle.ktm_waiting.specs.Waiting.{AreHeld}
use Rattle.ktm_waiting.proofs.offered.Keeping.{may-ready, part-kept}
use Rattle.ktm_waiting.proofs.offered.Limits.{images-passed}
use Rattle.ktm_waiting.proofs.offered.Reserving.{HoldsPart, held-as, held-part, part-changes_apply, part-first, part-idle, part-new, part-recorded}
use Rattle.ktm_replayed.proofs.replayed.Replayed.add_part.Goals as goal

pub hold_changes-requires-clause-recorded : goal.hold_changes-requires-clause-recorded
hold_changes-requires-clause-recorded c some =
    ap are_recorded_changes c.changes_in.ensures ∙ part-recorded c.args.self.now.state c.args.transaction c.args.part c.requires.applies (ap has_changes (sym c.changes_in.ensures) ∙ some)

pub hold_changes-requires-clause-apply : goal.hold_changes-requires-clause-apply
hold_changes-requires-clause-apply c =
    ap (changes_apply (tree_of c.self.inside.files.tree)) c.changes_in.ensures ∙ ap (λ (r : ReplayedState). changes_apply r.state.tree (changes_in c.args.part)) c.self.view_is
    ∙ part-changes_apply c.args.self.now.state c.args.transaction c.args.part c.requires.applies

pub hold_changes-requires-clause-none : goal.hold_changes-requires-clause-none
hold_changes-requires-clause-none c some =
    let w = c.self.inside.waiting in
    let held = subst (λ (r : ReplayedState). AreHeld w r.state.tree r.state.transactions) c.self.view_is c.self.invariant in
    part-idle w c.args.self.now.state c.args.transaction c.args.part held c.requires.applies (ap has_changes (sym c.changes_in.ensures) ∙ some)

pub give_numbers-requires : goal.give_numbers-requires
give_numbers-requires c =
    ap (changes_apply (tree_of c.self.inside.files.tree)) c.changes_in-2.ensures ∙ ap (λ (r : ReplayedState). changes_apply r.state.tree (changes_in c.args.part)) c.self.view_is
    ∙ part-changes_apply c.args.self.now.state c.args.transaction c.args.part c.requires.applies

pub invariant_of-self : goal.invariant_of-self
invariant_of-self c =
    held-as c.self.inside.waiting c.hold_changes.new.waiting (tree_of c.self.inside.files.tree) c.self.inside.transactions.transactions c.self.invariant c.in_err-hold_changes.ensures.err

pub add_part-requires-clause-waits : goal.add_part-requires-clause-waits
add_part-requires-clause-waits c =
    subst (λ (r : ReplayedState). is_decided (recorded_or_new r.state.transactions c.args.transaction).stage ≡ false) (sym c.self.view_is) (may-ready c.args.self.now.state c.args.transaction c.requires.ready)

pub add_part-requires-clause-form : goal.add_part-requires-clause-form
add_part-requires-clause-form c = part-recorded c.args.self.now.state c.args.transaction c.args.part c.requires.applies

pub add_part-requires-clause-apply : goal.add_part-requires-clause-apply
add_part-requires-clause-apply c =
    ap (λ (t : TreeState). changes_apply (tree_of t) (changes_in c.args.part)) c.give_numbers.ensures.tree ∙ ap (λ (r : ReplayedState). changes_apply r.state.tree (changes_in c.args.part)) c.self.view_is
    ∙ part-changes_apply c.args.self.now.state c.args.transaction c.args.part c.requires.applies

pub add_part-requires-clause-new : goal.add_part-requires-clause-new
add_part-requires-clause-new c =
    ap (λ (t : TreeState). list_all (is_new_in (tree_of t)) (changes_in c.args.part)) c.give_numbers.ensures.tree ∙ ap (λ (r : ReplayedState). list_all (is_new_in r.state.tree) (changes_in c.args.part)) c.self.view_is
    ∙ part-new c.args.self.now.state c.args.transaction c.args.part c.requires.applies

pub add_part-requires-clause-first : goal.add_part-requires-clause-first
add_part-requires-clause-first c =
    subst (λ (r : ReplayedState). has_changes (changes_in c.args.part) ≡ true → changes_of (recorded_or_new r.state.transactions c.args.transaction) ≡ []) (sym c.self.view_is)
    (part-first c.args.self.now.state c.args.transaction c.args.part c.requires.applies)

pub invariant_of-self-in-Ok-true : goal.invariant_of-self-in-Ok-true
invariant_of-self-in-Ok-true c =
    let s = c.args.self.now.state in
    let w = c.self.inside.waiting in
    let w' = c.hold_changes.new.waiting in
    let tree = tree_of c.self.inside.files.tree in
    let id = c.args.transaction in
    let part = c.args.part in
    let held = subst (λ (r : ReplayedState). AreHeld w r.state.tree r.state.transactions) c.self.view_is c.self.invariant in
    let holds = subst (λ (r : ReplayedState). HoldsPart w w' r.state.tree id (changes_in part)) c.self.view_is (subst (HoldsPart w w' tree id) c.changes_in.ensures c.in_ok-hold_changes.ensures.ok) in
    subst (λ (t : TreeState). AreHeld w' (tree_of t) c.add_part.new.self.transactions) (sym c.give_numbers.ensures.tree)
    (subst (AreHeld w' tree) (sym (c.in-Ok-true.ensures.added (ap Ok c.in-Ok-true.field-0-test)))
    (subst (λ (r : ReplayedState). AreHeld w' r.state.tree (with_recorded r.state.transactions (with_one_part (recorded_or_new r.state.transactions id) part))) (sym c.self.view_is)
    (held-part w w' s id held c.requires.ready part c.requires.applies holds)))

pub returns-in-Ok-false-clause-refused : goal.returns-in-Ok-false-clause-refused
returns-in-Ok-false-clause-refused c _ =
    let s = c.args.self.now.state in
    let id = c.args.transaction in
    let part = c.args.part in
    let held = subst (λ (r : ReplayedState). AreHeld c.self.inside.waiting r.state.tree r.state.transactions) c.self.view_is c.self.invariant in
    let past = subst (λ (r : ReplayedState). PassImages (with_recorded r.state.transactions (with_one_part (recorded_or_new r.state.transactions id) part))) c.self.view_is (c.in-Ok-false.ensures.refused (ap Ok c.in-Ok-false.field-0-test)) in
    images-passed (with_part s id part) (λ t there. ((part-kept s id held.kept c.requires.ready part c.requires.applies).each t there).apply) past c.law_of_units.ensures
