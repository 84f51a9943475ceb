use Rattle.std.proofs.Common.{◌≡◌, false, Ok, sym, ap, subst}
use Rattle.ktm_world.specs.Durable.{hold_recorded, is_decided, recorded_or_new, with_recorded}
use Rattle.txf_tree.specs.TreeState.{tree_of}
use Rattle.ktm_replayed.specs.Replayed.{ReplayedState}
use Rattle.ktm_waiting.specs.Table.{held_for}
use Rattle.ktm_waiting.specs.Totals.{PassImages}
use Rattle.ktm_waiting.specs.Waiting.{AreHeld}
use Rattle.ktm_waiting.proofs.offered.Keeping.{hold-kept, may-ready}
use Rattle.ktm_waiting.proofs.offered.Limits.{images-passed}
use Rattle.ktm_waiting.proofs.offered.Reserving.{held-superior}
use Rattle.ktm_replayed.proofs.replayed.Replayed.add_superior.Goals as goal

pub hold-requires : goal.hold-requires
hold-requires c =
    subst (λ (r : ReplayedState). is_decided (recorded_or_new r.state.transactions c.args.transaction).stage ≡ false) (sym c.self.view_is) (may-ready c.args.self.now.state c.args.transaction c.requires)

pub invariant_of-self : goal.invariant_of-self
invariant_of-self c =
    let tree = tree_of c.self.inside.files.tree in
    let id = c.args.transaction in
    let waits = subst (λ (r : ReplayedState). is_decided (recorded_or_new r.state.transactions id).stage ≡ false) (sym c.self.view_is) (may-ready c.args.self.now.state id c.requires) in
    subst (AreHeld c.self.inside.waiting tree) (sym (c.in-Ok-true.ensures.held (ap Ok c.in-Ok-true.field-0-test))) (held-superior c.self.inside.waiting tree c.self.inside.transactions.transactions c.self.invariant id c.args.superior waits)

pub returns-in-Ok-false-clause-refused : goal.returns-in-Ok-false-clause-refused
returns-in-Ok-false-clause-refused c _ =
    let s = c.args.self.now.state in
    let id = c.args.transaction in
    let held = subst (λ (r : ReplayedState). AreHeld c.self.inside.waiting r.state.tree r.state.transactions) c.self.view_is c.self.invariant in
    let past = subst (λ (r : ReplayedState). PassImages (with_recorded r.state.transactions (held_for (recorded_or_new r.state.transactions id) c.args.superior))) c.self.view_is (c.in-Ok-false.ensures.refused (ap Ok c.in-Ok-false.field-0-test)) in
    images-passed (hold_recorded s id c.args.superior) (λ t there. ((hold-kept s.tree s.transactions id held.kept (may-ready s id c.requires) c.args.superior).each t there).apply) past c.law_of_units.ensures
