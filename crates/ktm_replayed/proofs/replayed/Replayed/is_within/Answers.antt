use Rattle.std.proofs.Common.{◌≡◌, ◌∙◌, true, false, refl, sym, ap}
use Rattle.txf_tree.specs.TreeState.{tree_of}
use Rattle.ktm_replayed.specs.Replayed.{ReplayedState}
use Rattle.ktm_waiting.specs.declared.amounts.Amounts.{Amounts}
use Rattle.ktm_waiting.specs.Waiting.{committed, fits_in, limits, minus, total}
use Rattle.ktm_waiting.proofs.offered.Limits.{rest-fits, too-many, too-much}
use Rattle.ktm_replayed.proofs.Within.{within_alone}
use Rattle.ktm_replayed.proofs.replayed.Replayed.is_within.Goals as goal

pub returns-in_default : goal.returns-in_default
returns-in_default c =
    let s = c.args.self.now.state in
    let room = c.limits.ensures ∙ ap (λ (r : ReplayedState). limits r.state.units) c.self.view_is in
    let past : fits_in (committed s.tree s.keys) (limits s.units) ≡ false = (λ i. fits_in (sym c.committed.ensures i) (sym room i)) ∙ c.in_default.ensures.none in
    sym (too-much s past)

pub returns-else-are_few : goal.returns-else-are_few
returns-else-are_few c = c.if-are_few.false ∙ sym (too-many c.args.self.now.state (sym c.if-are_few.ensures))

pub returns-then-are_few : goal.returns-then-are_few
returns-then-are_few c =
    let s = c.args.self.now.state in
    let tree = tree_of c.self.inside.files.tree in
    let room = c.limits.ensures ∙ ap (λ (r : ReplayedState). limits r.state.units) c.self.view_is in
    let fits : fits_in (committed s.tree s.keys) (limits s.units) ≡ true = (λ i. fits_in (sym c.committed.ensures i) (sym room i)) ∙ c.in-Some.ensures.some.0 in
    let left : c.in-Some.room ≡ minus (limits s.units) (committed s.tree s.keys) = c.in-Some.ensures.some.1 ∙ (λ i. minus (room i) (c.committed.ensures i)) in
    c.fits_in.ensures
    ∙ ap (λ (a : Amounts). fits_in a c.in-Some.room) (c.taken.ensures tree (λ t there. (c.self.invariant.kept.each t there).apply))
    ∙ ap (λ (r : ReplayedState). fits_in (total r.state.tree r.state.transactions) c.in-Some.room) c.self.view_is
    ∙ rest-fits s c.in-Some.room fits left (sym c.if-are_few.ensures)

pub returns-then-has_no_transactions : goal.returns-then-has_no_transactions
returns-then-has_no_transactions c = c.is_committed_within.ensures ∙ sym (within_alone c.args.self.now.state (c.if-has_no_transactions.ensures refl))
