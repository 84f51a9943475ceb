use Rattle.std.proofs.Common.{◌≡◌, ◌+◌, ◌∷◌, [], ◌++◌, not, List, sym, ◌∙◌, ap, subst, take, drop, arith}
use Rattle.std.proofs.lemmas.Bool.{and_parts}
use Rattle.std.proofs.lemmas.List.{drop_more, take_more}
use Rattle.ktm_world.specs.declared.change.Change.{Change}
use Rattle.ktm_world.specs.Changes.{applies, changed, changed_all, changes_apply, changes_bytes}
use Rattle.txf_laws.proofs.offered.NormalForms.{changed_all-append}
use Rattle.txf_overlay.specs.OverlayState.{seen}
use Rattle.txf_tree.specs.TreeState.{tree_of}
use Rattle.txf_durable.specs.Recorded.{are_names}
use Rattle.txf_durable.specs.Waiting.{HoldsChanges}
use Rattle.txf_durable.proofs.HeldMore.{holds-next}
use Rattle.txf_durable.proofs.waiting.hold_over.Goals as goal

pub loop-change-preserved : goal.loop-change-preserved
loop-change-preserved c =
    let tree = tree_of c.args.tree.now in
    let names = c.args.names.now in
    let i = c.loop-change.change-index in
    let change = c.change-item.result in
    let before = seen tree c.loop-change.overlay in
    let was = c.loop-change.invariant in
    let laid = c.in_ok-lay.ensures in
    let later = drop (i + 1) names in
    let took : take (i + 1) names ≡ take i names ++ change ∷ [] = take_more names i change c.loop-change-test.true ∙ ap (λ x. take i names ++ x ∷ []) (sym c.change-item.is) in
    let step : drop i names ≡ change ∷ later = drop_more names i change c.loop-change-test.true ∙ ap (λ x. x ∷ later) (sym c.change-item.is) in
    let next : seen tree c.lay.new.overlay ≡ changed before change = ap (changed_all tree) laid.names ∙ changed_all-append tree c.loop-change.overlay.names (change ∷ []) in
    let held = subst (λ (ns : List Change). HoldsChanges (changed_all tree ns) (change ∷ []) c.args.transaction c.loop-change.reserve c.hold_change.new.reserve) was.names c.hold_change.ensures.holds in
    record {
      stands = laid.stands;
      names = laid.names ∙ ap (λ ns. ns ++ change ∷ []) was.names ∙ sym took;
      apply = ap (λ t. changes_apply t later) next ∙ (and_parts (applies before change) (changes_apply (changed before change) later) (sym (ap (changes_apply before) step) ∙ was.apply)).1;
      are = (and_parts (not (changes_bytes change)) (are_names later) (sym (ap are_names step) ∙ was.are)).1;
      room = omega (arith, was.room, laid.spare);
      spare = omega (arith, was.spare, c.hold_change.ensures.spare);
      holds =
          subst (λ (ns : List Change). HoldsChanges tree ns c.args.transaction c.args.reserve.now c.hold_change.new.reserve) (sym took)
          (holds-next tree (take i names) (change ∷ []) c.args.transaction c.args.reserve.now c.loop-change.reserve c.hold_change.new.reserve was.holds held);
    }
