use Rattle.std.proofs.Common.{◌+◌, ℕ, List, ◌∙◌, ap, drop, length, subst, sum_by, sym}
use Rattle.std.proofs.lemmas.List.{drop_all}
use Rattle.ktm_store.proofs.offered.HoldingContents.{HoldsUpTo, all-left, upto-begin, upto-below, upto-end, upto-next}
use Rattle.ktm_store.specs.Holding.{HoldsContents}
use Rattle.ktm_store.specs.Store.{AreBelow}
use Rattle.ktm_world.specs.Tree.{units_of}
use Rattle.txf_volume.specs.Held.{OwnHeld}
use Rattle.txf_volume.specs.Pages.{all_written, written_contents}
use Rattle.txf_volume.proofs.Walked.{all-units, written-next, written-units}
use Rattle.txf_volume.proofs.own.Overlays.hold_pages.Goals as goal

pub loop-own-init : goal.loop-own-init
loop-own-init c =
    let all = all_written c.args.self.now in
    subst (λ (os : List OwnHeld). HoldsUpTo all (all_written os) (sum_by units_of all) c.args.store.now c.args.store.now) (sym (c.deref-own-items.ensures.value ∙ c.self.view_is))
    (upto-begin all c.args.store.now)

pub hold_written-requires : goal.hold_written-requires
hold_written-requires c =
    let os = c.deref-own-items.result.now in
    let first = written_contents c.own.inside.overlay.written in
    let rest = all_written (drop (c.loop-own.own-index + 1) os) in
    let next = written-next os c.loop-own.own-index c.own-item.result c.own.inside.overlay c.loop-own-test.true c.own-item.is (ap (λ (o : OwnHeld). o.overlay) c.own.view_is) in
    all-left (AreBelow (length c.loop-own.store.marks.held)) first rest (upto-below _ _ _ _ _ (rw next at c.loop-own.invariant) c.requires)

pub loop-own-preserved : goal.loop-own-preserved
loop-own-preserved c =
    let os = c.deref-own-items.result.now in
    let first = written_contents c.own.inside.overlay.written in
    let next = written-next os c.loop-own.own-index c.own-item.result c.own.inside.overlay c.loop-own-test.true c.own-item.is (ap (λ (o : OwnHeld). o.overlay) c.own.view_is) in
    let more = subst (λ (n : ℕ). HoldsContents first n c.loop-own.store c.hold_written.new.store) (sym (written-units c.own.inside.overlay.written)) c.hold_written.ensures in
    upto-next _ _ _ _ _ first c.hold_written.new.store (rw next at c.loop-own.invariant) more

pub returns : goal.returns
returns c =
    let all = all_written c.args.self.now in
    let none = drop_all c.loop-own.own-index c.deref-own-items.result.now c.loop-own-test.false in
    subst (λ n. HoldsContents all n c.args.store.now c.loop-own.store) (all-units c.args.self.now) (upto-end all _ _ _ (rw none at c.loop-own.invariant))
