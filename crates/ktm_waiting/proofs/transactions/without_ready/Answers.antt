use Rattle.std.proofs.Common.{◌+◌, ◌∷◌, ◌∙◌, List, drop, sym, ap, subst, arith}
use Rattle.std.proofs.lemmas.List.{at_drop_more, drop_all}
use Rattle.ktm_world.specs.Durable.{Recorded, is_ready}
use Rattle.txf_tree.specs.TreeState.{tree_of}
use Rattle.ktm_waiting.specs.declared.amounts.Amounts.{Amounts}
use Rattle.ktm_waiting.proofs.Fitting.{item-in}
use Rattle.ktm_waiting.proofs.Together.{IsLeft, left-first, left-last, left-next}
use Rattle.ktm_waiting.proofs.transactions.without_ready.Goals as goal

pub loop-t-init : goal.loop-t-init
loop-t-init c = left-first (λ t. is_ready t.stage) c.args.taken c.args.transactions.now c.requires.taken

pub amounts_if_ready-requires : goal.amounts_if_ready-requires
amounts_if_ready-requires c = c.requires.kept c.t-item.result (item-in c.args.transactions.now c.loop-t.t-index c.t-item.result c.loop-t-test.true c.t-item.is)

pub minus-left-requires : goal.minus-left-requires
minus-left-requires c =
    let ts = c.args.transactions.now in
    let i = c.loop-t.t-index in
    let t = c.t-item.result in
    let here = subst (IsLeft (λ u. is_ready u.stage) c.loop-t.left ts) (at_drop_more (λ (us : List Recorded). us) ts i t c.loop-t-test.true ∙ ap (λ u. u ∷ drop (i + 1) ts) (sym c.t-item.is)) c.loop-t.invariant in
    let apply = (c.requires.kept t (item-in ts i t c.loop-t-test.true c.t-item.is)).apply in
    (left-next (λ u. is_ready u.stage) c.loop-t.left c.amounts_if_ready.result (tree_of c.args.files.now.tree) ts (drop (i + 1) ts) t here apply c.amounts_if_ready.ensures.ready c.amounts_if_ready.ensures.other).0

pub loop-t-preserved : goal.loop-t-preserved
loop-t-preserved c =
    let ts = c.args.transactions.now in
    let i = c.loop-t.t-index in
    let t = c.t-item.result in
    let here = subst (IsLeft (λ u. is_ready u.stage) c.loop-t.left ts) (at_drop_more (λ (us : List Recorded). us) ts i t c.loop-t-test.true ∙ ap (λ u. u ∷ drop (i + 1) ts) (sym c.t-item.is)) c.loop-t.invariant in
    let apply = (c.requires.kept t (item-in ts i t c.loop-t-test.true c.t-item.is)).apply in
    subst (λ (a : Amounts). IsLeft (λ u. is_ready u.stage) a ts (drop (i + 1) ts)) (sym c.minus-left.ensures)
    (left-next (λ u. is_ready u.stage) c.loop-t.left c.amounts_if_ready.result (tree_of c.args.files.now.tree) ts (drop (i + 1) ts) t here apply c.amounts_if_ready.ensures.ready c.amounts_if_ready.ensures.other).1

pub returns : goal.returns
returns c =
    let ts = c.args.transactions.now in
    left-last (λ t. is_ready t.stage) c.loop-t.left ts (subst (IsLeft (λ t. is_ready t.stage) c.loop-t.left ts) (drop_all c.loop-t.t-index ts (omega arith)) c.loop-t.invariant)
