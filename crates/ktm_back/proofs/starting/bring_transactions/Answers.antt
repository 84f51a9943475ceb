use Rattle.std.proofs.Common.{◌≡◌, ◌∙◌, ◌+◌, ◌++◌, ◌∷◌, List, ap, drop, filter, map, refl, sym}
use Rattle.ktm_world.specs.declared.object.Transaction.{Transaction}
use Rattle.ktm_world.specs.Durable.{Recorded, is_before}
use Rattle.ktm_world.specs.World.{is_brought_back, transaction_back}
use Rattle.txf_laws.proofs.offered.Elements.{each_pair-filter}
use Rattle.ktm_courses.proofs.offered.Views.{each_pair-map}
use Rattle.ktm_back.proofs.Behind.{behind, left-from}
use Rattle.ktm_back.proofs.starting.bring_transactions.Goals as goal

pub bring_if_back-requires-clause-behind : goal.bring_if_back-requires-clause-behind
bring_if_back-requires-clause-behind c = λ is.
    let ts = c.args.transactions.now in
    let there = (c.loop-t.tm.now).items in
    let i = c.loop-t.t-index in
    let t = c.t-item.result in
    let left : map transaction_back (filter is_brought_back (drop i ts)) ≡ transaction_back t ∷ map transaction_back (filter is_brought_back (drop (i + 1) ts)) =
    ap (λ (us : List Recorded). map transaction_back (filter is_brought_back us)) (left-from ts i t t c.loop-t-test.true c.t-item.is) ∙ rw is refl in
    behind (λ (u : Transaction). u.id) (map transaction_back (filter is_brought_back ts)) there (map transaction_back (filter is_brought_back (drop (i + 1) ts))) (transaction_back t)
    (each_pair-map (λ (u v : Transaction). is_before u.id v.id) (λ (u v : Recorded). is_before u.id v.id) transaction_back (λ u v. refl) (filter is_brought_back ts)
    ∙ each_pair-filter (λ (u v : Recorded). is_before u.id v.id) is_brought_back ts c.requires.rise)
    (ap (λ (l : List Transaction). there ++ l) (sym left) ∙ c.loop-t.invariant.items)
