use Rattle.std.proofs.Common.{◌≡◌, ◌∙◌, ◌-◌, [], ◌∷◌, List, ap, arith, drop, sym}
use Rattle.std.specs.List.{flat_map}
use Rattle.ktm_world.specs.Durable.{Recorded}
use Rattle.ktm_world.specs.Enlistments.{Enlistment}
use Rattle.ktm_back.specs.Coming.{enlistments_coming, with_all}
use Rattle.ktm_back.proofs.Coming.{coming-each, with-before, with-none}
use Rattle.ktm_back.proofs.enlistments.enlistments_back.Goals as goal

pub loop-i-preserved : goal.loop-i-preserved
loop-i-preserved c =
    let t = c.index-transactions-i.result in
    c.in_ok-put_if_back.ensures ∙ ap (λ es. with_all es (enlistments_coming (t ∷ []))) c.loop-i.invariant
    ∙ with-before (λ (u : Recorded). enlistments_coming (u ∷ [])) [] c.args.transactions.now (c.loop-i.i - 1) c.loop-i.i t (omega arith) c.index-transactions-i.is (omega arith)

pub returns : goal.returns
returns c =
    let ts = c.args.transactions.now in
    let done : c.loop-i.i ≡ 0 = omega arith in
    c.loop-i.invariant ∙ ap (λ i. with_all [] (flat_map (λ (t : Recorded). enlistments_coming (t ∷ [])) (drop i ts))) done
    ∙ ap (λ (es : List Enlistment). with_all [] es) (sym (coming-each ts)) ∙ with-none (enlistments_coming ts)
