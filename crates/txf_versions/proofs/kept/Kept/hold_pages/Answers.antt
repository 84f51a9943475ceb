use Rattle.std.proofs.Common.{◌≡◌, List, sym, ◌∙◌, ap, subst, sum_by}
use Rattle.ktm_content.specs.Contents.{units_of}
use Rattle.ktm_store.specs.Holding.{HoldsContents}
use Rattle.ktm_store.proofs.offered.HoldingContents.{HoldsUpTo, below-one, upto-begin, upto-end, upto-one}
use Rattle.txf_versions.specs.Parts.{KeptState, older_of}
use Rattle.txf_versions.specs.VersionsState.{older_contents}
use Rattle.txf_versions.specs.declared.kept.Older.{Older}
use Rattle.txf_versions.proofs.Walked.{all_entries, older-sum}
use Rattle.txf_versions.proofs.kept.Kept.hold_pages.Goals as goal

pub pages-init : goal.pages-init
pages-init c =
    let all = older_contents c.args.self.now.older in
    let left : older_of c.walk_from-left.result ≡ c.args.self.now.older =
    ap older_of (c.walk_from-left.ensures.entries ∙ all_entries c.self.inside.map.entries) ∙ ap (λ (s : KeptState). s.older) c.self.view_is in
    subst (λ (older : List Older). HoldsUpTo all (older_contents older) (sum_by units_of all) c.args.store.now c.args.store.now) (sym left) (upto-begin all c.args.store.now)

pub hold-requires : goal.hold-requires
hold-requires c = rw c.lend.ensures (below-one _ _ _ _ _ _ (rw c.in-Some.ensures.first at c.pages.invariant) c.requires)

pub pages-preserved : goal.pages-preserved
pages-preserved c = upto-one _ _ _ _ _ _ (rw c.in-Some.ensures.first at c.pages.invariant) _ (rw c.lend.ensures at c.hold.ensures)

pub returns : goal.returns
returns c =
    let all = older_contents c.args.self.now.older in
    subst (λ n. HoldsContents all n c.args.store.now c.pages.store) (older-sum c.args.self.now.older) (upto-end all _ _ _ (rw c.in_default.ensures.none at c.pages.invariant))
