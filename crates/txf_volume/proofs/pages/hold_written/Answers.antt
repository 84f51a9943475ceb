use Rattle.std.proofs.Common.{◌≡◌, ◌+◌, List, ◌∙◌, ap, subst, sum_by, sym}
use Rattle.std.specs.Option.{option_copied}
use Rattle.ktm_store.proofs.offered.HoldingContents.{HoldsUpTo, below-one, upto-begin, upto-end, upto-one}
use Rattle.ktm_store.specs.Holding.{HoldsContents}
use Rattle.ktm_world.specs.Tree.{units_of}
use Rattle.txf_overlay.specs.OverlayState.{Written}
use Rattle.txf_overlay.specs.Written.{first_from}
use Rattle.txf_volume.specs.Pages.{written_contents}
use Rattle.txf_volume.proofs.Walked.{fewer-left, left-all, left-from, written-units}
use Rattle.txf_volume.proofs.pages.hold_written.Goals as goal
use Rattle.txf_volume.proofs.pages.hold_written.Goals.{After-written_behind-next}

-- the one behind is the first from the next number on
behind : (c : After-written_behind-next) → option_copied c.written_behind-next.result ≡ first_from c.args.overlay.now.written (c.in-Some.written.now.file + 1)
behind c = c.written_behind-next.ensures ∙ ap (λ n. first_from c.args.overlay.now.written (n + 1)) c.file.ensures

pub files-init : goal.files-init
files-init c =
    rw (left-all c.args.overlay.now.written (option_copied c.written_from-next.result) c.law_of_files.ensures.rise c.written_from-next.ensures)
    (upto-begin (written_contents c.args.overlay.now.written) c.args.store.now)

pub hold-requires : goal.hold-requires
hold-requires c = rw c.bytes.ensures (below-one _ _ _ _ _ _ (rw c.in-Some.is at c.files.invariant) c.requires)

pub files-smaller : goal.files-smaller
files-smaller c =
    fewer-left c.args.overlay.now.written (option_copied c.files.next) (option_copied c.written_behind-next.result) c.in-Some.written.now c.law_of_files.ensures.rise
    (ap option_copied c.in-Some.is) (behind c)

pub files-preserved : goal.files-preserved
files-preserved c =
    let ws = c.args.overlay.now.written in
    let all = written_contents ws in
    subst (λ (left : List Written). HoldsUpTo all (written_contents left) (sum_by units_of all) c.args.store.now c.hold.new.self)
    (sym (left-from ws (c.in-Some.written.now.file + 1) (option_copied c.written_behind-next.result) c.law_of_files.ensures.rise (behind c)))
    (upto-one _ _ _ _ _ _ (rw c.in-Some.is at c.files.invariant) _ (rw c.bytes.ensures at c.hold.ensures))

pub returns : goal.returns
returns c =
    let all = written_contents c.args.overlay.now.written in
    subst (λ n. HoldsContents all n c.args.store.now c.files.store) (written-units c.args.overlay.now.written) (upto-end all _ _ _ (rw c.in_default.is at c.files.invariant))
