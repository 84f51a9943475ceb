use Rattle.std.proofs.Common.{◌≡◌, List, Option, Some, None, All, Bor, IfSome, sym, subst}
use Rattle.std.specs.Option.{option_copied}
use Rattle.ktm_base.specs.declared.id.Id.{Id}
use Rattle.ktm_world.specs.Tree.{Tree}
use Rattle.txf_overlay.specs.OverlayState.{OverlayState}
use Rattle.txf_tree.specs.TreeState.{tree_of}
use Rattle.txf_volume.specs.Held.{FilesHeld, OwnHeld, overlay_in}
use Rattle.txf_volume.specs.Ties.{IsOver}
use Rattle.txf_volume.proofs.Seen.{over-in}
use Rattle.txf_volume.proofs.files.Files.overlay.Goals as goal

if_some : (tree : Tree) (overlays : List OwnHeld) (id : Id) → All (λ own. IsOver tree own.overlay) overlays → (found : Option (Bor OverlayState)) → option_copied found ≡ overlay_in overlays id
    → IfSome found (λ overlay. IsOver tree overlay.now)
if_some tree overlays id all None is = tt
if_some tree overlays id all (Some overlay) is = over-in tree overlays id overlay.now all (sym is)

pub returns-clause-over : goal.returns-clause-over
returns-clause-over c =
    subst (λ (h : FilesHeld). IfSome c.of.result (λ overlay. IsOver (tree_of h.tree) overlay.now)) c.self.view_is
    (if_some _ _ c.args.transaction c.self.invariant.over c.of.result c.of.ensures)
