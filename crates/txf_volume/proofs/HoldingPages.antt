-- The pages of all contents in memory are held, part by part.
use Rattle.std.proofs.Common.{◌≡◌, ◌+◌, ◌*◌, ◌≤◌, ◌++◌, ℕ, List, length, sum_by, All, subst, sym, arith}
use Rattle.ktm_each.specs.Each.{EachOfFiles}
use Rattle.ktm_store.specs.Holding.{AreAllBelow, HoldsContents}
use Rattle.ktm_store.specs.Store.{AreBelow, IsHeldAt, StoreOf}
use Rattle.ktm_store.proofs.offered.HoldingContents.{all-left, all-right, below-among, holds-among, holds-both}
use Rattle.ktm_world.specs.FileUses.{units_used}
use Rattle.txf_laws.specs.Elements.{IsIn}
use Rattle.txf_laws.proofs.offered.CommitsOfOthers.{All-in}
use Rattle.txf_overlay.specs.Laws.{IsOwn}
use Rattle.txf_tree.specs.TreeState.{tree_of}
use Rattle.txf_versions.specs.VersionsState.{AreHeld, older_contents, older_units}
use Rattle.txf_volume.specs.declared.counts.Counts.{Counts}
use Rattle.txf_volume.specs.Held.{FilesHeld, OwnHeld, files_of, tree_units}
use Rattle.txf_volume.specs.Pages.{all_written, named_contents, tree_contents}
use Rattle.txf_volume.specs.Ties.{AreTied, IsOver, units_held}
use Rattle.txf_volume.proofs.EachNamed.{all-files, files-all}
use Rattle.txf_volume.proofs.Named.{held-among, held_contents, named-among}
use Rattle.txf_volume.proofs.Steady.{units-now}

module _ (h : FilesHeld) (units : ℕ) (counts : Counts) (tied : AreTied h units counts) (held : AreHeld h.versions.opens h.versions.older) {B : Type 0} (old : StoreOf B)
    (below : EachOfFiles (λ file index place. place ≤ length old.marks.held * 4096) (files_of h)) where
  owns : (o : OwnHeld) → IsIn o h.overlays → IsOwn o.overlay
  owns o there = (All-in (λ (o : OwnHeld). IsOver (tree_of h.tree) o.overlay) h.overlays tied.over o there).own

  abbrev trees : List (List ℕ)
  trees = tree_contents (tree_of h.tree)

  abbrev older : List (List ℕ)
  older = older_contents h.versions.older

  abbrev written : List (List ℕ)
  written = all_written h.overlays

  all-below : AreAllBelow old (trees ++ (older ++ written))
  all-below =
      below-among old (held_contents h) (named_contents (files_of h)) (held-among h held owns) (files-all (λ (place : ℕ). place ≤ length old.marks.held * 4096) (files_of h) below)

  -- ---- the places of each part are on pages that there are

  pub trees-below : AreAllBelow old trees
  trees-below = all-left (AreBelow (length old.marks.held)) trees (older ++ written) all-below

  others-below : AreAllBelow old (older ++ written)
  others-below = all-right (AreBelow (length old.marks.held)) trees (older ++ written) all-below

  module _ (first : StoreOf B) (one : HoldsContents trees (tree_units (tree_of h.tree)) old first) where
    pub older-below : AreAllBelow first older
    older-below = subst (λ (n : ℕ). All (AreBelow n) older) (sym one.count) (all-left (AreBelow (length old.marks.held)) older written others-below)

    module _ (second : StoreOf B) (two : HoldsContents older (older_units h.versions.older) first second) where
      pub written-below : AreAllBelow second written
      written-below =
          subst (λ (n : ℕ). All (AreBelow n) written) (sym two.count)
          (subst (λ (n : ℕ). All (AreBelow n) written) (sym one.count) (all-right (AreBelow (length old.marks.held)) older written others-below))

      -- ---- all of them

      module _ (new : StoreOf B) (three : HoldsContents written (sum_by units_held h.overlays) second new) where
        pub all-held : HoldsContents (named_contents (files_of h)) (units_used (files_of h)) old new
        all-held =
            let m = tree_units (tree_of h.tree) in
            let n = older_units h.versions.older in
            let k = sum_by units_held h.overlays in
            let parts : HoldsContents (held_contents h) (m + (n + k)) old new = holds-both trees (older ++ written) m (n + k) old first new one (holds-both older written n k first second new two three) in
            let used = units-now h units counts tied held in
            let many : m + (n + k) ≡ units_used (files_of h) = omega (arith, used, tied.sum, tied.counted.units) in
            subst (λ (pages : ℕ). HoldsContents (named_contents (files_of h)) pages old new) many
            (holds-among (held_contents h) (named_contents (files_of h)) (m + (n + k)) old new (held-among h held owns) (named-among h held owns) parts)

        pub places-held : EachOfFiles (λ file index place. IsHeldAt new.marks place) (files_of h)
        places-held = all-files (IsHeldAt new.marks) (files_of h) all-held.held
