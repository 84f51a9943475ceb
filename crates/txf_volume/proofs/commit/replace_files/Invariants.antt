use Rattle.std.proofs.Common.{◌≡◌, ◌+◌, length}
use Rattle.std.specs.List.{flat_map}
use Rattle.txf_overlay.specs.OverlayState.{final_of}
use Rattle.txf_volume.specs.Making.{Parts, parts, AreMade, CanReplace}
use Rattle.txf_volume.proofs.commit.replace_files.Given as goal

-- the files that are left can have their bytes, and then all have
abbrev pub invariant-loop-file : goal.invariant-loop-file
invariant-loop-file g l = record {
  can : CanReplace (parts l.tree l.versions l.units) l.overlay.written;
  all : (q : Parts) → AreMade (parts l.tree l.versions l.units) q (flat_map final_of l.overlay.written) → AreMade (parts l.initial.tree l.initial.versions l.initial.units) q (flat_map final_of l.fn.overlay.written);
  counted : l.steps + length (flat_map final_of l.overlay.written) ≡ l.initial.steps + length (flat_map final_of l.fn.overlay.written);
}

abbrev pub decreases-loop-file : goal.decreases-loop-file
decreases-loop-file g l = length l.overlay.written
